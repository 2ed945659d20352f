-- The rules on lifts. Each row is sound.
use Rattle.std.proofs.Common.{codes, refl}
use Rattle.vir_term.specs.declared.prop.Prop.TheVariants.{Dli, Imono, Dimono, Dmono, Mono}
use Rattle.vir_term.specs.Tree.{exactly, at_most}
use Rattle.vir_mean.specs.Meaning.{mean}
use Rattle.vir_mean.proofs.MeaningLaws.{mean-split}
use Rattle.vir_rules.specs.declared.row.Family.TheVariants.{ElectingSome, Unscored, Leading, Eliminating}
use Rattle.vir_rules.specs.Premises.{row_of}
use Rattle.vir_rules.specs.Table.{table}
use Rattle.vir_sound.specs.Truth.{IsSound}
use Rattle.vir_sound.proofs.LiftLeaves.{dimono_leaf, dli_leaf, dmono_leaf, imono_leaf}
use Rattle.vir_sound.proofs.LiftLoops.{dli_loop}
use Rattle.vir_sound.proofs.LiftParallels.{dli_par, dmono_par, mono_par}
use Rattle.vir_sound.proofs.LiftRevisions.{dimono_dli, dimono_rev, dmono_dimono, dmono_dli, dmono_rev, mono_ea}
use Rattle.vir_sound.proofs.LiftRevisions.{mono_imono, mono_ne}
use Rattle.vir_sound.proofs.LiftSequences.{dli_seq_both, dli_seq_one, mono_seq_defers, mono_seq_ea}
use Rattle.vir_sound.proofs.Shapes.{by_any, by_loop, by_until, by_module, by_par, by_rev, by_seq}
use Rattle.vir_sound.proofs.SoundRows.{◌&◌, AllSound, rows_from}

pub dli_leaf_sound : IsSound 37 (codes "dli-leaf")
unfolding row_of table
dli_leaf_sound = record { named = refl; sound = by_module Dli (row_of 37) Unscored refl (λ l proper. dli_leaf l) }

pub dli_seq_both_sound : IsSound 38 (codes "dli-seq-both")
unfolding row_of table
dli_seq_both_sound =
    record {
      named = refl;
      sound = by_seq Dli (row_of 38) refl (λ m n. dli_seq_both (mean m) (mean n) (mean-split m)
          (mean-split n));
    }

pub dli_seq_one_sound : IsSound 39 (codes "dli-seq-one")
unfolding row_of table
dli_seq_one_sound =
    record {
      named = refl;
      sound = by_seq Dli (row_of 39) refl (λ m n. dli_seq_one (mean m) (mean n) (mean-split m)
          (mean-split n));
    }

pub dli_par_sound : IsSound 40 (codes "dli-par")
unfolding row_of table
dli_par_sound =
    record {
      named = refl;
      sound = by_par Dli (row_of 40) refl (λ m n. dli_par (mean m) (mean n) (mean-split m)
          (mean-split n));
    }

pub dli_loop_sound : IsSound 41 (codes "dli-loop")
unfolding row_of table
dli_loop_sound =
    record {
      named = refl;
      sound = by_loop Dli (row_of 41) refl (λ k m some. dli_loop (exactly k) (mean m) some
          (mean-split m));
    }

pub imono_leaf_sound : IsSound 42 (codes "imono-leaf")
unfolding row_of table
imono_leaf_sound =
    record { named = refl; sound = by_module Imono (row_of 42) ElectingSome refl (λ l proper. imono_leaf l) }

pub dimono_leaf_sound : IsSound 43 (codes "dimono-leaf")
unfolding row_of table
dimono_leaf_sound =
    record { named = refl; sound = by_module Dimono (row_of 43) Leading refl (λ l proper. dimono_leaf l) }

pub dimono_rev_sound : IsSound 44 (codes "dimono-rev")
unfolding row_of table
dimono_rev_sound =
    record { named = refl; sound = by_rev Dimono (row_of 44) refl (λ m. dimono_rev (mean m) (mean-split m)) }

pub dimono_dli_sound : IsSound 45 (codes "dimono-dli")
unfolding row_of table
dimono_dli_sound =
    record { named = refl; sound = by_any Dimono (row_of 45) refl (λ m. dimono_dli (mean m) (mean-split m)) }

pub dmono_leaf_sound : IsSound 46 (codes "dmono-leaf")
unfolding row_of table
dmono_leaf_sound =
    record { named = refl; sound = by_module Dmono (row_of 46) Eliminating refl (λ l proper. dmono_leaf l) }

pub dmono_rev_sound : IsSound 47 (codes "dmono-rev")
unfolding row_of table
dmono_rev_sound =
    record { named = refl; sound = by_rev Dmono (row_of 47) refl (λ m. dmono_rev (mean m) (mean-split m)) }

pub dmono_par_sound : IsSound 48 (codes "dmono-par")
unfolding row_of table
dmono_par_sound =
    record {
      named = refl;
      sound = by_par Dmono (row_of 48) refl (λ m n. dmono_par (mean m) (mean n) (mean-split m)
          (mean-split n));
    }

pub dmono_dli_sound : IsSound 49 (codes "dmono-dli")
unfolding row_of table
dmono_dli_sound =
    record { named = refl; sound = by_any Dmono (row_of 49) refl (λ m. dmono_dli (mean m) (mean-split m)) }

pub dmono_dimono_sound : IsSound 50 (codes "dmono-dimono")
unfolding row_of table
dmono_dimono_sound =
    record { named = refl; sound = by_any Dmono (row_of 50) refl (λ m. dmono_dimono (mean m) (mean-split m)) }

pub mono_seq_defers_sound : IsSound 51 (codes "mono-seq-defers")
unfolding row_of table
mono_seq_defers_sound =
    record {
      named = refl;
      sound = by_seq Mono (row_of 51) refl (λ m n. mono_seq_defers (mean m) (mean n) (mean-split m)
          (mean-split n));
    }

pub mono_seq_ea_sound : IsSound 52 (codes "mono-seq-ea")
unfolding row_of table
mono_seq_ea_sound =
    record {
      named = refl;
      sound = by_seq Mono (row_of 52) refl (λ m n. mono_seq_ea (mean m) (mean n) (mean-split m)
          (mean-split n));
    }

pub mono_par_sound : IsSound 53 (codes "mono-par")
unfolding row_of table
mono_par_sound =
    record {
      named = refl;
      sound = by_par Mono (row_of 53) refl (λ m n. mono_par (mean m) (mean n) (mean-split m)
          (mean-split n));
    }

pub mono_ne_sound : IsSound 54 (codes "mono-ne")
unfolding row_of table
mono_ne_sound = record { named = refl; sound = by_any Mono (row_of 54) refl (λ m. mono_ne (mean m) (mean-split m)) }

pub mono_ea_sound : IsSound 55 (codes "mono-ea")
unfolding row_of table
mono_ea_sound = record { named = refl; sound = by_any Mono (row_of 55) refl (λ m. mono_ea (mean m) (mean-split m)) }

pub mono_imono_sound : IsSound 56 (codes "mono-imono")
unfolding row_of table
mono_imono_sound =
    record { named = refl; sound = by_any Mono (row_of 56) refl (λ m. mono_imono (mean m) (mean-split m)) }

pub dli_until_sound : IsSound 93 (codes "dli-until")
unfolding row_of table
dli_until_sound =
    record {
      named = refl;
      sound = by_until Dli (row_of 93) refl (λ k m some. dli_loop (at_most k) (mean m) some
          (mean-split m));
    }

-- the rows 37 to 56
pub lifts_sound : AllSound (rows_from 37 20)
unfolding row_of table
lifts_sound =
    dli_leaf_sound.sound & dli_seq_both_sound.sound & dli_seq_one_sound.sound & dli_par_sound.sound &
    dli_loop_sound.sound & imono_leaf_sound.sound & dimono_leaf_sound.sound & dimono_rev_sound.sound &
    dimono_dli_sound.sound & dmono_leaf_sound.sound & dmono_rev_sound.sound & dmono_par_sound.sound &
    dmono_dli_sound.sound & dmono_dimono_sound.sound & mono_seq_defers_sound.sound & mono_seq_ea_sound.sound &
    mono_par_sound.sound & mono_ne_sound.sound & mono_ea_sound.sound & mono_imono_sound.sound & tt

-- row 93
pub until_lifts_sound : AllSound (rows_from 93 1)
unfolding row_of table
until_lifts_sound =
    dli_until_sound.sound & tt
