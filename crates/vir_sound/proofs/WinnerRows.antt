-- The rules on Condorcet winners. Each row is sound.
use Rattle.std.proofs.Common.{codes, refl}
use Rattle.vir_term.specs.declared.prop.Prop.TheVariants.{Cc, Dcc, Cprog, Ccomp}
use Rattle.vir_term.specs.Tree.{exactly, at_most}
use Rattle.vir_mean.specs.Meaning.{mean}
use Rattle.vir_mean.proofs.MeaningLaws.{mean-split}
use Rattle.vir_rules.specs.declared.row.Family.TheVariants.{Winning, Progressing, Deferring}
use Rattle.vir_rules.specs.Premises.{row_of}
use Rattle.vir_rules.specs.Table.{table}
use Rattle.vir_sound.specs.Truth.{IsSound}
use Rattle.vir_sound.proofs.WinnerLeaves.{ccomp_leaf, cprog_leaf, dcc_leaf}
use Rattle.vir_sound.proofs.WinnerLoops.{ccomp_loop, dcc_loop, dcc_until}
use Rattle.vir_sound.proofs.WinnerParallels.{cc_par, ccomp_par, dcc_par}
use Rattle.vir_sound.proofs.WinnerRevisions.{ccomp_cc, ccomp_cprog, cprog_dcc, dcc_rev}
use Rattle.vir_sound.proofs.WinnerSequences.{cc_seq_ccomp, cc_seq_dcc, cc_seq_first, ccomp_seq, cprog_seq_first}
use Rattle.vir_sound.proofs.WinnerSequences.{cprog_seq_second, dcc_seq_ccomp, dcc_seq_first}
use Rattle.vir_sound.proofs.Shapes.{by_any, by_loop, by_until, by_loop_1, by_until_1, by_module, by_par, by_rev, by_seq}
use Rattle.vir_sound.proofs.SoundRows.{◌&◌, AllSound, rows_from}

pub cc_seq_first_sound : IsSound 57 (codes "cc-seq-first")
unfolding row_of table
cc_seq_first_sound =
    record {
      named = refl;
      sound = by_seq Cc (row_of 57) refl (λ m n. cc_seq_first (mean m) (mean n) (mean-split m)
          (mean-split n));
    }

pub cc_seq_dcc_sound : IsSound 58 (codes "cc-seq-dcc")
unfolding row_of table
cc_seq_dcc_sound =
    record {
      named = refl;
      sound = by_seq Cc (row_of 58) refl (λ m n. cc_seq_dcc (mean m) (mean n) (mean-split m)
          (mean-split n));
    }

pub cc_seq_ccomp_sound : IsSound 59 (codes "cc-seq-ccomp")
unfolding row_of table
cc_seq_ccomp_sound =
    record {
      named = refl;
      sound = by_seq Cc (row_of 59) refl (λ m n. cc_seq_ccomp (mean m) (mean n) (mean-split m)
          (mean-split n));
    }

pub cc_par_sound : IsSound 60 (codes "cc-par")
unfolding row_of table
cc_par_sound =
    record {
      named = refl;
      sound = by_par Cc (row_of 60) refl (λ m n. cc_par (mean m) (mean n) (mean-split m)
          (mean-split n));
    }

pub dcc_leaf_sound : IsSound 61 (codes "dcc-leaf")
unfolding row_of table
dcc_leaf_sound = record { named = refl; sound = by_module Dcc (row_of 61) Winning refl (λ l proper. dcc_leaf l) }

pub dcc_rev_sound : IsSound 62 (codes "dcc-rev")
unfolding row_of table
dcc_rev_sound = record { named = refl; sound = by_rev Dcc (row_of 62) refl (λ m. dcc_rev (mean m) (mean-split m)) }

pub dcc_seq_ccomp_sound : IsSound 63 (codes "dcc-seq-ccomp")
unfolding row_of table
dcc_seq_ccomp_sound =
    record {
      named = refl;
      sound = by_seq Dcc (row_of 63) refl (λ m n. dcc_seq_ccomp (mean m) (mean n) (mean-split m)
          (mean-split n));
    }

pub dcc_seq_first_sound : IsSound 64 (codes "dcc-seq-first")
unfolding row_of table
dcc_seq_first_sound =
    record {
      named = refl;
      sound = by_seq Dcc (row_of 64) refl (λ m n. dcc_seq_first (mean m) (mean n) (mean-split m)
          (mean-split n));
    }

pub dcc_par_sound : IsSound 65 (codes "dcc-par")
unfolding row_of table
dcc_par_sound =
    record {
      named = refl;
      sound = by_par Dcc (row_of 65) refl (λ m n. dcc_par (mean m) (mean n) (mean-split m)
          (mean-split n));
    }

pub dcc_loop_sound : IsSound 66 (codes "dcc-loop")
unfolding row_of table
dcc_loop_sound = record { named = refl; sound = by_loop_1 Dcc (row_of 66) refl (λ m. dcc_loop (mean m) (mean-split m)) }

pub cprog_leaf_sound : IsSound 67 (codes "cprog-leaf")
unfolding row_of table
cprog_leaf_sound =
    record { named = refl; sound = by_module Cprog (row_of 67) Progressing refl (λ l proper. cprog_leaf l) }

pub cprog_seq_first_sound : IsSound 68 (codes "cprog-seq-first")
unfolding row_of table
cprog_seq_first_sound =
    record {
      named = refl;
      sound = by_seq Cprog (row_of 68) refl (λ m n. cprog_seq_first (mean m) (mean n)
          (mean-split m) (mean-split n));
    }

pub cprog_seq_second_sound : IsSound 69 (codes "cprog-seq-second")
unfolding row_of table
cprog_seq_second_sound =
    record {
      named = refl;
      sound = by_seq Cprog (row_of 69) refl (λ m n. cprog_seq_second (mean m) (mean n)
          (mean-split m) (mean-split n));
    }

pub cprog_dcc_sound : IsSound 70 (codes "cprog-dcc")
unfolding row_of table
cprog_dcc_sound =
    record { named = refl; sound = by_any Cprog (row_of 70) refl (λ m. cprog_dcc (mean m) (mean-split m)) }

pub ccomp_leaf_sound : IsSound 71 (codes "ccomp-leaf")
unfolding row_of table
ccomp_leaf_sound =
    record { named = refl; sound = by_module Ccomp (row_of 71) Deferring refl (λ l proper. ccomp_leaf l) }

pub ccomp_seq_sound : IsSound 72 (codes "ccomp-seq")
unfolding row_of table
ccomp_seq_sound =
    record {
      named = refl;
      sound = by_seq Ccomp (row_of 72) refl (λ m n. ccomp_seq (mean m) (mean n) (mean-split m)
          (mean-split n));
    }

pub ccomp_par_sound : IsSound 73 (codes "ccomp-par")
unfolding row_of table
ccomp_par_sound =
    record {
      named = refl;
      sound = by_par Ccomp (row_of 73) refl (λ m n. ccomp_par (mean m) (mean n) (mean-split m)
          (mean-split n));
    }

pub ccomp_loop_sound : IsSound 74 (codes "ccomp-loop")
unfolding row_of table
ccomp_loop_sound =
    record {
      named = refl;
      sound = by_loop Ccomp (row_of 74) refl (λ k m some. ccomp_loop (exactly k) (mean m) some
          (mean-split m));
    }

pub ccomp_cprog_sound : IsSound 75 (codes "ccomp-cprog")
unfolding row_of table
ccomp_cprog_sound =
    record { named = refl; sound = by_any Ccomp (row_of 75) refl (λ m. ccomp_cprog (mean m) (mean-split m)) }

pub ccomp_cc_sound : IsSound 76 (codes "ccomp-cc")
unfolding row_of table
ccomp_cc_sound = record { named = refl; sound = by_any Ccomp (row_of 76) refl (λ m. ccomp_cc (mean m) (mean-split m)) }

pub ccomp_until_sound : IsSound 95 (codes "ccomp-until")
unfolding row_of table
ccomp_until_sound =
    record {
      named = refl;
      sound = by_until Ccomp (row_of 95) refl (λ k m some. ccomp_loop (at_most k) (mean m) some
          (mean-split m));
    }

pub dcc_until_sound : IsSound 94 (codes "dcc-until")
unfolding row_of table
dcc_until_sound =
    record { named = refl; sound = by_until_1 Dcc (row_of 94) refl (λ m. dcc_until (mean m) (mean-split m)) }

-- the rows 57 to 76
pub winners_sound : AllSound (rows_from 57 20)
unfolding row_of table
winners_sound =
    cc_seq_first_sound.sound & cc_seq_dcc_sound.sound & cc_seq_ccomp_sound.sound & cc_par_sound.sound &
    dcc_leaf_sound.sound & dcc_rev_sound.sound & dcc_seq_ccomp_sound.sound & dcc_seq_first_sound.sound &
    dcc_par_sound.sound & dcc_loop_sound.sound & cprog_leaf_sound.sound & cprog_seq_first_sound.sound &
    cprog_seq_second_sound.sound & cprog_dcc_sound.sound & ccomp_leaf_sound.sound & ccomp_seq_sound.sound &
    ccomp_par_sound.sound & ccomp_loop_sound.sound & ccomp_cprog_sound.sound & ccomp_cc_sound.sound & tt

-- the rows 94 to 95
pub until_winners_sound : AllSound (rows_from 94 2)
unfolding row_of table
until_winners_sound =
    dcc_until_sound.sound & ccomp_until_sound.sound & tt
