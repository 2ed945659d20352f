-- The rules on neutrality. Each row is sound.
use Rattle.std.proofs.Common.{codes, refl}
use Rattle.vir_term.specs.declared.prop.Prop.TheVariants.{Neut}
use Rattle.vir_term.specs.Tree.{exactly, at_most}
use Rattle.vir_mean.specs.Meaning.{mean}
use Rattle.vir_mean.proofs.MeaningLaws.{mean-split}
use Rattle.vir_rules.specs.declared.row.Family.TheVariants.{Unordered}
use Rattle.vir_rules.specs.Premises.{row_of}
use Rattle.vir_rules.specs.Table.{table}
use Rattle.vir_sound.specs.Truth.{IsSound}
use Rattle.vir_sound.proofs.NeutralLaws.{neut_leaf, neut_loop, neut_par, neut_rev, neut_seq}
use Rattle.vir_sound.proofs.Shapes.{by_loop, by_module, by_par, by_rev, by_seq, by_until}
use Rattle.vir_sound.proofs.SoundRows.{◌&◌, AllSound, rows_from}

pub neut_leaf_sound : IsSound 83 (codes "neut-leaf")
unfolding row_of table
neut_leaf_sound = record { named = refl; sound = by_module Neut (row_of 83) Unordered refl neut_leaf }

pub neut_rev_sound : IsSound 84 (codes "neut-rev")
unfolding row_of table
neut_rev_sound = record { named = refl; sound = by_rev Neut (row_of 84) refl (λ m. neut_rev (mean m) (mean-split m)) }

pub neut_seq_sound : IsSound 85 (codes "neut-seq")
unfolding row_of table
neut_seq_sound =
    record {
      named = refl;
      sound = by_seq Neut (row_of 85) refl (λ m n. neut_seq (mean m) (mean n) (mean-split m)
          (mean-split n));
    }

pub neut_par_sound : IsSound 86 (codes "neut-par")
unfolding row_of table
neut_par_sound =
    record {
      named = refl;
      sound = by_par Neut (row_of 86) refl (λ m n. neut_par (mean m) (mean n) (mean-split m)
          (mean-split n));
    }

pub neut_loop_sound : IsSound 87 (codes "neut-loop")
unfolding row_of table
neut_loop_sound =
    record {
      named = refl;
      sound = by_loop Neut (row_of 87) refl (λ k m some. neut_loop (exactly k) (mean m) some
          (mean-split m));
    }

pub neut_until_sound : IsSound 88 (codes "neut-until")
unfolding row_of table
neut_until_sound =
    record {
      named = refl;
      sound = by_until Neut (row_of 88) refl (λ k m some. neut_loop (at_most k) (mean m) some
          (mean-split m));
    }

-- the rows 83 to 88
pub neutral_sound : AllSound (rows_from 83 6)
unfolding row_of table
neutral_sound =
    neut_leaf_sound.sound & neut_rev_sound.sound & neut_seq_sound.sound & neut_par_sound.sound &
    neut_loop_sound.sound & neut_until_sound.sound & tt
