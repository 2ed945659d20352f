-- The rules on rejecting all, and on rejecting somebody. Each row is sound.
use Rattle.std.proofs.Common.{codes, refl}
use Rattle.vir_term.specs.declared.prop.Prop.TheVariants.{Nb, Decr}
use Rattle.vir_term.specs.Tree.{exactly, at_most}
use Rattle.vir_mean.specs.Meaning.{mean}
use Rattle.vir_mean.proofs.MeaningLaws.{mean-split}
use Rattle.vir_rules.specs.declared.row.Family.TheVariants.{KeepingSome, Dropping}
use Rattle.vir_rules.specs.Premises.{row_of}
use Rattle.vir_rules.specs.Table.{table}
use Rattle.vir_sound.specs.Truth.{IsSound}
use Rattle.vir_sound.proofs.KeepingLaws.{decr_defers, decr_elim, decr_leaf, decr_rejects, decr_seq, nb_defers, nb_el}
use Rattle.vir_sound.proofs.KeepingLaws.{nb_leaf, nb_loop, nb_par_left, nb_par_right, nb_rev, nb_seq}
use Rattle.vir_sound.proofs.Shapes.{by_any, by_loop, by_until, by_module, by_par, by_rev, by_seq}
use Rattle.vir_sound.proofs.SoundRows.{◌&◌, AllSound, rows_from}

pub nb_leaf_sound : IsSound 24 (codes "nb-leaf")
unfolding row_of table
nb_leaf_sound = record { named = refl; sound = by_module Nb (row_of 24) KeepingSome refl nb_leaf }

pub nb_rev_sound : IsSound 25 (codes "nb-rev")
unfolding row_of table
nb_rev_sound = record { named = refl; sound = by_rev Nb (row_of 25) refl (λ m. nb_rev (mean m) (mean-split m)) }

pub nb_seq_sound : IsSound 26 (codes "nb-seq")
unfolding row_of table
nb_seq_sound =
    record {
      named = refl;
      sound = by_seq Nb (row_of 26) refl (λ m n. nb_seq (mean m) (mean n) (mean-split m)
          (mean-split n));
    }

pub nb_par_left_sound : IsSound 27 (codes "nb-par-left")
unfolding row_of table
nb_par_left_sound =
    record {
      named = refl;
      sound = by_par Nb (row_of 27) refl (λ m n. nb_par_left (mean m) (mean n) (mean-split m)
          (mean-split n));
    }

pub nb_par_right_sound : IsSound 28 (codes "nb-par-right")
unfolding row_of table
nb_par_right_sound =
    record {
      named = refl;
      sound = by_par Nb (row_of 28) refl (λ m n. nb_par_right (mean m) (mean n) (mean-split m)
          (mean-split n));
    }

pub nb_loop_sound : IsSound 29 (codes "nb-loop")
unfolding row_of table
nb_loop_sound =
    record {
      named = refl;
      sound = by_loop Nb (row_of 29) refl (λ k m some. nb_loop (exactly k) (mean m) some
          (mean-split m));
    }

pub nb_el_sound : IsSound 30 (codes "nb-el")
unfolding row_of table
nb_el_sound = record { named = refl; sound = by_any Nb (row_of 30) refl (λ m. nb_el (mean m) (mean-split m)) }

pub nb_defers_sound : IsSound 31 (codes "nb-defers")
unfolding row_of table
nb_defers_sound = record { named = refl; sound = by_any Nb (row_of 31) refl (λ m. nb_defers (mean m) (mean-split m)) }

pub decr_leaf_sound : IsSound 32 (codes "decr-leaf")
unfolding row_of table
decr_leaf_sound = record { named = refl; sound = by_module Decr (row_of 32) Dropping refl decr_leaf }

pub decr_seq_sound : IsSound 33 (codes "decr-seq")
unfolding row_of table
decr_seq_sound =
    record {
      named = refl;
      sound = by_seq Decr (row_of 33) refl (λ m n. decr_seq (mean m) (mean n) (mean-split m)
          (mean-split n));
    }

pub decr_elim_sound : IsSound 34 (codes "decr-elim")
unfolding row_of table
decr_elim_sound = record { named = refl; sound = by_any Decr (row_of 34) refl (λ m. decr_elim (mean m) (mean-split m)) }

pub decr_rejects_sound : IsSound 35 (codes "decr-rejects")
unfolding row_of table
decr_rejects_sound =
    record { named = refl; sound = by_any Decr (row_of 35) refl (λ m. decr_rejects (mean m) (mean-split m)) }

pub decr_defers_sound : IsSound 36 (codes "decr-defers")
unfolding row_of table
decr_defers_sound =
    record { named = refl; sound = by_any Decr (row_of 36) refl (λ m. decr_defers (mean m) (mean-split m)) }

pub nb_until_sound : IsSound 92 (codes "nb-until")
unfolding row_of table
nb_until_sound =
    record {
      named = refl;
      sound = by_until Nb (row_of 92) refl (λ k m some. nb_loop (at_most k) (mean m) some
          (mean-split m));
    }

-- the rows 24 to 36
pub keeping_sound : AllSound (rows_from 24 13)
unfolding row_of table
keeping_sound =
    nb_leaf_sound.sound & nb_rev_sound.sound & nb_seq_sound.sound & nb_par_left_sound.sound &
    nb_par_right_sound.sound & nb_loop_sound.sound & nb_el_sound.sound & nb_defers_sound.sound &
    decr_leaf_sound.sound & decr_seq_sound.sound & decr_elim_sound.sound & decr_rejects_sound.sound &
    decr_defers_sound.sound & tt

-- row 92
pub until_keeping_sound : AllSound (rows_from 92 1)
unfolding row_of table
until_keeping_sound =
    nb_until_sound.sound & tt
