-- The rules on who is elected. Each row is sound.
use Rattle.std.proofs.Common.{codes, refl}
use Rattle.vir_term.specs.declared.prop.Prop.TheVariants.{Ne, Ea, El}
use Rattle.vir_term.specs.Tree.{exactly, at_most}
use Rattle.vir_mean.specs.Meaning.{mean}
use Rattle.vir_mean.proofs.MeaningLaws.{mean-split}
use Rattle.vir_rules.specs.declared.row.Family.TheVariants.{ElectingNobody, ElectingAll, ElectingSome}
use Rattle.vir_rules.specs.Premises.{row_of}
use Rattle.vir_rules.specs.Table.{table}
use Rattle.vir_sound.specs.Truth.{IsSound}
use Rattle.vir_sound.proofs.ElectingLaws.{ea_leaf, ea_par_left, ea_par_right, ea_seq, el_ea, el_leaf, el_par_left}
use Rattle.vir_sound.proofs.ElectingLaws.{el_par_right, el_seq_first, el_seq_second, ne_leaf, ne_loop, ne_par, ne_rev}
use Rattle.vir_sound.proofs.ElectingLaws.{ne_seq}
use Rattle.vir_sound.proofs.Shapes.{by_any, by_loop, by_until, by_module, by_par, by_rev, by_seq}
use Rattle.vir_sound.proofs.SoundRows.{◌&◌, AllSound, rows_from}

pub ne_leaf_sound : IsSound 1 (codes "ne-leaf")
unfolding row_of table
ne_leaf_sound = record { named = refl; sound = by_module Ne (row_of 1) ElectingNobody refl ne_leaf }

pub ne_rev_sound : IsSound 2 (codes "ne-rev")
unfolding row_of table
ne_rev_sound = record { named = refl; sound = by_rev Ne (row_of 2) refl (λ m. ne_rev (mean m) (mean-split m)) }

pub ne_seq_sound : IsSound 3 (codes "ne-seq")
unfolding row_of table
ne_seq_sound =
    record {
      named = refl;
      sound = by_seq Ne (row_of 3) refl (λ m n. ne_seq (mean m) (mean n) (mean-split m)
          (mean-split n));
    }

pub ne_par_sound : IsSound 4 (codes "ne-par")
unfolding row_of table
ne_par_sound =
    record {
      named = refl;
      sound = by_par Ne (row_of 4) refl (λ m n. ne_par (mean m) (mean n) (mean-split m)
          (mean-split n));
    }

pub ne_loop_sound : IsSound 5 (codes "ne-loop")
unfolding row_of table
ne_loop_sound =
    record {
      named = refl;
      sound = by_loop Ne (row_of 5) refl (λ k m some. ne_loop (exactly k) (mean m) some
          (mean-split m));
    }

pub ea_leaf_sound : IsSound 6 (codes "ea-leaf")
unfolding row_of table
ea_leaf_sound = record { named = refl; sound = by_module Ea (row_of 6) ElectingAll refl ea_leaf }

pub ea_seq_sound : IsSound 7 (codes "ea-seq")
unfolding row_of table
ea_seq_sound =
    record {
      named = refl;
      sound = by_seq Ea (row_of 7) refl (λ m n. ea_seq (mean m) (mean n) (mean-split m)
          (mean-split n));
    }

pub ea_par_left_sound : IsSound 8 (codes "ea-par-left")
unfolding row_of table
ea_par_left_sound =
    record {
      named = refl;
      sound = by_par Ea (row_of 8) refl (λ m n. ea_par_left (mean m) (mean n) (mean-split m)
          (mean-split n));
    }

pub ea_par_right_sound : IsSound 9 (codes "ea-par-right")
unfolding row_of table
ea_par_right_sound =
    record {
      named = refl;
      sound = by_par Ea (row_of 9) refl (λ m n. ea_par_right (mean m) (mean n) (mean-split m)
          (mean-split n));
    }

pub el_leaf_sound : IsSound 10 (codes "el-leaf")
unfolding row_of table
el_leaf_sound = record { named = refl; sound = by_module El (row_of 10) ElectingSome refl el_leaf }

pub el_seq_first_sound : IsSound 11 (codes "el-seq-first")
unfolding row_of table
el_seq_first_sound =
    record {
      named = refl;
      sound = by_seq El (row_of 11) refl (λ m n. el_seq_first (mean m) (mean n) (mean-split m)
          (mean-split n));
    }

pub el_seq_second_sound : IsSound 12 (codes "el-seq-second")
unfolding row_of table
el_seq_second_sound =
    record {
      named = refl;
      sound = by_seq El (row_of 12) refl (λ m n. el_seq_second (mean m) (mean n) (mean-split m)
          (mean-split n));
    }

pub el_par_left_sound : IsSound 13 (codes "el-par-left")
unfolding row_of table
el_par_left_sound =
    record {
      named = refl;
      sound = by_par El (row_of 13) refl (λ m n. el_par_left (mean m) (mean n) (mean-split m)
          (mean-split n));
    }

pub el_par_right_sound : IsSound 14 (codes "el-par-right")
unfolding row_of table
el_par_right_sound =
    record {
      named = refl;
      sound = by_par El (row_of 14) refl (λ m n. el_par_right (mean m) (mean n) (mean-split m)
          (mean-split n));
    }

pub el_ea_sound : IsSound 15 (codes "el-ea")
unfolding row_of table
el_ea_sound = record { named = refl; sound = by_any El (row_of 15) refl (λ m. el_ea (mean m) (mean-split m)) }

pub ne_until_sound : IsSound 89 (codes "ne-until")
unfolding row_of table
ne_until_sound =
    record {
      named = refl;
      sound = by_until Ne (row_of 89) refl (λ k m some. ne_loop (at_most k) (mean m) some
          (mean-split m));
    }

-- the rows 1 to 15
pub electing_sound : AllSound (rows_from 1 15)
unfolding row_of table
electing_sound =
    ne_leaf_sound.sound & ne_rev_sound.sound & ne_seq_sound.sound & ne_par_sound.sound & ne_loop_sound.sound &
    ea_leaf_sound.sound & ea_seq_sound.sound & ea_par_left_sound.sound & ea_par_right_sound.sound &
    el_leaf_sound.sound & el_seq_first_sound.sound & el_seq_second_sound.sound & el_par_left_sound.sound &
    el_par_right_sound.sound & el_ea_sound.sound & tt

-- row 89
pub until_electing_sound : AllSound (rows_from 89 1)
unfolding row_of table
until_electing_sound =
    ne_until_sound.sound & tt
