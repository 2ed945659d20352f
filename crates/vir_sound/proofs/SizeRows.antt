-- The rules on how many are deferred or rejected. Each row is sound.
use Rattle.std.proofs.Common.{◌≡◌, ℕ, true, codes, refl, subst, eqb-true}
use Rattle.vir_term.specs.declared.leaf.Leaf.TheVariants.{PassFirst, DropFirst}
use Rattle.vir_term.specs.declared.prop.Prop.TheVariants.{Ne, Defers, Rejects, Elim}
use Rattle.vir_term.specs.Tree.{Tree, leaf, seq, loop, exactly, at_most}
use Rattle.vir_mean.specs.Meaning.{mean}
use Rattle.vir_mean.specs.Modules.{first_passed, first_dropped}
use Rattle.vir_mean.specs.Compositions.{loop_of}
use Rattle.vir_mean.specs.Properties.{Holds}
use Rattle.vir_mean.proofs.MeaningLaws.{mean-split}
use Rattle.vir_rules.specs.declared.row.Shape.TheVariants.{PassK, DropK, Seq, LoopK, UntilK}
use Rattle.vir_rules.specs.Forms.{first_part, form_of, is_shaped, second_part}
use Rattle.vir_rules.specs.Premises.{row_of}
use Rattle.vir_rules.specs.Table.{table}
use Rattle.vir_sound.specs.Truth.{IsSound, IsProper}
use Rattle.vir_sound.proofs.SizeLaws.{defers_leaf, defers_loop_elim, defers_loop_one, defers_until_elim}
use Rattle.vir_sound.proofs.SizeLaws.{defers_until_one, defers_seq_both, defers_seq_one, elim_par_left, elim_par_right}
use Rattle.vir_sound.proofs.SizeLaws.{rejects_leaf}
use Rattle.vir_sound.proofs.Shapes.{by_defers, by_loop_1, by_until_1, by_par, by_rejects, by_seq, false_true}
use Rattle.vir_sound.proofs.SoundRows.{◌&◌, AllSound, rows_from}

-- `pass` of the number, whatever its order
pass_k : (k : ℕ) (t : Tree) → is_shaped PassK k (form_of t) ≡ true → IsProper t → Holds (Defers k) (mean t)
pass_k k (leaf (PassFirst j order)) is proper = subst (λ i. Holds (Defers i) (first_passed j order)) (eqb-true j k is)
    (defers_leaf j order proper)
pass_k k _ is proper = false_true is

-- `drop` of the number
drop_k : (k : ℕ) (t : Tree) → is_shaped DropK k (form_of t) ≡ true → IsProper t → Holds (Rejects k) (mean t)
drop_k k (leaf (DropFirst j order)) is proper = subst (λ i. Holds (Rejects i) (first_dropped j order)) (eqb-true j k is)
    (rejects_leaf j order proper)
drop_k k _ is proper = false_true is

-- a sequence of two that defer so many
both_parts : (k : ℕ) (t : Tree) → is_shaped Seq k (form_of t) ≡ true → IsProper t
    → Holds (Defers k) (mean (first_part t)) → Holds (Defers k) (mean (second_part t)) → Holds (Defers k) (mean t)
both_parts k (seq m n) is proper = defers_seq_both k (mean m) (mean n) (mean-split m) (mean-split n)
both_parts k _ is proper = false_true is

-- a loop of the number
loop_k : (k : ℕ) (t : Tree) → is_shaped LoopK k (form_of t) ≡ true → IsProper t → Holds (Elim 1) (mean (first_part t))
    → Holds Ne (mean (first_part t)) → Holds (Defers k) (mean t)
loop_k k (loop (exactly j) body) is (some, proper) = λ fewer none.
    subst (λ i. Holds (Defers i) (loop_of (exactly j) (mean body))) (eqb-true j k is)
    (defers_loop_elim j (mean body) some (mean-split body) fewer none)
loop_k k _ is proper = false_true is

-- an until of the number
until_k : (k : ℕ) (t : Tree) → is_shaped UntilK k (form_of t) ≡ true → IsProper t → Holds (Elim 1) (mean (first_part t))
    → Holds Ne (mean (first_part t)) → Holds (Defers k) (mean t)
until_k k (loop (at_most j) body) is (some, proper) = λ fewer none.
    subst (λ i. Holds (Defers i) (loop_of (at_most j) (mean body))) (eqb-true j k is)
    (defers_until_elim j (mean body) some (mean-split body) fewer none)
until_k k _ is proper = false_true is

pub defers_leaf_sound : IsSound 16 (codes "defers-leaf")
unfolding row_of table
defers_leaf_sound = record { named = refl; sound = by_defers PassK (row_of 16) refl pass_k }

pub defers_seq_one_sound : IsSound 17 (codes "defers-seq-one")
unfolding row_of table
defers_seq_one_sound =
    record {
      named = refl;
      sound = by_seq (Defers 1) (row_of 17) refl (λ m n. defers_seq_one (mean m) (mean n)
          (mean-split m) (mean-split n));
    }

pub defers_seq_both_sound : IsSound 18 (codes "defers-seq-both")
unfolding row_of table
defers_seq_both_sound = record { named = refl; sound = by_defers Seq (row_of 18) refl both_parts }

pub defers_loop_elim_sound : IsSound 19 (codes "defers-loop-elim")
unfolding row_of table
defers_loop_elim_sound = record { named = refl; sound = by_defers LoopK (row_of 19) refl loop_k }

pub defers_loop_one_sound : IsSound 20 (codes "defers-loop-one")
unfolding row_of table
defers_loop_one_sound =
    record {
      named = refl;
      sound = by_loop_1 (Defers 1) (row_of 20) refl (λ m. defers_loop_one (mean m) (mean-split m));
    }

pub rejects_leaf_sound : IsSound 21 (codes "rejects-leaf")
unfolding row_of table
rejects_leaf_sound = record { named = refl; sound = by_rejects DropK (row_of 21) refl drop_k }

pub elim_par_left_sound : IsSound 22 (codes "elim-par-left")
unfolding row_of table
elim_par_left_sound =
    record {
      named = refl;
      sound = by_par (Elim 1) (row_of 22) refl (λ m n. elim_par_left (mean m) (mean n)
          (mean-split m) (mean-split n));
    }

pub elim_par_right_sound : IsSound 23 (codes "elim-par-right")
unfolding row_of table
elim_par_right_sound =
    record {
      named = refl;
      sound = by_par (Elim 1) (row_of 23) refl (λ m n. elim_par_right (mean m) (mean n)
          (mean-split m) (mean-split n));
    }

pub defers_until_elim_sound : IsSound 90 (codes "defers-until-elim")
unfolding row_of table
defers_until_elim_sound = record { named = refl; sound = by_defers UntilK (row_of 90) refl until_k }

pub defers_until_one_sound : IsSound 91 (codes "defers-until-one")
unfolding row_of table
defers_until_one_sound =
    record {
      named = refl;
      sound = by_until_1 (Defers 1) (row_of 91) refl
          (λ m. defers_until_one (mean m) (mean-split m));
    }

-- the rows 16 to 23
pub sizes_sound : AllSound (rows_from 16 8)
unfolding row_of table
sizes_sound =
    defers_leaf_sound.sound & defers_seq_one_sound.sound & defers_seq_both_sound.sound &
    defers_loop_elim_sound.sound & defers_loop_one_sound.sound & rejects_leaf_sound.sound &
    elim_par_left_sound.sound & elim_par_right_sound.sound & tt

-- the rows 90 to 91
pub until_sizes_sound : AllSound (rows_from 90 2)
unfolding row_of table
until_sizes_sound =
    defers_until_elim_sound.sound & defers_until_one_sound.sound & tt
