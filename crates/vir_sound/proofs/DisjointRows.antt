-- The rules on disjoint terms. Each row is sound.
use Rattle.std.proofs.Common.{◌≡◌, ℕ, Bool, true, false, ◌&&◌, nat_eq, if◌then◌else◌, List, [], ◌∷◌, codes, Some, None}
use Rattle.std.proofs.Common.{refl, ap₂, subst, eqb-true, arith}
use Rattle.std.specs.Cmp.Lexicographic.{pointwise}
use Rattle.vir_term.specs.declared.leaf.Leaf.TheVariants.{PassFirst, DropFirst}
use Rattle.vir_term.specs.Tree.{Tree, leaf, rev, seq}
use Rattle.vir_mean.specs.Disjointness.{AreDisjoint}
use Rattle.vir_mean.specs.Meaning.{mean}
use Rattle.vir_mean.specs.Modules.{first_passed, first_dropped}
use Rattle.vir_mean.proofs.MeaningLaws.{mean-split}
use Rattle.vir_rules.specs.declared.row.Pairing.TheVariants.{PassDrop, DropPass, SeqLeft, SeqRight, RevLeft, RevRight}
use Rattle.vir_rules.specs.Premises.{row_of, Letters, letters_of_pair, if_same_order, paired}
use Rattle.vir_rules.specs.Table.{table}
use Rattle.vir_sound.specs.Truth.{IsSound}
use Rattle.vir_sound.proofs.DisjointLaws.{disj_drop_pass, disj_pass_drop, disj_rev_left, disj_rev_right, disj_seq_left}
use Rattle.vir_sound.proofs.DisjointLaws.{disj_seq_right}
use Rattle.vir_sound.proofs.Shapes.{by_pairing, false_true, some_same, none_some}
use Rattle.vir_sound.proofs.SoundRows.{◌&◌, AllSound, rows_from}

-- orders that are equal place by place are one
pointwise-one : (order other : List ℕ) → pointwise nat_eq order other ≡ true → order ≡ other
pointwise-one [] [] h = refl
pointwise-one [] (y ∷ ys) h = false_true h
pointwise-one (x ∷ xs) [] h = false_true h
pointwise-one (x ∷ xs) (y ∷ ys) h =
    let both = split (nat_eq x y) (pointwise nat_eq xs ys) h in ap₂ (λ a b. a ∷ b) (eqb-true x y both.0)
    (pointwise-one xs ys both.1)
  where
    split : (a b : Bool) → (a && b) ≡ true → (a ≡ true) × (b ≡ true)
    split a b e = (grind arith, grind arith)

-- two numbers and two orders that are the same
record AreSame (k j : ℕ) (order other : List ℕ) : Type 0 where
  number : k ≡ j
  list : order ≡ other

same_of : (k j : ℕ) (order other : List ℕ) (letters found : Letters) → if_same_order k order j other letters
    ≡ Some found → AreSame k j order other
same_of k j order other letters found e = at (nat_eq k j) (pointwise nat_eq order other) refl refl e
  where
    at : (a b : Bool) → nat_eq k j ≡ a → pointwise nat_eq order other ≡ b → (if a && b then Some letters else None)
        ≡ Some found → AreSame k j order other
    at true true one two f = record { number = eqb-true k j one; list = pointwise-one order other two }
    at true false one two f = none_some found f
    at false b one two f = none_some found f

pass_and_drop : (s t : Tree) (letters : Letters) → paired PassDrop s t ≡ Some letters → AreDisjoint (mean s) (mean t)
pass_and_drop (leaf (PassFirst k order)) (leaf (DropFirst j other)) letters e =
    let same = same_of k j order other _ letters e in
    subst (λ i. AreDisjoint (first_passed k order) (first_dropped i other)) same.number
    (subst (λ o. AreDisjoint (first_passed k order) (first_dropped k o)) same.list (disj_pass_drop k order))
pass_and_drop _ _ letters e = none_some letters e

drop_and_pass : (s t : Tree) (letters : Letters) → paired DropPass s t ≡ Some letters → AreDisjoint (mean s) (mean t)
drop_and_pass (leaf (DropFirst k order)) (leaf (PassFirst j other)) letters e =
    let same = same_of k j order other _ letters e in
    subst (λ i. AreDisjoint (first_dropped k order) (first_passed i other)) same.number
    (subst (λ o. AreDisjoint (first_dropped k order) (first_passed k o)) same.list (disj_drop_pass k order))
drop_and_pass _ _ letters e = none_some letters e

-- what is said with the letters that two terms have
with_letters : (found letters : Letters) (X : Letters → Type 0) → Some found ≡ Some letters → X found → X letters
with_letters found letters X e x = subst X (some_same found letters e) x

-- the first part of the left term is disjoint from the right one
abbrev Left_apart : Tree → Tree → Letters → Type 0
Left_apart s t letters = AreDisjoint (mean letters.m) (mean letters.u) → AreDisjoint (mean s) (mean t)

-- the left term is disjoint from the first part of the right one
abbrev Right_apart : Tree → Tree → Letters → Type 0
Right_apart s t letters = AreDisjoint (mean letters.u) (mean letters.m) → AreDisjoint (mean s) (mean t)

seq_left : (s t : Tree) (letters : Letters) → paired SeqLeft s t ≡ Some letters → Left_apart s t letters
seq_left (seq m n) t letters e = with_letters (letters_of_pair m t) letters (Left_apart (seq m n) t) e
    (disj_seq_left (mean m) (mean n) (mean t) (mean-split m) (mean-split n) (mean-split t))
seq_left _ t letters e = none_some letters e

seq_right : (s t : Tree) (letters : Letters) → paired SeqRight s t ≡ Some letters → Right_apart s t letters
seq_right s (seq m n) letters e = with_letters (letters_of_pair m s) letters (Right_apart s (seq m n)) e
    (disj_seq_right (mean m) (mean n) (mean s) (mean-split m) (mean-split n) (mean-split s))
seq_right s _ letters e = none_some letters e

rev_left : (s t : Tree) (letters : Letters) → paired RevLeft s t ≡ Some letters → Left_apart s t letters
rev_left (rev m) t letters e = with_letters (letters_of_pair m t) letters (Left_apart (rev m) t) e
    (disj_rev_left (mean m) (mean t) (mean-split m) (mean-split t))
rev_left _ t letters e = none_some letters e

rev_right : (s t : Tree) (letters : Letters) → paired RevRight s t ≡ Some letters → Right_apart s t letters
rev_right s (rev m) letters e = with_letters (letters_of_pair m s) letters (Right_apart s (rev m)) e
    (disj_rev_right (mean m) (mean s) (mean-split m) (mean-split s))
rev_right s _ letters e = none_some letters e

pub disj_pass_drop_sound : IsSound 77 (codes "disj-pass-drop")
unfolding row_of table
disj_pass_drop_sound = record { named = refl; sound = by_pairing PassDrop (row_of 77) refl pass_and_drop }

pub disj_drop_pass_sound : IsSound 78 (codes "disj-drop-pass")
unfolding row_of table
disj_drop_pass_sound = record { named = refl; sound = by_pairing DropPass (row_of 78) refl drop_and_pass }

pub disj_seq_left_sound : IsSound 79 (codes "disj-seq-left")
unfolding row_of table
disj_seq_left_sound = record { named = refl; sound = by_pairing SeqLeft (row_of 79) refl seq_left }

pub disj_seq_right_sound : IsSound 80 (codes "disj-seq-right")
unfolding row_of table
disj_seq_right_sound = record { named = refl; sound = by_pairing SeqRight (row_of 80) refl seq_right }

pub disj_rev_left_sound : IsSound 81 (codes "disj-rev-left")
unfolding row_of table
disj_rev_left_sound = record { named = refl; sound = by_pairing RevLeft (row_of 81) refl rev_left }

pub disj_rev_right_sound : IsSound 82 (codes "disj-rev-right")
unfolding row_of table
disj_rev_right_sound = record { named = refl; sound = by_pairing RevRight (row_of 82) refl rev_right }

-- the rows 77 to 82
pub disjoint_sound : AllSound (rows_from 77 6)
unfolding row_of table
disjoint_sound =
    disj_pass_drop_sound.sound & disj_drop_pass_sound.sound & disj_seq_left_sound.sound &
    disj_seq_right_sound.sound & disj_rev_left_sound.sound & disj_rev_right_sound.sound & tt
