-- A claim with a valid tree of rules is true.
use Rattle.std.proofs.Common.{◌≡◌, ℕ, zero, suc, ◌<◌, Bool, true, false, ◌&&◌, nat_eq, nat_lt, nat_le, if◌then◌else◌}
use Rattle.std.proofs.Common.{List, [], ◌∷◌, length, get_or, Option, Some, None, option_map, map, refl, subst, arith}
use Rattle.std.proofs.lemmas.Bool.Decides.{nat_tests}
use Rattle.std.specs.Cmp.Lexicographic.{pointwise}
use Rattle.vir_term.specs.declared.leaf.Leaf.TheVariants.{PassFirst, DropFirst}
use Rattle.vir_term.specs.Tree.{Tree, leaf, rev, seq, par, loop}
use Rattle.vir_rules.specs.declared.row.Pairing.{Pairing}
use Rattle.vir_rules.specs.declared.row.Pairing.TheVariants.{PassDrop, DropPass, SeqLeft, SeqRight, RevLeft, RevRight}
use Rattle.vir_rules.specs.declared.row.Conclusion.{Conclusion}
use Rattle.vir_rules.specs.declared.row.Conclusion.TheVariants.{Has, Apart}
use Rattle.vir_rules.specs.declared.row.Part.{Part}
use Rattle.vir_rules.specs.declared.row.Part.TheVariants.{M, N, T, U}
use Rattle.vir_rules.specs.declared.row.Need.{Need}
use Rattle.vir_rules.specs.declared.row.Need.TheVariants as need
use Rattle.vir_rules.specs.Claims.{Claim, of, disj}
use Rattle.vir_rules.specs.Derivations.{Valid, AllValid}
use Rattle.vir_rules.specs.Forms.{form_of}
use Rattle.vir_rules.specs.Premises.{Letters, letters_of, letters_of_pair, letters_in, number_for, if_same_order}
use Rattle.vir_rules.specs.Premises.{paired, part_of, filled, blank, row_of, premises_by, is_rule, premises}
use Rattle.vir_rules.specs.RuleTrees.{RuleTree, RuleTrees, node, none, more}
use Rattle.vir_rules.specs.Table.{Rule, table}
use Rattle.vir_sound.specs.Truth.{IsTrueClaim, AllTrue, IsProper, IsProperClaim, IsSoundRow}
use Rattle.vir_sound.proofs.Shapes.{some_same, none_some}
use Rattle.vir_sound.proofs.AllRows.{rows_sound}
use Rattle.vir_sound.proofs.SoundRows.{AllSound}

-- ---- premises of terms whose numbers are at least 1 are about such terms
abbrev AllProper : List Claim → Type 0
AllProper [] = Unit {0}
AllProper (c ∷ rest) = IsProperClaim c × AllProper rest

-- the terms that letters stand for
record AreProper (letters : Letters) : Type 0 where
  m : IsProper letters.m
  n : IsProper letters.n
  t : IsProper letters.t
  u : IsProper letters.u

letters_proper : (term : Tree) (k : ℕ) → IsProper term → AreProper (letters_of term k)
letters_proper (leaf l) k proper = record { m = proper; n = proper; t = proper; u = proper }
letters_proper (rev part) k proper = record { m = proper; n = proper; t = proper; u = proper }
letters_proper (seq first second) k proper = record { m = proper.0; n = proper.1; t = proper; u = proper }
letters_proper (par first second) k proper = record { m = proper.0; n = proper.1; t = proper; u = proper }
letters_proper (loop j body) k proper = record { m = proper.1; n = proper.1; t = proper; u = proper }

of_pair : (part other : Tree) → IsProper part → IsProper other → AreProper (letters_of_pair part other)
of_pair part other one two = record { m = one; n = one; t = one; u = two }

kept_by : (found letters : Letters) → Some found ≡ Some letters → AreProper found → AreProper letters
kept_by found letters e proper = subst AreProper (some_same found letters e) proper

where_same : (k j : ℕ) (order other : List ℕ) (found letters : Letters) → if_same_order k order j other found
    ≡ Some letters → AreProper found → AreProper letters
where_same k j order other found letters e proper = at (nat_eq k j && pointwise nat_eq order other) e
  where
    at : (same : Bool) → (if same then Some found else None) ≡ Some letters → AreProper letters
    at true f = kept_by found letters f proper
    at false f = none_some letters f

pair_proper : (pairing : Pairing) (s t : Tree) (letters : Letters) → paired pairing s t ≡ Some letters → IsProper s
    → IsProper t → AreProper letters
pair_proper PassDrop (leaf (PassFirst k order)) (leaf (DropFirst j other)) letters e one two = where_same k j order
    other (letters_of_pair (leaf (PassFirst k order)) (leaf (DropFirst j other))) letters e
    (of_pair (leaf (PassFirst k order)) (leaf (DropFirst j other)) one two)
pair_proper DropPass (leaf (DropFirst k order)) (leaf (PassFirst j other)) letters e one two = where_same k j order
    other (letters_of_pair (leaf (DropFirst k order)) (leaf (PassFirst j other))) letters e
    (of_pair (leaf (DropFirst k order)) (leaf (PassFirst j other)) one two)
pair_proper SeqLeft (seq first second) t letters e one two = kept_by _ letters e (of_pair first t one.0 two)
pair_proper SeqRight s (seq first second) letters e one two = kept_by _ letters e (of_pair first s two.0 one)
pair_proper RevLeft (rev part) t letters e one two = kept_by _ letters e (of_pair part t one two)
pair_proper RevRight s (rev part) letters e one two = kept_by _ letters e (of_pair part s two one)
pair_proper _ _ _ letters e one two = none_some letters e

found_proper : (conclusion : Conclusion) (c : Claim) (letters : Letters) → letters_in conclusion c ≡ Some letters
    → IsProperClaim c → AreProper letters
found_proper conclusion (of p t) letters e proper = at (number_for conclusion p (form_of t)) e
  where
    at : (number : Option ℕ) → option_map (letters_of t) number ≡ Some letters → AreProper letters
    at (Some k) f = kept_by _ letters f (letters_proper t k proper)
    at None f = none_some letters f
found_proper (Apart pairing) (disj s t) letters e proper = pair_proper pairing s t letters e proper.0 proper.1
found_proper (Has wanted shape) (disj s t) letters e proper = none_some letters e

part_proper : (part : Part) (letters : Letters) → AreProper letters → IsProper (part_of part letters)
part_proper M letters are = are.m
part_proper N letters are = are.n
part_proper T letters are = are.t
part_proper U letters are = are.u

filled_proper : (letters : Letters) → AreProper letters → (needs : List Need) → AllProper (map (filled letters) needs)
filled_proper letters are [] = tt
filled_proper letters are (need.Of wanted part ∷ rest) = (part_proper part letters are, filled_proper letters are rest)
filled_proper letters are (need.Disj left right ∷ rest) =
    ((part_proper left letters are, part_proper right letters are), filled_proper letters are rest)

row_proper : (row : Rule) (c : Claim) (needed : List Claim) → premises_by row c ≡ Some needed → IsProperClaim c
    → AllProper needed
row_proper row c needed e proper = at (letters_in row.conclusion c) refl e
  where
    at : (letters : Option Letters) → letters_in row.conclusion c ≡ letters
        → option_map (λ l. map (filled l) row.premises) letters ≡ Some needed → AllProper needed
    at (Some letters) is f = subst AllProper (some_same _ _ f)
        (filled_proper letters (found_proper row.conclusion c letters is proper) row.premises)
    at None is f = none_some needed f

-- ---- the rules
sound_row_at : (rows : List Rule) → AllSound rows → (i : ℕ) → i < length rows → (other : Rule)
    → IsSoundRow (get_or rows i other)
sound_row_at [] all i inside other = absurd (omega arith)
sound_row_at (row ∷ rest) all zero inside other = all.0
sound_row_at (row ∷ rest) all (suc i) inside other = sound_row_at rest all.1 i (omega arith) other

-- what a rule says of a claim that it fits
record Fit (number : ℕ) (c : Claim) (needed : List Claim) : Type 0 where
  sound : IsProperClaim c → AllTrue needed → IsTrueClaim c
  proper : IsProperClaim c → AllProper needed

sound_at : (number : ℕ) → is_rule number ≡ true → IsSoundRow (row_of number)
unfolding is_rule row_of
sound_at zero is = absurd cc
sound_at (suc i) is = sound_row_at table rows_sound i (below i (length table) is) blank
  where
    below : (j n : ℕ) → (nat_lt 0 (suc j) && nat_le (suc j) n) ≡ true → j < n
    below j n h = grind (arith, nat_tests)

fit_of : (number : ℕ) (c : Claim) (needed : List Claim) → premises number c ≡ Some needed → Fit number c needed
unfolding premises
fit_of number c needed e = at (is_rule number) refl e
  where
    at : (there : Bool) → is_rule number ≡ there → (if there then premises_by (row_of number) c else None) ≡ Some needed
        → Fit number c needed
    at true is f = record {
      sound = λ proper all. sound_at number is c needed proper f all;
      proper = row_proper (row_of number) c needed f;
    }
    at false is f = none_some needed f

-- ---- trees
mutual
  -- a claim with a valid tree is true, where its terms name no number below 1
  pub true_by : (d : RuleTree) (c : Claim) → IsProperClaim c → Valid d c → IsTrueClaim c
  true_by (node number children) c proper valid =
      let fit = fit_of number c valid.0 valid.1 in
      fit.sound proper (all_true_by children valid.0 (fit.proper proper) valid.2)

  all_true_by : (children : RuleTrees) (needed : List Claim) → AllProper needed → AllValid children needed
      → AllTrue needed
  all_true_by none [] proper valid = tt
  all_true_by (more first rest) (c ∷ more_needed) proper valid = (
    true_by first c proper.0 valid.0,
    all_true_by rest
        more_needed proper.1 valid.1,
  )
  all_true_by none (c ∷ more_needed) proper valid = absurd valid
  all_true_by (more first rest) [] proper valid = absurd valid
