-- The names of the rules differ.
use Rattle.std.proofs.Common.{◌≡◌, ◌≢◌, ℕ, zero, suc, ◌+◌, ◌<◌, ◌≤◌, List, [], ◌∷◌, map, length, get_or, Bool, true}
use Rattle.std.proofs.Common.{false, not, ◌&&◌, nat_eq, refl, sym, arith, inl, inr}
use Rattle.std.specs.List.{list_any}
use Rattle.std.specs.Cmp.Lexicographic.{pointwise, other_text}
use Rattle.std.proofs.lemmas.Bool.{cases_lt}
use Rattle.std.proofs.lemmas.List.{get_or-map, length-map}
use Rattle.vir_rules.specs.Counts.{rule_count}
use Rattle.vir_rules.specs.Table.{Rule, table}
use Rattle.vir_rules.specs.Premises.{row_of, blank}
use Rattle.vir_rules.proofs.Rows.{table_is_long}

-- whether two texts are the same
abbrev is_same_text : List ℕ → List ℕ → Bool
is_same_text text other = pointwise nat_eq text other

-- whether no text is one after it
abbrev differ : List (List ℕ) → Bool
differ [] = true
differ (first ∷ rest) = not (list_any (is_same_text first) rest) && differ rest

none_is : (text : List ℕ) (rest : List (List ℕ)) (place : ℕ) → list_any (is_same_text text) rest ≡ false
    → place < length rest →
    is_same_text text (get_or rest place []) ≡ false
none_is text [] place none inside = absurd (omega arith)
none_is text (first ∷ rest) zero none inside = grind arith
none_is text (first ∷ rest) (suc place) none inside = none_is text rest place (grind arith) (omega arith)

later_is_not : (texts : List (List ℕ)) (place later : ℕ) → differ texts ≡ true → place < later → later < length texts →
    is_same_text (get_or texts place []) (get_or texts later []) ≡ false
later_is_not [] place later different before inside = absurd (omega arith)
later_is_not (first ∷ rest) place zero different before inside = absurd (omega arith)
later_is_not (first ∷ rest) zero (suc later) different before inside = none_is first rest later (grind arith)
    (omega arith)
later_is_not (first ∷ rest) (suc place) (suc later) different before inside = later_is_not rest place later
    (grind arith) (omega arith) (omega arith)

-- the names of the rules, and first the one that stands for none
names : List (List ℕ)
names = map (λ (r : Rule). r.name) (blank ∷ table)

names_differ : differ names ≡ true
unfolding names table
names_differ = refl

names_long : length names ≡ rule_count + 1
unfolding names
names_long = let long = length-map (blank ∷ table) (λ (r : Rule). r.name) in omega (arith, long, table_is_long)

name_at : (rule : ℕ) → rule ≤ rule_count → get_or names rule [] ≡ (row_of rule).name
unfolding names row_of
name_at rule few = get_or-map (λ (r : Rule). r.name) (blank ∷ table) rule blank [] (omega (arith, table_is_long))

later_differs : (rule other : ℕ) → rule < other → other ≤ rule_count → (row_of rule).name ≢ (row_of other).name
later_differs rule other before few =
    rw (name_at rule (omega arith), name_at other few) at (other_text (get_or names rule []) (get_or names other [])
    (sym (later_is_not names rule other names_differ before (omega (arith, names_long)))))

-- two rules of one name are one
pub same_name : (rule other : ℕ) → rule ≤ rule_count → other ≤ rule_count → (row_of rule).name ≡ (row_of other).name
    → rule ≡ other
same_name rule other few few' same = elim (cases_lt rule other) [
  | inl before ↦ absurd (later_differs rule other before few' same)
  | inr after ↦ elim (cases_lt other rule) [
    | inl before ↦ absurd (later_differs other rule before few (sym same))
    | inr after' ↦ omega arith
  ]
]
