-- The steps of a search through the numbers of alternatives and of voters.
use Rattle.std.proofs.Common.{◌≡◌, ◌≢◌, ℕ, zero, suc, ◌+◌, ◌-◌, ◌<◌, ◌≤◌, List, [], ◌∷◌, ◌++◌, map, length, take}
use Rattle.std.proofs.Common.{get_or, refl}
use Rattle.std.proofs.Common.{sym, ap, ◌∙◌, subst, arith, Result, Ok, Err, IfOk, Option, Some, None, option_map, IfSome}
use Rattle.std.proofs.lemmas.List.{take_all}
use Rattle.std.specs.List.{All, flat_map}
use Rattle.vir_profile.specs.Profiles.{Votes}
use Rattle.vir_term.specs.Tree.{Tree}
use Rattle.vir_term.specs.declared.prop.Prop.{Prop}
use Rattle.vir_mean.specs.Meaning.{mean}
use Rattle.vir_mean.specs.Modules.{Meaning}
use Rattle.vir_mean.specs.Properties.{Holds}
use Rattle.vir_refute.proofs.Violated.{never_violated}
use Rattle.vir_refute.specs.Cases.{Case, AreElections}
use Rattle.vir_refute.specs.Violations.{Violates}
use Rattle.vir_find.specs.declared.found.FoundCase.{FoundCase}
use Rattle.vir_find.specs.Found.{found_case}
use Rattle.vir_find.specs.Going.{going_on}
use Rattle.vir_find.specs.Outcomes.{IsFirst, IsOutcome}
use Rattle.vir_find.specs.Permutations.{up_to, orders}
use Rattle.vir_find.specs.Spreads.{spread}
use Rattle.vir_find.specs.Trials.{cases_at, cases_on, cases}
use Rattle.vir_find.specs.UpTo.{HoldsUpTo}
use Rattle.vir_find.proofs.Completeness.{complete}
use Rattle.vir_find.proofs.Lists.{by_number}
use Rattle.vir_find.proofs.Outcomes.{none_further, first_at}
use Rattle.vir_find.proofs.Permuted.{length-up_to}

-- what stands at a place of a list, with one more at its end
at_front : (xs : List ℕ) (y i : ℕ) → i < length xs → get_or (xs ++ y ∷ []) i 0 ≡ get_or xs i 0
at_front [] y i inside = absurd (omega arith)
at_front (x ∷ xs) y zero inside = refl
at_front (x ∷ xs) y (suc i) inside = at_front xs y i (omega arith)

at_end : (xs : List ℕ) (y i : ℕ) → i ≡ length xs → get_or (xs ++ y ∷ []) i 0 ≡ y
at_end [] y zero end = refl
at_end [] y (suc i) end = absurd (omega arith)
at_end (x ∷ xs) y zero end = absurd (omega arith)
at_end (x ∷ xs) y (suc i) end = at_end xs y i (omega arith)

pub at-up_to : (m i : ℕ) → i < m → get_or (up_to m) i 0 ≡ i + 1
unfolding up_to
at-up_to zero i inside = absurd (omega arith)
at-up_to (suc m) i inside = by_number i m
    (λ same. at_end (up_to m) (suc m) i (same ∙ sym (length-up_to m)) ∙ next m i same)
    (λ other. at_front (up_to m) (suc m) i (let long = length-up_to m in omega arith) ∙ at-up_to m i (omega arith))
  where
    next : (m i : ℕ) → i ≡ m → suc m ≡ i + 1
    next m i e = omega arith

-- ---- the numbers of voters

at_count : (voters i : ℕ) → i ≤ voters → get_or (0 ∷ up_to voters) i 0 ≡ i
at_count voters zero inside = refl
at_count voters (suc i) inside = at-up_to voters i (omega arith) ∙ next i
  where
    next : (i : ℕ) → i + 1 ≡ suc i
    next i = omega arith

counted : (voters i : ℕ) → i ≤ voters → i < length (0 ∷ up_to voters)
counted voters i inside = let long = length-up_to voters in omega arith

-- the cases with so many voters, as the code goes through them
pub spread_of_all : (prop : Prop) (votes : Votes) (m : ℕ) (list : List (List ℕ)) (n : ℕ)
    → votes ≡ record { alternatives = m; lines = [] } → list ≡ orders m
    → flat_map (going_on prop votes) (spread list n) ≡ cases_at prop m n
unfolding cases_at
spread_of_all prop votes m list n empty all =
    ap (λ (v : Votes). flat_map (going_on prop v) (spread list n)) empty
    ∙ ap (λ os. flat_map (going_on prop (record { alternatives = m; lines = [] })) (spread os n)) all

module _ (Wanted : Case → Type 0) (prop : Prop) (voters : ℕ) where
  pub found_by_voters : (m i : ℕ) (c : Case) → i ≤ voters
      → All (λ c. Wanted c → ⊥) (flat_map (cases_at prop m) (take i (0 ∷ up_to voters)))
      → IsFirst Wanted (cases_at prop m i) c → IsFirst Wanted (cases_on prop voters m) c
  unfolding cases_on
  found_by_voters m i c inside none found =
      first_at Wanted (cases_at prop m) (0 ∷ up_to voters) i c (counted voters i inside) none
      (subst (λ n. IsFirst Wanted (cases_at prop m n) c) (sym (at_count voters i inside)) found)

  pub none_by_voters : (m i : ℕ) → i ≤ voters
      → All (λ c. Wanted c → ⊥) (flat_map (cases_at prop m) (take i (0 ∷ up_to voters)))
      → All (λ c. Wanted c → ⊥) (cases_at prop m i)
      → All (λ c. Wanted c → ⊥) (flat_map (cases_at prop m) (take (i + 1) (0 ∷ up_to voters)))
  none_by_voters m i inside none found =
      none_further Wanted (cases_at prop m) (0 ∷ up_to voters) i (counted voters i inside) none
      (subst (λ n. All (λ c. Wanted c → ⊥) (cases_at prop m n)) (sym (at_count voters i inside)) found)

  pub none_of_voters : (m i : ℕ) → voters + 1 ≤ i
      → All (λ c. Wanted c → ⊥) (flat_map (cases_at prop m) (take i (0 ∷ up_to voters)))
      → All (λ c. Wanted c → ⊥) (cases_on prop voters m)
  unfolding cases_on
  none_of_voters m i end none =
      subst (λ list. All (λ c. Wanted c → ⊥) (flat_map (cases_at prop m) list)) (take_all i (0 ∷ up_to voters)
      (let long = length-up_to voters in omega arith)) none

  -- ---- the numbers of alternatives
  pub found_by_number : (most i : ℕ) (c : Case) → i < most
      → All (λ c. Wanted c → ⊥) (flat_map (cases_on prop voters) (take i (up_to most)))
      → IsFirst Wanted (cases_on prop voters (i + 1)) c → IsFirst Wanted (cases prop most voters) c
  unfolding cases
  found_by_number most i c inside none found =
      first_at Wanted (cases_on prop voters) (up_to most) i c (let long = length-up_to most in omega arith) none
      (subst (λ n. IsFirst Wanted (cases_on prop voters n) c) (sym (at-up_to most i inside)) found)

  pub none_by_number : (most i : ℕ) → i < most
      → All (λ c. Wanted c → ⊥) (flat_map (cases_on prop voters) (take i (up_to most)))
      → All (λ c. Wanted c → ⊥) (cases_on prop voters (i + 1))
      → All (λ c. Wanted c → ⊥) (flat_map (cases_on prop voters) (take (i + 1) (up_to most)))
  none_by_number most i inside none found =
      none_further Wanted (cases_on prop voters) (up_to most) i (let long = length-up_to most in omega arith) none
      (subst (λ n. All (λ c. Wanted c → ⊥) (cases_on prop voters n)) (sym (at-up_to most i inside)) found)

  pub none_of_number : (most i : ℕ) → most ≤ i
      → All (λ c. Wanted c → ⊥) (flat_map (cases_on prop voters) (take i (up_to most)))
      → All (λ c. Wanted c → ⊥) (cases prop most voters)
  unfolding cases
  none_of_number most i end none =
      subst (λ list. All (λ c. Wanted c → ⊥) (flat_map (cases_on prop voters) list)) (take_all i (up_to most)
      (let long = length-up_to most in omega arith)) none

-- where none is found, the property holds up to that size
pub none_found : {E : Type 0} (t : Tree) (prop : Prop) (most voters : ℕ) (result : Result (Option FoundCase) E)
    → IfOk result (λ found. IsOutcome (Violates prop (mean t)) (cases prop most voters) (option_map found_case found))
    → result ≡ Ok None → HoldsUpTo most voters prop (mean t)
none_found t prop most voters result outcome is = complete t prop most voters
    (subst (λ r. IfOk r (λ found. IsOutcome (Violates prop (mean t)) (cases prop most voters)
    (option_map found_case found)))
    is outcome)

-- what is found is a counterexample
pub found_refutes : (prop : Prop) (m : Meaning) (list : List Case) (found : Option FoundCase)
    → IsOutcome (Violates prop m) list (option_map found_case found) → IfSome found (λ c. AreElections (found_case c))
    → IfSome found (λ _. Holds prop m → ⊥)
found_refutes prop m list (Some c) first elections = λ holds. never_violated prop m holds
    (found_case c) elections first.wanted
found_refutes prop m list None none elections = elections
