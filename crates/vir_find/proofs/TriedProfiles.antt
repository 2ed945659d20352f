-- What is found among the cases of a profile, where it is tried alone, or by exchanges.
use Rattle.std.proofs.Common.{◌≡◌, ◌≢◌, ℕ, suc, ◌+◌, ◌-◌, ◌<◌, ◌≤◌, true, false, List, [], ◌∷◌, ◌++◌, map, length, take}
use Rattle.std.proofs.Common.{get_or, refl, sym, ap, ◌∙◌, subst, arith}
use Rattle.std.proofs.lemmas.List.{take_all}
use Rattle.std.proofs.lemmas.List.Elements.{All-nil, All-cons}
use Rattle.std.specs.List.{All, flat_map}
use Rattle.vir_profile.specs.declared.ballot.Entry.{Entry}
use Rattle.vir_profile.specs.Profiles.{Votes}
use Rattle.vir_term.specs.declared.prop.Prop.{Prop}
use Rattle.vir_term.specs.declared.prop.Prop.TheVariants.{Neut}
use Rattle.vir_refute.specs.Cases.{Case, one}
use Rattle.vir_refute.specs.Judged.{election_of}
use Rattle.vir_refute.specs.Violations.{is_on_lifts}
use Rattle.vir_find.specs.Outcomes.{IsFirst}
use Rattle.vir_find.specs.Permutations.{up_to}
use Rattle.vir_find.specs.Trials.{election, exchange_case, cases_of}
use Rattle.vir_find.proofs.CaseKinds.{cases_of-one, other_property}
use Rattle.vir_find.proofs.Outcomes.{none_further, first_at}
use Rattle.vir_find.proofs.Permuted.{length-up_to}
use Rattle.vir_find.proofs.PlacesAndLines.{flat_map-one}
use Rattle.vir_find.proofs.Sizes.{at-up_to}

module _ (Wanted : Case → Type 0) (prop : Prop) (votes : Votes) (kind : is_on_lifts prop ≡ false) (other : prop ≢ Neut)
  where
    alone : cases_of prop votes.alternatives votes.lines ≡ one (election_of votes) ∷ []
    alone = cases_of-one prop votes.alternatives votes.lines kind (other_property prop other)

    pub first_of_one : (copy : Votes) → copy ≡ votes → Wanted (one (election_of votes))
        → IsFirst Wanted (cases_of prop votes.alternatives votes.lines) (one (election_of copy))
    first_of_one copy same wanted =
        subst (λ list. IsFirst Wanted list (one (election_of copy))) (sym alone)
        (subst (λ (v : Votes). IsFirst Wanted (one (election_of votes) ∷ []) (one (election_of v))) (sym same)
        (record { before = []; after = []; place = refl; earlier = All-nil (λ c. Wanted c → ⊥); wanted = wanted }))

    pub none_of_one : (Wanted (one (election_of votes)) → ⊥)
        → All (λ c. Wanted c → ⊥) (cases_of prop votes.alternatives votes.lines)
    none_of_one unwanted = subst (All (λ c. Wanted c → ⊥)) (sym alone)
        (All-cons (λ c. Wanted c → ⊥) (one (election_of votes)) [] unwanted (All-nil (λ c. Wanted c → ⊥)))

module _ (Wanted : Case → Type 0) (m : ℕ) (lines : List Entry) where
  abbrev pub exchange_at : ℕ → List Case
  exchange_at i = exchange_case m lines i ∷ []

  here : (k : ℕ) → k < m - 1 → get_or (up_to (m - 1)) k 0 ≡ k + 1
  here k inside = at-up_to (m - 1) k inside

  whole : cases_of Neut m lines ≡ flat_map (λ i. exchange_case m lines i ∷ []) (up_to (m - 1))
  whole = flat_map-one (exchange_case m lines) (up_to (m - 1))

  short : (k : ℕ) → k < m - 1 → k < length (up_to (m - 1))
  short k inside = let long = length-up_to (m - 1) in omega arith

  pub found_by_exchange : (k : ℕ) (c : Case) → k < m - 1
      → All (λ c. Wanted c → ⊥) (flat_map (λ i. exchange_case m lines i ∷ []) (take k (up_to (m - 1))))
      → IsFirst Wanted (exchange_case m lines (k + 1) ∷ []) c → IsFirst Wanted (cases_of Neut m lines) c
  found_by_exchange k c inside none found =
      subst (λ list. IsFirst Wanted list c) (sym whole)
      (first_at Wanted (λ i. exchange_case m lines i ∷ []) (up_to (m - 1)) k c (short k inside) none
      (subst (λ i. IsFirst Wanted (exchange_case m lines i ∷ []) c) (sym (here k inside)) found))

  pub none_by_exchange : (k : ℕ) → k < m - 1
      → All (λ c. Wanted c → ⊥) (flat_map (λ i. exchange_case m lines i ∷ []) (take k (up_to (m - 1))))
      → All (λ c. Wanted c → ⊥) (exchange_case m lines (k + 1) ∷ [])
      → All (λ c. Wanted c → ⊥) (flat_map (λ i. exchange_case m lines i ∷ []) (take (k + 1) (up_to (m - 1))))
  none_by_exchange k inside none found =
      none_further Wanted (λ i. exchange_case m lines i ∷ []) (up_to (m - 1)) k (short k inside) none
      (subst (λ i. All (λ c. Wanted c → ⊥) (exchange_case m lines i ∷ [])) (sym (here k inside)) found)

  pub none_of_exchanges : (k : ℕ) → m - 1 ≤ k
      → All (λ c. Wanted c → ⊥) (flat_map (λ i. exchange_case m lines i ∷ []) (take k (up_to (m - 1))))
      → All (λ c. Wanted c → ⊥) (cases_of Neut m lines)
  none_of_exchanges k end none = subst (All (λ c. Wanted c → ⊥)) (sym whole)
      (subst (λ list. All (λ c. Wanted c → ⊥) (flat_map (λ i. exchange_case m lines i ∷ []) list))
      (take_all k (up_to (m - 1)) (let long = length-up_to (m - 1) in omega arith)) none)
