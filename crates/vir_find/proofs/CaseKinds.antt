-- The cases of a profile, by the kind of the property.
use Rattle.std.proofs.Common.{◌≡◌, ◌≢◌, ◌⊎◌, inl, inr, ℕ, ◌-◌, Bool, true, false, true≢false, cond}
use Rattle.std.proofs.Common.{List, [], ◌∷◌, map, refl}
use Rattle.std.proofs.Common.{ap, ◌∙◌, sym}
use Rattle.vir_profile.specs.declared.ballot.Entry.{Entry}
use Rattle.vir_term.specs.declared.prop.Prop.{Prop}
use Rattle.vir_term.specs.declared.prop.Prop.TheVariants.{Neut}
use Rattle.vir_refute.specs.Cases.{Election, Case, one, pair}
use Rattle.vir_refute.specs.Violations.{is_on_lifts, PremiseOnOne}
use Rattle.vir_find.specs.Permutations.{up_to}
use Rattle.vir_find.specs.Raises.{single_lifts}
use Rattle.vir_find.specs.Trials.{election, lift_case, exchange_case, is_neutrality, cases_of}

pub neutrality : (prop : Prop) → is_neutrality prop ≡ true → prop ≡ Neut
neutrality Neut is = refl
neutrality _ is = absurd (true≢false (sym is))

pub other_property : (prop : Prop) → prop ≢ Neut → is_neutrality prop ≡ false
other_property Neut other = absurd (other refl)
other_property _ other = refl

-- neutrality asks nothing of one profile alone
pub never_of_neutrality : (prop : Prop) (e : Election) → is_neutrality prop ≡ true → PremiseOnOne prop e → ⊥
never_of_neutrality Neut e is premise = premise
never_of_neutrality _ e is premise = true≢false (sym is)

module _ (prop : Prop) (m : ℕ) (lines : List Entry) where
  pub cases_of-lifts : is_on_lifts prop ≡ true → cases_of prop m lines
      ≡ pair (election m lines) (election m lines) 1 ∷ map (lift_case m) (single_lifts lines)
  cases_of-lifts kind = ap (λ b. cond b
      (pair (election m lines) (election m lines) 1 ∷ map (lift_case m) (single_lifts lines))
      (cond (is_neutrality prop) (map (exchange_case m lines) (up_to (m - 1))) (one (election m lines) ∷ []))) kind

  pub cases_of-exchanges : prop ≡ Neut → cases_of prop m lines ≡ map (exchange_case m lines) (up_to (m - 1))
  cases_of-exchanges same = ap (λ (p : Prop). cases_of p m lines) same

  pub cases_of-one : is_on_lifts prop ≡ false → is_neutrality prop ≡ false → cases_of prop m lines
      ≡ one (election m lines) ∷ []
  cases_of-one kind other = ap (λ b. cond b
      (pair (election m lines) (election m lines) 1 ∷ map (lift_case m) (single_lifts lines))
      (cond (is_neutrality prop) (map (exchange_case m lines) (up_to (m - 1))) (one (election m lines) ∷ []))) kind
      ∙ ap (λ b. cond b (map (exchange_case m lines) (up_to (m - 1))) (one (election m lines) ∷ [])) other
