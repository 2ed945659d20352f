-- There is one list of reasons against a claim.
use Rattle.std.proofs.Common.{◌≡◌, ℕ, zero, suc, ◌<◌, ◌≤◌, List, [], ◌∷◌, length, take, slice_get, Some, refl}
use Rattle.std.proofs.Common.{sym, ◌∙◌, ap, subst, arith, inl, inr}
use Rattle.std.proofs.lemmas.Bool.{cases_lt}
use Rattle.vir_rules.specs.Claims.{Claim}
use Rattle.vir_rules.specs.Premises.{premises}
use Rattle.vir_rules.specs.Table.{table}
use Rattle.vir_rules.specs.Derivations.{Derivable, AllDerivable}
use Rattle.vir_rules.specs.Reasons.{Reason, IsFirstUnderived, IsReasonOf, IsReasonBy, AreReasonsBy, fitting}
use Rattle.vir_rules.specs.Reasons.{AreReasons}

-- of derivable claims each is derivable
pub derivable_before : (needed : List Claim) (place before : ℕ) (c : Claim) → slice_get needed place ≡ Some c
    → place < before → AllDerivable (take before needed) → Derivable c
derivable_before [] place before c stands inside derivable = cc
derivable_before (first ∷ rest) place zero c stands inside derivable = absurd (omega arith)
derivable_before (first ∷ rest) zero (suc before) c stands inside derivable = let is : first ≡ c = cc
    in subst Derivable is derivable.0
derivable_before (first ∷ rest) (suc place) (suc before) c stands inside derivable = derivable_before rest place before
    c stands (omega arith) derivable.1

-- no first premise that isn't derivable stands before another one
none_before : (needed : List Claim) (number number' : ℕ) (c d : Claim) (first : IsFirstUnderived needed number c)
    (second : IsFirstUnderived needed number' d) → second.before ≤ first.before
none_before needed number number' c d first second = elim (cases_lt first.before second.before) [
  | inl before ↦ absurd (first.underived (derivable_before needed first.before second.before c first.stands before
      second.derivable))
  | inr after ↦ after
]

one_underived : (needed : List Claim) (number number' : ℕ) (c d : Claim) → IsFirstUnderived needed number c
    → IsFirstUnderived needed number' d → (number ≡ number') × (c ≡ d)
one_underived needed number number' c d first second =
    let after : second.before ≤ first.before = none_before needed number number' c d first second in
    let before : first.before ≤ second.before = none_before needed number' number d c second first in
    let same : first.before ≡ second.before = omega arith in
    let stands : slice_get needed first.before ≡ Some c = first.stands in
    let stands' : slice_get needed second.before ≡ Some d = second.stands in
    let number_is = first.number_is in
    let number_is' = second.number_is in
    (cc, cc)

one_reason : (rule : ℕ) (needed : List Claim) (reason other : Reason) → IsReasonOf rule needed reason
    → IsReasonOf rule needed other → reason ≡ other
one_reason rule needed reason other is is' =
    let rules : reason.rule ≡ other.rule = is.of_rule ∙ sym is'.of_rule in
    let rest = one_underived needed reason.number other.number reason.premise other.premise is.first is'.first in
    λ i. record { rule = rules i; number = rest.0 i; premise = rest.1 i }

one_reason_by : (c : Claim) (rule : ℕ) (reason other : Reason) → IsReasonBy c rule reason → IsReasonBy c rule other
    → reason ≡ other
one_reason_by c rule reason other is is' =
    let fits : premises rule c ≡ Some is.needed = is.fits in
    let fits' : premises rule c ≡ Some is'.needed = is'.fits in
    let same : is'.needed ≡ is.needed = cc in
    one_reason rule is.needed reason other is.first (subst (λ needed. IsReasonOf rule needed other) same is'.first)

one_list : (rules : List ℕ) (c : Claim) (reasons others : List Reason) → AreReasonsBy c rules reasons → AreReasonsBy c
    rules others → reasons ≡ others
one_list [] c [] [] are are' = refl
one_list [] c [] (_ ∷ _) are are' = absurd are'
one_list [] c (_ ∷ _) others are are' = absurd are
one_list (rule ∷ rules) c [] others are are' = absurd are
one_list (rule ∷ rules) c (reason ∷ reasons) [] are are' = absurd are'
one_list (rule ∷ rules) c (reason ∷ reasons) (other ∷ others) are are' =
    let first : reason ≡ other = one_reason_by c rule reason other are.0 are'.0 in
    ap (λ r. r ∷ reasons) first ∙ ap (λ rs. other ∷ rs) (one_list rules c reasons others are.1 are'.1)

-- there is one list of reasons against a claim
pub one_list_of_reasons : (c : Claim) (reasons others : List Reason) → AreReasons c reasons → AreReasons c others
    → reasons ≡ others
one_list_of_reasons c reasons others = one_list (fitting (length table) c) c reasons others
