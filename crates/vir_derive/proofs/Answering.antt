-- First derivations and reasons, put together rule by rule and premise by premise.
use Rattle.std.proofs.Common.{◌≡◌, ◌↔◌, IfOk, ℕ, zero, suc, ◌+◌, Bool, true, cond, List, [], ◌∷◌, ◌++◌, map}
use Rattle.std.proofs.Common.{filter, take}
use Rattle.std.proofs.Common.{Option, Some, None, MatchOption, slice_get, refl, sym, ◌∙◌, ap, subst, add-one, arith}
use Rattle.std.specs.List.{range_with_len}
use Rattle.std.proofs.lemmas.List.{map-id, append-nil}
use Rattle.std.proofs.lemmas.List.FromFn.{filter_of_map_range_with_len_more}
use Rattle.std.specs.Option.{is_some}
use Rattle.std.specs.declared.result.Result.{Result}
use Rattle.std.specs.declared.result.Result.TheVariants.{Ok, Err}
use Rattle.either.specs.Either.{is_left}
use Rattle.either.specs.declared.Either.{Either}
use Rattle.either.specs.declared.Either.TheVariants.{Left, Right}
use Rattle.vir_rules.specs.declared.derivation.Derivation.{Derivation}
use Rattle.vir_rules.specs.declared.why.Why.{Why}
use Rattle.vir_rules.specs.declared.why.WhyLine.{WhyLine}
use Rattle.vir_rules.specs.Claims.{Claim}
use Rattle.vir_rules.specs.Derivations.{Derivable, AllDerivable, Fails, IsFirst, AreFirst}
use Rattle.vir_rules.specs.Premises.{premises, fits}
use Rattle.vir_rules.specs.Reasons.{Reason, IsReasonOf, IsReasonBy, AreReasonsBy, AreReasons, fitting, reason_seen}
use Rattle.vir_rules.specs.RuleTrees.{RuleTree, gathered, rule_tree}
use Rattle.vir_rules.specs.declared.rule_id.TheConstants.RuleId.{COUNT}
use Rattle.vir_derive.specs.Answers.{Answers}
use Rattle.vir_derive.proofs.Deriving.{derivable_by, fails_at, first_derives}
use Rattle.vir_derive.proofs.Rows.{no_true, table_size}

-- A reason against deriving by a rule, or none where all premises are derivable.
abbrev pub IsReasonFor : ℕ → List Claim → Option WhyLine → Type 0
IsReasonFor rule needed found = MatchOption found (AllDerivable needed)
    (λ line. IsReasonOf rule needed (reason_seen line))

-- a rule against which there is a reason fails
pub reason_fails : (rule : ℕ) (c : Claim) (needed : List Claim) (found : Option WhyLine) → premises rule c ≡ Some needed
    → is_some found ≡ true → IsReasonFor rule needed found → Fails rule c
reason_fails rule c needed None e h r = cc
reason_fails rule c needed (Some line) e h r = fails_at rule c needed r.first.before (reason_seen line).premise e
    r.first.stands r.first.underived

-- one first derivation more
pub first_more : (trees : List RuleTree) (needed : List Claim) (tree : RuleTree) (premise : Claim)
    → AreFirst (gathered trees) needed → IsFirst tree premise → AreFirst (gathered (trees ++ tree ∷ []))
    (needed ++ premise ∷ [])
first_more [] [] tree premise f g = (g, tt)
first_more [] (_ ∷ _) tree premise f g = absurd f
first_more (other ∷ trees) [] tree premise f g = absurd f
first_more (other ∷ trees) (c ∷ needed) tree premise f g = (f.0, first_more trees needed tree premise f.1 g)

take_next : {A : Type 0} (xs : List A) (i : ℕ) (x : A) → slice_get xs i ≡ Some x → take (i + 1) xs ≡ take i xs ++ x ∷ []
take_next [] i x h = cc
take_next (y ∷ ys) zero x h = cc
take_next (y ∷ ys) (suc i) x h = rw (add-one (suc i)) (ap (λ zs. y ∷ zs) (rw add-one at (take_next ys i x h)))

-- the first derivations of one premise more
pub child_more : (trees others : List RuleTree) (needed : List Claim) (i : ℕ) (tree : RuleTree) (premise : Claim)
    → others ≡ trees ++ tree ∷ [] → slice_get needed i ≡ Some premise → AreFirst (gathered trees) (take i needed)
    → IsFirst tree premise →
    AreFirst (gathered others) (take (i + 1) needed)
child_more trees others needed i tree premise e h f g =
    subst (λ xs. AreFirst (gathered xs) (take (i + 1) needed)) (sym e)
    (subst (λ xs. AreFirst (gathered (trees ++ tree ∷ [])) xs) (sym (take_next needed i premise h))
    (first_more trees (take i needed) tree premise f g))

-- the reasons of no rules
pub reasons_of_none : (c : Claim) (reasons : List Reason) → reasons ≡ [] → AreReasonsBy c (fitting 0 c) reasons
unfolding fitting
reasons_of_none c reasons e = subst (AreReasonsBy c []) (sym e) tt

one_more : (c : Claim) (rules : List ℕ) (reasons : List Reason) (rule : ℕ) (reason : Reason)
    → AreReasonsBy c rules reasons → IsReasonBy c rule reason
    → AreReasonsBy c (rules ++ rule ∷ []) (reasons ++ reason ∷ [])
one_more c [] [] rule reason are is = (is, tt)
one_more c [] (_ ∷ _) rule reason are is = absurd are
one_more c (_ ∷ _) [] rule reason are is = absurd are
one_more c (first ∷ rules) (given ∷ reasons) rule reason are is = (are.0, one_more c rules reasons rule reason are.1 is)

-- the next rule stands behind those that fit so far, where it fits
fitting_more : (i : ℕ) (c : Claim) → fitting (i + 1) c ≡ fitting i c ++ cond (fits (i + 1) c) ((i + 1) ∷ []) []
unfolding fitting
fitting_more i c =
    let test : ℕ → Bool = λ rule. fits rule c in
    sym (ap (filter test) (map-id (range_with_len 1 (i + 1))))
    ∙ filter_of_map_range_with_len_more test (λ x. x) 1 i (i + 1) (omega arith)
    ∙ ap (λ xs. filter test xs ++ cond (test (i + 1)) ((i + 1) ∷ []) []) (map-id (range_with_len 1 i))

more_reasons : (i : ℕ) (c : Claim) (reasons : List Reason) (o : Option (List Claim)) → premises (i + 1) c ≡ o
    → AreReasonsBy c (fitting i c ++ cond (is_some o) ((i + 1) ∷ []) []) reasons
    → AreReasonsBy c (fitting (i + 1) c) reasons
more_reasons i c reasons o e are =
    let rules = fitting_more i c ∙ ap (λ p. fitting i c ++ cond (is_some p) ((i + 1) ∷ []) []) e in
    subst (λ rs. AreReasonsBy c rs reasons) (sym rules) are

-- a rule without a reason doesn't fit, and adds none
pub reasons_without : (i rule : ℕ) (c : Claim) (reasons : List Reason) (found : Option WhyLine) → rule ≡ i + 1
    → (Derivable c → ⊥) → found ≡ None → ((needed : List Claim) → premises rule c ≡ Some needed
    → IsReasonFor rule needed found) →
    AreReasonsBy c (fitting i c) reasons → AreReasonsBy c (fitting (i + 1) c) reasons
reasons_without i rule c reasons found h n e f r = by (premises (i + 1) c) refl
  where
    by : (o : Option (List Claim)) → premises (i + 1) c ≡ o → AreReasonsBy c (fitting (i + 1) c) reasons
    by None p = more_reasons i c reasons None p (subst (λ rs. AreReasonsBy c rs reasons)
        (sym (append-nil (fitting i c)))
        r)
    by (Some needed) p =
        let q : premises rule c ≡ Some needed = ap (λ k. premises k c) h ∙ p in
        absurd (n (derivable_by rule c needed q (subst (IsReasonFor rule needed) e (f needed q))))

-- a rule with a reason fits, and adds it
pub reasons_with : (i rule : ℕ) (c : Claim) (reasons others : List Reason) (found : Option WhyLine) (line : WhyLine)
    → rule ≡ i + 1 → found ≡ Some line → others ≡ reasons ++ reason_seen line ∷ []
    → (premises rule c ≡ None → found ≡ None) →
    ((needed : List Claim) → premises rule c ≡ Some needed → IsReasonFor rule needed found)
    → AreReasonsBy c (fitting i c) reasons → AreReasonsBy c (fitting (i + 1) c) others
reasons_with i rule c reasons others found line h e m u f r = by (premises (i + 1) c) refl
  where
    some_none : Some line ≡ None → ⊥
    some_none same = cc

    by : (o : Option (List Claim)) → premises (i + 1) c ≡ o → AreReasonsBy c (fitting (i + 1) c) others
    by None p = absurd (some_none (sym e ∙ u (ap (λ k. premises k c) h ∙ p)))
    by (Some needed) p =
        let q : premises rule c ≡ Some needed = ap (λ k. premises k c) h ∙ p in
        let first : IsReasonOf (i + 1) needed (reason_seen line)
        = subst (λ k. IsReasonOf k needed (reason_seen line)) h (subst (IsReasonFor rule needed) e (f needed q)) in
        subst (AreReasonsBy c (fitting (i + 1) c)) (sym m) (more_reasons i c (reasons ++ reason_seen line ∷ [])
        (Some needed) p (one_more c (fitting i c) reasons (i + 1) (reason_seen line) r
        (record { needed = needed; fits = p; first = first })))

-- the reasons of all rules
pub all_reasons : (i : ℕ) (c : Claim) (reasons : List Reason) → i ≡ COUNT → AreReasonsBy c (fitting i c) reasons
    → AreReasons c reasons
all_reasons i c reasons e r = subst (λ n. AreReasonsBy c (fitting n c) reasons) (e ∙ sym table_size) r

decided_by_answer : (answer : Either Derivation Why) (c : Claim) → Answers answer c → (is_left answer ≡ true)
    ↔ Derivable c
decided_by_answer (Left d) c f = ((λ h. first_derives (rule_tree d) c f), (λ d. refl))
decided_by_answer (Right why) c f = ((λ h. no_true h), (λ d. absurd (f.0 d)))

-- an answer is a derivation just where there is one
pub answer_decides : {E : Type 0} (result : Result (Either Derivation Why) E) (c : Claim)
    → IfOk result (λ answer. Answers answer c) → IfOk result (λ answer. (is_left answer ≡ true) ↔ Derivable c)
answer_decides (Ok answer) c h = decided_by_answer answer c h
answer_decides (Err e) c h = tt
