-- A text of visits tells just these visits.
use Rattle.std.proofs.Common.{◌≡◌, ℕ, zero, suc, ◌≤◌, ◌||◌, Bool, true, false, true≢false}
use Rattle.std.proofs.Common.{cond, nat_eq, List, [], ◌∷◌, ◌++◌}
use Rattle.std.proofs.Common.{Option, Some, None, codes, decimal, drop, refl, sym, ap, ◌∙◌, append_assoc, arith}
use Rattle.std.proofs.lemmas.Bool.Decides.{nat_tests}
use Rattle.std.proofs.lemmas.List.{append_cancel_left}
use Rattle.std.proofs.lemmas.List.Folds.{list_any-append}
use Rattle.std.specs.FinSet as set
use Rattle.std.specs.List.{AllByRecursion, flat_map, list_any}
use Rattle.vir_altset.specs.Sets.{Set, limit, IsBounded}
use Rattle.vir_altset.specs.SetLaws.{same_members}
use Rattle.vir_altset.specs.Members.{members, members_up_to}
use Rattle.vir_altset.specs.declared.split.Split.{Split}
use Rattle.vir_report.specs.ResultText.{set_line, spaced}
use Rattle.vir_term.specs.Tree.{Tree}
use Rattle.vir_simplify.specs.Places.{subterm_at}
use Rattle.vir_explain.specs.Visits.{Scored, Visit}
use Rattle.vir_explain.specs.VisitTexts.{head_text, scored_text, scores_text, visit_text, visits_text}
use Rattle.vir_explain.specs.Legible.{AreLegible, AreShortScores, IsLegible, IsShort}
use Rattle.vir_explain.proofs.Accounting.{each_of_both}
use Rattle.vir_explain.proofs.ReadTexts.{apart, number_read, numbers_read, past_space, scores_read}
use Rattle.vir_explain.proofs.ToldScores.{member_listed}

-- ---- sets

-- who is listed is a member
listed_is : (n : ℕ) (a : Set) (x : ℕ) → list_any (nat_eq x) (members_up_to n a) ≡ true → set.contains a x ≡ true
unfolding members_up_to
listed_is zero a x there = absurd (true≢false (sym there))
listed_is (suc n) a x there = by (listed_is n a x) (set.contains a (suc n)) refl there
  where
    here : (b : Bool) → (b || (nat_eq x (suc n) || false)) ≡ true → b ≡ false → x ≡ suc n
    here b is none = grind (arith, nat_tests)

    last : (list_any (nat_eq x) (members_up_to n a) ≡ true → set.contains a x ≡ true) → (b : Bool)
        → list_any (nat_eq x) (members_up_to n a) ≡ b → set.contains a (suc n) ≡ true
        → (b || (nat_eq x (suc n) || false)) ≡ true → set.contains a x ≡ true
    last earlier true before end is = earlier before
    last earlier false before end is = ap (set.contains a) (here false is refl) ∙ end

    by : (list_any (nat_eq x) (members_up_to n a) ≡ true → set.contains a x ≡ true) → (b : Bool)
        → set.contains a (suc n) ≡ b
        → list_any (nat_eq x) (cond b (members_up_to n a ++ suc n ∷ []) (members_up_to n a)) ≡ true
        → set.contains a x ≡ true
    by earlier true end is = last earlier (list_any (nat_eq x) (members_up_to n a)) refl end
        (sym (list_any-append (nat_eq x) (members_up_to n a) (suc n ∷ [])) ∙ is)
    by earlier false end is = earlier is

-- sets with the same members are equal
members_same : (a b : Set) → IsBounded a → IsBounded b → members a ≡ members b → a ≡ b
members_same a b bounded bounded' same = same_members a b (λ x. both (set.contains a x) (set.contains b x)
    (λ member. listed_is limit b x (ap (list_any (nat_eq x)) (sym same) ∙ member_listed a x bounded member))
    (λ member. listed_is limit a x (ap (list_any (nat_eq x)) same ∙ member_listed b x bounded' member)))
  where
    both : (b c : Bool) → (b ≡ true → c ≡ true) → (c ≡ true → b ≡ true) → b ≡ c
    both b c on back = grind arith

-- members are small numbers
pub members_short : (n : ℕ) (a : Set) → n ≤ limit → AllByRecursion IsShort (members_up_to n a)
unfolding members_up_to
members_short zero a few = tt
members_short (suc n) a few = by (members_short n a (omega arith)) (set.contains a (suc n))
  where
    by : AllByRecursion IsShort (members_up_to n a) → (b : Bool)
        → AllByRecursion IsShort (cond b (members_up_to n a ++ suc n ∷ []) (members_up_to n a))
    by before true = each_of_both IsShort (members_up_to n a) (suc n ∷ []) before (omega arith, tt)
    by before false = before

line_shape : (name numbers r : List ℕ) → ((name ++ 58 ∷ []) ++ numbers) ++ 10 ∷ [] ++ r ≡ name ++ 58 ∷
    (numbers ++ 10 ∷ r)
line_shape name numbers r = simp append_assoc

set_read : (name : List ℕ) (a b : Set) (r s : List ℕ) → IsBounded a → IsBounded b
    → set_line name a ++ r ≡ set_line name b ++ s → (a ≡ b) × (r ≡ s)
set_read name a b r s bounded bounded' e =
    let shaped : name ++ 58 ∷ (spaced (members a) ++ 10 ∷ r) ≡ name ++ 58 ∷ (spaced (members b) ++ 10 ∷ s) =
    sym (line_shape name (spaced (members a)) r) ∙ e ∙ line_shape name (spaced (members b)) s in
    let tail : spaced (members a) ++ 10 ∷ r ≡ spaced (members b) ++ 10 ∷ s =
    ap (drop 1) (append_cancel_left name (58 ∷ (spaced (members a) ++ 10 ∷ r)) (58 ∷ (spaced (members b) ++ 10 ∷ s))
    shaped) in
    let parts = numbers_read (members a) (members b) r s (members_short limit a (omega arith))
    (members_short limit b (omega arith)) tail in
    (members_same a b bounded bounded' parts.0, parts.1)

-- ---- scores, where there are scores

-- The text doesn't begin as a line of scores does.
abbrev IsUnscored : List ℕ → Type 0
IsUnscored r = (t : List ℕ) → r ≡ 115 ∷ t → ⊥

scores_shape : (list r : List ℕ) → (codes "scores:" ++ list ++ 10 ∷ []) ++ r ≡ codes "scores:" ++ (list ++ 10 ∷ r)
scores_shape list r = simp append_assoc

told_scores_read : (one other : Option (List Scored)) (r s : List ℕ) → AreShortScores one → AreShortScores other
    → IsUnscored r → IsUnscored s → scores_text one ++ r ≡ scores_text other ++ s → (one ≡ other) × (r ≡ s)
told_scores_read None None r s short short' ur us e = (refl, e)
told_scores_read None (Some list) r s short short' ur us e = absurd
    (ur _ (e ∙ scores_shape (flat_map scored_text list) s))
told_scores_read (Some list) None r s short short' ur us e =
    absurd (us _ (sym e ∙ scores_shape (flat_map scored_text list) r))
told_scores_read (Some us) (Some vs) r s short short' ur us' e =
    let line = append_cancel_left (codes "scores:") (flat_map scored_text us ++ 10 ∷ r)
    (flat_map scored_text vs ++ 10 ∷ s)
    (sym (scores_shape (flat_map scored_text us) r) ∙ e ∙ scores_shape (flat_map scored_text vs) s) in
    let parts = scores_read us vs r s short short' line in
    (ap Some parts.0, parts.1)

-- ---- visits

-- what stands behind the scores
abbrev split_text : Split → List ℕ → List ℕ
split_text s r = set_line (codes "elected") s.elected ++ (set_line (codes "rejected") s.rejected
    ++ (set_line (codes "deferred") s.deferred ++ r))

-- a visit with what stands behind it, from its first number on
abbrev behind_place : Visit → List ℕ → List ℕ
behind_place v r = 32 ∷ (head_text v.term ++ 10 ∷ (set_line (codes "of") v.domain
    ++ (scores_text v.scores ++ split_text v.split r)))

parts_shape : (b d h o sc e j f r : List ℕ)
    → (((((((b ++ d) ++ 32 ∷ []) ++ h) ++ 10 ∷ []) ++ o) ++ sc) ++ ((e ++ j) ++ f)) ++ r
    ≡ b ++ (d ++ 32 ∷ (h ++ 10 ∷ (o ++ (sc ++ (e ++ (j ++ (f ++ r)))))))
parts_shape b d h o sc e j f r = simp append_assoc

visit_shape : (v : Visit) (r : List ℕ) → visit_text v ++ r ≡ codes "\nat " ++ (decimal v.place ++ behind_place v r)
visit_shape v r = parts_shape (codes "\nat ") (decimal v.place) (head_text v.term) (set_line (codes "of") v.domain)
    (scores_text v.scores) (set_line (codes "elected") v.split.elected) (set_line (codes "rejected") v.split.rejected)
    (set_line (codes "deferred") v.split.deferred) r

unscored_split : (s : Split) (r : List ℕ) → IsUnscored (split_text s r)
unscored_split s r t e = apart 101 115 _ _ (omega arith) e

split_read : (one other : Split) (r s : List ℕ) → IsBounded one.elected → IsBounded one.rejected → IsBounded
    one.deferred
    → IsBounded other.elected → IsBounded other.rejected → IsBounded other.deferred
    → split_text one r ≡ split_text other s → (one ≡ other) × (r ≡ s)
split_read one other r s be br bd be' br' bd' e =
    let elected = set_read (codes "elected") one.elected other.elected _ _ be be' e in
    let rejected = set_read (codes "rejected") one.rejected other.rejected _ _ br br' elected.1 in
    let deferred = set_read (codes "deferred") one.deferred other.deferred r s bd bd' rejected.1 in
    ((λ i. record { elected = elected.0 i; rejected = rejected.0 i; deferred = deferred.0 i }), deferred.1)

visit_read : (rule : Tree) (u v : Visit) (r s : List ℕ) → IsLegible rule u → IsLegible rule v
    → visit_text u ++ r ≡ visit_text v ++ s → (u ≡ v) × (r ≡ s)
visit_read rule u v r s is is' e =
    let shaped = append_cancel_left (codes "\nat ") (decimal u.place ++ behind_place u r)
    (decimal v.place ++ behind_place v s)
    (sym (visit_shape u r) ∙ e ∙ visit_shape v s) in
    let place = number_read u.place v.place (behind_place u r) (behind_place v s) is.place is'.place
    (past_space (head_text u.term ++ 10 ∷ (set_line (codes "of") u.domain
    ++ (scores_text u.scores ++ split_text u.split r))))
    (past_space (head_text v.term ++ 10 ∷ (set_line (codes "of") v.domain
    ++ (scores_text v.scores ++ split_text v.split s)))) shaped in
    let found : Some u.term ≡ Some v.term = sym is.stands ∙ ap (subterm_at rule) place.0 ∙ is'.stands in
    let term : u.term ≡ v.term = cc in
    let headed : head_text u.term ++ 10 ∷ (set_line (codes "of") u.domain ++ (scores_text u.scores ++ split_text
    u.split r))
    ≡ head_text v.term ++ 10 ∷ (set_line (codes "of") v.domain ++ (scores_text v.scores ++ split_text v.split s)) =
    ap (drop 1) place.1 in
    let lined = append_cancel_left (head_text v.term) (10 ∷ (set_line (codes "of") u.domain
    ++ (scores_text u.scores ++ split_text u.split r))) (10 ∷ (set_line (codes "of") v.domain
    ++ (scores_text v.scores ++ split_text v.split s))) (ap (λ t. head_text t ++ 10 ∷ (set_line (codes "of") u.domain
    ++ (scores_text u.scores ++ split_text u.split r))) (sym term) ∙ headed) in
    let set_tail : set_line (codes "of") u.domain ++ (scores_text u.scores ++ split_text u.split r)
    ≡ set_line (codes "of") v.domain ++ (scores_text v.scores ++ split_text v.split s) = ap (drop 1) lined in
    let domain = set_read (codes "of") u.domain v.domain (scores_text u.scores ++ split_text u.split r)
    (scores_text v.scores ++ split_text v.split s) is.domain is'.domain set_tail in
    let scores = told_scores_read u.scores v.scores (split_text u.split r) (split_text v.split s) is.scores is'.scores
    (unscored_split u.split r) (unscored_split v.split s) domain.1 in
    let split = split_read u.split v.split r s is.elected is.rejected is.deferred is'.elected is'.rejected is'.deferred
    scores.1 in (
      (λ i. record {
        place = place.0 i;
        term = term i;
        domain = domain.0 i;
        scores = scores.0 i;
        split = split.0 i;
      }),
      split.1,
    )

pub visits_read : (rule : Tree) (us vs : List Visit) → AreLegible rule us → AreLegible rule vs
    → visits_text us ≡ visits_text vs → us ≡ vs
visits_read rule [] [] is is' e = refl
visits_read rule [] (v ∷ vs) is is' e = absurd cc
visits_read rule (u ∷ us) [] is is' e = absurd cc
visits_read rule (u ∷ us) (v ∷ vs) is is' e =
    let first = visit_read rule u v (visits_text us) (visits_text vs) is.0 is'.0 e in
    let rest = visits_read rule us vs is.1 is'.1 first.1 in λ i. first.0 i ∷ rest i
