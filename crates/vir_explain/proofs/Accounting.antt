-- Accounts are true, and the visits of a term are one.
use Rattle.std.proofs.Common.{◌≡◌, ◌≢◌, ◌⊎◌, inl, inr, ℕ, zero, suc, ◌+◌, ◌≤◌, Bool, true, false}
use Rattle.std.proofs.Common.{true≢false, List, [], ◌∷◌, ◌++◌}
use Rattle.std.proofs.Common.{option_map, refl, sym, ap, ◌∙◌, subst, arith, append-nil}
use Rattle.std.specs.FinSet as set
use Rattle.std.specs.List.{AllByRecursion}
use Rattle.vir_altset.specs.Sets.{Set, IsBounded, IsPart}
use Rattle.vir_altset.specs.declared.split.Split.{Split}
use Rattle.vir_profile.specs.declared.ballot.Entry.{Entry}
use Rattle.vir_profile.specs.Profiles.{restrict}
use Rattle.vir_term.specs.Tree.{Tree, leaf as module_of, rev, seq, par, loop, End, size}
use Rattle.vir_mean.specs.Compositions.{is_end, IsEnd, joined, merged, revised, loop_of}
use Rattle.vir_mean.specs.Meaning.{mean}
use Rattle.vir_mean.specs.Undecided.{undecided}
use Rattle.vir_mean.proofs.LoopLaws.{loop_of-few, loop_of-none, loop_of-whole, loop_of-more, len-deferred}
use Rattle.vir_mean.proofs.LoopLaws.{same_of_subset}
use Rattle.vir_mean.proofs.MeaningLaws.{mean-split}
use Rattle.vir_mean.proofs.RestrictionLemmas.{restrict-restrict}
use Rattle.vir_explain.specs.Visits.{Visit, left_by, rounds, scores_by, score_of_term, visit_of, visits}
use Rattle.vir_explain.specs.Accounts.{Accounting, Accounts, AreScored, IsScored, IsVisit, RoundsAccount}
use Rattle.vir_explain.specs.Accounts.{split_by, told_by}
use Rattle.vir_explain.proofs.Meant.{all_left, at_end, before_end, left_part, seq_meant}
use Rattle.vir_explain.proofs.Rounds.{rounds-end, rounds-more, rounds-none, rounds-whole}
use Rattle.vir_explain.proofs.ToldScores.{told_split}

-- ---- lists of visits behind one another

pub each_left : {X : Type 0} (P : X → Type 0) (xs ys : List X) → AllByRecursion P (xs ++ ys) → AllByRecursion P xs
each_left P [] ys all = tt
each_left P (x ∷ xs) ys all = (all.0, each_left P xs ys all.1)

pub each_right : {X : Type 0} (P : X → Type 0) (xs ys : List X) → AllByRecursion P (xs ++ ys) → AllByRecursion P ys
each_right P [] ys all = all
each_right P (x ∷ xs) ys all = each_right P xs ys all.1

pub each_of_both : {X : Type 0} (P : X → Type 0) (xs ys : List X) → AllByRecursion P xs → AllByRecursion P ys
    → AllByRecursion P (xs ++ ys)
each_of_both P [] ys one other = other
each_of_both P (x ∷ xs) ys one other = (one.0, each_of_both P xs ys one.1 other)

-- a part of a bounded set is bounded
bounded_part : (d a : Set) → IsPart d a → IsBounded a → IsBounded d
bounded_part d a part bounded = record { within = λ x member. bounded.within x (part x member) }

bounded_left : (t : Tree) (p : List Entry) (a : Set) (one : Split) → one ≡ mean t a (restrict a p) → IsBounded a
    → IsBounded one.deferred
bounded_left t p a one is bounded = subst (λ (s : Split). IsBounded s.deferred) (sym is) (bounded_part (left_by t p a) a
    (left_part t p a) bounded)

-- ---- accounts are true

-- What is accounted for is what a term means.
abbrev IsTrueOf : List Entry → Tree → Accounting → Type 0
IsTrueOf p t Account = (a : Set) (vs : List Visit) (s : Split) → IsBounded a → Account a vs s → AreScored p vs
    → s ≡ mean t a (restrict a p)

module _ (p : List Entry) (k : End) (body : Tree) (Body : Accounting) (body_true : IsTrueOf p body Body) where
  -- What rounds account for, at most so many, is what the loop makes of the set.
  abbrev RoundsTrue : ℕ → Type 0
  RoundsTrue most = (a : Set) (vs : List Visit) (s : Split) → IsBounded a → set.len a ≤ most
      → RoundsAccount most k Body a vs s → AreScored p vs → s ≡ loop_of k (mean body) a (restrict a p)

  after_round : (most : ℕ) → RoundsTrue most → (a : Set) (us ws : List Visit) (one s : Split) → IsBounded a
      → set.len a ≤ suc most → (IsEnd k (set.len a) → ⊥) → one ≡ mean body a (restrict a p) → AreScored p (us ++ ws)
      → ((one.deferred ≡ a) × (ws ≡ []) × (s ≡ undecided a))
      ⊎ ((one.deferred ≢ a) × (rest : Split) × RoundsAccount most k Body one.deferred ws rest × (s ≡ joined one rest))
      → s ≡ loop_of k (mean body) a (restrict a p)
  after_round most later a us ws one s bounded enough some one_is both (inl (whole, none, is)) =
      is ∙ sym (loop_of-whole k (mean body) (mean-split body) a (restrict a p) (ap (λ (s : Split). s.deferred)
      (sym one_is) ∙ whole))
  after_round most later a us ws one s bounded enough some one_is both (inr (apart, rest, more, is)) =
      let left_is : one.deferred ≡ left_by body p a = ap (λ (s : Split). s.deferred) one_is in
      let other : left_by body p a ≢ a = λ e. apart (left_is ∙ e) in
      let smaller = len-deferred k (mean body) (mean-split body) a (restrict a p) other in
      let fewer : set.len one.deferred ≡ set.len (left_by body p a) = ap set.len left_is in
      let rest_is : rest ≡ loop_of k (mean body) one.deferred (restrict one.deferred p) =
      later one.deferred ws rest (bounded_left body p a one one_is bounded) (omega arith) more
      (each_right (IsScored p) us ws both) in
      is ∙ ap (joined one) rest_is
      ∙ ap (λ (s : Split). joined s (loop_of k (mean body) s.deferred (restrict s.deferred p))) one_is
      ∙ ap (λ (lines : List Entry). joined (mean body a (restrict a p)) (loop_of k (mean body) (left_by body p a)
      lines)) (sym (restrict-restrict (left_by body p a) a (left_part body p a) p))
      ∙ sym (loop_of-more k (mean body) (mean-split body) a (restrict a p) some other)

  rounds_true : (most : ℕ) → RoundsTrue most
  rounds_true zero a vs s bounded enough (none, is) scored =
      is ∙ sym (loop_of-none k (mean body) a (restrict a p) (omega arith))
  rounds_true (suc most) a vs s bounded enough (inl (end, none, is)) scored =
      is ∙ sym (loop_of-few k (mean body) a (restrict a p) end)
  rounds_true (suc most) a vs s bounded enough (inr (some, us, ws, one, parts, round, further)) scored =
      let both : AreScored p (us ++ ws) = subst (AreScored p) parts scored in
      after_round most (rounds_true most) a us ws one s bounded enough some
      (body_true a us one bounded round (each_left (IsScored p) us ws both)) both further

pub accounts_true : (n : ℕ) (t : Tree) (p : List Entry) → IsTrueOf p t (Accounts n t)
accounts_true n (module_of l) p a vs s bounded (v, only, visit, is) scored =
    let here : IsScored p v = (subst (AreScored p) only scored).0 in
    let scores_are : v.scores ≡ option_map (scores_by a (restrict a p)) (score_of_term (module_of l)) =
    here ∙ (λ i. option_map (scores_by (visit.domain i) (restrict (visit.domain i) p)) (score_of_term (visit.term i)))
    in
    is ∙ ap (λ scores. split_by l a (told_by scores)) scores_are ∙ told_split l a (restrict a p) bounded
accounts_true n (rev part) p a vs s bounded (us, one, v, parts, before, visit, is) scored =
    is ∙ ap (revised a) (accounts_true (n + 1) part p a us one bounded before (each_left (IsScored p) us (v ∷ [])
    (subst (AreScored p) parts scored)))
accounts_true n (seq first second) p a vs s bounded (us, ws, one, other, v, parts, before, behind, visit, is) scored =
    let both : AreScored p (us ++ ws) = each_left (IsScored p) (us ++ ws) (v ∷ []) (subst (AreScored p) parts scored) in
    let one_is : one ≡ mean first a (restrict a p) = accounts_true (n + 1) first p a us one bounded before
    (each_left (IsScored p) us ws both) in
    let other_is : other ≡ mean second one.deferred (restrict one.deferred p) =
    accounts_true (n + 1 + size first) second p one.deferred ws other (bounded_left first p a one one_is bounded) behind
    (each_right (IsScored p) us ws both) in
    is ∙ seq_meant first second p a one other one_is other_is
accounts_true n (par first second) p a vs s bounded (us, ws, one, other, v, parts, before, behind, visit, is) scored =
    let both : AreScored p (us ++ ws) = each_left (IsScored p) (us ++ ws) (v ∷ []) (subst (AreScored p) parts scored) in
    let one_is : one ≡ mean first a (restrict a p) = accounts_true (n + 1) first p a us one bounded before
    (each_left (IsScored p) us ws both) in
    let other_is : other ≡ mean second a (restrict a p) = accounts_true (n + 1 + size first) second p a ws other bounded
    behind (each_right (IsScored p) us ws both) in
    is ∙ ap (λ (s : Split). merged s other) one_is ∙ ap (merged (mean first a (restrict a p))) other_is
accounts_true n (loop k body) p a vs s bounded (us, v, parts, before, visit) scored =
    rounds_true p k body (Accounts (n + 1) body) (accounts_true (n + 1) body p) (suc (set.len a)) a us s bounded
    (omega arith)
    before (each_left (IsScored p) us (v ∷ []) (subst (AreScored p) parts scored))

-- ---- the visits of a term are an account

-- Visits account for what a term means.
abbrev AccountsFor : List Entry → Tree → (Set → List Visit) → Accounting → Type 0
AccountsFor p t visited Account = (a : Set) → IsBounded a → Account a (visited a) (mean t a (restrict a p))

module _ (p : List Entry) (k : End) (body : Tree) (Body : Accounting) (visited : Set → List Visit)
    (body_accounts : AccountsFor p body visited Body) where
  -- The rounds of a loop, at most so many, account for what the loop makes of the set.
  abbrev RoundsAccountFor : ℕ → Type 0
  RoundsAccountFor most = (a : Set) → IsBounded a → set.len a ≤ most
      → RoundsAccount most k Body a (rounds most k (left_by body p) visited a) (loop_of k (mean body) a (restrict a p))

  one_round : (most : ℕ) → RoundsAccountFor most → (a : Set) → IsBounded a → set.len a ≤ suc most
      → is_end k (set.len a) ≡ false → (whole : Bool) → set.is_subset a (left_by body p a) ≡ whole
      → RoundsAccount (suc most) k Body a (rounds (suc most) k (left_by body p) visited a)
      (loop_of k (mean body) a (restrict a p))
  one_round most later a bounded enough goes_on true whole =
      let all : left_by body p a ≡ a = same_of_subset a (left_by body p a) (left_part body p a) whole in
      inr (
        before_end k (set.len a) goes_on,
        visited a,
        [],
        mean body a (restrict a p),
        rounds-whole k (left_by body p) visited most a goes_on whole ∙ sym (append-nil (visited a)),
        body_accounts a bounded,
        inl (all, refl, loop_of-whole k (mean body) (mean-split body) a (restrict a p) all),
      )
  one_round most later a bounded enough goes_on false other =
      let apart : left_by body p a ≢ a = λ e. absurd (true≢false (sym (all_left a (left_by body p a) e) ∙ other)) in
      let smaller = len-deferred k (mean body) (mean-split body) a (restrict a p) apart in
      inr (
        before_end k (set.len a) goes_on,
        visited a,
        rounds most k (left_by body p) visited (left_by body p a),
        mean body a (restrict a p),
        rounds-more k (left_by body p) visited most a goes_on other,
        body_accounts a bounded,
        inr (
          apart,
          loop_of k (mean body) (left_by body p a) (restrict (left_by body p a) p),
          later (left_by body p a) (bounded_part (left_by body p a) a (left_part body p a) bounded) (omega arith),
          loop_of-more k (mean body) (mean-split body) a (restrict a p) (before_end k (set.len a) goes_on) apart
              ∙ ap (λ (lines : List Entry). joined (mean body a (restrict a p)) (loop_of k (mean body)
              (left_by body p a)
              lines)) (restrict-restrict (left_by body p a) a (left_part body p a) p),
        ),
      )

  by_end : (most : ℕ) → RoundsAccountFor most → (a : Set) → IsBounded a → set.len a ≤ suc most
      → (ends : Bool) → is_end k (set.len a) ≡ ends
      → RoundsAccount (suc most) k Body a (rounds (suc most) k (left_by body p) visited a)
      (loop_of k (mean body) a (restrict a p))
  by_end most later a bounded enough true end = inl (
    at_end k (set.len a) end,
    rounds-end k (left_by body p) visited (suc most) a end,
    loop_of-few k (mean body) a (restrict a p) (at_end k (set.len a) end),
  )
  by_end most later a bounded enough false goes_on = one_round most later a bounded enough goes_on
      (set.is_subset a (left_by body p a)) refl

  rounds_account : (most : ℕ) → RoundsAccountFor most
  rounds_account zero a bounded enough =
      (rounds-none k (left_by body p) visited a, loop_of-none k (mean body) a (restrict a p) (omega arith))
  rounds_account (suc most) a bounded enough = by_end most (rounds_account most) a bounded enough
      (is_end k (set.len a)) refl

-- the visit of a term is one
own : (n : ℕ) (t : Tree) (p : List Entry) (a : Set) → IsVisit n t a (mean t a (restrict a p)) (visit_of n t a p)
own n t p a = record { place = refl; term = refl; domain = refl; split = refl }

pub visits_account : (n : ℕ) (t : Tree) (p : List Entry) → AccountsFor p t (visits n t p) (Accounts n t)
visits_account n (module_of l) p a bounded =
    (visit_of n (module_of l) a p, refl, own n (module_of l) p a, sym (told_split l a (restrict a p) bounded))
visits_account n (rev part) p a bounded = (
  visits (n + 1) part p a,
  mean part a (restrict a p),
  visit_of n (rev part) a p,
  refl,
  visits_account (n + 1) part p a bounded,
  own n (rev part) p a,
  refl,
)
visits_account n (seq first second) p a bounded = (
  visits (n + 1) first p a,
  visits (n + 1 + size first) second p (left_by first p a),
  mean first a (restrict a p),
  mean second (left_by first p a) (restrict (left_by first p a) p),
  visit_of n (seq first second) a p,
  refl,
  visits_account (n + 1) first p a bounded,
  visits_account (n + 1 + size first) second p (left_by first p a) (bounded_part (left_by first p a) a
      (left_part first p a) bounded),
  own n (seq first second) p a,
  sym (seq_meant first second p a (mean first a (restrict a p)) (mean second (left_by first p a)
      (restrict (left_by first p a) p)) refl refl),
)
visits_account n (par first second) p a bounded = (
  visits (n + 1) first p a,
  visits (n + 1 + size first) second p a,
  mean first a (restrict a p),
  mean second a (restrict a p),
  visit_of n (par first second) a p,
  refl,
  visits_account (n + 1) first p a bounded,
  visits_account (n + 1 + size first) second p a bounded,
  own n (par first second) p a,
  refl,
)
visits_account n (loop k body) p a bounded = (
  rounds (suc (set.len a)) k (left_by body p) (visits (n + 1) body p) a,
  visit_of n (loop k body) a p,
  refl,
  rounds_account p k body (Accounts (n + 1) body) (visits (n + 1) body p) (visits_account (n + 1) body p)
      (suc (set.len a)) a
      bounded (omega arith),
  own n (loop k body) p a,
)
