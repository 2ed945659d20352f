-- Each visit of a term is what it says.
use Rattle.std.proofs.Common.{◌≡◌, ℕ, zero, suc, ◌+◌, Bool, true, false, cond, List, [], ◌∷◌, ◌++◌, Some}
use Rattle.std.proofs.Common.{slice_get, refl, ap, ◌∙◌, arith}
use Rattle.std.specs.FinSet as set
use Rattle.std.specs.List.{AllByRecursion}
use Rattle.vir_altset.specs.Sets.{Set, IsPart}
use Rattle.vir_profile.specs.declared.ballot.Entry.{Entry}
use Rattle.vir_profile.specs.Profiles.{restrict}
use Rattle.vir_term.specs.Tree.{Tree, leaf as module_of, rev, seq, par, loop, End, size}
use Rattle.vir_mean.specs.Compositions.{is_end}
use Rattle.vir_mean.specs.Meaning.{mean}
use Rattle.vir_simplify.specs.Places.{subterms}
use Rattle.vir_simplify.proofs.Places.{in_first, in_second, place_below, subterm-whole}
use Rattle.vir_explain.specs.Visits.{Visit, left_by, rounds, visit_of, visits}
use Rattle.vir_explain.specs.Accounts.{AreScored, IsScored, IsTrueVisit}
use Rattle.vir_explain.proofs.Accounting.{each_of_both}
use Rattle.vir_explain.proofs.Meant.{left_part}

-- The visit is of one of these subterms, of which the first one has the number n, and is what it says.
pub record IsOf (n : ℕ) (list : List Tree) (p : List Entry) (a : Set) (v : Visit) : Type 0 where
  pub behind : ℕ
  pub place : v.place ≡ n + behind
  pub stands : slice_get list behind ≡ Some v.term
  pub part : IsPart v.domain a
  pub scores : IsScored p v
  pub split : v.split ≡ mean v.term v.domain (restrict v.domain p)

pub weaker : {X : Type 0} (P Q : X → Type 0) → ((x : X) → P x → Q x) → (xs : List X) → AllByRecursion P xs
    → AllByRecursion Q xs
weaker P Q f [] all = tt
weaker P Q f (x ∷ xs) all = (f x all.0, weaker P Q f xs all.1)

own : (n : ℕ) (t : Tree) (p : List Entry) (a : Set) → AllByRecursion (IsOf n (subterms t) p a) (visit_of n t a p ∷ [])
own n t p a = (
  record {
    behind = 0;
    place = omega arith;
    stands = subterm-whole t;
    part = λ x member. member;
    scores = refl;
    split = refl;
  },
  tt,
)

-- those of a part are behind the first one
of_part : (n : ℕ) (t : Tree) (list : List Tree) (p : List Entry) (a : Set) (vs : List Visit)
    → AllByRecursion (IsOf (n + 1) list p a) vs → AllByRecursion (IsOf n (t ∷ list) p a) vs
of_part n t list p a vs all = weaker (IsOf (n + 1) list p a) (IsOf n (t ∷ list) p a) (λ v is. record {
  behind = suc is.behind;
  place = let place = is.place in omega arith;
  stands = is.stands;
  part = is.part;
  scores = is.scores;
  split = is.split;
}) vs all

-- those of the first of two parts, and of the second
of_first : (n : ℕ) (first second : Tree) (p : List Entry) (a : Set) (vs : List Visit)
    → AllByRecursion (IsOf n (subterms first) p a) vs → AllByRecursion (IsOf n (subterms first ++ subterms second) p
    a) vs
of_first n first second p a vs all = weaker (IsOf n (subterms first) p a) (IsOf n (subterms first ++ subterms second)
    p a)
    (λ v is. record {
      behind = is.behind;
      place = is.place;
      stands = in_first first second is.behind (place_below first is.behind v.term is.stands) ∙ is.stands;
      part = is.part;
      scores = is.scores;
      split = is.split;
    }) vs all

of_second : (n : ℕ) (first second : Tree) (p : List Entry) (a : Set) (vs : List Visit)
    → AllByRecursion (IsOf (n + size first) (subterms second) p a) vs
    → AllByRecursion (IsOf n (subterms first ++ subterms second) p a) vs
of_second n first second p a vs all =
    weaker (IsOf (n + size first) (subterms second) p a) (IsOf n (subterms first ++ subterms second) p a)
    (λ v is. record {
      behind = size first + is.behind;
      place = let place = is.place in omega arith;
      stands = in_second first second (size first + is.behind) is.behind refl ∙ is.stands;
      part = is.part;
      scores = is.scores;
      split = is.split;
    }) vs all

-- those on a part of the set
on_part : (n : ℕ) (list : List Tree) (p : List Entry) (d a : Set) → IsPart d a → (vs : List Visit)
    → AllByRecursion (IsOf n list p d) vs → AllByRecursion (IsOf n list p a) vs
on_part n list p d a part vs all = weaker (IsOf n list p d) (IsOf n list p a) (λ v is. record {
  behind = is.behind;
  place = is.place;
  stands = is.stands;
  part = λ x member. part x (is.part x member);
  scores = is.scores;
  split = is.split;
}) vs all

module _ (n : ℕ) (list : List Tree) (p : List Entry) (k : End) (body : Tree) (visited : Set → List Visit)
    (each : (a : Set) → AllByRecursion (IsOf n list p a) (visited a)) where
  one_round : (a : Set) (further : List Visit) → AllByRecursion (IsOf n list p (left_by body p a)) further
      → (ends whole : Bool)
      → AllByRecursion (IsOf n list p a) (cond ends [] (visited a ++ cond whole [] further))
  one_round a further all true whole = tt
  one_round a further all false true = each_of_both (IsOf n list p a) (visited a) [] (each a) tt
  one_round a further all false false = each_of_both (IsOf n list p a) (visited a) further (each a)
      (on_part n list p (left_by body p a) a (left_part body p a) further all)

  rounds_true : (most : ℕ) (a : Set) → AllByRecursion (IsOf n list p a) (rounds most k (left_by body p) visited a)
  unfolding rounds
  rounds_true zero a = tt
  rounds_true (suc most) a = one_round a (rounds most k (left_by body p) visited (left_by body p a))
      (rounds_true most (left_by body p a)) (is_end k (set.len a)) (set.is_subset a (left_by body p a))

all_true : (n : ℕ) (t : Tree) (p : List Entry) (a : Set) → AllByRecursion (IsOf n (subterms t) p a) (visits n t p a)
all_true n (module_of l) p a = own n (module_of l) p a
all_true n (rev part) p a = each_of_both (IsOf n (subterms (rev part)) p a) (visits (n + 1) part p a) _
    (of_part n (rev part) (subterms part) p a _ (all_true (n + 1) part p a)) (own n (rev part) p a)
all_true n (seq first second) p a =
    each_of_both (IsOf n (subterms (seq first second)) p a) (visits (n + 1) first p a
    ++ visits (n + 1 + size first) second p (left_by first p a)) _
    (of_part n (seq first second) (subterms first ++ subterms second) p a _
    (each_of_both (IsOf (n + 1) (subterms first ++ subterms second) p a) (visits (n + 1) first p a) _
    (of_first (n + 1) first second p a _ (all_true (n + 1) first p a))
    (of_second (n + 1) first second p a _ (on_part (n + 1 + size first) (subterms second) p (left_by first p a) a
    (left_part first p a) _ (all_true (n + 1 + size first) second p (left_by first p a))))))
    (own n (seq first second) p a)
all_true n (par first second) p a =
    each_of_both (IsOf n (subterms (par first second)) p a) (visits (n + 1) first p a
    ++ visits (n + 1 + size first) second p a) _
    (of_part n (par first second) (subterms first ++ subterms second) p a _
    (each_of_both (IsOf (n + 1) (subterms first ++ subterms second) p a) (visits (n + 1) first p a) _
    (of_first (n + 1) first second p a _ (all_true (n + 1) first p a))
    (of_second (n + 1) first second p a _ (all_true (n + 1 + size first) second p a))))
    (own n (par first second) p a)
all_true n (loop k body) p a = each_of_both (IsOf n (subterms (loop k body)) p a)
    (rounds (suc (set.len a)) k (left_by body p)
    (visits (n + 1) body p) a) _
    (of_part n (loop k body) (subterms body) p a _ (rounds_true (n + 1) (subterms body) p k body (visits (n + 1) body p)
    (all_true (n + 1) body p) (suc (set.len a)) a)) (own n (loop k body) p a)

pub visits_true : (t : Tree) (p : List Entry) (a : Set) → AllByRecursion (IsTrueVisit t p a) (visits 0 t p a)
visits_true t p a = weaker (IsOf 0 (subterms t) p a) (IsTrueVisit t p a) (λ v is. record {
  stands = (let same : v.place ≡ is.behind = let place = is.place in omega arith in ap (slice_get (subterms t)) same)
      ∙ is.stands;
  part = is.part;
  scores = is.scores;
  split = is.split;
}) (visits 0 t p a) (all_true 0 t p a)

-- what is true is scored
pub visits_scored : (t : Tree) (p : List Entry) (a : Set) → AreScored p (visits 0 t p a)
visits_scored t p a = weaker (IsTrueVisit t p a) (IsScored p) (λ v is. is.scores) (visits 0 t p a) (visits_true t p a)
