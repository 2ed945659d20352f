-- The visits of a term are such as a text can be read to tell.
use Rattle.std.proofs.Common.{◌≡◌, ℕ, zero, suc, ◌<◌, ◌≤◌, ◌^◌, List, [], ◌∷◌, ◌++◌, length, map, take}
use Rattle.std.proofs.Common.{Option, Some, None}
use Rattle.std.proofs.Common.{◌-◌, Bool, true, false, cond, length-append, option_map, ℤ, pos, negsuc, refl}
use Rattle.std.proofs.Common.{sym, subst, arith}
use Rattle.std.proofs.lemmas.Int.{ints}
use Rattle.std.proofs.lemmas.List.{take_all}
use Rattle.std.proofs.lemmas.List.FromFn.{get_or-map-range_with_len, length-map-range_with_len}
use Rattle.std.proofs.lemmas.Option.{slice_get_within}
use Rattle.std.specs.FinSet as set
use Rattle.std.specs.List.{AllByRecursion, range_with_len}
use Rattle.vir_altset.specs.Sets.{Set, limit, IsBounded, IsPart}
use Rattle.vir_altset.specs.Members.{members, members_up_to}
use Rattle.vir_altset.specs.declared.split.Split.{Split}
use Rattle.vir_altset.proofs.SplitLaws.{deferred_part, elected_part, rejected_part}
use Rattle.vir_profile.specs.declared.ballot.Entry.{Entry}
use Rattle.vir_profile.specs.Profiles.{restrict, total_weight}
use Rattle.vir_term.specs.declared.score.Score.{Score}
use Rattle.vir_term.specs.Tree.{Tree, size}
use Rattle.vir_mean.specs.Meaning.{mean}
use Rattle.vir_mean.specs.Numbers.{score_bound, score_of, AreScores, IsWithin}
use Rattle.vir_mean.specs.Scores.{score}
use Rattle.vir_mean.proofs.MeaningLaws.{mean-split}
use Rattle.vir_mean.proofs.MemberLists.{members_are}
use Rattle.vir_mean.proofs.ScoreSizes.{all_small}
use Rattle.vir_mean.proofs.WeightLemmas.{total_weight-restrict}
use Rattle.vir_simplify.specs.Places.{subterms}
use Rattle.vir_simplify.proofs.Places.{length-subterms}
use Rattle.vir_explain.specs.Visits.{Visit, scored, scores_by, score_of_term, visits}
use Rattle.vir_explain.specs.Accounts.{IsTrueVisit}
use Rattle.vir_explain.specs.Legible.{AreLegible, AreShortScores, IsLegible, IsShort, IsShortScore, IsShortWhole}
use Rattle.vir_explain.proofs.Accounting.{each_of_both}
use Rattle.vir_explain.proofs.ReadVisits.{members_short}
use Rattle.vir_explain.proofs.TrueVisits.{visits_true, weaker}

-- ---- members

members_many : (n : ℕ) (a : Set) → length (members_up_to n a) ≤ n
unfolding members_up_to
members_many zero a = omega arith
members_many (suc n) a = by (members_many n a) (set.contains a (suc n))
  where
    by : length (members_up_to n a) ≤ n → (b : Bool)
        → length (cond b (members_up_to n a ++ suc n ∷ []) (members_up_to n a)) ≤ suc n
    by before true = omega (arith, length-append (members_up_to n a) (suc n ∷ []))
    by before false = omega arith

members_in : (n : ℕ) (a : Set) → AllByRecursion (λ x. set.contains a x ≡ true) (members_up_to n a)
unfolding members_up_to
members_in zero a = tt
members_in (suc n) a = by (members_in n a) (set.contains a (suc n)) refl
  where
    by : AllByRecursion (λ x. set.contains a x ≡ true) (members_up_to n a) → (b : Bool) → set.contains a (suc n) ≡ b
        → AllByRecursion (λ x. set.contains a x ≡ true) (cond b (members_up_to n a ++ suc n ∷ []) (members_up_to n a))
    by before true is = each_of_both (λ x. set.contains a x ≡ true) (members_up_to n a) (suc n ∷ []) before (is, tt)
    by before false is = before

-- ---- scores are short

-- the scores of all alternatives, as an array has them
abbrev all_scores : (ℕ → ℤ) → List ℤ
all_scores f = map f (range_with_len 1 limit)

all_are : (f : ℕ → ℤ) (a : Set) → IsBounded a → AreScores a f (all_scores f)
all_are f a bounded = record {
  size = length-map-range_with_len f 1 limit;
  each = λ x member. (let bounds = bounded.within x member in
      let low = bounds.0 in let high = bounds.1 in
      get_or-map-range_with_len f 1 limit (x - 1) x (pos 0) (omega arith) (omega arith));
}

-- what is within the bound of scores has few digits
short_within : (z : ℤ) → IsWithin score_bound z → IsShortWhole z
short_within (pos n) within = let high = within.high in omega (arith, ints)
short_within (negsuc n) within = let low = within.low in omega (arith, ints)

-- so has the score of a member
score_short : (s : Score) (a : Set) (lines : List Entry) → IsBounded a → total_weight lines < 2 ^ 64 → (x : ℕ)
    → set.contains a x ≡ true → IsShortWhole (score s a lines x)
score_short s a lines bounded few x member =
    let whole : take limit (members a) ≡ members a = take_all limit (members a) (members_many limit a) in
    let are = members_are a (members a) limit bounded (omega arith) whole in
    let f = score s a lines in
    let scores = all_are f a bounded in
    let small = all_small s a lines (take limit (members a)) (all_scores f) few are scores in
    subst IsShortWhole (scores.each x member) (short_within (score_of (all_scores f) x) (small.each x member))

scores_short : (f : ℕ → ℤ) (a : Set) (list : List ℕ) → ((x : ℕ) → set.contains a x ≡ true → IsShortWhole (f x))
    → AllByRecursion (λ x. set.contains a x ≡ true) list → AllByRecursion IsShort list
    → AllByRecursion IsShortScore (scored f list)
scores_short f a [] each there short = tt
scores_short f a (x ∷ list) each there short =
    ((short.0, each x there.0), scores_short f a list each there.1 short.1)

told_short : (named : Option Score) (a : Set) (lines : List Entry) → IsBounded a → total_weight lines < 2 ^ 64
    → AreShortScores (option_map (scores_by a lines) named)
told_short None a lines bounded few = tt
told_short (Some s) a lines bounded few = scores_short (score s a lines) a (members a)
    (score_short s a lines bounded few)
    (members_in limit a) (members_short limit a (omega arith))

-- ---- visits

bounded_in : (d a : Set) → IsPart d a → IsBounded a → IsBounded d
bounded_in d a part bounded = record { within = λ x member. bounded.within x (part x member) }

pub visits_legible : (t : Tree) (p : List Entry) (a : Set) → IsBounded a → total_weight p < 2 ^ 64 → IsShort (size t)
    → AreLegible t (visits 0 t p a)
visits_legible t p a bounded few small = weaker (IsTrueVisit t p a) (IsLegible t) legible (visits 0 t p a)
    (visits_true t p a)
  where
    legible : (v : Visit) → IsTrueVisit t p a v → IsLegible t v
    legible v is =
        let domain = bounded_in v.domain a is.part bounded in
        let lines = restrict v.domain p in
        let splits = mean-split v.term v.domain lines in
        let weight : total_weight lines < 2 ^ 64 = omega (arith, total_weight-restrict v.domain p) in
        let scores : AreShortScores v.scores = subst AreShortScores (sym is.scores)
        (told_short (score_of_term v.term) v.domain lines domain weight) in
        let within : v.place < length (subterms t) = slice_get_within (subterms t) v.place v.term is.stands in
        record {
          stands = is.stands;
          place = omega (arith, length-subterms t);
          domain = domain;
          scores = scores;
          elected = subst (λ (s : Split). IsBounded s.elected) (sym is.split) (bounded_in
              (mean v.term v.domain lines).elected
              v.domain (elected_part v.domain (mean v.term v.domain lines) splits) domain);
          rejected = subst (λ (s : Split). IsBounded s.rejected) (sym is.split) (bounded_in (mean v.term v.domain
              lines).rejected v.domain (rejected_part v.domain (mean v.term v.domain lines) splits) domain);
          deferred = subst (λ (s : Split). IsBounded s.deferred) (sym is.split) (bounded_in (mean v.term v.domain
              lines).deferred v.domain (deferred_part v.domain (mean v.term v.domain lines) splits) domain);
        }
