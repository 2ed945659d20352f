-- The equations are true: the two sides of each have one meaning.
use Rattle.std.proofs.Common.{◌≡◌, List, refl, sym, ap, ◌∙◌, arith}
use Rattle.std.proofs.lemmas.Bool.Decides.{nat_tests}
use Rattle.std.specs.FinSet as set
use Rattle.vir_altset.specs.Sets.{Set}
use Rattle.vir_altset.specs.SetLaws.{same_members, set_members}
use Rattle.vir_altset.specs.Splits.{IsSplitOf}
use Rattle.vir_altset.specs.declared.split.Split.{Split}
use Rattle.vir_altset.proofs.SplitLaws.{deferred_part}
use Rattle.vir_profile.specs.declared.ballot.Entry.{Entry}
use Rattle.vir_profile.specs.Profiles.{restrict}
use Rattle.vir_profile.proofs.RestrictionLaws.{restricted_to_the_whole}
use Rattle.vir_term.specs.Tree.{Tree, rev, seq, par, loop, End}
use Rattle.vir_mean.specs.Compositions.{joined, merged}
use Rattle.vir_mean.specs.Meaning.{mean}
use Rattle.vir_mean.proofs.MeaningLaws.{mean-split, mean-empty}
use Rattle.vir_mean.proofs.LoopLaws.{joined-all_deferred, loop_of-whole}
use Rattle.vir_mean.proofs.RestrictionLemmas.{restrict-restrict}
use Rattle.vir_simplify.specs.Equations.{elect, defer, plurality, nobody}
use Rattle.vir_simplify.specs.Meanings.{MeanTheSame}
use Rattle.vir_simplify.proofs.LoopedLoops.{loop_of-loop}

-- ---- sets
empty-union : (a : Set) → set.union set.empty a ≡ a
empty-union a = same_members _ _ (λ x. grind (arith, nat_tests, set_members))

union-empty : (a : Set) → set.union a set.empty ≡ a
union-empty a = same_members _ _ (λ x. grind (arith, nat_tests, set_members))

union-union : (a b c : Set) → set.union (set.union a b) c ≡ set.union a (set.union b c)
union-union a b c = same_members _ _ (λ x. grind (arith, nat_tests, set_members))

difference-itself : (a : Set) → set.difference a a ≡ set.empty
difference-itself a = same_members _ _ (λ x. grind (arith, nat_tests, set_members))

-- ---- sequences
-- where all of a set is left to a split, it alone decides
joined-after_nothing : (a : Set) (s : Split) → joined (record {
  elected = set.empty;
  rejected = set.empty;
  deferred =
      a;
}) s ≡ s
joined-after_nothing a s = λ i.
    record { elected = empty-union s.elected i; rejected = empty-union s.rejected i; deferred = s.deferred }

pub seq-defer_left : (m : Tree) → MeanTheSame (seq defer m) m
seq-defer_left m a p on = joined-after_nothing a (mean m a (restrict a p))
    ∙ ap (mean m a) (restricted_to_the_whole a p on)

pub seq-defer_right : (m : Tree) → mean (seq m defer) ≡ mean m
seq-defer_right m = λ i a p. joined-all_deferred (mean m a p) p i

-- where nothing is left, the second rule adds nothing
nothing_left : (e r : Set) (m : Tree) (p : List Entry) → joined (record {
  elected = e;
  rejected = r;
  deferred =
      set.empty;
}) (mean m set.empty p) ≡ record { elected = e; rejected = r; deferred = set.empty }
nothing_left e r m p = ap (joined (record { elected = e; rejected = r; deferred = set.empty })) (mean-empty m p)
    ∙ λ i. record { elected = union-empty e i; rejected = union-empty r i; deferred = set.empty }

pub seq-elect_lem : (m : Tree) → mean (seq elect m) ≡ mean elect
seq-elect_lem m = λ i a p. nothing_left a set.empty m (restrict set.empty p) i

pub seq-plurality_lem : (m : Tree) → mean (seq plurality m) ≡ mean plurality
seq-plurality_lem m = λ i a p. nothing_left (mean plurality a p).elected (mean plurality a p).rejected m
    (restrict set.empty p) i

pub seq-nobody_lem : (m : Tree) → mean (seq nobody m) ≡ mean nobody
seq-nobody_lem m = λ i a p. nothing_left set.empty (set.difference a set.empty) m (restrict set.empty p) i

joined-joined : (first second third : Split) → joined (joined first second) third ≡ joined first (joined second third)
joined-joined first second third = λ i. record {
  elected = union-union first.elected second.elected third.elected i;
  rejected = union-union first.rejected second.rejected third.rejected i;
  deferred = third.deferred;
}

pub seq-assoc : (m n t : Tree) → mean (seq (seq m n) t) ≡ mean (seq m (seq n t))
seq-assoc m n t = λ i a p. at a p i
  where
    at : (a : Set) (p : List Entry) → mean (seq (seq m n) t) a p ≡ mean (seq m (seq n t)) a p
    at a p =
        let first = mean m a p in
        let second = mean n first.deferred (restrict first.deferred p) in
        let within = deferred_part first.deferred second (mean-split n first.deferred (restrict first.deferred p)) in
        joined-joined first second (mean t second.deferred (restrict second.deferred p))
        ∙ ap (λ lines. joined first (joined second (mean t second.deferred lines)))
        (sym (restrict-restrict second.deferred first.deferred within p))

-- ---- revisions
pub rev-elect_lem : mean (rev elect) ≡ mean defer
rev-elect_lem = λ i a p. record { elected = set.empty; rejected = difference-itself a i; deferred = a }

pub rev-rev_lem : (m : Tree) → mean (rev (rev m)) ≡ mean nobody
rev-rev_lem m = refl

-- ---- parallel compositions
merged-same : (a : Set) (s : Split) → IsSplitOf a s → merged s s ≡ s
merged-same a s split = λ i. record {
  elected = same_members (merged s s).elected s.elected (λ x. grind (arith, nat_tests, set_members)) i;
  rejected = same_members (merged s s).rejected s.rejected (λ x. grind (arith, nat_tests, set_members)) i;
  deferred = same_members (merged s s).deferred s.deferred (λ x.
      grind (arith, nat_tests, set_members, split.parts x)) i;
}

pub par-same : (m : Tree) → mean (par m m) ≡ mean m
par-same m = λ i a p. merged-same a (mean m a p) (mean-split m a p) i

-- beside a rule that elects all, another one changes nothing
merged-elect_left : (a : Set) (p : List Entry) (s : Split) → IsSplitOf a s → merged (mean elect a p) s ≡ mean elect a p
merged-elect_left a p s split = λ i. record {
  elected = same_members (merged (mean elect a p) s).elected a (λ x.
      grind (arith, nat_tests, set_members, split.parts x)) i;
  rejected = same_members (merged (mean elect a p) s).rejected set.empty (λ x.
      grind (arith, nat_tests, set_members, split.parts x)) i;
  deferred = same_members (merged (mean elect a p) s).deferred set.empty (λ x.
      grind (arith, nat_tests, set_members, split.parts x)) i;
}

merged-elect_right : (a : Set) (p : List Entry) (s : Split) → IsSplitOf a s → merged s (mean elect a p) ≡ mean elect a p
merged-elect_right a p s split = λ i. record {
  elected = same_members (merged s (mean elect a p)).elected a (λ x.
      grind (arith, nat_tests, set_members, split.parts x)) i;
  rejected = same_members (merged s (mean elect a p)).rejected set.empty (λ x.
      grind (arith, nat_tests, set_members, split.parts x)) i;
  deferred = same_members (merged s (mean elect a p)).deferred set.empty (λ x.
      grind (arith, nat_tests, set_members, split.parts x)) i;
}

pub par-elect_left : (m : Tree) → mean (par elect m) ≡ mean elect
par-elect_left m = λ i a p. merged-elect_left a p (mean m a p) (mean-split m a p) i

pub par-elect_right : (m : Tree) → mean (par m elect) ≡ mean elect
par-elect_right m = λ i a p. merged-elect_right a p (mean m a p) (mean-split m a p) i

-- a rule that rejects all says nothing beside another one
merged-nobody_left : (a : Set) (p : List Entry) (s : Split) → IsSplitOf a s → merged (mean nobody a p) s ≡ s
merged-nobody_left a p s split = λ i. record {
  elected = same_members (merged (mean nobody a p) s).elected s.elected (λ x.
      grind (arith, nat_tests, set_members)) i;
  rejected = same_members (merged (mean nobody a p) s).rejected s.rejected (λ x.
      grind (arith, nat_tests, set_members, split.parts x)) i;
  deferred = same_members (merged (mean nobody a p) s).deferred s.deferred (λ x.
      grind (arith, nat_tests, set_members, split.parts x)) i;
}

merged-nobody_right : (a : Set) (p : List Entry) (s : Split) → IsSplitOf a s → merged s (mean nobody a p) ≡ s
merged-nobody_right a p s split = λ i. record {
  elected = same_members (merged s (mean nobody a p)).elected s.elected (λ x.
      grind (arith, nat_tests, set_members)) i;
  rejected = same_members (merged s (mean nobody a p)).rejected s.rejected (λ x.
      grind (arith, nat_tests, set_members, split.parts x)) i;
  deferred = same_members (merged s (mean nobody a p)).deferred s.deferred (λ x.
      grind (arith, nat_tests, set_members, split.parts x)) i;
}

pub par-nobody_left : (m : Tree) → mean (par nobody m) ≡ mean m
par-nobody_left m = λ i a p. merged-nobody_left a p (mean m a p) (mean-split m a p) i

pub par-nobody_right : (m : Tree) → mean (par m nobody) ≡ mean m
par-nobody_right m = λ i a p. merged-nobody_right a p (mean m a p) (mean-split m a p) i

-- ---- loops
pub loop-defer : (k : End) → mean (loop k defer) ≡ mean defer
loop-defer k = λ i a p. loop_of-whole k (mean defer) (mean-split defer) a p refl i

pub loop-loop : (k : End) (m : Tree) → MeanTheSame (loop k (loop k m)) (loop k m)
loop-loop k m a p on = loop_of-loop k (mean m) (mean-split m) a p on
