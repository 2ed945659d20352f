-- Accounts of a split: lists of visits that lead to it one after another. Who has the scores of the visits checked
-- needs
-- no ballots to check the rest.
use Rattle.std.specs.Prelude.{◌≡◌, ◌≢◌, ◌⊎◌, ℕ, zero, suc, ◌+◌, not, nat_eq, if◌then◌else◌, List, [], ◌∷◌}
use Rattle.std.specs.Prelude.{◌++◌, Some, None}
use Rattle.std.specs.Prelude.{option_map, ℤ, pos}
use Rattle.std.specs.declared.option.Option.{Option}
use Rattle.std.specs.FinSet as set
use Rattle.std.specs.List.{AllByRecursion}
use Rattle.vir_altset.specs.Sets.{Set, IsPart}
use Rattle.vir_altset.specs.declared.split.Split.{Split}
use Rattle.vir_profile.specs.declared.ballot.Entry.{Entry}
use Rattle.vir_profile.specs.Profiles.{restrict}
use Rattle.vir_term.specs.declared.leaf.Leaf.{Leaf}
use Rattle.vir_term.specs.declared.leaf.Leaf.TheVariants as leaf
use Rattle.vir_term.specs.Tree.{Tree, leaf as module_of, rev, seq, par, loop, End, size}
use Rattle.vir_mean.specs.declared.elimination.Elimination.TheVariants.{Max, Min, Below, Upto}
use Rattle.vir_mean.specs.Compositions.{IsEnd, joined, merged, revised}
use Rattle.vir_mean.specs.Eliminators.{eliminated, goes, is_passed}
use Rattle.vir_mean.specs.Meaning.{mean}
use Rattle.vir_mean.specs.Modules.{all_elected, all_deferred, first_passed, first_dropped}
use Rattle.vir_mean.specs.Undecided.{undecided}
use Rattle.vir_simplify.specs.Places.{subterm_at}
use Rattle.vir_explain.specs.Visits.{Scored, Visit, scores_by, score_of_term}

-- ---- what a visit tells

-- the score that a list tells of x; 0 where it tells none
abbrev pub told_of : List Scored → ℕ → ℤ
told_of [] x = pos 0
told_of (s ∷ rest) x = if nat_eq x s.member then s.value else told_of rest x

-- the score that a visit tells of x
abbrev pub told_by : Option (List Scored) → ℕ → ℤ
told_by (Some list) x = told_of list x
told_by None x = pos 0

-- The visit is one of this term at this place, which is handed this set and gives this split.
pub record IsVisit (n : ℕ) (t : Tree) (a : Set) (s : Split) (v : Visit) : Type 0 where
  pub place : v.place ≡ n
  pub term : v.term ≡ t
  pub domain : v.domain ≡ a
  pub split : v.split ≡ s

-- The scores of a visit are those of its set's members, by the ballots restricted to that set.
abbrev pub IsScored : List Entry → Visit → Type 0
IsScored p v = v.scores ≡ option_map (scores_by v.domain (restrict v.domain p)) (score_of_term v.term)

abbrev pub AreScored : List Entry → List Visit → Type 0
AreScored p visits = AllByRecursion (IsScored p) visits

-- Every word of a visit to a part of a set is so: the subterm stands at the place, the set is a part, and the split and
-- the scores are those of the definitions, by the ballots restricted to the set.
pub record IsTrueVisit (whole : Tree) (p : List Entry) (a : Set) (v : Visit) : Type 0 where
  pub stands : subterm_at whole v.place ≡ Some v.term
  pub part : IsPart v.domain a
  pub scores : IsScored p v
  pub split : v.split ≡ mean v.term v.domain (restrict v.domain p)

-- ---- how one visit follows from those before it

-- what a module makes of a set whose members have these scores
abbrev pub split_by : Leaf → Set → (ℕ → ℤ) → Split
split_by leaf.Elect a f = all_elected a []
split_by leaf.Defer a f = all_deferred a []
split_by (leaf.PassFirst k order) a f = first_passed k order a []
split_by (leaf.DropFirst k order) a f = first_dropped k order a []
split_by leaf.Plurality a f = record {
  elected = set.retain a (λ x. not (is_passed f a x));
  rejected = set.difference a (set.retain a (λ x. not (is_passed f a x)));
  deferred = set.empty;
}
split_by (leaf.Max s) a f = eliminated a (set.retain a (goes Max f a))
split_by (leaf.Min s) a f = eliminated a (set.retain a (goes Min f a))
split_by (leaf.Below s) a f = eliminated a (set.retain a (goes Below f a))
split_by (leaf.Upto s) a f = eliminated a (set.retain a (goes Upto f a))

-- how visits account for a split of a set
abbrev pub Accounting : Type 1
Accounting = Set → List Visit → Split → Type 0

-- Visits account for what a loop makes of a set in at most so many rounds, where `Body` says how they account for a
-- round. There are none where the loop ends at the set. Else there are those of one round; and where that defers the
-- whole set, it is the last one, and all are deferred; else those of the further rounds follow, on what it defers, and
-- the two are joined.
abbrev pub RoundsAccount : ℕ → End → Accounting → Accounting
RoundsAccount zero k Body a vs s = (vs ≡ []) × (s ≡ undecided a)
RoundsAccount (suc most) k Body a vs s =
    (IsEnd k (set.len a) × (vs ≡ []) × (s ≡ undecided a))
    ⊎ ((IsEnd k (set.len a) → ⊥) × (us : List Visit) × (ws : List Visit) × (one : Split) × (vs ≡ us ++ ws)
    × Body a us one
    × (((one.deferred ≡ a) × (ws ≡ []) × (s ≡ undecided a))
    ⊎ ((one.deferred ≢ a) × (rest : Split) × RoundsAccount most k Body one.deferred ws rest × (s ≡ joined one rest))))

-- Visits account for what a term at a place makes of a set: the last one tells it; and it follows from the scores that
-- are told, where the term is a module, and else from what the visits before it account for of its parts.
abbrev pub Accounts : ℕ → Tree → Accounting
Accounts n (module_of l) a vs s =
    (v : Visit) × (vs ≡ v ∷ []) × IsVisit n (module_of l) a s v × (s ≡ split_by l a (told_by v.scores))
Accounts n (rev part) a vs s =
    (us : List Visit) × (one : Split) × (v : Visit) × (vs ≡ us ++ v ∷ []) × Accounts (n + 1) part a us one
    × IsVisit n (rev part) a s v × (s ≡ revised a one)
Accounts n (seq first second) a vs s =
    (us : List Visit) × (ws : List Visit) × (one : Split) × (other : Split) × (v : Visit) × (vs ≡ us ++ ws ++ v ∷ [])
    × Accounts (n + 1) first a us one × Accounts (n + 1 + size first) second one.deferred ws other
    × IsVisit n (seq first second) a s v × (s ≡ joined one other)
Accounts n (par first second) a vs s =
    (us : List Visit) × (ws : List Visit) × (one : Split) × (other : Split) × (v : Visit) × (vs ≡ us ++ ws ++ v ∷ [])
    × Accounts (n + 1) first a us one × Accounts (n + 1 + size first) second a ws other
    × IsVisit n (par first second) a s v × (s ≡ merged one other)
Accounts n (loop k body) a vs s =
    (us : List Visit) × (v : Visit) × (vs ≡ us ++ v ∷ []) × RoundsAccount (suc (set.len a)) k (Accounts (n + 1) body)
    a us s
    × IsVisit n (loop k body) a s v
