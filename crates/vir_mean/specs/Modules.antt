-- The meanings of the modules.
use Rattle.std.specs.Prelude.{ℕ, List, not}
use Rattle.std.specs.FinSet as set
use Rattle.vir_altset.specs.Sets.{Set}
use Rattle.vir_altset.specs.declared.split.Split.{Split}
use Rattle.vir_profile.specs.declared.ballot.Entry.{Entry}
use Rattle.vir_term.specs.declared.leaf.Leaf.{Leaf}
use Rattle.vir_term.specs.declared.leaf.Leaf.TheVariants as leaf
use Rattle.vir_mean.specs.declared.elimination.Elimination.TheVariants.{Max, Min, Below, Upto}
use Rattle.vir_mean.specs.Scores.{plurality_score}
use Rattle.vir_mean.specs.Eliminators.{is_passed, eliminator}
use Rattle.vir_mean.specs.FixedOrders.{first_members}
use Rattle.vir_mean.specs.Undecided.{undecided}

-- a meaning: for each set and each profile on it, a split of the set
abbrev pub Meaning : Type 0
Meaning = Set → List Entry → Split

-- all are elected
abbrev pub all_elected : Meaning
all_elected a lines = record { elected = a; rejected = set.empty; deferred = set.empty }

-- all are deferred
abbrev pub all_deferred : Meaning
all_deferred a lines = undecided a

-- the first k in a fixed order are deferred, and the others rejected
abbrev pub first_passed : ℕ → List ℕ → Meaning
first_passed k order a lines =
    record {
      elected = set.empty;
      rejected = set.difference a (first_members k order a);
      deferred = first_members k order a;
    }

-- the first k in a fixed order are rejected, and the others deferred
abbrev pub first_dropped : ℕ → List ℕ → Meaning
first_dropped k order a lines =
    record {
      elected = set.empty;
      rejected = first_members k order a;
      deferred = set.difference a (first_members k order a);
    }

-- the members that most voters put first: no member is put first by more
abbrev pub plurality_winners : Set → List Entry → Set
plurality_winners a lines = set.retain a (λ x. not (is_passed (plurality_score lines) a x))

-- these are elected, and the others rejected
abbrev pub winners_elected : Meaning
winners_elected a lines =
    record {
      elected = plurality_winners a lines;
      rejected = set.difference a (plurality_winners a lines);
      deferred = set.empty;
    }

-- the meaning of a module
abbrev pub leaf_mean : Leaf → Meaning
leaf_mean leaf.Elect = all_elected
leaf_mean leaf.Defer = all_deferred
leaf_mean (leaf.PassFirst k order) = first_passed k order
leaf_mean (leaf.DropFirst k order) = first_dropped k order
leaf_mean leaf.Plurality = winners_elected
leaf_mean (leaf.Max s) = eliminator Max s
leaf_mean (leaf.Min s) = eliminator Min s
leaf_mean (leaf.Below s) = eliminator Below s
leaf_mean (leaf.Upto s) = eliminator Upto s
