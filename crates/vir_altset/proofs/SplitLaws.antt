-- The laws of splits.
use Rattle.std.proofs.Common.{◌≡◌, ℕ, ◌+◌, Bool, true, false, ◌||◌, sym, ap, ◌∙◌, arith}
use Rattle.std.proofs.lemmas.Bool.Decides.{nat_tests}
use Rattle.std.specs.FinSet as set
use Rattle.vir_altset.specs.Sets.{Set, IsPart}
use Rattle.vir_altset.specs.SetLaws.{contains-empty, contains-union, same_members, set_members}
use Rattle.vir_altset.specs.Splits.{bit, IsSplitOf}
use Rattle.vir_altset.specs.declared.split.Split.{Split}
use Rattle.vir_altset.proofs.SizeLaws.{len-make_up, len-union}

-- the sizes of the three sets add up to that of the set that was split
pub len-split : (a : Set) (s : Split) → IsSplitOf a s → set.len s.elected + set.len s.rejected + set.len s.deferred
    ≡ set.len a
len-split a s split =
    let two : set.len (set.union s.elected s.rejected) ≡ set.len s.elected + set.len s.rejected = len-union s.elected
    s.rejected (λ x. apart _ _ _ _ (split.parts x)) in
    let three : set.len (set.union s.elected s.rejected) + set.len s.deferred ≡ set.len a =
    len-make_up (set.union s.elected s.rejected) s.deferred a
    (λ x. ap (λ b. bit b + bit (set.contains s.deferred x)) (contains-union s.elected s.rejected x)
    ∙ joined _ _ _ _ (split.parts x)) in
    omega arith
  where
    apart : (e r d a : Bool) → bit e + bit r + bit d ≡ bit a → e ≡ true → r ≡ false
    apart e r d a h t = grind arith

    joined : (e r d a : Bool) → bit e + bit r + bit d ≡ bit a → bit (e || r) + bit d ≡ bit a
    joined e r d a h = grind arith

-- each of the three sets is a part
pub elected_part : (a : Set) (s : Split) → IsSplitOf a s → IsPart s.elected a
elected_part a s split x member = grind (arith, split.parts x)

pub rejected_part : (a : Set) (s : Split) → IsSplitOf a s → IsPart s.rejected a
rejected_part a s split x member = grind (arith, split.parts x)

pub deferred_part : (a : Set) (s : Split) → IsSplitOf a s → IsPart s.deferred a
deferred_part a s split x member = grind (arith, split.parts x)

-- a split of the empty set is three empty sets
pub split_of_empty : (s : Split) → IsSplitOf set.empty s → s
    ≡ record { elected = set.empty; rejected = set.empty; deferred = set.empty }
split_of_empty s split =
    let elected : s.elected ≡ set.empty = same_members _ _ (λ x. (out x).0 ∙ sym (contains-empty x)) in
    let rejected : s.rejected ≡ set.empty = same_members _ _ (λ x. (out x).1 ∙ sym (contains-empty x)) in
    let deferred : s.deferred ≡ set.empty = same_members _ _ (λ x. (out x).2 ∙ sym (contains-empty x)) in
    λ i. record { elected = elected i; rejected = rejected i; deferred = deferred i }
  where
    none : (e r d : Bool) → bit e + bit r + bit d ≡ 0 → (e ≡ false) × (r ≡ false) × (d ≡ false)
    none e r d h = (grind arith, grind arith, grind arith)

    out : (x : ℕ) → (set.contains s.elected x ≡ false) × (set.contains s.rejected x ≡ false)
        × (set.contains s.deferred x ≡ false)
    out x = none _ _ _ (split.parts x ∙ ap bit (contains-empty x))

-- all members are elected
pub all_elected : (a : Set) → IsSplitOf a (record { elected = a; rejected = set.empty; deferred = set.empty })
all_elected a = record { parts = λ x. grind (arith, nat_tests, set_members) }

-- all members are rejected
pub all_rejected : (a : Set) → IsSplitOf a (record { elected = set.empty; rejected = a; deferred = set.empty })
all_rejected a = record { parts = λ x. grind (arith, nat_tests, set_members) }

-- all members are deferred
pub all_deferred : (a : Set) → IsSplitOf a (record { elected = set.empty; rejected = set.empty; deferred = a })
all_deferred a = record { parts = λ x. grind (arith, nat_tests, set_members) }

-- what a test keeps is elected, the rest rejected
pub kept_elected_rest_rejected : (a : Set) (p : ℕ → Bool)
    → IsSplitOf a (record {
      elected = set.retain a p;
      rejected = set.difference a (set.retain a p);
      deferred = set.empty;
    })
kept_elected_rest_rejected a p = record { parts = λ x. grind (arith, nat_tests, set_members) }

-- what a test keeps is elected, the rest deferred
pub kept_elected_rest_deferred : (a : Set) (p : ℕ → Bool)
    → IsSplitOf a
    (record { elected = set.retain a p; rejected = set.empty; deferred = set.difference a (set.retain a p) })
kept_elected_rest_deferred a p = record { parts = λ x. grind (arith, nat_tests, set_members) }

-- what a test keeps is rejected, the rest elected
pub kept_rejected_rest_elected : (a : Set) (p : ℕ → Bool)
    → IsSplitOf a (record {
      elected = set.difference a (set.retain a p);
      rejected = set.retain a p;
      deferred = set.empty;
    })
kept_rejected_rest_elected a p = record { parts = λ x. grind (arith, nat_tests, set_members) }

-- what a test keeps is rejected, the rest deferred
pub kept_rejected_rest_deferred : (a : Set) (p : ℕ → Bool)
    → IsSplitOf a
    (record { elected = set.empty; rejected = set.retain a p; deferred = set.difference a (set.retain a p) })
kept_rejected_rest_deferred a p = record { parts = λ x. grind (arith, nat_tests, set_members) }

-- what a test keeps is deferred, the rest elected
pub kept_deferred_rest_elected : (a : Set) (p : ℕ → Bool)
    → IsSplitOf a (record {
      elected = set.difference a (set.retain a p);
      rejected = set.empty;
      deferred = set.retain a p;
    })
kept_deferred_rest_elected a p = record { parts = λ x. grind (arith, nat_tests, set_members) }

-- what a test keeps is deferred, the rest rejected
pub kept_deferred_rest_rejected : (a : Set) (p : ℕ → Bool)
    → IsSplitOf a (record {
      elected = set.empty;
      rejected = set.difference a (set.retain a p);
      deferred = set.retain a p;
    })
kept_deferred_rest_rejected a p = record { parts = λ x. grind (arith, nat_tests, set_members) }

-- a part is elected, the rest rejected
pub part_elected : (a e : Set) → IsPart e a
    → IsSplitOf a (record { elected = e; rejected = set.difference a e; deferred = set.empty })
part_elected a e part = record { parts = λ x. grind (arith, nat_tests, set_members, part x) }

-- a part is deferred, the rest rejected
pub part_deferred : (a d : Set) → IsPart d a
    → IsSplitOf a (record { elected = set.empty; rejected = set.difference a d; deferred = d })
part_deferred a d part = record { parts = λ x. grind (arith, nat_tests, set_members, part x) }

-- elected and rejected exchanged
pub exchanged_split : (a : Set) (s : Split) → IsSplitOf a s
    → IsSplitOf a (record { elected = s.rejected; rejected = s.elected; deferred = s.deferred })
exchanged_split a s split = record { parts = λ x. let all = split.parts x in omega arith }

-- a split, and a split of what it defers, joined to one
pub join_split : (a : Set) (s t : Split) → IsSplitOf a s → IsSplitOf s.deferred t
    → IsSplitOf a (record {
      elected = set.union s.elected t.elected;
      rejected = set.union s.rejected t.rejected;
      deferred = t.deferred;
    })
join_split a s t first later =
    record { parts = λ x. grind (arith, nat_tests, set_members, first.parts x, later.parts x) }

-- two splits of one set: elected by either, rejected by both, and the rest deferred
pub parallel_split : (a : Set) (s t : Split) → IsSplitOf a s → IsSplitOf a t
    → IsSplitOf a (record {
      elected = set.union s.elected t.elected;
      rejected = set.intersection s.rejected t.rejected;
      deferred = set.difference (set.union s.deferred t.deferred) (set.union s.elected t.elected);
    })
parallel_split a s t one other =
    record { parts = λ x. grind (arith, nat_tests, set_members, one.parts x, other.parts x) }
