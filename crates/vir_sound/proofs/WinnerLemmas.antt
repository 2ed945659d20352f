-- Sets of one alternative, and splits with a Condorcet winner.
use Rattle.std.proofs.Common.{◌≡◌, ◌≢◌, ℕ, ◌+◌, Bool, true, false, true≢false, cond, not, ◌||◌, ◌&&◌, nat_eq, refl, sym}
use Rattle.std.proofs.Common.{ap, ◌∙◌, arith}
use Rattle.std.proofs.lemmas.Bool.Decides.{nat_tests}
use Rattle.std.specs.FinSet as set
use Rattle.vir_altset.specs.Sets.{Set, IsPart}
use Rattle.vir_altset.specs.SetLaws.{contains-empty, contains-union, contains-difference, contains-insert-same}
use Rattle.vir_altset.specs.SetLaws.{same_members, set_members}
use Rattle.vir_altset.specs.Splits.{bit, IsSplitOf}
use Rattle.vir_altset.specs.declared.split.Split.{Split}
use Rattle.vir_altset.proofs.SizeLaws.{len-empty, len-insert, whole_part}
use Rattle.vir_mean.specs.Compositions.{joined}
use Rattle.vir_mean.specs.Properties.{just, IsCompatible}
use Rattle.vir_sound.proofs.MeaningLemmas.{in_both_cases, same_at, none_at, empty_of_none, union_none}

-- w is elected, and all others are rejected
abbrev pub elects : ℕ → Set → Split
elects w a = record { elected = just w; rejected = set.difference a (just w); deferred = set.empty }

-- w is deferred, and all others are rejected
abbrev pub defers : ℕ → Set → Split
defers w a = record { elected = set.empty; rejected = set.difference a (just w); deferred = just w }

-- ---- the empty set
pub part_of_none : (d a : Set) → d ≡ set.empty → IsPart d a
part_of_none d a none x member = absurd (true≢false (sym member ∙ none_at x none))

pub union-empty : (a : Set) → set.union a set.empty ≡ a
union-empty a = same_members _ _ (λ x. grind (arith, nat_tests, set_members))

pub empty-union : (a : Set) → set.union set.empty a ≡ a
empty-union a = same_members _ _ (λ x. grind (arith, nat_tests, set_members))

-- ---- the set of one alternative
pub contains-just : (w x : ℕ) → set.contains (just w) x ≡ nat_eq x w
contains-just w x = grind (arith, nat_tests, set_members)

pub contains-just-same : (w : ℕ) → set.contains (just w) w ≡ true
contains-just-same w = contains-insert-same set.empty w

pub just_member : (w x : ℕ) → set.contains (just w) x ≡ true → x ≡ w
just_member w x member = is_equal (sym (contains-just w x) ∙ member)
  where
    is_equal : nat_eq x w ≡ true → x ≡ w
    is_equal same = grind (arith, nat_tests)

pub len-just : (w : ℕ) → set.len (just w) ≡ 1
len-just w = len-insert set.empty w ∙ ap (λ b. cond b (set.len none) (set.len none + 1)) (contains-empty w)
    ∙ ap (λ n. n + 1) len-empty
  where
    none : Set
    none = set.empty

-- each set with w has that of w alone as a part
pub just_part : (w : ℕ) (a : Set) → set.contains a w ≡ true → IsPart (just w) a
just_part w a member x is = ap (set.contains a) (just_member w x is) ∙ member

-- and is that set where it has one member
pub just_of_len : (w : ℕ) (a : Set) → set.contains a w ≡ true → set.len a ≡ 1 → a ≡ just w
just_of_len w a member one = sym (whole_part (just w) a (just_part w a member) (let size = len-just w in omega arith))

-- a part of the set of w alone is that set, unless it is empty
pub part_of_just : (w : ℕ) (d : Set) → IsPart d (just w) → d ≢ set.empty → d ≡ just w
part_of_just w d part some = in_both_cases (set.contains d w)
    (λ inside. same_members d (just w) (λ x. both _ _ (part x) (just_part w d inside x)))
    (λ outside.
    absurd
    (some
    (empty_of_none d
    (λ x. out _ (λ member. true≢false (sym member ∙ ap (set.contains d) (just_member w x (part x member))
    ∙ outside))))))
  where
    both : (b c : Bool) → (b ≡ true → c ≡ true) → (c ≡ true → b ≡ true) → b ≡ c
    both b c there back = grind arith

    out : (b : Bool) → b ≢ true → b ≡ false
    out b not_in = grind arith

-- a set of one alternative has a member
pub just_has_some : (w : ℕ) (d : Set) → d ≡ just w → d ≢ set.empty
just_has_some w d alone none = true≢false (sym (contains-just-same w) ∙ same_at w (sym alone ∙ none) ∙ contains-empty w)

-- ---- splits
-- who isn't elected and isn't rejected is deferred
pub left_over : (w : ℕ) (a : Set) (s : Split) → IsSplitOf a s → s.elected ≡ set.empty → set.contains a w ≡ true
    → set.contains s.rejected w ≡ false → set.contains s.deferred w ≡ true
left_over w a s split none member kept = let out = none_at w none in let parts = split.parts w in grind arith

-- where w alone is elected or deferred, all others are rejected
pub others_rejected : (w : ℕ) (a : Set) (s : Split) → IsSplitOf a s
    → ((x : ℕ) → (set.contains s.elected x || set.contains s.deferred x) ≡ set.contains (just w) x) → s.rejected
    ≡ set.difference a (just w)
others_rejected w a s split alone = same_members _ _ (λ x. step _ _ _ _ _ (split.parts x) (alone x)
    ∙ sym (contains-difference a (just w) x))
  where
    step : (e r d in_a in_w : Bool) → bit e + bit r + bit d ≡ bit in_a → (e || d) ≡ in_w → r ≡ (in_a && not in_w)
    step e r d in_a in_w parts alone = grind arith

-- nobody is elected, and w alone is deferred
pub defers_alone : (w : ℕ) (a : Set) (s : Split) → IsSplitOf a s → s.elected ≡ set.empty → s.deferred ≡ just w → s
    ≡ defers w a
defers_alone w a s split none alone =
    let rest : s.rejected ≡ set.difference a (just w) = others_rejected w a s split
    (λ x. ap (λ b. b || set.contains s.deferred x) (none_at x none) ∙ same_at x alone) in
    λ i. record { elected = none i; rejected = rest i; deferred = alone i }

-- of a set of w alone somebody is elected, who then is w
pub elects_alone : (w : ℕ) (d : Set) (s : Split) → d ≡ just w → IsSplitOf d s → s.elected ≢ set.empty → s
    ≡ record { elected = just w; rejected = set.empty; deferred = set.empty }
elects_alone w d s alone split some =
    let one : s.elected ≡ just w = part_of_just w s.elected (λ x member. sym (same_at x alone) ∙ inside x member) some
    in
    λ i. record {
      elected = one i;
      rejected = empty_of_none s.rejected (λ x. (none x (same_at x one ∙ sym (same_at x alone))).0) i;
      deferred = empty_of_none s.deferred (λ x. (none x (same_at x one ∙ sym (same_at x alone))).1) i;
    }
  where
    inside : (x : ℕ) → set.contains s.elected x ≡ true → set.contains d x ≡ true
    inside x member = let parts = split.parts x in grind arith

    none : (x : ℕ) → set.contains s.elected x ≡ set.contains d x → (set.contains s.rejected x ≡ false)
        × (set.contains s.deferred x ≡ false)
    none x all = let parts = split.parts x in (grind arith, grind arith)

-- where w is deferred, and nobody else is elected, all others are rejected: first, or of those that the split defers
pub rejected_at_last : (w : ℕ) (a : Set) (s : Split) → IsSplitOf a s → set.contains s.deferred w ≡ true
    → IsPart s.elected (just w) → set.union s.rejected (set.difference s.deferred (just w)) ≡ set.difference a (just w)
rejected_at_last w a s split member no_other = same_members _ _ (λ x.
    contains-union s.rejected (set.difference s.deferred (just w)) x
    ∙ ap (λ b. set.contains s.rejected x || b) (contains-difference s.deferred (just w) x)
    ∙ step _ _ _ _ _ (split.parts x) (no_other x) (just_part w s.deferred member x)
    ∙ sym (contains-difference a (just w) x))
  where
    step : (e r d in_a in_w : Bool) → bit e + bit r + bit d ≡ bit in_a → (e ≡ true → in_w ≡ true)
        → (in_w ≡ true → d ≡ true) → (r || (d && not in_w)) ≡ (in_a && not in_w)
    step e r d in_a in_w parts no_other inside = grind arith

-- where the first part elects nobody and defers w, the second may decide for w
pub joined-elects : (w : ℕ) (a : Set) (s : Split) → IsSplitOf a s → s.elected ≡ set.empty → set.contains s.deferred w
    ≡ true → joined s (elects w s.deferred) ≡ elects w a
joined-elects w a s split none member =
    let elected : set.union s.elected (just w) ≡ just w = ap (λ e. set.union e (just w)) none ∙ empty-union (just w) in
    let rejected = rejected_at_last w a s split member (part_of_none s.elected (just w) none) in
    λ i. record { elected = elected i; rejected = rejected i; deferred = set.empty }

pub joined-defers : (w : ℕ) (a : Set) (s : Split) → IsSplitOf a s → s.elected ≡ set.empty → set.contains s.deferred w
    ≡ true → joined s (defers w s.deferred) ≡ defers w a
joined-defers w a s split none member =
    λ i. record {
      elected = union_none s.elected set.empty none refl i;
      rejected = rejected_at_last w a s split member (part_of_none s.elected (just w) none) i;
      deferred = just w;
    }

-- ---- compatible splits
-- where nobody is elected, it is enough that w isn't rejected
pub compatible_of_none : (w : ℕ) (a : Set) (s : Split) → s.elected ≡ set.empty → set.contains s.rejected w ≡ false
    → IsCompatible w a s
compatible_of_none w a s none kept = record {
  kept = kept;
  no_other = λ x member. absurd (true≢false (sym member ∙ none_at x none));
  others = λ member. absurd (true≢false (sym member ∙ none_at w none));
}

module _ (w : ℕ) (a : Set) (s t : Split) (split : IsSplitOf a s) (later : IsSplitOf s.deferred t)
    (member : set.contains a w ≡ true) (first : IsCompatible w a s) where
  elected_or : {P : Type 0} (x : ℕ) → set.contains (set.union s.elected t.elected) x ≡ true
      → (set.contains s.elected x ≡ true → P) → (set.contains t.elected x ≡ true → P) → P
  elected_or {P} x is one other = cases (set.contains s.elected x) (set.contains t.elected x)
      (sym (contains-union s.elected t.elected x) ∙ is) one other
    where
      cases : (b c : Bool) → (b || c) ≡ true → (b ≡ true → P) → (c ≡ true → P) → P
      cases true c is one other = one refl
      cases false c is one other = other is

  -- w is elected first, and so nobody is left
  nobody_left : set.contains s.elected w ≡ true → s.deferred ≡ set.empty
  nobody_left wins = empty_of_none s.deferred (λ x. step x (set.contains (just w) x) (just_member w x) (split.parts x)
      (same_at x (first.others wins) ∙ contains-difference a (just w) x))
    where
      step : (x : ℕ) (in_w : Bool) → (in_w ≡ true → x ≡ w) → bit (set.contains s.elected x)
          + bit (set.contains s.rejected x) + bit (set.contains s.deferred x) ≡ bit (set.contains a x)
          → set.contains s.rejected x ≡ (set.contains a x && not in_w) → set.contains s.deferred x ≡ false
      step x true is parts rest = let won = ap (set.contains s.elected) (is refl) ∙ wins in grind arith
      step x false is parts rest = grind arith

  joined_after : set.contains s.elected w ≡ true → IsCompatible w a (joined s t)
  joined_after wins =
      let none = nobody_left wins in
      let nothing : (x : ℕ) → set.contains s.deferred x ≡ false = λ x. none_at x none in
      record {
        kept = contains-union s.rejected t.rejected w ∙ (let gone = nothing w in let parts = later.parts w in let kept =
            first.kept in grind arith);
        no_other = λ x is. elected_or x is (first.no_other x) (λ other. absurd (let gone = nothing x in let parts =
            later.parts x in grind arith));
        others = λ is. same_members _ _ (λ x. contains-union s.rejected t.rejected x
            ∙ (let gone = nothing x in let parts = later.parts x in let rest = same_at x (first.others wins)
            in grind arith));
      }

  joined_before : set.contains s.deferred w ≡ true → IsCompatible w s.deferred t → IsCompatible w a (joined s t)
  joined_before open_yet second = record {
    kept = contains-union s.rejected t.rejected w ∙ (let one = first.kept in let other = second.kept in grind arith);
    no_other = λ x is. elected_or x is (first.no_other x) (second.no_other x);
    others = λ is. elected_or w is
        (λ wins. absurd (let parts = split.parts w in grind arith))
        (λ wins. ap (set.union s.rejected) (second.others wins) ∙ rejected_at_last w a s split open_yet
        (λ x elected. ap (set.contains (just w)) (first.no_other x elected) ∙ contains-just-same w));
  }

  -- where the second part is compatible too if w is left, both together are
  pub joined_compatible : (set.contains s.deferred w ≡ true → IsCompatible w s.deferred t)
      → IsCompatible w a (joined s t)
  joined_compatible second = in_both_cases (set.contains s.deferred w)
      (λ inside. joined_before inside (second inside))
      (λ outside. joined_after (let parts = split.parts w in let kept = first.kept in grind arith))
