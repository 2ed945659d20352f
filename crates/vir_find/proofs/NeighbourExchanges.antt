-- Each renaming of the alternatives from 1 to m onto themselves goes by exchanges of two neighbours.
use Rattle.std.proofs.Common.{◌≡◌, ◌≢◌, ℕ, zero, suc, ◌+◌, ◌-◌, ◌<◌, ◌≤◌, Bool, true, false, cond, nat_eq, List, refl}
use Rattle.std.proofs.Common.{sym, ap, ◌∙◌, arith, subst}
use Rattle.std.proofs.lemmas.Bool.Decides.{nat_tests}
use Rattle.std.specs.FinSet as set
use Rattle.vir_altset.specs.Sets.{Set, all}
use Rattle.vir_altset.specs.SetLaws.{same_members}
use Rattle.vir_altset.specs.Splits.{bit, IsSplitOf}
use Rattle.vir_altset.specs.declared.split.Split.{Split}
use Rattle.vir_profile.specs.declared.ballot.Entry.{Entry}
use Rattle.vir_profile.specs.Profiles.{IsProfileOn, total_weight}
use Rattle.vir_mean.specs.Modules.{Meaning}
use Rattle.vir_mean.specs.Neutrality.{IsRenaming, renamed_set, renamed_lines, renamed_split}
use Rattle.vir_mean.proofs.MeaningLaws.{Splits}
use Rattle.vir_mean.proofs.RenamedSets.{named, contains-name}
use Rattle.vir_refute.proofs.AllMembers.{member_of_all, within_all}
use Rattle.vir_find.specs.Exchanges.{exchanging}
use Rattle.vir_find.proofs.Lists.{by_number}
use Rattle.vir_find.proofs.Renamings.{same_truth, total_weight-renamed, renamed_lines-twice, renamed_split-twice}
use Rattle.vir_find.proofs.Renamings.{renamed_set-fixed, renamed_lines-fixed, IsOnto, value_inside}
use Rattle.vir_find.proofs.Renamings.{renamed_on, onto-twice}

-- ---- one exchange
pub exchanged_first : (i x : ℕ) → x ≡ i → exchanging i x ≡ suc i
exchanged_first i x same = by_test (nat_eq x i) (equal x i same)
  where
    equal : (x i : ℕ) → x ≡ i → nat_eq x i ≡ true
    equal x i e = grind (arith, nat_tests)

    by_test : (b : Bool) → b ≡ true → cond b (suc i) (cond (nat_eq x (suc i)) i x) ≡ suc i
    by_test b e = grind arith

pub exchanged_second : (i x : ℕ) → x ≡ suc i → exchanging i x ≡ i
exchanged_second i x same = by_tests (nat_eq x i) (nat_eq x (suc i)) (other x i same) (equal x (suc i) same)
  where
    equal : (x i : ℕ) → x ≡ i → nat_eq x i ≡ true
    equal x i e = grind (arith, nat_tests)

    other : (x i : ℕ) → x ≡ suc i → nat_eq x i ≡ false
    other x i e = grind (arith, nat_tests)

    by_tests : (b c : Bool) → b ≡ false → c ≡ true → cond b (suc i) (cond c i x) ≡ i
    by_tests b c e h = grind arith

pub exchanged_other : (i x : ℕ) → x ≢ i → x ≢ suc i → exchanging i x ≡ x
exchanged_other i x one two = by_tests (nat_eq x i) (nat_eq x (suc i)) (other x i one) (other x (suc i) two)
  where
    other : (x i : ℕ) → x ≢ i → nat_eq x i ≡ false
    other x i e = grind (arith, nat_tests)

    by_tests : (b c : Bool) → b ≡ false → c ≡ false → cond b (suc i) (cond c i x) ≡ x
    by_tests b c e h = grind arith

pub exchanged_twice : (i x : ℕ) → exchanging i (exchanging i x) ≡ x
exchanged_twice i x = by_number x i
    (λ e. ap (exchanging i) (exchanged_first i x e) ∙ exchanged_second i (suc i) refl ∙ sym e)
    (λ one. by_number x (suc i)
    (λ e. ap (exchanging i) (exchanged_second i x e) ∙ exchanged_first i i refl ∙ sym e)
    (λ two. ap (exchanging i) (exchanged_other i x one two) ∙ exchanged_other i x one two))

exchanged_inside : (m i x : ℕ) → 1 ≤ i → suc i ≤ m → set.contains (all m) x ≡ true
    → set.contains (all m) (exchanging i x) ≡ true
exchanged_inside m i x low high inside = by_number x i
    (λ e. subst (λ y. set.contains (all m) y ≡ true) (sym (exchanged_first i x e))
    (member_of_all m (suc i) (omega arith) high))
    (λ one. by_number x (suc i)
    (λ e.
    subst (λ y. set.contains (all m) y ≡ true) (sym (exchanged_second i x e)) (member_of_all m i low (omega arith)))
    (λ two. subst (λ y. set.contains (all m) y ≡ true) (sym (exchanged_other i x one two)) inside))

pub exchange_onto : (m i : ℕ) → 1 ≤ i → suc i ≤ m → IsOnto m (exchanging i)
exchange_onto m i low high = record {
  renaming = record {
    positive = λ x inside. (within_all m (exchanging i x) (exchanged_inside m i x low high inside)).0;
    one_to_one = λ x y with_x with_y same. sym (exchanged_twice i x) ∙ ap (exchanging i) same ∙ exchanged_twice i y;
  };
  onto = same_members _ _ (λ z. same_truth _ _
      (λ h.
      let n = named (exchanging i) (all m) z h in
      subst (λ y. set.contains (all m) y ≡ true) n.name (exchanged_inside m i n.one low high n.member))
      (λ h. subst (λ y. set.contains (renamed_set (exchanging i) (all m)) y ≡ true) (exchanged_twice i z)
      (contains-name (exchanging i) (all m) (exchanging i z) (exchanged_inside m i z low high h))));
}

-- ---- all renamings
-- Each number above k, up to m, keeps its name.
abbrev IsFixedAbove : ℕ → ℕ → (ℕ → ℕ) → Type 0
IsFixedAbove m k g = (x : ℕ) → k < x → x ≤ m → g x ≡ x

-- no number up to k gets a name above k
stays_below : (m k : ℕ) (g : ℕ → ℕ) → 1 ≤ k → k ≤ m → IsOnto m g → IsFixedAbove m k g → g k ≤ k
stays_below m k g some few is fixed = not_above (g k) k (λ above.
    let inside = value_inside m g is k (member_of_all m k some few) in
    let same = is.renaming.one_to_one (g k) k inside (member_of_all m k some few)
    (fixed (g k) above (within_all m (g k) inside).1) in
    absurd (omega arith))
  where
    not_above : (w k : ℕ) → (k < w → ⊥) → w ≤ k
    not_above w k none = grind arith

module _ (m voters : ℕ) (f : Meaning) (splits : Splits f) where
  -- on profiles of at most so many voters the renamed split is that of the renamed profile
  abbrev pub Keeps : (ℕ → ℕ) → Type 0
  Keeps g = (q : List Entry) → IsProfileOn (all m) q → total_weight q ≤ voters
      → f (all m) (renamed_lines g q) ≡ renamed_split g (f (all m) q)

  keeps-twice : (h g : ℕ → ℕ) → IsOnto m g → Keeps h → Keeps g → Keeps (λ x. h (g x))
  keeps-twice h g is second first q on light =
      ap (f (all m)) (sym (renamed_lines-twice h g q))
      ∙ second (renamed_lines g q) (renamed_on m g is q on)
      (subst (λ n. n ≤ voters) (sym (total_weight-renamed g q)) light)
      ∙ ap (renamed_split h) (first q on light)
      ∙ renamed_split-twice h g (f (all m) q)

  keeps-fixed : (g : ℕ → ℕ) → IsOnto m g → IsFixedAbove m 0 g → Keeps g
  keeps-fixed g is fixed q on light =
      let s = f (all m) q in
      let parts = (splits (all m) q).parts in
      let stays = λ (x : ℕ) (inside : set.contains (all m) x ≡ true). fixed x (within_all m x inside).0
      (within_all m x inside).1 in
      let elected = renamed_set-fixed g (f (all m) q).elected (λ x inside. stays x (first _ _ _ _ (parts x) inside)) in
      let rejected =
      renamed_set-fixed g (f (all m) q).rejected (λ x inside. stays x (second _ _ _ _ (parts x) inside)) in
      let deferred =
      renamed_set-fixed g (f (all m) q).deferred (λ x inside. stays x (third _ _ _ _ (parts x) inside)) in
      ap (f (all m)) (renamed_lines-fixed m g is stays q on)
      ∙ sym (λ i. record { elected = elected i; rejected = rejected i; deferred = deferred i })
    where
      first : (b c d e : Bool) → bit b + bit c + bit d ≡ bit e → b ≡ true → e ≡ true
      first b c d e h is = grind arith

      second : (b c d e : Bool) → bit b + bit c + bit d ≡ bit e → c ≡ true → e ≡ true
      second b c d e h is = grind arith

      third : (b c d e : Bool) → bit b + bit c + bit d ≡ bit e → d ≡ true → e ≡ true
      third b c d e h is = grind arith

  module _ (one : (i : ℕ) → 1 ≤ i → suc i ≤ m → Keeps (exchanging i)) where
    -- the greatest number that gets another name moves up, neighbour by neighbour, until it has its own
    upward : (k : ℕ) → suc k ≤ m → ((g : ℕ → ℕ) → IsOnto m g → IsFixedAbove m k g → Keeps g) → (d : ℕ) (g : ℕ → ℕ)
        → IsOnto m g → IsFixedAbove m (suc k) g → g (suc k) + d ≡ suc k → Keeps g
    upward k few below zero g is fixed at = below g is (λ x above inside. by_number x (suc k)
        (λ same. ap g same ∙ here at ∙ sym same) (λ other. fixed x (omega arith) inside))
      where
        here : g (suc k) + 0 ≡ suc k → g (suc k) ≡ suc k
        here e = omega arith
    upward k few below (suc d) g is fixed at =
        let v = g (suc k) in
        let low = is.renaming.positive (suc k) (member_of_all m (suc k) (omega arith) few) in
        let onto = exchange_onto m (g (suc k)) low (omega arith) in
        subst Keeps (λ i x. exchanged_twice (g (suc k)) (g x) i)
        (keeps-twice (exchanging (g (suc k))) (λ x. exchanging (g (suc k)) (g x))
        (onto-twice m (exchanging (g (suc k))) g onto is)
        (one (g (suc k)) low (omega arith))
        (upward k few below d (λ x. exchanging (g (suc k)) (g x)) (onto-twice m (exchanging (g (suc k))) g onto is)
        (λ x above inside. ap (exchanging (g (suc k))) (fixed x above inside)
        ∙ exchanged_other (g (suc k)) x (λ e. absurd (omega arith)) (λ e. absurd (omega arith)))
        (ap (λ n. n + d) (exchanged_first (g (suc k)) (g (suc k)) refl) ∙ next at)))
      where
        next : g (suc k) + suc d ≡ suc k → suc (g (suc k)) + d ≡ suc k
        next e = omega arith

    by_exchanges : (k : ℕ) → k ≤ m → (g : ℕ → ℕ) → IsOnto m g → IsFixedAbove m k g → Keeps g
    by_exchanges zero few g is fixed = keeps-fixed g is fixed
    by_exchanges (suc k) few g is fixed =
        let below = stays_below m (suc k) g (omega arith) few is fixed in
        upward k few (by_exchanges k (omega arith)) (suc k - g (suc k)) g is fixed (omega arith)

    pub keeps_all : (g : ℕ → ℕ) → IsOnto m g → Keeps g
    keeps_all g is = by_exchanges m (omega arith) g is (λ x above inside. absurd (omega arith))
