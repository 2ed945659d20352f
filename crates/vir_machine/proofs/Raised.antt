-- How numbers of calls rise, and where the counter stands that is asked.
use Rattle.std.proofs.Common.{◌≡◌, ◌≢◌, ℕ, zero, suc, ◌+◌, ◌<◌, ◌≤◌, Bool, true, false, cond, nat_eq, nat_lt, ◌||◌}
use Rattle.std.proofs.Common.{List, [], ◌∷◌, length, refl, sym, ap, ◌∙◌, arith}
use Rattle.std.proofs.lemmas.Bool.{ltb-true}
use Rattle.std.proofs.lemmas.Bool.Decides.{nat_tests}
use Rattle.std.specs.Prelude.{ltb, slice_set, slice_index_or, slice_get, Some}
use Rattle.vir_term.specs.declared.leaf.LeafKind.{LeafKind}
use Rattle.vir_counter.specs.Kinds.{has_kind}
use Rattle.vir_counter.specs.Calls.{risen}
use Rattle.vir_machine.specs.Bench.{CounterView, views, kinds_of, calls_of, raised_from, raised, is_served}
use Rattle.vir_machine.specs.Bench.{first_serving}

-- ---- risen
pub risen-risen : (calls m n : ℕ) → risen (risen calls m) n ≡ risen calls (m + n)
risen-risen calls m n = omega arith

pub risen-zero : (calls : ℕ) → risen calls 0 ≡ calls
risen-zero calls = omega arith

-- ---- raised
pub raised_from-raised_from : (n : ℕ) (f g : ℕ → ℕ) (counters : List CounterView)
    → raised_from n g (raised_from n f counters) ≡ raised_from n (λ i. f i + g i) counters
raised_from-raised_from n f g [] = refl
raised_from-raised_from n f g (c ∷ rest) =
    ap (λ calls. record { kinds = c.kinds; calls = calls } ∷ raised_from (suc n) g (raised_from (suc n) f rest))
    (risen-risen c.calls (f n) (g n))
    ∙ ap (λ l. record { kinds = c.kinds; calls = risen c.calls (f n + g n) } ∷ l) (raised_from-raised_from (suc n) f g
    rest)

-- what rises twice rises by both numbers
pub raised-raised : (f g : ℕ → ℕ) (counters : List CounterView) → raised g (raised f counters) ≡ raised (λ i. f i + g i)
    counters
raised-raised f g counters = raised_from-raised_from 0 f g counters

pub kinds_of-raised_from : (n : ℕ) (f : ℕ → ℕ) (counters : List CounterView) → kinds_of (raised_from n f counters)
    ≡ kinds_of counters
kinds_of-raised_from n f [] = refl
kinds_of-raised_from n f (c ∷ rest) = ap (λ l. c.kinds ∷ l) (kinds_of-raised_from (suc n) f rest)

-- no rise changes what is served
pub kinds_of-raised : (f : ℕ → ℕ) (counters : List CounterView) → kinds_of (raised f counters) ≡ kinds_of counters
kinds_of-raised f counters = kinds_of-raised_from 0 f counters

pub raised_from-zero : (n : ℕ) (f : ℕ → ℕ) (counters : List CounterView) → ((i : ℕ) → n ≤ i → f i ≡ 0)
    → raised_from n f counters ≡ counters
raised_from-zero n f [] none = refl
raised_from-zero n f (c ∷ rest) none =
    ap (λ more. record { kinds = c.kinds; calls = risen c.calls more } ∷ raised_from (suc n) f rest)
    (none n (omega arith))
    ∙ ap (λ calls. record { kinds = c.kinds; calls = calls } ∷ raised_from (suc n) f rest) (risen-zero c.calls)
    ∙ ap (λ l. c ∷ l) (raised_from-zero (suc n) f rest (λ i above. none i (omega arith)))

-- a rise by nothing
pub raised-zero : (f : ℕ → ℕ) (counters : List CounterView) → ((i : ℕ) → f i ≡ 0) → raised f counters ≡ counters
raised-zero f counters none = raised_from-zero 0 f counters (λ i above. none i)

equal : (m n : ℕ) → m ≡ n → nat_eq m n ≡ true
equal m n same = grind (arith, nat_tests)

differ : (m n : ℕ) → m ≢ n → nat_eq m n ≡ false
differ m n apart = grind (arith, nat_tests)

abbrev seen : List LeafKind → ℕ → CounterView
seen kinds calls = record { kinds = kinds; calls = calls }

-- 1 for the index i, and 0 for each other
abbrev one_at : ℕ → ℕ → ℕ
one_at i j = cond (nat_eq j i) 1 0

module _ {B : Type 0} (kinds : B → List LeafKind) (made : B → ℕ) where
  abbrev pub served_by : List B → List (List LeafKind)
  served_by counters = kinds_of (views kinds made counters)

  -- one call of the counter with index i, where the first of these has index n
  views-slice_set : (n i : ℕ) (counters : List B) (b x : B) → i < length counters → kinds b
      ≡ kinds (slice_index_or counters i x) → made b ≡ risen (made (slice_index_or counters i x)) 1
      → views kinds made (slice_set counters i b) ≡ raised_from n (one_at (n + i)) (views kinds made counters)
  views-slice_set n i [] b x within same more = absurd (omega arith)
  views-slice_set n zero (c ∷ rest) b x within same more =
      let others = views kinds made rest in
      let first : nat_eq n (n + 0) ≡ true = equal n (n + 0) (omega arith) in
      let stay = raised_from-zero (suc n) (one_at (n + 0)) others
      (λ j above. ap (λ t. cond t 1 0) (differ j (n + 0) (λ e. omega arith))) in
      ap (λ q. seen q (made b) ∷ others) same
      ∙ ap (λ calls. seen (kinds c) calls ∷ others) more
      ∙ ap (λ t. seen (kinds c) (risen (made c) (cond t 1 0)) ∷ others) (sym first)
      ∙ ap (λ l. seen (kinds c) (risen (made c) (one_at (n + 0) n)) ∷ l) (sym stay)
  views-slice_set n (suc i) (c ∷ rest) b x within same more =
      let others = views kinds made rest in
      let first : nat_eq n (n + suc i) ≡ false = differ n (n + suc i) (λ e. omega arith) in
      let next : suc n + i ≡ n + suc i = omega arith in
      ap (λ l. seen (kinds c) (made c) ∷ l) (views-slice_set (suc n) i rest b x (omega arith) same more)
      ∙ ap (λ k. seen (kinds c) (made c) ∷ raised_from (suc n) (one_at k) others) next
      ∙ ap (λ calls. seen (kinds c) calls ∷ raised_from (suc n) (one_at (n + suc i)) others) (sym (risen-zero (made c)))
      ∙ ap (λ t. seen (kinds c) (risen (made c) (cond t 1 0)) ∷ raised_from (suc n) (one_at (n + suc i)) others)
      (sym first)

  -- ---- the counter that is asked
  -- where some counter serves a kind, the first that does stands in the list
  within_counters : (counters : List B) (kind : LeafKind) → is_served (served_by counters) kind ≡ true
      → first_serving (served_by counters) kind < length counters
  within_counters [] kind is = cc
  within_counters (c ∷ rest) kind is = step (has_kind (kinds c) kind) (within_counters rest kind) is
    where
      served : List (List LeafKind)
      served = served_by rest

      step : (first : Bool) → (is_served served kind ≡ true → first_serving served kind < length rest)
          → (first || is_served served kind) ≡ true → cond first 0 (suc (first_serving served kind)) < suc (length rest)
      step true later is = omega arith
      step false later is = let lt = later is in omega arith

  -- and serves it
  first_serves : (counters : List B) (kind : LeafKind) (x : B) → is_served (served_by counters) kind ≡ true → x
      ≡ slice_index_or counters (first_serving (served_by counters) kind) x → has_kind (kinds x) kind ≡ true
  first_serves [] kind x is at = cc
  first_serves (c ∷ rest) kind x is at = step (has_kind (kinds c) kind) refl (first_serves rest kind x) is at
    where
      served : List (List LeafKind)
      served = served_by rest

      step : (first : Bool) → first ≡ has_kind (kinds c) kind → (is_served served kind ≡ true → x
          ≡ slice_index_or rest (first_serving served kind) x → has_kind (kinds x) kind ≡ true)
          → (first || is_served served kind) ≡ true
          → x ≡ slice_index_or (c ∷ rest) (cond first 0 (suc (first_serving served kind))) x → has_kind (kinds x) kind
          ≡ true
      step true e later is at = ap (λ z. has_kind (kinds z) kind) at ∙ sym e
      step false e later is at = later is at

  -- the same of an index that is the first serving one
  pub asked-within : (counters : List B) (kind : LeafKind) (i : ℕ) → i ≡ first_serving (served_by counters) kind
      → is_served (served_by counters) kind ≡ true → i < length counters
  asked-within counters kind i e is = let lt = within_counters counters kind is in omega arith

  pub asked-serves : (counters : List B) (kind : LeafKind) (i : ℕ) (x : B) → i ≡ first_serving (served_by counters) kind
      → is_served (served_by counters) kind ≡ true → x ≡ slice_index_or counters i x → has_kind (kinds x) kind ≡ true
  asked-serves counters kind i x e is at = first_serves counters kind x is (at ∙ ap (λ n. slice_index_or counters n x)
      e)

  -- its calls rise by 1, and all others stay
  pub asked-once : (counters : List B) (kind : LeafKind) (i : ℕ) (b x : B) → i ≡ first_serving (served_by counters) kind
      → is_served (served_by counters) kind ≡ true → x ≡ slice_index_or counters i x → kinds b ≡ kinds x → made b
      ≡ risen (made x) 1
      → views kinds made (slice_set counters i b) ≡ raised (one_at (first_serving (served_by counters) kind))
      (views kinds made counters)
  asked-once counters kind i b x e is at same more =
      let index : 0 + i ≡ first_serving (served_by counters) kind = omega (arith, e) in
      views-slice_set 0 i counters b x (asked-within counters kind i e is) (same ∙ ap kinds at)
      (more ∙ ap (λ z. risen (made z) 1) at)
      ∙ ap (λ n. raised (one_at n) (views kinds made counters)) index

  -- an index within the list tells that some counter serves the kind
  within_is_served : (counters : List B) (kind : LeafKind) → nat_lt (first_serving (served_by counters) kind)
      (length counters) ≡ is_served (served_by counters) kind
  within_is_served [] kind = refl
  within_is_served (c ∷ rest) kind = step (has_kind (kinds c) kind) (within_is_served rest kind)
    where
      served : List (List LeafKind)
      served = served_by rest

      step : (first : Bool) → nat_lt (first_serving served kind) (length rest) ≡ is_served served kind
          → nat_lt (cond first 0 (suc (first_serving served kind))) (suc (length rest))
          ≡ (first || is_served served kind)
      step true later = grind (arith, nat_tests)
      step false later = grind (arith, nat_tests, later)

  pub place_tells : (counters : List B) (kind : LeafKind) (i n : ℕ) → i ≡ first_serving (served_by counters) kind → n
      ≡ length counters → nat_lt i n ≡ is_served (served_by counters) kind
  place_tells counters kind i n e size =
      ap (λ x. nat_lt x n) e ∙ ap (λ x. nat_lt (first_serving (served_by counters) kind) x) size
      ∙ within_is_served counters kind

  -- ---- numbers of calls
  calls_at : (counters : List B) (i : ℕ) (x : B) → i < length counters → x ≡ slice_index_or counters i x → Some (made x)
      ≡ slice_get (calls_of (views kinds made counters)) i
  calls_at [] i x within at = absurd (omega arith)
  calls_at (c ∷ rest) zero x within at = ap (λ y. Some (made y)) at
  calls_at (c ∷ rest) (suc i) x within at = calls_at rest i x (omega arith) at

  pub calls_told : (counters items : List B) (i calls : ℕ) (x : B) → counters ≡ items → true ≡ ltb i (length counters)
      → x ≡ slice_index_or counters i x → calls ≡ made x → Some calls ≡ slice_get (calls_of (views kinds made items)) i
  calls_told counters items i calls x same within at is =
      ap Some is
      ∙ calls_at counters i x (ltb-true i (length counters) (sym within)) at
      ∙ ap (λ l. slice_get (calls_of (views kinds made l)) i) same
