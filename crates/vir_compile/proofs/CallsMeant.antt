-- The modules that the meaning calls, by the parts of the term.
use Rattle.std.proofs.Common.{◌≡◌, ℕ, zero, suc, ◌<◌, Bool, true, false, List, [], ◌++◌, if◌then◌else◌, refl, ap, ◌∙◌}
use Rattle.std.proofs.Common.{arith}
use Rattle.std.specs.FinSet as set
use Rattle.vir_altset.specs.Sets.{Set}
use Rattle.vir_altset.specs.Splits.{IsSplitOf}
use Rattle.vir_profile.specs.declared.ballot.Entry.{Entry}
use Rattle.vir_profile.specs.Profiles.{restrict}
use Rattle.vir_term.specs.declared.leaf.Leaf.{Leaf}
use Rattle.vir_term.specs.Tree.{Tree, seq, loop, End}
use Rattle.vir_mean.specs.Compositions.{is_end}
use Rattle.vir_mean.specs.Modules.{Meaning}
use Rattle.vir_mean.specs.Meaning.{mean}
use Rattle.vir_compile.specs.Calls.{Calls, turns_calls, calls_of}
use Rattle.vir_compile.proofs.Sets.{restrict_restrict}
use Rattle.vir_compile.proofs.Meant.{less, mean-split, meant, meant-part}

-- the calls of a loop over a meaning that splits each set
module _ (k : End) (m : Meaning) (c : Calls) (splits : (a : Set) (p : List Entry) → IsSplitOf a (m a p)) where
  -- those of the turns after the first
  abbrev later : ℕ → Set → List Entry → List Leaf
  later n a p = turns_calls n k m c (m a p).deferred (restrict (m a p).deferred p)

  -- two loops with turns enough call the same
  enough_calls : (n n' : ℕ) (a : Set) (p : List Entry) → set.len a < n → set.len a < n' → turns_calls n k m c a p
      ≡ turns_calls n' k m c a p
  unfolding turns_calls
  enough_calls zero n' a p f g = absurd (omega arith)
  enough_calls (suc n) zero a p f g = absurd (omega arith)
  enough_calls (suc n) (suc n') a p f g =
      pick (λ few. enough_calls n n' (m a p).deferred (restrict (m a p).deferred p) (omega arith) (omega arith))
      (is_end k (set.len a)) (set.is_subset a (m a p).deferred) refl
    where
      pick : (set.len (m a p).deferred < set.len a → later n a p ≡ later n' a p) → (b d : Bool)
          → set.is_subset a (m a p).deferred ≡ d
          → (if b then [] else (c a p ++ (if d then [] else later n a p)))
          ≡ (if b then [] else (c a p ++ (if d then [] else later n' a p)))
      pick again true d h = refl
      pick again false true h = refl
      pick again false false h = ap (λ l. c a p ++ l) (again (less k m splits a p h))

  -- a loop whose number is met calls none
  pub calls-met : (a : Set) (p : List Entry) → is_end k (set.len a) ≡ true → turns_calls (suc (set.len a)) k m c a p
      ≡ []
  unfolding turns_calls
  calls-met a p met =
      ap (λ b. if b then [] else (c a p ++ (if set.is_subset a (m a p).deferred then [] else later (set.len a) a p)))
      met

  -- one whose number is not met calls what its body calls, and goes on unless that defers all
  pub calls-unmet : (a : Set) (p : List Entry) → is_end k (set.len a) ≡ false
      → turns_calls (suc (set.len a)) k m c a p ≡ c a p ++ (if set.is_subset a (m a p).deferred then []
      else later (suc (set.len (m a p).deferred)) a p)
  unfolding turns_calls
  calls-unmet a p unmet =
      ap (λ b. if b then [] else (c a p ++ (if set.is_subset a (m a p).deferred then [] else later (set.len a) a p)))
      unmet
      ∙ ap (λ l. c a p ++ l) (pick (set.is_subset a (m a p).deferred) refl)
    where
      pick : (d : Bool) → set.is_subset a (m a p).deferred ≡ d → (if d then [] else later (set.len a) a p)
          ≡ (if d then [] else later (suc (set.len (m a p).deferred)) a p)
      pick true h = refl
      pick false h =
          let few = less k m splits a p h in
          enough_calls (set.len a) (suc (set.len (m a p).deferred)) (m a p).deferred (restrict (m a p).deferred p) few
          (omega arith)

module _ (lines : List Entry) where
  -- the calls of the meaning on a set, by the ballots restricted to it
  abbrev pub calls_on : Tree → Set → List Leaf
  calls_on t a = calls_of t a (restrict a lines)

  again : (t : Tree) (m : Tree) (a : Set) → calls_of t (meant lines m a).deferred (restrict (meant lines m a).deferred
      (restrict a lines)) ≡ calls_on t (meant lines m a).deferred
  again t m a = ap (calls_of t (meant lines m a).deferred) (restrict_restrict (meant lines m a).deferred a
      (meant-part lines m a) lines)

  pub calls_on-seq : (m n : Tree) (a : Set) → calls_on (seq m n) a ≡ calls_on m a
      ++ calls_on n (meant lines m a).deferred
  calls_on-seq m n a = ap (λ l. calls_on m a ++ l) (again n m a)

  module _ (k : End) (m : Tree) (a : Set) where
    pub calls_on-met : is_end k (set.len a) ≡ true → calls_on (loop k m) a ≡ []
    calls_on-met met = calls-met k (mean m) (calls_of m) (mean-split m) a (restrict a lines) met

    pub calls_on-unmet : is_end k (set.len a) ≡ false → calls_on (loop k m) a ≡ calls_on m a
        ++ (if set.is_subset a (meant lines m a).deferred then [] else calls_on (loop k m) (meant lines m a).deferred)
    calls_on-unmet unmet =
        calls-unmet k (mean m) (calls_of m) (mean-split m) a (restrict a lines) unmet
        ∙ ap (λ l. calls_on m a ++ (if set.is_subset a (meant lines m a).deferred then [] else l))
        (again (loop k m) m a)
