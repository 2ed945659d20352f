-- The counters after modules were asked for, and how often each of them was.
use Rattle.std.proofs.Common.{◌≡◌, ℕ, zero, suc, ◌+◌, Bool, true, false, cond, nat_eq, List, [], ◌∷◌, ◌++◌, refl, sym}
use Rattle.std.proofs.Common.{ap, ◌∙◌, arith}
use Rattle.std.specs.FinSet as set
use Rattle.vir_altset.specs.Sets.{Set}
use Rattle.vir_profile.specs.declared.ballot.Entry.{Entry}
use Rattle.vir_profile.specs.Profiles.{restrict}
use Rattle.vir_term.specs.declared.leaf.Leaf.{Leaf}
use Rattle.vir_term.specs.declared.leaf.LeafKind.{LeafKind}
use Rattle.vir_term.specs.Kinds.{kind_of}
use Rattle.vir_term.specs.Tree.{Tree, leaf, rev, seq, par, loop, End}
use Rattle.vir_mean.specs.Modules.{Meaning}
use Rattle.vir_mean.specs.Compositions.{is_end}
use Rattle.vir_mean.specs.Meaning.{mean}
use Rattle.vir_counter.specs.Calls.{risen}
use Rattle.vir_compile.specs.Calls.{Calls, turns_calls, calls_of}
use Rattle.vir_machine.specs.Bench.{CounterView, kinds_of, raised_from, raised, first_serving}
use Rattle.vir_machine.specs.Uses.{Count, turns_count, uses}
use Rattle.vir_machine.specs.Asked.{asked}
use Rattle.vir_machine.proofs.Raised.{raised-raised, raised-zero, kinds_of-raised}

-- ---- asking
pub asked-append : (first second : List Leaf) (counters : List CounterView) → asked (first ++ second) counters
    ≡ asked second (asked first counters)
asked-append [] second counters = refl
asked-append (l ∷ rest) second counters = asked-append rest second _

pub kinds_of-asked : (modules : List Leaf) (counters : List CounterView) → kinds_of (asked modules counters)
    ≡ kinds_of counters
kinds_of-asked [] counters = refl
kinds_of-asked (l ∷ rest) counters = kinds_of-asked rest _ ∙ kinds_of-raised _ counters

-- ---- how many of some modules have a first serving counter of index i
module _ (i : ℕ) (served : List (List LeafKind)) where
  abbrev pub falls_on : Leaf → ℕ
  falls_on l = cond (nat_eq i (first_serving served (kind_of l))) 1 0

  abbrev pub number_of : List Leaf → ℕ
  number_of [] = 0
  number_of (l ∷ rest) = falls_on l + number_of rest

  number_of-append : (first second : List Leaf) → number_of (first ++ second) ≡ number_of first + number_of second
  number_of-append [] second = omega arith
  number_of-append (l ∷ rest) second = let e = number_of-append rest second in omega (arith, e)

  -- the calls of a loop, by those of its body
  module _ (k : End) (body : Meaning) (calls : Calls) (count : Count) (same : (a : Set) (lines : List Entry)
      → number_of (calls a lines) ≡ count a lines) where
    number_of-turns_calls : (most : ℕ) (a : Set) (lines : List Entry)
        → number_of (turns_calls most k body calls a lines) ≡ turns_count most k body count a lines
    unfolding turns_calls turns_count
    number_of-turns_calls zero a lines = refl
    number_of-turns_calls (suc most) a lines =
        pick (is_end k (set.len a)) (set.is_subset a (body a lines).deferred)
        (turns_calls most k body calls (body a lines).deferred (restrict (body a lines).deferred lines))
        (turns_count most k body count (body a lines).deferred (restrict (body a lines).deferred lines))
        (number_of-turns_calls most (body a lines).deferred (restrict (body a lines).deferred lines))
      where
        pick : (met whole : Bool) (later : List Leaf) (more : ℕ) → number_of later ≡ more
            → number_of (cond met [] (calls a lines ++ cond whole [] later))
            ≡ cond met 0 (count a lines + cond whole 0 more)
        pick true whole later more e = refl
        pick false true later more e = number_of-append (calls a lines) [] ∙ ap (λ n. n + 0) (same a lines)
        pick false false later more e = number_of-append (calls a lines) later ∙ ap (λ n. n + number_of later)
            (same a lines) ∙ ap (λ n. count a lines + n) e

  -- the calls of a term's meaning are its uses
  pub number_of-calls_of : (t : Tree) (a : Set) (lines : List Entry) → number_of (calls_of t a lines)
      ≡ uses i served t a lines
  number_of-calls_of (leaf l) a lines = omega arith
  number_of-calls_of (rev part) a lines = number_of-calls_of part a lines
  number_of-calls_of (seq first second) a lines =
      let e = number_of-calls_of first a lines in
      let f = number_of-calls_of second (mean first a lines).deferred (restrict (mean first a lines).deferred lines) in
      number_of-append (calls_of first a lines) (calls_of second (mean first a lines).deferred
      (restrict (mean first a lines).deferred lines)) ∙ omega (arith, e, f)
  number_of-calls_of (par first second) a lines =
      let e = number_of-calls_of first a lines in
      let f = number_of-calls_of second a lines in
      number_of-append (calls_of first a lines) (calls_of second a lines) ∙ omega (arith, e, f)
  number_of-calls_of (loop k body) a lines =
      number_of-turns_calls k (mean body) (calls_of body) (uses i served body) (number_of-calls_of body)
      (suc (set.len a)) a lines

-- ---- both
raised_from-same : (n : ℕ) (f g : ℕ → ℕ) (counters : List CounterView) → ((i : ℕ) → f i ≡ g i)
    → raised_from n f counters ≡ raised_from n g counters
raised_from-same n f g [] same = refl
raised_from-same n f g (c ∷ rest) same =
    ap (λ more. record { kinds = c.kinds; calls = risen c.calls more } ∷ raised_from (suc n) f rest) (same n)
    ∙ ap (λ l. record { kinds = c.kinds; calls = risen c.calls (g n) } ∷ l) (raised_from-same (suc n) f g rest same)

-- asking one after the other raises by their number
asked-raised : (modules : List Leaf) (counters : List CounterView) → asked modules counters
    ≡ raised (λ i. number_of i (kinds_of counters) modules) counters
asked-raised [] counters = sym (raised-zero _ counters (λ i. refl))
asked-raised (l ∷ rest) counters =
    let first : ℕ → ℕ = λ i. falls_on i (kinds_of counters) l in
    asked-raised rest (raised first counters)
    ∙ ap (λ served. raised (λ i. number_of i served rest) (raised first counters)) (kinds_of-raised first counters)
    ∙ raised-raised first (λ i. number_of i (kinds_of counters) rest) counters

-- asking for the calls of a term's meaning raises by its uses
pub asked-calls_of : (t : Tree) (a : Set) (lines : List Entry) (counters : List CounterView)
    → asked (calls_of t a lines) counters ≡ raised (λ i. uses i (kinds_of counters) t a lines) counters
asked-calls_of t a lines counters =
    asked-raised (calls_of t a lines) counters ∙ raised_from-same 0 _ _ counters
    (λ i. number_of-calls_of i (kinds_of counters) t a lines)
