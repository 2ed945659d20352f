-- The modules that are visited are those that the counting code calls.
use Rattle.std.proofs.Common.{◌≡◌, ℕ, zero, suc, ◌+◌, Bool, true, false, cond, List, [], ◌∷◌, ◌++◌, refl, sym}
use Rattle.std.proofs.Common.{ap, ap₂, ◌∙◌}
use Rattle.std.proofs.Common.{append_assoc, append-nil}
use Rattle.std.specs.FinSet as set
use Rattle.vir_altset.specs.Sets.{Set}
use Rattle.vir_profile.specs.declared.ballot.Entry.{Entry}
use Rattle.vir_profile.specs.Profiles.{restrict}
use Rattle.vir_term.specs.declared.leaf.Leaf.{Leaf}
use Rattle.vir_term.specs.Tree.{Tree, leaf as module_of, rev, seq, par, loop, End, size}
use Rattle.vir_mean.specs.Compositions.{is_end}
use Rattle.vir_mean.specs.Meaning.{mean}
use Rattle.vir_mean.proofs.RestrictionLemmas.{restrict-restrict}
use Rattle.vir_compile.specs.Calls.{calls_of, turns_calls}
use Rattle.vir_explain.specs.Visits.{Visit, left_by, rounds, visit_of, visits}
use Rattle.vir_explain.specs.VisitedModules.{module_in, modules_of}
use Rattle.vir_explain.proofs.Meant.{left_part}

modules-append : (us vs : List Visit) → modules_of (us ++ vs) ≡ modules_of us ++ modules_of vs
modules-append [] vs = refl
modules-append (u ∷ us) vs = ap (λ ls. module_in u.term ++ ls) (modules-append us vs)
    ∙ sym (append_assoc (module_in u.term) (modules_of us) (modules_of vs))

-- a composition adds none
and_none : (us : List Visit) (v : Visit) → module_in v.term ≡ [] → modules_of (us ++ v ∷ []) ≡ modules_of us
and_none us v none = modules-append us (v ∷ []) ∙ ap (λ ls. modules_of us ++ (ls ++ [])) none ∙ append-nil
    (modules_of us)

module _ (p : List Entry) (k : End) (body : Tree) (visited : Set → List Visit)
    (each : (a : Set) → modules_of (visited a) ≡ calls_of body a (restrict a p)) where
  one_round : (a : Set) (further : List Visit) (later : List Leaf) → modules_of further ≡ later → (ends whole : Bool)
      → modules_of (cond ends [] (visited a ++ cond whole [] further))
      ≡ cond ends [] (calls_of body a (restrict a p) ++ cond whole [] later)
  one_round a further later same true whole = refl
  one_round a further later same false true = modules-append (visited a) [] ∙ ap (λ ls. ls ++ []) (each a)
  one_round a further later same false false = modules-append (visited a) further ∙ ap₂ (λ ls ms. ls ++ ms) (each a)
      same

  rounds_called : (most : ℕ) (a : Set) → modules_of (rounds most k (left_by body p) visited a)
      ≡ turns_calls most k (mean body) (calls_of body) a (restrict a p)
  unfolding rounds turns_calls
  rounds_called zero a = refl
  rounds_called (suc most) a =
      one_round a (rounds most k (left_by body p) visited (left_by body p a))
      (turns_calls most k (mean body) (calls_of body) (left_by body p a) (restrict (left_by body p a) (restrict a p)))
      (rounds_called most (left_by body p a)
      ∙ ap (λ (lines : List Entry). turns_calls most k (mean body) (calls_of body) (left_by body p a) lines)
      (sym (restrict-restrict (left_by body p a) a (left_part body p a) p)))
      (is_end k (set.len a)) (set.is_subset a (left_by body p a))

pub visited_called : (n : ℕ) (t : Tree) (p : List Entry) (a : Set)
    → modules_of (visits n t p a) ≡ calls_of t a (restrict a p)
visited_called n (module_of l) p a = refl
visited_called n (rev part) p a = and_none (visits (n + 1) part p a) (visit_of n (rev part) a p) refl
    ∙ visited_called (n + 1) part p a
visited_called n (seq first second) p a =
    and_none (visits (n + 1) first p a ++ visits (n + 1 + size first) second p (left_by first p a))
    (visit_of n (seq first second) a p) refl
    ∙ modules-append (visits (n + 1) first p a) (visits (n + 1 + size first) second p (left_by first p a))
    ∙ ap₂ (λ ls ms. ls ++ ms) (visited_called (n + 1) first p a)
    (visited_called (n + 1 + size first) second p (left_by first p a)
    ∙ ap (λ (lines : List Entry). calls_of second (left_by first p a) lines)
    (sym (restrict-restrict (left_by first p a) a (left_part first p a) p)))
visited_called n (par first second) p a =
    and_none (visits (n + 1) first p a ++ visits (n + 1 + size first) second p a) (visit_of n (par first second) a p)
    refl
    ∙ modules-append (visits (n + 1) first p a) (visits (n + 1 + size first) second p a)
    ∙ ap₂ (λ ls ms. ls ++ ms) (visited_called (n + 1) first p a) (visited_called (n + 1 + size first) second p a)
visited_called n (loop k body) p a =
    and_none (rounds (suc (set.len a)) k (left_by body p) (visits (n + 1) body p) a) (visit_of n (loop k body) a p) refl
    ∙ rounds_called p k body (visits (n + 1) body p) (visited_called (n + 1) body p) (suc (set.len a)) a
