-- The bench of eight counters as it is made.
use denote.Param.Object.{Made, read_made}
use denote.Param.Table.{Entry, Table}
use Rattle.std.proofs.Common.{◌⊎◌, Result, Ok, Err, IfOk, OnErr, inl, inr, subst, sym}
use Rattle.std.specs.declared.alloc.AllocError.{AllocError}
use Rattle.vir_bench.specs.Exits.{status_or_memory}
use Rattle.std.proofs.Common.{◌≡◌, ℕ, Bool, true, cond, List, [], ◌∷◌, ◌++◌, Option, None, Some, refl, ap, ◌∙◌}
use Rattle.vir_machine.specs.Runs.{BenchView}
use Rattle.vir_machine.specs.Bench.{CounterView, is_served, views}
use Rattle.vir_machine.specs.Uses.{first_unserved, or_else}
use Rattle.vir_term.specs.declared.leaf.Leaf.{Leaf}
use Rattle.vir_term.specs.declared.leaf.LeafKind.{LeafKind}
use Rattle.vir_term.specs.declared.leaf.LeafKind.TheVariants as kind
use Rattle.vir_term.specs.declared.score.Score.TheVariants as score
use Rattle.vir_term.specs.Kinds.{kind_of}
use Rattle.vir_term.specs.Tree.{Tree, leaf, rev, seq, par, loop}
use Rattle.vir_bench.specs.FullBench.{full_bench, full_kinds, new_counter}

-- ---- a counter in a box
abbrev view_of : List LeafKind → ℕ → CounterView
view_of kinds calls = record { kinds = kinds; calls = calls }

module _ {G : Type 0 → Type 1} {C : Type 0} (T : Table G C) (kinds : (e : Entry G C) → e.0.Denot → List LeafKind)
    (made : (e : Entry G C) → e.0.Denot → ℕ) where
  -- it is seen as the counter z that was put into it, which was not called yet
  boxed : (e : Entry G C) (at : T.I) → e ≡ T.entry at → (i : T.I) (y : (T.entry i).0.Denot) (x z : e.0.Denot)
      → Made (λ j. (T.entry j).0.coded.code) e.0.coded.code at i y x → x ≡ z → made e z ≡ 0
      → view_of (kinds (T.entry i) y) (made (T.entry i) y) ≡ new_counter (kinds e z)
  boxed e at is i y x z same put fresh =
      let serves : kinds (T.entry i) y ≡ kinds e z = read_made T e at is (List LeafKind) kinds i y x same
      ∙ ap (kinds e) put in
      let called : made (T.entry i) y ≡ 0 = read_made T e at is ℕ made i y x same ∙ ap (made e) put ∙ fresh in
      ap (λ (k : List LeafKind). view_of k (made (T.entry i) y)) serves ∙ ap (view_of (kinds e z)) called

  -- the counters, each seen by these, after it was pushed behind those that are seen so
  pub pushed : {B : Type 0} (by_kinds : B → List LeafKind) (by_made : B → ℕ) (old new : List B)
      (before : List CounterView) (e : Entry G C) (at : T.I) → e ≡ T.entry at → (i : T.I) (y : (T.entry i).0.Denot)
      (x z : e.0.Denot)
      → Made (λ j. (T.entry j).0.coded.code) e.0.coded.code at i y x → x ≡ z → made e z ≡ 0 → views by_kinds by_made new
      ≡ views by_kinds by_made old ++ view_of (kinds (T.entry i) y) (made (T.entry i) y) ∷ []
      → views by_kinds by_made old ≡ before → views by_kinds by_made new ≡ before ++ new_counter (kinds e z) ∷ []
  pushed by_kinds by_made old new before e at is i y x z same put fresh behind was =
      let one : CounterView = view_of (kinds (T.entry i) y) (made (T.entry i) y) in
      behind ∙ ap (λ (vs : List CounterView). vs ++ one ∷ []) was ∙ ap (λ (v : CounterView). before ++ v ∷ [])
      (boxed e at is i y x z same put fresh)

-- ---- the bench
pub is_full : (counters : List CounterView) (runs : ℕ) → counters ≡ full_bench.counters → runs ≡ 0
    → ◌≡◌ {A = BenchView} (record { counters = counters; runs = runs }) full_bench
is_full counters runs is none = ap (λ (cs : List CounterView). let v : BenchView = record { counters = cs; runs = runs }
    in v) is ∙ ap (λ (n : ℕ). let v : BenchView = record { counters = full_bench.counters; runs = n } in v) none

-- ---- every module is served
kind_served : (k : LeafKind) → is_served full_kinds k ≡ true
kind_served kind.Elect = refl
kind_served kind.Defer = refl
kind_served kind.PassFirst = refl
kind_served kind.DropFirst = refl
kind_served kind.Plurality = refl
kind_served (kind.Max score.Plurality) = refl
kind_served (kind.Max score.Borda) = refl
kind_served (kind.Max score.Copeland) = refl
kind_served (kind.Max score.Minimax) = refl
kind_served (kind.Max score.Condorcet) = refl
kind_served (kind.Min score.Plurality) = refl
kind_served (kind.Min score.Borda) = refl
kind_served (kind.Min score.Copeland) = refl
kind_served (kind.Min score.Minimax) = refl
kind_served (kind.Min score.Condorcet) = refl
kind_served (kind.Below score.Plurality) = refl
kind_served (kind.Below score.Borda) = refl
kind_served (kind.Below score.Copeland) = refl
kind_served (kind.Below score.Minimax) = refl
kind_served (kind.Below score.Condorcet) = refl
kind_served (kind.Upto score.Plurality) = refl
kind_served (kind.Upto score.Borda) = refl
kind_served (kind.Upto score.Copeland) = refl
kind_served (kind.Upto score.Minimax) = refl
kind_served (kind.Upto score.Condorcet) = refl

pub all_full : (t : Tree) → first_unserved full_kinds t ≡ None
all_full (leaf l) = ap (λ (b : Bool). cond b None (Some l)) (kind_served (kind_of l))
all_full (rev part) = all_full part
all_full (seq first second) =
    ap (λ (o : Option Leaf). or_else o (first_unserved full_kinds second)) (all_full first) ∙ all_full second
all_full (par first second) =
    ap (λ (o : Option Leaf). or_else o (first_unserved full_kinds second)) (all_full first) ∙ all_full second
all_full (loop k body) = all_full body

-- ---- the status that the program ends with
pub by_answer : (Answers : ℕ → Type 0) (Undone : Type 0) (answered : Result ℕ AllocError) (status : ℕ)
    → status ≡ status_or_memory answered → IfOk answered Answers → OnErr answered Undone
    → Answers status ⊎ ((status ≡ 7) × Undone)
by_answer Answers Undone (Ok given) status is answers undone = inl (subst Answers (sym is) answers)
by_answer Answers Undone (Err error) status is answers undone = inr (is, undone)
