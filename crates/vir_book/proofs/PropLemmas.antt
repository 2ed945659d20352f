-- There is one proof at most that a term is within the limits.
use Rattle.std.proofs.Common.{◌≡◌, ℕ, List, Option, Some, None, refl, sym, ap, ◌∙◌, option_map, slice_get, false}
use Rattle.std.specs.Prelude.{is_some}
use Rattle.std.specs.Coded.{×_prop, Unit-prop, le_prop}
use mathlib.Core.Path.{path_j}
use Rattle.std.proofs.Math.Logic.{∥∥₁_elim}
use Rattle.vir_term.specs.declared.leaf.Leaf.{Leaf}
use Rattle.vir_term.specs.declared.leaf.Leaf.TheVariants.{Elect, Defer, PassFirst, DropFirst, Plurality, Max, Min}
use Rattle.vir_term.specs.declared.leaf.Leaf.TheVariants.{Below, Upto}
use Rattle.vir_term.specs.Orders.{order_fault}
use Rattle.vir_term.specs.Tree.{Tree, leaf, rev, seq, par, loop, number_of}
use Rattle.vir_term.specs.Limits.{IsCount, IsOfFirst, IsLeafInRange, IsInRange, IsWithinLimits}
use Rattle.vir_book.specs.Books.{Entry, AllWithinLimits, lookup}
use Rattle.vir_book.proofs.BookLemmas.{last-within, lookup_within}

some_false : {X : Type 0} (x : X) → is_some (Some x) ≡ false → Some x ≡ None
some_false x h = cc

none_from : {X : Type 0} (o : Option X) → is_some o ≡ false → o ≡ None
none_from None h = refl
none_from (Some x) h = some_false x h

none_is : {X : Type 0} (o : Option X) (p : None ≡ o) → p ≡ sym (none_from o (ap is_some (sym p)))
unfolding none_from
none_is {X} o p = path_j (λ (q : Option X) (e : None ≡ q). e ≡ sym (none_from q (ap is_some (sym e)))) refl p

some_none : {X : Type 0} (x : X) → Some x ≡ None → ⊥
some_none x h = cc

none_prop : {X : Type 0} (o : Option X) → IsProp (o ≡ None)
unfolding none_from
none_prop None p q = none_is None p ∙ sym (none_is None q)
none_prop (Some x) p q = absurd (some_none x p)

IsCount-prop : (k : ℕ) → IsProp (IsCount k)
IsCount-prop k a b = λ i. record { some = le_prop a.some b.some i; few = le_prop a.few b.few i }

IsOfFirst-prop : (k : ℕ) (order : List ℕ) → IsProp (IsOfFirst k order)
IsOfFirst-prop k order = ×_prop (IsCount-prop k) (none_prop (order_fault order))

IsLeafInRange-prop : (l : Leaf) → IsProp (IsLeafInRange l)
IsLeafInRange-prop Elect = Unit-prop
IsLeafInRange-prop Defer = Unit-prop
IsLeafInRange-prop (PassFirst k order) = IsOfFirst-prop k order
IsLeafInRange-prop (DropFirst k order) = IsOfFirst-prop k order
IsLeafInRange-prop Plurality = Unit-prop
IsLeafInRange-prop (Max s) = Unit-prop
IsLeafInRange-prop (Min s) = Unit-prop
IsLeafInRange-prop (Below s) = Unit-prop
IsLeafInRange-prop (Upto s) = Unit-prop

IsInRange-prop : (t : Tree) → IsProp (IsInRange t)
IsInRange-prop (leaf l) = IsLeafInRange-prop l
IsInRange-prop (rev part) = IsInRange-prop part
IsInRange-prop (seq first second) = ×_prop (IsInRange-prop first) (IsInRange-prop second)
IsInRange-prop (par first second) = ×_prop (IsInRange-prop first) (IsInRange-prop second)
IsInRange-prop (loop k body) = ×_prop (IsCount-prop (number_of k)) (IsInRange-prop body)

IsWithinLimits-prop : (t : Tree) → IsProp (IsWithinLimits t)
IsWithinLimits-prop t a b = λ i. record {
  small = le_prop a.small b.small i;
  flat = le_prop a.flat b.flat i;
  in_range = IsInRange-prop t a.in_range b.in_range i;
}

-- so that of the last one is had from what a book keeps
pub last-within-kept : (list : List Entry) (n : ℕ) (t : Tree) → ∥ AllWithinLimits list ∥₁ → Some t
    ≡ option_map (λ e. e.term) (slice_get list n) → IsWithinLimits t
last-within-kept list n t kept h = ∥∥₁_elim kept (IsWithinLimits-prop t) (λ within. last-within list n t within h)

-- and so is that of the term of each name
pub lookup-within-kept : (list : List Entry) (name : List ℕ) (t : Tree) → ∥ AllWithinLimits list ∥₁ → lookup list name
    ≡ Some t → IsWithinLimits t
lookup-within-kept list name t kept h = ∥∥₁_elim kept (IsWithinLimits-prop t) (λ within. lookup_within list within name
    t h)
