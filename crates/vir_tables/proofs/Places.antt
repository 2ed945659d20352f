-- Places of alternatives in the orders of a block of lines.
use Rattle.std.proofs.Common.{◌≡◌, ℕ, zero, suc, [], ◌∷◌, ◌+◌, ◌-◌, ◌*◌, ◌<◌, Bool, true, false, cond, List, All}
use Rattle.std.proofs.Common.{None, length, get_or, take, drop, nat_eq, refl, sym, ap, ◌∙◌, subst, arith, eqb-true}
use Rattle.std.proofs.lemmas.Bool.Decides.{nat_tests}
use Rattle.std.proofs.lemmas.List.{take-append-drop, drop-drop}
use Rattle.std.proofs.lemmas.List.Sums.{sum_by-append}
use Rattle.vir_altset.specs.Sets.{all}
use Rattle.vir_altset.proofs.SizeLaws.{len-all}
use Rattle.vir_profile.specs.declared.ballot.Entry.{Entry}
use Rattle.vir_profile.specs.OrderFaults.{order_fault}
use Rattle.vir_profile.specs.Orders.{IsListing}
use Rattle.vir_profile.specs.Profiles.{weight_where}
use Rattle.vir_profile.proofs.OrderLaws.{len-listing, listing_of_accepted}
use Rattle.vir_tables.specs.Places.{ArePlaces, HasPlace}
use Rattle.vir_tables.specs.Table.{IsAlternative}
use Rattle.vir_tables.proofs.RankedPairs.{each_stands}

-- each line lists all alternatives
pub listing_here : (m : ℕ) (lines : List Entry) (i : ℕ) (line : Entry) → All (λ (e : Entry). order_fault m e.order
    ≡ None) lines → i < length lines → line ≡ get_or lines i line → IsListing (all m) line.order
listing_here m lines i line known within here = listing_of_accepted m line.order
    (ap (λ (e : Entry). order_fault m e.order) here ∙ known i line within)

pub as_long : (m : ℕ) (order : List ℕ) → IsListing (all m) order → length order ≡ m
as_long m order lists = sym (len-listing order (all m) lists) ∙ len-all m

-- an alternative has its place, if what each place of the order holds has
pub has_place : (m x n l : ℕ) (order own : List ℕ) → IsListing (all m) order → IsAlternative m x
    → ((k : ℕ) → k < length order → HasPlace order own ((get_or order k 0 - 1) * n + l) (get_or order k 0))
    → HasPlace order own ((x - 1) * n + l) x
has_place m x n l order own lists hx each = let r = each_stands m x order lists hx
    in subst (λ y. HasPlace order own ((y - 1) * n + l) y) r.here (each r.place r.within)

pub any_default : (lines : List Entry) (i : ℕ) (d e : Entry) → i < length lines → get_or lines i d ≡ get_or lines i e
any_default [] i d e h = absurd (omega arith)
any_default (x ∷ lines) zero d e h = refl
any_default (x ∷ lines) (suc i) d e h = any_default lines i d e (omega arith)

-- the places of one line more
pub places_more : (m n k : ℕ) (before after : List ℕ) (lines : List Entry) (last : Entry) → k < n
    → last ≡ get_or lines k last → k < length lines → ArePlaces m n k before lines
    → ((x : ℕ) → IsAlternative m x → HasPlace last.order after ((x - 1) * n + k) x)
    → ((a j : ℕ) → j < n → nat_eq j k ≡ false → get_or after (a * n + j) 0 ≡ get_or before (a * n + j) 0)
    → ArePlaces m n (k + 1) after lines
places_more m n k before after lines last within is some old new others = record {
  at = λ l x line less here hx. elim (nat_eq l k) as (λ c. nat_eq l k ≡ c
      → HasPlace line.order after ((x - 1) * n + l) x) [
        | false ↦ λ t. let earlier : l < k = grind (arith, nat_tests) in
            let found = old.at l x line earlier here hx in
            let same = others (x - 1) l (omega arith) t in
            record { within = rw same found.within; here = rw same found.here }
        | true ↦ λ t. let e : l ≡ k = eqb-true l k t in
            let this : line ≡ last
            = here ∙ ap (λ i. get_or lines i line) e ∙ any_default lines k line last some ∙ sym is in
            let found = new x hx in
            rw (e, this) found
      ] refl;
}

-- the weight of a block, and of what is behind it
pub weight_of_block : (test : List ℕ → Bool) (lines : List Entry) (s k : ℕ) → weight_where test (take k (drop s lines))
    + weight_where test (drop (s + k) lines) ≡ weight_where test (drop s lines)
weight_of_block test lines s k =
    ap (λ r. weight_where test (take k (drop s lines)) + weight_where test r) (sym (drop-drop k s lines))
    ∙ sym (sum_by-append (λ (e : Entry). cond (test e.order) e.weight 0) (take k (drop s lines))
    (drop k (drop s lines)))
    ∙ ap (weight_where test) (take-append-drop k (drop s lines))
