-- Laws of restriction: profiles on a part of a set.
use Rattle.std.proofs.Common.{◌≡◌, ℕ, ◌+◌, true, cond, List, [], ◌∷◌, None, refl, sym, ap, ◌∙◌}
use Rattle.std.proofs.lemmas.List.Elements.{All-map, All-weaker, All-head, All-tail}
use Rattle.std.proofs.lemmas.List.Sums.{sum_by-cons}
use Rattle.std.specs.FinSet as set
use Rattle.std.specs.List.{filter}
use Rattle.vir_altset.specs.Sets.{Set, all, IsPart}
use Rattle.vir_profile.specs.declared.ballot.Entry.{Entry}
use Rattle.vir_profile.specs.Orders.{IsListing, puts_before}
use Rattle.vir_profile.specs.Profiles.{Votes, IsProfileOn, restricted_line, restrict, pairwise_weight, IsProfile}
use Rattle.vir_profile.specs.OrderFaults.{order_fault}
use Rattle.vir_profile.proofs.OrderLaws.{listing_of_accepted, listing_of_part, listed_member, filter_whole}
use Rattle.vir_profile.proofs.OrderLaws.{puts_before-filter}

-- a profile on a set, restricted to a part, is a profile on the part
pub restricted_orders : (a d : Set) (lines : List Entry) → IsPart d a → IsProfileOn a lines
    → IsProfileOn d (restrict d lines)
restricted_orders a d lines part lists =
    All-map (λ line. IsListing d line.order) (restricted_line d) lines
    (All-weaker (λ line. IsListing a line.order) (λ line. IsListing d (filter (set.contains d) line.order))
    (λ line one. listing_of_part a d line.order part one) lines lists)

-- a profile on a set is what it is when restricted to that set
pub restricted_to_the_whole : (a : Set) (lines : List Entry) → IsProfileOn a lines → restrict a lines ≡ lines
restricted_to_the_whole a [] lists = refl
restricted_to_the_whole a (line ∷ rest) lists =
    let here : IsListing a line.order = All-head (λ line. IsListing a line.order) line rest lists in
    let same : restricted_line a line ≡ line = ap (λ order. record line { order = order })
    (filter_whole a line.order (listed_member a line.order here)) in
    ap (λ first. first ∷ restrict a rest) same ∙ ap (λ more. line ∷ more)
    (restricted_to_the_whole a rest (All-tail (λ line. IsListing a line.order) line rest lists))

-- the lines that a profile takes are a profile on all alternatives
pub profiles_are_complete : (votes : Votes) → IsProfile votes → IsProfileOn (all votes.alternatives) votes.lines
profiles_are_complete votes is =
    All-weaker (λ line. order_fault votes.alternatives line.order ≡ None) (λ line. IsListing (all votes.alternatives)
    line.order) (λ line none. listing_of_accepted votes.alternatives line.order none) votes.lines is.orders

-- restriction keeps how many voters put one member of the set before another
pub restriction_keeps_pairs : (d : Set) (lines : List Entry) (x y : ℕ) → set.contains d x ≡ true → set.contains d y
    ≡ true → pairwise_weight (restrict d lines) x y ≡ pairwise_weight lines x y
restriction_keeps_pairs d [] x y with_x with_y = refl
restriction_keeps_pairs d (line ∷ rest) x y with_x with_y =
    sum_by-cons (λ (line : Entry). cond (puts_before x y line.order) line.weight 0) (restricted_line d line)
    (restrict d rest)
    ∙ ap (λ b. cond b line.weight 0 + pairwise_weight (restrict d rest) x y) (puts_before-filter d x y line.order with_x
    with_y)
    ∙ ap (λ n. cond (puts_before x y line.order) line.weight 0 + n) (restriction_keeps_pairs d rest x y with_x with_y)
    ∙ sym (sum_by-cons (λ (line : Entry). cond (puts_before x y line.order) line.weight 0) line rest)
