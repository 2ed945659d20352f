-- What is known of a line of an election's profile.
use Rattle.std.proofs.Common.{◌≡◌, ℕ, zero, suc, ◌+◌, ◌-◌, ◌*◌, ◌^◌, ◌<◌, ◌≤◌, List, [], ◌∷◌, length, get_or}
use Rattle.std.proofs.Common.{Some, None, ap, ◌∙◌, arith}
use Rattle.std.specs.Prelude.{slice_get}
use Rattle.vir_altset.specs.Sets.{all, limit}
use Rattle.vir_altset.proofs.SizeLaws.{len-all}
use Rattle.vir_profile.specs.declared.ballot.Entry.{Entry}
use Rattle.vir_profile.specs.Orders.{IsListing}
use Rattle.vir_profile.specs.OrderFaults.{order_fault}
use Rattle.vir_profile.specs.Profiles.{Votes, IsProfile}
use Rattle.vir_profile.proofs.OrderLaws.{len-listing, listing_of_accepted}
use Rattle.vir_tables.specs.Additions.{AreAlternatives}
use Rattle.vir_tables.proofs.FirstPlaces.{alternatives_of}

-- what is got of a list stands in it
record IsGot (lines : List Entry) (i : ℕ) (line : Entry) : Type 0 where
  pub within : i < length lines
  pub here : line ≡ get_or lines i line

got : (lines : List Entry) (i : ℕ) (line : Entry) → slice_get lines i ≡ Some line → IsGot lines i line
got [] i line is = cc is
got (first ∷ rest) zero line is = record { within = omega arith; here = cc is }
got (first ∷ rest) (suc i) line is = let later = got rest i line is in let inside = later.within
    in record { within = omega arith; here = later.here }

pub none_got : (lines : List Entry) (i : ℕ) → slice_get lines i ≡ None → length lines ≤ i
none_got [] i is = omega arith
none_got (first ∷ rest) zero is = cc is
none_got (first ∷ rest) (suc i) is = let later = none_got rest i is in omega arith

-- a line of a profile of so many alternatives
pub record IsLine (votes : Votes) (i : ℕ) (line : Entry) : Type 0 where
  pub within : i < length votes.lines
  pub here : line ≡ get_or votes.lines i line
  pub lists : IsListing (all votes.alternatives) line.order
  pub alternatives : AreAlternatives limit line.order
  pub few : length line.order ≤ limit

pub line_at : (votes : Votes) (i : ℕ) (line : Entry) → IsProfile votes → slice_get votes.lines i ≡ Some line
    → IsLine votes i line
line_at votes i line limits is = record {
  within = there.within;
  here = there.here;
  lists = lists;
  alternatives = alternatives_of votes.alternatives line.order limits.few none;
  few = (let size = len-listing line.order (all votes.alternatives) lists in let whole = len-all votes.alternatives
      in let most = limits.few in omega arith);
}
  where
    there : IsGot votes.lines i line
    there = got votes.lines i line is

    none : order_fault votes.alternatives line.order ≡ None
    none = ap (λ (e : Entry). order_fault votes.alternatives e.order) there.here ∙ limits.orders i line there.within

    lists : IsListing (all votes.alternatives) line.order
    lists = listing_of_accepted votes.alternatives line.order none

-- ---- sums so far
pub fits : (n gain k rest total voters : ℕ) → gain ≡ k → n + (k + rest) ≡ total → total ≤ voters * 1000000
    → voters ≤ 2 ^ 64 - 1 → n + gain < 2 ^ 127
fits n gain k rest total voters is so_far most few = omega arith

pub goes_on : (n n' gain k rest total : ℕ) → n' ≡ n + gain → gain ≡ k → n + (k + rest) ≡ total → n' + rest ≡ total
goes_on n n' gain k rest total more is so_far = omega arith

pub small_sum : (n rest total voters : ℕ) → n + rest ≡ total → total ≤ voters * 1000000 → voters ≤ 2 ^ 64 - 1
    → n ≤ 1000000 * 2 ^ 64
small_sum n rest total voters so_far most few = omega arith
