-- Profiles: lists of lines, each a weight and an order. Only `IsProfile` limits their size.
use Rattle.std.specs.Prelude.{◌≡◌, ℕ, ◌≤◌, Bool, List, All, None, filter, length, map, sum_by, if◌then◌else◌}
use Rattle.std.specs.FinSet as set
use Rattle.vir_altset.specs.Sets.{Set, limit}
use Rattle.vir_profile.specs.declared.ballot.Entry.{Entry}
use Rattle.vir_profile.specs.OrderFaults.{order_fault}
use Rattle.vir_profile.specs.Orders.{IsListing, puts_before, begins_with}

-- a profile as the code holds it: on the alternatives from 1 to a number, with these lines
pub record Votes : Type 0 where
  pub alternatives : ℕ
  pub lines : List Entry

-- The lines are a profile on the set: each order lists each member of it once.
abbrev pub IsProfileOn : Set → List Entry → Type 0
IsProfileOn a lines = All (λ line. IsListing a line.order) lines

-- the line with the members of the set alone, in their order
abbrev pub restricted_line : Set → Entry → Entry
restricted_line d line = record { weight = line.weight; order = filter (set.contains d) line.order }

-- the profile restricted to a set: each order is filtered, the weights and the number of lines stay
abbrev pub restrict : Set → List Entry → List Entry
restrict d lines = map (restricted_line d) lines

-- the sum of all weights
abbrev pub total_weight : List Entry → ℕ
total_weight lines = sum_by (λ line. line.weight) lines

-- the greatest number of lines
abbrev pub lines_limit : ℕ
lines_limit = 1000000

-- the greatest sum of weights: that of a `u64`
abbrev pub voters_limit : ℕ
voters_limit = 18446744073709551615

-- the sum of the weights of the lines whose order passes a test
abbrev pub weight_where : (List ℕ → Bool) → List Entry → ℕ
weight_where test lines = sum_by (λ line. if test line.order then line.weight else 0) lines

-- how many voters put x before y
abbrev pub pairwise_weight : List Entry → ℕ → ℕ → ℕ
pairwise_weight lines x y = weight_where (puts_before x y) lines

-- how many voters put x first
abbrev pub first_weight : List Entry → ℕ → ℕ
first_weight lines x = weight_where (begins_with x) lines

-- What holds of each profile that the code holds.
pub record IsProfile (votes : Votes) : Type 0 where
  pub some : 1 ≤ votes.alternatives
  pub few : votes.alternatives ≤ limit
  pub orders : All (λ line. order_fault votes.alternatives line.order ≡ None) votes.lines
  pub lines : length votes.lines ≤ lines_limit
  pub weights : total_weight votes.lines ≤ voters_limit
