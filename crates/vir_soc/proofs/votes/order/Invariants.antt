use Rattle.std.proofs.Common.{◌≡◌, length, ℕ, List, [], None}
use Rattle.std.specs.FinSet as set
use Rattle.std.specs.List.{slice_split}
use Rattle.std.specs.Ordering.{nat_cmp}
use Rattle.vir_altset.specs.Sets.{Set}
use Rattle.vir_profile.specs.OrderFaults.{member_fault_after}
use Rattle.vir_soc.specs.Votes.{order_after, is_comma}
use Rattle.vir_soc.proofs.votes.order.Given as goal

pub record SoFar (m : ℕ) (text order rest : List ℕ) (seen : Set) : Type 0 where
  pub same : order_after m [] (slice_split is_comma text) ≡ order_after m order (slice_split is_comma rest)
  pub set : seen ≡ set.from_list {R = nat_cmp} order
  pub sound : member_fault_after m [] order ≡ None

abbrev pub invariant-loop-x : goal.invariant-loop-x
invariant-loop-x l = SoFar l.m l.text l.order.items l.rest l.seen

abbrev pub decreases-loop-x : goal.decreases-loop-x
decreases-loop-x l = length l.rest
