use Rattle.std.proofs.Common.{◌≡◌, ℕ, ◌+◌, ◌<◌, ◌≤◌, true, length}
use Rattle.std.specs.FinSet as set
use Rattle.vir_altset.specs.Sets.{limit}
use Rattle.vir_mean.specs.FixedOrders.{place}
use Rattle.vir_mean.proofs.FirstInOrder.{IsFront}
use Rattle.vir_mean.proofs.fixed_orders.first_members.Given as goal

abbrev pub invariant-loop-i : goal.invariant-loop-i
invariant-loop-i l = record {
  front : IsFront l.order l.domain l.first;
  size : set.len l.first + l.room ≡ l.k;
  left : l.left ≡ set.difference l.domain l.first;
  listed : (y : ℕ) → set.contains l.left y ≡ true → l.i ≤ place y l.order;
}

abbrev pub invariant-loop-turn : goal.invariant-loop-turn
invariant-loop-turn l = record {
  front : IsFront l.order l.domain l.first;
  size : set.len l.first + l.room ≡ l.k;
  left : l.left ≡ set.difference l.domain l.first;
  listed : (y : ℕ) → set.contains l.left y ≡ true → length l.order ≤ place y l.order;
  above : (y : ℕ) → set.contains l.left y ≡ true → l.last < y;
  turns : l._turn ≤ l.last;
  within : l.last ≤ limit;
}
