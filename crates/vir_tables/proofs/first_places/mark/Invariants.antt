use Rattle.std.proofs.Common.{◌≡◌, ◌+◌, ◌<◌, ◌≤◌, ℕ, length, false}
use Rattle.std.specs.FinSet as set
use Rattle.vir_altset.specs.Sets.{limit}
use Rattle.vir_tables.specs.Marks.{is_marked}
use Rattle.vir_tables.proofs.first_places.mark.Given as goal

abbrev pub invariant-loop-turn : goal.invariant-loop-turn
invariant-loop-turn l = record {
  size : length l.marks ≡ limit + 1;
  turns : l._turn ≤ l.last;
  within : l.last ≤ limit;
  passed : (y : ℕ) → y ≤ l.last → is_marked l.marks y ≡ set.contains l.domain y;
  rest : (y : ℕ) → l.last < y → is_marked l.marks y ≡ false;
}
