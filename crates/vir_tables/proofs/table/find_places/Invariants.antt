use Rattle.std.proofs.Common.{◌≡◌, ◌+◌, ◌-◌, ◌*◌, ◌<◌, false, get_or, nat_eq, ℕ}
use Rattle.vir_tables.proofs.table.find_places.Given as goal

abbrev pub invariant-loop-i : goal.invariant-loop-i
invariant-loop-i l = record {
  within : (k : ℕ) → k < l.i → get_or l.places ((get_or l.order k 0 - 1) * l.n + l.l) 0 < l.i;
  here : (k : ℕ) → k < l.i
      → get_or l.order (get_or l.places ((get_or l.order k 0 - 1) * l.n + l.l) 0) 0 ≡ get_or l.order k 0;
  others : (a j : ℕ) → j < l.n → nat_eq j l.l ≡ false
      → get_or l.places (a * l.n + j) 0 ≡ get_or l.initial.places (a * l.n + j) 0;
}
