use Rattle.std.proofs.Common.{◌≡◌, ◌+◌, ◌*◌, ◌≤◌, ℕ, true, length, drop, get_or}
use Rattle.vir_altset.specs.Sets.{limit}
use Rattle.vir_mean.specs.Numbers.{number_of}
use Rattle.vir_tables.specs.Marks.{is_marked}
use Rattle.vir_positional.specs.Gains.{gained}
use Rattle.vir_positional.proofs.sums.add_line.Given as goal

abbrev pub invariant-loop-i : goal.invariant-loop-i
invariant-loop-i l = record {
  size : length l.sums ≡ limit;
  few : l.place ≤ l.i;
  sums : (x : ℕ) → is_marked l.marks x ≡ true → 1 ≤ x → x ≤ limit
      → number_of l.sums x + gained (is_marked l.marks) (λ i. l.voters * get_or l.weights i 0) x l.place
      (drop l.i l.order)
      ≡ number_of l.fn.sums x + gained (is_marked l.marks) (λ i. l.voters * get_or l.weights i 0) x 0 l.order;
}
