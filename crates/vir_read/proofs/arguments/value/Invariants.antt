use Rattle.std.proofs.Common.{◌≡◌, ◌≤◌, ◌+◌, drop, min}
use Rattle.vir_term.specs.Limits.{count_limit}
use Rattle.vir_read.specs.Arguments.{value_after}
use Rattle.vir_read.proofs.arguments.value.Given as goal

abbrev pub invariant-loop-digit : goal.invariant-loop-digit
invariant-loop-digit l =
    record {
      small : l.n ≤ (count_limit + 1);
      same : min (value_after l.n (drop l.digit-index l.digits)) (count_limit
          + 1) ≡ min (value_after 0 l.digits) (count_limit + 1);
    }
