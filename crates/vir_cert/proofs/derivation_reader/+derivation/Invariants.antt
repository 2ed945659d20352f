use Rattle.std.proofs.Common.{◌≡◌, ◌+◌, ◌-◌, ◌*◌, ◌≤◌, length, drop}
use Rattle.vir_rules.specs.RuleTrees.{rule_trees}
use Rattle.vir_cert.specs.Derivations.{children, derivation_within}
use Rattle.vir_read.proofs.ListedLemmas.{with_front}
use Rattle.vir_cert.proofs.derivation_reader.+derivation.Given as goal

abbrev pub decreases-read_behind : goal.decreases-read_behind
decreases-read_behind l = 3 * l.room + 2

abbrev pub decreases-read_children : goal.decreases-read_children
decreases-read_children l = 3 * l.room + 1

abbrev pub decreases-read_within : goal.decreases-read_within
decreases-read_within l = 3 * l.room

abbrev pub invariant-read_children-loop : goal.invariant-read_children-loop
invariant-read_children-loop l = record {
  whole : with_front (rule_trees l.children) (children l.text (derivation_within l.text l.fn.last l.fn.room)
      (length l.list - l.counter) (drop l.at l.list))
      ≡ children l.text (derivation_within l.text l.fn.last l.fn.room) (length (drop l.fn.from l.list))
      (drop l.fn.from l.list);
  forward : l.fn.from ≤ l.at;
  within : l.at ≤ length l.list;
}
