use Rattle.std.proofs.Common.{nat_eq, arith}
use Rattle.std.proofs.lemmas.Grind.{common_steps}
use Rattle.vir_soc.proofs.AnyLemmas.{list_any-inside, list_any-none}
use Rattle.vir_soc.proofs.bytes.cut.Goals as goal

pub returns-then-end-text-clause-after : goal.returns-then-end-text-clause-after
returns-then-end-text-clause-after c = list_any-none (λ x. nat_eq x c.args.byte) c.args.text.now (omega arith)

pub returns-else-end-text-clause-after : goal.returns-else-end-text-clause-after
returns-else-end-text-clause-after c = (
  list_any-inside (λ x. nat_eq x c.args.byte) c.args.text.now (omega arith),
  grind
      (arith, common_steps),
)
