use Rattle.vir_book.proofs.WithinLaws.{rule_within}
use Rattle.vir_book.proofs.laws.rules_are_within_limits.Goals as goal

pub returns : goal.returns
returns c = λ text t says. rule_within text t says
