use Rattle.vir_top.proofs.DueLemmas.{invalid_due, only_invalid, only_valid, valid_due}
use Rattle.vir_top.proofs.laws.certificates_are_judged.Goals as goal

pub returns-clause-accepted : goal.returns-clause-accepted
returns-clause-accepted c = λ kinds all name status has due. valid_due kinds all name status has due

pub returns-clause-refused : goal.returns-clause-refused
returns-clause-refused c = λ kinds all name status has due. invalid_due kinds all name status has due

pub returns-clause-accepted_only : goal.returns-clause-accepted_only
returns-clause-accepted_only c = λ kinds all name due. only_valid kinds all name due

pub returns-clause-refused_only : goal.returns-clause-refused_only
returns-clause-refused_only c = λ kinds all name due. only_invalid kinds all name due
