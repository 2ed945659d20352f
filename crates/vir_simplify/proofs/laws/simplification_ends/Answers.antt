use Rattle.vir_simplify.proofs.Simplifications.{simplifies_fully, simplifies_less}
use Rattle.vir_simplify.proofs.laws.simplification_ends.Goals as goal

pub returns-clause-irreducible : goal.returns-clause-irreducible
returns-clause-irreducible c = λ t u steps simplifies. simplifies_fully steps t u simplifies

pub returns-clause-few : goal.returns-clause-few
returns-clause-few c = λ t u steps simplifies. (simplifies_less steps t u simplifies).smaller
