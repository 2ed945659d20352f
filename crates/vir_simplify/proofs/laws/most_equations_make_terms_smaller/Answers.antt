use Rattle.vir_simplify.proofs.SideLaws.{shrinking-smaller}
use Rattle.vir_simplify.proofs.laws.most_equations_make_terms_smaller.Goals as goal

pub returns : goal.returns
returns c = shrinking-smaller
