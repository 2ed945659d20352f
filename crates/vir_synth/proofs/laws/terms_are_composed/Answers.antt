use Rattle.vir_synth.proofs.TermLemmas.{first_terms, composed_terms, splits_by_size, terms_up_to-more}
use Rattle.vir_synth.proofs.laws.terms_are_composed.Goals as goal

pub returns-clause-ones : goal.returns-clause-ones
returns-clause-ones c = first_terms

pub returns-clause-compositions : goal.returns-clause-compositions
returns-clause-compositions c = composed_terms

pub returns-clause-sizes : goal.returns-clause-sizes
returns-clause-sizes c = splits_by_size

pub returns-clause-up_to : goal.returns-clause-up_to
returns-clause-up_to c = terms_up_to-more
