use Rattle.vir_code.proofs.validation.+term_before.Given as goal

abbrev pub decreases-term_before : goal.decreases-term_before
decreases-term_before l = l.levels
