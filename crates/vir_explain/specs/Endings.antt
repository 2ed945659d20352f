-- Where a loop ends, as the code says it.
-- (The program's promises don't stand on this file.)
use Rattle.vir_term.specs.Tree.{End, exactly, at_most}
use Rattle.vir_explain.specs.declared.ending.Ending.{Ending}
use Rattle.vir_explain.specs.declared.ending.Ending.TheVariants.{Exactly, AtMost}

-- the end of a loop that a value of the code stands for
abbrev pub end_of : Ending → End
end_of (Exactly k) = exactly k
end_of (AtMost k) = at_most k
