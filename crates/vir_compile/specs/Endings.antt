-- Where a loop ends, as the code says it.
-- (The program's promises don't stand on this file.)
use Rattle.vir_term.specs.Tree.{End, exactly, at_most}
use Rattle.vir_compile.specs.declared.compiler.Ending.{Ending}
use Rattle.vir_compile.specs.declared.compiler.Ending.TheVariants.{Exactly, AtMost}

-- the end that is meant
abbrev pub end_of : Ending → End
end_of (Exactly k) = exactly k
end_of (AtMost k) = at_most k
