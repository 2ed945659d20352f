use Rattle.std.proofs.Common.{◌+◌, ◌-◌}
use Rattle.vir_soc.specs.declared.soc_reader.TheConstants.{PROFILE_SIZE_LIMIT}
use Rattle.vir_files.proofs.FedLemmas.{IsFeeding}
use Rattle.vir_files.proofs.profile_file.fed_reader.Given as goal

abbrev pub invariant-loop-taken : goal.invariant-loop-taken
invariant-loop-taken g l =
    IsFeeding (g.S.Shelf.seen l.fn.shelf) (g.S.Shelf.seen l.shelf) l.taken l.reader

abbrev pub decreases-loop-taken : goal.decreases-loop-taken
decreases-loop-taken g l = PROFILE_SIZE_LIMIT + 1 - l.taken
