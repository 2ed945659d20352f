-- Which lines a profile takes: the first fault of a line, in the order in which faults are tried.
-- (The program's promises don't stand on this file.)
use Rattle.std.specs.Prelude.{◌+◌, length, Option, nat_le, nat_lt}
use Rattle.vir_profile.specs.declared.ballot.Entry.{Entry}
use Rattle.vir_profile.specs.declared.refused.AddFault.{AddFault}
use Rattle.vir_profile.specs.declared.refused.AddFault.TheVariants.{TooManyOrders, TooManyVoters}
use Rattle.vir_profile.specs.OrderFaults.{fault_where, or_else, order_fault}
use Rattle.vir_profile.specs.Profiles.{Votes, lines_limit, total_weight, voters_limit}

-- the first fault of a further line, want of memory aside
abbrev pub add_fault : Votes → Entry → Option AddFault
add_fault votes line =
    or_else (order_fault votes.alternatives line.order)
    (or_else (fault_where (nat_le lines_limit (length votes.lines)) TooManyOrders)
    (fault_where (nat_lt voters_limit (total_weight votes.lines + line.weight)) TooManyVoters))
