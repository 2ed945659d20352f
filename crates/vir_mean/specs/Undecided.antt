-- The split of a set on which nothing is decided.
use Rattle.std.specs.FinSet as set
use Rattle.vir_altset.specs.Sets.{Set}
use Rattle.vir_altset.specs.declared.split.Split.{Split}

-- nobody is elected or rejected: all of the set are deferred
abbrev pub undecided : Set → Split
undecided a = record { elected = set.empty; rejected = set.empty; deferred = a }
