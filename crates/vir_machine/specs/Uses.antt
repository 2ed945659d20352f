-- How often the recursion of a term's meaning asks for the splits of its modules.
use Rattle.std.specs.Prelude.{ℕ, zero, suc, ◌+◌, Bool, nat_eq, if◌then◌else◌, List, Option, Some, None, is_none}
use Rattle.std.specs.FinSet as set
use Rattle.vir_altset.specs.Sets.{Set}
use Rattle.vir_profile.specs.declared.ballot.Entry.{Entry}
use Rattle.vir_profile.specs.Profiles.{restrict}
use Rattle.vir_term.specs.declared.leaf.Leaf.{Leaf}
use Rattle.vir_term.specs.declared.leaf.LeafKind.{LeafKind}
use Rattle.vir_term.specs.Kinds.{kind_of}
use Rattle.vir_term.specs.Tree.{Tree, leaf, rev, seq, par, loop, End}
use Rattle.vir_mean.specs.Modules.{Meaning}
use Rattle.vir_mean.specs.Compositions.{is_end}
use Rattle.vir_mean.specs.Meaning.{mean}
use Rattle.vir_machine.specs.Bench.{is_served, first_serving}

-- the first of two, where there is one
abbrev pub or_else : Option Leaf → Option Leaf → Option Leaf
or_else None second = second
or_else (Some first) second = Some first

-- the first module of a term, from left to right, that isn't served
abbrev pub first_unserved : List (List LeafKind) → Tree → Option Leaf
first_unserved served (leaf l) = if is_served served (kind_of l) then None else Some l
first_unserved served (rev part) = first_unserved served part
first_unserved served (seq first second) = or_else (first_unserved served first) (first_unserved served second)
first_unserved served (par first second) = or_else (first_unserved served first) (first_unserved served second)
first_unserved served (loop k body) = first_unserved served body

-- whether every module of a term is served
abbrev pub all_served : List (List LeafKind) → Tree → Bool
all_served served t = is_none (first_unserved served t)

-- how often something is asked for: for each set and each profile on it, a number
abbrev pub Count : Type 0
Count = Set → List Entry → ℕ

-- One turn of a loop: it asks for nothing where the set is small enough; else for what its body asks for, and where
-- the body doesn't defer all of the set, for what follows on what the body defers.
abbrev pub turn_count : End → Meaning → Count → Count → Count
turn_count k body uses next a lines =
    if is_end k (set.len a) then 0
    else uses a lines + (if set.is_subset a (body a lines).deferred then 0 else next (body a lines).deferred
    (restrict (body a lines).deferred lines))

-- a loop of at most so many turns
unfoldable pub turns_count : ℕ → End → Meaning → Count → Count
turns_count zero k body uses a lines = 0
turns_count (suc most) k body uses a lines = turn_count k body uses (turns_count most k body uses) a lines

-- Each turn that goes on leaves fewer, and the last may leave all: there is at most one turn more than the set
-- has members.
abbrev pub loop_count : End → Meaning → Count → Count
loop_count k body uses a lines = turns_count (suc (set.len a)) k body uses a lines

-- How often the meaning of a term comes to a module whose first serving counter has index i, also on the empty set.
abbrev pub uses : ℕ → List (List LeafKind) → Tree → Count
uses i served (leaf l) a lines = if nat_eq i (first_serving served (kind_of l)) then 1 else 0
uses i served (rev part) a lines = uses i served part a lines
uses i served (seq first second) a lines =
    uses i served first a lines + uses i served second (mean first a lines).deferred
    (restrict (mean first a lines).deferred lines)
uses i served (par first second) a lines = uses i served first a lines + uses i served second a lines
uses i served (loop k body) a lines = loop_count k (mean body) (uses i served body) a lines
