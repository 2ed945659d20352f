-- Names of alternatives.
use Rattle.std.specs.Prelude.{ℕ, ◌&&◌, Bool, List, length, filter, map, nat_lt, nat_le}
use Rattle.std.specs.BTreeMap.{insert_entry}
use Rattle.std.specs.Ordering.{nat_cmp}
use Rattle.vir_profile.specs.declared.soc_file.Name.{Name}

-- what is given as names, by ascending number, with this text given to i: the last one counts
abbrev pub with_name : ℕ → List ℕ → List (ℕ × List ℕ) → List (ℕ × List ℕ)
with_name i text given = insert_entry nat_cmp given i text

-- whether what is given is the name of one of m alternatives: an empty text is no name
abbrev pub is_name : ℕ → ℕ × List ℕ → Bool
is_name m given = nat_le given.0 m && nat_lt 0 (length given.1)

-- a text that is given to a number, as a name
abbrev pub name_given : ℕ × List ℕ → Name
name_given given = record { number = given.0; text = given.1 }

-- the names of the alternatives up to m
abbrev pub names_up_to : ℕ → List (ℕ × List ℕ) → List Name
names_up_to m given = map name_given (filter (is_name m) given)
