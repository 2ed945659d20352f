-- The canonical text of a file.
-- (The program's promises don't stand on this file.)
use Rattle.std.specs.Prelude.{ℕ, List, [], ◌∷◌, ◌++◌, length, map, codes, decimal, nat_eq, if◌then◌else◌}
use Rattle.std.specs.List.{flat_map, join_with_byte}
use Rattle.vir_profile.specs.declared.ballot.Entry.{Entry}
use Rattle.vir_profile.specs.declared.soc_file.Name.{Name}
use Rattle.vir_profile.specs.Profiles.{Votes, total_weight}
use Rattle.vir_profile.specs.SocFiles.{File}

-- a line of metadata
unfoldable pub metadata_text : List ℕ → List ℕ → List ℕ
metadata_text key value = codes "# " ++ key ++ codes ": " ++ value ++ 10 ∷ []

-- the lines of the counts
unfoldable pub counts_text : Votes → List ℕ
counts_text profile =
    metadata_text (codes "DATA TYPE") (codes "soc")
    ++ metadata_text (codes "NUMBER ALTERNATIVES") (decimal profile.alternatives)
    ++ metadata_text (codes "NUMBER VOTERS") (decimal (total_weight profile.lines))
    ++ metadata_text (codes "NUMBER UNIQUE ORDERS") (decimal (length profile.lines))

-- the line of a name
unfoldable pub name_text : Name → List ℕ
name_text name = metadata_text (codes "ALTERNATIVE NAME " ++ decimal name.number) name.text

-- an order, with commas between its members
abbrev pub order_text : List ℕ → List ℕ
order_text order = join_with_byte 44 (map decimal order)

-- the member that stands at a place of an order, with the comma before it
abbrev pub member_text : ℕ → ℕ → List ℕ
member_text place x = if nat_eq place 0 then decimal x else 44 ∷ decimal x

-- a line of votes
abbrev pub votes_text : Entry → List ℕ
votes_text entry = decimal entry.weight ++ codes ": " ++ order_text entry.order ++ 10 ∷ []

-- the counts, the names and the votes, each line ended by a line feed
abbrev pub soc_text : File → List ℕ
soc_text file = counts_text file.profile ++ flat_map name_text file.names ++ flat_map votes_text file.profile.lines
