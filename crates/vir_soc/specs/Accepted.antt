-- What the lines of a file say, read one by one and without regard to any other line.
-- (The program's promises don't stand on this file.)
use Rattle.std.specs.Prelude.{◌≡◌, ℕ, true, Bool, false, List, [], ◌∷◌, length, map, filter, Option, Some, None}
use Rattle.std.specs.Prelude.{if◌then◌else◌, nat_eq}
use Rattle.std.specs.List.{slice_split, before_first, after_first, flat_map, last_or}
use Rattle.vir_profile.specs.declared.ballot.Entry.{Entry}
use Rattle.vir_profile.specs.Profiles.{Votes, total_weight}
use Rattle.vir_soc.specs.declared.key.Key.{Key}
use Rattle.vir_soc.specs.declared.key.Key.TheVariants.{DataType, Alternatives, Voters, Orders, NameOf, Other}
use Rattle.vir_soc.specs.LineKinds.{LineKind, skipped, metadata, ballots, is_colon, kinds_of}
use Rattle.vir_soc.specs.Lines.{lines, trim}
use Rattle.vir_soc.specs.Metadata.{is_soc}
use Rattle.vir_soc.specs.Numbers.{number}
use Rattle.vir_soc.specs.Votes.{is_comma}

-- ---- votes

-- the text of a line of votes
abbrev pub ballots_in : LineKind → List (List ℕ)
ballots_in skipped = []
ballots_in (metadata key value) = []
ballots_in (ballots text) = text ∷ []

-- the lines of votes, without blanks at their ends
abbrev pub vote_lines : List ℕ → List (List ℕ)
vote_lines bytes = flat_map ballots_in (kinds_of (lines bytes))

-- a count and an order, as far as they are numbers
pub record Vote : Type 0 where
  pub count : Option ℕ
  pub order : List (Option ℕ)

-- the count before the colon of a line of votes, and the order that stands behind it between commas
abbrev pub vote_of : List ℕ → Vote
vote_of text = record {
  count = number (trim (before_first is_colon text));
  order = map (λ part. number (trim part)) (slice_split is_comma (after_first is_colon text));
}

-- the vote that is a line of a profile
abbrev pub as_vote : Entry → Vote
as_vote entry = record { count = Some entry.weight; order = map (λ x. Some x) entry.order }

-- ---- metadata

-- a key that counts, with a value
pub record Metadatum : Type 0 where
  pub key : Key
  pub value : List ℕ

abbrev pub metadata_in : LineKind → List Metadatum
metadata_in skipped = []
metadata_in (metadata key value) = record { key = key; value = value } ∷ []
metadata_in (ballots text) = []

-- the lines of metadata
abbrev pub metadata_lines : List ℕ → List Metadatum
metadata_lines bytes = flat_map metadata_in (kinds_of (lines bytes))

-- whether this is the key of the name of i
abbrev pub is_name_key : ℕ → Key → Bool
is_name_key i DataType = false
is_name_key i Alternatives = false
is_name_key i Voters = false
is_name_key i Orders = false
is_name_key i (NameOf j) = nat_eq i j
is_name_key i Other = false

-- the values that lines of metadata give as the name of i, in order
abbrev pub names_given : ℕ → List Metadatum → List (List ℕ)
names_given i facts = map (λ f. f.value) (filter (λ f. is_name_key i f.key) facts)

-- a text, where it is not empty
abbrev pub not_empty : Option (List ℕ) → Option (List ℕ)
not_empty None = None
not_empty (Some text) = if nat_eq (length text) 0 then None else Some text

-- the last name of i that lines of metadata give; none where it is empty
abbrev pub last_name : ℕ → List ℕ → Option (List ℕ)
last_name i bytes = not_empty (last_or None (names_given i (metadata_lines bytes)))

-- a line of metadata says nothing else of its file than what this profile is
abbrev pub IsTrueOf : Votes → Key → List ℕ → Type 0
IsTrueOf votes DataType value = is_soc value ≡ true
IsTrueOf votes Alternatives value = number value ≡ Some votes.alternatives
IsTrueOf votes Voters value = number value ≡ Some (total_weight votes.lines)
IsTrueOf votes Orders value = number value ≡ Some (length votes.lines)
IsTrueOf votes (NameOf i) value = Unit {0}
IsTrueOf votes Other value = Unit {0}
