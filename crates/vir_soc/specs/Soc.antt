-- What a file of strict complete orders says, or its first fault.
use Rattle.std.specs.Prelude.{ℕ, ◌+◌, not, List, [], ◌∷◌, length, take, Option, Some, None, Result, Ok, Err}
use Rattle.std.specs.Prelude.{if◌then◌else◌, nat_eq, nat_le}
use Rattle.std.specs.Option.{ok_or}
use Rattle.vir_profile.specs.Profiles.{total_weight}
use Rattle.vir_profile.specs.SocFiles.{File}
use Rattle.vir_soc.specs.declared.kind.SocKind.{SocKind}
use Rattle.vir_soc.specs.declared.kind.SocKind.TheVariants.{NoAlternativeCount, VotersDiffer, OrdersDiffer, FileTooLong}
use Rattle.vir_soc.specs.declared.fault.SocFault.{SocFault}
use Rattle.vir_soc.specs.Limits.{profile_size_limit}
use Rattle.vir_soc.specs.declared.stated.Stated.{Stated}
use Rattle.vir_soc.specs.Checks.{◌>>=◌, refuse, at_line, fault_of}
use Rattle.vir_soc.specs.Lines.{lines, ended_lines}
use Rattle.vir_soc.specs.LineKinds.{LineKind, skipped, metadata, ballots, kinds_of}
use Rattle.vir_soc.specs.Metadata.{after_key}
use Rattle.vir_soc.specs.Names.{names_up_to}
use Rattle.vir_soc.specs.Content.{Content, nothing}
use Rattle.vir_soc.specs.Votes.{after_votes}

-- the content after the line of this number, which is of this kind
abbrev pub after_line : Content → ℕ → LineKind → Result Content SocKind
after_line content line skipped = Ok content
after_line content line (metadata key value) = after_key content line key value
after_line content line (ballots text) = after_votes content text

-- the content after these lines, which are judged in order, the first of them being that of this number
unfoldable pub after_lines : Content → ℕ → List LineKind → Result Content SocFault
after_lines content line [] = Ok content
after_lines content line (kind ∷ kinds) = do
  content ← at_line line (after_line content line kind)
  after_lines content (line + 1) kinds

-- the content of lines, or their first fault
abbrev pub content_of_lines : List (List ℕ) → Result Content SocFault
content_of_lines texts = after_lines nothing 1 (kinds_of texts)

-- a number that metadata stated is this one; the fault stands at the line that stated it
abbrev pub agrees : Option Stated → ℕ → SocKind → Result (Unit {0}) SocFault
agrees None n kind = Ok tt
agrees (Some stated) n kind = at_line stated.line (refuse (not (nat_eq stated.value n)) kind)

-- the file of which this is the content of all lines, the last of them being that of this number
unfoldable pub complete_file : Content → ℕ → Result File SocFault
complete_file content last = do
  m ← at_line last (ok_or content.alternatives NoAlternativeCount)
  _ ← agrees content.voters (total_weight content.votes) VotersDiffer
  _ ← agrees content.orders (length content.votes) OrdersDiffer
  Ok (record { profile = record { alternatives = m; lines = content.votes }; names = names_up_to m content.names })

-- the file that these lines are, or its first fault
abbrev pub file_of : List (List ℕ) → Result File SocFault
file_of texts = do
  content ← content_of_lines texts
  complete_file content (length texts)

-- the content of the lines that a line feed ends, or their first fault
abbrev pub ended_content : List ℕ → Result Content SocFault
ended_content bytes = content_of_lines (ended_lines bytes)

-- the fault of a file that has these bytes and more than it may: that of an ended line, else FileTooLong at the line
-- that goes on
abbrev pub too_long : {A : Type 0} → List ℕ → Result A SocFault
too_long bytes = do
  _ ← ended_content bytes
  at_line (length (lines bytes)) (Err FileTooLong)

-- the file that the bytes are, or its first fault
abbrev pub soc : List ℕ → Result File SocFault
soc bytes = if nat_le (length bytes) profile_size_limit then file_of (lines bytes)
    else too_long (take profile_size_limit bytes)

-- the content of the ended lines of the bytes, or the first fault that the bytes settle, however they go on
abbrev pub settled_content : List ℕ → Result Content SocFault
settled_content bytes = if nat_le (length bytes) profile_size_limit then ended_content bytes
    else too_long (take profile_size_limit bytes)

-- the first fault that the bytes settle, however they go on
abbrev pub settled : List ℕ → Option SocFault
settled bytes = fault_of (settled_content bytes)
