-- The text of a batch: a line for each profile, and how many there were.
use Rattle.std.specs.Prelude.{ℕ, ◌-◌, ◌==◌, Bool, true, false, if◌then◌else◌, List, [], ◌∷◌, ◌++◌, Result, Ok, Err}
use Rattle.std.specs.Prelude.{codes, count_by, decimal, length, map, take}
use Rattle.std.specs.List.{flat_map}
use Rattle.vir_altset.specs.Sets.{all}
use Rattle.vir_altset.specs.declared.split.Split.{Split}
use Rattle.vir_mean.specs.Meaning.{mean}
use Rattle.vir_profile.specs.Profiles.{total_weight}
use Rattle.vir_profile.specs.SocFiles.{File}
use Rattle.vir_report.specs.ResultText.{result_text}
use Rattle.vir_soc.specs.Kinds.{kind_name}
use Rattle.vir_soc.specs.declared.fault.SocFault.{SocFault}
use Rattle.vir_term.specs.Tree.{Tree}

-- a name of the manifest, and what stands under it: a profile, or the first fault of one
pub record Said : Type 0 where
  pub name : List ℕ
  pub says : Result File SocFault

-- ---- lines

-- a space in the place of a line feed
abbrev pub spaced_byte : ℕ → ℕ
spaced_byte byte = if byte == 10 then 32 else byte

-- lines as one: single spaces stand in the place of the line feeds, but for the last one
abbrev pub one_line : List ℕ → List ℕ
one_line text = map spaced_byte (take (length text - 1) text) ++ 10 ∷ []

-- the line of a profile that is accepted: its name, the number of its voters, and the three sets of a split
abbrev pub counted_line : List ℕ → ℕ → Split → List ℕ
counted_line name voters split =
    name ++ codes " voters " ++ decimal voters ++ codes " " ++ one_line (result_text split)

-- the line of a profile that is refused: its name, and its first fault
abbrev pub refused_line : List ℕ → SocFault → List ℕ
refused_line name fault =
    name ++ codes " refused " ++ kind_name fault.kind ++ codes " at line " ++ decimal fault.line ++ codes "\n"

-- the last line: how many profiles there were, and how many of them were refused
abbrev pub last_line : ℕ → ℕ → List ℕ
last_line profiles refused = codes "profiles " ++ decimal profiles ++ codes " refused " ++ decimal refused ++ codes "\n"

-- ---- the text

-- the line of a name by what stands under it: a profile is counted by what the rule means on all its alternatives
abbrev pub line_by : Tree → List ℕ → Result File SocFault → List ℕ
line_by term name (Ok file) = counted_line name (total_weight file.profile.lines)
    (mean term (all file.profile.alternatives) file.profile.lines)
line_by term name (Err fault) = refused_line name fault

abbrev pub line_of : Tree → Said → List ℕ
line_of term said = line_by term said.name said.says

-- whether that is a fault
abbrev pub is_fault : Result File SocFault → Bool
is_fault (Ok file) = false
is_fault (Err fault) = true

abbrev pub is_refused : Said → Bool
is_refused said = is_fault said.says

-- the text of a rule, by the names and what stands under each
abbrev pub batch_text : Tree → List Said → List ℕ
batch_text term said = flat_map (line_of term) said ++ last_line (length said) (count_by is_refused said)
