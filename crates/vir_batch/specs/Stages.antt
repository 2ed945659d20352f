-- How far the text of a batch has come.
-- (The program's promises don't stand on this file.)
use Rattle.std.specs.Prelude.{◌≡◌, ℕ, ◌+◌, ◌≤◌, List, ◌++◌, count_by, if◌then◌else◌, length}
use Rattle.std.specs.List.{flat_map}
use Rattle.vir_term.specs.Tree.{Tree}
use Rattle.vir_batch.specs.BatchTexts.{Said, is_refused, line_of}
use Rattle.vir_batch.specs.declared.lines.Lines.{Lines}

-- This line was put behind the others, for one more profile and so many more refused ones.
pub record IsLinePut (line : List ℕ) (more : ℕ) (old new : Lines) : Type 0 where
  pub text : new.text.items ≡ old.text.items ++ line
  pub profiles : new.profiles ≡ old.profiles + 1
  pub refused : new.refused ≡ old.refused + more

-- The line for what stands under a name was put.
abbrev pub IsLineAdded : Tree → Said → Lines → Lines → Type 0
IsLineAdded term said old new = IsLinePut (line_of term said) (if is_refused said then 1 else 0) old new

-- One profile more is told of, and not more refused ones than profiles.
pub record IsOneMore (old new : Lines) : Type 0 where
  pub profiles : new.profiles ≡ old.profiles + 1
  pub few : new.refused ≤ new.profiles

-- These are the lines for what was said, with the numbers of profiles and of refused ones.
pub record AreLinesOf (term : Tree) (said : List Said) (lines : Lines) : Type 0 where
  pub text : lines.text.items ≡ flat_map (line_of term) said
  pub profiles : lines.profiles ≡ length said
  pub refused : lines.refused ≡ count_by is_refused said
