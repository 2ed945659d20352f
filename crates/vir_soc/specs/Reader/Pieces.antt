-- How a reader goes on from line to line and from piece to piece. The format itself does not stand on this.
-- (The program's promises don't stand on this file.)
use Rattle.std.specs.Prelude.{ℕ, ◌+◌, ◌-◌, List, [], ◌∷◌, ◌++◌, length, take, Result, Ok, if◌then◌else◌, nat_eq, nat_lt}
use Rattle.vir_profile.specs.SocFiles.{File, is_line_feed}
use Rattle.vir_soc.specs.declared.kind.SocKind.{SocKind}
use Rattle.vir_soc.specs.declared.kind.SocKind.TheVariants.{FileTooLong}
use Rattle.vir_soc.specs.declared.fault.SocFault.{SocFault}
use Rattle.vir_soc.specs.Checks.{◌>>=◌, refuse, at_line}
use Rattle.vir_soc.specs.LineKinds.{LineKind, text_kind}
use Rattle.vir_soc.specs.Lines.{trim, without_mark}
use Rattle.vir_soc.specs.Content.{Content}
use Rattle.vir_soc.specs.Soc.{after_line, after_lines, complete_file}
use Rattle.vir_soc.specs.Limits.{profile_size_limit}

-- what the line of this number is; the first one may begin with a byte order mark
abbrev pub kind_at : ℕ → List ℕ → LineKind
kind_at line text = text_kind (trim (if nat_eq line 1 then without_mark text else text))

-- the content after the line of this number
unfoldable pub after_text : Content → ℕ → List ℕ → Result Content SocKind
after_text content line text = after_line content line (kind_at line text)

-- what these lines are, the first of them being that of this number
unfoldable pub kinds_from : ℕ → List (List ℕ) → List LineKind
kinds_from line [] = []
kinds_from line (text ∷ texts) = kind_at line text ∷ kinds_from (line + 1) texts

-- the content after these lines
abbrev pub after_texts : Content → ℕ → List (List ℕ) → Result Content SocFault
after_texts content line texts = after_lines content line (kinds_from line texts)

-- the lines that a line feed ends, where the first of them has begun so
unfoldable pub ended : List ℕ → List ℕ → List (List ℕ)
ended begun [] = []
ended begun (c ∷ cs) = if is_line_feed c then begun ∷ ended [] cs else ended (begun ++ c ∷ []) cs

-- what stands behind the last line feed
unfoldable pub unended : List ℕ → List ℕ → List ℕ
unended begun [] = begun
unended begun (c ∷ cs) = if is_line_feed c then unended [] cs else unended (begun ++ c ∷ []) cs

-- the content of the ended lines, the number of the line that has begun, and its bytes so far
pub record Progress : Type 0 where
  pub content : Content
  pub line : ℕ
  pub begun : List ℕ

-- the line that has begun ends with these bytes
abbrev pub end_line : Progress → List ℕ → Result Progress SocFault
end_line p end = do
  content ← at_line p.line (after_text p.content p.line (p.begun ++ end))
  Ok (record { content = content; line = p.line + 1; begun = [] })

-- further bytes
abbrev pub reads : Progress → List ℕ → Result Progress SocFault
reads p bytes = do
  content ← after_texts p.content p.line (ended p.begun bytes)
  Ok (record { content = content; line = p.line + length (ended p.begun bytes); begun = unended p.begun bytes })

-- progress, and how many bytes there were
pub record Reading : Type 0 where
  pub progress : Progress
  pub size : ℕ

-- a further piece, as far as a file may go
abbrev pub feeds : Reading → List ℕ → Result Reading SocFault
feeds r piece = do
  p ← reads r.progress (take (profile_size_limit - r.size) piece)
  _ ← at_line p.line (refuse (nat_lt profile_size_limit (r.size + length piece)) FileTooLong)
  Ok (record { progress = p; size = r.size + length piece })

-- the file, where this is its last line
abbrev pub closed : Content → ℕ → List ℕ → Result File SocFault
closed content last text = do
  content ← at_line last (after_text content last text)
  complete_file content last
