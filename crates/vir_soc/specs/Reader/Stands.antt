-- What bytes a reader stands for.
-- (The program's promises don't stand on this file.)
use Rattle.std.specs.Prelude.{ℕ, List, length, Option, Some, None, Result, Ok, Err}
use Rattle.vir_soc.specs.declared.fault.SocFault.{SocFault}
use Rattle.vir_soc.specs.declared.fault.SocError.{SocError}
use Rattle.vir_soc.specs.declared.fault.SocError.TheVariants.{Fault}
use Rattle.vir_soc.specs.declared.line_reader.LineReader.{LineReader}
use Rattle.vir_soc.specs.Checks.{◌>>=◌}
use Rattle.vir_soc.specs.Lines.{lines, last_line}
use Rattle.vir_soc.specs.Soc.{settled_content}
use Rattle.vir_soc.specs.Reader.Pieces.{Reading}
use Rattle.vir_soc.specs.Reader.Views.{reading_of}

-- where the rules lead from these bytes: what the ended lines say, the number of the last line and its bytes so far,
-- and the size
abbrev pub standing : List ℕ → Result Reading SocFault
standing bytes = do
  content ← settled_content bytes
  Ok (record {
    progress = record { content = content; line = length (lines bytes); begun = last_line bytes };
    size = length bytes;
  })

-- what a reader keeps: where it stands, or the error that it answered
abbrev pub state_of : LineReader → ℕ → Option SocError → Result Reading SocError
state_of reader size None = Ok (reading_of reader size)
state_of reader size (Some e) = Err e

-- a fault that a reader keeps
abbrev pub kept : Result Reading SocFault → Result Reading SocError
kept (Ok reading) = Ok reading
kept (Err fault) = Err (Fault fault)

-- the state of a reader that stands for these bytes
unfoldable pub stands : List ℕ → Result Reading SocError
stands bytes = kept (standing bytes)
