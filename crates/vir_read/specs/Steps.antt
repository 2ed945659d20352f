-- One step through a text.
-- (The program's promises don't stand on this file.)
use Rattle.std.specs.Prelude.{◌≡◌, ℕ, ◌<◌, ◌≤◌, List, length, drop, Option, Some, None, Result, Ok, Err}
use Rattle.vir_read.specs.declared.token.Token.{Token}
use Rattle.vir_read.specs.declared.token_reader.Step.{Step}
use Rattle.vir_read.specs.declared.text_fault.TextFault.{TextFault}
use Rattle.vir_read.specs.Faults.{OrFault}
use Rattle.vir_read.specs.Tokens.{tokens_from, with_token}

-- this token, if there is one, and then those
abbrev pub with_found : Option Token → OrFault (List Token) → OrFault (List Token)
with_found None rest = rest
with_found (Some t) rest = with_token t rest

-- the tokens from a place on are what a step finds there, and then those from the step's end on
abbrev pub StepsFrom : ℕ → List ℕ → Result Step TextFault → Type 0
StepsFrom at text (Ok step) =
    (tokens_from 0 at (drop at text) ≡ with_found step.token (tokens_from 0 step.next (drop step.next text)))
    × (at < step.next) × (step.next ≤ length text)
StepsFrom at text (Err f) = tokens_from 0 at (drop at text) ≡ Err f
