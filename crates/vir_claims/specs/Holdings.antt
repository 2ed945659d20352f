-- What is told of the wanted properties of a rule, one after another.
-- (The program's promises don't stand on this file.)
use Rattle.std.specs.Prelude.{ℕ, List}
use Rattle.vir_course.specs.Reports.{finding_text, holds}
use Rattle.vir_course.specs.Synthesized.{Held}
use Rattle.vir_course.specs.Tellings.{TellsEach}
use Rattle.vir_rules.specs.Claims.{of}
use Rattle.vir_rules.specs.Derivations.{IsFirst}
use Rattle.vir_term.specs.declared.prop.Prop.{Prop}
use Rattle.vir_term.specs.Tree.{Tree}

-- The derivation of a property is the first one.
abbrev pub IsFirstOf : Tree → Held → Type 0
IsFirstOf term h = IsFirst h.derivation (of h.prop term)

-- Behind a text, each of these properties is told to hold, in their order, with its first derivation.
abbrev pub TellsHeld : Tree → List Prop → List ℕ → List ℕ → Type 0
TellsHeld = TellsEach (λ (h : Held). h.prop) IsFirstOf (λ (h : Held). finding_text h.prop (holds h.derivation))
