-- Faults of a text, and a call's answer beside what the language says.
use Rattle.std.specs.Prelude.{◌≡◌, ℕ, Result, Ok, Err}
use Rattle.vir_read.specs.declared.text_fault.TextKind.{TextKind}
use Rattle.vir_read.specs.declared.text_fault.TextFault.{TextFault}
use Rattle.vir_read.specs.declared.text_fault.TextError.{TextError}
use Rattle.vir_read.specs.declared.text_fault.TextError.TheVariants.{Fault, Memory}

-- a fault of this kind, at this place
abbrev pub fault : TextKind → ℕ → TextFault
fault kind at = record { kind = kind; at = at }

-- a value, or the first fault
abbrev pub OrFault : Type 0 → Type 0
OrFault A = Result A TextFault

-- a value and what is made of it, or the first fault
infixl 10 ◌>>=◌
abbrev pub ◌>>=◌ : {A B : Type 0} → OrFault A → (A → OrFault B) → OrFault B
(Ok x) >>= f = f x
(Err e) >>= f = Err e

-- an error is the fault that the language gives; want of memory is free
abbrev pub Fails : {Y : Type 0} → TextError → OrFault Y → Type 0
Fails (Fault f) meant = meant ≡ Err f
Fails Memory meant = Unit {0}

-- a call gives what the language gives, seen by this view
abbrev pub Gives : {X Y : Type 0} → (X → Y) → Result X TextError → OrFault Y → Type 0
Gives view (Ok x) meant = meant ≡ Ok (view x)
Gives view (Err e) meant = Fails e meant
