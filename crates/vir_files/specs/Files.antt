-- The kinds of files: how many bytes each may have, and what a file of it says.
use Rattle.std.specs.Prelude.{ℕ, List, [], ◌∷◌, None, Some, Result, Ok, Err}
use Rattle.std.specs.declared.option.Option.{Option}
use Rattle.vir_book.specs.Books.{rule_of}
use Rattle.vir_cert.specs.Certs.{Cert, cert_of}
use Rattle.vir_course.specs.Courses.{Course}
use Rattle.vir_course.specs.Steps.{Asked, reads}
use Rattle.vir_course.specs.declared.stop.Stop.{Stop}
use Rattle.vir_course.specs.declared.stop.Stop.TheVariants as stop
use Rattle.vir_profile.specs.SocFiles.{File}
use Rattle.vir_read.specs.declared.text_fault.TextFault.{TextFault}
use Rattle.vir_soc.specs.Soc.{soc}
use Rattle.vir_soc.specs.declared.fault.SocFault.{SocFault}
use Rattle.vir_term.specs.Tree.{Tree}

-- A kind of files: the most bytes that one may have, what its bytes say, and why a call stops at a fault of them.
pub record Kind (A F : Type 0) : Type 0 where
  pub limit : ℕ
  pub says : List ℕ → Result A F
  pub refused : F → Stop

abbrev pub rules : Kind Tree TextFault
rules = record { limit = 1048576; says = rule_of; refused = λ fault. stop.TextRefused fault }

abbrev pub certificates : Kind Cert TextFault
certificates = record { limit = 16777216; says = cert_of; refused = λ fault. stop.TextRefused fault }

abbrev pub profiles : Kind File SocFault
profiles = record { limit = 268435456; says = soc; refused = λ fault. stop.ProfileRefused fault }

-- a file of a kind, that is asked for by its name
abbrev pub asked_file : {A F : Type 0} → Kind A F → List ℕ → Asked
asked_file kind name = record { name = name; limit = kind.limit }

-- what its bytes lead to
abbrev pub accept : {A F : Type 0} → (F → Stop) → Result A F → Result A Stop
accept refused (Ok value) = Ok value
accept refused (Err fault) = Err (refused fault)

-- what stands under its name leads to
abbrev pub judge : {A F : Type 0} → Kind A F → Option (List ℕ) → Result A Stop
judge kind None = Err stop.ReadFault
judge kind (Some bytes) = accept kind.refused (kind.says bytes)

-- the reading of a file of a kind, by its name and what stands under it
abbrev pub read_as : {A F : Type 0} → Kind A F → List ℕ → Option (List ℕ) → Course A
read_as kind name content = record { steps = reads (asked_file kind name) ∷ []; end = judge kind content }
