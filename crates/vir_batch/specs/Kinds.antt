-- The kinds of files that a batch reads behind its rule.
use Rattle.std.specs.Prelude.{ℕ, List, Result, Ok, Err}
use Rattle.vir_course.specs.declared.stop.Stop.{Stop}
use Rattle.vir_course.specs.declared.stop.Stop.TheVariants as stop
use Rattle.vir_files.specs.Files.{Kind}
use Rattle.vir_profile.specs.SocFiles.{File}
use Rattle.vir_read.specs.declared.text_fault.TextFault.{TextFault}
use Rattle.vir_soc.specs.Soc.{soc}
use Rattle.vir_soc.specs.declared.fault.SocFault.{SocFault}
use Rattle.vir_batch.specs.Manifest.{manifest_of}

-- a manifest
abbrev pub manifests : Kind (List (List ℕ)) TextFault
manifests = record { limit = 1048576; says = manifest_of; refused = λ fault. stop.TextRefused fault }

-- a profile, or its first fault: that is no reason to stop
abbrev pub profiles_or_faults : Kind (Result File SocFault) ⊥
profiles_or_faults = record { limit = 268435456; says = λ bytes. Ok (soc bytes); refused = λ never. absurd never }

-- an answer that takes the fault of a profile for a value
abbrev pub fault_as_value : Result File Stop → Result (Result File SocFault) Stop
fault_as_value (Ok file) = Ok (Ok file)
fault_as_value (Err (stop.ProfileRefused fault)) = Ok (Err fault)
fault_as_value (Err stop.Usage) = Err stop.Usage
fault_as_value (Err stop.ReadFault) = Err stop.ReadFault
fault_as_value (Err (stop.TextRefused fault)) = Err (stop.TextRefused fault)
fault_as_value (Err stop.WriteFault) = Err stop.WriteFault
fault_as_value (Err stop.Memory) = Err stop.Memory
fault_as_value (Err (stop.NoCounter text)) = Err (stop.NoCounter text)
