-- Manifests as texts.
use Rattle.std.proofs.Common.{◌≡◌, ℕ, List, [], true, length, nat_lt, Err, ap, if◌then◌else◌}
use Rattle.vir_read.specs.Faults.{fault}
use Rattle.vir_read.specs.declared.text_fault.TextKind.TheVariants.{TextTooLong}
use Rattle.vir_batch.specs.Manifest.{lines, manifest_of, with_lines}
use Rattle.vir_batch.specs.declared.manifest.TheConstants.{MANIFEST_LIMIT}

-- names of the code are these
abbrev pub names_seen : List (List ℕ) → List (List ℕ)
names_seen names = names

abbrev pub SeesNames : List (List ℕ) → List (List ℕ) → Type 0
SeesNames names x = names ≡ x

-- a text that is too long has that fault
pub long_manifest : (bytes : List ℕ) → nat_lt MANIFEST_LIMIT (length bytes) ≡ true
    → manifest_of bytes ≡ Err (fault TextTooLong MANIFEST_LIMIT)
long_manifest bytes long =
    ap (λ b. if b then Err (fault TextTooLong MANIFEST_LIMIT) else with_lines [] 0 (lines bytes)) long
