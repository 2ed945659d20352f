-- How long a run is, as std counts it.
use Rattle.std.proofs.Common.{◌≡◌, ℕ, ◌+◌, ◌≤◌, suc, Bool, true, false, cond, List, [], ◌∷◌, length, take, refl, ◌∙◌}
use Rattle.std.proofs.Common.{arith}
use Rattle.std.specs.List.{prefix_len}
use Rattle.std.proofs.lemmas.List.Folds.{length-prefix_len}
use Rattle.std.proofs.lemmas.List.Sums.{prefix_len-le-length}
use Rattle.vir_read.specs.Tokens.{run}

prefix_len-run : (p : ℕ → Bool) (bytes : List ℕ) → prefix_len p bytes ≡ run p bytes
prefix_len-run p [] = refl
prefix_len-run p (b ∷ rest) =
    elim (p b) as (λ c. cond c (1 + prefix_len p rest) 0 ≡ cond c (suc (run p rest)) 0) [
      | true ↦ let h = prefix_len-run p rest in omega arith
      | false ↦ refl
    ]

-- the bytes that pass at the front are as many as the run is long
pub length_passing : (p : ℕ → Bool) (bytes : List ℕ) → length (take (prefix_len p bytes) bytes) ≡ run p bytes
length_passing p bytes = length-prefix_len p bytes ∙ prefix_len-run p bytes

pub run-le-length : (p : ℕ → Bool) (bytes : List ℕ) → run p bytes ≤ length bytes
run-le-length p bytes = let h = prefix_len-run p bytes in let k = prefix_len-le-length p bytes in omega arith
