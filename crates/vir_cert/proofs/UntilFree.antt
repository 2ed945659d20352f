-- Trees without the word that the first version lacks: it isn't found in them.
use Rattle.std.proofs.Common.{◌≡◌, ℕ, false, List, None, refl}
use Rattle.std.specs.Prelude.{⊤}
use Rattle.std.specs.Str.{bytes_eq}
use Rattle.vir_read.specs.RawTrees.{RawTree, RawTrees, word, number, bracket, none, more}
use Rattle.vir_read.specs.Arguments.{span}
use Rattle.vir_cert.specs.Untils.{until_word, until_at, until_in}

-- no word of the tree is that word, wherever it stands
abbrev mutual
  pub IsFree : List ℕ → RawTree → Type 0
  IsFree text (word start end parts) = (bytes_eq (span text start end) until_word ≡ false) × AllFree text parts
  IsFree text (number start end) = ⊤
  IsFree text (bracket start members) = AllFree text members

  pub AllFree : List ℕ → RawTrees → Type 0
  AllFree text none = ⊤
  AllFree text (more t rest) = IsFree text t × AllFree text rest

mutual
  pub free_at : (text : List ℕ) (raw : RawTree) → IsFree text raw → until_at text raw ≡ None
  free_at text (word start end parts) h = rw h.0 (free_in text parts h.1)
  free_at text (number start end) h = refl
  free_at text (bracket start members) h = free_in text members h

  free_in : (text : List ℕ) (raws : RawTrees) → AllFree text raws → until_in text raws ≡ None
  free_in text none h = refl
  free_in text (more raw rest) h = rw (free_at text raw h.0) (free_in text rest h.1)
