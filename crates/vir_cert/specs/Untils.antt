-- The word that the first version of certificates lacks, in a tree of a text.
use Rattle.std.specs.Prelude.{ℕ, List, Option, Some, None, codes, if◌then◌else◌}
use Rattle.std.specs.Str.{bytes_eq}
use Rattle.vir_read.specs.RawTrees.{RawTree, RawTrees, word, number, bracket, none, more}
use Rattle.vir_read.specs.Arguments.{span}

-- the word
abbrev pub until_word : List ℕ
until_word = codes "until"

-- the first of two places, where there is one
abbrev pub or_else : Option ℕ → Option ℕ → Option ℕ
or_else (Some at) other = Some at
or_else None other = other

-- where the word stands first in a tree, and in several, wherever in them that is
abbrev mutual
  pub until_at : List ℕ → RawTree → Option ℕ
  until_at text (word start end parts) =
      if bytes_eq (span text start end) until_word then Some start else until_in text parts
  until_at text (number start end) = None
  until_at text (bracket start members) = until_in text members

  pub until_in : List ℕ → RawTrees → Option ℕ
  until_in text none = None
  until_in text (more t rest) = or_else (until_at text t) (until_in text rest)
