-- What a line is, whatever the other lines are.
use Rattle.std.specs.Prelude.{ℕ, Bool, List, [], ◌∷◌, length, map, drop, if◌then◌else◌, nat_eq, slice_index}
use Rattle.std.specs.List.{list_any, before_first, after_first}
use Rattle.vir_soc.specs.declared.key.Key.{Key}
use Rattle.vir_soc.specs.Keys.{key_of}
use Rattle.vir_soc.specs.Lines.{trim, without_mark}

abbrev pub is_hash : ℕ → Bool
is_hash c = nat_eq c 35

abbrev pub is_colon : ℕ → Bool
is_colon c = nat_eq c 58

pub data LineKind : Type 0 where
  -- nothing that counts
  skipped : LineKind
  -- metadata: a key and its value
  metadata : Key → List ℕ → LineKind
  -- votes, in this text
  ballots : List ℕ → LineKind

-- a line that begins with a hash, here without it; one without a colon is skipped
abbrev pub hash_kind : List ℕ → LineKind
hash_kind text =
    if list_any is_colon text then metadata (key_of (trim (before_first is_colon text)))
    (trim (after_first is_colon text))
    else skipped

-- a line without blanks at its ends
abbrev pub text_kind : List ℕ → LineKind
text_kind text =
    if nat_eq (length text) 0 then skipped
    else if is_hash (slice_index text 0) then hash_kind (drop 1 text)
    else ballots text

-- the first line without a byte order mark, and the others
abbrev pub unmarked : List (List ℕ) → List (List ℕ)
unmarked [] = []
unmarked (text ∷ texts) = without_mark text ∷ texts

-- what these lines are
abbrev pub kinds_of : List (List ℕ) → List LineKind
kinds_of texts = map (λ text. text_kind (trim text)) (unmarked texts)
