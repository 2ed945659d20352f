-- Lists as words of the command line: parts, with a sign between each two.
use Rattle.std.specs.Prelude.{ℕ, ◌==◌, List, [], ◌∷◌, length, Some, None, nat_le, if◌then◌else◌}
use Rattle.std.specs.List.{slice_split}
use Rattle.std.specs.declared.option.Option.{Option}

abbrev pub comma : ℕ
comma = 44

abbrev pub semicolon : ℕ
semicolon = 59

-- the parts of a word between these signs; a word without one is its own only part
abbrev pub parts : ℕ → List ℕ → List (List ℕ)
parts sign word = slice_split (λ b. b == sign) word

-- a value before further ones, where all are there
abbrev pub with_first : {A : Type 0} → Option A → Option (List A) → Option (List A)
with_first (Some x) (Some rest) = Some (x ∷ rest)
with_first (Some x) None = None
with_first None rest = None

-- what each of these words is, where each is something
abbrev pub each_of : {A : Type 0} → (List ℕ → Option A) → List (List ℕ) → Option (List A)
each_of read [] = Some []
each_of read (word ∷ rest) = with_first (read word) (each_of read rest)

-- the same, where they are at most so many
abbrev pub few_of : {A : Type 0} → ℕ → (List ℕ → Option A) → List (List ℕ) → Option (List A)
few_of most read words = if nat_le (length words) most then each_of read words else None

-- what the parts of a word are, where they are at most so many and each is something
abbrev pub list_of : {A : Type 0} → ℕ → ℕ → (List ℕ → Option A) → List ℕ → Option (List A)
list_of sign most read word = few_of most read (parts sign word)

-- the parts of a word that may be there
abbrev pub parts_behind : ℕ → Option (List ℕ) → List (List ℕ)
parts_behind sign (Some word) = parts sign word
parts_behind sign None = []
