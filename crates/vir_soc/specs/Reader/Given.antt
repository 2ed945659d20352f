-- What holds of the names that a reader keeps. The format itself does not stand on this.
-- (The program's promises don't stand on this file.)
use Rattle.std.specs.Prelude.{ℕ, suc, ◌≤◌, ◌<◌, List, [], ◌∷◌, length}
use Rattle.vir_profile.specs.SocFiles.{IsNameText}

-- texts of which this holds, by ascending number, each number at least this one
abbrev pub AreGiven : (List ℕ → Type 0) → ℕ → List (ℕ × List ℕ) → Type 0
AreGiven P low [] = Unit {0}
AreGiven P low (e ∷ es) = (low ≤ e.0) × P e.1 × AreGiven P (suc e.0) es

-- a text is empty, or may stand as that of a name
abbrev pub MayBeName : List ℕ → Type 0
MayBeName text = 0 < length text → IsNameText text
