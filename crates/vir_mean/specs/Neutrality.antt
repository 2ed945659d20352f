-- Alternatives under other names.
use Rattle.std.specs.Prelude.{◌≡◌, ℕ, ◌≤◌, true, List, map}
use Rattle.std.specs.FinSet as set
use Rattle.vir_altset.specs.Sets.{Set}
use Rattle.vir_altset.specs.declared.split.Split.{Split}
use Rattle.vir_profile.specs.declared.ballot.Entry.{Entry}
use Rattle.vir_profile.specs.Elections.{IsElection}
use Rattle.vir_mean.specs.Modules.{Meaning}

-- f gives each member of the set a number from 1 on, and no two members the same.
pub record IsRenaming (f : ℕ → ℕ) (a : Set) : Type 0 where
  pub positive : (x : ℕ) → set.contains a x ≡ true → 1 ≤ f x
  pub one_to_one : (x y : ℕ) → set.contains a x ≡ true → set.contains a y ≡ true → f x ≡ f y → x ≡ y

-- the set of what f gives its members
abbrev pub renamed_set : (ℕ → ℕ) → Set → Set
renamed_set f a = set.from_list (map f (set.items a))

-- the line with f of each member of its order
abbrev pub renamed_line : (ℕ → ℕ) → Entry → Entry
renamed_line f line = record { weight = line.weight; order = map f line.order }

-- the profile with f of each member of each order
abbrev pub renamed_lines : (ℕ → ℕ) → List Entry → List Entry
renamed_lines f lines = map (renamed_line f) lines

-- the split with f of each of its sets
abbrev pub renamed_split : (ℕ → ℕ) → Split → Split
renamed_split f s = record {
  elected = renamed_set f s.elected;
  rejected = renamed_set f s.rejected;
  deferred = renamed_set f s.deferred;
}

-- Names make no difference: where a set and a profile on it are renamed, the split is the renamed split.
abbrev pub IsNeutral : Meaning → Type 0
IsNeutral m = (a : Set) (p : List Entry) (f : ℕ → ℕ) → IsElection a p → IsRenaming f a
    → m (renamed_set f a) (renamed_lines f p) ≡ renamed_split f (m a p)
