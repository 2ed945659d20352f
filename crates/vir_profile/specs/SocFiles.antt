-- A profile with names of its alternatives.
use Rattle.std.specs.Prelude.{◌≡◌, ℕ, ◌<◌, ◌≤◌, ◌||◌, Bool, false, List, [], ◌∷◌, length, Option, nat_eq}
use Rattle.std.specs.List.{find, list_any, prefix_len, suffix_len}
use Rattle.std.specs.Option.{option_map}
use Rattle.vir_profile.specs.Profiles.{Votes}
use Rattle.vir_profile.specs.declared.soc_file.Name.{Name}

-- a space, a tab or a carriage return
abbrev pub is_blank : ℕ → Bool
is_blank c = nat_eq c 32 || (nat_eq c 9 || nat_eq c 13)

-- a line feed
abbrev pub is_line_feed : ℕ → Bool
is_line_feed c = nat_eq c 10

-- what may stand as the text of a name: some bytes on one line, with no blank at either end
pub record IsNameText (text : List ℕ) : Type 0 where
  pub some : 0 < length text
  pub one_line : list_any is_line_feed text ≡ false
  pub front : prefix_len is_blank text ≡ 0
  pub back : suffix_len is_blank text ≡ 0

-- names by ascending number, each above `low` and at most m
abbrev pub AreNamesAbove : ℕ → ℕ → List Name → Type 0
AreNamesAbove low m [] = Unit {0}
AreNamesAbove low m (n ∷ ns) = (low < n.number) × (n.number ≤ m) × IsNameText n.text × AreNamesAbove n.number m ns

-- names of alternatives from 1 to m, by ascending number
abbrev pub AreNames : ℕ → List Name → Type 0
AreNames m names = AreNamesAbove 0 m names

-- the text of the name of x, if one is given
abbrev pub name_of : ℕ → List Name → Option (List ℕ)
name_of x names = option_map (λ n. n.text) (find (λ n. nat_eq n.number x) names)

-- a profile, and names of its alternatives
pub record File : Type 0 where
  pub profile : Votes
  pub names : List Name
