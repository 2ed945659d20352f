-- The alternatives of a profile as the code holds it: the numbers from 1 on.
use Rattle.std.proofs.Common.{◌≡◌, ◌≢◌, ℕ, ◌<◌, ◌≤◌, true, nat_lt, nat_le, ◌&&◌, sym, ap, ◌∙◌, arith}
use Rattle.std.proofs.lemmas.Bool.Decides.{nat_tests}
use Rattle.std.specs.FinSet as set
use Rattle.vir_altset.specs.Sets.{all}
use Rattle.vir_altset.specs.SetLaws.{contains-all}
use Rattle.vir_altset.proofs.SizeLaws.{len-all, empty_of_len, len_of_empty}
use Rattle.vir_profile.specs.Elections.{IsElection}
use Rattle.vir_profile.specs.Profiles.{Votes, IsProfile}
use Rattle.vir_profile.proofs.RestrictionLaws.{profiles_are_complete}
use Rattle.vir_refute.proofs.Stability.{of_numbers}

-- the members of the set of all alternatives
pub member_of_all : (m x : ℕ) → 1 ≤ x → x ≤ m → set.contains (all m) x ≡ true
member_of_all m x low high = contains-all m x ∙ inside m x low high
  where
    inside : (m x : ℕ) → 1 ≤ x → x ≤ m → (nat_lt 0 x && nat_le x m) ≡ true
    inside m x low high = grind (arith, nat_tests)

pub within_all : (m x : ℕ) → set.contains (all m) x ≡ true → (1 ≤ x) × (x ≤ m)
within_all m x member = (low m x (sym (contains-all m x) ∙ member), high m x (sym (contains-all m x) ∙ member))
  where
    low : (m x : ℕ) → (nat_lt 0 x && nat_le x m) ≡ true → 1 ≤ x
    low m x test = grind (arith, nat_tests)

    high : (m x : ℕ) → (nat_lt 0 x && nat_le x m) ≡ true → x ≤ m
    high m x test = grind (arith, nat_tests)

-- of different numbers the sets differ
pub all_same : (m n : ℕ) → all m ≡ all n → m ≡ n
all_same m n same = sym (len-all m) ∙ ap set.len same ∙ len-all n

pub count_of_all : (m : ℕ) → set.len (all m) ≡ m
count_of_all m = len-all m

-- there are some where the number isn't 0
pub some_of_all : (m : ℕ) → 0 < m → all m ≢ set.empty
some_of_all m some none = let size = len-all m in let zero = len_of_empty (all m) none in absurd (omega arith)

pub none_of_all : (m : ℕ) → all m ≢ set.empty → 0 < m
none_of_all m some = of_numbers m 0 (λ zero. absurd (some (empty_of_len (all m) (len-all m ∙ zero)))) positive
  where
    positive : m ≢ 0 → 0 < m
    positive other = grind arith

-- how many they are
pub ruleset sizes_of_all = (count_of_all, some_of_all, none_of_all)

-- they and the lines are an election
pub profile_election : (votes : Votes) → IsProfile votes → IsElection (all votes.alternatives) votes.lines
profile_election votes is = record {
  positive = contains-all votes.alternatives 0;
  lists = profiles_are_complete votes is;
}
