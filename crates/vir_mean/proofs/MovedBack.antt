-- An alternative that moves back may lose score: 1 does where the one order 1, 2 becomes 2, 1.
use Rattle.std.proofs.Common.{◌≡◌, ℕ, true, List, [], ◌∷◌, ◌≤ℤ◌, refl, arith}
use Rattle.std.specs.FinSet as set
use Rattle.vir_altset.specs.SetLaws.{contains-all}
use Rattle.vir_altset.specs.Sets.{Set}
use Rattle.vir_profile.specs.declared.ballot.Entry.{Entry}
use Rattle.vir_profile.specs.Profiles.{IsProfileOn}
use Rattle.vir_term.specs.declared.score.Score.{Score}
use Rattle.vir_term.specs.declared.score.Score.TheVariants.{Plurality}
use Rattle.vir_mean.specs.Lifts.{SameBut}
use Rattle.vir_mean.specs.Scores.{score}
use Rattle.vir_mean.proofs.SmallElections.{line, election, one_two, two, two_one}

abbrev first_one : List Entry
first_one = line 1 (1 ∷ 2 ∷ []) ∷ []

abbrev first_two : List Entry
first_two = line 1 (2 ∷ 1 ∷ []) ∷ []

-- so no such law holds of all profiles that differ only in where one alternative stands
pub moved_back : ((a : Set) (p q : List Entry) (x : ℕ)
    → IsProfileOn a p → IsProfileOn a q → set.contains a x ≡ true → SameBut x p q
    → (s : Score) → score s a p x ≤ℤ score s a q x) → ⊥
moved_back never_falls =
    let falls : score Plurality two first_one 1 ≤ℤ score Plurality two first_two 1
    = never_falls two first_one first_two 1 (election 2 first_one (one_two, tt)).lists
    (election 2 first_two (two_one, tt)).lists (contains-all 2 1) (record { weight = refl; others = refl }, tt)
    Plurality in
    omega arith
