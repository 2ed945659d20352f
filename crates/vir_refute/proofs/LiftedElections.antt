-- Which profiles are lifts.
use Rattle.std.proofs.Common.{◌≡◌, ℕ, suc, ◌≤◌, List, [], ◌∷◌, length, refl, ap}
use Rattle.vir_altset.specs.Sets.{all}
use Rattle.vir_profile.specs.declared.ballot.Entry.{Entry}
use Rattle.vir_profile.specs.Profiles.{Votes}
use Rattle.vir_mean.specs.Lifts.{LineByLine, Lifts}
use Rattle.vir_refute.specs.Cases.{IsLift}
use Rattle.vir_refute.specs.Judged.{election_of}
use Rattle.vir_refute.proofs.AllMembers.{member_of_all, within_all, all_same}

-- two profiles that are related line by line have as many lines
pub length-related : (Related : Entry → Entry → Type 0) (p q : List Entry) → LineByLine Related p q → length p
    ≡ length q
length-related Related [] [] related = refl
length-related Related (before ∷ p) (after ∷ q) related = ap suc (length-related Related p q related.1)
length-related Related [] (after ∷ q) related = absurd related
length-related Related (before ∷ p) [] related = absurd related

-- what is asked before the lines are looked at
abbrev MayBeLifted : Votes → Votes → ℕ → Type 0
MayBeLifted v w x = (v.alternatives ≡ w.alternatives) × (1 ≤ x) × (x ≤ v.alternatives)

pub lift_by_lines : (v w : Votes) (x : ℕ) → MayBeLifted v w x → Lifts x v.lines w.lines
    → IsLift (election_of v) (election_of w) x
lift_by_lines v w x may lifts = record {
  same = ap all may.0;
  member = member_of_all v.alternatives x may.1 may.2;
  lifted = lifts;
}

pub may_be_lifted : (v w : Votes) (x : ℕ) → IsLift (election_of v) (election_of w) x → MayBeLifted v w x
may_be_lifted v w x lift =
    let within = within_all v.alternatives x lift.member in
    (all_same v.alternatives w.alternatives lift.same, within.0, within.1)
