-- The statuses that are due of a rule and two profiles, where no count of faults rose.
use Rattle.std.proofs.Common.{◌≡◌, ◌⊎◌, ℕ, List, Result, Ok, Err, refl, subst, inl, inr}
use Rattle.vir_course.specs.Courses.{Course, gives, and_then}
use Rattle.vir_course.specs.Wordings.{IsWorded, Reply, Wording, case_against, denies, prints}
use Rattle.vir_course.specs.declared.stop.Stop.{Stop}
use Rattle.vir_files.specs.Files.{judge, profiles}
use Rattle.vir_files.specs.Readings.{RuleProfile, RuleTwoProfiles, profile_at, rule_and_profile_of}
use Rattle.vir_files.specs.Readings.{rule_and_two_profiles_of, rule_profile, rule_two_profiles}
use Rattle.vir_mean.specs.Meaning.{mean}
use Rattle.vir_mean.specs.Modules.{Meaning}
use Rattle.vir_outside.specs.Shelf.{Files, content_of}
use Rattle.vir_profile.specs.SocFiles.{File}
use Rattle.vir_refute.specs.Cases.{Case, pair}
use Rattle.vir_refute.specs.Judged.{IsVerdict, election_of}
use Rattle.vir_refute.specs.Violations.{Violates}
use Rattle.vir_refute.specs.declared.verdict.CaseVerdict.TheVariants.{NotViolated}
use Rattle.vir_refute.specs.declared.verdict.Reason.{Reason}
use Rattle.vir_refute.specs.declared.verdict.Reason.TheVariants.{ClauseHolds, NotALift, PremiseNotMet}
use Rattle.vir_term.specs.declared.leaf.LeafKind.{LeafKind}
use Rattle.vir_term.specs.declared.prop.Prop.{Prop}
use Rattle.vir_term.specs.Tree.{Tree}
use Rattle.vir_top.proofs.DueLemmas.{NoFault, both_end, stop_due, then_end, then_stops}
use Rattle.vir_top.specs.CommandCourses.{pair_course}
use Rattle.vir_top.specs.Delivery.{reply_status, stop_status}
use Rattle.vir_top.specs.Printed.{FaultCounts, IsDue, IsDueWithoutFault, SaysProfile, SaysRule, told_contents}
use Rattle.vir_words.specs.Command.{refute_pair}

-- a case that isn't violated doesn't violate
not_violated : (reason : Reason) (prop : Prop) (m : Meaning) (c : Case) → IsVerdict (NotViolated reason) prop m c
    → Violates prop m c → ⊥
not_violated NotALift prop m c never v = never v.one_or_lift
not_violated PremiseNotMet prop m c is v = is.1 v.premise
not_violated ClauseHolds prop m c is v = v.conclusion_false is.2

-- what a status says of a case
abbrev IsJudgedCase : Prop → Meaning → Case → ℕ → Type 0
IsJudgedCase prop m c status =
    ((status ≡ 0) × Violates prop m c) ⊎ (((status ≡ 1) × (Violates prop m c → ⊥)) ⊎ (status ≡ 7))

judged_case : (term : Tree) (prop : Prop) (c : Case) (status : ℕ) (before after : FaultCounts) → NoFault before after
    → IsDue (Ok (case_against term prop c)) status before after → IsJudgedCase prop (mean term) c status
judged_case term prop c status before after none (inr (inl (is, rose))) = absurd (none (inl rose))
judged_case term prop c status before after none (inr (inr (is, rose))) = absurd (none (inr rose))
judged_case term prop c status before after none (inl (inr is)) = inr (inr is)
judged_case term prop c status before after none (inl (inl s)) = by s.reply s.worded s.status_is
  where
    by : (reply : Reply) → IsWorded (case_against term prop c) reply → status ≡ reply_status reply
        → IsJudgedCase prop (mean term) c status
    by (prints told) violation is = inl (is, violation.violates)
    by (denies told) none is = inr (inl (is, not_violated none.reason prop (mean term) c none.verdict))

module _ (all : Files) (rule first second : List ℕ) where
  abbrev one : Course RuleProfile
  one = rule_and_profile_of (told_contents all) rule first

  abbrev more : RuleProfile → Course RuleTwoProfiles
  more both = and_then (profile_at (told_contents all) 2 second) (λ (f : File). gives (rule_two_profiles both f))

  abbrev two : Course RuleTwoProfiles
  two = rule_and_two_profiles_of (told_contents all) rule first second

  two_end : (term : Tree) (file other : File) → SaysRule all rule term → SaysProfile all first file
      → SaysProfile all second other → two.end ≡ Ok (rule_two_profiles (rule_profile term file) other)
  two_end term file other is_rule is_first is_second =
      then_end one more (rule_profile term file) (Ok (rule_two_profiles (rule_profile term file) other))
      (both_end all rule first term file is_rule is_first)
      (then_end (profile_at (told_contents all) 2 second)
      (λ (f : File). gives (rule_two_profiles (rule_profile term file) f)) other
      (Ok (rule_two_profiles (rule_profile term file) other)) is_second refl)

  module _ (kinds : List (List LeafKind)) (prop : Prop) (lifted status : ℕ)
      (due : IsDueWithoutFault kinds all (refute_pair rule prop first second lifted) status) where
    -- the reading of the rule and the first profile ends with a reason to stop, or that of the second one
    pub pair_stop_due : (reason : Stop) → one.end ≡ Err reason → (status ≡ stop_status reason) ⊎ (status ≡ 7)
    pair_stop_due reason is =
        stop_due kinds all (refute_pair rule prop first second lifted) status reason
        (then_stops two (pair_course prop lifted) reason (then_stops one more reason is)) due

    pub second_stop_due : (term : Tree) (file : File) (reason : Stop) → SaysRule all rule term
        → SaysProfile all first file → judge profiles (content_of all second) ≡ Err reason
        → (status ≡ stop_status reason) ⊎ (status ≡ 7)
    second_stop_due term file reason is_rule is_first is =
        stop_due kinds all (refute_pair rule prop first second lifted) status reason
        (then_stops two (pair_course prop lifted) reason
        (then_end one more (rule_profile term file) (Err reason) (both_end all rule first term file is_rule is_first)
        (then_stops (profile_at (told_contents all) 2 second)
        (λ (f : File). gives (rule_two_profiles (rule_profile term file) f)) reason is))) due

    -- all are accepted
    module _ (term : Tree) (file other : File) (is_rule : SaysRule all rule term)
        (is_first : SaysProfile all first file) (is_second : SaysProfile all second other) where
      abbrev case : Case
      case = pair (election_of file.profile) (election_of other.profile) lifted

      judged : IsJudgedCase prop (mean term) case status
      judged =
          judged_case term prop case status due.before due.after due.no_fault
          (subst (λ (e : Result Wording Stop). IsDue e status due.before due.after)
          (then_end two (pair_course prop lifted) (rule_two_profiles (rule_profile term file) other)
          (Ok (case_against term prop case)) (two_end term file other is_rule is_first is_second) refl) due.due)

      pub violated_due : Violates prop (mean term) case → (status ≡ 0) ⊎ (status ≡ 7)
      violated_due violates = by judged
        where
          by : IsJudgedCase prop (mean term) case status → (status ≡ 0) ⊎ (status ≡ 7)
          by (inl (is, so)) = inl is
          by (inr (inl (is, never))) = absurd (never violates)
          by (inr (inr is)) = inr is

      pub unviolated_due : (Violates prop (mean term) case → ⊥) → (status ≡ 1) ⊎ (status ≡ 7)
      unviolated_due never = by judged
        where
          by : IsJudgedCase prop (mean term) case status → (status ≡ 1) ⊎ (status ≡ 7)
          by (inl (is, so)) = absurd (never so)
          by (inr (inl (is, so))) = inl is
          by (inr (inr is)) = inr is
