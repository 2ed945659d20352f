-- The statuses that are due of told files, where no count of faults rose.
use Rattle.std.proofs.Common.{◌≡◌, ◌⊎◌, ◌≤◌, ℕ, List, Option, None, Some, Result, Ok, Err, refl, ap, subst, ◌∙◌}
use Rattle.std.proofs.Common.{inl, inr, arith}
use Rattle.vir_cert.specs.Certs.{Cert}
use Rattle.vir_claims.specs.Claims.{check_course}
use Rattle.vir_counting.specs.Counting.{counting_course}
use Rattle.vir_course.specs.Courses.{Course, and_then, gives, go_on}
use Rattle.vir_course.specs.Wordings.{IsWorded, Reply, Wording, denies, prints, verdict_on}
use Rattle.vir_course.specs.declared.stop.Stop.{Stop}
use Rattle.vir_course.specs.declared.stop.Stop.TheVariants as stop
use Rattle.vir_files.specs.Files.{judge, profiles, rules}
use Rattle.vir_files.specs.Readings.{RuleProfile, certificate_at, profile_at, rule_and_profile_of, rule_at}
use Rattle.vir_files.specs.Readings.{rule_profile}
use Rattle.vir_machine.specs.Runs.{Run}
use Rattle.vir_machine.specs.Uses.{first_unserved}
use Rattle.vir_outside.specs.Faults.{Rose}
use Rattle.vir_outside.specs.Shelf.{Files, content_of}
use Rattle.vir_profile.specs.SocFiles.{File}
use Rattle.vir_rules.specs.Claims.{of}
use Rattle.vir_rules.specs.Derivations.{Valid}
use Rattle.vir_term.specs.Text.{leaf_text}
use Rattle.vir_term.specs.declared.leaf.Leaf.{Leaf}
use Rattle.vir_term.specs.declared.leaf.LeafKind.{LeafKind}
use Rattle.vir_term.specs.Tree.{Tree}
use Rattle.vir_top.specs.CommandCourses.{command_course, rule_profile_course}
use Rattle.vir_top.specs.Delivery.{reply_status, stop_status}
use Rattle.vir_top.specs.Printed.{Accepts, FaultCounts, HasInvalidCert, HasValidCert, IsDue}
use Rattle.vir_top.specs.Printed.{IsDueWithoutFault, LacksCounter, SaysProfile, SaysRule, told_contents}
use Rattle.vir_words.specs.declared.command.RuleProfileWork.{RuleProfileWork}
use Rattle.vir_words.specs.Command.{Command, check, on_rule_and_profile}

-- ---- ends of courses
-- a course behind a value ends as the next one
pub then_end : {A B : Type 0} (first : Course A) (next : A → Course B) (a : A) (end : Result B Stop) → first.end ≡ Ok a
    → (next a).end ≡ end → (and_then first next).end ≡ end
then_end {A} first next a end is goes =
    ap (λ (e : Result A Stop). (go_on first.steps e next).end) is ∙ goes

-- and behind a reason to stop there is no more
pub then_stops : {A B : Type 0} (first : Course A) (next : A → Course B) (reason : Stop) → first.end ≡ Err reason
    → (and_then first next).end ≡ Err reason
then_stops {A} first next reason is = ap (λ (e : Result A Stop). (go_on first.steps e next).end) is

counting_end : (unserved : Option Leaf) (runs : List Run) (wording : Wording) → unserved ≡ None
    → (counting_course unserved runs wording).end ≡ Ok wording
counting_end None runs wording is = refl
counting_end (Some leaf) runs wording is = absurd cc

counting_stops : (unserved : Option Leaf) (runs : List Run) (wording : Wording) (lacking : Leaf)
    → unserved ≡ Some lacking → (counting_course unserved runs wording).end ≡ Err (stop.NoCounter (leaf_text lacking))
counting_stops unserved runs wording lacking is =
    ap (λ (o : Option Leaf). (counting_course o runs wording).end) is

-- ---- what is due where no count rose
abbrev pub NoFault : FaultCounts → FaultCounts → Type 0
NoFault before after = Rose before.shelf after.shelf ⊎ Rose before.out after.out → ⊥

-- a wording that has no denial
pub due_of_text : (wording : Wording) (status : ℕ) (before after : FaultCounts)
    → ((told : List ℕ) → IsWorded wording (denies told) → ⊥) → NoFault before after
    → IsDue (Ok wording) status before after → (status ≡ 0) ⊎ (status ≡ 7)
due_of_text wording status before after never none (inr (inl (is, rose))) = absurd (none (inl rose))
due_of_text wording status before after never none (inr (inr (is, rose))) = absurd (none (inr rose))
due_of_text wording status before after never none (inl (inr is)) = inr is
due_of_text wording status before after never none (inl (inl s)) = by s.reply s.worded s.status_is
  where
    by : (reply : Reply) → IsWorded wording reply → status ≡ reply_status reply → (status ≡ 0) ⊎ (status ≡ 7)
    by (prints told) worded is = inl is
    by (denies told) worded is = absurd (never told worded)

due_of_stop : (reason : Stop) (status : ℕ) (before after : FaultCounts) → NoFault before after
    → IsDue (Err reason) status before after → (status ≡ stop_status reason) ⊎ (status ≡ 7)
due_of_stop reason status before after none (inr (is, rose)) = absurd (none (inl rose))
due_of_stop reason status before after none (inl due) = due

-- of a command whose course ends with a reason to stop
pub stop_due : (kinds : List (List LeafKind)) (all : Files) (command : Command) (status : ℕ) (reason : Stop)
    → (command_course kinds command (told_contents all)).end ≡ Err reason → IsDueWithoutFault kinds all command status
    → (status ≡ stop_status reason) ⊎ (status ≡ 7)
stop_due kinds all command status reason is d =
    due_of_stop reason status d.before d.after d.no_fault
    (subst (λ (e : Result Wording Stop). IsDue e status d.before d.after) is d.due)

-- ---- a rule and a profile
module _ (all : Files) (rule profile : List ℕ) where
  abbrev both : Course RuleProfile
  both = rule_and_profile_of (told_contents all) rule profile

  pub both_end : (term : Tree) (file : File) → SaysRule all rule term → SaysProfile all profile file
      → both.end ≡ Ok (rule_profile term file)
  both_end term file is_rule is_profile =
      then_end (rule_at (told_contents all) 0 rule)
      (λ (t : Tree). and_then (profile_at (told_contents all) 1 profile) (λ (f : File). gives (rule_profile t f)))
      term (Ok (rule_profile term file)) is_rule
      (then_end (profile_at (told_contents all) 1 profile) (λ (f : File). gives (rule_profile term f)) file
      (Ok (rule_profile term file)) is_profile refl)

  -- the rule's reading ends with a reason to stop, or the profile's behind it
  pub rule_stops : (reason : Stop) → judge rules (content_of all rule) ≡ Err reason → both.end ≡ Err reason
  rule_stops reason is =
      then_stops (rule_at (told_contents all) 0 rule)
      (λ (t : Tree). and_then (profile_at (told_contents all) 1 profile) (λ (f : File). gives (rule_profile t f)))
      reason is

  pub profile_stops : (term : Tree) (reason : Stop) → SaysRule all rule term
      → judge profiles (content_of all profile) ≡ Err reason → both.end ≡ Err reason
  profile_stops term reason is_rule is =
      then_end (rule_at (told_contents all) 0 rule)
      (λ (t : Tree). and_then (profile_at (told_contents all) 1 profile) (λ (f : File). gives (rule_profile t f)))
      term (Err reason) is_rule
      (then_stops (profile_at (told_contents all) 1 profile) (λ (f : File). gives (rule_profile term f)) reason is)

  module _ (kinds : List (List LeafKind)) (work : RuleProfileWork) (status : ℕ) where
    pub both_stop_due : (reason : Stop) → both.end ≡ Err reason
        → IsDueWithoutFault kinds all (on_rule_and_profile rule profile work) status
        → (status ≡ stop_status reason) ⊎ (status ≡ 7)
    both_stop_due reason is d =
        stop_due kinds all (on_rule_and_profile rule profile work) status reason
        (then_stops both (rule_profile_course kinds work) reason is) d

    pub accepted_due : (a : Accepts kinds all rule profile) (wording : Wording)
        → (rule_profile_course kinds work (rule_profile a.term a.file)).end ≡ Ok wording
        → ((told : List ℕ) → IsWorded wording (denies told) → ⊥)
        → IsDueWithoutFault kinds all (on_rule_and_profile rule profile work) status → (status ≡ 0) ⊎ (status ≡ 7)
    accepted_due a wording ends never d =
        due_of_text wording status d.before d.after never d.no_fault
        (subst (λ (e : Result Wording Stop). IsDue e status d.before d.after)
        (then_end both (rule_profile_course kinds work) (rule_profile a.term a.file) (Ok wording)
        (both_end a.term a.file a.is_rule a.is_profile) ends) d.due)

    pub lacking_due : (l : LacksCounter kinds all rule profile)
        → (rule_profile_course kinds work (rule_profile l.term l.file)).end
        ≡ Err (stop.NoCounter (leaf_text l.unserved))
        → IsDueWithoutFault kinds all (on_rule_and_profile rule profile work) status → (status ≡ 8) ⊎ (status ≡ 7)
    lacking_due l ends d =
        stop_due kinds all (on_rule_and_profile rule profile work) status (stop.NoCounter (leaf_text l.unserved))
        (then_end both (rule_profile_course kinds work) (rule_profile l.term l.file)
        (Err (stop.NoCounter (leaf_text l.unserved))) (both_end l.term l.file l.is_rule l.is_profile) ends) d

pub counting_is : (kinds : List (List LeafKind)) (all : Files) (rule profile : List ℕ)
    (a : Accepts kinds all rule profile) (runs : List Run) (wording : Wording)
    → (counting_course (first_unserved kinds a.term) runs wording).end ≡ Ok wording
counting_is kinds all rule profile a runs wording =
    counting_end (first_unserved kinds a.term) runs wording a.is_served

pub counting_lacks : (kinds : List (List LeafKind)) (all : Files) (rule profile : List ℕ)
    (l : LacksCounter kinds all rule profile) (runs : List Run) (wording : Wording)
    → (counting_course (first_unserved kinds l.term) runs wording).end ≡ Err (stop.NoCounter (leaf_text l.unserved))
counting_lacks kinds all rule profile l runs wording =
    counting_stops (first_unserved kinds l.term) runs wording l.unserved l.is_unserved

-- ---- certificates
abbrev IsValid : Cert → Type 0
IsValid cert = Valid cert.derivation (of cert.prop cert.term)

-- what a status says of a certificate that is read
abbrev IsJudged : Cert → ℕ → Type 0
IsJudged cert status = ((status ≡ 0) × IsValid cert) ⊎ (((status ≡ 1) × (IsValid cert → ⊥)) ⊎ (status ≡ 7))

judged : (cert : Cert) (status : ℕ) (before after : FaultCounts) → NoFault before after
    → IsDue (Ok (verdict_on cert)) status before after → IsJudged cert status
judged cert status before after none (inr (inl (is, rose))) = absurd (none (inl rose))
judged cert status before after none (inr (inr (is, rose))) = absurd (none (inr rose))
judged cert status before after none (inl (inr is)) = inr (inr is)
judged cert status before after none (inl (inl s)) = by s.reply s.worded s.status_is
  where
    by : (reply : Reply) → IsWorded (verdict_on cert) reply → status ≡ reply_status reply → IsJudged cert status
    by (prints told) accepted is = inl (is, accepted.proof.valid)
    by (denies told) refused is = inr (inl (is, refused.not_valid))

-- no reason to stop has status 0 or 1
above_one : (reason : Stop) → stop_status reason ≤ 1 → ⊥
above_one stop.Usage e = omega arith
above_one stop.ReadFault e = omega arith
above_one (stop.TextRefused fault) e = omega arith
above_one (stop.ProfileRefused fault) e = omega arith
above_one stop.WriteFault e = omega arith
above_one stop.Memory e = omega arith
above_one (stop.NoCounter text) e = omega arith

module _ (kinds : List (List LeafKind)) (all : Files) (name : List ℕ) where
  abbrev reading : Course Cert
  reading = certificate_at (told_contents all) 0 name

  read_due : (status : ℕ) (cert : Cert) → reading.end ≡ Ok cert → (d : IsDueWithoutFault kinds all (check name) status)
      → IsDue (Ok (verdict_on cert)) status d.before d.after
  read_due status cert is d =
      subst (λ (e : Result Wording Stop). IsDue e status d.before d.after)
      (then_end reading check_course cert (Ok (verdict_on cert)) is refl) d.due

  pub valid_due : (status : ℕ) → HasValidCert all name → IsDueWithoutFault kinds all (check name) status
      → (status ≡ 0) ⊎ (status ≡ 7)
  valid_due status has d = by (judged has.cert status d.before d.after d.no_fault (read_due status has.cert has.is_cert
      d))
    where
      by : IsJudged has.cert status → (status ≡ 0) ⊎ (status ≡ 7)
      by (inl (is, valid)) = inl is
      by (inr (inl (is, never))) = absurd (never has.valid)
      by (inr (inr is)) = inr is

  pub invalid_due : (status : ℕ) → HasInvalidCert all name → IsDueWithoutFault kinds all (check name) status
      → (status ≡ 1) ⊎ (status ≡ 7)
  invalid_due status has d = by (judged has.cert status d.before d.after d.no_fault (read_due status has.cert
      has.is_cert d))
    where
      by : IsJudged has.cert status → (status ≡ 1) ⊎ (status ≡ 7)
      by (inl (is, valid)) = absurd (has.not_valid valid)
      by (inr (inl (is, never))) = inl is
      by (inr (inr is)) = inr is

  -- with status 0 or 1 a certificate is read
  read_at : (status : ℕ) → status ≤ 1 → IsDueWithoutFault kinds all (check name) status
      → (cert : Cert) × (reading.end ≡ Ok cert)
  read_at status low d = by reading.end refl
    where
      by : (end : Result Cert Stop) → reading.end ≡ end → (cert : Cert) × (reading.end ≡ Ok cert)
      by (Ok cert) is = (cert, is)
      by (Err reason) is = absurd (stopped (stop_due kinds all (check name) status reason
          (then_stops reading check_course reason is) d))
        where
          stopped : (status ≡ stop_status reason) ⊎ (status ≡ 7) → ⊥
          stopped (inl e) = above_one reason (subst (λ (n : ℕ). n ≤ 1) e low)
          stopped (inr e) = omega arith

  pub only_valid : IsDueWithoutFault kinds all (check name) 0 → HasValidCert all name
  only_valid d =
      let r = read_at 0 (omega arith) d in
      by r.0 r.1 (judged r.0 0 d.before d.after d.no_fault (read_due 0 r.0 r.1 d))
    where
      by : (cert : Cert) → reading.end ≡ Ok cert → IsJudged cert 0 → HasValidCert all name
      by cert is (inl (e, valid)) = record { cert = cert; is_cert = is; valid = valid }
      by cert is (inr (inl (e, never))) = absurd (omega arith)
      by cert is (inr (inr e)) = absurd (omega arith)

  pub only_invalid : IsDueWithoutFault kinds all (check name) 1 → HasInvalidCert all name
  only_invalid d =
      let r = read_at 1 (omega arith) d in
      by r.0 r.1 (judged r.0 1 d.before d.after d.no_fault (read_due 1 r.0 r.1 d))
    where
      by : (cert : Cert) → reading.end ≡ Ok cert → IsJudged cert 1 → HasInvalidCert all name
      by cert is (inl (e, valid)) = absurd (omega arith)
      by cert is (inr (inl (e, never))) = record { cert = cert; is_cert = is; not_valid = never }
      by cert is (inr (inr e)) = absurd (omega arith)
