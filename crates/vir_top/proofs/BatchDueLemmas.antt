-- The statuses that are due of a batch, where no count of faults rose.
use Rattle.std.proofs.Common.{◌≡◌, ◌⊎◌, ℕ, ◌+◌, List, [], ◌∷◌, ◌++◌, Option, None, Some, Result, Ok, Err, refl, ap, ◌∙◌}
use Rattle.std.proofs.Common.{IsSome, subst}
use Rattle.vir_batch.specs.BatchTexts.{Said, batch_text}
use Rattle.vir_batch.specs.Batches.{all_counted, batch_course, batch_unless, count_said, manifest_at, profile_counted}
use Rattle.vir_batch.specs.Batches.{served_course}
use Rattle.vir_batch.specs.Kinds.{manifests, profiles_or_faults}
use Rattle.vir_course.specs.Courses.{Course, and_then, gives}
use Rattle.vir_course.specs.Wordings.{Wording, exactly}
use Rattle.vir_course.specs.declared.stop.Stop.{Stop}
use Rattle.vir_course.specs.declared.stop.Stop.TheVariants as stop
use Rattle.vir_files.specs.Files.{judge, read_as, rules}
use Rattle.vir_files.specs.Readings.{rule_at}
use Rattle.vir_machine.specs.Uses.{first_unserved}
use Rattle.vir_outside.specs.Shelf.{Files, content_of}
use Rattle.vir_profile.specs.SocFiles.{File}
use Rattle.vir_soc.specs.Soc.{soc}
use Rattle.vir_soc.specs.declared.fault.SocFault.{SocFault}
use Rattle.vir_term.specs.Text.{leaf_text}
use Rattle.vir_term.specs.declared.leaf.Leaf.{Leaf}
use Rattle.vir_term.specs.declared.leaf.LeafKind.{LeafKind}
use Rattle.vir_term.specs.Tree.{Tree}
use Rattle.vir_top.proofs.DueLemmas.{due_of_text, stop_due, then_end, then_stops}
use Rattle.vir_top.specs.Delivery.{stop_status}
use Rattle.vir_top.specs.Printed.{AreThere, IsDue, IsDueWithoutFault, IsMissing, SaysManifest, SaysRule, told_contents}
use Rattle.vir_words.specs.Command.{batch}

module _ (all : Files) where
  -- ---- the profiles
  -- one that is there is counted
  counted_end : (place : ℕ) (term : Tree) (name : List ℕ) (content : Option (List ℕ)) → content_of all name ≡ content
      → IsSome content → (said : Said) × ((profile_counted (told_contents all) place term name).end ≡ Ok said)
  counted_end place term name None is some = absurd (let never = some in cc)
  counted_end place term name (Some bytes) is some = (
    record { name = name; says = soc bytes },
    then_end (read_as profiles_or_faults name (content_of all name)) (count_said term name) (soc bytes)
        (Ok (record { name = name; says = soc bytes }))
        (ap (λ (c : Option (List ℕ)). judge profiles_or_faults c) is) refl,
  )

  abbrev rest_of : ℕ → Tree → List (List ℕ) → Said → Course (List Said)
  rest_of place term names said =
      and_then (all_counted (told_contents all) (place + 1) term names) (λ (more : List Said). gives (said ∷ more))

  all_end : (place : ℕ) (term : Tree) (names : List (List ℕ)) → AreThere all names
      → (said : List Said) × ((all_counted (told_contents all) place term names).end ≡ Ok said)
  all_end place term [] there = ([], refl)
  all_end place term (name ∷ names) there =
      let one = counted_end place term name (content_of all name) refl there.0 in
      let more = all_end (place + 1) term names there.1 in (
        one.0 ∷ more.0,
        then_end (profile_counted (told_contents all) place term name) (rest_of place term names) one.0
            (Ok (one.0 ∷ more.0)) one.1
            (then_end (all_counted (told_contents all) (place + 1) term names)
            (λ (ms : List Said). gives (one.0 ∷ ms)) more.0 (Ok (one.0 ∷ more.0)) more.1 refl),
      )

  -- the first that isn't there stops them
  all_stop : (place : ℕ) (term : Tree) (before : List (List ℕ)) (name : List ℕ) (behind : List (List ℕ))
      → AreThere all before → IsMissing all name
      → (all_counted (told_contents all) place term (before ++ name ∷ behind)).end ≡ Err stop.ReadFault
  all_stop place term [] name behind there none =
      then_stops (profile_counted (told_contents all) place term name) (rest_of place term behind) stop.ReadFault
      (then_stops (read_as profiles_or_faults name (content_of all name)) (count_said term name) stop.ReadFault
      (ap (λ (c : Option (List ℕ)). judge profiles_or_faults c) none))
  all_stop place term (first ∷ before) name behind there none =
      let one = counted_end place term first (content_of all first) refl there.0 in
      then_end (profile_counted (told_contents all) place term first)
      (rest_of place term (before ++ name ∷ behind)) one.0 (Err stop.ReadFault) one.1
      (then_stops (all_counted (told_contents all) (place + 1) term (before ++ name ∷ behind))
      (λ (ms : List Said). gives (one.0 ∷ ms)) stop.ReadFault
      (all_stop (place + 1) term before name behind there.1 none))

  -- ---- the whole
  module _ (kinds : List (List LeafKind)) (rule manifest : List ℕ) (status : ℕ)
      (due : IsDueWithoutFault kinds all (batch rule manifest) status) where
    abbrev from_rule : Tree → Course Wording
    from_rule term =
        and_then (manifest_at (told_contents all) 1 manifest)
        (λ (names : List (List ℕ)). batch_course kinds (told_contents all) term names)

    pub batch_rule_due : (reason : Stop) → judge rules (content_of all rule) ≡ Err reason
        → (status ≡ stop_status reason) ⊎ (status ≡ 7)
    batch_rule_due reason is =
        stop_due kinds all (batch rule manifest) status reason
        (then_stops (rule_at (told_contents all) 0 rule) from_rule reason is) due

    module _ (term : Tree) (is_rule : SaysRule all rule term) where
      pub manifest_due : (reason : Stop) → judge manifests (content_of all manifest) ≡ Err reason
          → (status ≡ stop_status reason) ⊎ (status ≡ 7)
      manifest_due reason is =
          stop_due kinds all (batch rule manifest) status reason
          (then_end (rule_at (told_contents all) 0 rule) from_rule term (Err reason) is_rule
          (then_stops (manifest_at (told_contents all) 1 manifest)
          (λ (names : List (List ℕ)). batch_course kinds (told_contents all) term names) reason is)) due

      module _ (names : List (List ℕ)) (is_manifest : SaysManifest all manifest names) where
        -- how the whole ends, by how the profiles do
        ends : (o : Option Leaf) (end : Result Wording Stop) → first_unserved kinds term ≡ o
            → (batch_unless o (told_contents all) term names).end ≡ end
            → (and_then (rule_at (told_contents all) 0 rule) from_rule).end ≡ end
        ends o end is goes =
            then_end (rule_at (told_contents all) 0 rule) from_rule term end is_rule
            (then_end (manifest_at (told_contents all) 1 manifest)
            (λ (ns : List (List ℕ)). batch_course kinds (told_contents all) term ns) names end is_manifest
            (ap (λ (u : Option Leaf). (batch_unless u (told_contents all) term names).end) is ∙ goes))

        abbrev text_of : List Said → Course Wording
        text_of said = gives (exactly (batch_text term said))

        pub batch_unserved_due : (leaf : Leaf) → first_unserved kinds term ≡ Some leaf → (status ≡ 8) ⊎ (status ≡ 7)
        batch_unserved_due leaf is =
            stop_due kinds all (batch rule manifest) status (stop.NoCounter (leaf_text leaf))
            (ends (Some leaf) (Err (stop.NoCounter (leaf_text leaf))) is refl) due

        module _ (served : first_unserved kinds term ≡ None) where
          pub batch_due : AreThere all names → (status ≡ 0) ⊎ (status ≡ 7)
          batch_due there =
              let said = all_end 2 term names there in
              due_of_text (exactly (batch_text term said.0)) status due.before due.after (λ told never. never)
              due.no_fault
              (subst (λ (e : Result Wording Stop). IsDue e status due.before due.after)
              (ends None (Ok (exactly (batch_text term said.0))) served
              (then_end (all_counted (told_contents all) 2 term names) text_of said.0
              (Ok (exactly (batch_text term said.0))) said.1 refl)) due.due)

          pub batch_missing_due : (before : List (List ℕ)) (name : List ℕ) (behind : List (List ℕ))
              → names ≡ before ++ name ∷ behind → AreThere all before → IsMissing all name
              → (status ≡ 5) ⊎ (status ≡ 7)
          batch_missing_due before name behind parts there none =
              stop_due kinds all (batch rule manifest) status stop.ReadFault
              (ends None (Err stop.ReadFault) served
              (then_stops (all_counted (told_contents all) 2 term names) text_of stop.ReadFault
              (ap (λ (ns : List (List ℕ)). (all_counted (told_contents all) 2 term ns).end) parts
              ∙ all_stop 2 term before name behind there none))) due
