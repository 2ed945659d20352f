-- A bench that serves every module is never told to lack a counter, whatever the shelf tells.
use Rattle.std.proofs.Common.{Bool, IsTrue}
use Rattle.std.proofs.Common.{◌≡◌, ◌⊎◌, ℕ, ◌+◌, List, [], ◌∷◌, Option, None, Some, Result, Ok, Err, refl, ap, ◌∙◌}
use Rattle.std.proofs.Common.{inl, inr, sym, subst, arith}
use Rattle.vir_batch.specs.Batches.{all_counted, batch_course, batch_unless, count_said, manifest_at, profile_counted}
use Rattle.vir_batch.specs.Batches.{run_for}
use Rattle.vir_batch.specs.BatchTexts.{Said, batch_text}
use Rattle.vir_batch.specs.Kinds.{manifests, profiles_or_faults}
use Rattle.vir_claims.specs.Claims.{check_course}
use Rattle.vir_counting.specs.Counting.{counting_course}
use Rattle.vir_counting.specs.DrillResults.{drill_terms, first_unserved_of}
use Rattle.vir_course.specs.Courses.{Course, Follows, and_then, behind, gives, go_on}
use Rattle.vir_course.specs.Steps.{Step}
use Rattle.vir_machine.specs.Runs.{BenchView, Run, served_by}
use Rattle.vir_course.specs.Wordings.{Tells, Wording, exactly}
use Rattle.vir_course.specs.declared.answer.Answer.{Answer}
use Rattle.vir_course.specs.declared.answer.Answer.TheVariants as answer
use Rattle.vir_course.specs.declared.stop.Stop.{Stop}
use Rattle.vir_course.specs.declared.stop.Stop.TheVariants as stop
use Rattle.vir_files.specs.Contents.{Contents}
use Rattle.vir_files.specs.Files.{Kind, accept, certificates, profiles, read_as, rules}
use Rattle.vir_files.specs.Readings.{RuleProfile, certificate_at, profile_at, rule_and_profile_of}
use Rattle.vir_files.specs.Readings.{rule_and_two_profiles_of, rule_at, rule_profile, rule_two_profiles}
use Rattle.vir_machine.specs.Uses.{first_unserved, or_else}
use Rattle.vir_files.specs.Performs.{RoseAtLast}
use Rattle.vir_outside.specs.Shelf.{ShelfView}
use Rattle.vir_outside.specs.Sink.{SinkView}
use Rattle.vir_profile.specs.SocFiles.{File}
use Rattle.vir_term.specs.declared.leaf.Leaf.{Leaf}
use Rattle.vir_term.specs.declared.leaf.LeafKind.{LeafKind}
use Rattle.vir_term.specs.Tree.{Tree}
use Rattle.vir_top.specs.Calls.{AnswersWords, Calls}
use Rattle.vir_words.specs.Command.{Command, batch, check, drill, on_profile, on_rule, on_rule_and_profile, refute_pair}
use Rattle.vir_words.specs.Command.{synth}
use Rattle.vir_words.specs.declared.command.ProfileWork.{ProfileWork}
use Rattle.vir_words.specs.declared.command.ProfileWork.TheVariants.{Pairs, Position}
use Rattle.vir_words.specs.declared.command.RuleProfileWork.{RuleProfileWork}
use Rattle.vir_words.specs.declared.command.RuleProfileWork.TheVariants.{Count, Explain, Refute, Report}
use Rattle.vir_words.specs.declared.command.RuleWork.{RuleWork}
use Rattle.vir_words.specs.declared.command.RuleWork.TheVariants.{Listing, Prove, Simplify}
use Rattle.vir_top.specs.CommandCourses.{command_course, pair_course, profile_course, rule_course}
use Rattle.vir_top.specs.CommandCourses.{rule_profile_course}
use Rattle.vir_top.specs.Delivery.{Delivers}

-- ---- courses
-- A course doesn't end for a missing counter.
abbrev NeverLacks : {A : Type 0} → Course A → Type 0
NeverLacks course = (text : List ℕ) → course.end ≡ Err (stop.NoCounter text) → ⊥

then_never : {A B : Type 0} (first : Course A) (next : A → Course B) → NeverLacks first
    → ((a : A) → NeverLacks (next a)) → NeverLacks (and_then first next)
then_never {A} {B} first next first_never next_never text is = by first.end refl is
  where
    by : (e : Result A Stop) → first.end ≡ e → (go_on first.steps e next).end ≡ Err (stop.NoCounter text) → ⊥
    by (Ok a) same goes = next_never a text goes
    by (Err reason) same goes =
        let reason_is : reason ≡ stop.NoCounter text = cc in first_never text (same ∙ ap Err reason_is)

gives_never : {A : Type 0} (a : A) → NeverLacks (gives a)
gives_never a text is = absurd cc

-- a file that is read
read_never : {A F : Type 0} (kind : Kind A F) → ((fault : F) (text : List ℕ) → kind.refused fault ≡ stop.NoCounter text
    → ⊥)
    → (name : List ℕ) (content : Option (List ℕ)) → NeverLacks (read_as kind name content)
read_never kind other name None text is = absurd cc
read_never {A} {F} kind other name (Some bytes) text is = by (kind.says bytes) is
  where
    by : (r : Result A F) → accept kind.refused r ≡ Err (stop.NoCounter text) → ⊥
    by (Ok value) e = absurd cc
    by (Err fault) e = other fault text (let same : kind.refused fault ≡ stop.NoCounter text = cc in same)

rule_never : (contents : Contents) (place : ℕ) (name : List ℕ) → NeverLacks (rule_at contents place name)
rule_never contents place name = read_never rules (λ fault text is. absurd cc) name (contents place name)

profile_never : (contents : Contents) (place : ℕ) (name : List ℕ) → NeverLacks (profile_at contents place name)
profile_never contents place name = read_never profiles (λ fault text is. absurd cc) name (contents place name)

both_never : (contents : Contents) (rule profile : List ℕ) → NeverLacks (rule_and_profile_of contents rule profile)
both_never contents rule profile =
    then_never (rule_at contents 0 rule)
    (λ (t : Tree). and_then (profile_at contents 1 profile) (λ (f : File). gives (rule_profile t f)))
    (rule_never contents 0 rule)
    (λ t. then_never (profile_at contents 1 profile) (λ (f : File). gives (rule_profile t f))
    (profile_never contents 1 profile)
    (λ f. gives_never (rule_profile t f)))

three_never : (contents : Contents) (rule first second : List ℕ)
    → NeverLacks (rule_and_two_profiles_of contents rule first second)
three_never contents rule first second =
    then_never (rule_and_profile_of contents rule first)
    (λ (b : RuleProfile). and_then (profile_at contents 2 second) (λ (f : File). gives (rule_two_profiles b f)))
    (both_never contents rule first)
    (λ b. then_never (profile_at contents 2 second) (λ (f : File). gives (rule_two_profiles b f))
    (profile_never contents 2 second) (λ f. gives_never (rule_two_profiles b f)))

-- profiles of which each is counted before the next is read
behind_never : {A : Type 0} (steps : List Step) (course : Course A) → NeverLacks course
    → NeverLacks (behind steps course)
behind_never steps course never = never

counted_never : (contents : Contents) (place : ℕ) (term : Tree) (name : List ℕ)
    → NeverLacks (profile_counted contents place term name)
counted_never contents place term name =
    then_never (read_as profiles_or_faults name (contents place name)) (count_said term name)
    (read_never profiles_or_faults (λ never text is. absurd never) name (contents place name))
    (λ says. behind_never (run_for term says) (gives (record { name = name; says = says }))
    (gives_never (record { name = name; says = says })))

all_counted_never : (contents : Contents) (place : ℕ) (term : Tree) (names : List (List ℕ))
    → NeverLacks (all_counted contents place term names)
all_counted_never contents place term [] = gives_never []
all_counted_never contents place term (name ∷ rest) =
    then_never (profile_counted contents place term name)
    (λ (one : Said). and_then (all_counted contents (place + 1) term rest)
    (λ (more : List Said). gives (one ∷ more)))
    (counted_never contents place term name)
    (λ one. then_never (all_counted contents (place + 1) term rest) (λ (more : List Said). gives (one ∷ more))
    (all_counted_never contents (place + 1) term rest) (λ more. gives_never (one ∷ more)))

batch_never : (unserved : Option Leaf) (contents : Contents) (term : Tree) (names : List (List ℕ)) → unserved ≡ None
    → NeverLacks (batch_unless unserved contents term names)
batch_never None contents term names none =
    then_never (all_counted contents 2 term names) (λ (said : List Said). gives (exactly (batch_text term said)))
    (all_counted_never contents 2 term names) (λ said. gives_never (exactly (batch_text term said)))
batch_never (Some leaf) contents term names none = absurd cc

counting_never : (unserved : Option Leaf) (runs : List Run) (wording : Wording) → unserved ≡ None
    → NeverLacks (counting_course unserved runs wording)
counting_never None runs wording none text is = absurd cc
counting_never (Some leaf) runs wording none text is = absurd cc

-- what is done with a rule, and with a profile
rule_work_never : (work : RuleWork) (t : Tree) → NeverLacks (rule_course work t)
rule_work_never Listing t text is = absurd cc
rule_work_never (Prove prop) t text is = absurd cc
rule_work_never Simplify t text is = absurd cc

profile_work_never : (work : ProfileWork) (f : File) → NeverLacks (profile_course work f)
profile_work_never (Position weights kind) f text is = absurd cc
profile_work_never Pairs f text is = absurd cc

module _ (kinds : List (List LeafKind)) (served : (t : Tree) → first_unserved kinds t ≡ None) where
  -- and with both
  rule_profile_work_never : (work : RuleProfileWork) (s : RuleProfile)
      → NeverLacks (rule_profile_course kinds work s)
  rule_profile_work_never Count s = counting_never (first_unserved kinds s.term) _ _ (served s.term)
  rule_profile_work_never Report s = counting_never (first_unserved kinds s.term) _ _ (served s.term)
  rule_profile_work_never Explain s = λ text is. absurd cc
  rule_profile_work_never (Refute prop) s = λ text is. absurd cc

  none_of : (terms : List Tree) → first_unserved_of kinds terms ≡ None
  none_of [] = refl
  none_of (t ∷ rest) = ap (λ o. or_else o (first_unserved_of kinds rest)) (served t) ∙ none_of rest

  command_never : (command : Command) (contents : Contents) → NeverLacks (command_course kinds command contents)
  command_never (synth size props modules) contents = λ text is. absurd cc
  command_never (drill seed lines alternatives) contents =
      counting_never (first_unserved_of kinds drill_terms) _ _ (none_of drill_terms)
  command_never (on_rule rule work) contents =
      then_never (rule_at contents 0 rule) (rule_course work) (rule_never contents 0 rule) (rule_work_never work)
  command_never (on_profile profile work) contents =
      then_never (profile_at contents 0 profile) (profile_course work) (profile_never contents 0 profile)
      (profile_work_never work)
  command_never (on_rule_and_profile rule profile work) contents =
      then_never (rule_and_profile_of contents rule profile) (rule_profile_course kinds work)
      (both_never contents rule profile) (rule_profile_work_never work)
  command_never (check certificate) contents =
      then_never (certificate_at contents 0 certificate) check_course
      (read_never certificates (λ fault text is. absurd cc) certificate (contents 0 certificate))
      (λ c text is. absurd cc)
  command_never (refute_pair rule prop first second lifted) contents =
      then_never (rule_and_two_profiles_of contents rule first second) (pair_course prop lifted)
      (three_never contents rule first second) (λ s text is. absurd cc)
  command_never (batch rule manifest) contents =
      then_never (rule_at contents 0 rule)
      (λ (t : Tree). and_then (manifest_at contents 1 manifest) (λ names. batch_course kinds contents t names))
      (rule_never contents 0 rule)
      (λ t. then_never (manifest_at contents 1 manifest) (batch_course kinds contents t)
      (read_never manifests (λ fault text is. absurd cc) manifest (contents 1 manifest))
      (λ names. batch_never (first_unserved kinds t) contents t names (served t)))

-- ---- a call
-- with status 8 the answer names a module
record NamesOne (given : Result Answer Stop) : Type 0 where
  text : List ℕ
  is : given ≡ Err (stop.NoCounter text)

names_one : {O E : Type 0} (given : Result Answer Stop) (status : ℕ) (out : O → SinkView) (old new : O)
    (err : E → SinkView) (err_old err_new : E) → Delivers given status out old new err err_old err_new → status ≡ 8
    → NamesOne given
names_one (Ok (answer.Text text)) status out old new err err_old err_new (inl w) is =
    let e : status ≡ 0 = w.status_is in absurd (omega arith)
names_one (Ok (answer.Denial text)) status out old new err err_old err_new (inl w) is =
    let e : status ≡ 1 = w.status_is in absurd (omega arith)
names_one (Ok given) status out old new err err_old err_new (inr b) is =
    let e : status ≡ 6 = b.status_is in absurd (omega arith)
names_one (Err stop.Usage) status out old new err err_old err_new t is =
    let e : status ≡ 2 = t.status_is in absurd (omega arith)
names_one (Err stop.ReadFault) status out old new err err_old err_new t is =
    let e : status ≡ 5 = t.status_is in absurd (omega arith)
names_one (Err (stop.TextRefused fault)) status out old new err err_old err_new t is =
    let e : status ≡ 3 = t.status_is in absurd (omega arith)
names_one (Err (stop.ProfileRefused fault)) status out old new err err_old err_new t is =
    let e : status ≡ 4 = t.status_is in absurd (omega arith)
names_one (Err stop.WriteFault) status out old new err err_old err_new t is =
    let e : status ≡ 6 = t.status_is in absurd (omega arith)
names_one (Err stop.Memory) status out old new err err_old err_new t is =
    let e : status ≡ 7 = t.status_is in absurd (omega arith)
names_one (Err (stop.NoCounter text)) status out old new err err_old err_new t is =
    record { text = text; is = refl }

pub never_eight : {S O E : Type 0} (listed : Bool) (words : Option Command) (seen : S → ShelfView) (shelf left : S)
    (before after : BenchView) (status : ℕ) (out : O → SinkView) (old new : O) (err : E → SinkView)
    (err_old err_new : E) → ((t : Tree) → first_unserved (served_by before) t ≡ None)
    → Calls (AnswersWords listed words seen shelf left before after)
    (λ given. Delivers given status out old new err err_old err_new) → status ≡ 8 → ⊥
never_eight listed words seen shelf left before after status out old new err err_old err_new served calls is =
    by words calls.answers
  where
    named : NamesOne calls.answer
    named = names_one calls.answer status out old new err err_old err_new calls.delivers is

    usage : (calls.answer ≡ Err stop.Usage) ⊎ (IsTrue listed × (calls.answer ≡ Err stop.Memory)) → ⊥
    usage (inl e) = let same = sym e ∙ named.is in absurd cc
    usage (inr (kept, e)) = let same = sym e ∙ named.is in absurd cc

    by : (w : Option Command) → AnswersWords listed w seen shelf left before after calls.answer → ⊥
    by None u = usage u.reason
    by (Some command) p =
        let f = subst (λ (a : Result Answer Stop). Follows Tells (RoseAtLast (seen shelf) (seen left))
        (command_course (served_by before) command p.contents) p.made a) named.is p.follows in
        command_never (served_by before) served command p.contents named.text f.end_is
