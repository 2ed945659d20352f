-- The course of each command, by the contents of the files that it names and by the kinds of modules that the counters
-- of the bench serve.
use Rattle.std.specs.Prelude.{ℕ, List}
use Rattle.vir_batch.specs.Batches.{batch_of_files_course}
use Rattle.vir_claims.specs.Claims.{check_course, listing_course, prove_course, refute_course, simplify_course}
use Rattle.vir_claims.specs.Claims.{synth_course}
use Rattle.vir_counting.specs.Counting.{count_course, drill_course, explain_course, pairs_course, position_course}
use Rattle.vir_counting.specs.Counting.{report_course}
use Rattle.vir_counting.specs.Drill.{drill_votes}
use Rattle.vir_course.specs.Courses.{Course, and_then}
use Rattle.vir_course.specs.Wordings.{Wording}
use Rattle.vir_files.specs.Contents.{Contents}
use Rattle.vir_files.specs.Readings.{RuleProfile, RuleTwoProfiles, certificate_at, profile_at, rule_and_profile_of}
use Rattle.vir_files.specs.Readings.{rule_and_two_profiles_of, rule_at}
use Rattle.vir_profile.specs.SocFiles.{File}
use Rattle.vir_refute.specs.Cases.{one, pair}
use Rattle.vir_refute.specs.Judged.{election_of}
use Rattle.vir_term.specs.declared.leaf.LeafKind.{LeafKind}
use Rattle.vir_term.specs.declared.prop.Prop.{Prop}
use Rattle.vir_term.specs.Tree.{Tree}
use Rattle.vir_words.specs.Command.{Command, batch, check, drill, on_profile, on_rule, on_rule_and_profile, refute_pair}
use Rattle.vir_words.specs.Command.{synth}
use Rattle.vir_words.specs.declared.command.ProfileWork.{ProfileWork}
use Rattle.vir_words.specs.declared.command.ProfileWork.TheVariants.{Pairs, Position}
use Rattle.vir_words.specs.declared.command.RuleProfileWork.{RuleProfileWork}
use Rattle.vir_words.specs.declared.command.RuleProfileWork.TheVariants.{Count, Explain, Refute, Report}
use Rattle.vir_words.specs.declared.command.RuleWork.{RuleWork}
use Rattle.vir_words.specs.declared.command.RuleWork.TheVariants.{Listing, Prove, Simplify}

-- ---- what is done with what files say
abbrev pub rule_course : RuleWork → Tree → Course Wording
rule_course Listing = listing_course
rule_course (Prove prop) = λ term. prove_course term prop
rule_course Simplify = simplify_course

abbrev pub profile_course : ProfileWork → File → Course Wording
profile_course (Position weights kind) = position_course weights kind
profile_course Pairs = pairs_course

abbrev pub rule_profile_course : List (List LeafKind) → RuleProfileWork → RuleProfile → Course Wording
rule_profile_course kinds Count = λ said. count_course kinds said.term said.file
rule_profile_course kinds Report = λ said. report_course kinds said.term said.file
rule_profile_course kinds Explain = λ said. explain_course said.term said.file
rule_profile_course kinds (Refute prop) = λ said. refute_course said.term prop (one (election_of said.file.profile))

-- a case of two profiles, the second of which is said to lift this alternative
abbrev pub pair_course : Prop → ℕ → RuleTwoProfiles → Course Wording
pair_course prop lifted said =
    refute_course said.term prop (pair (election_of said.first.profile) (election_of said.second.profile) lifted)

-- ---- commands
abbrev pub command_course : List (List LeafKind) → Command → Contents → Course Wording
command_course kinds (synth size props modules) contents = synth_course size props modules
command_course kinds (drill seed lines alternatives) contents = drill_course kinds (drill_votes seed lines alternatives)
command_course kinds (on_rule rule work) contents = and_then (rule_at contents 0 rule) (rule_course work)
command_course kinds (on_profile profile work) contents = and_then (profile_at contents 0 profile) (profile_course work)
command_course kinds (on_rule_and_profile rule profile work) contents =
    and_then (rule_and_profile_of contents rule profile) (rule_profile_course kinds work)
command_course kinds (check certificate) contents = and_then (certificate_at contents 0 certificate) check_course
command_course kinds (refute_pair rule prop first second lifted) contents =
    and_then (rule_and_two_profiles_of contents rule first second) (pair_course prop lifted)
command_course kinds (batch rule manifest) contents = batch_of_files_course kinds contents rule manifest
