use Rattle.std.proofs.Common.{ℕ, List, Option, ap}
use Rattle.vir_claims.specs.Claims.{check_course}
use Rattle.vir_course.specs.declared.stop.Stop.TheVariants.{ReadFault}
use Rattle.vir_files.specs.Files.{certificates, judge, profiles, rules}
use Rattle.vir_files.specs.Readings.{certificate_at, profile_at, rule_at}
use Rattle.vir_top.proofs.DueLemmas.{both_stop_due, profile_stops, rule_stops, stop_due, then_stops}
use Rattle.vir_top.proofs.BatchDueLemmas.{batch_rule_due}
use Rattle.vir_top.proofs.PairLemmas.{pair_stop_due, second_stop_due}
use Rattle.vir_top.proofs.laws.missing_files_are_told.Goals as goal
use Rattle.vir_top.specs.CommandCourses.{profile_course, rule_course}
use Rattle.vir_top.specs.Printed.{told_contents}
use Rattle.vir_words.specs.Command.{check, on_profile, on_rule}

pub returns-clause-rule : goal.returns-clause-rule
returns-clause-rule c = λ kinds all name work status none due.
    stop_due kinds all (on_rule name work) status ReadFault
    (then_stops (rule_at (told_contents all) 0 name) (rule_course work) ReadFault
    (ap (λ (content : Option (List ℕ)). judge rules content) none)) due

pub returns-clause-profile : goal.returns-clause-profile
returns-clause-profile c = λ kinds all name work status none due.
    stop_due kinds all (on_profile name work) status ReadFault
    (then_stops (profile_at (told_contents all) 0 name) (profile_course work) ReadFault
    (ap (λ (content : Option (List ℕ)). judge profiles content) none)) due

pub returns-clause-certificate : goal.returns-clause-certificate
returns-clause-certificate c = λ kinds all name status none due.
    stop_due kinds all (check name) status ReadFault
    (then_stops (certificate_at (told_contents all) 0 name) check_course ReadFault
    (ap (λ (content : Option (List ℕ)). judge certificates content) none)) due

pub returns-clause-before_a_profile : goal.returns-clause-before_a_profile
returns-clause-before_a_profile c = λ kinds all rule profile work status none due.
    both_stop_due all rule profile kinds work status ReadFault
    (rule_stops all rule profile ReadFault (ap (λ (content : Option (List ℕ)). judge rules content) none)) due

pub returns-clause-behind_a_rule : goal.returns-clause-behind_a_rule
returns-clause-behind_a_rule c = λ kinds all rule profile work status term is_rule none due.
    both_stop_due all rule profile kinds work status ReadFault
    (profile_stops all rule profile term ReadFault is_rule
    (ap (λ (content : Option (List ℕ)). judge profiles content) none)) due

pub returns-clause-before_two_profiles : goal.returns-clause-before_two_profiles
returns-clause-before_two_profiles c = λ kinds all rule first second prop lifted status none due.
    pair_stop_due all rule first second kinds prop lifted status due ReadFault
    (rule_stops all rule first ReadFault (ap (λ (content : Option (List ℕ)). judge rules content) none))

pub returns-clause-first_of_two : goal.returns-clause-first_of_two
returns-clause-first_of_two c = λ kinds all rule first second prop lifted status term is_rule none due.
    pair_stop_due all rule first second kinds prop lifted status due ReadFault
    (profile_stops all rule first term ReadFault is_rule
    (ap (λ (content : Option (List ℕ)). judge profiles content) none))

pub returns-clause-second_of_two : goal.returns-clause-second_of_two
returns-clause-second_of_two c = λ kinds all rule first second prop lifted status term file is_rule is_first none due.
    second_stop_due all rule first second kinds prop lifted status due term file ReadFault is_rule is_first
    (ap (λ (content : Option (List ℕ)). judge profiles content) none)

pub returns-clause-before_a_manifest : goal.returns-clause-before_a_manifest
returns-clause-before_a_manifest c = λ kinds all rule manifest status none due.
    batch_rule_due all kinds rule manifest status due ReadFault
    (ap (λ (content : Option (List ℕ)). judge rules content) none)
