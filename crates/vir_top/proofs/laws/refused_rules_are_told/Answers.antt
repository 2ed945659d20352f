use Rattle.vir_course.specs.declared.stop.Stop.TheVariants.{TextRefused}
use Rattle.vir_files.specs.Readings.{rule_at}
use Rattle.vir_top.proofs.DueLemmas.{both_stop_due, rule_stops, stop_due, then_stops}
use Rattle.vir_top.proofs.BatchDueLemmas.{batch_rule_due}
use Rattle.vir_top.proofs.PairLemmas.{pair_stop_due}
use Rattle.vir_top.proofs.laws.refused_rules_are_told.Goals as goal
use Rattle.vir_top.specs.CommandCourses.{rule_course}
use Rattle.vir_top.specs.Printed.{told_contents}
use Rattle.vir_words.specs.Command.{on_rule}

pub returns-clause-alone : goal.returns-clause-alone
returns-clause-alone c = λ kinds all rule work status has due.
    stop_due kinds all (on_rule rule work) status (TextRefused has.0)
    (then_stops (rule_at (told_contents all) 0 rule) (rule_course work) (TextRefused has.0) has.1) due

pub returns-clause-before_a_profile : goal.returns-clause-before_a_profile
returns-clause-before_a_profile c = λ kinds all rule profile work status has due.
    both_stop_due all rule profile kinds work status (TextRefused has.0)
    (rule_stops all rule profile (TextRefused has.0) has.1) due

pub returns-clause-before_two_profiles : goal.returns-clause-before_two_profiles
returns-clause-before_two_profiles c = λ kinds all rule first second prop lifted status has due.
    pair_stop_due all rule first second kinds prop lifted status due (TextRefused has.0)
    (rule_stops all rule first (TextRefused has.0) has.1)

pub returns-clause-before_a_manifest : goal.returns-clause-before_a_manifest
returns-clause-before_a_manifest c = λ kinds all rule manifest status has due.
    batch_rule_due all kinds rule manifest status due (TextRefused has.0) has.1
