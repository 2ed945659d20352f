use Rattle.vir_course.specs.declared.stop.Stop.TheVariants.{ProfileRefused}
use Rattle.vir_files.specs.Readings.{profile_at}
use Rattle.vir_top.proofs.DueLemmas.{both_stop_due, profile_stops, stop_due, then_stops}
use Rattle.vir_top.proofs.PairLemmas.{pair_stop_due, second_stop_due}
use Rattle.vir_top.proofs.laws.refused_profiles_are_told.Goals as goal
use Rattle.vir_top.specs.CommandCourses.{profile_course}
use Rattle.vir_top.specs.Printed.{told_contents}
use Rattle.vir_words.specs.Command.{on_profile}

pub returns-clause-alone : goal.returns-clause-alone
returns-clause-alone c = λ kinds all name work status has due.
    stop_due kinds all (on_profile name work) status (ProfileRefused has.0)
    (then_stops (profile_at (told_contents all) 0 name) (profile_course work) (ProfileRefused has.0) has.1) due

pub returns-clause-behind_a_rule : goal.returns-clause-behind_a_rule
returns-clause-behind_a_rule c = λ kinds all rule profile work status term is_rule has due.
    both_stop_due all rule profile kinds work status (ProfileRefused has.0)
    (profile_stops all rule profile term (ProfileRefused has.0) is_rule has.1) due

pub returns-clause-first_of_two : goal.returns-clause-first_of_two
returns-clause-first_of_two c = λ kinds all rule first second prop lifted status term is_rule has due.
    pair_stop_due all rule first second kinds prop lifted status due (ProfileRefused has.0)
    (profile_stops all rule first term (ProfileRefused has.0) is_rule has.1)

pub returns-clause-second_of_two : goal.returns-clause-second_of_two
returns-clause-second_of_two c = λ kinds all rule first second prop lifted status term file is_rule is_first has due.
    second_stop_due all rule first second kinds prop lifted status due term file (ProfileRefused has.0) is_rule is_first
    has.1
