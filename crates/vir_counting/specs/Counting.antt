-- The courses of the commands that count, by what their files say and by the kinds of modules that the counters of
-- the bench serve.
use Rattle.std.specs.Prelude.{ℕ, List, [], ◌∷◌, ◌++◌, None, Some, Ok}
use Rattle.std.specs.List.{flat_map}
use Rattle.std.specs.declared.option.Option.{Option}
use Rattle.vir_counting.specs.DrillResults.{drill_terms, drill_text, first_unserved_of, runs_on}
use Rattle.vir_altset.specs.Sets.{all}
use Rattle.vir_course.specs.Courses.{Course, gives, stops}
use Rattle.vir_course.specs.Reports.{count_text, name_line, profile_lines}
use Rattle.vir_explain.specs.PairTexts.{pairs_text}
use Rattle.vir_machine.specs.Runs.{Run}
use Rattle.vir_course.specs.Steps.{steps_of_runs}
use Rattle.vir_course.specs.Wordings.{Wording, exactly, explanation_of, report_of}
use Rattle.vir_course.specs.declared.stop.Stop.TheVariants as stop
use Rattle.vir_machine.specs.Uses.{first_unserved}
use Rattle.vir_mean.specs.declared.elimination.Elimination.{Elimination}
use Rattle.vir_positional.specs.Positional.{positional_split}
use Rattle.vir_positional.specs.declared.weight_form.WeightForm.TheVariants as form
use Rattle.vir_profile.specs.Profiles.{Votes}
use Rattle.vir_profile.specs.SocFiles.{File}
use Rattle.vir_report.specs.ResultText.{result_text}
use Rattle.vir_term.specs.declared.leaf.Leaf.{Leaf}
use Rattle.vir_term.specs.declared.leaf.LeafKind.{LeafKind}
use Rattle.vir_term.specs.Text.{leaf_text}
use Rattle.vir_term.specs.Tree.{Tree}

-- runs, and such a text, unless a counter is missing for a module
abbrev pub counting_course : Option Leaf → List Run → Wording → Course Wording
counting_course None runs wording = record { steps = steps_of_runs runs; end = Ok wording }
counting_course (Some leaf) runs wording = stops (stop.NoCounter (leaf_text leaf))

-- a run of a rule on a profile, and such a text
abbrev pub run_course : List (List LeafKind) → Tree → File → Wording → Course Wording
run_course kinds term file wording =
    counting_course (first_unserved kinds term) (record { term = term; votes = file.profile } ∷ []) wording

-- `count`: what the rule elects, rejects and defers
abbrev pub count_course : List (List LeafKind) → Tree → File → Course Wording
count_course kinds term file = run_course kinds term file (exactly (count_text term file.profile))

-- `report`: that, and what is found of each property
abbrev pub report_course : List (List LeafKind) → Tree → File → Course Wording
report_course kinds term file = run_course kinds term file (report_of term file)

-- `drill`: a run of each of its rules on a profile, and what they elect
abbrev pub drill_course : List (List LeafKind) → Votes → Course Wording
drill_course kinds votes =
    counting_course (first_unserved_of kinds drill_terms) (runs_on votes drill_terms) (exactly (drill_text votes))

-- `position`: what the eliminator of a kind rejects and defers of all alternatives by the weights of places; no run
abbrev pub position_course : List ℕ → Elimination → File → Course Wording
position_course weights kind file =
    gives (exactly (result_text (positional_split kind (form.List weights) (all file.profile.alternatives)
    file.profile.lines)))

-- `explain`: how the rule comes to its result, or that the text is too long; no run
abbrev pub explain_course : Tree → File → Course Wording
explain_course term file = gives (explanation_of term file)

-- what `pairs` prints: the profile with its names, the rows of all pairs, and the Condorcet winner
abbrev pub pairs_said : File → List ℕ
pairs_said file = profile_lines file.profile ++ flat_map name_line file.names ++ pairs_text file.profile

-- `pairs`: how many voters put one alternative before another; no run
abbrev pub pairs_course : File → Course Wording
pairs_course file = gives (exactly (pairs_said file))
