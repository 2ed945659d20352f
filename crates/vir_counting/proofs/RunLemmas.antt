-- A run on all alternatives of a profile, and what counting comes to.
use Rattle.std.proofs.Common.{◌≡◌, ℕ, List, ap, ◌∙◌}
use Rattle.vir_altset.specs.Sets.{Set, all}
use Rattle.vir_altset.specs.declared.split.Split.{Split}
use Rattle.vir_counter.specs.Calls.{risen}
use Rattle.vir_machine.specs.Bench.{raised}
use Rattle.vir_machine.specs.Uses.{uses}
use Rattle.vir_mean.specs.Meaning.{mean}
use Rattle.vir_mean.specs.declared.elimination.Elimination.{Elimination}
use Rattle.vir_positional.specs.Positional.{positional_split}
use Rattle.vir_positional.specs.declared.weight_form.WeightForm.{WeightForm}
use Rattle.vir_profile.specs.declared.ballot.Entry.{Entry}
use Rattle.vir_profile.specs.Profiles.{IsProfile, Votes, restrict}
use Rattle.vir_profile.specs.SocFiles.{File}
use Rattle.vir_profile.proofs.RestrictionLaws.{profiles_are_complete, restricted_to_the_whole}
use Rattle.vir_term.specs.Tree.{Tree}
use Rattle.vir_machine.specs.Runs.{BenchView, after_run, served_by}

-- the ballots of an election, restricted to all of its alternatives, are those of its profile
pub whole_of : (election file : File) (number : ℕ) (domain : Set) → election ≡ file → domain ≡ all number → number
    ≡ election.profile.alternatives → IsProfile election.profile
    → (domain ≡ all file.profile.alternatives) × (restrict domain election.profile.lines ≡ file.profile.lines)
whole_of election file number domain same is number_is profile =
    let here : domain ≡ all election.profile.alternatives = is ∙ ap all number_is in
    let whole : restrict (all election.profile.alternatives) election.profile.lines ≡ election.profile.lines =
    restricted_to_the_whole (all election.profile.alternatives) election.profile.lines
    (profiles_are_complete election.profile profile) in (
      here ∙ ap (λ (f : File). all f.profile.alternatives) same,
      ap (λ (d : Set). restrict d election.profile.lines) here
          ∙ whole ∙ ap (λ (f : File). f.profile.lines) same,
    )

-- what a run on all alternatives gives
pub split_of_whole : (t : Tree) (votes : Votes) (domain : Set) (lines : List Entry) (split : Split)
    → (domain ≡ all votes.alternatives) × (lines ≡ votes.lines) → split ≡ mean t domain lines → split
    ≡ mean t (all votes.alternatives) votes.lines
split_of_whole t votes domain lines split (here, whole) is = is ∙ ap (λ (d : Set). mean t d lines) here
    ∙ ap (mean t (all votes.alternatives)) whole

-- what an eliminator by the weights of places gives
pub positional_split_of_whole : (kind : Elimination) (kept weights : WeightForm) (votes : Votes) (domain : Set)
    (lines : List Entry) (split : Split) → (domain ≡ all votes.alternatives) × (lines ≡ votes.lines) → kept ≡ weights
    → split ≡ positional_split kind kept domain lines
    → split ≡ positional_split kind weights (all votes.alternatives) votes.lines
positional_split_of_whole kind kept weights votes domain lines split (here, whole) same is =
    is ∙ ap (λ (w : WeightForm). positional_split kind w domain lines) same
    ∙ ap (λ (d : Set). positional_split kind weights d lines) here
    ∙ ap (positional_split kind weights (all votes.alternatives)) whole

-- what it makes of the bench
pub run_of_whole : (t : Tree) (votes : Votes) (domain : Set) (lines : List Entry) (old new : BenchView)
    → (domain ≡ all votes.alternatives) × (lines ≡ votes.lines)
    → new.counters ≡ raised (λ i. uses i (served_by old) t domain lines) old.counters → new.runs ≡ risen old.runs 1
    → new ≡ after_run (record { term = t; votes = votes }) old
run_of_whole t votes domain lines old new (here, whole) counters runs =
    let raised_so : new.counters ≡ raised (λ i. uses i (served_by old) t (all votes.alternatives) votes.lines)
    old.counters =
    counters ∙ ap (λ (d : Set). raised (λ i. uses i (served_by old) t d lines) old.counters) here
    ∙ ap (λ (l : List Entry). raised (λ i. uses i (served_by old) t (all votes.alternatives) l) old.counters) whole
    in
    (λ j. record { counters = raised_so j; runs = runs j })
