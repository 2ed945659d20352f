-- What `drill` prints of its profile: what each of its rules elects there.
use Rattle.std.specs.Prelude.{◌≡◌, ℕ, List, [], ◌∷◌, ◌++◌, None, codes, decimal, length, map}
use Rattle.std.specs.List.{flat_map}
use Rattle.std.specs.declared.option.Option.{Option}
use Rattle.vir_altset.specs.Sets.{all}
use Rattle.vir_machine.specs.Uses.{first_unserved, or_else}
use Rattle.vir_mean.specs.Meaning.{mean}
use Rattle.vir_profile.specs.Profiles.{Votes, total_weight}
use Rattle.vir_term.specs.declared.leaf.Leaf.{Leaf}
use Rattle.vir_term.specs.declared.leaf.Leaf.TheVariants.{Elect, Plurality, Max, Min}
use Rattle.vir_term.specs.declared.leaf.LeafKind.{LeafKind}
use Rattle.vir_term.specs.declared.score.Score.TheVariants.{Borda, Copeland}
use Rattle.vir_term.specs.Limits.{IsWithinLimits}
use Rattle.vir_term.specs.Text.{term_text}
use Rattle.vir_term.specs.Tree.{Tree, leaf, seq, loop, exactly}
use Rattle.vir_report.specs.ResultText.{set_line}
use Rattle.vir_machine.specs.Runs.{BenchView, Run, served_by}
use Rattle.vir_course.specs.Steps.{after_steps, steps_of_runs}

-- the rules, in order
abbrev pub drill_terms : List Tree
drill_terms =
    leaf Plurality
    ∷ seq (leaf (Max Borda)) (leaf Elect)
    ∷ seq (leaf (Max Copeland)) (leaf Elect)
    ∷ seq (loop (exactly 1) (leaf (Min Borda))) (leaf Elect)
    ∷ []

-- the first module of these terms, one after another, that isn't served
abbrev pub first_unserved_of : List (List LeafKind) → List Tree → Option Leaf
first_unserved_of served [] = None
first_unserved_of served (term ∷ rest) = or_else (first_unserved served term) (first_unserved_of served rest)

-- a run of each of these terms on a profile
abbrev pub runs_on : Votes → List Tree → List Run
runs_on votes terms = map (λ term. record { term = term; votes = votes }) terms

-- the line of a profile: its number of lines, its number of voters, its number of alternatives
abbrev pub size_line : Votes → List ℕ
size_line votes =
    codes "lines " ++ decimal (length votes.lines) ++ codes " voters " ++ decimal (total_weight votes.lines)
    ++ codes " alternatives " ++ decimal votes.alternatives ++ 10 ∷ []

-- the line of a term: its text, and what it elects of a profile
abbrev pub elected_line : Votes → Tree → List ℕ
elected_line votes term = term_text term ++ codes " " ++ set_line (codes "elected") (mean term (all votes.alternatives)
    votes.lines).elected

-- the lines of terms
abbrev pub elected_lines : Votes → List Tree → List ℕ
elected_lines votes terms = flat_map (λ term. elected_line votes term) terms

-- the line of the profile, and the lines of the rules
abbrev pub drill_text : Votes → List ℕ
drill_text votes = size_line votes ++ elected_lines votes drill_terms

-- The bench made the first of these runs.
pub record MadeFirst (runs : List Run) (old new : BenchView) : Type 0 where
  pub first : List Run
  pub rest : List Run
  pub all_runs : runs ≡ first ++ rest
  pub made : new ≡ after_steps (steps_of_runs first) old

-- Each of these terms is within the limits.
abbrev pub AreWithinLimits : List Tree → Type 0
AreWithinLimits [] = Unit {0}
AreWithinLimits (term ∷ rest) = IsWithinLimits term × AreWithinLimits rest

-- Counters of the bench serve each module of these terms.
pub record AreServed (bench : BenchView) (terms : List Tree) : Type 0 where
  pub none : first_unserved_of (served_by bench) terms ≡ None
