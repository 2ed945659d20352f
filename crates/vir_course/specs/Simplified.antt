-- What is said of a rule that is simplified.
use Rattle.std.specs.Prelude.{◌≡◌, ℕ, List, ◌++◌, codes, decimal}
use Rattle.std.specs.List.{flat_map}
use Rattle.vir_simplify.specs.declared.step.Step.{Step}
use Rattle.vir_simplify.specs.Meanings.{MeanTheSame}
use Rattle.vir_simplify.specs.Names.{equation_text}
use Rattle.vir_simplify.specs.Steps.{Simplifies}
use Rattle.vir_term.specs.Text.{term_text}
use Rattle.vir_term.specs.Tree.{Tree}

-- the line of a step: by which equation, and at which place
abbrev pub step_line : Step → List ℕ
step_line step = equation_text step.equation ++ codes " " ++ decimal step.place ++ codes "\n"

-- The text names the term that comes of taking the next step until there is none, and then each of these steps, in
-- their order. That term has the meaning of the rule.
pub record IsSimplified (term : Tree) (text : List ℕ) : Type 0 where
  pub steps : List Step
  pub simple : Tree
  pub simplifies : Simplifies term steps simple
  pub same : MeanTheSame term simple
  pub text_is : text ≡ codes "simple " ++ term_text simple ++ codes "\n" ++ flat_map step_line steps
