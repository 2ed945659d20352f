-- The steps of a call, and what they make of the bench and the shelf.
use Rattle.std.specs.Prelude.{ℕ, List, [], ◌∷◌, map, Some}
use Rattle.std.specs.declared.option.Option.{Option}
use Rattle.vir_machine.specs.Runs.{BenchView, Run, after_run}

-- A file that a call comes to: its name, and how many bytes one of its kind may have.
pub record Asked : Type 0 where
  pub name : List ℕ
  pub limit : ℕ

-- a step of a call
pub data Step : Type 0 where
  -- it selects this file and reads it
  reads : Asked → Step
  -- it makes this run on the bench
  makes : Run → Step

-- runs, one after another
abbrev pub steps_of_runs : List Run → List Step
steps_of_runs runs = map makes runs

-- the bench after these steps
abbrev pub after_steps : List Step → BenchView → BenchView
after_steps [] bench = bench
after_steps (reads file ∷ rest) bench = after_steps rest bench
after_steps (makes run ∷ rest) bench = after_steps rest (after_run run bench)

-- the file that is read last, behind this one or none
abbrev pub last_read : Option Asked → List Step → Option Asked
last_read before [] = before
last_read before (reads file ∷ rest) = last_read (Some file) rest
last_read before (makes run ∷ rest) = last_read before rest
