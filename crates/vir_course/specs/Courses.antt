-- The course of a call, device faults and want of memory aside: its steps, and the end that they lead to. And what a
-- call does that follows a course.
use Rattle.std.specs.Prelude.{◌≡◌, ◌⊎◌, List, [], ◌∷◌, ◌++◌, Result, Ok, Err}
use Rattle.vir_course.specs.declared.stop.Stop.{Stop}
use Rattle.vir_course.specs.declared.stop.Stop.TheVariants as stop
use Rattle.vir_course.specs.Steps.{Asked, Step, reads}

pub record Course (A : Type 0) : Type 0 where
  pub steps : List Step
  pub end : Result A Stop

-- at once this value
abbrev pub gives : {A : Type 0} → A → Course A
gives a = record { steps = []; end = Ok a }

-- at once this reason to stop
abbrev pub stops : {A : Type 0} → Stop → Course A
stops reason = record { steps = []; end = Err reason }

-- these steps, and behind them a course
abbrev pub behind : {A : Type 0} → List Step → Course A → Course A
behind steps course = record { steps = steps ++ course.steps; end = course.end }

-- by the end that steps led to, the next course with its value, or no more
abbrev pub go_on : {A B : Type 0} → List Step → Result A Stop → (A → Course B) → Course B
go_on steps (Ok a) next = behind steps (next a)
go_on steps (Err reason) next = record { steps = steps; end = Err reason }

-- a course, and with its value the next one
abbrev pub and_then : {A B : Type 0} → Course A → (A → Course B) → Course B
and_then first next = go_on first.steps first.end next

-- ---- what follows a course
-- All steps are made, and the value that they lead to is seen so.
pub record Reaches {A X : Type 0} (Sees : A → X → Type 0) (course : Course A) (made : List Step) (x : X) : Type 0 where
  pub all_made : made ≡ course.steps
  pub value : A
  pub end_is : course.end ≡ Ok value
  pub sees : Sees value x

-- All steps are made, and they lead to this reason to stop.
pub record Stops {A : Type 0} (course : Course A) (made : List Step) (reason : Stop) : Type 0 where
  pub all_made : made ≡ course.steps
  pub end_is : course.end ≡ Err reason

-- The first of the steps are made.
pub record Begins {A : Type 0} (course : Course A) (made : List Step) : Type 0 where
  pub rest : List Step
  pub steps_are : course.steps ≡ made ++ rest

-- The first of the steps are made, up to the reading of a file.
pub record BeginsToRead {A : Type 0} (course : Course A) (made : List Step) : Type 0 where
  pub before : List Step
  pub file : Asked
  pub rest : List Step
  pub made_is : made ≡ before ++ reads file ∷ []
  pub steps_are : course.steps ≡ before ++ reads file ∷ rest

-- These steps and this answer follow a course. A reading of it may have failed where the count of faults rose, and
-- memory may be wanting at any point.
abbrev pub Follows : {A X : Type 0} → (A → X → Type 0) → Type 0 → Course A → List Step → Result X Stop → Type 0
Follows Sees rose course made (Ok x) = Reaches Sees course made x
Follows Sees rose course made (Err stop.Usage) = ⊥
Follows Sees rose course made (Err stop.ReadFault) = (rose × BeginsToRead course made)
    ⊎ Stops course made stop.ReadFault
Follows Sees rose course made (Err (stop.TextRefused fault)) = Stops course made (stop.TextRefused fault)
Follows Sees rose course made (Err (stop.ProfileRefused fault)) = Stops course made (stop.ProfileRefused fault)
Follows Sees rose course made (Err stop.WriteFault) = ⊥
Follows Sees rose course made (Err stop.Memory) = Begins course made
Follows Sees rose course made (Err (stop.NoCounter text)) = Stops course made (stop.NoCounter text)
