-- What follows one course and then the next.
use Rattle.std.proofs.Common.{◌≡◌, List, [], ◌∷◌, ◌++◌, Result, Ok, Err, refl, sym, ap, ◌∙◌, append_assoc}
use Rattle.std.proofs.Common.{append-nil, inl, inr}
use Rattle.vir_course.specs.declared.stop.Stop.{Stop}
use Rattle.vir_course.specs.declared.stop.Stop.TheVariants as stop
use Rattle.vir_course.specs.Courses.{Begins, BeginsToRead, Course, Follows, Reaches, Stops, and_then, behind, go_on}
use Rattle.vir_course.specs.Steps.{Step, reads}

-- ---- where the first course stops
-- the steps of the first course are the first ones of both
more_of : {A B : Type 0} (steps : List Step) (end : Result A Stop) (next : A → Course B) → (more : List Step)
    × ((go_on steps end next).steps ≡ steps ++ more)
more_of steps (Ok a) next = ((next a).steps, refl)
more_of steps (Err reason) next = ([], sym (append-nil steps))

stops_first : {A B : Type 0} (first : Course A) (next : A → Course B) (made : List Step) (reason : Stop)
    → Stops first made reason → Stops (and_then first next) made reason
stops_first first next made reason s =
    record {
      all_made = s.all_made ∙ sym (ap (λ e. (go_on first.steps e next).steps) s.end_is);
      end_is = ap (λ e. (go_on first.steps e next).end) s.end_is;
    }

begins_first : {A B : Type 0} (first : Course A) (next : A → Course B) (made : List Step) → Begins first made
    → Begins (and_then first next) made
begins_first first next made b =
    let more = more_of first.steps first.end next in
    record {
      rest = b.rest ++ more.0;
      steps_are = more.1 ∙ ap (λ xs. xs ++ more.0) b.steps_are
          ∙ append_assoc made b.rest more.0;
    }

begins_to_read_first : {A B : Type 0} (first : Course A) (next : A → Course B) (made : List Step)
    → BeginsToRead first made → BeginsToRead (and_then first next) made
begins_to_read_first first next made b =
    let more = more_of first.steps first.end next in
    record {
      before = b.before;
      file = b.file;
      rest = b.rest ++ more.0;
      made_is = b.made_is;
      steps_are = more.1 ∙ ap (λ xs. xs ++ more.0) b.steps_are ∙ append_assoc b.before (reads b.file ∷ b.rest) more.0;
    }

-- what stops the first course stops both
pub follows_stop : {A B X Y : Type 0} (Sees : A → X → Type 0) (SeesNext : B → Y → Type 0) (rose : Type 0)
    (first : Course A) (next : A → Course B) (made : List Step) (reason : Stop)
    → Follows Sees rose first made (Err reason) → Follows SeesNext rose (and_then first next) made (Err reason)
follows_stop Sees SeesNext rose first next made stop.Usage f = f
follows_stop Sees SeesNext rose first next made stop.ReadFault (inl (up, b)) =
    inl (up, begins_to_read_first first next made b)
follows_stop Sees SeesNext rose first next made stop.ReadFault (inr s) =
    inr (stops_first first next made stop.ReadFault s)
follows_stop Sees SeesNext rose first next made (stop.TextRefused fault) f = stops_first first next made
    (stop.TextRefused fault) f
follows_stop Sees SeesNext rose first next made (stop.ProfileRefused fault) f = stops_first first next made
    (stop.ProfileRefused fault) f
follows_stop Sees SeesNext rose first next made stop.WriteFault f = f
follows_stop Sees SeesNext rose first next made stop.Memory f = begins_first first next made f
follows_stop Sees SeesNext rose first next made (stop.NoCounter text) f = stops_first first next made
    (stop.NoCounter text) f

-- ---- where the first course leads to a value
module _ {A B X Y : Type 0} (Sees : A → X → Type 0) (SeesNext : B → Y → Type 0) (first : Course A) (next : A → Course B)
    (made : List Step) (x : X) (reached : Reaches Sees first made x) where
  both : and_then first next ≡ behind first.steps (next reached.value)
  both = ap (λ e. go_on first.steps e next) reached.end_is

  steps_are : (and_then first next).steps ≡ made ++ (next reached.value).steps
  steps_are = ap (λ (c : Course B). c.steps) both ∙ ap (λ xs. xs ++ (next reached.value).steps) (sym reached.all_made)

  end_is : (and_then first next).end ≡ (next reached.value).end
  end_is = ap (λ (c : Course B). c.end) both

  stops_next : (more : List Step) (reason : Stop) → Stops (next reached.value) more reason → Stops (and_then first next)
      (made ++ more) reason
  stops_next more reason s = record {
    all_made = ap (λ xs. made ++ xs) s.all_made ∙ sym steps_are;
    end_is = end_is ∙ s.end_is;
  }

  begins_to_read_next : (more : List Step) → BeginsToRead (next reached.value) more → BeginsToRead (and_then first next)
      (made ++ more)
  begins_to_read_next more b =
      record {
        before = made ++ b.before;
        file = b.file;
        rest = b.rest;
        made_is = ap (λ xs. made ++ xs) b.made_is ∙ sym (append_assoc made b.before (reads b.file ∷ []));
        steps_are = steps_are ∙ ap (λ xs. made ++ xs) b.steps_are
            ∙ sym (append_assoc made b.before (reads b.file ∷ b.rest));
      }

  -- what follows the next course with its value follows both
  pub follows_then : (rose : Type 0) (more : List Step) (answer : Result Y Stop) → Follows SeesNext rose
      (next reached.value) more answer → Follows SeesNext rose (and_then first next) (made ++ more) answer
  follows_then rose more (Ok y) f = record {
    all_made = ap (λ xs. made ++ xs) f.all_made ∙ sym steps_are;
    value = f.value;
    end_is = end_is ∙ f.end_is;
    sees = f.sees;
  }
  follows_then rose more (Err stop.Usage) f = f
  follows_then rose more (Err stop.ReadFault) (inl (up, b)) = inl (up, begins_to_read_next more b)
  follows_then rose more (Err stop.ReadFault) (inr s) = inr (stops_next more stop.ReadFault s)
  follows_then rose more (Err (stop.TextRefused fault)) f = stops_next more (stop.TextRefused fault) f
  follows_then rose more (Err (stop.ProfileRefused fault)) f = stops_next more (stop.ProfileRefused fault) f
  follows_then rose more (Err stop.WriteFault) f = f
  follows_then rose more (Err stop.Memory) f =
      record {
        rest = f.rest;
        steps_are = steps_are ∙ ap (λ xs. made ++ xs) f.steps_are
            ∙ sym (append_assoc made more f.rest);
      }
  follows_then rose more (Err (stop.NoCounter text)) f = stops_next more (stop.NoCounter text) f

-- ---- a count that rose
-- what follows a course where a count rose follows it where another one did
pub follows_rose : {A X : Type 0} (Sees : A → X → Type 0) (rose other : Type 0) (course : Course A) (made : List Step)
    (answer : Result X Stop) → (rose → other) → Follows Sees rose course made answer → Follows Sees other course made
    answer
follows_rose Sees rose other course made (Ok x) so f = f
follows_rose Sees rose other course made (Err stop.Usage) so f = f
follows_rose Sees rose other course made (Err stop.ReadFault) so (inl (up, b)) = inl (so up, b)
follows_rose Sees rose other course made (Err stop.ReadFault) so (inr s) = inr s
follows_rose Sees rose other course made (Err (stop.TextRefused fault)) so f = f
follows_rose Sees rose other course made (Err (stop.ProfileRefused fault)) so f = f
follows_rose Sees rose other course made (Err stop.WriteFault) so f = f
follows_rose Sees rose other course made (Err stop.Memory) so f = f
follows_rose Sees rose other course made (Err (stop.NoCounter text)) so f = f
