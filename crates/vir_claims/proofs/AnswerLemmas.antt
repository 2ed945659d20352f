-- Answers that are as a course has them which comes to its end at once.
use Rattle.std.proofs.Common.{[], refl}
use Rattle.vir_course.specs.Courses.{Reaches, gives}
use Rattle.vir_course.specs.declared.answer.Answer.{Answer}
use Rattle.vir_course.specs.Wordings.{Tells, Wording}

pub told_at_once : (wording : Wording) (answer : Answer) → Tells wording answer
    → Reaches Tells (gives wording) [] answer
told_at_once wording answer tells = record { all_made = refl; value = wording; end_is = refl; sees = tells }
