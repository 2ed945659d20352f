use Rattle.std.proofs.Common.{refl}
use Rattle.vir_cert.specs.Seen.{cert_seen}
use Rattle.vir_claims.proofs.AnswerLemmas.{told_at_once}
use Rattle.vir_claims.proofs.checking.check.Goals as goal
use Rattle.vir_course.specs.declared.answer.Answer.TheVariants.{Text}
use Rattle.vir_course.specs.Wordings.{verdict_on}
use Rattle.vir_sound.proofs.ProperTerms.{proper_in_range}
use Rattle.vir_term.specs.Tree.{tree}

pub returns-in_ok-acceptance_text-in-Accepted : goal.returns-in_ok-acceptance_text-in-Accepted
returns-in_ok-acceptance_text-in-Accepted c =
    let proper = proper_in_range (tree c.args.certificate.now.term) c.requires.term.in_range in
    told_at_once (verdict_on (cert_seen c.args.certificate.now)) (Text c.in_ok-acceptance_text-in-Accepted.field-0)
    (record {
      proof = record { valid = c.in-Accepted.ensures.verdict; true_of_all = c.in-Accepted.ensures.truth refl proper };
      text_is = c.in_ok-acceptance_text-in-Accepted.ensures;
    })
