use Rattle.vir_course.specs.Reports.{count_text}
use Rattle.vir_course.specs.Wordings.{exactly, report_of}
use Rattle.vir_top.proofs.DueLemmas.{accepted_due, counting_is}
use Rattle.vir_top.proofs.laws.accepted_files_are_counted.Goals as goal
use Rattle.vir_words.specs.declared.command.RuleProfileWork.TheVariants.{Count, Report}

pub returns-clause-count : goal.returns-clause-count
returns-clause-count c = λ kinds all rule profile status a due.
    accepted_due all rule profile kinds Count status a (exactly (count_text a.term a.file.profile))
    (counting_is kinds all rule profile a _ (exactly (count_text a.term a.file.profile))) (λ told never. never) due

pub returns-clause-report : goal.returns-clause-report
returns-clause-report c = λ kinds all rule profile status a due.
    accepted_due all rule profile kinds Report status a (report_of a.term a.file)
    (counting_is kinds all rule profile a _ (report_of a.term a.file)) (λ told never. never) due
