use Rattle.vir_course.specs.Reports.{count_text}
use Rattle.vir_course.specs.Wordings.{exactly, report_of}
use Rattle.vir_top.proofs.DueLemmas.{counting_lacks, lacking_due}
use Rattle.vir_top.proofs.laws.unserved_modules_are_told.Goals as goal
use Rattle.vir_words.specs.declared.command.RuleProfileWork.TheVariants.{Count, Report}

pub returns-clause-count : goal.returns-clause-count
returns-clause-count c = λ kinds all rule profile status l due.
    lacking_due all rule profile kinds Count status l
    (counting_lacks kinds all rule profile l _ (exactly (count_text l.term l.file.profile))) due

pub returns-clause-report : goal.returns-clause-report
returns-clause-report c = λ kinds all rule profile status l due.
    lacking_due all rule profile kinds Report status l
    (counting_lacks kinds all rule profile l _ (report_of l.term l.file)) due
