use Rattle.vir_mean.proofs.SplitLines.{mean-split_line}
use Rattle.vir_mean.proofs.laws.line_may_be_split.Goals as goal

pub returns : goal.returns
returns c = λ t a p q v w o. mean-split_line t a p q v w o
