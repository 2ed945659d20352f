use Rattle.vir_altset.proofs.SplitLaws.{join_split}
use Rattle.vir_altset.proofs.laws.split_join.Goals as goal

pub returns : goal.returns
returns c = join_split
