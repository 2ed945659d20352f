use Rattle.vir_altset.proofs.SplitLaws.{len-split}
use Rattle.vir_altset.proofs.laws.split_sizes.Goals as goal

pub returns : goal.returns
returns c = len-split
