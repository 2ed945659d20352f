use Rattle.std.proofs.Common.{refl}
use Rattle.vir_words.specs.WordLeaves.{default_leaves}
use Rattle.vir_words.proofs.laws.default_modules_are_27.Goals as goal

pub returns : goal.returns
unfolding default_leaves
returns c = refl
