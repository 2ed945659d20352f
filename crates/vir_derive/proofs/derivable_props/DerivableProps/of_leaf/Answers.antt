use Rattle.vir_term.specs.Tree.{leaf}
use Rattle.vir_derive.proofs.Telling.{module_seen}
use Rattle.vir_derive.proofs.derivable_props.DerivableProps.of_leaf.Goals as goal

pub returns : goal.returns
returns c = c.of_parts.ensures.all (leaf c.args.leaf.now) (module_seen c.args.leaf.now _ _ _)
