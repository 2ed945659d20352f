use Rattle.vir_rules.specs.Forms.{form_seen}
use Rattle.vir_derive.proofs.TreeLemmas.{joins_one}
use Rattle.vir_derive.proofs.props_tree.PropsTree.join_one.Goals as goal

pub returns : goal.returns
returns c =
    joins_one (form_seen c.args.form) c.args.part c.in_ok-new.field-0.value c.own-inner.result.now c.of_parts-own.result
    (record { ptr = c.in_ok-new.field-0.ptr; alloc = c.in_ok-new.field-0.alloc; value = tt }) c.in_ok-new.ensures.ok
    c.own-inner.ensures c.of_parts-own.ensures.all
