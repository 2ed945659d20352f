use Rattle.vir_rules.specs.Forms.{form_seen}
use Rattle.vir_derive.proofs.TreeLemmas.{joins_two}
use Rattle.vir_derive.proofs.props_tree.PropsTree.join_two.Goals as goal

pub returns : goal.returns
returns c =
    joins_two (form_seen c.args.form) c.args.first c.args.second c.in_ok-first.first.value c.in_ok-second.second.value
    c.args.opposed c.own.result.now c.own-2.result.now c.of_parts-own.result
    (record { ptr = c.in_ok-first.first.ptr; alloc = c.in_ok-first.first.alloc; value = tt })
    (record { ptr = c.in_ok-second.second.ptr; alloc = c.in_ok-second.second.alloc; value = tt })
    c.in_ok-first.ensures.ok c.in_ok-second.ensures.ok c.own.ensures c.own-2.ensures c.of_parts-own.ensures.all
