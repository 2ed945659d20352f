use Rattle.std.proofs.Common.{◌∙◌, ap, []}
use Rattle.vir_read.specs.RawTrees.{raw_tree, listed}
use Rattle.vir_read.specs.declared.raw.Raw.{Raw}
use Rattle.vir_read.specs.Arguments.{with_members, order_of}
use Rattle.vir_read.proofs.TypingLemmas.{list_of-gathered, gives_as}
use Rattle.vir_read.proofs.RawLemmas.{raw_tree-list}
use Rattle.vir_read.proofs.arguments.order_of.Goals as goal

pub returns-in-List : goal.returns-in-List
returns-in-List c =
    gives_as (λ o. o) c.order_of_members.result _ _
    (ap (λ (r : Raw). order_of c.args.text.now (raw_tree r)) c.in-List.is ∙ ap (order_of c.args.text.now)
    (raw_tree-list c.in-List.start c.in-List.members) ∙ ap (with_members c.args.text.now [])
    (list_of-gathered (listed c.in-List.members)))
    c.order_of_members.ensures
