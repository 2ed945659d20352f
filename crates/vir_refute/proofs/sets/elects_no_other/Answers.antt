use Rattle.std.proofs.Common.{sym, ap, ◌∙◌}
use Rattle.std.specs.FinSet as set
use Rattle.vir_refute.proofs.NoOther.{no_other_member, without_others}
use Rattle.vir_refute.proofs.sets.elects_no_other.Goals as goal

pub returns : goal.returns
returns c =
    let others = c.minus.ensures ∙ ap (set.difference c.args.elected.now) c.just.ensures in (
      λ none. no_other_member c.args.elected.now c.args.w (sym others ∙ c.is_none.ensures.0 none),
      λ alone.
          c.is_none.ensures.1 (others ∙ without_others c.args.elected.now c.args.w alone),
    )
