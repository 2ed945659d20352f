use Rattle.vir_term.specs.Tree.{tree}
use Rattle.vir_mean.specs.Meaning.{mean}
use Rattle.vir_find.proofs.ExchangedProfiles.{violated_by_exchange}
use Rattle.vir_find.proofs.trying.is_violated_by_exchange.Goals as goal

pub returns : goal.returns
returns c =
    violated_by_exchange (mean (tree c.args.term.now)) c.args.profile.now c.in_ok-other.other c.args.i
    c.in_ok-before.before c.in_ok-after.after c.requires.inside.0 c.requires.inside.1 c.in_ok-other.ensures
    c.in_ok-before.ensures c.in_ok-after.ensures c.is_exchanged.result c.is_exchanged.ensures
