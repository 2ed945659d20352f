use Rattle.std.proofs.Common.{◌≡◌, ◌∙◌, true, ap}
use Rattle.vir_term.specs.Kinds.{kind_of}
use Rattle.vir_counter.specs.Kinds.{has_kind}
use Rattle.vir_counter.specs.PositionalKinds.{served_kinds}
use Rattle.vir_counter.proofs.ServedSplits.{served_split}
use Rattle.vir_counter.proofs.positional_counter.PositionalCounterCounter.split.Goals as goal

pub returns-clause-meaning : goal.returns-clause-meaning
returns-clause-meaning g c =
    let kept = g.W.Weighing.kept c.self.inside.rule in
    let served : has_kind (served_kinds kept) (kind_of c.args.leaf.now) ≡ true =
    ap (λ v. has_kind (served_kinds v.0) (kind_of c.args.leaf.now)) c.self.view_is ∙ c.requires.served in
    c.positional_split.ensures.exact
    ∙ served_split c.args.leaf.now c.elimination_of.result kept c.args.domain.now c.args.election.now.profile
    c.alternatives-alternatives.ensures.limits c.requires.part served c.elimination_of.ensures
