use Rattle.std.proofs.Common.{ap}
use Rattle.vir_profile.specs.Profiles.{Votes}
use Rattle.vir_refute.specs.Cases.{one}
use Rattle.vir_refute.specs.Judged.{election_of}
use Rattle.vir_term.specs.Tree.{tree}
use Rattle.vir_top.proofs.AnswerLemmas.{refute_same, works_plain}
use Rattle.vir_top.proofs.works.on_rule_and_profile.Goals as goal

pub returns-in-Refute : goal.returns-in-Refute
returns-in-Refute g c =
    rw c.in-Refute.is
    (works_plain _ _ c.refute.result
    (refute_same (tree c.args.rule.now) c.in-Refute.prop (one (election_of c.args.file.profile))
    (one (election_of c.profile-profile.result.now)) c.refute.result
    (ap (λ (v : Votes). one (election_of v)) c.profile-profile.ensures) c.refute.ensures))

pub returns-in-Explain : goal.returns-in-Explain
returns-in-Explain g c = rw c.in-Explain.is (works_plain _ _ c.explain.result c.explain.ensures)
