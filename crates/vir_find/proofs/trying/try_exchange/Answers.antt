use Rattle.std.proofs.Common.{ap, sym, subst}
use Rattle.vir_profile.specs.Profiles.{Votes}
use Rattle.vir_term.specs.Tree.{tree}
use Rattle.vir_term.specs.declared.prop.Prop.TheVariants.{Neut}
use Rattle.vir_mean.specs.Meaning.{mean}
use Rattle.vir_refute.specs.Cases.{renamed}
use Rattle.vir_refute.specs.Judged.{election_of}
use Rattle.vir_refute.specs.Violations.{Violates}
use Rattle.vir_find.specs.Exchanges.{exchanging}
use Rattle.vir_find.specs.Trials.{exchange_case}
use Rattle.vir_find.proofs.PlacesAndLines.{first_alone}
use Rattle.vir_find.proofs.trying.try_exchange.Goals as goal

pub returns-in_ok-profile : goal.returns-in_ok-profile
returns-in_ok-profile c =
    first_alone (Violates Neut (mean (tree c.args.term.now)))
    (renamed (election_of c.in_ok-profile.profile) (exchanging c.args.i))
    (exchange_case c.args.profile.now.alternatives c.args.profile.now.lines c.args.i)
    (ap (λ (v : Votes). renamed (election_of v) (exchanging c.args.i)) c.in_ok-profile.ensures)
    (subst (λ (v : Votes). Violates Neut (mean (tree c.args.term.now)) (renamed (election_of v) (exchanging c.args.i)))
    (sym c.in_ok-profile.ensures) (c.in_ok-violated.ensures.0 c.if-violated.true))
