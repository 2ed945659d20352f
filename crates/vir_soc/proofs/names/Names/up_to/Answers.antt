use Rattle.std.proofs.Common.{◌++◌, ◌∙◌, ap, sym, subst, append-nil}
use Rattle.vir_profile.specs.SocFiles.{AreNames}
use Rattle.vir_soc.specs.Names.{names_up_to}
use Rattle.vir_soc.proofs.NameLemmas.{AreNamesAbove-up_to}
use Rattle.vir_soc.proofs.names.Names.up_to.Goals as goal

pub loop-number-init : goal.loop-number-init
loop-number-init c =
    let entries = c.into_iter-number-iterator.ensures.into_iter_gives.0 ∙ c.self.view_is in
    ap (λ list. list ++ names_up_to c.args.m c.into_iter-number-iterator.result) c.new-list.ensures.items
    ∙ ap (names_up_to c.args.m) entries

pub returns-clause-names : goal.returns-clause-names
returns-clause-names c = sym (append-nil c.loop-number.list.items) ∙ rw c.in-None.ensures.steps.0 at
    c.loop-number.invariant

pub returns-clause-known : goal.returns-clause-known
returns-clause-known c =
    let names = AreNamesAbove-up_to c.args.m 0 c.self.inside.given.entries c.self.invariant in
    subst (AreNames c.args.m) (sym (returns-clause-names c ∙ ap (names_up_to c.args.m) (sym c.self.view_is))) names
