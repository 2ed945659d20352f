use Rattle.std.proofs.Common.{◌≡◌, ◌↔◌, Bool, true, sym, ◌∙◌, ap, subst}
use Rattle.vir_term.specs.Tree.{tree}
use Rattle.vir_rules.specs.Claims.{of}
use Rattle.vir_rules.specs.Derivations.{Derivable}
use Rattle.vir_derive.specs.DerivableProps.{has}
use Rattle.vir_derive.proofs.Deciding.{settled_tree}
use Rattle.vir_derive.proofs.TreeLemmas.{own_tells}
use Rattle.vir_derive.proofs.derivations.Derivations.derives.Goals as goal

pub returns : goal.returns
returns c =
    let term = tree c.args.self.now.term.now in
    let tells = own_tells c.args.self.now.props term (settled_tree c.args.self.now.props term c.args.self.now.its_props)
    c.args.prop in
    subst (λ (b : Bool). (b ≡ true) ↔ Derivable (of c.args.prop term))
    (sym (c.has.ensures ∙ ap (λ s. has s c.args.prop) c.own.ensures)) tells
