use Rattle.std.proofs.Common.{◌≡◌, ◌↔◌, true, refl, subst, ◌∙◌}
use Rattle.vir_term.specs.declared.prop.Prop.{Prop}
use Rattle.vir_rules.specs.Forms.{form_seen}
use Rattle.vir_derive.specs.Numbers.{is_within}
use Rattle.vir_derive.specs.DerivableProps.{has}
use Rattle.vir_derive.specs.KeptHeads.{head_seen}
use Rattle.vir_derive.specs.Numbers.{is_listed}
use Rattle.vir_derive.proofs.SignatureLemmas.{composed_of}
use Rattle.vir_derive.proofs.term_signature.Signature.join.Goals as goal

pub returns : goal.returns
returns c = λ numbers term e is h k o hd. composed_of numbers (form_seen c.args.form) c.args.first.now c.args.second.now
    _ c.of_parts-whole.result c.args.opposed (head_seen c.args.head) term e h k o hd
    c.of_parts-whole.ensures.within (c.in_ok-numbers.ensures.items ∙ c.deref-2.ensures.value) refl
    (subst (λ ns. (q : Prop) → (has c.restrict-props.result q ≡ true) ↔ ((is_within (is_listed ns) q ≡ true)
    × (has c.of_parts-whole.result q ≡ true))) c.deref.ensures.value c.restrict-props.ensures)
