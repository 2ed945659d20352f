use Rattle.std.proofs.Common.{◌∙◌, refl}
use Rattle.vir_derive.proofs.SignatureLemmas.{copied}
use Rattle.vir_derive.proofs.term_signature.Signature.copy.Goals as goal

pub returns : goal.returns
returns c = λ numbers t h. copied numbers c.args.self.now _ t (c.in_ok-numbers.ensures.items ∙ c.deref.ensures.value)
    (λ q. refl) c.in_ok-head.ensures h
