use Rattle.std.proofs.Common.{false, List, ℕ, refl, ◌∙◌}
use Rattle.vir_term.specs.Tree.{Tree, rev}
use Rattle.vir_rules.specs.Forms as form
use Rattle.vir_derive.specs.KeptHeads.{head_seen}
use Rattle.vir_derive.specs.Signatures.{IsSignatureOf, JoinsParts}
use Rattle.vir_derive.proofs.SignatureLemmas.{ok_maps, never_opposed}
use Rattle.vir_derive.proofs.signatures.rev_signature.Goals as goal

pub returns : goal.returns
returns c = ok_maps (JoinsParts form.rev c.args.m.now c.args.m.now false (head_seen c.in_ok-head.head))
    (λ s. (numbers : List ℕ) → (t : Tree) → IsSignatureOf numbers c.args.m.now t → IsSignatureOf numbers s (rev t))
    c.join.result c.join.ensures
    (λ s composed numbers t h. composed numbers (rev t) refl refl h h (never_opposed t) (c.in_ok-head.ensures
    ∙ h.head_is))
