use Rattle.std.proofs.Common.{List, ℕ, None, refl}
use Rattle.vir_term.specs.Tree.{Tree, par}
use Rattle.vir_rules.specs.Forms as form
use Rattle.vir_derive.specs.KeptHeads.{head_seen}
use Rattle.vir_derive.specs.Signatures.{IsSignatureOf, JoinsParts}
use Rattle.vir_derive.proofs.SignatureLemmas.{ok_maps, heads_opposed}
use Rattle.vir_derive.proofs.signatures.par_signature.Goals as goal

pub returns : goal.returns
returns c = ok_maps (JoinsParts form.par c.args.m.now c.args.n.now c.oppose-opposed.result (head_seen None))
    (λ s. (numbers : List ℕ) → (t u : Tree) → IsSignatureOf numbers c.args.m.now t → IsSignatureOf numbers c.args.n.now
    u → IsSignatureOf numbers s (par t u)) c.join.result c.join.ensures
    (λ s composed numbers t u h k. composed numbers (par t u) refl refl h k (heads_opposed numbers c.args.m.now
    c.args.n.now t u c.oppose-opposed.result h k c.oppose-opposed.ensures) refl)
