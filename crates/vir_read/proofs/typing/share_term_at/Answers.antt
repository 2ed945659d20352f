use Rattle.std.proofs.Common.{◌≡◌, Result, Ok, Err}
use Rattle.std.specs.Prelude.{IfOk}
use Rattle.vir_term.specs.Tree.{Tree}
use Rattle.vir_term.specs.Limits.{IsWithinLimits}
use Rattle.vir_read.specs.declared.shared_term.SharedTerm.{SharedTerm}
use Rattle.vir_read.specs.declared.text_fault.TextError.{TextError}
use Rattle.vir_read.specs.Faults.{OrFault, Gives}
use Rattle.vir_read.specs.RawTrees.{raw_tree}
use Rattle.vir_read.specs.SharedTerms.{tree}
use Rattle.vir_read.proofs.LimitLemmas.{term_of_within}
use Rattle.vir_read.proofs.typing.share_term_at.Goals as goal

accepted : (result : Result (SharedTerm) TextError) (meant : OrFault Tree)
    → Gives tree result meant
    → ((t : Tree) → meant ≡ Ok t → IsWithinLimits t)
    → IfOk result (λ (term : SharedTerm). IsWithinLimits (tree term))
accepted (Ok term) meant h within = within (tree term) h
accepted (Err e) meant h within = tt

pub returns-clause-within : goal.returns-clause-within
returns-clause-within g c =
    let names = g.M.SharedNames.meaning c.args.names.now in
    accepted c.term_in_size.result _ c.term_in_size.ensures (term_of_within c.args.text.now names c.requires c.args.at
    (raw_tree c.args.raw.now))
