use Rattle.std.proofs.Common.{◌≡◌, ◌+◌, ◌∷◌, Bool, true, false, [], take, drop, get_or}
use Rattle.std.proofs.Common.{ap, ◌∙◌, refl, arith}
use Rattle.std.proofs.lemmas.List.{take_more, get_or-drop, length-drop}
use Rattle.vir_profile.specs.SocFiles.{is_line_feed}
use Rattle.vir_soc.specs.Reader.Pieces.{unended}
use Rattle.vir_soc.proofs.AnyLemmas.{list_any-fails}
use Rattle.vir_soc.proofs.LineLemmas.{unended_append, unended_at}
use Rattle.vir_soc.proofs.bytes.ended_len.Goals as goal

not_true : (b : Bool) → ¬ (b ≡ true) → b ≡ false
not_true true h = absurd (h refl)
not_true false h = refl

pub returns-in-Some-clause-ended : goal.returns-in-Some-clause-ended
unfolding unended
returns-in-Some-clause-ended c =
    let bytes = c.args.bytes.now in
    let place = c.in-Some.place in
    ap (unended []) (take_more bytes place 0 c.in-Some.ensures.0.high)
    ∙ unended_append [] (take place bytes) (get_or bytes place 0 ∷ [])
    ∙ unended_at (unended [] (take place bytes)) (get_or bytes place 0) [] c.in-Some.ensures.1

pub returns-in-Some-clause-begun : goal.returns-in-Some-clause-begun
returns-in-Some-clause-begun c =
    let bytes = c.args.bytes.now in
    let from = c.in-Some.place + 1 in
    let n = length-drop from bytes in
    list_any-fails is_line_feed (drop from bytes) 0 (λ k l. ap is_line_feed (get_or-drop from bytes k 0)
    ∙ not_true _ (c.in-Some.ensures.0.after (from + k) (omega arith) (omega arith)))

pub returns-in-None-clause-ended : goal.returns-in-None-clause-ended
unfolding unended
returns-in-None-clause-ended c = refl

pub returns-in-None-clause-begun : goal.returns-in-None-clause-begun
returns-in-None-clause-begun c =
    list_any-fails is_line_feed c.args.bytes.now 0 (λ k l. not_true _ (c.in-None.ensures k (omega arith) l))
