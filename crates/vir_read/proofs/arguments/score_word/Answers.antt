use Rattle.std.proofs.Common.{◌≡◌, ℕ, ◌<◌, Bool, false, nat_eq, ◌∙◌, arith, ap, sym}
use Rattle.std.proofs.lemmas.Bool.Decides.{nat_tests}
use Rattle.vir_read.specs.RawTrees.{listed, gathered}
use Rattle.vir_read.specs.Arguments.{as_score, is_known}
use Rattle.vir_read.proofs.TypingLemmas.{no_parts, fails_fault}
use Rattle.vir_read.proofs.arguments.score_word.Goals as goal

some : (b : Bool) (n : ℕ) → b ≡ nat_eq n 0 → b ≡ false → 0 < n
some b n e h = grind (arith, nat_tests)

pub returns-in-Some-2 : goal.returns-in-Some-2
returns-in-Some-2 g c = fails_fault _ _ _ c.fault.ensures
    (ap (as_score c.args.at (gathered (listed c.args.parts.now)) (is_known (g.M.SharedNames.meaning c.args.names.now)
    c.args.name.now)) (sym c.in-Some-2.ensures)
    ∙ no_parts c.args.at (listed c.args.parts.now) _ c.in-Some-2.field-0
    (some _ _ c.is_empty.ensures c.if-is_empty.false))
