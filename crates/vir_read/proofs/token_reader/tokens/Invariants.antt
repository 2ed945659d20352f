use Rattle.std.proofs.Common.{◌≡◌, ◌-◌, ◌≤◌, length, drop}
use Rattle.vir_read.specs.Tokens.{tokens_from, tokens_of}
use Rattle.vir_read.proofs.FrontLemmas.{with_tokens}
use Rattle.vir_read.proofs.token_reader.tokens.Given as goal

abbrev pub invariant-loop-at : goal.invariant-loop-at
invariant-loop-at l = (with_tokens l.list.items (tokens_from 0 l.at (drop l.at l.text)) ≡ tokens_of l.text)
    × (l.at ≤ length l.text)

abbrev pub decreases-loop-at : goal.decreases-loop-at
decreases-loop-at l = length l.text - l.at
