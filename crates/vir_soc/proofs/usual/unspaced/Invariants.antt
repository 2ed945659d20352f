use Rattle.std.proofs.Common.{◌≡◌, ◌<◌, ◌+◌, ◌-◌, ℕ, List, drop, length, nat_eq}
use Rattle.std.specs.List.{prefix_len}
use Rattle.vir_soc.specs.Reader.UsualLines.{HasLineFeed}
use Rattle.vir_soc.proofs.usual.unspaced.Given as goal

pub record SoFar (text : List ℕ) (from : ℕ) : Type 0 where
  pub spaces : prefix_len (λ c. nat_eq c 32) text ≡ from + prefix_len (λ c. nat_eq c 32) (drop from text)
  pub feed : HasLineFeed (drop from text)
  pub inside : from < length text

abbrev pub invariant-loop-from : goal.invariant-loop-from
invariant-loop-from l = SoFar l.text l.from

abbrev pub decreases-loop-from : goal.decreases-loop-from
decreases-loop-from l = length l.text - l.from
