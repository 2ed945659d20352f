use Rattle.std.proofs.Common.{◌≡◌, ◌≤◌, ◌<◌, ◌-◌, length, ℕ, List, drop, take, decimal}
use Rattle.vir_soc.specs.Reader.UsualLines.{HasLineFeed}
use Rattle.vir_soc.proofs.usual.leading_number.Given as goal

pub record SoFar (text : List ℕ) (i number : ℕ) : Type 0 where
  pub digits : take i text ≡ decimal number
  pub some : 1 ≤ number
  pub begun : 1 ≤ i
  pub feed : HasLineFeed (drop i text)
  pub inside : i < length text

abbrev pub invariant-loop-i : goal.invariant-loop-i
invariant-loop-i l = SoFar l.text l.i l.number

abbrev pub decreases-loop-i : goal.decreases-loop-i
decreases-loop-i l = length l.text - l.i
