use Rattle.std.proofs.Common.{◌≡◌, ◌+◌, ℕ, List, drop}
use Rattle.vir_profile.specs.declared.ballot.Entry.{Entry}
use Rattle.vir_profile.specs.Profiles.{pairwise_weight}
use Rattle.vir_tables.proofs.pairs.pairwise_weights_of.Given as goal

pub record SoFar (lines : List Entry) (x y i before behind : ℕ) : Type 0 where
  pub first : before + pairwise_weight (drop i lines) x y ≡ pairwise_weight lines x y
  pub second : behind + pairwise_weight (drop i lines) y x ≡ pairwise_weight lines y x

abbrev pub invariant-loop-line : goal.invariant-loop-line
invariant-loop-line l = SoFar l.lines l.x l.y l.line-index l.before l.behind
