-- Positional scores, and the eliminators that go by them.
use Rattle.std.specs.Prelude.{ℕ, ◌*◌, List, sum_by, ℤ, pos}
use Rattle.std.specs.FinSet as set
use Rattle.vir_altset.specs.Sets.{Set}
use Rattle.vir_altset.specs.declared.split.Split.{Split}
use Rattle.vir_profile.specs.declared.ballot.Entry.{Entry}
use Rattle.vir_mean.specs.declared.elimination.Elimination.{Elimination}
use Rattle.vir_mean.specs.Eliminators.{goes, eliminated}
use Rattle.vir_mean.specs.FixedOrders.{place}
use Rattle.vir_positional.specs.declared.weight_form.WeightForm.{WeightForm}
use Rattle.vir_positional.specs.Weights.{weight_of}

-- what x gets from the voters, by the weight that each place has: from each voter the weight of x's place, which is how
-- many stand before it
abbrev pub weighed : (ℕ → ℕ) → List Entry → ℕ → ℕ
weighed weigh lines x = sum_by (λ line. line.weight * weigh (place x line.order)) lines

-- the positional score of x on a set, which has as many places as the set has members
abbrev pub positional : WeightForm → Set → List Entry → ℕ → ℤ
positional form a lines x = pos (weighed (λ i. weight_of form i (set.len a)) lines x)

-- the split of the eliminator of this kind by that score
abbrev pub positional_split : Elimination → WeightForm → Set → List Entry → Split
positional_split kind form a lines = eliminated a (set.retain a (goes kind (positional form a lines) a))
