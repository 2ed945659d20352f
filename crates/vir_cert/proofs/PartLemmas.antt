-- Parts of trees in a list: the one at a place.
use Rattle.std.proofs.Common.{◌≡◌, ℕ, zero, suc, ◌+◌, ◌≤◌, List, [], ◌∷◌, Some, drop, slice_get, ap}
use Rattle.std.proofs.Common.{arith, ◌&&◌, sym}
use Rattle.vir_read.specs.RawTrees.{RawTree, RawTrees, word, number, bracket, none, more, gathered}
use Rattle.vir_rules.specs.RuleTrees.{RuleTree, size, size_of_all}
use Rattle.vir_rules.specs.RuleTrees as rule
use Rattle.vir_cert.specs.Untils.{until_at, until_in, or_else}
use Rattle.vir_cert.specs.Texts.{have_rules_up_to, has_rules_up_to}
use Rattle.vir_read.proofs.DropLemmas.{drop_here}

-- how large a tree is, as a measure
abbrev mutual
  pub heft : RawTree → ℕ
  heft (word start end parts) = 1 + hefts parts
  heft (number start end) = 1
  heft (bracket start members) = 1 + hefts members

  pub hefts : RawTrees → ℕ
  hefts none = 0
  hefts (more t rest) = heft t + hefts rest

pub heft_at : (trees : List RawTree) (i : ℕ) (t : RawTree) → Some t ≡ slice_get trees i
    → heft t ≤ hefts (gathered trees)
heft_at [] i t is = absurd cc
heft_at (first ∷ rest) zero t is = let same : t ≡ first = cc in rw same (omega arith)
heft_at (first ∷ rest) (suc i) t is = let below : heft t ≤ hefts (gathered rest) = heft_at rest i t is in omega arith

pub size_at : (trees : List RuleTree) (i : ℕ) (t : RuleTree) → Some t ≡ slice_get trees i → size t ≤ size_of_all
    (rule.gathered trees)
size_at [] i t is = absurd cc
size_at (first ∷ rest) zero t is = let same : t ≡ first = cc in rw same (omega arith)
size_at (first ∷ rest) (suc i) t is = let below : size t ≤ size_of_all (rule.gathered rest) = size_at rest i t is
    in omega arith

-- the new word from a place on
pub until_in_at : (text : List ℕ) (trees : List RawTree) (i : ℕ) (t : RawTree) → Some t ≡ slice_get trees i →
    until_in text (gathered (drop i trees)) ≡ or_else (until_at text t) (until_in text (gathered (drop (i + 1) trees)))
until_in_at text trees i t is = ap (λ ts. until_in text (gathered ts)) (drop_here trees i t (sym is))

-- rules up to a number from a place on
pub have_rules_up_to_at : (last : ℕ) (trees : List RuleTree) (i : ℕ) (t : RuleTree) → Some t ≡ slice_get trees i →
    have_rules_up_to last (rule.gathered (drop i trees))
    ≡ (has_rules_up_to last t && have_rules_up_to last (rule.gathered (drop (i + 1) trees)))
have_rules_up_to_at last trees i t is = ap (λ ts. have_rules_up_to last (rule.gathered ts))
    (drop_here trees i t (sym is))
