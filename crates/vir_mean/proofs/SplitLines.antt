-- A meaning depends on the lines of a profile through sums of their weights alone.
use Rattle.std.proofs.Common.{◌≡◌, ℕ, zero, suc, ◌+◌, Bool, true, false, cond, ◌||◌, not, nat_eq, nat_lt, List, [], ◌∷◌}
use Rattle.std.proofs.Common.{◌++◌, filter, refl, sym, ap, ap₂, ◌∙◌, arith, pos, ◌-ℤ◌}
use Rattle.std.proofs.lemmas.List.Sums.{sum_by-cons}
use Rattle.std.specs.FinSet as set
use Rattle.std.specs.List.{list_all}
use Rattle.vir_altset.specs.Sets.{Set}
use Rattle.vir_altset.specs.Splits.{bit}
use Rattle.vir_altset.specs.declared.split.Split.{Split}
use Rattle.vir_profile.specs.declared.ballot.Entry.{Entry}
use Rattle.vir_profile.specs.Orders.{puts_before, begins_with}
use Rattle.vir_profile.specs.Profiles.{restrict, restricted_line, weight_where}
use Rattle.vir_term.specs.declared.leaf.Leaf.{Leaf}
use Rattle.vir_term.specs.declared.leaf.Leaf.TheVariants as leaf
use Rattle.vir_term.specs.declared.score.Score.{Score}
use Rattle.vir_term.specs.declared.score.Score.TheVariants.{Plurality, Borda, Copeland, Minimax, Condorcet}
use Rattle.vir_term.specs.Tree.{End, Tree, leaf as module_of, rev, seq, par, loop}
use Rattle.vir_mean.specs.declared.elimination.Elimination.{Elimination}
use Rattle.vir_mean.specs.declared.elimination.Elimination.TheVariants.{Max, Min, Below, Upto}
use Rattle.vir_mean.specs.Listings.{others, total, least}
use Rattle.vir_mean.specs.Scores.{score}
use Rattle.vir_mean.specs.Eliminators.{is_passed, goes, eliminated, eliminator}
use Rattle.vir_mean.specs.Modules.{Meaning, leaf_mean, all_deferred}
use Rattle.vir_mean.specs.Compositions.{rev_of, seq_of, par_of, is_end, joined, merged, turn, turns}
use Rattle.vir_mean.specs.Meaning.{mean}

-- whichever orders are asked for, as many voters cast them
abbrev Alike : List Entry → List Entry → Type 0
Alike p q = (test : List ℕ → Bool) → weight_where test p ≡ weight_where test q

-- then the meaning is the same
abbrev GoesByWeights : Meaning → Type 0
GoesByWeights m = (a : Set) (p q : List Entry) → Alike p q → m a p ≡ m a q

weight_where-cons : (test : List ℕ → Bool) (line : Entry) (lines : List Entry) → weight_where test (line ∷ lines)
    ≡ cond (test line.order) line.weight 0 + weight_where test lines
weight_where-cons test line lines = sum_by-cons (λ e. cond (test e.order) e.weight 0) line lines

-- the weights of restricted lines, by a test of the whole ones
weight_where-restrict : (test : List ℕ → Bool) (d : Set) (lines : List Entry) → weight_where test (restrict d lines)
    ≡ weight_where (λ order. test (filter (set.contains d) order)) lines
weight_where-restrict test d [] = refl
weight_where-restrict test d (line ∷ lines) =
    weight_where-cons test (restricted_line d line) (restrict d lines)
    ∙ ap (λ n. cond (test (filter (set.contains d) line.order)) line.weight 0 + n) (weight_where-restrict test d lines)
    ∙ sym (weight_where-cons (λ order. test (filter (set.contains d) order)) line lines)

alike_restricted : (d : Set) (p q : List Entry) → Alike p q → Alike (restrict d p) (restrict d q)
alike_restricted d p q alike test =
    weight_where-restrict test d p ∙ alike (λ order. test (filter (set.contains d) order))
    ∙ sym (weight_where-restrict test d q)

score-alike : (named : Score) (a : Set) (p q : List Entry) → Alike p q → score named a p ≡ score named a q
score-alike Plurality a p q alike = λ i x. pos (alike (begins_with x) i)
score-alike Borda a p q alike = λ i x. pos (total (λ y. alike (puts_before x y) i) (others x a))
score-alike Copeland a p q alike = λ i x.
    pos (set.len (set.retain a (λ y. nat_lt (alike (puts_before y x) i) (alike (puts_before x y) i))))
    -ℤ pos (set.len (set.retain a (λ y. nat_lt (alike (puts_before x y) i) (alike (puts_before y x) i))))
score-alike Minimax a p q alike = λ i x. pos (least (λ y. alike (puts_before x y) i) (others x a))
score-alike Condorcet a p q alike = λ i x.
    pos (bit (list_all (λ y. nat_eq y x || nat_lt (alike (puts_before y x) i) (alike (puts_before x y) i))
    (set.items a)))

eliminator-alike : (kind : Elimination) (named : Score) → GoesByWeights (eliminator kind named)
eliminator-alike kind named a p q alike = ap (λ f. eliminated a (set.retain a (goes kind f a)))
    (score-alike named a p q alike)

leaf_mean-alike : (l : Leaf) → GoesByWeights (leaf_mean l)
leaf_mean-alike leaf.Elect a p q alike = refl
leaf_mean-alike leaf.Defer a p q alike = refl
leaf_mean-alike (leaf.PassFirst k order) a p q alike = refl
leaf_mean-alike (leaf.DropFirst k order) a p q alike = refl
leaf_mean-alike leaf.Plurality a p q alike =
    ap (λ f. let winners = set.retain a (λ x. not (is_passed f a x))
    in record { elected = winners; rejected = set.difference a winners; deferred = set.empty })
    (score-alike Plurality a p q alike)
leaf_mean-alike (leaf.Max named) a p q alike = eliminator-alike Max named a p q alike
leaf_mean-alike (leaf.Min named) a p q alike = eliminator-alike Min named a p q alike
leaf_mean-alike (leaf.Below named) a p q alike = eliminator-alike Below named a p q alike
leaf_mean-alike (leaf.Upto named) a p q alike = eliminator-alike Upto named a p q alike

rev_of-alike : (part : Meaning) → GoesByWeights part → GoesByWeights (rev_of part)
rev_of-alike part by_part a p q alike =
    ap (λ (s : Split). record { elected = set.empty; rejected = set.difference a s.elected; deferred = s.elected })
    (by_part a p q alike)

seq_of-alike : (first second : Meaning) → GoesByWeights first → GoesByWeights second
    → GoesByWeights (seq_of first second)
seq_of-alike first second by_first by_second a p q alike =
    ap (joined (first a p)) (by_second (first a p).deferred _ _ (alike_restricted (first a p).deferred p q alike))
    ∙ ap (λ (s : Split). joined s (second s.deferred (restrict s.deferred q))) (by_first a p q alike)

par_of-alike : (first second : Meaning) → GoesByWeights first → GoesByWeights second
    → GoesByWeights (par_of first second)
par_of-alike first second by_first by_second a p q alike = ap₂ merged (by_first a p q alike) (by_second a p q alike)

turn-alike : (k : End) (body next : Meaning) → GoesByWeights body → GoesByWeights next
    → GoesByWeights (turn k body next)
turn-alike k body next by_body by_next a p q alike =
    ap (λ later. cond (is_end k (set.len a) || set.is_subset a (body a p).deferred) (all_deferred a p)
    (joined (body a p) later))
    (by_next (body a p).deferred _ _ (alike_restricted (body a p).deferred p q alike))
    ∙ ap (λ (s : Split). cond (is_end k (set.len a) || set.is_subset a s.deferred) (all_deferred a p)
    (joined s (next s.deferred (restrict s.deferred q)))) (by_body a p q alike)

turns-alike : (most : ℕ) (k : End) (body : Meaning) → GoesByWeights body → GoesByWeights (turns most k body)
unfolding turns
turns-alike zero k body by_body a p q alike = refl
turns-alike (suc most) k body by_body a p q alike = turn-alike k body (turns most k body) by_body
    (turns-alike most k body by_body) a p q alike

mean-alike : (t : Tree) → GoesByWeights (mean t)
mean-alike (module_of l) a p q alike = leaf_mean-alike l a p q alike
mean-alike (rev part) a p q alike = rev_of-alike (mean part) (mean-alike part) a p q alike
mean-alike (seq first second) a p q alike = seq_of-alike (mean first) (mean second) (mean-alike first)
    (mean-alike second) a p q alike
mean-alike (par first second) a p q alike = par_of-alike (mean first) (mean second) (mean-alike first)
    (mean-alike second) a p q alike
mean-alike (loop k body) a p q alike = turns-alike (set.len a) k (mean body) (mean-alike body) a p q alike

-- a line may be split into two with the same order
weight_where-split_line : (test : List ℕ → Bool) (p q : List Entry) (v w : ℕ) (order : List ℕ)
    → weight_where test (p ++ record { weight = v + w; order = order } ∷ q)
    ≡ weight_where test (p ++ record { weight = v; order = order } ∷ record { weight = w; order = order } ∷ q)
weight_where-split_line test [] q v w order =
    weight_where-cons test (record { weight = v + w; order = order }) q
    ∙ step (test order) (weight_where test q)
    ∙ ap (λ n. cond (test order) v 0 + n) (sym (weight_where-cons test (record { weight = w; order = order }) q))
    ∙ sym (weight_where-cons test (record { weight = v; order = order }) (record { weight = w; order = order } ∷ q))
  where
    step : (b : Bool) (n : ℕ) → cond b (v + w) 0 + n ≡ cond b v 0 + (cond b w 0 + n)
    step true n = omega arith
    step false n = omega arith
weight_where-split_line test (line ∷ p) q v w order =
    weight_where-cons test line (p ++ record { weight = v + w; order = order } ∷ q)
    ∙ ap (λ n. cond (test line.order) line.weight 0 + n) (weight_where-split_line test p q v w order)
    ∙ sym (weight_where-cons test line (p ++ record { weight = v; order = order } ∷ record { weight = w; order = order }
    ∷ q))

pub mean-split_line : (t : Tree) (a : Set) (p q : List Entry) (v w : ℕ) (order : List ℕ)
    → mean t a (p ++ record { weight = v + w; order = order } ∷ q) ≡ mean t a (p ++ record { weight = v; order = order }
    ∷ record { weight = w; order = order } ∷ q)
mean-split_line t a p q v w order = mean-alike t a _ _ (λ test. weight_where-split_line test p q v w order)
