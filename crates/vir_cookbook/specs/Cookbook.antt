-- The terms that the rule files of the cookbook, examples/rules, are read as.
-- (The program's promises don't stand on this file.)
use Rattle.std.specs.Prelude.{[], ◌∷◌}
use Rattle.vir_term.specs.declared.leaf.Leaf.TheVariants.{Elect, Plurality, Max, Min, Below, Upto}
use Rattle.vir_term.specs.declared.score.Score.TheVariants.{Plurality as FirstPlaces, Borda, Copeland, Minimax}
use Rattle.vir_term.specs.declared.score.Score.TheVariants.{Condorcet}
use Rattle.vir_term.specs.Tree.{Tree, leaf, seq, par, loop, exactly, at_most}
use Rattle.vir_known.specs.Majority.{sequential_majority_by}

abbrev pub baldwin_rounds : Tree
baldwin_rounds = loop (exactly 1) (leaf (Min Borda))

abbrev pub baldwin : Tree
baldwin = seq baldwin_rounds (leaf Elect)

abbrev pub benham_rounds : Tree
benham_rounds = loop (exactly 1) (seq (leaf (Max Condorcet)) (leaf (Min FirstPlaces)))

abbrev pub benham : Tree
benham = seq benham_rounds (leaf Elect)

abbrev pub borda : Tree
borda = seq (leaf (Max Borda)) (leaf Elect)

abbrev pub black : Tree
black = seq (leaf (Max Condorcet)) borda

abbrev pub copeland : Tree
copeland = seq (leaf (Max Copeland)) (leaf Elect)

abbrev pub copeland_then_borda : Tree
copeland_then_borda = seq (leaf (Max Copeland)) borda

abbrev pub instant_runoff_rounds : Tree
instant_runoff_rounds = loop (exactly 1) (leaf (Min FirstPlaces))

abbrev pub instant_runoff : Tree
instant_runoff = seq instant_runoff_rounds (leaf Elect)

abbrev pub minimax : Tree
minimax = seq (leaf (Max Minimax)) (leaf Elect)

abbrev pub nanson_schwartz_rounds : Tree
nanson_schwartz_rounds = loop (exactly 1) (leaf (Below Borda))

abbrev pub nanson_schwartz : Tree
nanson_schwartz = seq nanson_schwartz_rounds (leaf Elect)

abbrev pub nanson_rounds : Tree
nanson_rounds = loop (exactly 1) (leaf (Upto Borda))

abbrev pub nanson : Tree
nanson = seq nanson_rounds (leaf Elect)

abbrev pub plurality : Tree
plurality = leaf Plurality

abbrev pub plurality_then_elect : Tree
plurality_then_elect = seq plurality (leaf Elect)

abbrev pub raynaud_rounds : Tree
raynaud_rounds = loop (exactly 1) (leaf (Min Minimax))

abbrev pub raynaud : Tree
raynaud = seq raynaud_rounds (leaf Elect)

abbrev pub sequential_majority : Tree
sequential_majority = sequential_majority_by (3 ∷ 1 ∷ 2 ∷ [])

abbrev pub shortlist_of_two : Tree
shortlist_of_two = loop (at_most 2) (leaf (Min FirstPlaces))

abbrev pub shortlist : Tree
shortlist = par (seq (leaf (Max FirstPlaces)) (leaf Elect)) borda

abbrev pub two_candidate_runoff : Tree
two_candidate_runoff = seq (loop (exactly 2) (leaf (Min FirstPlaces))) (leaf Plurality)
