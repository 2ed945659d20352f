-- The rule files of the cookbook, as they stand in examples/rules. Printed by checks/rule_files.py.
-- (The program's promises don't stand on this file.)
use Rattle.std.specs.Prelude.{ℕ, List, [], ◌∷◌, ◌++◌, codes}

abbrev pub baldwin : List ℕ
baldwin =
    codes "# Baldwin's rule (Baldwin, 1926): whoever has the least Borda score goes, and the scores are " ++
    codes "counted again, until one is\n" ++
    codes "# left.\n" ++
    codes "baldwin = seq(loop(1, min(borda)), elect);\n"

abbrev pub benham : List ℕ
benham =
    codes "# Benham's method (Green-Armytage, 2011): instant runoff, which ends as soon as one of those " ++
    codes "who are left is preferred\n" ++
    codes "# to each other one by more voters. That one is elected.\n" ++
    codes "condorcet-if-any = max(condorcet);\n" ++
    codes "fewest-go = min(plurality);\n" ++
    codes "benham = seq(loop(1, seq(condorcet-if-any, fewest-go)), elect);\n"

abbrev pub black : List ℕ
black =
    codes "# Black's rule (Black, 1958): the Condorcet winner, or else the Borda winner. Where there is no " ++
    codes "Condorcet winner, the\n" ++
    codes "# first step rejects nobody.\n" ++
    codes "condorcet-if-any = max(condorcet);\n" ++
    codes "borda-count = seq(max(borda), elect);\n" ++
    codes "black = seq(condorcet-if-any, borda-count);\n"

abbrev pub borda : List ℕ
borda =
    codes "# The Borda count (Borda, 1781): an alternative scores a point for each voter and each " ++
    codes "alternative that this voter puts\n" ++
    codes "# behind it; the highest score wins.\n" ++
    codes "borda-count = seq(max(borda), elect);\n"

abbrev pub copeland_then_borda : List ℕ
copeland_then_borda =
    codes "# Copeland's rule, and among those who tie by it the Borda count: much as Dasgupta and Maskin " ++
    codes "(2004) propose, who go by\n" ++
    codes "# duels won and count Borda scores on whole ballots.\n" ++
    codes "most-duels = max(copeland);\n" ++
    codes "borda-count = seq(max(borda), elect);\n" ++
    codes "copeland-then-borda = seq(most-duels, borda-count);\n"

abbrev pub copeland : List ℕ
copeland =
    codes "# Copeland's rule (Copeland, 1951): the most duels won, less those lost, wins. A duel is won " ++
    codes "where more voters prefer\n" ++
    codes "# the one.\n" ++
    codes "copeland-rule = seq(max(copeland), elect);\n"

abbrev pub instant_runoff : List ℕ
instant_runoff =
    codes "# Instant runoff, or the alternative vote (Ware, about 1870): whoever has fewest first places " ++
    codes "goes, all of them where\n" ++
    codes "# several have, and the ballots are counted again, until one is left. Who can't be told apart " ++
    codes "any more is elected\n" ++
    codes "# together.\n" ++
    codes "instant-runoff = seq(loop(1, min(plurality)), elect);\n"

abbrev pub minimax : List ℕ
minimax =
    codes "# Minimax by support (Simpson, 1969; Kramer, 1977): who has most voters behind it in its worst " ++
    codes "duel wins.\n" ++
    codes "minimax-rule = seq(max(minimax), elect);\n"

abbrev pub nanson_schwartz : List ℕ
nanson_schwartz =
    codes "# Nanson's rule in the form studied by Schwartz (1986): only who is below the average Borda " ++
    codes "score goes, and who is just\n" ++
    codes "# at the average stays.\n" ++
    codes "nanson-schwartz = seq(loop(1, below(borda)), elect);\n"

abbrev pub nanson : List ℕ
nanson =
    codes "# Nanson's rule as Nanson gave it (1882): whoever is not above the average Borda score goes, " ++
    codes "and the scores are counted\n" ++
    codes "# again, until one is left.\n" ++
    codes "nanson = seq(loop(1, upto(borda)), elect);\n"

abbrev pub plurality_then_elect : List ℕ
plurality_then_elect =
    codes "# Plurality, and then `elect` on what it defers, which is nothing: the same rule.\n" ++
    codes "plurality-then-elect = seq(plurality, elect);\n"

abbrev pub plurality : List ℕ
plurality =
    codes "# Plurality, or first past the post: who is put first by most voters wins.\n" ++
    codes "plurality-rule = plurality;\n"

abbrev pub raynaud : List ℕ
raynaud =
    codes "# Raynaud's rule (Arrow and Raynaud, 1986): whoever has fewest voters behind it in its worst " ++
    codes "duel goes, and the duels\n" ++
    codes "# among the others are looked at again, until one is left.\n" ++
    codes "raynaud = seq(loop(1, min(minimax)), elect);\n"

abbrev pub sequential_majority : List ℕ
sequential_majority =
    codes "# Sequential majority comparison, as in Diekhoff, Kirsten and Kr" ++
    (195 ∷ 164 ∷ []) ++
    codes "mer (2019), on the agenda 3, 1, 2, and then all others\n" ++
    codes "# ascending: the first two on the agenda meet, the loser goes, and the winner meets the next " ++
    codes "one.\n" ++
    codes "\n" ++
    codes "# the first two meet; where as many prefer the one as the other, the first on the agenda wins\n" ++
    codes "duel = seq(pass(2, [3, 1, 2]), seq(rev(plurality), pass(1, [3, 1, 2])));\n" ++
    codes "\n" ++
    codes "# all others wait\n" ++
    codes "waiting = drop(2, [3, 1, 2]);\n" ++
    codes "\n" ++
    codes "# one who wins or waits stays\n" ++
    codes "round = par(duel, waiting);\n" ++
    codes "\n" ++
    codes "sequential-majority = seq(loop(1, round), elect);\n"

abbrev pub shortlist_of_two : List ℕ
shortlist_of_two =
    codes "# A shortlist: whoever has fewest first places goes, all of them where several have, and the " ++
    codes "ballots are counted again,\n" ++
    codes "# until two or fewer are left. Nobody is elected yet; whom it defers are the finalists.\n" ++
    codes "shortlist-of-two = until(2, min(plurality));\n"

abbrev pub shortlist : List ℕ
shortlist =
    codes "# A shortlist by two rules side by side: who wins by first places or by the Borda count is " ++
    codes "elected. What one rule elects\n" ++
    codes "# stays elected, whatever the other says.\n" ++
    codes "by-first-places = seq(max(plurality), elect);\n" ++
    codes "by-borda-count = seq(max(borda), elect);\n" ++
    codes "shortlist = par(by-first-places, by-borda-count);\n"

abbrev pub two_candidate_runoff : List ℕ
two_candidate_runoff =
    codes "# A runoff between two: whoever has fewest first places goes until two are left, and of these " ++
    codes "the one wins that more\n" ++
    codes "# voters prefer. (The two are found by counting again after each exclusion, not by the first " ++
    codes "count alone.)\n" ++
    codes "two-candidate-runoff = seq(loop(2, min(plurality)), plurality);\n"
