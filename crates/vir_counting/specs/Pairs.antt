-- Which rules are counted with a table of pairs.
-- (The program's promises don't stand on this file.)
use Rattle.std.specs.Prelude.{Bool, true, false, ◌||◌}
use Rattle.vir_term.specs.declared.leaf.Leaf.{Leaf}
use Rattle.vir_term.specs.declared.leaf.Leaf.TheVariants as modules
use Rattle.vir_term.specs.declared.score.Score.{Score}
use Rattle.vir_term.specs.declared.score.Score.TheVariants as by
use Rattle.vir_term.specs.Tree.{Tree, leaf, rev, seq, par, loop}

-- whether a score is to be found by a table of pairs: Borda's, which the places of ballots give too, only where it may
-- be asked for many times
abbrev pub is_by_pairs : Bool → Score → Bool
is_by_pairs often by.Plurality = false
is_by_pairs often by.Borda = often
is_by_pairs often by.Copeland = true
is_by_pairs often by.Minimax = true
is_by_pairs often by.Condorcet = true

-- whether a module goes by such a score. In a loop, a greatest or least score may be asked for as often as there are
-- alternatives; by a comparison with the average a loop ends in few turns.
abbrev pub module_asks : Bool → Leaf → Bool
module_asks again (modules.Max score) = is_by_pairs again score
module_asks again (modules.Min score) = is_by_pairs again score
module_asks again (modules.Below score) = is_by_pairs false score
module_asks again (modules.Upto score) = is_by_pairs false score
module_asks again modules.Elect = false
module_asks again modules.Defer = false
module_asks again (modules.PassFirst k order) = false
module_asks again (modules.DropFirst k order) = false
module_asks again modules.Plurality = false

-- whether a module of the term does, which is asked again and again where it stands in a loop
abbrev pub asks_about_pairs : Bool → Tree → Bool
asks_about_pairs again (leaf l) = module_asks again l
asks_about_pairs again (rev part) = asks_about_pairs again part
asks_about_pairs again (seq first second) = asks_about_pairs again first || asks_about_pairs again second
asks_about_pairs again (par first second) = asks_about_pairs again first || asks_about_pairs again second
asks_about_pairs again (loop k body) = asks_about_pairs true body
