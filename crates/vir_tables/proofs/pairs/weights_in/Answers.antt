use Rattle.std.proofs.Common.{◌≡◌, ℕ, List, ap, sym, ◌∙◌}
use Rattle.std.proofs.Common.{Option}
use Rattle.std.specs.List.{find}
use Rattle.vir_tables.specs.Pairs.{is_one_of}
use Rattle.vir_tables.proofs.FirstOfTwo.{weights-first, weights-none, weights-second}
use Rattle.vir_tables.proofs.pairs.weights_in.Goals as goal

-- what is found in the order that the room has
found_in : (x y : ℕ) (found : Option ℕ) (spread order : List ℕ) → found ≡ find (is_one_of x y) spread → spread ≡ order
    → find (is_one_of x y) order ≡ found
found_in x y found spread order e same = sym (e ∙ ap (find (is_one_of x y)) same)

pub returns-then-z-x : goal.returns-then-z-x
returns-then-z-x c = sym (weights-first c.args.x c.args.y c.args.line.now.weight c.args.line.now.order c.requires
    c.in-Some.z (found_in c.args.x c.args.y _ _ _ c.in-Some.ensures c.alternatives.ensures) c.if-z-x.true)

pub returns-else-z-x : goal.returns-else-z-x
returns-else-z-x c = sym (weights-second c.args.x c.args.y c.args.line.now.weight c.args.line.now.order c.requires
    c.in-Some.z (found_in c.args.x c.args.y _ _ _ c.in-Some.ensures c.alternatives.ensures) c.if-z-x.false)

pub returns-in-None : goal.returns-in-None
returns-in-None c = sym (weights-none c.args.x c.args.y c.args.line.now.weight c.args.line.now.order c.requires
    (found_in c.args.x c.args.y _ _ _ c.in-None.ensures c.alternatives.ensures))
