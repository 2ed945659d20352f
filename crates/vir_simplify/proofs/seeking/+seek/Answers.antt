use Rattle.std.proofs.Common.{◌≡◌, ◌+◌, ℕ, subst, arith}
use Rattle.vir_term.specs.Tree.{tree, size}
use Rattle.vir_term.proofs.TreeLemmas.{size_positive}
use Rattle.vir_simplify.specs.Places.{postorder}
use Rattle.vir_simplify.specs.Workings.{IsSought}
use Rattle.vir_simplify.proofs.FirstSteps.{sought_here, sought_in_parts, sought_behind}
use Rattle.vir_simplify.proofs.seeking.+seek.Goals as goal

pub seek-seek_in_parts-requires : goal.seek-seek_in_parts-requires
seek-seek_in_parts-requires t c = let some = size_positive (tree c.args.term.now) in (omega arith, omega arith)

pub seek-returns-in_err-next : goal.seek-returns-in_err-next
seek-returns-in_err-next t c = rw c.from_residual.ensures
    (sought_in_parts c.args.place (tree c.args.term.now) _ c.in_err-next.ensures)

pub seek-returns : goal.seek-returns
seek-returns t c =
    let parts = c.in_ok-next.ensures in
    let ends : c.in_ok-next.next ≡ c.args.place + size (tree c.args.term.now) = omega (arith, parts.0) in
    sought_here c.args.place c.in_ok-next.next _ (tree c.args.term.now) c.seek_here.result ends parts.1
    c.seek_here.ensures

pub seek_in_two-returns : goal.seek_in_two-returns
seek_in_two-returns t c =
    let first = c.in_ok-next.ensures in
    sought_behind (postorder c.args.place (tree c.args.first.now)) _ _ c.seek-2.result first.1
    (subst (λ (n : ℕ). IsSought (postorder n (tree c.args.second.now)) (n + size (tree c.args.second.now))
    c.seek-2.result) first.0 c.seek-2.ensures)
