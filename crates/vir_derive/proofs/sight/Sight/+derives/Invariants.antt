use Rattle.std.proofs.Common.{◌≡◌, Bool, true, ℕ, ◌+◌, ◌*◌, ◌≤◌, length, map, take}
use Rattle.vir_term.specs.Tree.{Tree}
use Rattle.vir_rules.specs.Claims.{of}
use Rattle.vir_rules.specs.Derivations.{AllDerivable, Fails}
use Rattle.vir_rules.specs.Premises.{filled, letters_of, row_of}
use Rattle.vir_rules.specs.Props.{rank}
use Rattle.vir_derive.specs.Numbers.{AreEnough, is_within}
use Rattle.vir_derive.specs.Sights.{Shows}
use Rattle.vir_derive.proofs.Smaller.{need_rank}
use Rattle.vir_derive.proofs.sight.Sight.+derives.Given as goal

abbrev pub decreases-derives : goal.decreases-derives
decreases-derives l = 3 * rank l.prop + 2

abbrev pub decreases-derives_need : goal.decreases-derives_need
decreases-derives_need l = 3 * need_rank l.need + 3

abbrev pub decreases-serves : goal.decreases-serves
decreases-serves l = 3 * rank l.prop + 1

-- no rule so far serves
abbrev pub invariant-derives-loop-i : goal.invariant-derives-loop-i
invariant-derives-loop-i l = (numbers : ℕ → Bool) → AreEnough numbers → (term : Tree) → Shows numbers l.self term
    → is_within numbers l.prop ≡ true → (rule : ℕ) → rule ≤ l.i → Fails rule (of l.prop term)

abbrev pub invariant-derives-loop-j : goal.invariant-derives-loop-j
invariant-derives-loop-j l = (numbers : ℕ → Bool) → AreEnough numbers → (term : Tree) → Shows numbers l.self term
    → is_within numbers l.prop ≡ true → (rule : ℕ) → rule ≤ l.j → Fails rule (of l.prop term)

-- the premises so far are derivable
abbrev pub invariant-serves-loop-i : goal.invariant-serves-loop-i
invariant-serves-loop-i l = (l.i-end ≡ length (row_of l.rule).premises) ×
    ((numbers : ℕ → Bool) → AreEnough numbers → (term : Tree) → Shows numbers l.self term → is_within numbers l.fn.prop
    ≡ true → AllDerivable (take l.i (map (filled (letters_of term l.k)) (row_of l.rule).premises)))
