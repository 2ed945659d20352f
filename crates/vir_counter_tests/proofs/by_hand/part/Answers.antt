use Rattle.std.proofs.Common.{◌≡◌, ◌∙◌, Bool, true, ◌&&◌, sym, ap, arith}
use Rattle.std.specs.FinSet as set
use Rattle.vir_altset.specs.SetLaws.{contains-intersection}
use Rattle.vir_counter_tests.proofs.by_hand.part.Goals as goal

both : (a b : Bool) → (a && b) ≡ true → a ≡ true
both a b h = grind arith

pub returns : goal.returns
returns c x m = both _ (set.contains c.args.some.now x) (sym (contains-intersection c.args.whole.now c.args.some.now x)
    ∙ sym (ap (λ s. set.contains s x) c.inter.ensures) ∙ m)
