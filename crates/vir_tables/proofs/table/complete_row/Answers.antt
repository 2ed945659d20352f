use Rattle.std.proofs.Common.{◌≡◌, ◌+◌, ◌-◌, ◌≤◌, ◌∙◌, ℕ, true, ap, ap₂, arith, cond, get_or, nat_eq, nat_lt}
use Rattle.std.proofs.Common.{sym, eqb-true}
use Rattle.std.proofs.Math.ListN.{set as put, length-set}
use Rattle.std.proofs.lemmas.Bool.Decides.{nat_tests}
use Rattle.vir_tables.specs.Table.{cell, IsAlternative}
use Rattle.vir_tables.proofs.Cells.{cell_put}
use Rattle.vir_tables.proofs.table.complete_row.Goals as goal

-- places below y are written, and then y is
one_place_more : (a b x y new now value due first : ℕ) → new ≡ cond (nat_eq a x) (cond (nat_eq b y) value now) now
    → now ≡ cond (nat_eq a x) (cond (nat_lt b y) due first) first → (nat_eq b y ≡ true → value ≡ due)
    → new ≡ cond (nat_eq a x) (cond (nat_lt b (y + 1)) due first) first
one_place_more a b x y new now value due first e f g = grind (arith, nat_tests)

-- another row stays
other_row : (a x now due first : ℕ) → 1 ≤ x → a + 1 ≤ x → now ≡ cond (nat_eq a x) due first → now ≡ first
other_row a x now due first h k e = grind (arith, nat_tests)

pub loop-y-preserved : goal.loop-y-preserved
loop-y-preserved c =
    let m = c.args.m in
    let x = c.args.x in
    let y = c.loop-y.y in
    let t = c.loop-y.table in
    let first = c.args.table.now in
    let hx : IsAlternative m x = c.requires.row in
    let high = hx.high in
    let hy : IsAlternative m y = record { low = omega arith; high = omega arith } in
    let there = c.index.ensures.exact in
    let here = c.index-in-loop-y.ensures.exact in
    let stays : cell t m y x ≡ cell first m y x = other_row y x _ _ _ hx.low (omega arith)
    (c.loop-y.invariant.cells y x hy hx) in
    let value : c.args.voters - get_or t c.index.result 0 ≡ c.args.voters - cell first m y x
    = ap (λ n. c.args.voters - n) (ap (λ i. get_or t i 0) there ∙ stays) in
    record {
      size = length-set t _ _ ∙ c.loop-y.invariant.size;
      cells = λ a b ha hb.
          one_place_more a b x y _ (cell t m a b) (c.args.voters - cell first m y x)
          (c.args.voters - cell first m b x) (cell first m a b)
          (ap₂ (λ i v. cell (put t i v) m a b) here value
          ∙ cell_put t m a b x y _ c.loop-y.invariant.size ha hb hx hy)
          (c.loop-y.invariant.cells a b ha hb)
          (λ e. ap (λ z. c.args.voters - cell first m z x) (sym (eqb-true b y e)));
    }
