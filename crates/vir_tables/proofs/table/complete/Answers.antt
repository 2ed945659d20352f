use Rattle.std.proofs.Common.{◌≡◌, ◌+◌, ◌-◌, ◌∙◌, ℕ, true, ap, arith, cond, nat_eq, nat_lt, sym, eqb-true}
use Rattle.std.proofs.lemmas.Bool.Decides.{nat_tests}
use Rattle.vir_tables.specs.Table.{cell, IsAlternative}
use Rattle.vir_tables.proofs.table.complete.Goals as goal

-- rows below x are written, and then x is
one_row_more : (a b x new now value due first : ℕ) → new ≡ cond (nat_eq a x) (cond (nat_lt b x) value now) now
    → now ≡ cond (nat_lt a x) (cond (nat_lt b a) due first) first
    → (nat_eq a x ≡ true → nat_lt b x ≡ true → value ≡ due)
    → new ≡ cond (nat_lt a (x + 1)) (cond (nat_lt b a) due first) first
one_row_more a b x new now value due first e f g = grind (arith, nat_tests)

-- what is above the diagonal stays
upper : (b x now due first : ℕ) → nat_lt b x ≡ true → now ≡ cond (nat_lt b x) (cond (nat_lt x b) due first) first
    → now ≡ first
upper b x now due first h e = grind (arith, nat_tests)

pub loop-x-preserved : goal.loop-x-preserved
loop-x-preserved c =
    let m = c.args.m in
    let x = c.loop-x.x in
    let t = c.loop-x.table in
    let first = c.args.table.now in
    let voters = c.args.voters in
    let hx : IsAlternative m x = record { low = omega arith; high = omega arith } in
    record {
      size = c.complete_row.ensures.size;
      cells = λ a b ha hb.
          one_row_more a b x _ (cell t m a b) (voters - cell t m b x) (voters - cell first m b a) (cell first m a b)
          (c.complete_row.ensures.written.at a b ha hb) (c.loop-x.invariant.cells a b ha hb)
          (λ same less. ap (λ n. voters - n) (upper b x _ _ _ less (c.loop-x.invariant.cells b x hb hx)
          ∙ ap (λ z. cell first m b z) (sym (eqb-true a x same))));
    }
