use Rattle.std.proofs.Common.{◌≡◌, ◌+◌, ◌-◌, ◌*◌, ◌∙◌, ap, ap₂, arith, cond, get_or, nat_eq, nat_lt, subst, sym}
use Rattle.std.proofs.Common.{eqb-true, ℕ, true}
use Rattle.std.proofs.lemmas.Bool.Decides.{nat_tests}
use Rattle.vir_profile.specs.Profiles.{pairwise_weight}
use Rattle.vir_tables.specs.Table.{cell, IsAlternative}
use Rattle.vir_tables.proofs.Rows.{cell_after, cell_in_row, row_length}
use borrow.Rule.Slice.PartMut.{put_mid, mid_of, same_len_mid}
use Rattle.vir_tables.proofs.table.add_rows.Goals as goal

-- rows below x are done, and then x is
one_row : (a x : ℕ) (old row first given : ℕ) → (nat_eq a x ≡ true → row ≡ first + given) → old ≡ first
    + cond (nat_lt a x) given 0 → cond (nat_eq a x) row old ≡ first + cond (nat_lt a (x + 1)) given 0
one_row a x old row first given done e = grind (arith, nat_tests)

not_yet : (x first given : ℕ) → first + cond (nat_lt x x) given 0 ≡ first
not_yet x first given = grind (arith, nat_tests)

pub loop-x-preserved : goal.loop-x-preserved
loop-x-preserved c =
    let m = c.args.m in
    let t = c.loop-x.table in
    let x = c.loop-x.x in
    let row = c.add_row.new.row in
    let hx : IsAlternative m x = record { low = omega arith; high = omega arith } in
    let start : c.from.result * c.from-in-loop-x.result ≡ (x - 1) * m = ap₂ (λ i j. i * j) c.from.ensures
    c.from-in-loop-x.ensures in
    let rows : c.from.result * c.from-in-loop-x.result + c.from-in-loop-x-2.result - c.from.result *
    c.from-in-loop-x.result ≡ m = omega arith in
    let size = c.loop-x.invariant.size in
    let long = row_length t m x _ _ start rows size hx in
    let same = c.add_row.auto.row in
    record {
      size = same_len_mid _ _ t row same ∙ size;
      cells = λ a b ha hb below.
          ap₂ (λ i j. cell (put_mid i j t row) m a b) start rows ∙ cell_after t row m a b x size (same ∙ long) ha hb hx
          ∙ one_row a x (cell t m a b) (get_or row (b - 1) 0) (cell c.args.table.now m a b)
          (pairwise_weight c.args.lines.now a b)
          (λ e. subst (λ z. get_or row (b - 1) 0 ≡ cell c.args.table.now m z b + pairwise_weight c.args.lines.now z b)
          (sym (eqb-true a x e))
          (c.add_row.ensures.added b (subst (λ n. IsAlternative n b) (sym long) hb)
          (let at = eqb-true a x e in omega arith)
          ∙ ap (λ n. n + pairwise_weight c.args.lines.now x b)
          (ap₂ (λ i j. get_or (mid_of i j t) (b - 1) 0) start rows ∙ cell_in_row t m x b size hx hb
          ∙ c.loop-x.invariant.cells x b hx hb (let at = eqb-true a x e in omega arith) ∙ not_yet x _ _)))
          (c.loop-x.invariant.cells a b ha hb below);
    }
