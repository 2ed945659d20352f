use Rattle.std.proofs.Common.{◌≡◌, ◌≢◌, ◌+◌, ◌-◌, ◌≤◌, ◌*◌, ◌<◌, ◌∙◌, ℕ, true, false, ap, arith, get_or}
use Rattle.std.proofs.Common.{length, nat_eq, refl, sym}
use Rattle.std.proofs.Common.{eqb-true}
use Rattle.std.proofs.Math.ListN.{set as put}
use Rattle.std.proofs.lemmas.Bool.Decides.{nat_tests}
use Rattle.std.proofs.lemmas.Grind.{get_or-set_at}
use Rattle.std.proofs.lemmas.List.{get_or-set_other}
use Rattle.vir_tables.proofs.Cells.{one_place, one_row, row_end}
use Rattle.vir_tables.proofs.table.find_places.Goals as goal

pub loop-i-preserved : goal.loop-i-preserved
loop-i-preserved c =
    let n = c.args.n in
    let l = c.args.l in
    let o = c.args.order.now in
    let i = c.loop-i.i in
    let places = c.loop-i.places in
    let line : l < n = c.requires.line in
    let here_i : c.from.result ≡ get_or o i 0 = c.from.ensures in
    let at = (c.from.result - 1) * n + l in
    let low_i = c.requires.listed.low i (omega arith) in
    let high_i = c.requires.listed.high i (omega arith) in
    let end : (c.from.result - 1) * n + n ≤ c.from.result * n = row_end n (c.from.result - 1) c.from.result
    (omega arith) in
    let high : c.from.result * n ≤ length places = rw here_i (omega arith) in
    let within : at < length places = omega arith in
    let written : (k : ℕ) → k < i + 1 → get_or o k 0 ≡ c.from.result
    → get_or (put places at i) ((get_or o k 0 - 1) * n + l) 0 ≡ i
    = λ k h e. get_or-set_at places at ((get_or o k 0 - 1) * n + l) i 0 (ap (λ x. (x - 1) * n + l) e) within in
    let kept : (k : ℕ) → k < i + 1 → nat_eq (get_or o k 0) c.from.result ≡ false
    → get_or (put places at i) ((get_or o k 0 - 1) * n + l) 0 ≡ get_or places ((get_or o k 0 - 1) * n + l) 0
    = λ k h e. let low_k = c.requires.listed.low k (omega arith) in
    let apart : get_or o k 0 ≢ c.from.result = grind (arith, nat_tests) in
    get_or-set_other places at ((get_or o k 0 - 1) * n + l) i 0
    (λ same. apart (let r = one_row n (get_or o k 0 - 1) l (c.from.result - 1) l line line same in omega arith)) in
    let earlier : (k : ℕ) → k < i + 1 → nat_eq (get_or o k 0) c.from.result ≡ false → k < i
    = λ k h e. elim (nat_eq k i) as (λ t. nat_eq k i ≡ t → k < i) [
      | true ↦ λ t. let same = ap (λ j. get_or o j 0) (eqb-true k i t) in
          let no : nat_eq (get_or o k 0) c.from.result ≡ true = grind (arith, nat_tests) in
          absurd (grind (arith, nat_tests))
      | false ↦ λ t. grind (arith, nat_tests)
    ] refl in
    record {
      within = λ k h. elim (nat_eq (get_or o k 0) c.from.result) as (λ t. nat_eq (get_or o k 0) c.from.result ≡ t
          → get_or (put places at i) ((get_or o k 0 - 1) * n + l) 0 < i + 1) [
            | true ↦ λ t. let e = written k h (eqb-true _ _ t) in omega arith
            | false ↦ λ t. let e = kept k h t in let old = c.loop-i.invariant.within k (earlier k h t) in omega arith
          ] refl;
      here = λ k h. elim (nat_eq (get_or o k 0) c.from.result) as (λ t. nat_eq (get_or o k 0) c.from.result ≡ t
          → get_or o (get_or (put places at i) ((get_or o k 0 - 1) * n + l) 0) 0 ≡ get_or o k 0) [
            | true ↦ λ t. ap (λ j. get_or o j 0) (written k h (eqb-true _ _ t)) ∙ sym here_i ∙ sym (eqb-true _ _ t)
            | false ↦ λ t. ap (λ j. get_or o j 0) (kept k h t) ∙ c.loop-i.invariant.here k (earlier k h t)
          ] refl;
      others = λ a j h e. let apart : j ≢ l = grind (arith, nat_tests) in
          get_or-set_other places at (a * n + j) i 0
          (λ same. apart (one_place n a j (c.from.result - 1) l h line same))
          ∙ c.loop-i.invariant.others a j h e;
    }
