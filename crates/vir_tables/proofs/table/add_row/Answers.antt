use Rattle.std.proofs.Common.{◌≡◌, ◌≢◌, ◌+◌, ◌-◌, ◌*◌, ◌∙◌, ◌≤◌, ◌<◌, ℕ, true, false, ap, arith, drop, get_or}
use Rattle.std.proofs.Common.{length, nat_eq, refl, sym}
use Rattle.std.proofs.Common.{take}
use Rattle.std.proofs.Common.{All, List, None, eqb-true}
use Rattle.std.proofs.Math.ListN.{set as put}
use Rattle.std.proofs.lemmas.Bool.Decides.{nat_tests}
use Rattle.std.proofs.lemmas.Grind.{get_or-set_at}
use Rattle.std.proofs.lemmas.List.{get_or-set_other}
use Rattle.vir_profile.specs.declared.ballot.Entry.{Entry}
use Rattle.vir_profile.specs.OrderFaults.{order_fault}
use Rattle.vir_profile.specs.Orders.{puts_before}
use Rattle.vir_profile.specs.Profiles.{pairwise_weight}
use Rattle.vir_tables.specs.Additions.{AreWeights, weight_before}
use Rattle.vir_tables.specs.Places.{ArePlaces}
use Rattle.vir_tables.specs.Table.{IsAlternative}
use Rattle.vir_tables.proofs.BlockWeights.{pairwise_itself, ranked_columns, weight_before-all}
use Rattle.vir_tables.proofs.Lines.{weight_where_le_total}
use Rattle.vir_tables.proofs.table.add_row.Goals as goal

again : (y : ℕ) → y + 1 - 1 ≡ y
again y = omega arith

-- what the lines give for x and the alternative behind place y of the row
adds : (m x y from n : ℕ) (places weights : List ℕ) (lines : List Entry) → from ≡ x → n ≡ length lines
    → IsAlternative m x → y < m → All (λ (e : Entry). order_fault m e.order ≡ None) lines
    → ArePlaces m (length lines) (length lines) places lines → AreWeights weights lines
    → weight_before n
    (take ((from - 1) * length lines + length lines - (from - 1) * length lines)
    (drop ((from - 1) * length lines) places))
    (take (y * length lines + length lines - y * length lines) (drop (y * length lines) places)) weights
    ≡ pairwise_weight lines x (y + 1)
adds m x y from n places weights lines is size hx hy known noted heavy =
    let hb : IsAlternative m (y + 1) = record { low = omega arith; high = omega arith } in
    let start : (from - 1) * length lines ≡ (x - 1) * length lines = ap (λ i. (i - 1) * length lines) is in
    let wide : (from - 1) * length lines + length lines - (from - 1) * length lines ≡ length lines = omega arith in
    let behind : y * length lines ≡ (y + 1 - 1) * length lines = ap (λ i. i * length lines) (sym (again y)) in
    let wide' : y * length lines + length lines - y * length lines ≡ length lines = omega arith in
    weight_before-all x (y + 1) n _ _ weights lines size
    (ranked_columns m (length lines) x (y + 1) _ _ _ _ places lines refl start wide behind wide' known hx hb noted)
    heavy

pub loop-y-init : goal.loop-y-init
loop-y-init c = record {
  done = λ b low high.
      let start = c.from-y.ensures in
      let same : b ≡ c.args.x = omega arith in
      let none = ap (λ z. pairwise_weight c.args.lines.now c.args.x z) same ∙ pairwise_itself c.args.x
      c.args.lines.now in
      omega (arith, none);
  left = λ b h. refl;
}

pub block_weight_before-requires-clause-same : goal.block_weight_before-requires-clause-same
block_weight_before-requires-clause-same c is =
    let m = length c.args.row.now in
    adds m c.args.x c.loop-y.y c.from.result (length c.args.light.now) c.args.places.now c.args.light.now
    c.args.lines.now c.from.ensures c.requires.light_size c.requires.row (omega arith) c.requires.known
    c.requires.places
    (c.requires.light is)
    ∙ sym (adds m c.args.x c.loop-y.y c.from.result (length c.args.heavy.now) c.args.places.now c.args.heavy.now
    c.args.lines.now c.from.ensures c.requires.heavy_size c.requires.row (omega arith) c.requires.known
    c.requires.places
    c.requires.heavy)

pub block_weight_before-requires-clause-small : goal.block_weight_before-requires-clause-small
block_weight_before-requires-clause-small c is =
    let m = length c.args.row.now in
    let all = adds m c.args.x c.loop-y.y c.from.result (length c.args.light.now) c.args.places.now c.args.light.now
    c.args.lines.now c.from.ensures c.requires.light_size c.requires.row (omega arith) c.requires.known
    c.requires.places
    (c.requires.light is) in
    let most = weight_where_le_total (puts_before c.args.x (c.loop-y.y + 1)) c.args.lines.now in
    let sum = c.requires.light_sum is in
    omega (arith, all, most, sum)

pub block_weight_before-requires-clause-room : goal.block_weight_before-requires-clause-room
block_weight_before-requires-clause-room c =
    let m = length c.args.row.now in
    let all = adds m c.args.x c.loop-y.y c.from.result (length c.args.heavy.now) c.args.places.now c.args.heavy.now
    c.args.lines.now c.from.ensures c.requires.heavy_size c.requires.row (omega arith) c.requires.known
    c.requires.places
    c.requires.heavy in
    let hb : IsAlternative m (c.loop-y.y + 1) = record { low = omega arith; high = omega arith } in
    let room = c.requires.room (c.loop-y.y + 1) hb (omega arith) in
    omega (arith, all, room)

pub overflow_add-row : goal.overflow_add-row
overflow_add-row c =
    let m = length c.args.row.now in
    let all = c.block_weight_before.ensures
    ∙ adds m c.args.x c.loop-y.y c.from.result (length c.args.heavy.now) c.args.places.now c.args.heavy.now
    c.args.lines.now c.from.ensures c.requires.heavy_size c.requires.row (omega arith) c.requires.known
    c.requires.places
    c.requires.heavy in
    let hb : IsAlternative m (c.loop-y.y + 1) = record { low = omega arith; high = omega arith } in
    let room = c.requires.room (c.loop-y.y + 1) hb (omega arith) in
    let left = c.loop-y.invariant.left (c.loop-y.y + 1) (omega arith) in
    let now = ap (λ i. get_or c.loop-y.row i 0) (again c.loop-y.y) in
    omega (arith, all, room, left, now)

pub loop-y-preserved : goal.loop-y-preserved
loop-y-preserved c =
    let m = length c.args.row.now in
    let x = c.args.x in
    let y = c.loop-y.y in
    let row = c.loop-y.row in
    let value = get_or row y 0 + c.block_weight_before.result in
    let all : c.block_weight_before.result ≡ pairwise_weight c.args.lines.now x (y + 1)
    = c.block_weight_before.ensures
    ∙ adds m x y c.from.result (length c.args.heavy.now) c.args.places.now c.args.heavy.now
    c.args.lines.now c.from.ensures c.requires.heavy_size c.requires.row (omega arith) c.requires.known
    c.requires.places
    c.requires.heavy in
    let before : get_or row y 0 ≡ get_or c.args.row.now y 0
    = ap (λ i. get_or row i 0) (sym (again y)) ∙ c.loop-y.invariant.left (y + 1) (omega arith)
    ∙ ap (λ i. get_or c.args.row.now i 0) (again y) in
    let within : y < length row = omega arith in
    record {
      done = λ b low high. elim (nat_eq b (y + 1)) as (λ t. nat_eq b (y + 1) ≡ t → get_or (put row y value) (b - 1) 0
          ≡ get_or c.args.row.now (b - 1) 0 + pairwise_weight c.args.lines.now x b) [
            | true ↦ λ t.
                let e = eqb-true b (y + 1) t in
                let at : b - 1 ≡ y = omega arith in
                let new = get_or-set_at row y (b - 1) value 0 at within in
                let old = ap (λ i. get_or c.args.row.now i 0) at in
                let pair = ap (λ z. pairwise_weight c.args.lines.now x z) e in
                omega (arith, new, old, pair, all, before)
            | false ↦ λ t.
                let apart : b ≢ y + 1 = grind (arith, nat_tests) in
                let r = c.requires.row in
                let first = r.low in
                let other : b - 1 ≢ y = λ same. apart (omega arith) in
                get_or-set_other row y (b - 1) value 0 other
                ∙ c.loop-y.invariant.done b low (let less : b ≤ y = grind (arith, nat_tests) in less)
          ] refl;
      left = λ b h.
          let other : b - 1 ≢ y = λ same. absurd (omega arith) in
          get_or-set_other row y (b - 1) value 0 other ∙ c.loop-y.invariant.left b (omega arith);
    }
