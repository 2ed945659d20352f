-- A bound on the steps of a term's code.
use Rattle.std.proofs.Math.Nat.{pow-zero, pow-succ'}
use Rattle.std.proofs.Common.{◌≡◌, ℕ, zero, suc, ◌+◌, ◌-◌, ◌*◌, ◌^◌, ◌≤◌, sym, ap, ◌∙◌, subst, arith}
use Rattle.vir_term.specs.Tree.{Tree, leaf, rev, seq, par, loop}
use Rattle.vir_code.specs.Code.{width}
use Rattle.vir_compile.specs.StepsLeft.{steps_bound}

-- n times x
abbrev pub repeated : ℕ → ℕ → ℕ
repeated zero x = 0
repeated (suc n) x = x + repeated n x

-- n + 3 to the power of w
abbrev power : ℕ → ℕ → ℕ
power n zero = 1
power n (suc w) = repeated (suc (suc (suc n))) (power n w)

repeated-is : (n x : ℕ) → repeated n x ≡ n * x
repeated-is zero x = omega arith
repeated-is (suc n) x = let rest = repeated-is n x in omega arith

power-is : (n w : ℕ) → power n w ≡ (n + 3) ^ w
power-is n zero = sym (pow-zero (n + 3))
power-is n (suc w) =
    let three : suc (suc (suc n)) ≡ n + 3 = omega arith in
    repeated-is (suc (suc (suc n))) (power n w)
    ∙ ap (λ x. suc (suc (suc n)) * x) (power-is n w)
    ∙ ap (λ x. x * (n + 3) ^ w) three
    ∙ sym (pow-succ' (n + 3) w)

-- no run of a term's code on at most n alternatives takes more steps
abbrev pub most_steps : Tree → ℕ → ℕ
most_steps (leaf l) n = 1
most_steps (rev m) n = most_steps m n + 1
most_steps (seq m k) n = most_steps m n + (1 + (1 + (most_steps k n + 1)))
most_steps (par m k) n = most_steps m n + (most_steps k n + 1)
most_steps (loop k m) n = 1 + (repeated (suc n) (most_steps m n + 2) + 1)

repeated-le : (n x y : ℕ) → x ≤ y → repeated n x ≤ repeated n y
repeated-le zero x y le = omega arith
repeated-le (suc n) x y le = let rest = repeated-le n x y le in omega arith

bound_positive : (n w : ℕ) → 1 ≤ power n w
bound_positive n zero = omega arith
bound_positive n (suc w) = let rest = bound_positive n w in omega arith

-- more instructions are no less a bound
bound-le : (n w d : ℕ) → power n w ≤ power n (w + d)
bound-le n w zero = let e : w + 0 ≡ w = omega arith in subst (λ v. power n w ≤ power n v) (sym e) (omega arith)
bound-le n w (suc d) =
    let rest = bound-le n w d in
    let e : suc (w + d) ≡ w + suc d = omega arith in
    subst (λ v. power n w ≤ power n v) e (let more : power n (w + d) ≤ power n (suc (w + d)) = omega arith
    in omega arith)

-- the same, of a greater number
bound_above : (n w v : ℕ) → w ≤ v → power n w ≤ power n v
bound_above n w v le =
    let e : w + (v - w) ≡ v = omega arith in
    subst (λ u. power n w ≤ power n u) e (bound-le n w (v - w))

-- one instruction more allows three times as many steps
bound_more : (n w v : ℕ) → w + 1 ≤ v → power n w + power n w + power n w ≤ power n v
bound_more n w v le =
    let above = bound_above n (suc w) v (omega arith) in
    omega arith

most_power : (t : Tree) (n : ℕ) → most_steps t n ≤ power n (width t)
most_power (leaf l) n = bound_positive n 1
most_power (rev m) n =
    let some = bound_positive n (width m) in
    let part = most_power m n in
    let more = bound_more n (width m) (width m + 1) (omega arith) in
    omega arith
most_power (seq m k) n =
    let one = bound_above n (width m) (width m + width k) (omega arith) in
    let two = bound_above n (width k) (width m + width k) (omega arith) in
    let some = bound_positive n (width m + width k) in
    let part = most_power m n in
    let part' = most_power k n in
    let more = bound_more n (width m + width k) (width m + width k + 1) (omega arith) in
    let more' = bound_more n (width m + width k + 1) (width m + 2 + width k + 1) (omega arith) in
    omega arith
most_power (par m k) n =
    let one = bound_above n (width m) (width m + width k) (omega arith) in
    let two = bound_above n (width k) (width m + width k) (omega arith) in
    let some = bound_positive n (width m + width k) in
    let part = most_power m n in
    let part' = most_power k n in
    let more = bound_more n (width m + width k) (width m + width k + 1) (omega arith) in
    omega arith
most_power (loop k m) n =
    let some = bound_positive n (width m) in
    let part = most_power m n in
    let three = bound_more n (width m) (suc (width m)) (omega arith) in
    let turns = repeated-le (suc n) (most_steps m n + 2) (power n (suc (width m))) (omega arith) in
    let all : repeated (suc n) (power n (suc (width m))) ≤ power n (suc (suc (width m))) = omega arith in
    let some' = bound_positive n (suc (suc (width m))) in
    let more = bound_more n (suc (suc (width m))) (2 + width m + 2) (omega arith) in
    omega arith

pub most_bound : (t : Tree) (n : ℕ) → most_steps t n ≤ steps_bound n (width t)
most_bound t n = subst (λ x. most_steps t n ≤ x) (power-is n (width t)) (most_power t n)
