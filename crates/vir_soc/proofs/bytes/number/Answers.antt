use Rattle.std.proofs.Common.{◌≡◌, ◌≤◌, ◌<◌, ◌^◌, ◌+◌, ◌*◌, ◌-◌, min, length, ℕ, List, true, get_or, arith, ◌∙◌, ap}
use Rattle.std.proofs.Common.{◌&&◌}
use Rattle.std.specs.Char.{is_ascii_digit, digit_value}
use Rattle.std.proofs.lemmas.Bool.Decides.{nat_tests}
use Rattle.std.proofs.lemmas.List.Folds.{list_all_more}
use Rattle.std.proofs.lemmas.Int.Digits.{digits_value_more}
use Rattle.vir_soc.proofs.bytes.number.Invariants.{SoFar}
use Rattle.vir_soc.proofs.bytes.number.Goals as goal

digit_is : (c : ℕ) → 48 ≤ c → c ≤ 57 → digit_value c ≡ c - 48
digit_is c a b = grind (arith, nat_tests)

is_digit : (c : ℕ) → 48 ≤ c → c ≤ 57 → is_ascii_digit c ≡ true
is_digit c a b = grind (arith, nat_tests)

next_digit : (text : List ℕ) (i n : ℕ) → i < length text → 48 ≤ get_or text i 0 → get_or text i 0 ≤ 57 → SoFar text i n
    → SoFar text (i + 1) (min (n * 10 + (get_or text i 0 - 48)) (2 ^ 64))
next_digit text i n h a b old = record {
  digits = list_all_more is_ascii_digit text i 0 h ∙ ap (λ x. x && is_ascii_digit (get_or text i 0)) old.digits
      ∙ is_digit (get_or text i 0) a b;
  value = let v = digits_value_more 10 text i h in let d = digit_is (get_or text i 0) a b in let e = old.value
      in omega arith;
}

pub loop-c-preserved : goal.loop-c-preserved
loop-c-preserved c =
    let k = c.if-not-is_ascii_digit.ensures in
    rw (c.min-n.ensures, c.from.ensures) (next_digit c.args.text.now c.loop-c.c-index c.loop-c.n c.loop-c-test.true
    (omega (arith, k.cases)) (omega (arith, k.cases)) c.loop-c.invariant)
