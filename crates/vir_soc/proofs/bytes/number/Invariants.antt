use Rattle.std.proofs.Common.{◌≡◌, ◌^◌, min, ℕ, List, take, true}
use Rattle.std.specs.Char.{is_ascii_digit}
use Rattle.std.specs.List.{list_all}
use Rattle.std.specs.Str.Parse.{digits_value}
use Rattle.vir_soc.proofs.bytes.number.Given as goal

pub record SoFar (text : List ℕ) (i n : ℕ) : Type 0 where
  pub digits : list_all is_ascii_digit (take i text) ≡ true
  pub value : n ≡ min (digits_value 10 (take i text)) (2 ^ 64)

abbrev pub invariant-loop-c : goal.invariant-loop-c
invariant-loop-c l = SoFar l.text l.c-index l.n
