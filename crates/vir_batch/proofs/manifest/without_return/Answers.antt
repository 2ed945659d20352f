use Rattle.std.proofs.Common.{◌≡◌, ◌==◌, ℕ, true, List, [], ◌∷◌, length, refl, sym, ◌∙◌, arith}
use Rattle.std.proofs.lemmas.Bool.Decides.{nat_tests}
use Rattle.vir_batch.specs.Manifest.{without_return}
use Rattle.vir_batch.proofs.manifest.without_return.Goals as goal

none : (n : ℕ) → (n == 0) ≡ true → n ≡ 0
none n is = grind (arith, nat_tests)

empty : (line : List ℕ) → length line ≡ 0 → without_return line ≡ line
empty [] is = refl
empty (byte ∷ rest) is = absurd (omega arith)

pub returns-then-is_empty : goal.returns-then-is_empty
returns-then-is_empty c =
    sym (empty c.args.line.now (none (length c.args.line.now) (sym c.is_empty.ensures ∙ c.if-is_empty.true)))
