use Rattle.std.proofs.Common.{◌≡◌, ◌∙◌, refl}
use denote.Enum.Bare.{sameb}
use Rattle.vir_read.specs.contracts.symbol.Symbol.{the_type}
use Rattle.vir_read.specs.declared.symbol.Symbol.{Symbol}
use Rattle.vir_read.specs.declared.symbol.Symbol.TheVariants.{Word, Number, OpenParenthesis, CloseParenthesis}
use Rattle.vir_read.specs.declared.symbol.Symbol.TheVariants.{OpenBracket, CloseBracket, Comma, Semicolon, Equals}
use Rattle.vir_read.specs.Symbols.{is_same}
use Rattle.vir_read.proofs.symbol.Symbol.is.Goals as goal

-- the derived test is this one
same_test : (s wanted : Symbol) → sameb the_type s wanted ≡ is_same wanted s
same_test Word Word = refl
same_test Number Number = refl
same_test OpenParenthesis OpenParenthesis = refl
same_test CloseParenthesis CloseParenthesis = refl
same_test OpenBracket OpenBracket = refl
same_test CloseBracket CloseBracket = refl
same_test Comma Comma = refl
same_test Semicolon Semicolon = refl
same_test Equals Equals = refl
same_test _ _ = refl

pub returns : goal.returns
returns c = c.eq.ensures ∙ same_test c.args.self c.args.wanted
