-- What tokens are to the grammar.
use Rattle.std.specs.Prelude.{ℕ, Bool, true, false, ◌==◌, List, Option, Some, None, if◌then◌else◌, slice_get}
use Rattle.vir_read.specs.declared.token.Token.{Token}
use Rattle.vir_read.specs.declared.token.TokenKind.{TokenKind}
use Rattle.vir_read.specs.declared.token.TokenKind.TheVariants as kind
use Rattle.vir_read.specs.declared.symbol.Symbol.{Symbol}
use Rattle.vir_read.specs.declared.symbol.Symbol.TheVariants.{Word, Number, OpenParenthesis, CloseParenthesis}
use Rattle.vir_read.specs.declared.symbol.Symbol.TheVariants.{OpenBracket, CloseBracket, Comma, Semicolon, Equals}

-- which of the seven signs a byte is: ( ) [ ] , ; or, the last one, =
abbrev pub sign_symbol : ℕ → Symbol
sign_symbol b =
    if b == 40 then OpenParenthesis
    else (if b == 41 then CloseParenthesis
    else (if b == 91 then OpenBracket
    else (if b == 93 then CloseBracket
    else (if b == 44 then Comma
    else (if b == 59 then Semicolon
    else Equals)))))

abbrev pub byte_symbol : Option ℕ → Symbol
byte_symbol (Some b) = sign_symbol b
byte_symbol None = Equals

abbrev pub kind_symbol : TokenKind → Option ℕ → Symbol
kind_symbol kind.Word b = Word
kind_symbol kind.Number b = Number
kind_symbol kind.Sign b = byte_symbol b

-- what a token of a text is to the grammar
abbrev pub symbol : List ℕ → Token → Symbol
symbol text t = kind_symbol t.kind (slice_get text t.start)

-- whether two symbols are the same
abbrev pub is_same : Symbol → Symbol → Bool
is_same Word Word = true
is_same Number Number = true
is_same OpenParenthesis OpenParenthesis = true
is_same CloseParenthesis CloseParenthesis = true
is_same OpenBracket OpenBracket = true
is_same CloseBracket CloseBracket = true
is_same Comma Comma = true
is_same Semicolon Semicolon = true
is_same Equals Equals = true
is_same _ _ = false
