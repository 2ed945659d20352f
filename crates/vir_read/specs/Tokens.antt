-- The tokens of a text.
use Rattle.std.specs.Prelude.{ℕ, zero, suc, ◌+◌, Bool, not, ◌||◌, ◌&&◌, ◌==◌, nat_lt, nat_le, if◌then◌else◌, List, []}
use Rattle.std.specs.Prelude.{◌∷◌, Ok, Err}
use Rattle.vir_read.specs.declared.token.Token.{Token}
use Rattle.vir_read.specs.declared.token.TokenKind.{TokenKind}
use Rattle.vir_read.specs.declared.token.TokenKind.TheVariants.{Word, Number, Sign}
use Rattle.vir_read.specs.declared.text_fault.TextKind.TheVariants.{BadByte}
use Rattle.vir_read.specs.Faults.{OrFault, fault}

-- a space, a tab, a carriage return or a line feed
abbrev pub is_blank : ℕ → Bool
is_blank b = b == 32 || b == 9 || b == 13 || b == 10

-- an ASCII letter
abbrev pub is_letter : ℕ → Bool
is_letter b = (nat_le 65 b && nat_lt b 91) || (nat_le 97 b && nat_lt b 123)

-- an ASCII digit
abbrev pub is_digit : ℕ → Bool
is_digit b = nat_le 48 b && nat_lt b 58

-- ( ) [ ] , ; or =
abbrev pub is_sign : ℕ → Bool
is_sign b = b == 40 || b == 41 || b == 91 || b == 93 || b == 44 || b == 59 || b == 61

-- # begins a comment
abbrev pub is_comment_sign : ℕ → Bool
is_comment_sign b = b == 35

-- a byte of a word, behind its first letter: a letter, a digit, _ or -
abbrev pub is_word_byte : ℕ → Bool
is_word_byte b = is_letter b || is_digit b || b == 95 || b == 45

-- a byte of a comment: each but a line feed
abbrev pub is_comment_byte : ℕ → Bool
is_comment_byte b = not (b == 10)

-- how many bytes at the front pass the test
abbrev pub run : (ℕ → Bool) → List ℕ → ℕ
run test [] = 0
run test (b ∷ rest) = if test b then suc (run test rest) else 0

-- a token from a place to before another one
abbrev pub token : TokenKind → ℕ → ℕ → Token
token kind start end = record { kind = kind; start = start; end = end }

-- this token, and then those
abbrev pub with_token : Token → OrFault (List Token) → OrFault (List Token)
with_token t (Ok rest) = Ok (t ∷ rest)
with_token t (Err e) = Err e

-- The tokens of the text from a place on, of which so many bytes belong to what began before. A token is as
-- long as it can be; a comment ends before the next line feed, or at the end.
unfoldable pub tokens_from : ℕ → ℕ → List ℕ → OrFault (List Token)
tokens_from inside at [] = Ok []
tokens_from (suc inside) at (b ∷ rest) = tokens_from inside (at + 1) rest
tokens_from zero at (b ∷ rest) =
    if is_blank b then tokens_from 0 (at + 1) rest
    else (if is_comment_sign b then tokens_from (run is_comment_byte rest) (at + 1) rest
    else (if is_letter b then with_token (token Word at (at + 1 + run is_word_byte rest))
    (tokens_from (run is_word_byte rest) (at + 1) rest)
    else (if is_digit b then with_token (token Number at (at + 1 + run is_digit rest))
    (tokens_from (run is_digit rest) (at + 1) rest)
    else (if is_sign b then with_token (token Sign at (at + 1)) (tokens_from 0 (at + 1) rest)
    else Err (fault BadByte at)))))

-- the tokens of a whole text, or the first byte that belongs to none
abbrev pub tokens_of : List ℕ → OrFault (List Token)
tokens_of text = tokens_from 0 0 text
