-- The first of the tokens that are left.
use Rattle.std.proofs.Common.{◌≡◌, ℕ, zero, suc, List, [], ◌∷◌, drop, get_or, slice_get, option_map, Option, Some, None}
use Rattle.std.proofs.Common.{refl}
use Rattle.vir_read.specs.declared.token.Token.{Token}
use Rattle.vir_read.specs.declared.token.TokenKind.TheVariants as kind
use Rattle.vir_read.specs.declared.symbol.Symbol.{Symbol}
use Rattle.vir_read.specs.Symbols.{symbol}

-- what stands for a token where there is none
abbrev pub no_token : Token
no_token = record { kind = kind.Word; start = 0; end = 0 }

-- the first token's symbol
abbrev pub front_symbol : List ℕ → List Token → Option Symbol
front_symbol text [] = None
front_symbol text (t ∷ rest) = Some (symbol text t)

-- the symbol of the token at an index
abbrev pub symbol_at : List ℕ → List Token → ℕ → Option Symbol
symbol_at text list at = option_map (λ t. symbol text t) (slice_get list at)

pub symbol_at-front : (text : List ℕ) (list : List Token) (at : ℕ) → symbol_at text list at
    ≡ front_symbol text (drop at list)
symbol_at-front text [] zero = refl
symbol_at-front text [] (suc at) = refl
symbol_at-front text (t ∷ list) zero = refl
symbol_at-front text (t ∷ list) (suc at) = symbol_at-front text list at

pub get_or-drop_here : (list : List Token) (at : ℕ) (d : Token) → get_or (drop at list) 0 d ≡ get_or list at d
get_or-drop_here [] zero d = refl
get_or-drop_here [] (suc at) d = refl
get_or-drop_here (t ∷ list) zero d = refl
get_or-drop_here (t ∷ list) (suc at) d = get_or-drop_here list at d
