-- What a tree begins with.
use Rattle.std.proofs.Common.{◌≡◌, ℕ, zero, suc, ◌+◌, ◌-◌, ◌<◌, ◌≤◌, List, [], ◌∷◌, length, drop, get_or, Option, Some}
use Rattle.std.proofs.Common.{None, Ok, refl, ap, sym, ◌∙◌, arith, drop-cons, add-one}
use Rattle.std.proofs.lemmas.List.{drop-drop, drop_all}
use Rattle.std.proofs.lemmas.Option.{none-some, same_Some}
use Rattle.vir_read.specs.declared.token.Token.{Token}
use Rattle.vir_read.specs.declared.symbol.Symbol.{Symbol}
use Rattle.vir_read.specs.declared.symbol.Symbol.TheVariants.{Word, Number, OpenParenthesis, CloseParenthesis}
use Rattle.vir_read.specs.declared.symbol.Symbol.TheVariants.{OpenBracket, CloseBracket, Comma, Semicolon, Equals}
use Rattle.vir_read.specs.declared.text_fault.TextError.{TextError}
use Rattle.vir_read.specs.declared.text_fault.TextError.TheVariants.{Fault, Memory}
use Rattle.vir_read.specs.Faults.{OrFault, Fails, ◌>>=◌}
use Rattle.vir_read.specs.Symbols.{symbol}
use Rattle.vir_read.specs.RawTrees.{word, none}
use Rattle.vir_read.specs.Grammar.{Reads, unexpected, members, numeral_of, in_brackets, bracket_then, behind_word}
use Rattle.vir_read.specs.Grammar.{word_then, tree_at, tree_with, tree_within, inside}
use Rattle.vir_read.proofs.TreeLemmas.{front_symbol, symbol_at, symbol_at-front, get_or-drop_here}

-- ---- numbers in brackets

pub brackets_closed : (text : List ℕ) (list : List Token) (at : ℕ) → symbol_at text list at ≡ Some CloseBracket
    → in_brackets text (drop at list) ≡ Ok ([], drop (at + 1) list)
brackets_closed text list at e =
    closed (drop at list) (sym (symbol_at-front text list at) ∙ e) ∙ ap (λ tokens. Ok ([], tokens))
    (drop-drop 1 at list)
  where
    closed : (tokens : List Token) → front_symbol text tokens ≡ Some CloseBracket → in_brackets text tokens
        ≡ Ok ([], drop 1 tokens)
    closed [] e = absurd (none-some CloseBracket e)
    closed (t ∷ rest) e = ap (bracket_then text t rest) (same_Some (symbol text t) CloseBracket e)

bracket_open : (text : List ℕ) (t : Token) (rest : List Token) (s : Symbol) → ¬ (Some s ≡ Some CloseBracket)
    → bracket_then text t rest s ≡ members text CloseBracket (numeral_of text) (length (t ∷ rest)) (t ∷ rest)
bracket_open text t rest Word h = refl
bracket_open text t rest Number h = refl
bracket_open text t rest OpenParenthesis h = refl
bracket_open text t rest CloseParenthesis h = refl
bracket_open text t rest OpenBracket h = refl
bracket_open text t rest CloseBracket h = absurd (h refl)
bracket_open text t rest Comma h = refl
bracket_open text t rest Semicolon h = refl
bracket_open text t rest Equals h = refl

pub brackets_open : (text : List ℕ) (list : List Token) (at : ℕ) → ¬ (symbol_at text list at ≡ Some CloseBracket)
    → in_brackets text (drop at list) ≡ members text CloseBracket (numeral_of text) (length (drop at list))
    (drop at list)
brackets_open text list at h = open_at (drop at list) (λ x. h (symbol_at-front text list at ∙ x))
  where
    open_at : (tokens : List Token) → ¬ (front_symbol text tokens ≡ Some CloseBracket) → in_brackets text tokens
        ≡ members text CloseBracket (numeral_of text) (length tokens) tokens
    open_at [] h = refl
    open_at (t ∷ rest) h = bracket_open text t rest (symbol text t) h

-- ---- words

pub word_alone_then : (text : List ℕ) (inside : Option Reads) (t s : Token) (rest : List Token) (seen : Symbol)
    → ¬ (Some seen ≡ Some OpenParenthesis) →
    word_then text inside t s rest seen ≡ Ok (word t.start t.end none, s ∷ rest)
word_alone_then text inside t s rest Word h = refl
word_alone_then text inside t s rest Number h = refl
word_alone_then text inside t s rest OpenParenthesis h = absurd (h refl)
word_alone_then text inside t s rest CloseParenthesis h = refl
word_alone_then text inside t s rest OpenBracket h = refl
word_alone_then text inside t s rest CloseBracket h = refl
word_alone_then text inside t s rest Comma h = refl
word_alone_then text inside t s rest Semicolon h = refl
word_alone_then text inside t s rest Equals h = refl

pub word_alone : (text : List ℕ) (inside : Option Reads) (t : Token) (list : List Token) (at : ℕ)
    → ¬ (symbol_at text list at ≡ Some OpenParenthesis) →
    behind_word text inside t (drop at list) ≡ Ok (word t.start t.end none, drop at list)
word_alone text inside t list at h = alone (drop at list) (λ x. h (symbol_at-front text list at ∙ x))
  where
    alone : (tokens : List Token) → ¬ (front_symbol text tokens ≡ Some OpenParenthesis) → behind_word text inside t
        tokens ≡ Ok (word t.start t.end none, tokens)
    alone [] h = refl
    alone (s ∷ rest) h = word_alone_then text inside t s rest (symbol text s) h

-- a word with a sign behind it that opens
pub word_opens : (text : List ℕ) (inside : Option Reads) (t d : Token) (list : List Token) (at : ℕ)
    → symbol_at text list at ≡ Some OpenParenthesis →
    behind_word text inside t (drop at list) ≡ word_then text inside t (get_or list at d) (drop (at + 1) list)
    OpenParenthesis
word_opens text inside t d list at e =
    opens (drop at list) (sym (symbol_at-front text list at) ∙ e)
    ∙ ap (λ s. word_then text inside t s (drop 1 (drop at list)) OpenParenthesis) (get_or-drop_here list at d)
    ∙ ap (λ rest. word_then text inside t (get_or list at d) rest OpenParenthesis) (drop-drop 1 at list)
  where
    opens : (tokens : List Token) → front_symbol text tokens ≡ Some OpenParenthesis → behind_word text inside t tokens
        ≡ word_then text inside t (get_or tokens 0 d) (drop 1 tokens) OpenParenthesis
    opens [] e = absurd (none-some OpenParenthesis e)
    opens (s ∷ rest) e = ap (word_then text inside t s rest) (same_Some (symbol text s) OpenParenthesis e)

-- ---- trees

pub inside-no_room : (text : List ℕ) (room : ℕ) → room ≡ 0 → inside text room ≡ None
inside-no_room text zero h = refl
inside-no_room text (suc room) h = absurd (omega arith)

pub inside-room : (text : List ℕ) (room : ℕ) → 0 < room → inside text room ≡ Some (tree_within text (room - 1))
inside-room text zero h = absurd (omega arith)
inside-room text (suc room) h = let e : suc room - 1 ≡ room = omega arith in ap (λ n. Some (tree_within text n)) (sym e)

tree_within-inside : (text : List ℕ) (room : ℕ) (tokens : List Token) → tree_within text room tokens
    ≡ tree_with text (inside text room) tokens
unfolding tree_within
tree_within-inside text zero tokens = refl
tree_within-inside text (suc room) tokens = refl

-- a tree from a token on
pub tree_within-here : (text : List ℕ) (room : ℕ) (list : List Token) (at : ℕ) (d : Token) → at < length list →
    tree_within text room (drop at list) ≡ tree_at text (inside text room) (get_or list at d) (drop (at + 1) list)
    (symbol text (get_or list at d))
tree_within-here text room list at d h =
    tree_within-inside text room (drop at list)
    ∙ ap (tree_with text (inside text room)) (drop-cons list at d h)
    ∙ ap (λ n. tree_at text (inside text room) (get_or list at d) (drop n list) (symbol text (get_or list at d)))
    (sym (add-one at))

-- where the tokens end stands no tree
pub tree_within-end : (text : List ℕ) (room : ℕ) (list : List Token) (at : ℕ) → length list ≤ at → tree_within text room
    (drop at list) ≡ unexpected text (drop at list)
tree_within-end text room list at h =
    tree_within-inside text room (drop at list) ∙ ap (tree_with text (inside text room)) (drop_all at list h)
    ∙ ap (unexpected text) (sym (drop_all at list h))

-- no tree begins with another sign
pub tree_wrong : (text : List ℕ) (inside : Option Reads) (t : Token) (rest : List Token) (s : Symbol) → ¬ (s ≡ Word)
    → ¬ (s ≡ Number) → ¬ (s ≡ OpenBracket) →
    tree_at text inside t rest s ≡ unexpected text (t ∷ rest)
tree_wrong text inside t rest Word h k l = absurd (h refl)
tree_wrong text inside t rest Number h k l = absurd (k refl)
tree_wrong text inside t rest OpenParenthesis h k l = refl
tree_wrong text inside t rest CloseParenthesis h k l = refl
tree_wrong text inside t rest OpenBracket h k l = absurd (l refl)
tree_wrong text inside t rest CloseBracket h k l = refl
tree_wrong text inside t rest Comma h k l = refl
tree_wrong text inside t rest Semicolon h k l = refl
tree_wrong text inside t rest Equals h k l = refl
