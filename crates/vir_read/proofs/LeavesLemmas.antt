-- What is read leaves no more tokens than there were.
use Rattle.std.proofs.Common.{◌≡◌, ℕ, zero, suc, ◌≤◌, List, [], ◌∷◌, length, Bool, true, false, if◌then◌else◌, Option}
use Rattle.std.proofs.Common.{Some, None, Ok, Err, arith}
use Rattle.std.specs.Prelude.{⊤}
use Rattle.vir_read.specs.declared.token.Token.{Token}
use Rattle.vir_read.specs.declared.symbol.Symbol.{Symbol}
use Rattle.vir_read.specs.declared.symbol.Symbol.TheVariants.{Word, Number, OpenParenthesis, CloseParenthesis}
use Rattle.vir_read.specs.declared.symbol.Symbol.TheVariants.{OpenBracket, CloseBracket, Comma, Semicolon, Equals}
use Rattle.vir_read.specs.declared.tree_reader.Separator.{Separator}
use Rattle.vir_read.specs.declared.tree_reader.Separator.TheVariants as separator
use Rattle.vir_read.specs.Faults.{◌>>=◌}
use Rattle.vir_read.specs.Symbols.{symbol, is_same}
use Rattle.vir_read.specs.RawTrees.{RawTree}
use Rattle.vir_read.specs.Grammar.{Read, Reads, unexpected, symbol_of, opened, separator_of, goes_on, members}
use Rattle.vir_read.specs.Grammar.{numeral_of, bracket_then, in_brackets, word_then, behind_word, tree_at, tree_with}
use Rattle.vir_read.specs.Grammar.{tree_within}

-- a value leaves at most so many tokens
abbrev pub Leaves : {A : Type 0} → ℕ → Read A → Type 0
Leaves {A} n (Ok x) = length x.1 ≤ n
Leaves n (Err e) = ⊤

pub leaves : {A : Type 0} (n : ℕ) (r : Read A) (x : A × List Token) → Leaves n r → r ≡ Ok x → length x.1 ≤ n
leaves n (Ok y) x h e = let k : length y.1 ≡ length x.1 = cc in omega arith
leaves n (Err f) x h e = cc

pub more_left : {A : Type 0} (n m : ℕ) (r : Read A) → n ≤ m → Leaves n r → Leaves m r
more_left n m (Ok x) h k = omega arith
more_left n m (Err e) h k = tt

pub then_leaves : {A B : Type 0} (n m : ℕ) (r : Read A) (f : A × List Token → Read B) → Leaves m r
    → ((x : A × List Token) → length x.1 ≤ m → Leaves n (f x)) → Leaves n (r >>= f)
then_leaves n m (Ok x) f h k = k x h
then_leaves n m (Err e) f h k = tt

unexpected-leaves : (text : List ℕ) (n : ℕ) (tokens : List Token) → Leaves {A = List RawTree} n (unexpected text tokens)
unexpected-leaves text n [] = tt
unexpected-leaves text n (t ∷ rest) = tt

-- ---- the first token

chosen-leaves : (b : Bool) (text : List ℕ) (t : Token) (rest : List Token)
    → Leaves (length rest) (if b then Ok (t, rest) else unexpected text (t ∷ rest))
chosen-leaves true text t rest = omega arith
chosen-leaves false text t rest = tt

-- the first token is taken
pub symbol_of-takes : (text : List ℕ) (wanted : Symbol) (t : Token) (rest : List Token)
    → Leaves (length rest) (symbol_of text wanted (t ∷ rest))
symbol_of-takes text wanted t rest = chosen-leaves (is_same wanted (symbol text t)) text t rest

pub symbol_of-leaves : (text : List ℕ) (wanted : Symbol) (tokens : List Token) → Leaves (length tokens)
    (symbol_of text wanted tokens)
symbol_of-leaves text wanted [] = tt
symbol_of-leaves text wanted (t ∷ rest) =
    more_left (length rest) (length (t ∷ rest)) (symbol_of text wanted (t ∷ rest)) (omega arith)
    (symbol_of-takes text wanted t rest)

-- what stands behind a value that leaves fewer leaves fewer
pub next_leaves : {A B : Type 0} (n : ℕ) (r : Read A) (f : A × List Token → Read B) → Leaves n r
    → ((x : A × List Token) → Leaves (length x.1) (f x)) → Leaves n (r >>= f)
next_leaves n r f h k = then_leaves n n r f h (λ x j. more_left (length x.1) n (f x) j (k x))

-- ---- lists of trees

abbrev pub Shortens : Reads → Type 0
Shortens tree = (tokens : List Token) → Leaves (length tokens) (tree tokens)

separator-leaves : (b d : Bool) (text : List ℕ) (t : Token) (rest : List Token)
    → Leaves (length (t ∷ rest)) (if b then Ok (separator.Comma, rest) else (if d then Ok (separator.Close, rest)
    else unexpected text (t ∷ rest)))
separator-leaves true d text t rest = omega arith
separator-leaves false true text t rest = omega arith
separator-leaves false false text t rest = tt

separator_of-leaves : (text : List ℕ) (close : Symbol) (tokens : List Token) → Leaves (length tokens)
    (separator_of text close tokens)
separator_of-leaves text close [] = tt
separator_of-leaves text close (t ∷ rest) = separator-leaves (is_same Comma (symbol text t))
    (is_same close (symbol text t)) text t rest

goes_on-leaves : (first : RawTree) (further : List Token → Read (List RawTree)) (rest : List Token) (s : Separator)
    → Leaves (length rest) (further rest)
    → Leaves (length rest) (goes_on first further rest s)
goes_on-leaves first further rest separator.Comma h = then_leaves (length rest) (length rest) (further rest) _ h
    (λ x k. k)
goes_on-leaves first further rest separator.Close h = omega arith

members-leaves : (text : List ℕ) (close : Symbol) (tree : Reads) → Shortens tree → (most : ℕ) (tokens : List Token)
    → Leaves (length tokens) (members text close tree most tokens)
members-leaves text close tree h zero tokens = unexpected-leaves text (length tokens) tokens
members-leaves text close tree h (suc most) tokens =
    let further : List Token → Read (List RawTree) = members text close tree most in
    next_leaves (length tokens) (tree tokens)
    (λ first. separator_of text close first.1 >>= λ s. goes_on first.0 further s.1 s.0)
    (h tokens)
    (λ first. next_leaves (length first.1) (separator_of text close first.1) (λ s. goes_on first.0 further s.1 s.0)
    (separator_of-leaves text close first.1)
    (λ s. goes_on-leaves first.0 further s.1 s.0 (members-leaves text close tree h most s.1)))

-- ---- numbers in brackets

numeral_of-leaves : (text : List ℕ) → Shortens (numeral_of text)
numeral_of-leaves text tokens = next_leaves (length tokens) (symbol_of text Number tokens) _
    (symbol_of-leaves text Number tokens) (λ t. omega arith)

bracket_then-leaves : (text : List ℕ) (t : Token) (rest : List Token) (s : Symbol) → Leaves (length (t ∷ rest))
    (bracket_then text t rest s)
bracket_then-leaves text t rest Word = members-leaves text CloseBracket (numeral_of text) (numeral_of-leaves text)
    (length (t ∷ rest)) (t ∷ rest)
bracket_then-leaves text t rest Number = members-leaves text CloseBracket (numeral_of text) (numeral_of-leaves text)
    (length (t ∷ rest)) (t ∷ rest)
bracket_then-leaves text t rest OpenParenthesis = members-leaves text CloseBracket (numeral_of text)
    (numeral_of-leaves text) (length (t ∷ rest)) (t ∷ rest)
bracket_then-leaves text t rest CloseParenthesis = members-leaves text CloseBracket (numeral_of text)
    (numeral_of-leaves text) (length (t ∷ rest)) (t ∷ rest)
bracket_then-leaves text t rest OpenBracket = members-leaves text CloseBracket (numeral_of text)
    (numeral_of-leaves text) (length (t ∷ rest)) (t ∷ rest)
bracket_then-leaves text t rest CloseBracket = omega arith
bracket_then-leaves text t rest Comma = members-leaves text CloseBracket (numeral_of text) (numeral_of-leaves text)
    (length (t ∷ rest)) (t ∷ rest)
bracket_then-leaves text t rest Semicolon = members-leaves text CloseBracket (numeral_of text) (numeral_of-leaves text)
    (length (t ∷ rest)) (t ∷ rest)
bracket_then-leaves text t rest Equals = members-leaves text CloseBracket (numeral_of text) (numeral_of-leaves text)
    (length (t ∷ rest)) (t ∷ rest)

in_brackets-leaves : (text : List ℕ) (tokens : List Token) → Leaves (length tokens) (in_brackets text tokens)
in_brackets-leaves text [] = tt
in_brackets-leaves text (t ∷ rest) = bracket_then-leaves text t rest (symbol text t)

-- ---- trees

abbrev ShortensInside : Option Reads → Type 0
ShortensInside None = ⊤
ShortensInside (Some tree) = Shortens tree

opened-leaves : (at n : ℕ) (inside : Option Reads) (f : Reads → Read RawTree) → ShortensInside inside
    → ((tree : Reads) → Shortens tree → Leaves n (f tree)) → Leaves n (opened at inside f)
opened-leaves at n None f h k = tt
opened-leaves at n (Some tree) f h k = k tree h

word_then-leaves : (text : List ℕ) (inside : Option Reads) (t s : Token) (rest : List Token) → ShortensInside inside
    → (sort : Symbol) → Leaves (length (s ∷ rest)) (word_then text inside t s rest sort)
word_then-leaves text inside t s rest h Word = omega arith
word_then-leaves text inside t s rest h Number = omega arith
word_then-leaves text inside t s rest h OpenParenthesis = opened-leaves s.start (length (s ∷ rest)) inside _ h
    (λ tree k. then_leaves (length (s ∷ rest)) (length rest) (members text CloseParenthesis tree (length rest) rest) _
    (members-leaves text CloseParenthesis tree k (length rest) rest) (λ x j. omega arith))
word_then-leaves text inside t s rest h CloseParenthesis = omega arith
word_then-leaves text inside t s rest h OpenBracket = omega arith
word_then-leaves text inside t s rest h CloseBracket = omega arith
word_then-leaves text inside t s rest h Comma = omega arith
word_then-leaves text inside t s rest h Semicolon = omega arith
word_then-leaves text inside t s rest h Equals = omega arith

behind_word-leaves : (text : List ℕ) (inside : Option Reads) (t : Token) (tokens : List Token) → ShortensInside inside
    → Leaves (length tokens) (behind_word text inside t tokens)
behind_word-leaves text inside t [] h = omega arith
behind_word-leaves text inside t (s ∷ rest) h = word_then-leaves text inside t s rest h (symbol text s)

tree_at-leaves : (text : List ℕ) (inside : Option Reads) (t : Token) (rest : List Token) → ShortensInside inside
    → (sort : Symbol) → Leaves (length (t ∷ rest)) (tree_at text inside t rest sort)
tree_at-leaves text inside t rest h Word = more_left (length rest) (length (t ∷ rest)) (behind_word text inside t rest)
    (omega arith) (behind_word-leaves text inside t rest h)
tree_at-leaves text inside t rest h Number = omega arith
tree_at-leaves text inside t rest h OpenParenthesis = tt
tree_at-leaves text inside t rest h CloseParenthesis = tt
tree_at-leaves text inside t rest h OpenBracket = opened-leaves t.start (length (t ∷ rest)) inside _ h
    (λ tree k. then_leaves (length (t ∷ rest)) (length rest) (in_brackets text rest) _ (in_brackets-leaves text rest)
    (λ x j. omega arith))
tree_at-leaves text inside t rest h CloseBracket = tt
tree_at-leaves text inside t rest h Comma = tt
tree_at-leaves text inside t rest h Semicolon = tt
tree_at-leaves text inside t rest h Equals = tt

tree_with-leaves : (text : List ℕ) (inside : Option Reads) → ShortensInside inside → Shortens (tree_with text inside)
tree_with-leaves text inside h [] = tt
tree_with-leaves text inside h (t ∷ rest) = tree_at-leaves text inside t rest h (symbol text t)

pub tree_within-leaves : (text : List ℕ) (room : ℕ) → Shortens (tree_within text room)
unfolding tree_within
tree_within-leaves text zero tokens = tree_with-leaves text None tt tokens
tree_within-leaves text (suc room) tokens = tree_with-leaves text (Some (tree_within text room))
    (tree_within-leaves text room) tokens
