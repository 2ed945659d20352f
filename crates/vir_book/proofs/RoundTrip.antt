-- A rule file of printed terms is read as what it was printed from.
use Rattle.std.proofs.Common.{◌≡◌, ℕ, zero, suc, ◌≤◌, true, false, ◌||◌, List, [], ◌∷◌, ◌++◌, length, None, Ok, Err}
use Rattle.std.proofs.Common.{is_some, nat_lt, if◌then◌else◌, refl, sym, ◌∙◌, ap, arith, append_assoc, append-nil}
use Rattle.std.proofs.Common.{length-append}
use Rattle.std.proofs.lemmas.Bool.Decides.{nat_tests}
use Rattle.vir_term.specs.Tree.{Tree}
use Rattle.vir_term.specs.Limits.{IsWithinLimits}
use Rattle.vir_term.specs.Text.{term_text}
use Rattle.vir_read.specs.declared.token.Token.{Token}
use Rattle.vir_read.specs.declared.text_fault.TextKind.TheVariants.{TextTooLong}
use Rattle.vir_read.specs.Faults.{◌>>=◌, fault}
use Rattle.vir_read.specs.Tokens.{tokens_of}
use Rattle.vir_read.specs.RawTrees.{RawTree}
use Rattle.vir_read.specs.BuiltIns.{built_in_named}
use Rattle.vir_read.specs.Arguments.{span, is_known}
use Rattle.vir_read.specs.Typing.{term_of}
use Rattle.vir_read.specs.Pieces.{Piece, name, sign, Says, SayAll, term_pieces}
use Rattle.vir_read.specs.Printed.{is_name, definition_text, IsRead}
use Rattle.vir_read.proofs.RoundTripTrees.{said_twice, said_first, symbol-word, symbol-sign, opens_nothing-sign}
use Rattle.vir_read.proofs.RoundTripTrees.{semicolon_closes}
use Rattle.vir_read.proofs.RoundTripTokens.{is_name-parts, AreApart, are_apart-append, apart-term, pieces_text}
use Rattle.vir_read.proofs.RoundTripTokens.{pieces_text-append, text-term}
use Rattle.vir_read.proofs.RoundTripWhole.{read-said, tokens_of-pieces}
use Rattle.vir_read.proofs.RoundTripLengths.{length-term_text}
use Rattle.vir_book.specs.Books.{Entry, entry, lookup, definition_of, with_definition, entries_of, rule_file_limit}
use Rattle.vir_book.specs.Books.{filled, book_of}
use Rattle.vir_book.specs.Printed.{book_text, AreDefinable, name_limit}

-- ---- pieces

-- what a rule file of these entries is made of
abbrev pub book_pieces : List Entry → List Piece
book_pieces [] = []
book_pieces (e ∷ rest) = name e.name ∷ sign 61 ∷ (term_pieces e.term ++ sign 59 ∷ book_pieces rest)

apart-book : (before list : List Entry) → AreDefinable before list → AreApart (book_pieces list)
apart-book before [] h = tt
apart-book before (e ∷ rest) h = (
  is_name-parts e.name h.0,
  refl,
  (
    refl,
    are_apart-append (term_pieces e.term) (sign 59 ∷ book_pieces rest)
        (apart-term e.term h.2.in_range) refl (refl, apart-book (before ++ e ∷ []) rest h.3),
  ),
)

text-book : (list : List Entry) → book_text list ≡ pieces_text (book_pieces list)
text-book [] = refl
text-book (e ∷ rest) =
    append_assoc e.name (61 ∷ (term_text e.term ++ 59 ∷ [])) (book_text rest)
    ∙ ap (λ y. e.name ++ 61 ∷ y) (append_assoc (term_text e.term) (59 ∷ []) (book_text rest)
    ∙ ap (λ y. y ++ 59 ∷ book_text rest) (text-term e.term) ∙ ap (λ y. pieces_text (term_pieces e.term) ++ 59 ∷ y)
    (text-book rest)
    ∙ sym (pieces_text-append (term_pieces e.term) (sign 59 ∷ book_pieces rest)))

-- ---- definitions

module _ (text : List ℕ) where
  -- a word, =, a tree and ; are a definition
  definition_of-said : (w : List ℕ) (t : Tree) (x q z : Token) (tokens rest : List Token) → Says text (name w) x
      → Says text (sign 61) q → Says text (sign 59) z →
      (r : IsRead text t tokens (z ∷ rest)) → definition_of text (x ∷ q ∷ tokens)
      ≡ Ok (record { name = x; tree = r.raw }, rest)
  definition_of-said w t x q z tokens rest named equal ended r =
      rw (symbol-word text w x named, symbol-sign text 61 q equal, r.read, symbol-sign text 59 z ended) refl

  with_definition-said : (before : List Entry) (e : Entry) (x : Token) (raw : RawTree) → span text x.start x.end
      ≡ e.name → is_known (lookup before) e.name ≡ false →
      term_of text (lookup before) x.start raw ≡ Ok e.term → with_definition text before
      (record { name = x; tree = raw }) ≡ Ok (before ++ e ∷ [])
  with_definition-said before e x raw named new meant = rw (named, new, meant) refl

  entries_of-said : (list before : List Entry) (most : ℕ) (tokens : List Token) → AreDefinable before list
      → SayAll text (book_pieces list) tokens → length tokens ≤ most →
      entries_of most text before tokens ≡ Ok (before ++ list)
  entries_of-said [] before zero [] h says enough = ap Ok (sym (append-nil before))
  entries_of-said [] before (suc most) [] h says enough = ap Ok (sym (append-nil before))
  entries_of-said [] before most (t ∷ tokens) h says enough = absurd says
  entries_of-said (e ∷ list) before most [] h says enough = absurd says
  entries_of-said (e ∷ list) before zero (t ∷ tokens) h says enough = absurd (omega arith)
  entries_of-said (e ∷ list) before (suc most) (x ∷ tokens) h says enough =
      let q = said_first text (sign 61) (term_pieces e.term ++ sign 59 ∷ book_pieces list) tokens says.1 in
      let k = said_twice text (term_pieces e.term) (sign 59 ∷ book_pieces list) q.1 q.4 in
      let z = said_first text (sign 59) (book_pieces list) k.1 k.4 in
      let are : tokens ≡ q.0 ∷ (k.0 ++ z.0 ∷ z.1) = q.2 ∙ ap (λ ts. q.0 ∷ ts) (k.2 ∙ ap (λ ts. k.0 ++ ts) z.2) in
      let r = read-said text e.term k.0 (z.0 ∷ z.1) h.2 k.3 (opens_nothing-sign text 59 z.0 z.1 (semicolon_closes text)
      z.3) in
      let fewer : length z.1 ≤ most = omega (arith, ap length are, length-append k.0 (z.0 ∷ z.1)) in
      ap (λ ts. entries_of (suc most) text before (x ∷ ts)) are
      ∙ ap (λ r. r >>= λ d. with_definition text before d.0 >>= λ after. entries_of most text after d.1)
      (definition_of-said e.name e.term x q.0 z.0 (k.0 ++ z.0 ∷ z.1) z.1 says.0 q.3 z.3 r)
      ∙ ap (λ r. r >>= λ after. entries_of most text after z.1)
      (with_definition-said before e x r.raw says.0.1 h.1 (r.meant (lookup before) x.start))
      ∙ entries_of-said list (before ++ e ∷ []) most z.1 h.3 z.4 fewer
      ∙ ap Ok (append_assoc before (e ∷ []) list)

-- ---- rule files

not_too_long : (n : ℕ) → n ≤ rule_file_limit → nat_lt rule_file_limit n ≡ false
not_too_long n h = grind (arith, nat_tests)

pub book_of-text : (e : Entry) (rest : List Entry) → AreDefinable [] (e ∷ rest) → length (book_text (e ∷ rest)) ≤
    rule_file_limit → book_of (book_text (e ∷ rest)) ≡ Ok (e ∷ rest)
book_of-text e rest h short =
    let list = e ∷ rest in
    let text = book_text list in
    let found = tokens_of-pieces text (book_pieces list) (apart-book [] list h) (text-book list) in
    ap (λ b. if b then Err (fault TextTooLong rule_file_limit)
    else (tokens_of text >>= λ tokens. entries_of (length tokens) text [] tokens >>= filled))
    (not_too_long (length text) short)
    ∙ ap (λ r. r >>= λ tokens. entries_of (length tokens) text [] tokens >>= filled) found.2
    ∙ ap (λ r. r >>= filled) (entries_of-said text list [] (length found.0) found.0 h found.1 (omega arith))

-- a rule file of one definition is short enough
length-definition_text : (w : List ℕ) (t : Tree) → length w ≤ name_limit → IsWithinLimits t
    → length (definition_text w t) ≤ rule_file_limit
length-definition_text w t short within =
    omega (
      arith,
      length-append w (61 ∷ (term_text t ++ 59 ∷ [])),
      length-append (term_text t) (59 ∷ []),
      length-term_text t within.in_range,
      within.small,
    )

pub book_of-definition : (w : List ℕ) (t : Tree) → is_name w ≡ true → built_in_named w ≡ None → length w ≤ name_limit
    → IsWithinLimits t →
    book_of (definition_text w t) ≡ Ok (entry w t ∷ [])
book_of-definition w t named free short within =
    let new : is_known (lookup []) w ≡ false = ap (λ o. is_some o || false) free in
    let one = append-nil (definition_text w t) in
    ap book_of (sym one)
    ∙ book_of-text (entry w t) [] (named, new, within, tt)
    (omega (arith, ap length one, length-definition_text w t short within))
