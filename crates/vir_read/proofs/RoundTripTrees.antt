-- Tokens that say a term's pieces are read as a tree that spells it.
use Rattle.std.proofs.Common.{◌≡◌, ℕ, zero, suc, ◌+◌, ◌≤◌, List, [], ◌∷◌, ◌++◌, length, Option, Some, None, Ok, max}
use Rattle.std.proofs.Common.{slice_get, refl, sym, ◌∙◌, ap, subst, arith, append_assoc, length-append}
use Rattle.std.proofs.lemmas.Option.{same_Some}
use Rattle.std.specs.Prelude.{codes}
use Rattle.vir_term.specs.declared.score.Score.{Score}
use Rattle.vir_term.specs.declared.leaf.Leaf.{Leaf}
use Rattle.vir_term.specs.declared.leaf.Leaf.TheVariants.{Elect, Defer, PassFirst, DropFirst, Plurality, Max, Min}
use Rattle.vir_term.specs.declared.leaf.Leaf.TheVariants.{Below, Upto}
use Rattle.vir_term.specs.Text.{score_text}
use Rattle.vir_term.specs.Tree.{Tree, leaf, rev, seq, par, loop, exactly, at_most, nesting}
use Rattle.vir_read.specs.declared.token.Token.{Token}
use Rattle.vir_read.specs.declared.symbol.Symbol.{Symbol}
use Rattle.vir_read.specs.declared.symbol.Symbol.TheVariants.{Word, Number, OpenParenthesis, CloseParenthesis}
use Rattle.vir_read.specs.declared.symbol.Symbol.TheVariants.{OpenBracket, CloseBracket, Comma, Semicolon, Equals}
use Rattle.vir_read.specs.Faults.{◌>>=◌}
use Rattle.vir_read.specs.Symbols.{symbol, kind_symbol, byte_symbol}
use Rattle.vir_read.specs.RawTrees.{RawTree, RawTrees, word, number, bracket, none, more, gathered}
use Rattle.vir_read.specs.Grammar.{Reads, members, numeral_of, bracket_then, word_then, behind_word, tree_within}
use Rattle.vir_read.specs.Spelling.{IsWord, IsNumber, AreNumbers, IsBracket, IsOf, IsOfTwo, SpellsOrdered, SpellsLeaf}
use Rattle.vir_read.specs.Spelling.{Spells}
use Rattle.vir_read.specs.Pieces.{Piece, name, digits, sign, Says, SayAll, pieces_of, pieces_of_two, more_pieces}
use Rattle.vir_read.specs.Pieces.{ordered_pieces, leaf_pieces, term_pieces, OpensNothing}
use Rattle.vir_read.proofs.BeginLemmas.{word_alone_then}

-- ---- lists of tokens

-- tokens that say two lists of pieces are two lists of tokens
pub said_twice : (text : List ℕ) (ps qs : List Piece) (tokens : List Token) → SayAll text (ps ++ qs) tokens →
    (front back : List Token) × (tokens ≡ front ++ back) × SayAll text ps front × SayAll text qs back
said_twice text [] qs tokens h = ([], tokens, refl, tt, h)
said_twice text (p ∷ ps) qs [] h = absurd h
said_twice text (p ∷ ps) qs (t ∷ tokens) h =
    let k = said_twice text ps qs tokens h.1 in (t ∷ k.0, k.1, ap (λ ts. t ∷ ts) k.2, (h.0, k.3), k.4)

pub said_first : (text : List ℕ) (p : Piece) (ps : List Piece) (tokens : List Token) → SayAll text (p ∷ ps) tokens →
    (t : Token) × (rest : List Token) × (tokens ≡ t ∷ rest) × Says text p t × SayAll text ps rest
said_first text p ps [] h = absurd h
said_first text p ps (t ∷ tokens) h = (t, tokens, refl, h.0, h.1)

pub said_last : (text : List ℕ) (p : Piece) (tokens : List Token) → SayAll text (p ∷ []) tokens → (t : Token)
    × (tokens ≡ t ∷ []) × Says text p t
said_last text p [] h = absurd h
said_last text p (t ∷ []) h = (t, refl, h.0)
said_last text p (t ∷ u ∷ tokens) h = absurd h.1

module _ (text : List ℕ) where
  -- ---- symbols

  pub symbol-word : (w : List ℕ) (t : Token) → Says text (name w) t → symbol text t ≡ Word
  symbol-word w t h = ap (λ k. kind_symbol k (slice_get text t.start)) h.0

  symbol-number : (n : ℕ) (t : Token) → Says text (digits n) t → symbol text t ≡ Number
  symbol-number n t h = ap (λ k. kind_symbol k (slice_get text t.start)) h.0

  pub symbol-sign : (b : ℕ) (t : Token) → Says text (sign b) t → symbol text t ≡ byte_symbol (Some b)
  symbol-sign b t h = ap (λ k. kind_symbol k (slice_get text t.start)) h.0 ∙ ap byte_symbol h.1

  comma_closes : byte_symbol (Some 44) ≡ OpenParenthesis → ⊥
  comma_closes e = cc

  parenthesis_closes : byte_symbol (Some 41) ≡ OpenParenthesis → ⊥
  parenthesis_closes e = cc

  pub semicolon_closes : byte_symbol (Some 59) ≡ OpenParenthesis → ⊥
  semicolon_closes e = cc

  -- tokens that begin with another sign open nothing
  pub opens_nothing-sign : (b : ℕ) (t : Token) (rest : List Token) → (byte_symbol (Some b) ≡ OpenParenthesis → ⊥)
      → Says text (sign b) t → OpensNothing text (t ∷ rest)
  opens_nothing-sign b t rest other h = subst (λ y. y ≡ OpenParenthesis → ⊥) (sym (symbol-sign b t h)) other

  -- a token that says a word makes a tree of it, and so does one that says a number
  word_said : (w : List ℕ) (parts : RawTrees) (t : Token) → Says text (name w) t
      → IsWord text w parts (word t.start t.end parts)
  word_said w parts t h = record { start = t.start; end = t.end; shape = refl; written = h.1 }

  number_said : (n : ℕ) (t : Token) → Says text (digits n) t → IsNumber text n (number t.start t.end)
  number_said n t h = record { start = t.start; end = t.end; shape = refl; written = h.1 }

  bracket_said : (order : List ℕ) (t : Token) (members : RawTrees) → AreNumbers text order members
      → IsBracket text order (bracket t.start members)
  bracket_said order t members h = record { start = t.start; members = members; shape = refl; written = h }

  -- ---- steps of the grammar

  -- a word before tokens that open nothing stands alone
  behind_word-alone : (inside : Option Reads) (t : Token) (rest : List Token) → OpensNothing text rest →
      behind_word text inside t rest ≡ Ok (word t.start t.end none, rest)
  behind_word-alone inside t [] h = refl
  behind_word-alone inside t (s ∷ rest) h =
      word_alone_then text inside t s rest (symbol text s) (λ e. h (same_Some (symbol text s) OpenParenthesis e))

  -- one tree before a closing parenthesis
  parts-one : (tree : Reads) (most : ℕ) (tokens rest : List Token) (close : Token) (first : RawTree) → 1 ≤ most →
      tree tokens ≡ Ok (first, close ∷ rest) → symbol text close ≡ CloseParenthesis → members text CloseParenthesis tree
      most tokens ≡ Ok (first ∷ [], rest)
  parts-one tree zero tokens rest close first some read closes = absurd (omega arith)
  parts-one tree (suc most) tokens rest close first some read closes = rw (read, closes) refl

  -- two of them
  parts-two : (tree : Reads) (most : ℕ) (tokens further rest : List Token) (comma close : Token)
      (first second : RawTree) → 2 ≤ most →
      tree tokens ≡ Ok (first, comma ∷ further) → symbol text comma ≡ Comma → tree further ≡ Ok (second, close ∷ rest)
      → symbol text close ≡ CloseParenthesis →
      members text CloseParenthesis tree most tokens ≡ Ok (first ∷ second ∷ [], rest)
  parts-two tree zero tokens further rest comma close first second some read goes_on read' closes = absurd (omega arith)
  parts-two tree (suc most) tokens further rest comma close first second some read goes_on read' closes =
      rw (read, goes_on, parts-one tree most further rest close second (omega arith) read' closes) refl

  -- a word with parts
  within-word : (room : ℕ) (x p : Token) (inner rest : List Token) (found : List RawTree) → symbol text x ≡ Word
      → symbol text p ≡ OpenParenthesis →
      members text CloseParenthesis (tree_within text room) (length inner) inner ≡ Ok (found, rest) →
      tree_within text (suc room) (x ∷ p ∷ inner) ≡ Ok (word x.start x.end (gathered found), rest)
  unfolding tree_within
  within-word room x p inner rest found a b read = rw (a, b, read) refl

  -- ---- readers

  -- Tokens that say these pieces are read as a tree of this kind, where so many signs may be unclosed.
  abbrev pub Readable : ℕ → List Piece → (RawTree → Type 0) → Type 0
  Readable need ps Kind = (room : ℕ) (tokens : List Token) → need ≤ room → SayAll text ps tokens → (rest : List Token)
      → OpensNothing text rest →
      (raw : RawTree) × Kind raw × (tree_within text room (tokens ++ rest) ≡ Ok (raw, rest))

  pub readable-word : (w : List ℕ) (need : ℕ) → Readable need (name w ∷ []) (IsWord text w none)
  unfolding tree_within
  readable-word w need zero tokens h says rest opens_nothing =
      let k = said_last text (name w) tokens says in (
        word k.0.start k.0.end none,
        word_said w none k.0 k.2,
        ap (λ ts. tree_within text zero (ts ++ rest)) k.1 ∙ rw (symbol-word w k.0 k.2)
            (behind_word-alone None k.0 rest opens_nothing),
      )
  readable-word w need (suc room) tokens h says rest opens_nothing =
      let k = said_last text (name w) tokens says in (
        word k.0.start k.0.end none,
        word_said w none k.0 k.2,
        ap (λ ts. tree_within text (suc room) (ts ++ rest)) k.1 ∙ rw (symbol-word w k.0 k.2)
            (behind_word-alone (Some (tree_within text room)) k.0 rest opens_nothing),
      )

  pub readable-number : (n need : ℕ) → Readable need (digits n ∷ []) (IsNumber text n)
  unfolding tree_within
  readable-number n need zero tokens h says rest opens_nothing =
      let k = said_last text (digits n) tokens says in (
        number k.0.start k.0.end,
        number_said n k.0 k.2,
        ap (λ ts. tree_within text zero (ts ++ rest)) k.1 ∙ rw (symbol-number n k.0 k.2) refl,
      )
  readable-number n need (suc room) tokens h says rest opens_nothing =
      let k = said_last text (digits n) tokens says in (
        number k.0.start k.0.end,
        number_said n k.0 k.2,
        ap (λ ts. tree_within text (suc room) (ts ++ rest)) k.1 ∙ rw (symbol-number n k.0 k.2) refl,
      )

  -- more room does no harm
  roomier : (ps : List Piece) (need need' : ℕ) (Kind : RawTree → Type 0) → need ≤ need' → Readable need ps Kind
      → Readable need' ps Kind
  roomier ps need need' Kind h reads room tokens enough = reads room tokens (omega arith)

  pub readable-of : (w : List ℕ) (ps : List Piece) (need : ℕ) (First : RawTree → Type 0) → Readable need ps First →
      Readable (need + 1) (pieces_of w ps) (IsOf text w First)
  readable-of w ps need First reads zero tokens h says rest opens_nothing = absurd (omega arith)
  readable-of w ps need First reads (suc room) tokens h says rest opens_nothing =
      let x = said_first text (name w) (sign 40 ∷ (ps ++ sign 41 ∷ [])) tokens says in
      let p = said_first text (sign 40) (ps ++ sign 41 ∷ []) x.1 x.4 in
      let k = said_twice text ps (sign 41 ∷ []) p.1 p.4 in
      let q = said_last text (sign 41) k.1 k.4 in
      let inner = k.0 ++ q.0 ∷ rest in
      let first = reads room k.0 (omega arith) k.3 (q.0 ∷ rest) (opens_nothing-sign 41 q.0 rest parenthesis_closes q.2)
      in
      let same : tokens ++ rest ≡ x.0 ∷ p.0 ∷ inner =
      ap (λ ts. ts ++ rest) (x.2 ∙ ap (λ ts. x.0 ∷ ts) (p.2 ∙ ap (λ ts. p.0 ∷ ts) (k.2 ∙ ap (λ ts. k.0 ++ ts) q.1)))
      ∙ ap (λ ts. x.0 ∷ p.0 ∷ ts) (append_assoc k.0 (q.0 ∷ []) rest) in
      let some : 1 ≤ length inner = omega (arith, length-append k.0 (q.0 ∷ rest)) in (
        word x.0.start x.0.end (more first.0 none),
        (first.0, word_said w (more first.0 none) x.0 x.3, first.1),
        ap (tree_within text (suc room)) same
            ∙ within-word room x.0 p.0 inner rest (first.0 ∷ []) (symbol-word w x.0 x.3) (symbol-sign 40 p.0 p.3)
            (parts-one (tree_within text room) (length inner) inner rest q.0 first.0 some first.2
            (symbol-sign 41 q.0 q.2)),
      )

  readable-of_two : (w : List ℕ) (ps qs : List Piece) (need : ℕ) (First Second : RawTree → Type 0)
      → Readable need ps First → Readable need qs Second →
      Readable (need + 1) (pieces_of_two w ps qs) (IsOfTwo text w First Second)
  readable-of_two w ps qs need First Second reads reads' zero tokens h says rest opens_nothing = absurd (omega arith)
  readable-of_two w ps qs need First Second reads reads' (suc room) tokens h says rest opens_nothing =
      let x = said_first text (name w) (sign 40 ∷ (ps ++ sign 44 ∷ (qs ++ sign 41 ∷ []))) tokens says in
      let p = said_first text (sign 40) (ps ++ sign 44 ∷ (qs ++ sign 41 ∷ [])) x.1 x.4 in
      let k = said_twice text ps (sign 44 ∷ (qs ++ sign 41 ∷ [])) p.1 p.4 in
      let c = said_first text (sign 44) (qs ++ sign 41 ∷ []) k.1 k.4 in
      let l = said_twice text qs (sign 41 ∷ []) c.1 c.4 in
      let q = said_last text (sign 41) l.1 l.4 in
      let further = l.0 ++ q.0 ∷ rest in
      let inner = k.0 ++ c.0 ∷ further in
      let first = reads room k.0 (omega arith) k.3 (c.0 ∷ further) (opens_nothing-sign 44 c.0 further comma_closes c.3)
      in
      let second = reads' room l.0 (omega arith) l.3 (q.0 ∷ rest) (opens_nothing-sign 41 q.0 rest parenthesis_closes
      q.2) in
      let back : c.1 ++ rest ≡ further = ap (λ ts. ts ++ rest) (l.2 ∙ ap (λ ts. l.0 ++ ts) q.1)
      ∙ append_assoc l.0 (q.0 ∷ []) rest in
      let same : tokens ++ rest ≡ x.0 ∷ p.0 ∷ inner =
      ap (λ ts. ts ++ rest) (x.2 ∙ ap (λ ts. x.0 ∷ ts) (p.2 ∙ ap (λ ts. p.0 ∷ ts) (k.2 ∙ ap (λ ts. k.0 ++ ts) c.2)))
      ∙ ap (λ ts. x.0 ∷ p.0 ∷ ts) (append_assoc k.0 (c.0 ∷ c.1) rest ∙ ap (λ ts. k.0 ++ c.0 ∷ ts) back) in
      let some : 2 ≤ length inner = omega (arith, length-append k.0 (c.0 ∷ further), length-append l.0 (q.0 ∷ rest))
      in (
        word x.0.start x.0.end (more first.0 (more second.0 none)),
        (first.0, second.0, word_said w (more first.0 (more second.0 none)) x.0 x.3, first.1, second.1),
        ap (tree_within text (suc room)) same
            ∙ within-word room x.0 p.0 inner rest (first.0 ∷ second.0 ∷ []) (symbol-word w x.0 x.3)
            (symbol-sign 40 p.0 p.3)
            (parts-two (tree_within text room) (length inner) inner further rest c.0 q.0 first.0 second.0 some
            first.2 (symbol-sign 44 c.0 c.3) second.2 (symbol-sign 41 q.0 q.2)),
      )

  -- numbers up to the closing bracket
  members-numbers : (x : ℕ) (order : List ℕ) (most : ℕ) (tokens : List Token)
      → SayAll text (digits x ∷ (more_pieces order ++ sign 93 ∷ [])) tokens → (rest : List Token) →
      length tokens ≤ most → (found : List RawTree) × AreNumbers text (x ∷ order) (gathered found)
      × (members text CloseBracket (numeral_of text) most (tokens ++ rest) ≡ Ok (found, rest))
  members-numbers x order zero [] says rest h = absurd says
  members-numbers x order zero (t ∷ tokens) says rest h = absurd (omega arith)
  members-numbers x [] (suc most) tokens says rest h =
      let t = said_first text (digits x) (sign 93 ∷ []) tokens says in
      let q = said_last text (sign 93) t.1 t.4 in (
        number t.0.start t.0.end ∷ [],
        (number_said x t.0 t.3, tt),
        ap (λ ts. members text CloseBracket (numeral_of text) (suc most) (ts ++ rest)) (t.2 ∙ ap (λ ts. t.0 ∷ ts) q.1)
            ∙ rw (symbol-number x t.0 t.3, symbol-sign 93 q.0 q.2) refl,
      )
  members-numbers x (y ∷ order) (suc most) tokens says rest h =
      let t = said_first text (digits x) (sign 44 ∷ digits y ∷ (more_pieces order ++ sign 93 ∷ [])) tokens says in
      let c = said_first text (sign 44) (digits y ∷ (more_pieces order ++ sign 93 ∷ [])) t.1 t.4 in
      let n : length tokens ≡ suc (suc (length c.1)) = ap length (t.2 ∙ ap (λ ts. t.0 ∷ ts) c.2) in
      let others = members-numbers y order most c.1 c.4 rest (omega (arith, n)) in (
        number t.0.start t.0.end ∷ others.0,
        (number_said x t.0 t.3, others.1),
        ap (λ ts. members text CloseBracket (numeral_of text) (suc most) (ts ++ rest)) (t.2 ∙ ap (λ ts. t.0 ∷ ts) c.2)
            ∙ rw (symbol-number x t.0 t.3, symbol-sign 44 c.0 c.3, others.2) refl,
      )

  -- an opening bracket, and numbers
  within-bracket : (room : ℕ) (b t : Token) (inner rest : List Token) (found : List RawTree)
      → symbol text b ≡ OpenBracket → symbol text t ≡ Number →
      members text CloseBracket (numeral_of text) (length (t ∷ inner)) (t ∷ inner) ≡ Ok (found, rest) →
      tree_within text (suc room) (b ∷ t ∷ inner) ≡ Ok (bracket b.start (gathered found), rest)
  unfolding tree_within
  within-bracket room b t inner rest found a e read =
      rw a (ap (λ y. bracket_then text t inner y >>= λ found. Ok (bracket b.start (gathered found.0), found.1)) e
      ∙ ap (λ r. r >>= λ (found : List RawTree × List Token). Ok (bracket b.start (gathered found.0), found.1)) read)

  readable-bracket : (x : ℕ) (order : List ℕ) (need : ℕ) →
      Readable (need + 1) (sign 91 ∷ digits x ∷ (more_pieces order ++ sign 93 ∷ [])) (IsBracket text (x ∷ order))
  readable-bracket x order need zero tokens h says rest opens_nothing = absurd (omega arith)
  readable-bracket x order need (suc room) tokens h says rest opens_nothing =
      let ps = more_pieces order ++ sign 93 ∷ [] in
      let b = said_first text (sign 91) (digits x ∷ ps) tokens says in
      let t = said_first text (digits x) ps b.1 b.4 in
      let n : length b.1 ≡ suc (length t.1) = ap length t.2 in
      let all = members-numbers x order (length (b.1 ++ rest)) b.1 b.4 rest (omega (arith, length-append b.1 rest)) in (
        bracket b.0.start (gathered all.0),
        bracket_said (x ∷ order) b.0 (gathered all.0) all.1,
        ap (λ ts. tree_within text (suc room) (ts ++ rest)) (b.2 ∙ ap (λ ts. b.0 ∷ ts) t.2)
            ∙ within-bracket room b.0 t.0 (t.1 ++ rest) rest all.0 (symbol-sign 91 b.0 b.3) (symbol-number x t.0 t.3)
            (sym (ap (λ ts. members text CloseBracket (numeral_of text) (length (ts ++ rest)) (ts ++ rest)) t.2)
            ∙ all.2),
      )

  readable-ordered : (w : List ℕ) (k : ℕ) (order : List ℕ) → Readable 2 (ordered_pieces w k order)
      (SpellsOrdered text w k order)
  readable-ordered w k [] = readable-of w (digits k ∷ []) 1 (IsNumber text k) (readable-number k 1)
  readable-ordered w k (x ∷ order) =
      readable-of_two w (digits k ∷ []) (sign 91 ∷ digits x ∷ (more_pieces order ++ sign 93 ∷ [])) 1 (IsNumber text k)
      (IsBracket text (x ∷ order))
      (readable-number k 1) (readable-bracket x order 0)

  readable-eliminator : (w : List ℕ) (s : Score) → Readable 2 (pieces_of w (name (score_text s) ∷ []))
      (IsOf text w (IsWord text (score_text s) none))
  readable-eliminator w s = readable-of w (name (score_text s) ∷ []) 1 (IsWord text (score_text s) none)
      (readable-word (score_text s) 1)

  readable-leaf : (l : Leaf) → Readable 2 (leaf_pieces l) (SpellsLeaf text l)
  readable-leaf Elect = readable-word (codes "elect") 2
  readable-leaf Defer = readable-word (codes "defer") 2
  readable-leaf Plurality = readable-word (codes "plurality") 2
  readable-leaf (PassFirst k order) = readable-ordered (codes "pass") k order
  readable-leaf (DropFirst k order) = readable-ordered (codes "drop") k order
  readable-leaf (Max s) = readable-eliminator (codes "max") s
  readable-leaf (Min s) = readable-eliminator (codes "min") s
  readable-leaf (Below s) = readable-eliminator (codes "below") s
  readable-leaf (Upto s) = readable-eliminator (codes "upto") s

  -- a term may leave a sign unclosed for each level, and one more for a fixed order
  pub readable-term : (t : Tree) → Readable (nesting t + 1) (term_pieces t) (Spells text t)
  readable-term (leaf l) = readable-leaf l
  readable-term (rev part) =
      let Part : RawTree → Type 0 = Spells text part in
      let Whole : RawTree → Type 0 = Spells text (rev part) in
      roomier (term_pieces (rev part)) (nesting part + 1 + 1) (nesting (rev part) + 1) Whole (omega arith)
      (readable-of (codes "rev") (term_pieces part) (nesting part + 1) Part (readable-term part))
  readable-term (seq first second) =
      let need = max (nesting first) (nesting second) + 1 in
      let First : RawTree → Type 0 = Spells text first in
      let Second : RawTree → Type 0 = Spells text second in
      let Whole : RawTree → Type 0 = Spells text (seq first second) in
      roomier (term_pieces (seq first second)) (need + 1) (nesting (seq first second) + 1) Whole (omega arith)
      (readable-of_two (codes "seq") (term_pieces first) (term_pieces second) need First Second
      (roomier (term_pieces first) (nesting first + 1) need First (omega arith) (readable-term first))
      (roomier (term_pieces second) (nesting second + 1) need Second (omega arith) (readable-term second)))
  readable-term (par first second) =
      let need = max (nesting first) (nesting second) + 1 in
      let First : RawTree → Type 0 = Spells text first in
      let Second : RawTree → Type 0 = Spells text second in
      let Whole : RawTree → Type 0 = Spells text (par first second) in
      roomier (term_pieces (par first second)) (need + 1) (nesting (par first second) + 1) Whole (omega arith)
      (readable-of_two (codes "par") (term_pieces first) (term_pieces second) need First Second
      (roomier (term_pieces first) (nesting first + 1) need First (omega arith) (readable-term first))
      (roomier (term_pieces second) (nesting second + 1) need Second (omega arith) (readable-term second)))
  readable-term (loop (exactly k) body) =
      let Body : RawTree → Type 0 = Spells text body in
      let Whole : RawTree → Type 0 = Spells text (loop (exactly k) body) in
      roomier (term_pieces (loop (exactly k) body)) (nesting body + 1 + 1) (nesting (loop (exactly k) body) + 1) Whole
      (omega arith)
      (readable-of_two (codes "loop") (digits k ∷ []) (term_pieces body) (nesting body + 1) (IsNumber text k) Body
      (readable-number k (nesting body + 1)) (readable-term body))
  readable-term (loop (at_most k) body) =
      let Body : RawTree → Type 0 = Spells text body in
      let Whole : RawTree → Type 0 = Spells text (loop (at_most k) body) in
      roomier (term_pieces (loop (at_most k) body)) (nesting body + 1 + 1) (nesting (loop (at_most k) body) + 1) Whole
      (omega arith)
      (readable-of_two (codes "until") (digits k ∷ []) (term_pieces body) (nesting body + 1) (IsNumber text k) Body
      (readable-number k (nesting body + 1)) (readable-term body))
