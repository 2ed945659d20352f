-- A printed derivation is read as itself.
use Rattle.std.proofs.Common.{◌≡◌, ℕ, zero, suc, ◌<◌, ◌≤◌, true, false, List, [], ◌∷◌, ◌++◌, map}
use Rattle.std.proofs.Common.{length, slice_index_or, Some, Ok, nat_le, refl, sym, ◌∙◌, ap, arith}
use Rattle.std.proofs.Common.{append_assoc, length-append}
use Rattle.std.specs.List.{list_all}
use Rattle.std.proofs.lemmas.Bool.Decides.{nat_tests}
use Rattle.vir_read.specs.declared.token.Token.{Token}
use Rattle.vir_read.specs.declared.symbol.Symbol.{Symbol}
use Rattle.vir_read.specs.declared.symbol.Symbol.TheVariants.{Word, Number, OpenParenthesis, CloseParenthesis}
use Rattle.vir_read.specs.declared.symbol.Symbol.TheVariants.{OpenBracket, CloseBracket, Comma, Semicolon, Equals}
use Rattle.vir_read.specs.Symbols.{symbol, byte_symbol}
use Rattle.vir_read.specs.Arguments.{span}
use Rattle.vir_read.specs.Pieces.{Piece, name, sign, Says, SayAll, OpensNothing}
use Rattle.vir_read.specs.Printed.{is_name}
use Rattle.vir_read.proofs.RoundTripTrees.{said_first, said_last, said_twice, symbol-word, symbol-sign}
use Rattle.vir_read.proofs.RoundTripTrees.{opens_nothing-sign}
use Rattle.vir_read.proofs.RoundTripTokens.{IsName, is_name-parts, BeginsApart, AreApart, are_apart-append}
use Rattle.vir_read.proofs.RoundTripTokens.{pieces_text, pieces_text-append, both}
use Rattle.vir_rules.specs.declared.rule_id.TheConstants.RuleId.{COUNT}
use Rattle.vir_rules.specs.Table.{Rule, table}
use Rattle.vir_rules.specs.Premises.{row_of, blank}
use Rattle.vir_rules.specs.Named.{rule_named}
use Rattle.vir_rules.specs.RuleTrees.{IsRule, AreRules, AllAreRules, RuleTree, RuleTrees, node, none, more, gathered}
use Rattle.vir_rules.specs.RuleTrees.{nesting, nesting_of_all}
use Rattle.vir_rules.specs.Texts.{derivation_text, children_text, more_children_text}
use Rattle.vir_rules.proofs.Rows.{table_is_long}
use Rattle.vir_rules.proofs.ByName.{named_is}
use Rattle.vir_cert.specs.Derivations.{Reads, up_to, name_of, children, opens, is_open}
use Rattle.vir_cert.specs.Derivations.{derivation_within}

-- ---- names of rules

are_names : list_all is_name (map (λ (r : Rule). r.name) table) ≡ true
unfolding table
are_names = refl

name_at : (rows : List Rule) (i : ℕ) → list_all is_name (map (λ (r : Rule). r.name) rows) ≡ true → i < length rows
    → is_name (slice_index_or rows i blank).name ≡ true
name_at [] i all inside = absurd (omega arith)
name_at (row ∷ rest) zero all inside = (both (is_name row.name) (list_all is_name (map (λ (r : Rule). r.name) rest))
    all).0
name_at (row ∷ rest) (suc i) all inside =
    name_at rest i (both (is_name row.name) (list_all is_name (map (λ (r : Rule). r.name) rest)) all).1 (omega arith)

rule_has_name : (rule : ℕ) → IsRule COUNT rule → IsName (row_of rule).name
unfolding row_of
rule_has_name zero is = absurd (omega (arith, is.0))
rule_has_name (suc i) is = is_name-parts (slice_index_or table i blank).name
    (name_at table i are_names (omega (arith, is.1, table_is_long)))

within_last : (rule last : ℕ) → rule ≤ last → nat_le rule last ≡ true
within_last rule last h = grind (arith, nat_tests)

named_by : (rule last : ℕ) (w : List ℕ) → last ≤ COUNT → IsRule last rule → w ≡ (row_of rule).name
    → up_to last (rule_named w) ≡ Some rule
named_by rule last w known is same = ap (up_to last) (named_is w rule is.0 (omega (arith, is.1)) (sym same))
    ∙ rw (within_last rule last is.1) refl

-- ---- pieces

-- the pieces of a derivation; and those behind a derivation in parentheses, up to the closing one
abbrev mutual
  pub derivation_pieces : RuleTree → List Piece
  derivation_pieces (node rule children) = name (row_of rule).name ∷ children_pieces children

  pub children_pieces : RuleTrees → List Piece
  children_pieces none = []
  children_pieces (more first rest) = sign 40 ∷ (derivation_pieces first ++ closing rest)

  pub closing : RuleTrees → List Piece
  closing none = sign 41 ∷ []
  closing (more first rest) = sign 44 ∷ (derivation_pieces first ++ closing rest)

in_a_row : (x y : List ℕ) → ((40 ∷ x) ++ y) ++ 41 ∷ [] ≡ 40 ∷ (x ++ (y ++ 41 ∷ []))
in_a_row x y = ap (λ z. 40 ∷ z) (append_assoc x y (41 ∷ []))

-- the text of a derivation is that of its pieces
mutual
  pub text-derivation : (d : RuleTree) → derivation_text d ≡ pieces_text (derivation_pieces d)
  text-derivation (node rule children) = ap (λ x. (row_of rule).name ++ x) (text-children children)

  text-children : (children : RuleTrees) → children_text children ≡ pieces_text (children_pieces children)
  text-children none = refl
  text-children (more first rest) =
      in_a_row (derivation_text first) (more_children_text rest)
      ∙ ap (λ x. 40 ∷ (x ++ (more_children_text rest ++ 41 ∷ []))) (text-derivation first)
      ∙ ap (λ x. 40 ∷ (pieces_text (derivation_pieces first) ++ x)) (text-closing rest)
      ∙ ap (λ x. 40 ∷ x) (sym (pieces_text-append (derivation_pieces first) (closing rest)))

  text-closing : (children : RuleTrees) → more_children_text children ++ 41 ∷ [] ≡ pieces_text (closing children)
  text-closing none = refl
  text-closing (more first rest) =
      ap (λ x. 44 ∷ x) (append_assoc (derivation_text first) (more_children_text rest) (41 ∷ []))
      ∙ ap (λ x. 44 ∷ (x ++ (more_children_text rest ++ 41 ∷ []))) (text-derivation first)
      ∙ ap (λ x. 44 ∷ (pieces_text (derivation_pieces first) ++ x)) (text-closing rest)
      ∙ ap (λ x. 44 ∷ x) (sym (pieces_text-append (derivation_pieces first) (closing rest)))

closing_begins : (children : RuleTrees) → BeginsApart (closing children)
closing_begins none = refl
closing_begins (more first rest) = refl

children_begin : (children : RuleTrees) → BeginsApart (children_pieces children)
children_begin none = tt
children_begin (more first rest) = refl

module _ (last : ℕ) (known : last ≤ COUNT) where
  mutual
    pub apart-derivation : (d : RuleTree) → AreRules last d → AreApart (derivation_pieces d)
    apart-derivation (node rule children) r = (
      rule_has_name rule (r.0.0, omega (arith, r.0.1)),
      children_begin
          children,
      apart-children children r.1,
    )

    apart-children : (children : RuleTrees) → AllAreRules last children → AreApart (children_pieces children)
    apart-children none r = tt
    apart-children (more first rest) r = (
      refl,
      are_apart-append (derivation_pieces first) (closing rest) (apart-derivation first r.0)
          (closing_begins rest) (apart-closing rest r.1),
    )

    apart-closing : (children : RuleTrees) → AllAreRules last children → AreApart (closing children)
    apart-closing none r = (refl, tt)
    apart-closing (more first rest) r = (
      refl,
      are_apart-append (derivation_pieces first) (closing rest) (apart-derivation first r.0)
          (closing_begins rest) (apart-closing rest r.1),
    )

-- ---- reading

listed : RuleTrees → List RuleTree
listed none = []
listed (more first rest) = first ∷ listed rest

gathered-listed : (trees : RuleTrees) → gathered (listed trees) ≡ trees
unfolding listed
gathered-listed none = refl
gathered-listed (more first rest) = ap (more first) (gathered-listed rest)

comma_closes : byte_symbol (Some 44) ≡ OpenParenthesis → ⊥
comma_closes e = cc

parenthesis_closes : byte_symbol (Some 41) ≡ OpenParenthesis → ⊥
parenthesis_closes e = cc

module _ (text : List ℕ) (last : ℕ) (known : last ≤ COUNT) where
  name_said : (rule : ℕ) (t : Token) (rest : List Token) → IsRule last rule → Says text (name (row_of rule).name) t →
      name_of text last (t ∷ rest) ≡ Ok (record { rule = rule; at = t.start }, rest)
  name_said rule t rest is says = rw (
    symbol-word text (row_of rule).name t says,
    named_by rule last
        (span text t.start t.end) known is says.1,
  ) refl

  closed : (s : Symbol) → (s ≡ OpenParenthesis → ⊥) → is_open s ≡ false
  closed Word h = refl
  closed Number h = refl
  closed OpenParenthesis h = absurd (h refl)
  closed CloseParenthesis h = refl
  closed OpenBracket h = refl
  closed CloseBracket h = refl
  closed Comma h = refl
  closed Semicolon h = refl
  closed Equals h = refl

  not_open : (rest : List Token) → OpensNothing text rest → opens text rest ≡ false
  not_open [] h = refl
  not_open (t ∷ rest) h = closed (symbol text t) h

  -- a rule's name alone
  step-alone : (rule room : ℕ) (t : Token) (rest : List Token) → IsRule last rule → Says text (name (row_of rule).name)
      t → OpensNothing text rest →
      derivation_within text last (suc room) (t ∷ rest) ≡ Ok (node rule none, rest)
  unfolding derivation_within
  step-alone rule room t rest is says opens_nothing = rw (name_said rule t rest is says, not_open rest opens_nothing)
      refl

  -- a rule's name, and derivations in parentheses
  step-opens : (rule room : ℕ) (t p : Token) (inner rest : List Token) (found : List RuleTree) → IsRule last rule
      → Says text (name (row_of rule).name) t → symbol text p ≡ OpenParenthesis →
      children text (derivation_within text last room) (length inner) inner ≡ Ok (found, rest) →
      derivation_within text last (suc room) (t ∷ p ∷ inner) ≡ Ok (node rule (gathered found), rest)
  unfolding derivation_within
  step-opens rule room t p inner rest found is says opening read =
      rw (name_said rule t (p ∷ inner) is says, opening, read) refl

  -- the last one in parentheses
  step-last : (tree : Reads) (most : ℕ) (tokens rest : List Token) (close : Token) (first : RuleTree) → 1 ≤ most →
      tree tokens ≡ Ok (first, close ∷ rest) → symbol text close ≡ CloseParenthesis → children text tree most tokens
      ≡ Ok (first ∷ [], rest)
  step-last tree zero tokens rest close first some read closes = absurd (omega arith)
  step-last tree (suc most) tokens rest close first some read closes = rw (read, closes) refl

  -- one that further ones stand behind
  step-more : (tree : Reads) (most : ℕ) (tokens further rest : List Token) (comma : Token) (first : RuleTree)
      (others : List RuleTree) →
      tree tokens ≡ Ok (first, comma ∷ further) → symbol text comma ≡ Comma → children text tree most further
      ≡ Ok (others, rest) →
      children text tree (suc most) tokens ≡ Ok (first ∷ others, rest)
  step-more tree most tokens further rest comma first others read goes_on read' = rw (read, goes_on, read') refl

  -- tokens that say these pieces are read as this derivation
  abbrev pub IsReadable : ℕ → List Piece → RuleTree → Type 0
  IsReadable room ps d = (tokens : List Token) → SayAll text ps tokens → (rest : List Token) → OpensNothing text rest
      → derivation_within text last room (tokens ++ rest) ≡ Ok (d, rest)

  -- tokens that say these pieces are read as derivations up to the closing parenthesis
  abbrev AreReadable : ℕ → List Piece → List RuleTree → Type 0
  AreReadable room ps trees = (most : ℕ) (tokens : List Token) → SayAll text ps tokens → length tokens ≤ most
      → (rest : List Token) →
      children text (derivation_within text last room) most (tokens ++ rest) ≡ Ok (trees, rest)

  -- a rule without children, and one with derivations that are read
  alone : (rule room : ℕ) → IsRule last rule → 1 ≤ room → IsReadable room (name (row_of rule).name ∷ [])
      (node rule none)
  alone rule zero is enough tokens says rest opens_nothing = absurd (omega arith)
  alone rule (suc room) is enough tokens says rest opens_nothing =
      let t = said_last text (name (row_of rule).name) tokens says in
      ap (λ ts. derivation_within text last (suc room) (ts ++ rest)) t.1 ∙ step-alone rule room t.0 rest is t.2
      opens_nothing

  with_children : (rule room : ℕ) (ps : List Piece) (trees : List RuleTree) → IsRule last rule
      → AreReadable room ps trees →
      IsReadable (suc room) (name (row_of rule).name ∷ sign 40 ∷ ps) (node rule (gathered trees))
  with_children rule room ps trees is reads tokens says rest opens_nothing =
      let t = said_first text (name (row_of rule).name) (sign 40 ∷ ps) tokens says in
      let p = said_first text (sign 40) ps t.1 t.4 in
      ap (λ ts. derivation_within text last (suc room) (ts ++ rest)) (t.2 ∙ ap (λ ts. t.0 ∷ ts) p.2)
      ∙ step-opens rule room t.0 p.0 (p.1 ++ rest) rest trees is t.3 (symbol-sign text 40 p.0 p.3)
      (reads (length (p.1 ++ rest)) p.1 p.4 (omega (arith, length-append p.1 rest)) rest)

  -- the last derivation in parentheses, and one that further ones stand behind
  last_one : (room : ℕ) (ps : List Piece) (d : RuleTree) → IsReadable room ps d → AreReadable room (ps ++ sign 41 ∷ [])
      (d ∷ [])
  last_one room ps d reads most tokens says enough rest =
      let k = said_twice text ps (sign 41 ∷ []) tokens says in
      let q = said_last text (sign 41) k.1 k.4 in
      let same : tokens ≡ k.0 ++ q.0 ∷ [] = k.2 ∙ ap (λ ts. k.0 ++ ts) q.1 in
      let some : 1 ≤ most = omega (arith, ap length same, length-append k.0 (q.0 ∷ [])) in
      step-last (derivation_within text last room) most (tokens ++ rest) rest q.0 d some
      (ap (λ ts. derivation_within text last room (ts ++ rest)) same ∙ ap (derivation_within text last room)
      (append_assoc k.0 (q.0 ∷ []) rest)
      ∙ reads k.0 k.3 (q.0 ∷ rest) (opens_nothing-sign text 41 q.0 rest parenthesis_closes q.2))
      (symbol-sign text 41 q.0 q.2)

  more_of_them : (room : ℕ) (ps qs : List Piece) (d : RuleTree) (trees : List RuleTree) → IsReadable room ps d
      → AreReadable room qs trees →
      AreReadable room (ps ++ sign 44 ∷ qs) (d ∷ trees)
  more_of_them room ps qs d trees reads reads' zero tokens says enough rest =
      let k = said_twice text ps (sign 44 ∷ qs) tokens says in
      let c = said_first text (sign 44) qs k.1 k.4 in
      absurd (omega (arith, ap length k.2, length-append k.0 k.1, ap length c.2))
  more_of_them room ps qs d trees reads reads' (suc most) tokens says enough rest =
      let k = said_twice text ps (sign 44 ∷ qs) tokens says in
      let c = said_first text (sign 44) qs k.1 k.4 in
      let same : tokens ≡ k.0 ++ c.0 ∷ c.1 = k.2 ∙ ap (λ ts. k.0 ++ ts) c.2 in
      let fewer : length c.1 ≤ most = omega (arith, ap length same, length-append k.0 (c.0 ∷ c.1)) in
      step-more (derivation_within text last room) most (tokens ++ rest) (c.1 ++ rest) rest c.0 d trees
      (ap (λ ts. derivation_within text last room (ts ++ rest)) same ∙ ap (derivation_within text last room)
      (append_assoc k.0 (c.0 ∷ c.1) rest)
      ∙ reads k.0 k.3 (c.0 ∷ (c.1 ++ rest)) (opens_nothing-sign text 44 c.0 (c.1 ++ rest) comma_closes c.3))
      (symbol-sign text 44 c.0 c.3) (reads' most c.1 c.4 fewer rest)

  children_of : (rule room : ℕ) (first : RuleTree) (rest : RuleTrees) → IsRule last rule
      → AreReadable room (derivation_pieces first ++ closing rest) (first ∷ listed rest) →
      IsReadable (suc room) (derivation_pieces (node rule (more first rest))) (node rule (more first rest))
  children_of rule room first rest is reads tokens says behind opens_nothing =
      with_children rule room (derivation_pieces first ++ closing rest) (first ∷ listed rest) is reads tokens says
      behind opens_nothing
      ∙ ap (λ trees. Ok (node rule (more first trees), behind)) (gathered-listed rest)

  roomless : (rule : ℕ) (children : RuleTrees) → nesting (node rule children) ≤ 0 → ⊥
  roomless rule children h = omega arith

  listed-none : (d : RuleTree) → d ∷ [] ≡ d ∷ listed none
  unfolding listed
  listed-none d = refl

  listed-more : (d e : RuleTree) (rest : RuleTrees) → d ∷ e ∷ listed rest ≡ d ∷ listed (more e rest)
  unfolding listed
  listed-more d e rest = refl

  mutual
    pub readable-derivation : (d : RuleTree) → AreRules last d → (room : ℕ) → nesting d ≤ room
        → IsReadable room (derivation_pieces d) d
    readable-derivation (node rule none) r room enough = alone rule room r.0 (omega arith)
    readable-derivation (node rule (more first rest)) r zero enough = absurd (roomless rule (more first rest) enough)
    readable-derivation (node rule (more first rest)) r (suc room) enough =
        children_of rule room first rest r.0 (readable-closing rest r.1.1 room (omega arith) (derivation_pieces first)
        first (readable-derivation first r.1.0 room (omega arith)))

    readable-closing : (children : RuleTrees) → AllAreRules last children → (room : ℕ) → nesting_of_all children ≤ room
        → (ps : List Piece) (d : RuleTree) → IsReadable room ps d →
        AreReadable room (ps ++ closing children) (d ∷ listed children)
    readable-closing none r room enough ps d reads most tokens says fewer rest =
        last_one room ps d reads most tokens says fewer rest ∙ ap (λ trees. Ok (trees, rest)) (listed-none d)
    readable-closing (more next others) r room enough ps d reads most tokens says fewer rest =
        more_of_them room ps (derivation_pieces next ++ closing others) d (next ∷ listed others) reads
        (readable-closing others r.1 room (omega arith) (derivation_pieces next) next (readable-derivation next r.0 room
        (omega arith))) most tokens says fewer rest
        ∙ ap (λ trees. Ok (trees, rest)) (listed-more d next others)
