-- A printed certificate is read as itself.
use Rattle.std.proofs.Common.{◌≡◌, ℕ, ◌+◌, ◌≤◌, ◌&&◌, Bool, true, false, List, [], ◌∷◌, ◌++◌, length, Ok, Err}
use Rattle.std.proofs.Common.{decimal, nat_lt, nat_le, not, refl, sym, ◌∙◌, ap, subst, arith, append_assoc, append-nil}
use Rattle.std.proofs.Common.{length-append, if◌then◌else◌}
use Rattle.std.specs.Prelude.{codes, ⊤}
use Rattle.std.specs.Cmp.Lexicographic.{bytes_decides}
use Rattle.std.specs.Str.{bytes_eq}
use Rattle.std.proofs.lemmas.Bool.Decides.{nat_tests}
use Rattle.std.proofs.lemmas.Fmt.{decimal_digit}
use Rattle.vir_term.specs.declared.prop.Prop.{Prop}
use Rattle.vir_term.specs.Text.{term_text}
use Rattle.vir_term.specs.Tree.{Tree, nesting}
use Rattle.vir_term.specs.Limits.{IsWithinLimits}
use Rattle.vir_read.specs.declared.token.Token.{Token}
use Rattle.vir_read.specs.declared.symbol.Symbol.TheVariants.{Word, OpenParenthesis}
use Rattle.vir_read.specs.declared.text_fault.TextKind.TheVariants.{TextTooLong}
use Rattle.vir_read.specs.Faults.{◌>>=◌, fault}
use Rattle.vir_read.specs.Tokens.{is_blank, is_word_byte, run, tokens_from, tokens_of}
use Rattle.vir_read.specs.Arguments.{span}
use Rattle.vir_read.specs.Typing.{first_place}
use Rattle.vir_read.specs.Pieces.{Piece, name, digits, Says, SayAll, OpensNothing, term_pieces, with_tokens}
use Rattle.vir_read.specs.RawTrees.{RawTree}
use Rattle.vir_read.specs.Grammar.{tree_of, unclosed_limit}
use Rattle.vir_read.specs.Spelling.{Spells}
use Rattle.vir_read.proofs.RoundTripTrees.{said_first, said_twice, symbol-word, readable-term}
use Rattle.vir_read.proofs.RoundTripTokens.{both, AreApart, apart-term, apart-number, pieces_text, pieces_are_found}
use Rattle.vir_read.proofs.RoundTripTokens.{text-term}
use Rattle.vir_read.proofs.RoundTripWhole.{term_of-spelled, with_tokens-ok}
use Rattle.vir_rules.specs.declared.rule_id.TheConstants.RuleId.{COUNT}
use Rattle.vir_rules.specs.RuleTrees.{AreRules, AllAreRules, RuleTree, RuleTrees, node, none, more}
use Rattle.vir_rules.specs.Props.{prop_text}
use Rattle.vir_rules.specs.Texts.{derivation_text}
use Rattle.vir_cert.specs.declared.version.Version.{Version}
use Rattle.vir_cert.specs.declared.version.Version.TheVariants.{One, Two}
use Rattle.vir_cert.specs.Versions.{is_new_prop, known_words, last_rule, unknown_at, version_text}
use Rattle.vir_cert.specs.Derivations.{derivation_of}
use Rattle.vir_cert.specs.Certs.{Cert, is_written, header_of, label_of, no_names, term_part, prop_part, derivation_part}
use Rattle.vir_cert.specs.Certs.{parts_of, cert_of}
use Rattle.vir_cert.specs.Texts.{IsCert, have_rules_up_to, has_rules_up_to, cert_text, has_until, version_of}
use Rattle.vir_cert.proofs.RoundTripDerivations.{derivation_pieces, text-derivation, apart-derivation}
use Rattle.vir_cert.proofs.RoundTripDerivations.{readable-derivation}
use Rattle.vir_cert.proofs.RoundTripProps.{PropFits, prop_pieces, text-prop, apart-prop, IsPropRead, read-prop}
use Rattle.vir_cert.proofs.UntilFree.{free_at}
use Rattle.vir_cert.proofs.SpelledFree.{spelled_free}

-- ---- pieces with blanks behind them

-- pieces, and a blank
record Run : Type 0 where
  pieces : List Piece
  blank : ℕ

abbrev run_of : List Piece → ℕ → Run
run_of ps b = record { pieces = ps; blank = b }

abbrev runs_text : List Run → List ℕ
runs_text [] = []
runs_text (r ∷ rest) = pieces_text r.pieces ++ (r.blank ∷ runs_text rest)

abbrev runs_pieces : List Run → List Piece
runs_pieces [] = []
runs_pieces (r ∷ rest) = r.pieces ++ runs_pieces rest

abbrev AreRuns : List Run → Type 0
AreRuns [] = ⊤
AreRuns (r ∷ rest) = AreApart r.pieces × (is_blank r.blank ≡ true) × AreRuns rest

no_word_byte : (b : ℕ) → is_blank b ≡ true → is_word_byte b ≡ false
no_word_byte b h = grind (arith, nat_tests)

no_run : (b : ℕ) (rest : List ℕ) → is_blank b ≡ true → run is_word_byte (b ∷ rest) ≡ 0
no_run b rest h = rw (no_word_byte b h) refl

skipped : (b at : ℕ) (rest : List ℕ) → is_blank b ≡ true → tokens_from 0 at (b ∷ rest) ≡ tokens_from 0 (at + 1) rest
unfolding tokens_from
skipped b at rest h = rw h refl

said_both : (text : List ℕ) (ps qs : List Piece) (ts us : List Token) → SayAll text ps ts → SayAll text qs us
    → SayAll text (ps ++ qs) (ts ++ us)
said_both text [] qs [] us h k = k
said_both text [] qs (t ∷ ts) us h k = absurd h
said_both text (p ∷ ps) qs [] us h k = absurd h
said_both text (p ∷ ps) qs (t ∷ ts) us h k = (h.0, said_both text ps qs ts us h.1 k)

runs-found : (text : List ℕ) (runs : List Run) → AreRuns runs → (before : List ℕ) → text ≡ before ++ runs_text runs →
    (tokens : List Token) × SayAll text (runs_pieces runs) tokens × (tokens_from 0 (length before) (runs_text runs)
    ≡ Ok tokens)
unfolding tokens_from
runs-found text [] are before e = ([], tt, refl)
runs-found text (r ∷ rest) are before e =
    let w = pieces_text r.pieces in
    let after = r.blank ∷ runs_text rest in
    let found = pieces_are_found text after (no_run r.blank (runs_text rest) are.1) r.pieces are.0 before e in
    let before' = before ++ (w ++ r.blank ∷ []) in
    let whole : text ≡ before' ++ runs_text rest =
    e ∙ ap (λ x. before ++ x) (sym (append_assoc w (r.blank ∷ []) (runs_text rest)))
    ∙ sym (append_assoc before (w ++ r.blank ∷ []) (runs_text rest)) in
    let others = runs-found text rest are.2 before' whole in
    let n : length before + length w + 1 ≡ length before' = omega (
      arith,
      length-append before (w ++ r.blank ∷ []),
      length-append w (r.blank ∷ []),
    ) in (
      found.0 ++ others.0,
      said_both text r.pieces (runs_pieces rest) found.0 others.0 found.1 others.1,
      found.2
          ∙ ap (with_tokens found.0) (skipped r.blank (length before + length w) (runs_text rest) are.1
          ∙ ap (λ n. tokens_from 0 n (runs_text rest)) n ∙ others.2)
          ∙ with_tokens-ok found.0 others.0,
    )

-- ---- the text of a certificate

abbrev number_of : Version → ℕ
number_of One = 1
number_of Two = 2

one : decimal 1 ≡ codes "1"
one = decimal_digit 1 (omega arith)

two : decimal 2 ≡ codes "2"
two = decimal_digit 2 (omega arith)

text-version : (v : Version) → version_text v ≡ decimal (number_of v)
text-version One = sym one
text-version Two = sym two

abbrev cert_runs : Version → Cert → List Run
cert_runs v c =
    run_of (name (codes "virage-certificate") ∷ []) 32 ∷ run_of (digits (number_of v) ∷ []) 10
    ∷ run_of (name (codes "term") ∷ []) 32 ∷ run_of (term_pieces c.term) 10
    ∷ run_of (name (codes "property") ∷ []) 32 ∷ run_of (prop_pieces c.prop) 10 ∷ run_of (name (codes "derivation")
    ∷ []) 32 ∷ run_of (derivation_pieces c.derivation) 10 ∷ []

in_a_row : (h v a t b p c d e : List ℕ) → h ++ v ++ a ++ t ++ b ++ p ++ c ++ d ++ e ≡ h
    ++ (v ++ (a ++ (t ++ (b ++ (p ++ (c ++ (d ++ e)))))))
in_a_row h v a t b p c d e = simp append_assoc refl

texts : (v t p d v' t' p' d' : List ℕ) → v ≡ v' → t ≡ t' → p ≡ p' → d ≡ d' →
    codes "virage-certificate " ++ v ++ codes "\nterm " ++ t ++ codes "\nproperty " ++ p ++ codes "\nderivation " ++ d
    ++ codes "\n"
    ≡ codes "virage-certificate"
    ++ (32
    ∷ ((v' ++ [])
    ++ (10
    ∷ (codes "term"
    ++ (32
    ∷ (t' ++ (10 ∷ (codes "property" ++ (32 ∷ (p' ++ (10 ∷ (codes "derivation" ++ (32 ∷ (d' ++ 10 ∷ []))))))))))))))
texts v t p d v' t' p' d' x e f g =
    in_a_row (codes "virage-certificate ") v (codes "\nterm ") t (codes "\nproperty ") p (codes "\nderivation ") d
    (codes "\n")
    ∙ ap (λ v. codes "virage-certificate "
    ++ (v
    ++ (codes "\nterm " ++ (t ++ (codes "\nproperty " ++ (p ++ (codes "\nderivation " ++ (d ++ codes "\n"))))))))
    (x ∙ sym (append-nil v'))
    ∙ ap (λ t. codes "virage-certificate "
    ++ ((v' ++ [])
    ++ (codes "\nterm " ++ (t ++ (codes "\nproperty " ++ (p ++ (codes "\nderivation " ++ (d ++ codes "\n")))))))) e
    ∙ ap (λ p. codes "virage-certificate "
    ++ ((v' ++ [])
    ++ (codes "\nterm " ++ (t' ++ (codes "\nproperty " ++ (p ++ (codes "\nderivation " ++ (d ++ codes "\n")))))))) f
    ∙ ap (λ d. codes "virage-certificate "
    ++ ((v' ++ [])
    ++ (codes "\nterm " ++ (t' ++ (codes "\nproperty " ++ (p' ++ (codes "\nderivation " ++ (d ++ codes "\n"))))))))
    g

text-cert : (c : Cert) → cert_text c ≡ runs_text (cert_runs (version_of c) c)
text-cert c =
    texts (version_text (version_of c)) (term_text c.term) (prop_text c.prop) (derivation_text c.derivation)
    (decimal (number_of (version_of c))) (pieces_text (term_pieces c.term)) (pieces_text (prop_pieces c.prop))
    (pieces_text (derivation_pieces c.derivation))
    (text-version (version_of c)) (text-term c.term) (text-prop c.prop) (text-derivation c.derivation)

apart-version : (v : Version) → AreApart (digits (number_of v) ∷ [])
apart-version One = apart-number 1 (omega arith)
apart-version Two = apart-number 2 (omega arith)

runs-cert : (v : Version) (c : Cert) → IsCert c → AreRuns (cert_runs v c)
runs-cert v c is = (
  ((refl, refl), tt, tt),
  refl,
  (
    apart-version v,
    refl,
    (
      ((refl, refl), tt, tt),
      refl,
      (
        apart-term c.term is.term.in_range,
        refl,
        (
          ((refl, refl), tt, tt),
          refl,
          (
            apart-prop c.prop is.prop,
            refl,
            (
              ((refl, refl), tt, tt),
              refl,
              (
                apart-derivation COUNT (omega arith)
                    c.derivation is.rules,
                refl,
                tt,
              ),
            ),
          ),
        ),
      ),
    ),
  ),
)

-- ---- versions

-- a version has all that a certificate names
abbrev TermFits : Version → Tree → Type 0
TermFits One t = has_until t ≡ false
TermFits Two t = ⊤

abbrev RulesFit : Version → RuleTree → Type 0
RulesFit One d = has_rules_up_to (last_rule One) d ≡ true
RulesFit Two d = ⊤

abbrev Fits : Version → Cert → Type 0
Fits v c = TermFits v c.term × PropFits v c.prop × RulesFit v c.derivation

fits_by : (c : Cert) (a b e : Bool) → has_until c.term ≡ a → is_new_prop c.prop ≡ b → has_rules_up_to (last_rule One)
    c.derivation ≡ e →
    Fits (if not a && not b && e then One else Two) c
fits_by c false false true h k l = (h, k, l)
fits_by c false false false h k l = (tt, tt, tt)
fits_by c false true e h k l = (tt, tt, tt)
fits_by c true b e h k l = (tt, tt, tt)

fits_for : (c : Cert) → Fits (version_of c) c
fits_for c = fits_by c (has_until c.term) (is_new_prop c.prop) (has_rules_up_to (last_rule One) c.derivation) refl refl
    refl

at_most : (n m : ℕ) → nat_le n m ≡ true → n ≤ m
at_most n m h = grind (arith, nat_tests)

mutual
  fewer : (last : ℕ) (d : RuleTree) → AreRules COUNT d → has_rules_up_to last d ≡ true → AreRules last d
  fewer last (node rule children) r h =
      let k = both (nat_le rule last) (have_rules_up_to last children) h in
      ((r.0.0, at_most rule last k.0), all_fewer last children r.1 k.1)

  all_fewer : (last : ℕ) (ds : RuleTrees) → AllAreRules COUNT ds → have_rules_up_to last ds ≡ true → AllAreRules last ds
  all_fewer last none r h = tt
  all_fewer last (more first rest) r h =
      let k = both (has_rules_up_to last first) (have_rules_up_to last rest) h in
      (fewer last first r.0 k.0, all_fewer last rest r.1 k.1)

rules_for : (v : Version) (d : RuleTree) → AreRules COUNT d → RulesFit v d → AreRules (last_rule v) d
rules_for One d r f = fewer (last_rule One) d r f
rules_for Two d r f = r

last_within : (v : Version) → last_rule v ≤ COUNT
last_within One = omega arith
last_within Two = omega arith

-- ---- the parts

module _ (text : List ℕ) where
  word_written : (w : List ℕ) (t : Token) → Says text (name w) t → is_written text t w ≡ true
  word_written w t says = (bytes_decides (span text t.start t.end) w).1 says.1

  digits_written : (n : ℕ) (w wanted : List ℕ) (t : Token) → Says text (digits n) t → decimal n ≡ w
      → is_written text t wanted ≡ bytes_eq w wanted
  digits_written n w wanted t says e = ap (λ x. bytes_eq x wanted) (says.1 ∙ e)

  header-read : (v : Version) (a b : Token) (rest : List Token) → Says text (name (codes "virage-certificate")) a
      → Says text (digits (number_of v)) b →
      header_of text (a ∷ b ∷ rest) ≡ Ok (v, rest)
  header-read One a b rest h k = rw (
    word_written (codes "virage-certificate") a h,
    digits_written 1 (codes "1")
        (codes "1") b k one,
  ) refl
  header-read Two a b rest h k =
      rw (
        word_written (codes "virage-certificate") a h,
        digits_written 2 (codes "2") (codes "1") b k two,
        digits_written 2 (codes "2") (codes "2") b k two,
      ) refl

  label-read : (w : List ℕ) (t : Token) (rest : List Token) → Says text (name w) t → label_of text w (t ∷ rest)
      ≡ Ok (tt, rest)
  label-read w t rest says = rw (word_written w t says) refl

  word_opens_nothing : (w : List ℕ) (t : Token) (rest : List Token) → Says text (name w) t
      → OpensNothing text (t ∷ rest)
  word_opens_nothing w t rest says = subst (λ y. y ≡ OpenParenthesis → ⊥) (sym (symbol-word text w t says)) other where
    other : Word ≡ OpenParenthesis → ⊥
    other e = cc

  -- these tokens begin a tree that spells the term, and those are behind it
  record IsSpelled (t : Tree) (tokens rest : List Token) : Type 0 where
    raw : RawTree
    spelled : Spells text t raw
    read : tree_of text tokens ≡ Ok (raw, rest)

  spelled-said : (t : Tree) (tokens rest : List Token) → IsWithinLimits t → SayAll text (term_pieces t) tokens
      → OpensNothing text rest → IsSpelled t (tokens ++ rest) rest
  spelled-said t tokens rest within says opens_nothing =
      let enough : nesting t + 1 ≤ unclosed_limit = omega (arith, within.flat) in
      let found = readable-term text t unclosed_limit tokens enough says rest opens_nothing in
      record { raw = found.0; spelled = found.1; read = found.2 }

  words_known : (v : Version) (t : Tree) (raw : RawTree) → TermFits v t → Spells text t raw → known_words v text raw
      ≡ Ok tt
  words_known One t raw f is = ap unknown_at (free_at text raw (spelled_free text t raw f is))
  words_known Two t raw f is = refl

  term-read : (v : Version) (t : Tree) (label : Token) (tokens rest : List Token) → Says text (name (codes "term"))
      label → TermFits v t → IsWithinLimits t → IsSpelled t tokens rest →
      term_part v text (label ∷ tokens) ≡ Ok (t, rest)
  term-read v t label tokens rest says f within is =
      rw (
        label-read (codes "term") label tokens says,
        is.read,
        words_known v t is.raw f is.spelled,
        term_of-spelled
            text no_names (first_place is.raw) t is.raw is.spelled within,
      ) refl

  prop-read : (v : Version) (p : Prop) (label : Token) (tokens rest : List Token) → Says text (name (codes "property"))
      label → IsPropRead v text p tokens rest →
      prop_part v text (label ∷ tokens) ≡ Ok (p, rest)
  prop-read v p label tokens rest says is = rw (label-read (codes "property") label tokens says, is.read, is.meant) refl

  derivation-read : (v : Version) (d : RuleTree) (label : Token) (tokens rest : List Token)
      → Says text (name (codes "derivation")) label → derivation_of text (last_rule v) tokens ≡ Ok (d, rest) →
      derivation_part v text (label ∷ tokens) ≡ Ok (d, rest)
  derivation-read v d label tokens rest says read = rw (label-read (codes "derivation") label tokens says, read) refl

  parts-read : (v : Version) (c : Cert) (tokens terms props derivations : List Token) → header_of text tokens
      ≡ Ok (v, terms) → term_part v text terms ≡ Ok (c.term, props) →
      prop_part v text props ≡ Ok (c.prop, derivations) → derivation_part v text derivations ≡ Ok (c.derivation, [])
      → parts_of text tokens ≡ Ok c
  parts-read v c tokens terms props derivations h t p d = rw (h, t, p, d) refl

  -- tokens that say a certificate's pieces are read as it
  said-read : (v : Version) (c : Cert) → IsCert c → Fits v c → (tokens : List Token)
      → SayAll text (runs_pieces (cert_runs v c)) tokens → parts_of text tokens ≡ Ok c
  said-read v c is fits tokens says =
      let ds = derivation_pieces c.derivation in
      let last = name (codes "derivation") ∷ (ds ++ []) in
      let middle = name (codes "property") ∷ (prop_pieces c.prop ++ last) in
      let first = name (codes "term") ∷ (term_pieces c.term ++ middle) in
      let x = said_first text (name (codes "virage-certificate")) (digits (number_of v) ∷ first) tokens says in
      let w = said_first text (digits (number_of v)) first x.1 x.4 in
      let l = said_first text (name (codes "term")) (term_pieces c.term ++ middle) w.1 w.4 in
      let t = said_twice text (term_pieces c.term) middle l.1 l.4 in
      let m = said_first text (name (codes "property")) (prop_pieces c.prop ++ last) t.1 t.4 in
      let p = said_twice text (prop_pieces c.prop) last m.1 m.4 in
      let n = said_first text (name (codes "derivation")) (ds ++ []) p.1 p.4 in
      let d : SayAll text ds n.1 = subst (λ ps. SayAll text ps n.1) (append-nil ds) n.4 in
      let term = term-read v c.term l.0 (t.0 ++ t.1) t.1 l.3 fits.0 is.term (spelled-said c.term t.0 t.1 is.term t.3
      (subst (OpensNothing text) (sym m.2) (word_opens_nothing (codes "property") m.0 m.1 m.3))) in
      let prop = prop-read v c.prop m.0 (p.0 ++ p.1) p.1 m.3 (read-prop v text c.prop is.prop fits.1 p.0 p.3 p.1
      (subst (OpensNothing text) (sym n.2) (word_opens_nothing (codes "derivation") n.0 n.1 n.3))) in
      let whole : derivation_of text (last_rule v) n.1 ≡ Ok (c.derivation, []) =
      ap (derivation_of text (last_rule v)) (sym (append-nil n.1)) ∙ readable-derivation text (last_rule v)
      (last_within v) c.derivation (rules_for v c.derivation is.rules fits.2) 256 is.flat n.1 d [] tt in
      let derivation = derivation-read v c.derivation n.0 n.1 [] n.3 whole in
      parts-read v c tokens (l.0 ∷ (t.0 ++ t.1)) (m.0 ∷ (p.0 ++ p.1)) (n.0 ∷ n.1)
      (ap (header_of text) (x.2 ∙ ap (λ ts. x.0 ∷ ts) w.2) ∙ header-read v x.0 w.0 w.1 x.3 w.3 ∙ ap (λ ts. Ok (v, ts))
      (l.2 ∙ ap (λ ts. l.0 ∷ ts) t.2))
      (term ∙ ap (λ ts. Ok (c.term, ts)) (m.2 ∙ ap (λ ts. m.0 ∷ ts) p.2))
      (prop ∙ ap (λ ts. Ok (c.prop, ts)) n.2)
      derivation

-- ---- certificates

not_too_long : (n : ℕ) → n ≤ 16777216 → nat_lt 16777216 n ≡ false
not_too_long n h = grind (arith, nat_tests)

cert_of-parts : (text : List ℕ) (tokens : List Token) (c : Cert) → length text ≤ 16777216 → tokens_of text ≡ Ok tokens
    → parts_of text tokens ≡ Ok c → cert_of text ≡ Ok c
cert_of-parts text tokens c short lexed read =
    ap (λ b. if b then Err (fault TextTooLong 16777216) else (tokens_of text >>= parts_of text))
    (not_too_long (length text) short)
    ∙ ap (λ r. r >>= parts_of text) lexed ∙ read

pub printed_is_read : (c : Cert) → IsCert c → length (cert_text c) ≤ 16777216 → cert_of (cert_text c) ≡ Ok c
printed_is_read c is short =
    let text = cert_text c in
    let found = runs-found text (cert_runs (version_of c) c) (runs-cert (version_of c) c is) [] (text-cert c) in
    cert_of-parts text found.0 c short (ap (tokens_from 0 0) (text-cert c) ∙ found.2)
    (said-read text (version_of c) c is (fits_for c) found.0 found.1)
