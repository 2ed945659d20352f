-- A printed term is read as itself.
use Rattle.std.proofs.Common.{◌≡◌, ℕ, ◌+◌, ◌≤◌, true, List, [], ◌∷◌, ◌++◌, length, Ok, nat_le, refl, sym, ◌∙◌, ap}
use Rattle.std.proofs.Common.{arith, append-nil, if◌then◌else◌, Err}
use Rattle.std.proofs.lemmas.Bool.Decides.{nat_tests}
use Rattle.vir_term.specs.Limits.{IsWithinLimits, size_limit, nesting_limit}
use Rattle.vir_term.specs.Text.{term_text}
use Rattle.vir_term.specs.Tree.{Tree, size, nesting}
use Rattle.vir_read.specs.declared.token.Token.{Token}
use Rattle.vir_read.specs.declared.text_fault.TextKind.TheVariants.{TooLarge}
use Rattle.vir_read.specs.Faults.{◌>>=◌, fault}
use Rattle.vir_read.specs.Tokens.{run, is_word_byte, tokens_from, tokens_of}
use Rattle.vir_read.specs.RawTrees.{RawTree}
use Rattle.vir_read.specs.Grammar.{unclosed_limit}
use Rattle.vir_read.specs.Arguments.{Names}
use Rattle.vir_read.specs.Typing.{check_size, term_of}
use Rattle.vir_read.specs.Spelling.{Spells}
use Rattle.vir_read.specs.Pieces.{Piece, name, sign, SayAll, term_pieces, with_tokens, OpensNothing}
use Rattle.vir_read.specs.Printed.{is_name, definition_text, IsRead, IsDefinition}
use Rattle.vir_read.proofs.RoundTripTyping.{typed-spelled}
use Rattle.vir_read.proofs.RoundTripTrees.{readable-term, said_twice, said_first, said_last, opens_nothing-sign}
use Rattle.vir_read.proofs.RoundTripTrees.{semicolon_closes}
use Rattle.vir_read.proofs.RoundTripTokens.{is_name-parts, AreApart, are_apart-append, apart-term, pieces_text}
use Rattle.vir_read.proofs.RoundTripTokens.{pieces_text-append, text-term, tokens-term, pieces_are_found}

size_is_small : (n : ℕ) → n ≤ size_limit → nat_le n size_limit ≡ true
size_is_small n h = grind (arith, nat_tests)

pub term_of-spelled : (text : List ℕ) (names : Names) (at : ℕ) (t : Tree) (raw : RawTree) → Spells text t raw
    → IsWithinLimits t → term_of text names at raw ≡ Ok t
term_of-spelled text names at t raw spelled within =
    let flat : 1 + nesting t ≤ nesting_limit + 1 = omega (arith, within.flat) in
    ap (λ r. r >>= check_size at) (typed-spelled text names t raw 1 spelled within.in_range flat)
    ∙ ap (λ b. if b then Ok t else Err (fault TooLarge at)) (size_is_small (size t) within.small)

pub read-said : (text : List ℕ) (t : Tree) (tokens rest : List Token) → IsWithinLimits t → SayAll text (term_pieces t)
    tokens → OpensNothing text rest →
    IsRead text t (tokens ++ rest) rest
read-said text t tokens rest within says opens_nothing =
    let enough : nesting t + 1 ≤ unclosed_limit = omega (arith, within.flat) in
    let found = readable-term text t unclosed_limit tokens enough says rest opens_nothing in
    record { raw = found.0; read = found.2; meant = λ names at. term_of-spelled text names at t found.0 found.1 within }

pub with_tokens-ok : (tokens rest : List Token) → with_tokens tokens (Ok rest) ≡ Ok (tokens ++ rest)
with_tokens-ok [] rest = refl
with_tokens-ok (t ∷ tokens) rest = rw (with_tokens-ok tokens rest) refl

pub read-anywhere : (t : Tree) (before after : List ℕ) (rest : List Token) → IsWithinLimits t → run is_word_byte after
    ≡ 0 →
    tokens_from 0 (length before + length (term_text t)) after ≡ Ok rest
    → OpensNothing (before ++ (term_text t ++ after)) rest →
    (tokens : List Token) × (tokens_from 0 (length before) (term_text t ++ after) ≡ Ok tokens)
    × IsRead (before ++ (term_text t ++ after)) t tokens rest
read-anywhere t before after rest within ends others opens_nothing =
    let found = tokens-term t before after within.in_range ends in (
      found.0 ++ rest,
      found.2 ∙ ap (with_tokens found.0) others ∙ with_tokens-ok found.0 rest,
      read-said (before ++ (term_text t ++ after)) t found.0 rest within found.1 opens_nothing,
    )

-- a text of nothing but pieces has their tokens
pub tokens_of-pieces : (text : List ℕ) (ps : List Piece) → AreApart ps → text ≡ pieces_text ps → (tokens : List Token)
    × SayAll text ps tokens × (tokens_of text ≡ Ok tokens)
unfolding tokens_from
tokens_of-pieces text ps apart same =
    let end : text ≡ pieces_text ps ++ [] = same ∙ sym (append-nil (pieces_text ps)) in
    let found = pieces_are_found text [] refl ps apart [] end in
    (found.0, found.1, ap (tokens_from 0 0) end ∙ found.2 ∙ with_tokens-ok found.0 [] ∙ ap Ok (append-nil found.0))

pub read-definition : (w : List ℕ) (t : Tree) → is_name w ≡ true → IsWithinLimits t → IsDefinition (definition_text w t)
    w t
read-definition w t named within =
    let text = definition_text w t in
    let body = term_pieces t ++ sign 59 ∷ [] in
    let all = name w ∷ sign 61 ∷ body in
    let same : text ≡ pieces_text all = ap (λ y. w ++ (61 ∷ y)) (ap (λ y. y ++ 59 ∷ []) (text-term t)
    ∙ sym (pieces_text-append (term_pieces t) (sign 59 ∷ []))) in
    let apart : AreApart all = (
      is_name-parts w named,
      refl,
      (
        refl,
        are_apart-append (term_pieces t) (sign 59 ∷ [])
            (apart-term t within.in_range) refl (refl, tt),
      ),
    ) in
    let found = tokens_of-pieces text all apart same in
    let x = said_first text (name w) (sign 61 ∷ body) found.0 found.1 in
    let q = said_first text (sign 61) body x.1 x.4 in
    let k = said_twice text (term_pieces t) (sign 59 ∷ []) q.1 q.4 in
    let z = said_last text (sign 59) k.1 k.4 in
    let tokens = k.0 ++ z.0 ∷ [] in
    let are : found.0 ≡ x.0 ∷ q.0 ∷ tokens = x.2
    ∙ ap (λ ts. x.0 ∷ ts) (q.2 ∙ ap (λ ts. q.0 ∷ ts) (k.2 ∙ ap (λ ts. k.0 ++ ts) z.1)) in
    record {
      word = x.0;
      equals = q.0;
      tokens = tokens;
      semicolon = z.0;
      lexed = found.2 ∙ ap Ok are;
      says_name = x.3;
      says_equals = q.3;
      says_semicolon = z.2;
      body = read-said text t k.0 (z.0 ∷ []) within k.3 (opens_nothing-sign text 59 z.0 [] (semicolon_closes text) z.2);
    }
