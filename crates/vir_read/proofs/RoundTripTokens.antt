-- The tokens of a printed term say its pieces.
use Rattle.std.proofs.Common.{◌≡◌, ℕ, suc, ◌+◌, ◌-◌, ◌<◌, ◌≤◌, ◌^◌, Bool, true, false, ◌&&◌, List, [], ◌∷◌, ◌++◌}
use Rattle.std.proofs.Common.{length, take, Some, None, nat_le, nat_eq, decimal, slice_get, refl, sym, ◌∙◌, ap, subst}
use Rattle.std.proofs.Common.{arith, append_assoc, append-nil, length-append, lit<}
use Rattle.std.specs.Prelude.{codes}
use Rattle.std.specs.Int.{IsInRange as IsBetween}
use Rattle.std.specs.List.{list_any, list_all}
use Rattle.std.specs.Str.Parse.{AllDigits}
use Rattle.std.proofs.lemmas.Bool.Decides.{nat_tests}
use Rattle.std.proofs.lemmas.Str.Parse.{digit_from_value}
use Rattle.std.proofs.lemmas.Fmt.{digits_decimal, decimal_nonempty}
use Rattle.std.proofs.Math.Seq.{drop-append_seam, take-append_seam}
use Rattle.vir_term.specs.declared.fixed_order.OrderFault.TheVariants.{OutOfRange, Repeated}
use Rattle.vir_term.specs.declared.leaf.Leaf.{Leaf}
use Rattle.vir_term.specs.declared.leaf.Leaf.TheVariants.{Elect, Defer, PassFirst, DropFirst, Plurality, Max, Min}
use Rattle.vir_term.specs.declared.leaf.Leaf.TheVariants.{Below, Upto}
use Rattle.vir_term.specs.declared.score.Score.{Score}
use Rattle.vir_term.specs.declared.score.Score.TheVariants as score
use Rattle.vir_term.specs.Orders.{member_limit, order_fault_after}
use Rattle.vir_term.specs.Limits.{IsCount, IsLeafInRange, IsInRange, count_limit}
use Rattle.vir_term.specs.Text.{score_text, more_text, order_text, leaf_text, term_text}
use Rattle.vir_term.specs.Tree.{Tree, leaf, rev, seq, par, loop, exactly, at_most}
use Rattle.vir_read.specs.declared.token.Token.{Token}
use Rattle.vir_read.specs.declared.token.TokenKind.TheVariants as kind
use Rattle.vir_read.specs.Tokens.{is_blank, is_letter, is_digit, is_sign, is_comment_sign, is_word_byte, run, token}
use Rattle.vir_read.specs.Tokens.{with_token, tokens_from}
use Rattle.vir_read.specs.Arguments.{span}
use Rattle.vir_read.specs.Pieces.{Piece, name, digits, sign, Says, SayAll, pieces_of, pieces_of_two, more_pieces}
use Rattle.vir_read.specs.Pieces.{ordered_pieces, leaf_pieces, term_pieces, with_tokens}
use Rattle.vir_read.specs.Printed.{is_name}
use Rattle.vir_read.proofs.RoundTripTyping.{digits_are_read, no_fault, member_is_small}

-- ---- runs of bytes

pub both : (a b : Bool) → (a && b) ≡ true → (a ≡ true) × (b ≡ true)
both true b h = (refl, h)
both false b h = cc

run-append : (test : ℕ → Bool) (w after : List ℕ) → list_all test w ≡ true → run test after ≡ 0 → run test (w ++ after)
    ≡ length w
run-append test [] after h e = e
run-append test (b ∷ w) after h e =
    let k = both (test b) (list_all test w) h in rw k.0 (ap suc (run-append test w after k.1 e))

-- bytes that belong to what began before are no tokens
tokens_from-inside : (w after : List ℕ) (at : ℕ) → tokens_from (length w) at (w ++ after)
    ≡ tokens_from 0 (at + length w) after
unfolding tokens_from
tokens_from-inside [] after at = ap (λ n. tokens_from 0 n after) (omega arith)
tokens_from-inside (b ∷ w) after at = tokens_from-inside w after (at + 1) ∙ ap (λ n. tokens_from 0 n after)
    (omega arith)

-- ---- words, numbers and signs

-- a letter, and bytes of a word: `is_name` in two
abbrev pub IsName : List ℕ → Type 0
IsName [] = ⊥
IsName (b ∷ w) = (is_letter b ≡ true) × (list_all is_word_byte w ≡ true)

-- digits, at least one
abbrev pub IsNumeral : List ℕ → Type 0
IsNumeral [] = ⊥
IsNumeral (b ∷ w) = list_all is_digit (b ∷ w) ≡ true

pub is_name-parts : (w : List ℕ) → is_name w ≡ true → IsName w
is_name-parts [] h = cc
is_name-parts (b ∷ w) h = both (is_letter b) (list_all is_word_byte w) h

letter_begins : (b : ℕ) → is_letter b ≡ true → (is_blank b ≡ false) × (is_comment_sign b ≡ false)
letter_begins b h = (grind (arith, nat_tests), grind (arith, nat_tests))

digit_begins : (b : ℕ) → is_digit b ≡ true → (is_blank b ≡ false) × (is_comment_sign b ≡ false) × (is_letter b ≡ false)
digit_begins b h = (grind (arith, nat_tests), grind (arith, nat_tests), grind (arith, nat_tests))

sign_begins : (b : ℕ) → is_sign b ≡ true → (is_blank b ≡ false) × (is_comment_sign b ≡ false) × (is_letter b ≡ false)
    × (is_digit b ≡ false)
sign_begins b h = (
  grind (arith, nat_tests),
  grind (arith, nat_tests),
  grind (arith, nat_tests),
  grind
      (arith, nat_tests),
)

sign_is_no_word_byte : (b : ℕ) → is_sign b ≡ true → is_word_byte b ≡ false
sign_is_no_word_byte b h = grind (arith, nat_tests)

word_first : (w after : List ℕ) (at : ℕ) → IsName w → run is_word_byte after ≡ 0 →
    tokens_from 0 at (w ++ after) ≡ with_token (token kind.Word at (at + length w))
    (tokens_from 0 (at + length w) after)
unfolding tokens_from
word_first [] after at h e = absurd h
word_first (b ∷ w) after at h e =
    let k = letter_begins b h.0 in
    let n : at + 1 + length w ≡ at + length (b ∷ w) = omega arith in
    rw (k.0, k.1, h.0, run-append is_word_byte w after h.1 e, tokens_from-inside w after (at + 1), n) refl

number_first : (w after : List ℕ) (at : ℕ) → IsNumeral w → run is_digit after ≡ 0 →
    tokens_from 0 at (w ++ after) ≡ with_token (token kind.Number at (at + length w))
    (tokens_from 0 (at + length w) after)
unfolding tokens_from
number_first [] after at h e = absurd h
number_first (b ∷ w) after at h e =
    let d = both (is_digit b) (list_all is_digit w) h in
    let k = digit_begins b d.0 in
    let n : at + 1 + length w ≡ at + length (b ∷ w) = omega arith in
    rw (k.0, k.1, k.2, d.0, run-append is_digit w after d.1 e, tokens_from-inside w after (at + 1), n) refl

sign_first : (b at : ℕ) (after : List ℕ) → is_sign b ≡ true →
    tokens_from 0 at (b ∷ after) ≡ with_token (token kind.Sign at (at + 1)) (tokens_from 0 (at + 1) after)
unfolding tokens_from
sign_first b at after h = let k = sign_begins b h in rw (k.0, k.1, k.2, k.3, h) refl

-- ---- pieces

abbrev pub piece_text : Piece → List ℕ
piece_text (name w) = w
piece_text (digits n) = decimal n
piece_text (sign b) = b ∷ []

abbrev pub pieces_text : List Piece → List ℕ
pieces_text [] = []
pieces_text (p ∷ ps) = piece_text p ++ pieces_text ps

-- nothing, or a sign first
abbrev pub BeginsApart : List Piece → Type 0
BeginsApart [] = Unit {0}
BeginsApart (sign b ∷ ps) = is_sign b ≡ true
BeginsApart (name w ∷ ps) = ⊥
BeginsApart (digits n ∷ ps) = ⊥

-- words and numbers are such, and behind each stands a sign, or nothing
abbrev pub AreApart : List Piece → Type 0
AreApart [] = Unit {0}
AreApart (name w ∷ ps) = IsName w × BeginsApart ps × AreApart ps
AreApart (digits n ∷ ps) = IsNumeral (decimal n) × BeginsApart ps × AreApart ps
AreApart (sign b ∷ ps) = (is_sign b ≡ true) × AreApart ps

begins_apart-append : (ps qs : List Piece) → BeginsApart ps → BeginsApart qs → BeginsApart (ps ++ qs)
begins_apart-append [] qs h k = k
begins_apart-append (sign b ∷ ps) qs h k = h
begins_apart-append (name w ∷ ps) qs h k = absurd h
begins_apart-append (digits n ∷ ps) qs h k = absurd h

pub are_apart-append : (ps qs : List Piece) → AreApart ps → BeginsApart qs → AreApart qs → AreApart (ps ++ qs)
are_apart-append [] qs h b k = k
are_apart-append (name w ∷ ps) qs h b k = (h.0, begins_apart-append ps qs h.1 b, are_apart-append ps qs h.2 b k)
are_apart-append (digits n ∷ ps) qs h b k = (h.0, begins_apart-append ps qs h.1 b, are_apart-append ps qs h.2 b k)
are_apart-append (sign c ∷ ps) qs h b k = (h.0, are_apart-append ps qs h.1 b k)

-- no byte of a word stands first
begins_apart-run : (ps : List Piece) (after : List ℕ) → BeginsApart ps → run is_word_byte after ≡ 0
    → run is_word_byte (pieces_text ps ++ after) ≡ 0
begins_apart-run [] after h e = e
begins_apart-run (sign b ∷ ps) after h e = rw (sign_is_no_word_byte b h) refl
begins_apart-run (name w ∷ ps) after h e = absurd h
begins_apart-run (digits n ∷ ps) after h e = absurd h

digit_is_word_byte : (b : ℕ) → is_word_byte b ≡ false → is_digit b ≡ false
digit_is_word_byte b h = grind (arith, nat_tests)

no_word_byte : (b : ℕ) (rest : List ℕ) → run is_word_byte (b ∷ rest) ≡ 0 → is_word_byte b ≡ false
no_word_byte b rest h = split (is_word_byte b) refl where
  split : (p : Bool) → is_word_byte b ≡ p → is_word_byte b ≡ false
  split true e = absurd (let bad : suc (run is_word_byte rest) ≡ 0 = sym (rw e refl) ∙ h in omega (arith, bad))
  split false e = e

-- a run of digits is not longer than one of bytes of a word
run-digits : (after : List ℕ) → run is_word_byte after ≡ 0 → run is_digit after ≡ 0
run-digits [] h = refl
run-digits (b ∷ rest) h = rw (digit_is_word_byte b (no_word_byte b rest h)) refl

pub span-here : (before w after : List ℕ) → span (before ++ (w ++ after)) (length before) (length before + length w) ≡ w
span-here before w after =
    let n : (length before + length w) - length before ≡ length w = omega arith in
    ap (take ((length before + length w) - length before)) (drop-append_seam before (w ++ after))
    ∙ ap (λ n. take n (w ++ after)) n ∙ take-append_seam w after

byte-here : (before : List ℕ) (b : ℕ) (after : List ℕ) → slice_get (before ++ b ∷ after) (length before) ≡ Some b
byte-here [] b after = refl
byte-here (x ∷ before) b after = byte-here before b after

module _ (text after : List ℕ) (ends : run is_word_byte after ≡ 0) where
  -- where these pieces stand at a place of the text, their tokens do
  abbrev pub Found : List Piece → ℕ → Type 0
  Found ps at = (tokens : List Token) × SayAll text ps tokens
      × (tokens_from 0 at (pieces_text ps ++ after) ≡ with_tokens tokens (tokens_from 0 (at + length (pieces_text ps))
      after))

  -- one more token in front of those
  found-more : (p : Piece) (ps : List Piece) (t : Token) (at at' : ℕ) → Says text p t → at' ≡ at + length (piece_text p)
      →
      tokens_from 0 at (piece_text p ++ (pieces_text ps ++ after))
      ≡ with_token t (tokens_from 0 at' (pieces_text ps ++ after)) → Found ps at' → Found (p ∷ ps) at
  found-more p ps t at at' says e first others =
      let n : at' + length (pieces_text ps) ≡ at + length (piece_text p ++ pieces_text ps) =
      omega (arith, length-append (piece_text p) (pieces_text ps), e) in (
        t ∷ others.0,
        (says, others.1),
        ap (tokens_from 0 at) (append_assoc (piece_text p) (pieces_text ps) after) ∙ first
            ∙ ap (with_token t) (others.2 ∙ ap (λ n. with_tokens others.0 (tokens_from 0 n after)) n),
      )

  pub pieces_are_found : (ps : List Piece) → AreApart ps → (before : List ℕ) → text ≡ before
      ++ (pieces_text ps ++ after) → Found ps (length before)
  pieces_are_found [] apart before e = ([], tt, ap (λ n. tokens_from 0 n after) (omega arith))
  pieces_are_found (name w ∷ ps) apart before e =
      let whole = pieces_text ps ++ after in
      let here : text ≡ before ++ (w ++ whole) = e ∙ ap (λ y. before ++ y) (append_assoc w (pieces_text ps) after) in
      let at' = length before + length w in
      let t = token kind.Word (length before) at' in
      let says : Says text (name w) t = (refl, ap (λ y. span y (length before) at') here ∙ span-here before w whole) in
      let others = pieces_are_found ps apart.2 (before ++ w) (here ∙ sym (append_assoc before w whole)) in
      found-more (name w) ps t (length before) at' says refl
      (word_first w whole (length before) apart.0 (begins_apart-run ps after apart.1 ends))
      (subst (Found ps) (length-append before w) others)
  pieces_are_found (digits k ∷ ps) apart before e =
      let w = decimal k in
      let whole = pieces_text ps ++ after in
      let here : text ≡ before ++ (w ++ whole) = e ∙ ap (λ y. before ++ y) (append_assoc w (pieces_text ps) after) in
      let at' = length before + length w in
      let t = token kind.Number (length before) at' in
      let says : Says text (digits k) t = (refl, ap (λ y. span y (length before) at') here ∙ span-here before w whole)
      in
      let others = pieces_are_found ps apart.2 (before ++ w) (here ∙ sym (append_assoc before w whole)) in
      found-more (digits k) ps t (length before) at' says refl
      (number_first w whole (length before) apart.0 (run-digits whole (begins_apart-run ps after apart.1 ends)))
      (subst (Found ps) (length-append before w) others)
  pieces_are_found (sign b ∷ ps) apart before e =
      let whole = pieces_text ps ++ after in
      let t = token kind.Sign (length before) (length before + 1) in
      let says : Says text (sign b) t = (refl, ap (λ y. slice_get y (length before)) e ∙ byte-here before b whole) in
      let others = pieces_are_found ps apart.1 (before ++ b ∷ []) (e ∙ sym (append_assoc before (b ∷ []) whole)) in
      found-more (sign b) ps t (length before) (length before + 1) says refl
      (sign_first b (length before) whole apart.0)
      (subst (Found ps) (length-append before (b ∷ [])) others)

-- ---- terms

pub numeral_of : (ds : List ℕ) → AllDigits 10 ds → 0 < length ds → IsNumeral ds
numeral_of [] h k = absurd (omega arith)
numeral_of (d ∷ rest) h k = all_digits (d ∷ rest) h where
  is_digit-between : (d : ℕ) → IsBetween 48 57 d → is_digit d ≡ true
  is_digit-between d h = grind (arith, nat_tests)

  all_digits : (ds : List ℕ) → AllDigits 10 ds → list_all is_digit ds ≡ true
  all_digits [] h = refl
  all_digits (d ∷ rest) h = rw (is_digit-between d (digit_from_value d h.0), all_digits rest h.1) refl

pub decimal_is_numeral : (n : ℕ) → n ≤ count_limit → IsNumeral (decimal n)
decimal_is_numeral n h =
    let small : n < 2 ^ 64 = omega (arith, lit< {m = count_limit} {n = 2 ^ 64} tt) in
    let P : List ℕ → Type 0 = AllDigits 10 in
    numeral_of (decimal n) (digits_decimal {P = P} digits_are_read n small) (decimal_nonempty n small)

pub apart-of : (w : List ℕ) (ps : List Piece) → IsName w → AreApart ps → AreApart (pieces_of w ps)
apart-of w ps n a = (n, refl, (refl, are_apart-append ps (sign 41 ∷ []) a refl (refl, tt)))

apart-of_two : (w : List ℕ) (ps qs : List Piece) → IsName w → AreApart ps → AreApart qs
    → AreApart (pieces_of_two w ps qs)
apart-of_two w ps qs n a b = (
  n,
  refl,
  (
    refl,
    are_apart-append ps (sign 44 ∷ (qs ++ sign 41 ∷ [])) a refl
        (refl, are_apart-append qs (sign 41 ∷ []) b refl (refl, tt)),
  ),
)

pub apart-number : (k : ℕ) → k ≤ count_limit → AreApart (digits k ∷ [])
apart-number k h = (decimal_is_numeral k h, tt, tt)

-- further members of a fixed order, and its closing bracket
apart-members : (before order : List ℕ) → order_fault_after before order ≡ None → AreApart (more_pieces order ++ sign 93
    ∷ [])
apart-members before [] h = (refl, tt)
apart-members before (x ∷ order) h =
    let good = no_fault (nat_le 1 x && nat_le x member_limit) (list_any (λ y. nat_eq y x) before) Repeated OutOfRange
    (order_fault_after (before ++ x ∷ []) order) h in (
      refl,
      (
        decimal_is_numeral x (omega (arith, member_is_small x good.0)),
        members_begin order,
        apart-members
            (before ++ x ∷ []) order good.2,
      ),
    ) where
      members_begin : (order : List ℕ) → BeginsApart (more_pieces order ++ sign 93 ∷ [])
      members_begin [] = refl
      members_begin (y ∷ order) = refl

apart-ordered : (w : List ℕ) (k : ℕ) (order : List ℕ) → IsName w → IsCount k → order_fault_after [] order ≡ None
    → AreApart (ordered_pieces w k order)
apart-ordered w k [] n c h = apart-of w (digits k ∷ []) n (apart-number k c.few)
apart-ordered w k (x ∷ order) n c h =
    apart-of_two w (digits k ∷ []) (sign 91 ∷ digits x ∷ (more_pieces order ++ sign 93 ∷ [])) n (apart-number k c.few)
    (refl, (apart-members [] (x ∷ order) h).1)

score_text-name : (s : Score) → IsName (score_text s)
score_text-name score.Plurality = (refl, refl)
score_text-name score.Borda = (refl, refl)
score_text-name score.Copeland = (refl, refl)
score_text-name score.Minimax = (refl, refl)
score_text-name score.Condorcet = (refl, refl)

apart-eliminator : (w : List ℕ) (s : Score) → IsName w → AreApart (pieces_of w (name (score_text s) ∷ []))
apart-eliminator w s n = apart-of w (name (score_text s) ∷ []) n (score_text-name s, tt, tt)

apart-leaf : (l : Leaf) → IsLeafInRange l → AreApart (leaf_pieces l)
apart-leaf Elect r = ((refl, refl), tt, tt)
apart-leaf Defer r = ((refl, refl), tt, tt)
apart-leaf Plurality r = ((refl, refl), tt, tt)
apart-leaf (PassFirst k order) r = apart-ordered (codes "pass") k order (refl, refl) r.0 r.1
apart-leaf (DropFirst k order) r = apart-ordered (codes "drop") k order (refl, refl) r.0 r.1
apart-leaf (Max s) r = apart-eliminator (codes "max") s (refl, refl)
apart-leaf (Min s) r = apart-eliminator (codes "min") s (refl, refl)
apart-leaf (Below s) r = apart-eliminator (codes "below") s (refl, refl)
apart-leaf (Upto s) r = apart-eliminator (codes "upto") s (refl, refl)

pub apart-term : (t : Tree) → IsInRange t → AreApart (term_pieces t)
apart-term (leaf l) r = apart-leaf l r
apart-term (rev part) r = apart-of (codes "rev") (term_pieces part) (refl, refl) (apart-term part r)
apart-term (seq first second) r = apart-of_two (codes "seq") (term_pieces first) (term_pieces second) (refl, refl)
    (apart-term first r.0) (apart-term second r.1)
apart-term (par first second) r = apart-of_two (codes "par") (term_pieces first) (term_pieces second) (refl, refl)
    (apart-term first r.0) (apart-term second r.1)
apart-term (loop (exactly k) body) r = apart-of_two (codes "loop") (digits k ∷ []) (term_pieces body) (refl, refl)
    (apart-number k r.0.few) (apart-term body r.1)
apart-term (loop (at_most k) body) r = apart-of_two (codes "until") (digits k ∷ []) (term_pieces body) (refl, refl)
    (apart-number k r.0.few) (apart-term body r.1)

-- ---- the text of a term is that of its pieces

pub pieces_text-append : (ps qs : List Piece) → pieces_text (ps ++ qs) ≡ pieces_text ps ++ pieces_text qs
pieces_text-append [] qs = refl
pieces_text-append (p ∷ ps) qs = ap (λ x. piece_text p ++ x) (pieces_text-append ps qs)
    ∙ sym (append_assoc (piece_text p) (pieces_text ps) (pieces_text qs))

text-members : (order : List ℕ) → more_text order ≡ pieces_text (more_pieces order)
text-members [] = refl
text-members (x ∷ order) = ap (λ y. 44 ∷ (decimal x ++ y)) (text-members order)

text-of : (x : List ℕ) (ps : List Piece) → x ≡ pieces_text ps → x ++ 41 ∷ [] ≡ pieces_text (ps ++ sign 41 ∷ [])
text-of x ps e = ap (λ y. y ++ 41 ∷ []) e ∙ sym (pieces_text-append ps (sign 41 ∷ []))

two_in_a_row : (x y : List ℕ) → ((x ++ 44 ∷ []) ++ y) ++ 41 ∷ [] ≡ x ++ 44 ∷ (y ++ 41 ∷ [])
two_in_a_row x y = append_assoc (x ++ 44 ∷ []) y (41 ∷ []) ∙ append_assoc x (44 ∷ []) (y ++ 41 ∷ [])

text-of_two : (x y : List ℕ) (ps qs : List Piece) → x ≡ pieces_text ps → y ≡ pieces_text qs →
    ((x ++ 44 ∷ []) ++ y) ++ 41 ∷ [] ≡ pieces_text (ps ++ sign 44 ∷ (qs ++ sign 41 ∷ []))
text-of_two x y ps qs e f =
    two_in_a_row x y ∙ ap (λ z. x ++ 44 ∷ z) (text-of y qs f) ∙ ap (λ z. z ++ 44 ∷ pieces_text (qs ++ sign 41 ∷ [])) e
    ∙ sym (pieces_text-append ps (sign 44 ∷ (qs ++ sign 41 ∷ [])))

text-bracket : (d ms : List ℕ) (ps : List Piece) → ms ≡ pieces_text ps →
    ((d ++ ms) ++ 93 ∷ []) ++ 41 ∷ [] ≡ d ++ pieces_text ((ps ++ sign 93 ∷ []) ++ sign 41 ∷ [])
text-bracket d ms ps e =
    ap (λ y. y ++ 41 ∷ []) (append_assoc d ms (93 ∷ [])) ∙ append_assoc d (ms ++ 93 ∷ []) (41 ∷ [])
    ∙ ap (λ y. d ++ y) (ap (λ y. y ++ 41 ∷ []) (ap (λ y. y ++ 93 ∷ []) e ∙ sym (pieces_text-append ps (sign 93 ∷ [])))
    ∙ sym (pieces_text-append (ps ++ sign 93 ∷ []) (sign 41 ∷ [])))

text-ordered : (w : List ℕ) (k : ℕ) (order : List ℕ) → w ++ (40 ∷ ((decimal k ++ order_text order) ++ 41 ∷ []))
    ≡ pieces_text (ordered_pieces w k order)
text-ordered w k [] = ap (λ y. w ++ (40 ∷ (y ++ 41 ∷ []))) (append-nil (decimal k))
text-ordered w k (x ∷ order) =
    ap (λ y. w ++ (40 ∷ y)) (append_assoc (decimal k) (order_text (x ∷ order)) (41 ∷ [])
    ∙ ap (λ y. decimal k ++ 44 ∷ 91 ∷ y) (text-bracket (decimal x) (more_text order) (more_pieces order)
    (text-members order)))

text-leaf : (l : Leaf) → leaf_text l ≡ pieces_text (leaf_pieces l)
text-leaf Elect = refl
text-leaf Defer = refl
text-leaf Plurality = refl
text-leaf (PassFirst k order) = text-ordered (codes "pass") k order
text-leaf (DropFirst k order) = text-ordered (codes "drop") k order
text-leaf (Max s) = refl
text-leaf (Min s) = refl
text-leaf (Below s) = refl
text-leaf (Upto s) = refl

pub text-term : (t : Tree) → term_text t ≡ pieces_text (term_pieces t)
text-term (leaf l) = text-leaf l
text-term (rev part) = ap (λ y. codes "rev(" ++ y) (text-of (term_text part) (term_pieces part) (text-term part))
text-term (seq first second) =
    ap (λ y. codes "seq(" ++ y) (text-of_two (term_text first) (term_text second) (term_pieces first)
    (term_pieces second) (text-term first) (text-term second))
text-term (par first second) =
    ap (λ y. codes "par(" ++ y) (text-of_two (term_text first) (term_text second) (term_pieces first)
    (term_pieces second) (text-term first) (text-term second))
text-term (loop (exactly k) body) =
    ap (λ y. codes "loop(" ++ y) (two_in_a_row (decimal k) (term_text body) ∙ ap (λ z. decimal k ++ 44 ∷ z)
    (text-of (term_text body) (term_pieces body) (text-term body)))
text-term (loop (at_most k) body) =
    ap (λ y. codes "until(" ++ y) (two_in_a_row (decimal k) (term_text body) ∙ ap (λ z. decimal k ++ 44 ∷ z)
    (text-of (term_text body) (term_pieces body) (text-term body)))

-- the tokens of a term that stands in a text
pub tokens-term : (t : Tree) (before after : List ℕ) → IsInRange t → run is_word_byte after ≡ 0 →
    (tokens : List Token) × SayAll (before ++ (term_text t ++ after)) (term_pieces t) tokens
    × (tokens_from 0 (length before) (term_text t ++ after)
    ≡ with_tokens tokens (tokens_from 0 (length before + length (term_text t)) after))
tokens-term t before after r ends =
    let same = text-term t in
    let found = pieces_are_found (before ++ (term_text t ++ after)) after ends (term_pieces t) (apart-term t r) before
    (ap (λ y. before ++ (y ++ after)) same) in (
      found.0,
      found.1,
      ap (λ y. tokens_from 0 (length before) (y ++ after)) same ∙ found.2
          ∙ ap (λ y. with_tokens found.0 (tokens_from 0 (length before + length y) after)) (sym same),
    )
