-- What begins at a place of a text.
use Rattle.std.proofs.Common.{◌≡◌, ℕ, zero, suc, ◌+◌, ◌-◌, ◌<◌, ◌≤◌, Bool, true, false, List, [], ◌∷◌, length, take}
use Rattle.std.proofs.Common.{drop, get_or, refl, ap, sym, ◌∙◌, arith, add-one, drop-cons, Err}
use Rattle.std.proofs.lemmas.List.{drop-drop, length-drop, take_all}
use Rattle.vir_read.specs.declared.token.TokenKind.TheVariants.{Word, Number, Sign}
use Rattle.vir_read.specs.declared.text_fault.TextKind.TheVariants.{BadByte}
use Rattle.vir_read.specs.Faults.{fault}
use Rattle.vir_read.specs.Tokens.{tokens_from, run, is_blank, is_comment_byte, is_comment_sign, is_letter, is_word_byte}
use Rattle.vir_read.specs.Tokens.{is_digit, is_sign, token, with_token}
use Rattle.vir_read.proofs.RunLemmas.{run-le-length}

-- bytes that belong to what began before are passed over
pub tokens_from-inside : (n at : ℕ) (bytes : List ℕ) → n ≤ length bytes → tokens_from n at bytes
    ≡ tokens_from 0 (at + n) (drop n bytes)
unfolding tokens_from
tokens_from-inside zero at bytes h = let e : at ≡ at + 0 = omega arith in ap (λ k. tokens_from 0 k bytes) e
tokens_from-inside (suc n) at [] h = absurd (omega arith)
tokens_from-inside (suc n) at (b ∷ rest) h =
    let e : at + 1 + n ≡ at + suc n = omega arith in
    tokens_from-inside n (at + 1) rest (omega arith) ∙ ap (λ k. tokens_from 0 k (drop n rest)) e

-- all bytes from a place on
pub run-rest : (p : ℕ → Bool) (n : ℕ) (text : List ℕ) → run p (take (length text - n) (drop n text))
    ≡ run p (drop n text)
run-rest p n text =
    let e = length-drop n text in
    ap (run p) (take_all (length text - n) (drop n text) (omega arith))

module _ (text : List ℕ) (at d : ℕ) (inside : at < length text) where
  -- the bytes behind this one
  abbrev rest : List ℕ
  rest = drop (at + 1) text

  from_here : tokens_from 0 at (drop at text) ≡ tokens_from 0 at (get_or text at d ∷ rest)
  from_here = ap (tokens_from 0 at) (drop-cons text at d inside)
      ∙ ap (λ n. tokens_from 0 at (get_or text at d ∷ drop n text)) (sym (add-one at))

  pub bounds : (p : ℕ → Bool) (r : ℕ) → r ≡ run p rest → (at < at + 1 + r) × (at + 1 + r ≤ length text)
  bounds p r e =
      let h : run p rest ≤ length rest = run-le-length p rest in
      let k : length rest ≡ length text - (at + 1) = length-drop (at + 1) text in
      (omega arith, omega arith)

  -- from behind a run on
  behind_run : (p : ℕ → Bool) (r : ℕ) → r ≡ run p rest → tokens_from (run p rest) (at + 1) rest
      ≡ tokens_from 0 (at + 1 + r) (drop (at + 1 + r) text)
  behind_run p r e =
      ap (λ n. tokens_from n (at + 1) rest) (sym e)
      ∙ tokens_from-inside r (at + 1) rest (let h = run-le-length p rest in omega arith)
      ∙ ap (tokens_from 0 (at + 1 + r)) (drop-drop r (at + 1) text)

  pub blank : is_blank (get_or text at d) ≡ true →
      (tokens_from 0 at (drop at text) ≡ tokens_from 0 (at + 1) rest) × (at < at + 1) × (at + 1 ≤ length text)
  unfolding tokens_from
  blank h = (from_here ∙ rw h refl, omega arith, omega arith)

  pub comment : (r : ℕ) → is_blank (get_or text at d) ≡ false → is_comment_sign (get_or text at d) ≡ true → r
      ≡ run is_comment_byte rest →
      (tokens_from 0 at (drop at text) ≡ tokens_from 0 (at + 1 + r) (drop (at + 1 + r) text)) × (at < at + 1 + r)
      × (at + 1 + r ≤ length text)
  unfolding tokens_from
  comment r h k e = let b = bounds is_comment_byte r e in (
    from_here ∙ rw (h, k) (behind_run is_comment_byte r e),
    b.0,
    b.1,
  )

  pub word : (r : ℕ) → is_blank (get_or text at d) ≡ false → is_comment_sign (get_or text at d) ≡ false
      → is_letter (get_or text at d) ≡ true → r ≡ run is_word_byte rest →
      (tokens_from 0 at (drop at text) ≡ with_token (token Word at (at + 1 + r))
      (tokens_from 0 (at + 1 + r) (drop (at + 1 + r) text))) × (at < at + 1 + r) × (at + 1 + r ≤ length text)
  unfolding tokens_from
  word r h k l e =
      let b = bounds is_word_byte r e in (
        from_here
            ∙ rw (h, k, l)
            (ap (λ n. with_token (token Word at (at + 1 + n)) (tokens_from (run is_word_byte rest) (at + 1) rest))
            (sym e)
            ∙ ap (with_token (token Word at (at + 1 + r))) (behind_run is_word_byte r e)),
        b.0,
        b.1,
      )

  pub number : (r : ℕ) → is_blank (get_or text at d) ≡ false → is_comment_sign (get_or text at d) ≡ false
      → is_letter (get_or text at d) ≡ false → is_digit (get_or text at d) ≡ true → r ≡ run is_digit rest →
      (tokens_from 0 at (drop at text) ≡ with_token (token Number at (at + 1 + r))
      (tokens_from 0 (at + 1 + r) (drop (at + 1 + r) text))) × (at < at + 1 + r) × (at + 1 + r ≤ length text)
  unfolding tokens_from
  number r h k l m e =
      let b = bounds is_digit r e in (
        from_here
            ∙ rw (h, k, l, m)
            (ap (λ n. with_token (token Number at (at + 1 + n)) (tokens_from (run is_digit rest) (at + 1) rest)) (sym e)
            ∙ ap (with_token (token Number at (at + 1 + r))) (behind_run is_digit r e)),
        b.0,
        b.1,
      )

  pub sign : is_blank (get_or text at d) ≡ false → is_comment_sign (get_or text at d) ≡ false
      → is_letter (get_or text at d) ≡ false → is_digit (get_or text at d) ≡ false → is_sign (get_or text at d) ≡ true →
      (tokens_from 0 at (drop at text) ≡ with_token (token Sign at (at + 1)) (tokens_from 0 (at + 1) rest))
      × (at < at + 1) × (at + 1 ≤ length text)
  unfolding tokens_from
  sign h k l m n = (from_here ∙ rw (h, k, l, m, n) refl, omega arith, omega arith)

  pub no_token : is_blank (get_or text at d) ≡ false → is_comment_sign (get_or text at d) ≡ false
      → is_letter (get_or text at d) ≡ false → is_digit (get_or text at d) ≡ false → is_sign (get_or text at d) ≡ false
      →
      tokens_from 0 at (drop at text) ≡ Err (fault BadByte at)
  unfolding tokens_from
  no_token h k l m n = from_here ∙ rw (h, k, l, m, n) refl
