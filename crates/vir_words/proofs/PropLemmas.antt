-- Properties as words.
use Rattle.std.proofs.Common.{◌≡◌, ℕ, ◌<◌, ◌≤◌, ◌^◌, Bool, true, false, ◌&&◌, List, [], ◌∷◌, ◌++◌, codes, decimal}
use Rattle.std.proofs.Common.{map, unwrap_or, cond, Option, Some, None, refl, sym, ◌∙◌, ap, subst, arith, append-nil}
use Rattle.std.proofs.lemmas.List.Elements.{filter-append}
use Rattle.std.specs.Char.{is_ascii_digit}
use Rattle.std.specs.Cmp.Lexicographic.{bytes_decides}
use Rattle.std.specs.List.{AllByRecursion, filter, list_all}
use Rattle.std.specs.Option.{IfSome, MatchOption}
use Rattle.std.specs.Prelude.{⊤}
use Rattle.std.specs.Str.{bytes_eq}
use Rattle.vir_term.specs.declared.prop.Prop.{Prop}
use Rattle.vir_term.specs.declared.prop.Prop.TheVariants.{Ne, Ea, El, Defers, Rejects, Elim, Nb, Decr, Dli, Imono}
use Rattle.vir_term.specs.declared.prop.Prop.TheVariants.{Dimono, Dmono, Mono, Cc, Dcc, Cprog, Ccomp, Neut}
use Rattle.vir_term.specs.Limits.{IsCount}
use Rattle.vir_term.specs.Props.{all_props}
use Rattle.vir_rules.specs.Named.{IsPropInRange}
use Rattle.vir_rules.specs.Props.{prop_text}
use Rattle.vir_words.specs.WordNumbers.{number_within}
use Rattle.vir_words.specs.WordProps.{first_printed, number_in, prop_of, with_number}
use Rattle.vir_words.proofs.WordLemmas.{number_is_within, decimal_digits, number_of_decimal}

-- ---- the first of some properties that is printed so

-- a test that found a property
found_by : (b : Bool) (p q : Prop) (rest : Option Prop) (text : List ℕ) → (b ≡ true → prop_text q ≡ text)
    → (rest ≡ Some p → prop_text p ≡ text) → cond b (Some q) rest ≡ Some p → prop_text p ≡ text
found_by true p q rest text here behind e = let same : q ≡ p = cc in subst (λ r. prop_text r ≡ text) same (here refl)
found_by false p q rest text here behind e = behind e

first_is_printed : (text : List ℕ) (props : List Prop) (p : Prop) → first_printed text props ≡ Some p
    → prop_text p ≡ text
first_is_printed text [] p e = absurd (cc)
first_is_printed text (q ∷ rest) p e =
    found_by (bytes_eq (prop_text q) text) p q (first_printed text rest) text (bytes_decides (prop_text q) text).0
    (first_is_printed text rest p) e

in_range_by : (b : Bool) (p q : Prop) (rest : Option Prop) → IsPropInRange q → (rest ≡ Some p → IsPropInRange p)
    → cond b (Some q) rest ≡ Some p → IsPropInRange p
in_range_by true p q rest here behind e = let same : q ≡ p = cc in subst IsPropInRange same here
in_range_by false p q rest here behind e = behind e

first_is_in_range : (text : List ℕ) (props : List Prop) (p : Prop) → AllByRecursion IsPropInRange props
    → first_printed text props ≡ Some p → IsPropInRange p
first_is_in_range text [] p all e = absurd (cc)
first_is_in_range text (q ∷ rest) p all e =
    in_range_by (bytes_eq (prop_text q) text) p q (first_printed text rest) all.0
    (first_is_in_range text rest p all.1) e

-- ---- the number of a word

number_or_one : (o : Option ℕ) → ((n : ℕ) → o ≡ Some n → (1 ≤ n) × (n ≤ 1000000)) → IsCount (unwrap_or o 1)
number_or_one None within = record { some = omega arith; few = omega arith }
number_or_one (Some n) within = let h = within n refl in record { some = h.0; few = h.1 }

number_is_count : (word : List ℕ) → IsCount (number_in word)
number_is_count word =
    number_or_one (number_within 1 1000000 (filter is_ascii_digit word))
    (λ n e. number_is_within 1 1000000 (filter is_ascii_digit word) n e)

all_in_range : (k : ℕ) → IsCount k → AllByRecursion IsPropInRange (map (with_number k) all_props)
all_in_range k h =
    (tt, (tt, (tt, (h, (h, (h, (tt, (tt, (tt, (tt, (tt, (tt, (tt, (tt, (tt, (tt, (tt, (tt, tt))))))))))))))))))

-- ---- words are printed properties

pub word_is_printed : (word : List ℕ) (p : Prop) → prop_of word ≡ Some p → prop_text p ≡ word
unfolding prop_of
word_is_printed word p e = first_is_printed word (map (with_number (number_in word)) all_props) p e

pub word_is_in_range : (word : List ℕ) (p : Prop) → prop_of word ≡ Some p → IsPropInRange p
unfolding prop_of
word_is_in_range word p e =
    first_is_in_range word (map (with_number (number_in word)) all_props) p
    (all_in_range (number_in word) (number_is_count word)) e

-- ---- printed properties are words

both_left : (a b : Bool) → (a && b) ≡ true → a ≡ true
both_left a b e = grind arith

both_right : (a b : Bool) → (a && b) ≡ true → b ≡ true
both_right a b e = grind arith

digits_kept : (ds : List ℕ) → list_all is_ascii_digit ds ≡ true → filter is_ascii_digit ds ≡ ds
digits_kept [] all = refl
digits_kept (d ∷ ds) all =
    let first : is_ascii_digit d ≡ true = both_left (is_ascii_digit d) (list_all is_ascii_digit ds) all in
    let others : list_all is_ascii_digit ds ≡ true = both_right (is_ascii_digit d) (list_all is_ascii_digit ds) all in
    ap (λ b. cond b (d ∷ filter is_ascii_digit ds) (filter is_ascii_digit ds)) first
    ∙ ap (λ rest. d ∷ rest) (digits_kept ds others)

small : (k : ℕ) → IsCount k → k < 2 ^ 64
small k h = omega (arith, h.few)

-- the digits of a number in parentheses
digits_inside : (k : ℕ) → IsCount k → filter is_ascii_digit (decimal k ++ codes ")") ≡ decimal k
digits_inside k h =
    filter-append is_ascii_digit (decimal k) (codes ")") ∙ append-nil (filter is_ascii_digit (decimal k))
    ∙ digits_kept (decimal k) (decimal_digits k (small k h))

number_inside : (k : ℕ) → IsCount k
    → unwrap_or (number_within 1 1000000 (filter is_ascii_digit (decimal k ++ codes ")"))) 1 ≡ k
number_inside k h =
    ap (λ ds. unwrap_or (number_within 1 1000000 ds) 1) (digits_inside k h)
    ∙ ap (λ o. unwrap_or o 1) (number_of_decimal 1 1000000 k (small k h) h.some h.few)

same : (text : List ℕ) → bytes_eq text text ≡ true
same text = (bytes_decides text text).1 refl

-- with the number at hand
first_defers : (k : ℕ) → first_printed (prop_text (Defers k)) (map (with_number k) all_props) ≡ Some (Defers k)
first_defers k = ap (λ b. cond b (Some (Defers k)) (first_printed (prop_text (Defers k))
    (Rejects k ∷ Elim k ∷ Nb ∷ Decr ∷ Dli ∷ Imono ∷ Dimono ∷ Dmono ∷ Mono ∷ Cc ∷ Dcc ∷ Cprog ∷ Ccomp ∷ Neut ∷ [])))
    (same (prop_text (Defers k)))

first_rejects : (k : ℕ) → first_printed (prop_text (Rejects k)) (map (with_number k) all_props) ≡ Some (Rejects k)
first_rejects k = ap (λ b. cond b (Some (Rejects k)) (first_printed (prop_text (Rejects k))
    (Elim k ∷ Nb ∷ Decr ∷ Dli ∷ Imono ∷ Dimono ∷ Dmono ∷ Mono ∷ Cc ∷ Dcc ∷ Cprog ∷ Ccomp ∷ Neut ∷ [])))
    (same (prop_text (Rejects k)))

first_elim : (k : ℕ) → first_printed (prop_text (Elim k)) (map (with_number k) all_props) ≡ Some (Elim k)
first_elim k = ap (λ b. cond b (Some (Elim k)) (first_printed (prop_text (Elim k))
    (Nb ∷ Decr ∷ Dli ∷ Imono ∷ Dimono ∷ Dmono ∷ Mono ∷ Cc ∷ Dcc ∷ Cprog ∷ Ccomp ∷ Neut ∷ [])))
    (same (prop_text (Elim k)))

with_its_number : (k : ℕ) (p : Prop) → number_in (prop_text p) ≡ k
    → first_printed (prop_text p) (map (with_number k) all_props) ≡ Some p → prop_of (prop_text p) ≡ Some p
unfolding prop_of
with_its_number k p is first = ap (λ n. first_printed (prop_text p) (map (with_number n) all_props)) is ∙ first

pub printed_is_word : (p : Prop) → IsPropInRange p → prop_of (prop_text p) ≡ Some p
unfolding prop_of
printed_is_word Ne h = refl
printed_is_word Ea h = refl
printed_is_word El h = refl
printed_is_word (Defers k) h = with_its_number k (Defers k) (number_inside k h) (first_defers k)
printed_is_word (Rejects k) h = with_its_number k (Rejects k) (number_inside k h) (first_rejects k)
printed_is_word (Elim k) h = with_its_number k (Elim k) (number_inside k h) (first_elim k)
printed_is_word Nb h = refl
printed_is_word Decr h = refl
printed_is_word Dli h = refl
printed_is_word Imono h = refl
printed_is_word Dimono h = refl
printed_is_word Dmono h = refl
printed_is_word Mono h = refl
printed_is_word Cc h = refl
printed_is_word Dcc h = refl
printed_is_word Cprog h = refl
printed_is_word Ccomp h = refl
printed_is_word Neut h = refl

-- ---- what a reader finds

pub word_found : (word : List ℕ) (p : Prop) → (prop_text p ≡ word) × IsPropInRange p → Some p ≡ prop_of word
word_found word p h = sym (subst (λ text. prop_of text ≡ Some p) h.0 (printed_is_word p h.1))

pub word_missing : (word : List ℕ) → ((p : Prop) → IsPropInRange p → prop_text p ≡ word → ⊥) → None ≡ prop_of word
word_missing word missing = by_answer (prop_of word) refl
  where
    by_answer : (o : Option Prop) → prop_of word ≡ o → None ≡ o
    by_answer None e = refl
    by_answer (Some p) e = absurd (missing p (word_is_in_range word p e) (word_is_printed word p e))

pub word_read : (word : List ℕ) (o : Option Prop) → IfSome o (λ p. (prop_text p ≡ word) × IsPropInRange p)
    → MatchOption o ((p : Prop) → IsPropInRange p → prop_text p ≡ word → ⊥) (λ p. ⊤) → o ≡ prop_of word
word_read word None found missing = word_missing word missing
word_read word (Some p) found missing = word_found word p found
