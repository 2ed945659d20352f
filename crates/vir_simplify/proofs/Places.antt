-- Subterms at places, and terms in which one is replaced.
use Rattle.std.proofs.Common.{◌≡◌, ℕ, zero, suc, ◌+◌, ◌-◌, ◌<◌, ◌⊎◌, inl, inr, true, false, List, [], ◌∷◌}
use Rattle.std.proofs.Common.{◌++◌, length, Some, slice_get, nat_lt, if◌then◌else◌, length-append, refl}
use Rattle.std.proofs.Common.{sym, ap, ◌∙◌, subst, arith}
use Rattle.std.proofs.lemmas.Bool.{cases_lt}
use Rattle.std.proofs.lemmas.Bool.Decides.{nat_tests}
use Rattle.std.proofs.lemmas.Option.{slice_get_within}
use Rattle.vir_term.specs.Tree.{Tree, leaf, rev, seq, par, loop, End, size}
use Rattle.vir_simplify.specs.Places.{subterms, subterm_at, replaced}

-- ---- two lists behind one another
get-left : {A : Type 0} (xs ys : List A) (i : ℕ) → i < length xs → slice_get (xs ++ ys) i ≡ slice_get xs i
get-left [] ys i inside = absurd (omega arith)
get-left (x ∷ xs) ys zero inside = refl
get-left (x ∷ xs) ys (suc i) inside = get-left xs ys i (omega arith)

get-right : {A : Type 0} (xs ys : List A) (n i : ℕ) → n ≡ length xs + i → slice_get (xs ++ ys) n ≡ slice_get ys i
get-right [] ys n i at = ap (slice_get ys) (omega arith)
get-right (x ∷ xs) ys zero i at = absurd (omega arith)
get-right (x ∷ xs) ys (suc n) i at = get-right xs ys n i (omega arith)

-- ---- places
-- a term has as many subterms as its size tells
pub length-subterms : (t : Tree) → length (subterms t) ≡ size t
length-subterms (leaf l) = refl
length-subterms (rev part) = omega (arith, length-subterms part)
length-subterms (seq first second) =
    omega (arith, length-append (subterms first) (subterms second), length-subterms first, length-subterms second)
length-subterms (par first second) =
    omega (arith, length-append (subterms first) (subterms second), length-subterms first, length-subterms second)
length-subterms (loop k body) = omega (arith, length-subterms body)

-- a place that has a subterm is below the size
pub place_below : (t : Tree) (i : ℕ) (old : Tree) → subterm_at t i ≡ Some old → i < size t
place_below t i old at = omega (arith, slice_get_within (subterms t) i old at, length-subterms t)

-- at place 0 stands the term itself
pub subterm-whole : (t : Tree) → subterm_at t 0 ≡ Some t
subterm-whole (leaf l) = refl
subterm-whole (rev part) = refl
subterm-whole (seq first second) = refl
subterm-whole (par first second) = refl
subterm-whole (loop k body) = refl

pub replaced-whole : (t new : Tree) → replaced t 0 new ≡ new
replaced-whole (leaf l) new = refl
replaced-whole (rev part) new = refl
replaced-whole (seq first second) new = refl
replaced-whole (par first second) new = refl
replaced-whole (loop k body) new = refl

-- ---- two parts
-- the places of the first part
pub in_first : (first second : Tree) (i : ℕ) → i < size first
    → slice_get (subterms first ++ subterms second) i ≡ subterm_at first i
in_first first second i inside = get-left (subterms first) (subterms second) i (omega (arith, length-subterms first))

-- and those of the second
pub in_second : (first second : Tree) (n i : ℕ) → n ≡ size first + i
    → slice_get (subterms first ++ subterms second) n ≡ subterm_at second i
in_second first second n i at = get-right (subterms first) (subterms second) n i (omega (arith, length-subterms first))

-- what is put into the first part
pub put_first : (op : Tree → Tree → Tree) (first second new : Tree) (i : ℕ) → i < size first
    → (if nat_lt i (size first) then op (replaced first i new) second
    else op first (replaced second (i - size first) new)) ≡ op (replaced first i new) second
put_first op first second new i inside = ap (λ b. if b then op (replaced first i new) second
    else op first (replaced second (i - size first) new)) (test i (size first) inside)
  where
    test : (a b : ℕ) → a < b → nat_lt a b ≡ true
    test a b below = grind (arith, nat_tests)

-- and into the second
pub put_second : (op : Tree → Tree → Tree) (first second new : Tree) (n i : ℕ) → n ≡ size first + i
    → (if nat_lt n (size first) then op (replaced first n new) second
    else op first (replaced second (n - size first) new)) ≡ op first (replaced second i new)
put_second op first second new n i at =
    ap (λ b. if b then op (replaced first n new) second
    else op first (replaced second (n - size first) new)) (test n (size first) i at)
    ∙ ap (λ j. op first (replaced second j new)) (less n (size first) i at)
  where
    test : (a b c : ℕ) → a ≡ b + c → nat_lt a b ≡ false
    test a b c at = grind (arith, nat_tests)

    less : (a b c : ℕ) → a ≡ b + c → a - b ≡ c
    less a b c at = omega arith

-- a place of two parts is in the first, or in the second
pub either_part : (first : Tree) (n : ℕ) → (n < size first) ⊎ ((i : ℕ) × (n ≡ size first + i))
either_part first n = elim (cases_lt n (size first)) [
  | inl below ↦ inl below
  | inr above ↦ inr (n - size first, omega arith)
]

-- A relation of terms that goes over from the parts to the whole holds of a term and what it becomes, where it holds of
-- a subterm and what that becomes.
module _ (R : Tree → Tree → Type 0)
    (of_rev : (t u : Tree) → R t u → R (rev t) (rev u))
    (of_seq_first : (t u other : Tree) → R t u → R (seq t other) (seq u other))
    (of_seq_second : (other t u : Tree) → R t u → R (seq other t) (seq other u))
    (of_par_first : (t u other : Tree) → R t u → R (par t other) (par u other))
    (of_par_second : (other t u : Tree) → R t u → R (par other t) (par other u))
    (of_loop : (k : End) (t u : Tree) → R t u → R (loop k t) (loop k u)) where
  whole : (t old new : Tree) → subterm_at t 0 ≡ Some old → R old new → R t (replaced t 0 new)
  whole t old new at holds =
      let same : Some t ≡ Some old = sym (subterm-whole t) ∙ at in
      let is : old ≡ t = cc in
      subst (R t) (sym (replaced-whole t new)) (subst (λ t. R t new) is holds)

  pub by_subterm : (t : Tree) (i : ℕ) (old new : Tree) → subterm_at t i ≡ Some old → R old new → R t (replaced t i new)
  by_subterm (leaf l) zero old new at holds = whole (leaf l) old new at holds
  by_subterm (leaf l) (suc i) old new at holds = cc
  by_subterm (rev part) zero old new at holds = whole (rev part) old new at holds
  by_subterm (rev part) (suc i) old new at holds = of_rev _ _ (by_subterm part i old new at holds)
  by_subterm (seq first second) zero old new at holds = whole (seq first second) old new at holds
  by_subterm (seq first second) (suc n) old new at holds = elim (either_part first n) [
    | inl below ↦ subst (R (seq first second)) (sym (put_first seq first second new n below))
        (of_seq_first first _ second (by_subterm first n old new (sym (in_first first second n below) ∙ at) holds))
    | inr (i, is) ↦ subst (R (seq first second)) (sym (put_second seq first second new n i is))
        (of_seq_second first second _ (by_subterm second i old new (sym (in_second first second n i is) ∙ at) holds))
  ]
  by_subterm (par first second) zero old new at holds = whole (par first second) old new at holds
  by_subterm (par first second) (suc n) old new at holds = elim (either_part first n) [
    | inl below ↦ subst (R (par first second)) (sym (put_first par first second new n below))
        (of_par_first first _ second (by_subterm first n old new (sym (in_first first second n below) ∙ at) holds))
    | inr (i, is) ↦ subst (R (par first second)) (sym (put_second par first second new n i is))
        (of_par_second first second _ (by_subterm second i old new (sym (in_second first second n i is) ∙ at) holds))
  ]
  by_subterm (loop k body) zero old new at holds = whole (loop k body) old new at holds
  by_subterm (loop k body) (suc i) old new at holds = of_loop k _ _ (by_subterm body i old new at holds)
