-- The numbers of places in postorder are those of preorder.
use Rattle.std.proofs.Common.{◌≡◌, ℕ, zero, suc, ◌+◌, inl, inr, List, [], ◌∷◌, ◌++◌, Some, All, Contains}
use Rattle.std.proofs.Common.{slice_get, refl, sym, ap, ◌∙◌, subst, arith}
use Rattle.std.proofs.lemmas.List.Elements.{All-nil, All-cons, All-append, All-weaker}
use Rattle.std.proofs.lemmas.List.Elements.{Contains-append_left, Contains-append_right, Contains-push}
use Rattle.vir_term.specs.Tree.{Tree, leaf, rev, seq, par, loop, size}
use Rattle.vir_simplify.specs.Places.{Place, subterms, subterm_at, postorder, places}
use Rattle.vir_simplify.proofs.Places.{in_first, in_second, either_part, place_below, subterm-whole}

-- Of a list of subterms, of which the first one has the number n, the place is that of one.
abbrev IsOf : ℕ → List Tree → Place → Type 0
IsOf n list place = (i : ℕ) × (place.number ≡ n + i) × (slice_get list i ≡ Some place.subterm)

-- the place of the term itself, which has the number n
own : (n : ℕ) (t : Tree) → All (IsOf n (subterms t)) (record { number = n; subterm = t } ∷ [])
own n t = All-cons (IsOf n (subterms t)) _ [] (0, omega arith, subterm-whole t) (All-nil (IsOf n (subterms t)))

-- the places behind the first one
behind : (n : ℕ) (t : Tree) (list : List Tree) (found : List Place) → All (IsOf (n + 1) list) found
    → All (IsOf n (t ∷ list)) found
behind n t list found all = All-weaker (IsOf (n + 1) list) (IsOf n (t ∷ list))
    (λ place (i, number, at). (suc i, omega arith, at)) found all

-- the places of two parts
of_two : (n : ℕ) (first second : Tree) (some more : List Place) → All (IsOf n (subterms first)) some
    → All (IsOf (n + size first) (subterms second)) more
    → All (IsOf n (subterms first ++ subterms second)) (some ++ more)
of_two n first second some more one other =
    All-append (IsOf n (subterms first ++ subterms second)) some more
    (All-weaker (IsOf n (subterms first)) (IsOf n (subterms first ++ subterms second))
    (λ place (i, number, at). (i, number, in_first first second i (place_below first i place.subterm at) ∙ at)) some
    one)
    (All-weaker (IsOf (n + size first) (subterms second)) (IsOf n (subterms first ++ subterms second))
    (λ place (i, number, at). (size first + i, omega arith, in_second first second (size first + i) i refl ∙ at)) more
    other)

postorder-numbered : (n : ℕ) (t : Tree) → All (IsOf n (subterms t)) (postorder n t)
postorder-numbered n (leaf l) = own n (leaf l)
postorder-numbered n (rev part) = All-append (IsOf n (subterms (rev part))) (postorder (n + 1) part) _
    (behind n (rev part) (subterms part) _ (postorder-numbered (n + 1) part)) (own n (rev part))
postorder-numbered n (seq first second) =
    All-append (IsOf n (subterms (seq first second)))
    (postorder (n + 1) first ++ postorder (n + 1 + size first) second) _
    (behind n (seq first second) (subterms first ++ subterms second) _
    (of_two (n + 1) first second _ _ (postorder-numbered (n + 1) first)
    (postorder-numbered (n + 1 + size first) second)))
    (own n (seq first second))
postorder-numbered n (par first second) =
    All-append (IsOf n (subterms (par first second)))
    (postorder (n + 1) first ++ postorder (n + 1 + size first) second) _
    (behind n (par first second) (subterms first ++ subterms second) _
    (of_two (n + 1) first second _ _ (postorder-numbered (n + 1) first)
    (postorder-numbered (n + 1 + size first) second)))
    (own n (par first second))
postorder-numbered n (loop k body) = All-append (IsOf n (subterms (loop k body))) (postorder (n + 1) body) _
    (behind n (loop k body) (subterms body) _ (postorder-numbered (n + 1) body)) (own n (loop k body))

-- at each place in postorder stands the subterm of that number
pub places-numbered : (t : Tree) → All (λ place. subterm_at t place.number ≡ Some place.subterm) (places t)
places-numbered t = All-weaker (IsOf 0 (subterms t)) (λ (place : Place). subterm_at t place.number ≡ Some place.subterm)
    (λ place (i, number, at). (let same : place.number ≡ i = omega arith in ap (slice_get (subterms t)) same ∙ at))
    (places t) (postorder-numbered 0 t)

-- ---- each subterm has its place
-- a place, under a number that is the same
renumbered : (list : List Place) (a b : ℕ) (old : Tree) → a ≡ b
    → Contains list (record { number = a; subterm = old }) → Contains list (record { number = b; subterm = old })
renumbered list a b old same = subst (λ n. Contains list (record { number = n; subterm = old })) same

-- that of the term itself
itself : (n : ℕ) (t old : Tree) (list : List Place) → subterm_at t 0 ≡ Some old
    → Contains (list ++ record { number = n; subterm = t } ∷ []) (record { number = n + 0; subterm = old })
itself n t old list at =
    let same : Some t ≡ Some old = sym (subterm-whole t) ∙ at in
    let is : t ≡ old = cc in
    renumbered _ n (n + 0) old (omega arith) (subst (λ old. Contains (list ++ record { number = n; subterm = t } ∷ [])
    (record { number = n; subterm = old })) is (Contains-push list (record { number = n; subterm = t })))

-- that of a subterm of the only part
within : (n i : ℕ) (t part old : Tree) → Contains (postorder (n + 1) part) (record {
  number = n + 1 + i;
  subterm =
      old;
}) → Contains (postorder (n + 1) part ++ record { number = n; subterm = t } ∷ [])
    (record { number = n + suc i; subterm = old })
within n i t part old listed = Contains-append_left (postorder (n + 1) part) _ _
    (renumbered (postorder (n + 1) part) (n + 1 + i) (n + suc i) old (omega arith) listed)

-- that of a subterm of the first of two parts
in_some : (n i : ℕ) (first second t old : Tree) → Contains (postorder (n + 1) first) (record {
  number = n + 1 + i;
  subterm = old;
}) → Contains (postorder (n + 1) first ++ postorder (n + 1 + size first) second
    ++ record { number = n; subterm = t } ∷ []) (record { number = n + suc i; subterm = old })
in_some n i first second t old listed =
    Contains-append_left (postorder (n + 1) first ++ postorder (n + 1 + size first) second) _ _
    (Contains-append_left (postorder (n + 1) first) (postorder (n + 1 + size first) second) _
    (renumbered (postorder (n + 1) first) (n + 1 + i) (n + suc i) old (omega arith) listed))

-- that of a subterm of the second
in_more : (n m i : ℕ) (first second t old : Tree) → m ≡ size first + i
    → Contains (postorder (n + 1 + size first) second) (record { number = n + 1 + size first + i; subterm = old })
    → Contains (postorder (n + 1) first ++ postorder (n + 1 + size first) second
    ++ record { number = n; subterm = t } ∷ []) (record { number = n + suc m; subterm = old })
in_more n m i first second t old is listed =
    Contains-append_left (postorder (n + 1) first ++ postorder (n + 1 + size first) second) _ _
    (Contains-append_right (postorder (n + 1) first) (postorder (n + 1 + size first) second) _
    (renumbered (postorder (n + 1 + size first) second) (n + 1 + size first + i) (n + suc m) old (omega arith) listed))

pub postorder-contains : (n : ℕ) (t : Tree) (i : ℕ) (old : Tree) → subterm_at t i ≡ Some old
    → Contains (postorder n t) (record { number = n + i; subterm = old })
postorder-contains n (leaf l) zero old at = itself n (leaf l) old [] at
postorder-contains n (leaf l) (suc i) old at = cc
postorder-contains n (rev part) zero old at = itself n (rev part) old _ at
postorder-contains n (rev part) (suc i) old at = within n i (rev part) part old (postorder-contains (n + 1) part i old
    at)
postorder-contains n (seq first second) zero old at = itself n (seq first second) old _ at
postorder-contains n (seq first second) (suc m) old at = elim (either_part first m) [
  | inl below ↦ in_some n m first second (seq first second) old (postorder-contains (n + 1) first m old
      (sym (in_first first second m below) ∙ at))
  | inr (i, is) ↦ in_more n m i first second (seq first second) old is (postorder-contains (n + 1 + size first) second
      i old (sym (in_second first second m i is) ∙ at))
]
postorder-contains n (par first second) zero old at = itself n (par first second) old _ at
postorder-contains n (par first second) (suc m) old at = elim (either_part first m) [
  | inl below ↦ in_some n m first second (par first second) old (postorder-contains (n + 1) first m old
      (sym (in_first first second m below) ∙ at))
  | inr (i, is) ↦ in_more n m i first second (par first second) old is (postorder-contains (n + 1 + size first) second
      i old (sym (in_second first second m i is) ∙ at))
]
postorder-contains n (loop k body) zero old at = itself n (loop k body) old _ at
postorder-contains n (loop k body) (suc i) old at = within n i (loop k body) body old (postorder-contains (n + 1) body i
    old at)

-- each subterm has its place among those in postorder
pub places-contains : (t : Tree) (i : ℕ) (old : Tree) → subterm_at t i ≡ Some old
    → Contains (places t) (record { number = i; subterm = old })
places-contains t i old at = renumbered (places t) (0 + i) i old (omega arith) (postorder-contains 0 t i old at)
