-- Equal signatures say the same, and signatures that say the same are equal.
use Rattle.std.proofs.Common.{◌≡◌, ◌≢◌, ◌⊎◌, inl, inr, ℕ, zero, suc, nat_eq, Bool, true, false, ◌&&◌, if◌then◌else◌}
use Rattle.std.proofs.Common.{List, [], ◌∷◌, Option, Some, None, refl, sym, ◌∙◌, ap, subst}
use Rattle.std.proofs.lemmas.Bool.{and_parts, eqb-true, eq-eqb}
use mathlib.Core.Bool.{beq}
use Rattle.std.specs.Option.{option_eq}
use Rattle.std.specs.Cmp.Lexicographic.{pointwise}
use Rattle.vir_term.specs.declared.leaf.Leaf.TheVariants.{PassFirst, DropFirst}
use Rattle.vir_term.specs.declared.prop.Prop.{Prop}
use Rattle.vir_term.specs.declared.prop.Prop.TheVariants as prop
use Rattle.vir_term.specs.Tree.{Tree}
use Rattle.vir_derive.specs.declared.derivable_props.DerivableProps.{DerivableProps}
use Rattle.vir_derive.specs.contracts.derivable_props.DerivablePropsPartialEq.TheImpl as props_eq
use Rattle.vir_derive.specs.DerivableProps.{has, is_number}
use Rattle.vir_derive.proofs.Rows.{no_true}
use Rattle.vir_derive.specs.declared.kept_head.Head.{Head}
use Rattle.vir_derive.specs.contracts.kept_head.HeadPartialEq.TheImpl as head_eq
use Rattle.vir_derive.specs.declared.term_signature.Signature.{Signature}
use Rattle.vir_derive.specs.KeptHeads.{module_of, head_seen}
use Rattle.vir_derive.specs.Signatures.{IsSignatureOf, SayTheSame, are_equal}
use Rattle.vir_derive.proofs.SignatureLemmas.{copied}

same_props : DerivableProps → DerivableProps → Bool
same_props = (props_eq.ghosts).eq

same_head : Head → Head → Bool
same_head = (head_eq.ghosts).eq

-- whether all of a list of answers are yes
abbrev and_all : List Bool → Bool
and_all [] = true
and_all (a ∷ []) = a
and_all (a ∷ b ∷ rest) = a && and_all (b ∷ rest)

abbrev nth_answer : List Bool → ℕ → Bool
nth_answer [] i = true
nth_answer (a ∷ rest) zero = a
nth_answer (a ∷ rest) (suc i) = nth_answer rest i

nth_true : (answers : List Bool) (i : ℕ) → and_all answers ≡ true → nth_answer answers i ≡ true
nth_true [] i e = refl
nth_true (a ∷ []) zero e = e
nth_true (a ∷ []) (suc i) e = refl
nth_true (a ∷ b ∷ rest) zero e = (and_parts a (and_all (b ∷ rest)) e).0
nth_true (a ∷ b ∷ rest) (suc i) e = nth_true (b ∷ rest) i (and_parts a (and_all (b ∷ rest)) e).1

bool_same : (a b : Bool) → beq a b ≡ true → a ≡ b
bool_same true true e = refl
bool_same false false e = refl
bool_same true false e = no_true e
bool_same false true e = no_true e

number_same : (a b : Option ℕ) → option_eq nat_eq a b ≡ true → a ≡ b
number_same None None e = refl
number_same (Some j) (Some k) e = ap (λ n. Some n) (eqb-true j k e)
number_same None (Some k) e = no_true e
number_same (Some j) None e = no_true e

list_same : (xs ys : List ℕ) → pointwise nat_eq xs ys ≡ true → xs ≡ ys
list_same [] [] e = refl
list_same (x ∷ xs) (y ∷ ys) e = let p = and_parts (nat_eq x y) (pointwise nat_eq xs ys) e
    in ap (λ z. z ∷ xs) (eqb-true x y p.0) ∙ ap (λ zs. y ∷ zs) (list_same xs ys p.1)
list_same [] (y ∷ ys) e = no_true e
list_same (x ∷ xs) [] e = no_true e

answers : DerivableProps → DerivableProps → List Bool
answers s r = beq s.ne r.ne ∷ beq s.ea r.ea ∷ beq s.el r.el ∷ beq s.defers_one r.defers_one
    ∷ option_eq nat_eq s.defers_other r.defers_other ∷ option_eq nat_eq s.rejects r.rejects ∷ beq s.elim_one r.elim_one
    ∷ beq s.nb r.nb ∷ beq s.decr r.decr ∷ beq s.dli r.dli ∷ beq s.imono r.imono ∷ beq s.dimono r.dimono
    ∷ beq s.dmono r.dmono ∷ beq s.mono r.mono ∷ beq s.cc r.cc ∷ beq s.dcc r.dcc ∷ beq s.cprog r.cprog
    ∷ beq s.ccomp r.ccomp ∷ beq s.neut r.neut ∷ []

module _ (s r : DerivableProps) (e : same_props s r ≡ true) where
  all_yes : and_all (answers s r) ≡ true
  unfolding same_props answers
  all_yes = e

  ne_same : s.ne ≡ r.ne
  unfolding answers
  ne_same = bool_same s.ne r.ne (nth_true (answers s r) 0 all_yes)

  ea_same : s.ea ≡ r.ea
  unfolding answers
  ea_same = bool_same s.ea r.ea (nth_true (answers s r) 1 all_yes)

  el_same : s.el ≡ r.el
  unfolding answers
  el_same = bool_same s.el r.el (nth_true (answers s r) 2 all_yes)

  defers_one_same : s.defers_one ≡ r.defers_one
  unfolding answers
  defers_one_same = bool_same s.defers_one r.defers_one (nth_true (answers s r) 3 all_yes)

  defers_other_same : s.defers_other ≡ r.defers_other
  unfolding answers
  defers_other_same = number_same s.defers_other r.defers_other (nth_true (answers s r) 4 all_yes)

  rejects_same : s.rejects ≡ r.rejects
  unfolding answers
  rejects_same = number_same s.rejects r.rejects (nth_true (answers s r) 5 all_yes)

  elim_one_same : s.elim_one ≡ r.elim_one
  unfolding answers
  elim_one_same = bool_same s.elim_one r.elim_one (nth_true (answers s r) 6 all_yes)

  nb_same : s.nb ≡ r.nb
  unfolding answers
  nb_same = bool_same s.nb r.nb (nth_true (answers s r) 7 all_yes)

  decr_same : s.decr ≡ r.decr
  unfolding answers
  decr_same = bool_same s.decr r.decr (nth_true (answers s r) 8 all_yes)

  dli_same : s.dli ≡ r.dli
  unfolding answers
  dli_same = bool_same s.dli r.dli (nth_true (answers s r) 9 all_yes)

  imono_same : s.imono ≡ r.imono
  unfolding answers
  imono_same = bool_same s.imono r.imono (nth_true (answers s r) 10 all_yes)

  dimono_same : s.dimono ≡ r.dimono
  unfolding answers
  dimono_same = bool_same s.dimono r.dimono (nth_true (answers s r) 11 all_yes)

  dmono_same : s.dmono ≡ r.dmono
  unfolding answers
  dmono_same = bool_same s.dmono r.dmono (nth_true (answers s r) 12 all_yes)

  mono_same : s.mono ≡ r.mono
  unfolding answers
  mono_same = bool_same s.mono r.mono (nth_true (answers s r) 13 all_yes)

  cc_same : s.cc ≡ r.cc
  unfolding answers
  cc_same = bool_same s.cc r.cc (nth_true (answers s r) 14 all_yes)

  dcc_same : s.dcc ≡ r.dcc
  unfolding answers
  dcc_same = bool_same s.dcc r.dcc (nth_true (answers s r) 15 all_yes)

  cprog_same : s.cprog ≡ r.cprog
  unfolding answers
  cprog_same = bool_same s.cprog r.cprog (nth_true (answers s r) 16 all_yes)

  ccomp_same : s.ccomp ≡ r.ccomp
  unfolding answers
  ccomp_same = bool_same s.ccomp r.ccomp (nth_true (answers s r) 17 all_yes)

  neut_same : s.neut ≡ r.neut
  unfolding answers
  neut_same = bool_same s.neut r.neut (nth_true (answers s r) 18 all_yes)

  defers_same : (b : Bool) (k : ℕ) → (if b then s.defers_one else is_number s.defers_other k)
      ≡ (if b then r.defers_one else is_number r.defers_other k)
  defers_same true k = defers_one_same
  defers_same false k = ap (λ o. is_number o k) defers_other_same

  has_same : (q : Prop) → has s q ≡ has r q
  has_same prop.Ne = ne_same
  has_same prop.Ea = ea_same
  has_same prop.El = el_same
  has_same prop.Nb = nb_same
  has_same prop.Decr = decr_same
  has_same prop.Dli = dli_same
  has_same prop.Imono = imono_same
  has_same prop.Dimono = dimono_same
  has_same prop.Dmono = dmono_same
  has_same prop.Mono = mono_same
  has_same prop.Cc = cc_same
  has_same prop.Dcc = dcc_same
  has_same prop.Cprog = cprog_same
  has_same prop.Ccomp = ccomp_same
  has_same prop.Neut = neut_same
  has_same (prop.Defers k) = defers_same (nat_eq k 1) k
  has_same (prop.Rejects k) = ap (λ o. is_number o k) rejects_same
  has_same (prop.Elim k) = ap (λ b. nat_eq k 1 && b) elim_one_same

module_same : (s r : Head) → same_head s r ≡ true → module_of s ≡ module_of r
unfolding same_head
module_same s r e =
    let p = and_parts (beq s.passes r.passes) (nat_eq s.k r.k && pointwise nat_eq s.order.items r.order.items) e in
    let q = and_parts (nat_eq s.k r.k) (pointwise nat_eq s.order.items r.order.items) p.1 in
    let passes : s.passes ≡ r.passes = bool_same s.passes r.passes p.0 in
    let number : s.k ≡ r.k = eqb-true s.k r.k q.0 in
    let order : s.order.items ≡ r.order.items = list_same s.order.items r.order.items q.1 in
    rw (passes, number, order) refl

heads_same : (s r : Option Head) → option_eq same_head s r ≡ true → head_seen s ≡ head_seen r
heads_same None None e = refl
heads_same (Some s) (Some r) e = ap (λ l. Some l) (module_same s r e)
heads_same None (Some r) e = no_true e
heads_same (Some s) None e = no_true e

-- ---- equal signatures say the same

pub equal_say_the_same : (s r : Signature) → are_equal s r ≡ true → SayTheSame s r
unfolding same_props same_head
equal_say_the_same s r e =
    let p = and_parts (pointwise nat_eq s.numbers.items r.numbers.items) (same_props s.props r.props
    && option_eq same_head s.head r.head) e in
    let q = and_parts (same_props s.props r.props) (option_eq same_head s.head r.head) p.1 in
    record {
      numbers_same = list_same s.numbers.items r.numbers.items p.0;
      props_same = has_same s.props r.props q.0;
      head_same = heads_same s.head r.head q.1;
    }

-- equal signatures are signatures of the same terms
pub equal_signs : (numbers : List ℕ) (s r : Signature) (t : Tree) → are_equal s r ≡ true → IsSignatureOf numbers s t
    → IsSignatureOf numbers r t
equal_signs numbers s r t e h =
    let same = equal_say_the_same s r e in
    copied numbers s r t (sym same.numbers_same) (λ q. sym (same.props_same q)) (sym same.head_same) h

-- ---- signatures that say the same are equal

both : (a b : Bool) → a ≡ true → b ≡ true → (a && b) ≡ true
both true true h k = refl
both true false h k = k
both false b h k = h

beq_same : (a b : Bool) → a ≡ b → beq a b ≡ true
beq_same true true e = refl
beq_same false false e = refl
beq_same true false e = no_true (sym e)
beq_same false true e = no_true e

list_itself : (xs : List ℕ) → pointwise nat_eq xs xs ≡ true
list_itself [] = refl
list_itself (x ∷ xs) = both (nat_eq x x) (pointwise nat_eq xs xs) (eq-eqb x x refl) (list_itself xs)

list_equal : (xs ys : List ℕ) → xs ≡ ys → pointwise nat_eq xs ys ≡ true
list_equal xs ys e = subst (λ zs. pointwise nat_eq xs zs ≡ true) e (list_itself xs)

-- numbers that pass the same tests are one, where neither is 1 or 1 is tested too
number_equal : (a b : Option ℕ) → ((k : ℕ) → (a ≡ Some k) ⊎ (b ≡ Some k) → is_number a k ≡ is_number b k)
    → option_eq nat_eq a b ≡ true
number_equal None None same = refl
number_equal (Some j) None same = sym (same j (inl refl)) ∙ eq-eqb j j refl
number_equal None (Some k) same = same k (inr refl) ∙ eq-eqb k k refl
number_equal (Some j) (Some k) same = eq-eqb j k (sym (eqb-true k j (sym (same j (inl refl)) ∙ eq-eqb j j refl)))

chosen_at : (b x y x' y' : Bool) → b ≡ false → (if b then x else y) ≡ (if b then x' else y') → y ≡ y'
chosen_at true x y x' y' h e = no_true (sym h)
chosen_at false x y x' y' h e = e

not_one : (a : Option ℕ) (k : ℕ) → a ≢ Some 1 → a ≡ Some k → (b : Bool) → nat_eq k 1 ≡ b → nat_eq k 1 ≡ false
not_one a k other e false h = h
not_one a k other e true h = absurd (other (e ∙ ap (λ j. Some j) (eqb-true k 1 h)))

module _ (s r : DerivableProps) (h : (q : Prop) → has s q ≡ has r q) where
  other_tested : (k : ℕ) → (s.defers_other ≡ Some k) ⊎ (r.defers_other ≡ Some k) → is_number s.defers_other k
      ≡ is_number r.defers_other k
  other_tested k (inl e) = chosen_at (nat_eq k 1) s.defers_one (is_number s.defers_other k) r.defers_one
      (is_number r.defers_other k) (not_one s.defers_other k s.other e (nat_eq k 1) refl) (h (prop.Defers k))
  other_tested k (inr e) = chosen_at (nat_eq k 1) s.defers_one (is_number s.defers_other k) r.defers_one
      (is_number r.defers_other k) (not_one r.defers_other k r.other e (nat_eq k 1) refl) (h (prop.Defers k))

  props_equal : same_props s r ≡ true
  unfolding same_props
  props_equal =
      both _ _ (beq_same s.ne r.ne (h prop.Ne)) (both _ _ (beq_same s.ea r.ea (h prop.Ea))
      (both _ _ (beq_same s.el r.el (h prop.El)) (
      both _ _ (beq_same s.defers_one r.defers_one (h (prop.Defers 1)))
      (both _ _ (number_equal s.defers_other r.defers_other other_tested) (
      both _ _ (number_equal s.rejects r.rejects (λ k _. h (prop.Rejects k)))
      (both _ _ (beq_same s.elim_one r.elim_one (h (prop.Elim 1))) (
      both _ _ (beq_same s.nb r.nb (h prop.Nb)) (both _ _ (beq_same s.decr r.decr (h prop.Decr))
      (both _ _ (beq_same s.dli r.dli (h prop.Dli)) (
      both _ _ (beq_same s.imono r.imono (h prop.Imono)) (both _ _ (beq_same s.dimono r.dimono (h prop.Dimono)) (
      both _ _ (beq_same s.dmono r.dmono (h prop.Dmono)) (both _ _ (beq_same s.mono r.mono (h prop.Mono)) (
      both _ _ (beq_same s.cc r.cc (h prop.Cc)) (both _ _ (beq_same s.dcc r.dcc (h prop.Dcc)) (
      both _ _ (beq_same s.cprog r.cprog (h prop.Cprog)) (both _ _ (beq_same s.ccomp r.ccomp (h prop.Ccomp))
      (beq_same s.neut r.neut (h prop.Neut)))))))))))))))))))

module_equal : (p q : Bool) (k j : ℕ) (xs ys : List ℕ) → (if p then PassFirst k xs else DropFirst k xs)
    ≡ (if q then PassFirst j ys else DropFirst j ys) → (beq p q && (nat_eq k j && pointwise nat_eq xs ys)) ≡ true
module_equal true true k j xs ys e = both _ _ refl (both _ _ (eq-eqb k j cc) (list_equal xs ys cc))
module_equal false false k j xs ys e = both _ _ refl (both _ _ (eq-eqb k j cc) (list_equal xs ys cc))
module_equal true false k j xs ys e = cc
module_equal false true k j xs ys e = cc

heads_equal : (s r : Option Head) → head_seen s ≡ head_seen r → option_eq same_head s r ≡ true
unfolding same_head
heads_equal None None e = refl
heads_equal (Some s) (Some r) e = module_equal s.passes r.passes s.k r.k s.order.items r.order.items (inside e) where
  inside : Some (module_of s) ≡ Some (module_of r) → module_of s ≡ module_of r
  inside e = cc
heads_equal None (Some r) e = cc
heads_equal (Some s) None e = cc

pub same_are_equal : (s r : Signature) → SayTheSame s r → are_equal s r ≡ true
unfolding same_props same_head
same_are_equal s r same =
    both _ _ (list_equal s.numbers.items r.numbers.items same.numbers_same)
    (both _ _ (props_equal s.props r.props same.props_same) (heads_equal s.head r.head same.head_same))
