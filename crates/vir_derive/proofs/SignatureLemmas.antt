-- Signatures with some numbers, from all that is derivable.
use Rattle.std.proofs.Common.{IfOk, ◌≡◌, ◌≢◌, ◌↔◌, ℕ, nat_eq, Bool, true, false, ◌&&◌, if◌then◌else◌, List, Option}
use Rattle.std.proofs.Common.{Some, None, refl, sym, ◌∙◌, ap, subst}
use Rattle.std.proofs.lemmas.Bool.{and_parts, eqb-true, eq-eqb}
use Rattle.std.specs.declared.result.Result.{Result}
use Rattle.std.specs.declared.result.Result.TheVariants.{Ok, Err}
use Rattle.vir_term.specs.declared.leaf.Leaf.{Leaf}
use Rattle.vir_term.specs.declared.leaf.Leaf.TheVariants.{PassFirst, DropFirst}
use Rattle.vir_term.specs.declared.prop.Prop.{Prop}
use Rattle.vir_term.specs.declared.prop.Prop.TheVariants as prop
use Rattle.vir_term.specs.Tree.{Tree}
use Rattle.vir_rules.specs.Claims.{of}
use Rattle.vir_rules.specs.Derivations.{Derivable}
use Rattle.vir_rules.specs.Forms.{Form, form_of, first_part, second_part}
use Rattle.vir_derive.specs.declared.derivable_props.DerivableProps.{DerivableProps}
use Rattle.vir_derive.specs.Heads.{head, opposed, are_opposed}
use Rattle.vir_derive.specs.Numbers.{is_within, is_listed, AreEnough}
use Rattle.vir_derive.specs.DerivableProps.{is_number, has, Tells, TellsWithin, IsSeenWithin}
use Rattle.vir_derive.proofs.Rows.{no_true}
use Rattle.vir_derive.specs.declared.term_signature.Signature.{Signature}
use Rattle.vir_derive.specs.KeptHeads.{head_seen}
use Rattle.vir_derive.specs.Signatures.{numbers_of, has_prop, head_of, IsSignatureOf}

pub kept_none : (number : Option ℕ) (j : ℕ) (numbers : List ℕ) → number ≡ Some j → is_listed numbers j ≡ false → (k : ℕ)
    → (None ≡ Some k) ↔ ((number ≡ Some k) × (is_listed numbers k ≡ true))
kept_none number j numbers e f k =
    ((λ h. cc), (λ p. (let s : j ≡ k = cc in no_true (sym f ∙ (ap (is_listed numbers) s ∙ p.1)))))

number_is : (o : Option ℕ) (k : ℕ) → (is_number o k ≡ true) ↔ (o ≡ Some k)
number_is None k = ((λ h. no_true h), (λ e. cc))
number_is (Some j) k = ((λ h. ap Some (eqb-true j k h)), (λ e. eq-eqb j k cc))

-- A number that is kept is one of these and was there.
Keeps : (ℕ → Bool) → Option ℕ → Option ℕ → Type 0
Keeps numbers old new = (k : ℕ) → (new ≡ Some k) ↔ ((old ≡ Some k) × (numbers k ≡ true))

number_kept : (numbers : ℕ → Bool) (old new : Option ℕ)
    → ((k : ℕ) → (new ≡ Some k) ↔ ((old ≡ Some k) × (numbers k ≡ true))) → (k : ℕ) → (is_number new k ≡ true)
    ↔ ((numbers k ≡ true) × (is_number old k ≡ true))
number_kept numbers old new keeps k = (
  (λ h. (let p = (keeps k).0 ((number_is new k).0 h) in (p.1, (number_is old k).1 p.0))),
  (λ p. (number_is new k).1 ((keeps k).1 ((number_is old k).0 p.1, p.0))),
)

module _ (numbers : ℕ → Bool) (enough : AreEnough numbers) (s : DerivableProps) (d r : Option ℕ) (o : d ≢ Some 1)
    (ds : (k : ℕ) → (d ≡ Some k) ↔ ((s.defers_other ≡ Some k) × (numbers k ≡ true))) (rs : (k : ℕ) → (r ≡ Some k)
    ↔ ((s.rejects ≡ Some k) × (numbers k ≡ true))) where
  at_one : (k : ℕ) → nat_eq k 1 ≡ true → numbers k ≡ true
  at_one k e = ap numbers (eqb-true k 1 e) ∙ enough.0

  defers_kept : (k : ℕ) (b : Bool) → nat_eq k 1 ≡ b → ((if b then s.defers_one else is_number d k) ≡ true)
      ↔ ((numbers k ≡ true) × ((if b then s.defers_one else is_number s.defers_other k) ≡ true))
  defers_kept k true e = ((λ h. (at_one k e, h)), (λ p. p.1))
  defers_kept k false e = number_kept numbers s.defers_other d ds k

  elim_kept : (k : ℕ) → ((nat_eq k 1 && s.elim_one) ≡ true) ↔ ((numbers k ≡ true) × ((nat_eq k 1 && s.elim_one) ≡ true))
  elim_kept k = ((λ h. (at_one k (and_parts (nat_eq k 1) s.elim_one h).0, h)), (λ p. p.1))

  pub restricted_has : (q : Prop) → (has (record s { defers_other = d; rejects = r; other = o }) q ≡ true)
      ↔ ((is_within numbers q ≡ true) × (has s q ≡ true))
  restricted_has (prop.Defers k) = defers_kept k (nat_eq k 1) refl
  restricted_has (prop.Rejects k) = number_kept numbers s.rejects r rs k
  restricted_has (prop.Elim k) = elim_kept k
  restricted_has _ = ((λ h. (refl, h)), (λ p. p.1))

tells_within : (numbers : List ℕ) (s : Signature) (t : Tree) → IsSignatureOf numbers s t
    → TellsWithin (is_listed numbers) s.props t
tells_within numbers s t h q w = ((λ b. ((h.has_are q).0 b).1), (λ d. (h.has_are q).1 (w, d)))

pub parts_seen : (numbers : List ℕ) (form : Form) (first second : Signature) (opposed : Bool) (t : Tree) → form_of t
    ≡ form → IsSignatureOf numbers first (first_part t) → IsSignatureOf numbers second (second_part t) → opposed
    ≡ are_opposed (first_part t) (second_part t) →
    IsSeenWithin (is_listed numbers) form first.props second.props opposed t
parts_seen numbers form first second opposed t e h k o = record {
  form_is = e;
  first_tells = λ _. tells_within numbers first (first_part t) h;
  second_tells = λ _. tells_within numbers second (second_part t) k;
  opposed_is = λ _. o;
}

-- what is restricted of what tells of a term
pub restricted_tells : (numbers : ℕ → Bool) (whole part : DerivableProps) (t : Tree) → TellsWithin numbers whole t
    → ((q : Prop) → (has part q ≡ true) ↔ ((is_within numbers q ≡ true) × (has whole q ≡ true))) →
    (q : Prop) → (has part q ≡ true) ↔ ((is_within numbers q ≡ true) × Derivable (of q t))
restricted_tells numbers whole part t tells keeps q = (
  (λ h. (let p = (keeps q).0 h in (p.0, (tells q p.0).0 p.1))),
  (λ p. (keeps q).1 (p.0, (tells q p.0).1 p.1)),
)

opposed_self : (l : Option Leaf) → opposed l l ≡ false
opposed_self (Some (PassFirst k order)) = refl
opposed_self (Some (DropFirst k order)) = refl
opposed_self _ = refl

pub never_opposed : (t : Tree) → false ≡ are_opposed t t
never_opposed t = sym (opposed_self (head t))

pub heads_opposed : (numbers : List ℕ) (m n : Signature) (t u : Tree) (b : Bool) → IsSignatureOf numbers m t
    → IsSignatureOf numbers n u → b ≡ opposed (head_seen m.head) (head_seen n.head) → b ≡ are_opposed t u
heads_opposed numbers m n t u b h k e = e ∙ (ap (λ x. opposed x (head_seen n.head)) h.head_is ∙ ap (opposed (head t))
    k.head_is)

pub ok_maps : {A E : Type 0} (P Q : A → Type 0) (r : Result A E) → IfOk r P → ((x : A) → P x → Q x) → IfOk r Q
ok_maps P Q (Ok x) h f = f x h
ok_maps P Q (Err e) h f = tt

pub composed_of : (numbers : List ℕ) (form : Form) (first second s : Signature) (whole : DerivableProps) (b : Bool)
    (kept : Option Leaf) (t : Tree) → form_of t ≡ form → IsSignatureOf numbers first (first_part t)
    → IsSignatureOf numbers second (second_part t) → b ≡ are_opposed (first_part t) (second_part t) → kept ≡ head t →
    ((numbers : ℕ → Bool) → AreEnough numbers → (term : Tree) → IsSeenWithin numbers form first.props second.props b
    term → TellsWithin numbers whole term) →
    numbers_of s ≡ numbers_of first → head_of s ≡ kept → ((q : Prop) → (has_prop s q ≡ true)
    ↔ ((is_within (is_listed (numbers_of first)) q ≡ true) × (has whole q ≡ true))) → IsSignatureOf numbers s t
composed_of numbers form first second s whole b kept t e h k o hd tells same same_head keeps = record {
  numbers_are = same ∙ h.numbers_are;
  enough = h.enough;
  has_are = restricted_tells (is_listed numbers) whole s.props t (tells (is_listed numbers) h.enough t
      (parts_seen numbers form first second b t e h k o))
      (subst (λ ns. (q : Prop) → (has_prop s q ≡ true) ↔ ((is_within (is_listed ns) q ≡ true) × (has whole q ≡ true)))
      h.numbers_are keeps);
  head_is = same_head ∙ hd;
}

pub signature_of : (numbers : List ℕ) (s : Signature) (whole : DerivableProps) (t : Tree)
    → AreEnough (is_listed numbers) → Tells whole t → numbers_of s ≡ numbers → head_of s ≡ head t
    → ((q : Prop) → (has_prop s q ≡ true) ↔ ((is_within (is_listed numbers) q ≡ true) × (has whole q ≡ true)))
    → IsSignatureOf numbers s t
signature_of numbers s whole t enough tells same same_head keeps = record {
  numbers_are = same;
  enough = enough;
  has_are = restricted_tells (is_listed numbers) whole s.props t (λ q w. tells q) keeps;
  head_is = same_head;
}

pub copied : (numbers : List ℕ) (s r : Signature) (t : Tree) → numbers_of r ≡ numbers_of s
    → ((q : Prop) → has_prop r q ≡ has_prop s q) → head_of r ≡ head_of s → IsSignatureOf numbers s t
    → IsSignatureOf numbers r t
copied numbers s r t same props heads h = record {
  numbers_are = same ∙ h.numbers_are;
  enough = h.enough;
  has_are = λ q. ((λ b. (h.has_are q).0 (sym (props q) ∙ b)), (λ p. props q ∙ (h.has_are q).1 p));
  head_is = heads ∙ h.head_is;
}

-- a signature tells of its term
pub signature_tells : (numbers : List ℕ) (s : Signature) (t : Tree) → IsSignatureOf numbers s t
    → TellsWithin (is_listed numbers) s.props t
signature_tells = tells_within
