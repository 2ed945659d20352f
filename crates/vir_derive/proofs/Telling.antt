-- The derivable properties tell of a term, where each field does.
use Rattle.std.proofs.Common.{◌≡◌, ◌↔◌, ℕ, nat_eq, Bool, true, false, ◌&&◌, if◌then◌else◌, Option, refl, sym, ◌∙◌}
use Rattle.std.proofs.Common.{subst}
use Rattle.std.proofs.lemmas.Bool.{eqb-true, eq-eqb}
use Rattle.vir_term.specs.declared.leaf.Leaf.{Leaf}
use Rattle.vir_term.specs.declared.prop.Prop.{Prop}
use Rattle.vir_term.specs.declared.prop.Prop.TheVariants.{Ne, Ea, El, Defers, Rejects, Elim, Nb, Decr, Dli, Imono}
use Rattle.vir_term.specs.declared.prop.Prop.TheVariants.{Dimono, Dmono, Mono, Cc, Dcc, Cprog, Ccomp, Neut}
use Rattle.vir_term.specs.Tree.{Tree, leaf}
use Rattle.vir_rules.specs.Claims.{of}
use Rattle.vir_rules.specs.Derivations.{Derivable}
use Rattle.vir_rules.specs.Forms as form
use Rattle.vir_derive.specs.declared.derivable_props.DerivableProps.{DerivableProps}
use Rattle.vir_derive.specs.Numbers.{is_within, every}
use Rattle.vir_derive.specs.DerivableProps.{is_number, Tells, TellsWithin, IsSeen, IsSeenWithin}
use Rattle.vir_derive.proofs.Numbers.{elim_number}
use Rattle.vir_derive.proofs.Rows.{no_true}

-- A test says of a term that the property is derivable.
abbrev TellsOf : Tree → Prop → Bool → Type 0
TellsOf t q b = (b ≡ true) ↔ Derivable (of q t)

defers_told : (t : Tree) (k : ℕ) (b one : Bool) (other : Option ℕ) → nat_eq k 1 ≡ b → TellsOf t (Defers 1) one
    → (nat_eq k 1 ≡ false → TellsOf t (Defers k) (is_number other k)) →
    TellsOf t (Defers k) (if b then one else is_number other k)
defers_told t k true one other e tells others = subst (λ j. TellsOf t (Defers j) one) (sym (eqb-true k 1 e)) tells
defers_told t k false one other e tells others = others e

elim_told : (t : Tree) (k : ℕ) (b one : Bool) → nat_eq k 1 ≡ b → TellsOf t (Elim 1) one → TellsOf t (Elim k) (b && one)
elim_told t k true one e tells = subst (λ j. TellsOf t (Elim j) one) (sym (eqb-true k 1 e)) tells
elim_told t k false one e tells = ((λ h. no_true h), (λ d. sym e ∙ eq-eqb k 1 (elim_number t k d)))

module _ (numbers : ℕ → Bool) (s : DerivableProps) (t : Tree) (ne : TellsOf t Ne s.ne) (ea : TellsOf t Ea s.ea)
    (el : TellsOf t El s.el) (defers_one : TellsOf t (Defers 1) s.defers_one)
    (defers_other : (k : ℕ) → nat_eq k 1 ≡ false → numbers k ≡ true → TellsOf t (Defers k) (is_number s.defers_other k))
    (rejects : (k : ℕ) → numbers k ≡ true → TellsOf t (Rejects k) (is_number s.rejects k))
    (elim_one : TellsOf t (Elim 1) s.elim_one) (nb : TellsOf t Nb s.nb) (decr : TellsOf t Decr s.decr)
    (dli : TellsOf t Dli s.dli) (imono : TellsOf t Imono s.imono)
    (dimono : TellsOf t Dimono s.dimono) (dmono : TellsOf t Dmono s.dmono) (mono : TellsOf t Mono s.mono)
    (condorcet : TellsOf t Cc s.cc) (dcc : TellsOf t Dcc s.dcc)
    (cprog : TellsOf t Cprog s.cprog) (ccomp : TellsOf t Ccomp s.ccomp) (neut : TellsOf t Neut s.neut) where
  pub tells_by_fields : TellsWithin numbers s t
  tells_by_fields Ne w = ne
  tells_by_fields Ea w = ea
  tells_by_fields El w = el
  tells_by_fields (Defers k) w = defers_told t k (nat_eq k 1) s.defers_one s.defers_other refl defers_one
      (λ n. defers_other k n w)
  tells_by_fields (Rejects k) w = rejects k w
  tells_by_fields (Elim k) w = elim_told t k (nat_eq k 1) s.elim_one refl elim_one
  tells_by_fields Nb w = nb
  tells_by_fields Decr w = decr
  tells_by_fields Dli w = dli
  tells_by_fields Imono w = imono
  tells_by_fields Dimono w = dimono
  tells_by_fields Dmono w = dmono
  tells_by_fields Mono w = mono
  tells_by_fields Cc w = condorcet
  tells_by_fields Dcc w = dcc
  tells_by_fields Cprog w = cprog
  tells_by_fields Ccomp w = ccomp
  tells_by_fields Neut w = neut

-- of a module nothing is seen but itself
pub module_seen : (l : Leaf) (first second : DerivableProps) (opposed : Bool) → IsSeen (form.leaf l) first second
    opposed (leaf l)
module_seen l first second opposed = record {
  form_is = refl;
  first_tells = λ h. no_true h;
  second_tells = λ h. no_true h;
  opposed_is = λ h. no_true h;
}

-- with all numbers each property is told
pub seen_every : (form : form.Form) (first second : DerivableProps) (opposed : Bool) (t : Tree)
    → IsSeen form first second opposed t → IsSeenWithin every form first second opposed t
seen_every form first second opposed t seen = record {
  form_is = seen.form_is;
  first_tells = λ h q w. seen.first_tells h q;
  second_tells = λ h q w. seen.second_tells h q;
  opposed_is = seen.opposed_is;
}

within_every : (q : Prop) → is_within every q ≡ true
within_every (Defers k) = refl
within_every (Rejects k) = refl
within_every (Elim k) = refl
within_every _ = refl

pub tells_every : (s : DerivableProps) (t : Tree) → TellsWithin every s t → Tells s t
tells_every s t h q = h q (within_every q)
