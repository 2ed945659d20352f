-- The tree of what is derivable of a term, from those of its parts.
use Rattle.std.proofs.Common.{◌≡◌, ◌⊎◌, inl, inr, IfOk, Bool, true, false, Option, Some, refl, sym, ◌∙◌, ap, subst}
use Rattle.vir_term.specs.declared.leaf.Leaf.TheVariants.{PassFirst, DropFirst}
use Rattle.vir_term.specs.declared.leaf.Leaf.{Leaf as Module}
use Rattle.vir_term.specs.Tree.{Tree, leaf, rev, seq, par, loop, End}
use Rattle.vir_rules.specs.Forms.{Form, form_of, first_part, second_part}
use Rattle.std.specs.declared.result.Result.{Result}
use Rattle.std.specs.declared.result.Result.TheVariants.{Ok, Err}
use Rattle.vir_derive.specs.declared.props_tree.PropsTree.{PropsTree}
use Rattle.vir_derive.specs.declared.props_tree.PropsTree.TheVariants.{Leaf, One', Two'}
use Rattle.vir_derive.specs.declared.derivable_props.DerivableProps.{DerivableProps}
use Rattle.vir_derive.specs.Heads.{opposed, head, are_opposed}
use Rattle.vir_derive.specs.PropsTree.{own_props, IsPropsTreeOf, has_one_part, has_two_parts, JoinsOne, JoinsTwo}
use Rattle.vir_derive.specs.DerivableProps.{Tells, IsSeen}
use Rattle.vir_derive.proofs.Rows.{no_true}

-- what is derivable of the whole tells of it
pub own_tells : (props : PropsTree) (t : Tree) → IsPropsTreeOf props t → Tells (own_props props) t
own_tells (Leaf s) (leaf l) h = h
own_tells (One' s place part) (rev m) h = h.0
own_tells (One' s place part) (loop k m) h = h.0
own_tells (Two' s place first place' second) (seq m n) h = h.0
own_tells (Two' s place first place' second) (par m n) h = h.0
own_tells _ _ h = absurd h

-- no head is opposed to itself
opposed_self : (l : Option Module) → opposed l l ≡ false
opposed_self (Some (PassFirst k order)) = refl
opposed_self (Some (DropFirst k order)) = refl
opposed_self _ = refl

same_parts : (t : Tree) → has_one_part (form_of t) ≡ true → second_part t ≡ first_part t
same_parts (rev m) h = refl
same_parts (loop k m) h = refl
same_parts _ h = no_true h

one_joined : (s : DerivableProps) (place : _) (part : PropsTree) (t : Tree) → has_one_part (form_of t) ≡ true
    → Tells s t → IsPropsTreeOf part (first_part t) → IsPropsTreeOf (One' s place part) t
one_joined s place part (rev m) h tells props = (tells, props)
one_joined s place part (loop k m) h tells props = (tells, props)
one_joined s place part _ h tells props = no_true h

one_seen : (form : Form) (part : PropsTree) (t : Tree) → form_of t ≡ form → has_one_part form ≡ true
    → IsPropsTreeOf part (first_part t) → IsSeen form (own_props part) (own_props part) false t
one_seen form part t e h props =
    let same : second_part t ≡ first_part t = same_parts t (ap has_one_part e ∙ h) in
    let tells : Tells (own_props part) (first_part t) = own_tells part (first_part t) props in
    record {
      form_is = e;
      first_tells = λ _. tells;
      second_tells = λ _. subst (Tells (own_props part)) (sym same) tells;
      opposed_is = λ _. sym (ap (are_opposed (first_part t)) same ∙ opposed_self (head (first_part t)));
    }

pub joins_one : (form : Form) (part inside : PropsTree) (own s : DerivableProps) (place : _) → inside ≡ part → own
    ≡ own_props part → ((t : Tree) → IsSeen form own own false t → Tells s t) →
    JoinsOne form part (One' s place inside)
joins_one form part inside own s place kept is tells t e h props =
    one_joined s place inside t (ap has_one_part e ∙ h)
    (tells t (subst (λ own. IsSeen form own own false t) (sym is) (one_seen form part t e h props)))
    (subst (λ m. IsPropsTreeOf m (first_part t)) (sym kept) props)

two_joined : (s : DerivableProps) (place place' : _) (first second : PropsTree) (t : Tree) → has_two_parts (form_of t)
    ≡ true → Tells s t → IsPropsTreeOf first (first_part t) → IsPropsTreeOf second (second_part t) →
    IsPropsTreeOf (Two' s place first place' second) t
two_joined s place place' first second (seq m n) h tells a b = (tells, a, b)
two_joined s place place' first second (par m n) h tells a b = (tells, a, b)
two_joined s place place' first second _ h tells a b = no_true h

two_seen : (form : Form) (first second : PropsTree) (opposed : Bool) (t : Tree) → form_of t ≡ form → opposed
    ≡ are_opposed (first_part t) (second_part t) → IsPropsTreeOf first (first_part t) → IsPropsTreeOf second
    (second_part t) →
    IsSeen form (own_props first) (own_props second) opposed t
two_seen form first second opposed t e o a b =
    record {
      form_is = e;
      first_tells = λ _. own_tells first (first_part t) a;
      second_tells = λ _.
          own_tells second (second_part t) b;
      opposed_is = λ _. o;
    }

pub joins_two : (form : Form) (first second inside inside' : PropsTree) (opposed : Bool) (own own' s : DerivableProps)
    (place place' : _) → inside ≡ first → inside' ≡ second → own ≡ own_props first → own' ≡ own_props second →
    ((t : Tree) → IsSeen form own own' opposed t → Tells s t) → JoinsTwo form first second opposed
    (Two' s place inside place' inside')
joins_two form first second inside inside' opposed own own' s place place' kept kept' is is' tells t e h o a b =
    two_joined s place place' inside inside' t (ap has_two_parts e ∙ h)
    (tells t (subst (λ x. IsSeen form x own' opposed t) (sym is) (subst (λ x. IsSeen form (own_props first) x opposed t)
    (sym is') (two_seen form first second opposed t e o a b))))
    (subst (λ m. IsPropsTreeOf m (first_part t)) (sym kept) a) (subst (λ m. IsPropsTreeOf m (second_part t)) (sym kept')
    b)

-- what joining gives, where the call answers
then_ok : {E : Type 0} (P Q : PropsTree → Type 0) (r : Result PropsTree E) → IfOk r P → ((m : PropsTree) → P m → Q m)
    → IfOk r Q
then_ok P Q (Ok m) h f = f m h
then_ok P Q (Err e) h f = tt

rev_or_loop_tree : (t m : Tree) (form : Form) (part props : PropsTree) → form ≡ form_of t → (t ≡ rev m)
    ⊎ ((k : End) × (t ≡ loop k m)) → JoinsOne form part props → IsPropsTreeOf part m → IsPropsTreeOf props t
rev_or_loop_tree t m form part props f e join a = elim e [
  | inl is ↦ join t (sym f) (ap has_one_part (f ∙ ap form_of is)) (subst (IsPropsTreeOf part) (sym (ap first_part is))
      a)
  | inr is ↦ join t (sym f) (ap has_one_part (f ∙ ap form_of is.1))
      (subst (IsPropsTreeOf part) (sym (ap first_part is.1)) a)
]

pub rev_or_loop : {E : Type 0} (r : Result PropsTree E) (t m : Tree) (form : Form) (part : PropsTree) → form ≡ form_of t
    → (t ≡ rev m) ⊎ ((k : End) × (t ≡ loop k m)) → IfOk r (JoinsOne form part) → IsPropsTreeOf part m →
    IfOk r (λ props. IsPropsTreeOf props t)
rev_or_loop r t m form part f e joins a = then_ok (JoinsOne form part) (λ props. IsPropsTreeOf props t) r joins
    (λ props join. rev_or_loop_tree t m form part props f e join a)

seq_or_par_tree : (t m n : Tree) (form : Form) (first second : PropsTree) (opposed : Bool) (props : PropsTree) → form
    ≡ form_of t → (t ≡ seq m n) ⊎ (t ≡ par m n) → opposed ≡ are_opposed m n →
    JoinsTwo form first second opposed props → IsPropsTreeOf first m → IsPropsTreeOf second n → IsPropsTreeOf props t
seq_or_par_tree t m n form first second opposed props f e o join a b = elim e [
  | inl is ↦ join t (sym f) (ap has_two_parts (f ∙ ap form_of is))
      (o ∙ sym (ap (λ u. are_opposed (first_part u) (second_part u)) is))
      (subst (IsPropsTreeOf first) (sym (ap first_part is)) a) (subst (IsPropsTreeOf second) (sym (ap second_part is))
      b)
  | inr is ↦ join t (sym f) (ap has_two_parts (f ∙ ap form_of is))
      (o ∙ sym (ap (λ u. are_opposed (first_part u) (second_part u)) is))
      (subst (IsPropsTreeOf first) (sym (ap first_part is)) a) (subst (IsPropsTreeOf second) (sym (ap second_part is))
      b)
]

pub seq_or_par : {E : Type 0} (r : Result PropsTree E) (t m n : Tree) (form : Form) (first second : PropsTree)
    (opposed : Bool) → form ≡ form_of t → (t ≡ seq m n) ⊎ (t ≡ par m n) → opposed ≡ are_opposed m n →
    IfOk r (JoinsTwo form first second opposed) → IsPropsTreeOf first m → IsPropsTreeOf second n
    → IfOk r (λ props. IsPropsTreeOf props t)
seq_or_par r t m n form first second opposed f e o joins a b = then_ok (JoinsTwo form first second opposed)
    (λ props. IsPropsTreeOf props t) r joins (λ props join. seq_or_par_tree t m n form first second opposed props f e o
    join a b)
