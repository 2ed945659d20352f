use Rattle.std.proofs.Common.{◌≡◌, ℕ, ◌≤◌, Bool, true, false, ◌&&◌, cond, List, [], ◌∷◌, ◌++◌, Option, Some, None, Ok}
use Rattle.std.proofs.Common.{Err, ap, sym, ◌∙◌, refl, arith, nat_eq, nat_le, append_assoc, append-nil}
use Rattle.std.specs.List.{slice_split, before_first, after_first, list_any}
use Rattle.std.proofs.lemmas.Bool.Decides.{nat_tests}
use Rattle.std.specs.FinSet as set
use Rattle.std.specs.FinSet.{nat_cmp-IsAntisymmetric}
use Rattle.std.specs.Ordering.{nat_cmp}
use Rattle.std.specs.Cmp.{nat_cmp_total}
use Rattle.vir_altset.specs.Sets.{Set}
use Rattle.vir_profile.specs.OrderFaults.{member_fault_after}
use Rattle.vir_profile.specs.declared.refused.AddFault.{AddFault}
use Rattle.vir_profile.specs.declared.refused.AddFault.TheVariants as faults
use Rattle.vir_soc.specs.declared.kind.SocKind.{SocKind}
use Rattle.vir_soc.specs.declared.kind.SocKind.TheVariants as kinds
use Rattle.vir_soc.specs.Votes.{alternative, order_after, is_comma}
use Rattle.vir_soc.proofs.SplitLemmas.{split_last, split_more, split_head}

module _ (m : ℕ) (order rest entry : List ℕ) (b : entry ≡ before_first is_comma rest) where
  pub order_refused : (k : SocKind) → Err k ≡ alternative m entry → order_after m order (slice_split is_comma rest)
      ≡ Err k
  unfolding order_after
  order_refused k e = let h = split_head is_comma rest in rw (h.1, ← b, ← e) refl

  module _ (x : ℕ) (e : Ok x ≡ alternative m entry) where
    pub order_repeated : list_any (λ y. nat_eq y x) order ≡ true → order_after m order (slice_split is_comma rest)
        ≡ Err kinds.Repeated
    unfolding order_after
    order_repeated t = let h = split_head is_comma rest in rw (h.1, ← b, ← e, t) refl

    pub order_last : list_any is_comma rest ≡ false → list_any (λ y. nat_eq y x) order ≡ false
        → order_after m order (slice_split is_comma rest) ≡ Ok (order ++ x ∷ [])
    unfolding order_after
    order_last l t = rw (split_last is_comma rest l, ← b, ← e, t) refl

    pub order_more : list_any is_comma rest ≡ true → list_any (λ y. nat_eq y x) order ≡ false
        → order_after m order (slice_split is_comma rest) ≡ order_after m (order ++ x ∷ [])
        (slice_split is_comma (after_first is_comma rest))
    unfolding order_after
    order_more l t = rw (split_more is_comma rest l, ← b, ← e, t) refl

pub stood_before : (seen : Set) (order : List ℕ) (x : ℕ) (r b : Bool) → seen ≡ set.from_list {R = nat_cmp} order → r
    ≡ set.contains seen x → r ≡ b → list_any (λ y. nat_eq y x) order ≡ b
stood_before seen order x r b s h t = sym (set.contains-from_list_nat order x) ∙ ap (λ z. set.contains z x) (sym s)
    ∙ sym h ∙ t

pub seen_push : (seen : Set) (order : List ℕ) (x : ℕ) → seen ≡ set.from_list {R = nat_cmp} order → set.insert seen x
    ≡ set.from_list {R = nat_cmp} (order ++ x ∷ [])
seen_push seen order x s = ap (λ z. set.insert z x) s ∙ sym (set.from_list_push nat_cmp_total nat_cmp-IsAntisymmetric
    order x)

pub ranged : (m x : ℕ) → 1 ≤ x → x ≤ m → (nat_le 1 x && nat_le x m) ≡ true
ranged m x a b = grind (arith, nat_tests)

none_of : (a b : Bool) (r s : Option AddFault) → cond a (cond b (Some faults.Repeated) r) (Some faults.OutOfRange)
    ≡ None → (r ≡ None → s ≡ None) → cond a (cond b (Some faults.Repeated) s) (Some faults.OutOfRange) ≡ None
none_of true true r s e f = absurd cc
none_of true false r s e f = f e
none_of false b r s e f = absurd cc

-- a member in range that did not stand before
pub sound_push : (m : ℕ) (seen order : List ℕ) (x : ℕ) → 1 ≤ x → x ≤ m → member_fault_after m seen order ≡ None
    → list_any (λ y. nat_eq y x) (seen ++ order) ≡ false → member_fault_after m seen (order ++ x ∷ []) ≡ None
sound_push m seen [] x a b h t = rw (ranged m x a b, sym (ap (list_any (λ z. nat_eq z x)) (append-nil seen)) ∙ t) refl
sound_push m seen (y ∷ ys) x a b h t = none_of _ _ _ _ h (λ e. sound_push m (seen ++ y ∷ []) ys x a b e
    (ap (list_any (λ z. nat_eq z x)) (append_assoc seen (y ∷ []) ys) ∙ t))
