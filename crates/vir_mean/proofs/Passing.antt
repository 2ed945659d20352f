-- A module with a fixed order of its own isn't neutral.
use Rattle.std.proofs.Common.{◌≡◌, ℕ, ◌-◌, ◌≤◌, Bool, true, false, true≢false, ◌||◌, ◌&&◌, nat_eq, nat_lt, [], refl}
use Rattle.std.proofs.Common.{sym, ap, ◌∙◌, arith}
use Rattle.std.proofs.lemmas.Bool.Decides.{nat_tests}
use Rattle.std.proofs.lemmas.List.Elements.{All-nil}
use Rattle.std.specs.FinSet as set
use Rattle.vir_altset.specs.Sets.{Set}
use Rattle.vir_altset.specs.SetLaws.{contains-empty, contains-retain, same_members, set_members}
use Rattle.vir_altset.specs.declared.split.Split.{Split}
use Rattle.vir_altset.proofs.SizeLaws.{len-empty, len_of_member}
use Rattle.vir_profile.specs.Orders.{IsListing}
use Rattle.vir_term.specs.declared.prop.Prop.TheVariants.{Neut}
use Rattle.vir_mean.specs.FixedOrders.{is_ahead, is_among_first, first_members}
use Rattle.vir_mean.specs.Modules.{first_passed}
use Rattle.vir_mean.specs.Neutrality.{IsRenaming, renamed_set}
use Rattle.vir_mean.specs.Properties.{Holds, just}
use Rattle.vir_mean.proofs.RenamedSets.{named, contains-name}

-- the set of 1 and 2
pub one_two : Set
one_two = set.insert (just 1) 2

pub contains-one_two : (x : ℕ) → set.contains one_two x ≡ (nat_eq x 2 || nat_eq x 1)
unfolding one_two
contains-one_two x = grind (arith, nat_tests, set_members)

-- 1 and 2 exchanged
abbrev exchanged : ℕ → ℕ
exchanged x = 3 - x

renaming : IsRenaming exchanged one_two
renaming = record {
  positive = λ x member. step x (sym (contains-one_two x) ∙ member);
  one_to_one = λ x y with_x with_y same.
      both x y (sym (contains-one_two x) ∙ with_x) (sym (contains-one_two y) ∙ with_y) same;
}
  where
    step : (x : ℕ) → (nat_eq x 2 || nat_eq x 1) ≡ true → 1 ≤ 3 - x
    step x member = grind (arith, nat_tests)

    both : (x y : ℕ) → (nat_eq x 2 || nat_eq x 1) ≡ true → (nat_eq y 2 || nat_eq y 1) ≡ true → 3 - x ≡ 3 - y → x ≡ y
    both x y with_x with_y same = grind (arith, nat_tests)

same_set : renamed_set exchanged one_two ≡ one_two
same_set = same_members _ _ (λ z. iff _ _ (back z) (there z))
  where
    iff : (b c : Bool) → (b ≡ true → c ≡ true) → (c ≡ true → b ≡ true) → b ≡ c
    iff b c one other = grind arith

    turned : (x z : ℕ) → (nat_eq x 2 || nat_eq x 1) ≡ true → 3 - x ≡ z → (nat_eq z 2 || nat_eq z 1) ≡ true
    turned x z member is = grind (arith, nat_tests)

    twice : (z : ℕ) → (nat_eq z 2 || nat_eq z 1) ≡ true → 3 - (3 - z) ≡ z
    twice z member = grind (arith, nat_tests)

    back : (z : ℕ) → set.contains (renamed_set exchanged one_two) z ≡ true → set.contains one_two z ≡ true
    back z h =
        let n = named exchanged one_two z h in
        contains-one_two z ∙ turned n.one z (sym (contains-one_two n.one) ∙ n.member) n.name

    there : (z : ℕ) → set.contains one_two z ≡ true → set.contains (renamed_set exchanged one_two) z ≡ true
    there z h =
        let member = sym (contains-one_two z) ∙ h in
        ap (set.contains (renamed_set exchanged one_two)) (sym (twice z member))
        ∙ contains-name exchanged one_two (3 - z) (contains-one_two (3 - z) ∙ turned z (3 - z) member refl)

-- ---- who is passed
passed : Set
passed = first_members 1 [] one_two

one_passes : set.contains passed 1 ≡ true
unfolding passed
one_passes =
    let none : set.retain one_two (is_ahead [] 1) ≡ set.empty =
    same_members _ _ (λ y. contains-retain one_two (is_ahead [] 1) y ∙ ap (λ b. b && nat_lt y 1) (contains-one_two y)
    ∙ out y ∙ sym (contains-empty y)) in
    contains-retain one_two (is_among_first 1 [] one_two) 1
    ∙ ap (λ b. b && is_among_first 1 [] one_two 1) (contains-one_two 1)
    ∙ few (set.len (set.retain one_two (is_ahead [] 1))) (ap set.len none ∙ len-empty)
  where
    out : (y : ℕ) → ((nat_eq y 2 || nat_eq y 1) && nat_lt y 1) ≡ false
    out y = grind (arith, nat_tests)

    few : (n : ℕ) → n ≡ 0 → nat_lt n 1 ≡ true
    few n none = grind (arith, nat_tests)

two_fails : set.contains passed 2 ≡ false
unfolding passed
two_fails =
    let ahead : set.contains (set.retain one_two (is_ahead [] 2)) 1 ≡ true = contains-retain one_two (is_ahead [] 2) 1
    ∙ ap (λ b. b && nat_lt 1 2) (contains-one_two 1) in
    contains-retain one_two (is_among_first 1 [] one_two) 2
    ∙ ap (λ b. b && is_among_first 1 [] one_two 2) (contains-one_two 2)
    ∙ many (set.len (set.retain one_two (is_ahead [] 2))) (len_of_member _ 1 ahead)
  where
    many : (n : ℕ) → 1 ≤ n → nat_lt n 1 ≡ false
    many n some = grind (arith, nat_tests)

-- of 1 and 2, and of 2 and 1, it is 1 that is passed
pub passing_has_an_order : Holds Neut (first_passed 1 []) → ⊥
unfolding passed
passing_has_an_order neutral =
    let same : first_members 1 [] (renamed_set exchanged one_two) ≡ renamed_set exchanged passed
    = ap (λ (s : Split). s.deferred)
    (neutral one_two [] exchanged
    (record { positive = contains-one_two 0; lists = All-nil (λ line. IsListing one_two line.order) }) renaming) in
    true≢false (sym (contains-name exchanged passed 1 one_passes) ∙ ap (λ s. set.contains s 2)
    (sym same ∙ ap (first_members 1 []) same_set) ∙ two_fails)
