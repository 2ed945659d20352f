-- Who is elected by first places: those that are left of the elimination of those below the greatest score.
use Rattle.std.proofs.Common.{◌≡◌, ℕ, ◌&&◌, Bool, true, false, true≢false, cond, not, ℤ, refl, sym, ◌∙◌, arith}
use Rattle.std.proofs.lemmas.Bool.Decides.{nat_tests}
use Rattle.std.specs.Cmp.{nat_cmp_total}
use Rattle.std.specs.FinSet as set
use Rattle.vir_altset.specs.Sets.{Set}
use Rattle.vir_altset.specs.SetLaws.{contains-retain, same_members, set_members}
use Rattle.vir_altset.specs.declared.split.Split.{Split}
use Rattle.vir_mean.specs.Eliminators.{eliminated, is_passed}
use Rattle.vir_mean.specs.Undecided.{undecided}
use Rattle.vir_mean.proofs.EliminatedSplits.{winners_split}
use Rattle.vir_mean.proofs.Leaders.{leader_of, test_of_leads}

-- Only of nobody is each one passed.
nobody : (f : ℕ → ℤ) (a : Set) → set.is_subset a (set.retain a (is_passed f a)) ≡ true → (x : ℕ)
    → set.contains a x ≡ false
nobody f a all x = elim (set.contains a x) as (λ b. set.contains a x ≡ b → b ≡ false) [
  | true ↦ λ e. (let best = leader_of f a x e in
      let gone : set.contains (set.retain a (is_passed f a)) best.one ≡ true =
      set.is_subset-contains nat_cmp_total a (set.retain a (is_passed f a)) all best.one best.member in
      let passed : is_passed f a best.one ≡ true = second (set.contains a best.one) (is_passed f a best.one)
      (sym (contains-retain a (is_passed f a) best.one) ∙ gone) in
      absurd (true≢false (sym passed ∙ test_of_leads f a best.one best.leads)))
  | false ↦ λ e. refl
] refl
  where
    second : (b c : Bool) → (b && c) ≡ true → c ≡ true
    second b c h = grind arith

-- a split of which nobody is deferred, from one of which nobody is elected
abbrev pub settled : Split → Split
settled s = record { elected = s.deferred; rejected = s.rejected; deferred = set.empty }

pub led_split : (f : ℕ → ℤ) (a : Set) → settled (eliminated a (set.retain a (is_passed f a))) ≡ (record {
  elected = set.retain a (λ x. not (is_passed f a x));
  rejected = set.difference a (set.retain a (λ x. not (is_passed f a x)));
  deferred = set.empty;
})
led_split f a = by (set.is_subset a gone) refl
  where
    gone : Set
    gone = set.retain a (is_passed f a)

    by : (b : Bool) → set.is_subset a gone ≡ b
        → settled (cond b (undecided a) (record {
          elected = set.empty;
          rejected = gone;
          deferred = set.difference a
              gone;
        }))
        ≡ (record {
          elected = set.retain a (λ x. not (is_passed f a x));
          rejected = set.difference a (set.retain a (λ x. not (is_passed f a x)));
          deferred = set.empty;
        })
    by false e = winners_split a (is_passed f a) (set.difference a gone) gone set.empty refl refl refl
    by true e = winners_split a (is_passed f a) a set.empty set.empty refl
        (same_members _ _ (λ x. (let none = nobody f a e x in grind (arith, nat_tests, set_members))))
        (same_members _ _ (λ x. (let none = nobody f a e x in grind (arith, nat_tests, set_members))))
