-- Facts that hold where it can't be that they don't: what properties conclude of splits.
use Rattle.std.proofs.Common.{◌≡◌, ◌≢◌, ◌⊎◌, inl, inr, ℕ, Bool, true, false, true≢false, nat_eq, refl, sym, ap, ◌∙◌}
use Rattle.std.proofs.Common.{arith}
use Rattle.std.proofs.lemmas.Bool.Decides.{nat_tests}
use Rattle.std.specs.Cmp.{nat_cmp_total}
use Rattle.std.specs.FinSet as set
use Rattle.vir_altset.specs.Sets.{Set}
use Rattle.vir_altset.specs.SetLaws.{same_members}
use Rattle.vir_altset.specs.declared.split.Split.{Split}
use Rattle.vir_mean.specs.Properties.{just, StaysOrBecomes, MakesProgress, IsCompatible}

-- It can't be that the fact doesn't hold.
abbrev pub Surely : Type 0 → Type 0
Surely P = (P → ⊥) → ⊥

-- what follows from it
pub surely : {P Q : Type 0} → (P → Q) → Surely P → Surely Q
surely follows sure fails = sure (λ p. fails (follows p))

in_cases : {P : Type 0} (b : Bool) → (b ≡ true → P) → (b ≡ false → P) → P
in_cases true where_true where_false = where_true refl
in_cases false where_true where_false = where_false refl

bool_surely : (b c : Bool) → Surely (b ≡ c) → b ≡ c
bool_surely true true sure = refl
bool_surely false false sure = refl
bool_surely true false sure = absurd (sure true≢false)
bool_surely false true sure = absurd (sure (λ e. true≢false (sym e)))

pub true_surely : (b : Bool) → Surely (b ≡ true) → b ≡ true
true_surely b = bool_surely b true

-- what holds of equal numbers, and of others
pub of_numbers : {P : Type 0} (m n : ℕ) → (m ≡ n → P) → (m ≢ n → P) → P
of_numbers m n if_same if_other = in_cases (nat_eq m n) (λ e. if_same (same m n e)) (λ e. if_other (other m n e))
  where
    same : (m n : ℕ) → nat_eq m n ≡ true → m ≡ n
    same m n e = grind (arith, nat_tests)

    other : (m n : ℕ) → nat_eq m n ≡ false → m ≢ n
    other m n e = grind (arith, nat_tests)

pub number_surely : (m n : ℕ) → Surely (m ≡ n) → m ≡ n
number_surely m n sure = of_numbers m n (λ same. same) (λ other. absurd (sure other))

pub not_surely : {P : Type 0} → Surely (P → ⊥) → P → ⊥
not_surely sure p = sure (λ fails. fails p)

pub set_surely : (a b : Set) → Surely (a ≡ b) → a ≡ b
set_surely a b sure = same_members a b (λ x. bool_surely (set.contains a x) (set.contains b x)
    (surely (ap (λ s. set.contains s x)) sure))

pub split_surely : (s t : Split) → Surely (s ≡ t) → s ≡ t
split_surely s t sure = λ i. record {
  elected = set_surely s.elected t.elected (surely (ap (λ (u : Split). u.elected)) sure) i;
  rejected = set_surely s.rejected t.rejected (surely (ap (λ (u : Split). u.rejected)) sure) i;
  deferred = set_surely s.deferred t.deferred (surely (ap (λ (u : Split). u.deferred)) sure) i;
}

-- two sets are equal or not
pub equal_or_not : (a b : Set) → (a ≡ b) ⊎ (a ≢ b)
equal_or_not a b = in_cases (set.is_subset a b)
    (λ there. in_cases (set.is_subset b a)
    (λ back. inl (same_members a b (λ x. both (set.contains a x) (set.contains b x)
    (set.is_subset-contains nat_cmp_total a b there x) (set.is_subset-contains nat_cmp_total b a back x))))
    (λ more. inr (λ same. true≢false (sym (subset_of_same b a (sym same)) ∙ more))))
    (λ more. inr (λ same. true≢false (sym (subset_of_same a b same) ∙ more)))
  where
    both : (b c : Bool) → (b ≡ true → c ≡ true) → (c ≡ true → b ≡ true) → b ≡ c
    both b c there back = grind arith

    subset_of_same : (a b : Set) → a ≡ b → set.is_subset a b ≡ true
    subset_of_same a b same = set.contains-is_subset nat_cmp_total a b
        (λ x member. sym (ap (λ s. set.contains s x) same) ∙ member)

either_surely : {A B : Type 0} → A ⊎ (A → ⊥) → B ⊎ (B → ⊥) → Surely (A ⊎ B) → A ⊎ B
either_surely (inl a) other sure = inl a
either_surely (inr no_a) (inl b) sure = inr b
either_surely (inr no_a) (inr no_b) sure = absurd (sure (λ either. elim either [ inl a ↦ no_a a | inr b ↦ no_b b ]))

pub stays_surely : (x : ℕ) (before after : Set) → Surely (StaysOrBecomes x before after) → StaysOrBecomes x before after
stays_surely x before after = either_surely (equal_or_not after before) (equal_or_not after (just x))

pub progress_surely : (w : ℕ) (a : Set) (s : Split) → Surely (MakesProgress w a s) → MakesProgress w a s
progress_surely w a s sure = record {
  none_elected = set_surely s.elected set.empty (surely (λ (made : MakesProgress w a s). made.none_elected) sure);
  deferred = true_surely (set.contains s.deferred w) (surely (λ (made : MakesProgress w a s). made.deferred) sure);
  fewer = λ some. not_surely (surely (λ (made : MakesProgress w a s). made.fewer some) sure);
}

pub compatible_surely : (w : ℕ) (a : Set) (s : Split) → Surely (IsCompatible w a s) → IsCompatible w a s
compatible_surely w a s sure = record {
  kept = bool_surely (set.contains s.rejected w) false (surely (λ (is : IsCompatible w a s). is.kept) sure);
  no_other = λ x member. number_surely x w (surely (λ (is : IsCompatible w a s). is.no_other x member) sure);
  others = λ wins. set_surely s.rejected (set.difference a (just w))
      (surely (λ (is : IsCompatible w a s). is.others wins) sure);
}
