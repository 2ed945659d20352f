-- Whom an eliminator elects and defers, and whom it goes on deferring.
use Rattle.std.proofs.Common.{◌≡◌, ℕ, Bool, true, false, cond, not, ◌||◌, ◌&&◌, refl, sym, ap, ◌∙◌, arith}
use Rattle.std.specs.Cmp.{nat_cmp_total}
use Rattle.std.specs.FinSet as set
use Rattle.vir_altset.specs.Sets.{Set}
use Rattle.vir_altset.specs.SetLaws.{contains-difference, contains-retain}
use Rattle.vir_altset.specs.declared.split.Split.{Split}
use Rattle.vir_mean.specs.Eliminators.{eliminated}
use Rattle.vir_mean.proofs.LiftedEliminations.{AllPass}

-- the split, by whether all are to go
abbrev pub split_by : Set → Set → Bool → Split
split_by a gone all =
    cond all (record { elected = set.empty; rejected = set.empty; deferred = a })
    (record { elected = set.empty; rejected = gone; deferred = set.difference a gone })

-- all are deferred, where all would go; otherwise those who don't
pub eliminated-deferred : (a : Set) (t : ℕ → Bool) (y : ℕ) → set.contains (eliminated a (set.retain a t)).deferred y
    ≡ (set.contains a y && (set.is_subset a (set.retain a t) || not (t y)))
eliminated-deferred a t y = elim (set.is_subset a (set.retain a t)) as
    (λ b. set.contains (split_by a (set.retain a t) b).deferred y ≡ (set.contains a y && (b || not (t y)))) [
      | true ↦ all (set.contains a y) (not (t y))
      | false ↦ contains-difference a (set.retain a t) y ∙ ap (λ b. set.contains a y && not b) (contains-retain a t y)
          ∙ rest (set.contains a y) (t y)
    ]
  where
    all : (b c : Bool) → b ≡ (b && (true || c))
    all b c = grind arith

    rest : (b c : Bool) → (b && not (b && c)) ≡ (b && (false || not c))
    rest b c = grind arith

-- an eliminator elects nobody
pub eliminated-elected : (a gone : Set) → (eliminated a gone).elected ≡ set.empty
eliminated-elected a gone = elim (set.is_subset a gone) as (λ b. (split_by a gone b).elected ≡ set.empty) [
  | true ↦ refl
  | false ↦ refl
]

-- x is deferred by a test that it passes no sooner, and passes only with all where all passed
pub deferred_still : (a : Set) (x : ℕ) (t u : ℕ → Bool) → set.contains a x ≡ true → (u x ≡ true → t x ≡ true)
    → (AllPass t a → u x ≡ true → AllPass u a)
    → set.contains (eliminated a (set.retain a t)).deferred x ≡ true
    → set.contains (eliminated a (set.retain a u)).deferred x ≡ true
deferred_still a x t u inside sooner with_all before = eliminated-deferred a u x ∙ step _ _ _ _ _ inside sooner
    (λ all now. whole (with_all (each all) now)) (sym (eliminated-deferred a t x) ∙ before)
  where
    step : (i b c d e : Bool) → i ≡ true → (e ≡ true → c ≡ true) → (b ≡ true → e ≡ true → d ≡ true)
        → (i && (b || not c)) ≡ true → (i && (d || not e)) ≡ true
    step i b c d e inside sooner with_all before = grind arith

    each : set.is_subset a (set.retain a t) ≡ true → AllPass t a
    each all y member = second (set.contains a y) (t y) (sym (contains-retain a t y) ∙ set.is_subset-contains
        nat_cmp_total a (set.retain a t) all y member)
      where
        second : (b c : Bool) → (b && c) ≡ true → c ≡ true
        second b c both = grind arith

    whole : AllPass u a → set.is_subset a (set.retain a u) ≡ true
    whole all = set.contains-is_subset nat_cmp_total a (set.retain a u) (λ y member. contains-retain a u y
        ∙ both (set.contains a y) (u y) member (all y member))
      where
        both : (b c : Bool) → b ≡ true → c ≡ true → (b && c) ≡ true
        both b c one other = grind arith
