-- Sets and splits in which two neighbours change names.
use Rattle.std.proofs.Common.{◌≡◌, ◌≢◌, ℕ, suc, ◌+◌, Bool, true, false, refl, sym, ap, ◌∙◌}
use Rattle.std.proofs.Common.{arith, subst}
use Rattle.std.specs.FinSet as set
use Rattle.vir_altset.specs.Sets.{Set, all}
use Rattle.vir_altset.specs.SetLaws.{same_members, contains-insert-same, contains-insert-other, contains-remove-same}
use Rattle.vir_altset.specs.SetLaws.{contains-remove-other}
use Rattle.vir_mean.specs.Neutrality.{renamed_set}
use Rattle.vir_mean.proofs.RenamedSets.{named, contains-name}
use Rattle.vir_find.specs.Exchanges.{exchanging}
use Rattle.vir_find.proofs.NeighbourExchanges.{exchanged_first, exchanged_second, exchanged_other, exchanged_twice}
use Rattle.vir_find.proofs.Lists.{by_number}
use Rattle.vir_find.proofs.Renamings.{same_truth}

-- what the renamed set has
pub contains-exchanged : (i : ℕ) (d : Set) (z : ℕ) → set.contains (renamed_set (exchanging i) d) z
    ≡ set.contains d (exchanging i z)
contains-exchanged i d z = same_truth _ _
    (λ h.
    let n = named (exchanging i) d z h in
    subst (λ y. set.contains d y ≡ true) (sym (exchanged_twice i n.one) ∙ ap (exchanging i) n.name) n.member)
    (λ h. subst (λ y. set.contains (renamed_set (exchanging i) d) y ≡ true) (exchanged_twice i z)
    (contains-name (exchanging i) d (exchanging i z) h))

-- by cases of the number that is asked for
module _ (i : ℕ) (d e : Set) (here : set.contains e i ≡ set.contains d (suc i))
    (next : set.contains e (suc i) ≡ set.contains d i)
    (others : (z : ℕ) → z ≢ i → z ≢ suc i → set.contains e z ≡ set.contains d z) where
  pub exchanged_set : e ≡ renamed_set (exchanging i) d
  exchanged_set = same_members _ _ (λ z. by_number z i
      (λ same. ap (set.contains e) same ∙ here ∙ ap (set.contains d) (sym (exchanged_first i z same))
      ∙ sym (contains-exchanged i d z))
      (λ one. by_number z (suc i)
      (λ same. ap (set.contains e) same ∙ next ∙ ap (set.contains d) (sym (exchanged_second i z same))
      ∙ sym (contains-exchanged i d z))
      (λ two. others z one two ∙ ap (set.contains d) (sym (exchanged_other i z one two))
      ∙ sym (contains-exchanged i d z))))

apart : (i : ℕ) → i ≢ suc i
apart i e = absurd (omega arith)

apart_back : (i : ℕ) → suc i ≢ i
apart_back i e = absurd (omega arith)

-- neither or both are members
pub exchanged-same : (i : ℕ) (d : Set) → set.contains d i ≡ set.contains d (suc i)
    → d ≡ renamed_set (exchanging i) d
exchanged-same i d both = exchanged_set i d d both (sym both) (λ z one two. refl)

-- the first one is
pub exchanged-up : (i : ℕ) (d : Set) → set.contains d i ≡ true → set.contains d (suc i) ≡ false
    → set.insert (set.remove d i) (suc i) ≡ renamed_set (exchanging i) d
exchanged-up i d inside outside = exchanged_set i d (set.insert (set.remove d i) (suc i))
    (contains-insert-other (set.remove d i) (suc i) i (apart i) ∙ contains-remove-same d i ∙ sym outside)
    (contains-insert-same (set.remove d i) (suc i) ∙ sym inside)
    (λ z one two. contains-insert-other (set.remove d i) (suc i) z two ∙ contains-remove-other d i z one)

-- the second one is
pub exchanged-down : (i : ℕ) (d : Set) → set.contains d i ≡ false → set.contains d (suc i) ≡ true
    → set.insert (set.remove d (suc i)) i ≡ renamed_set (exchanging i) d
exchanged-down i d outside inside = exchanged_set i d (set.insert (set.remove d (suc i)) i)
    (contains-insert-same (set.remove d (suc i)) i ∙ sym inside)
    (contains-insert-other (set.remove d (suc i)) i (suc i) (apart_back i) ∙ contains-remove-same d (suc i)
    ∙ sym outside)
    (λ z one two. contains-insert-other (set.remove d (suc i)) i z one ∙ contains-remove-other d (suc i) z two)

-- ---- tests
pub one_more : (i : ℕ) → i + 1 ≡ suc i
one_more i = omega arith
