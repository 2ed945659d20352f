-- A loop over a loop that ends at the same number does nothing more.
use Rattle.std.proofs.Common.{◌≡◌, ◌≢◌, ℕ, zero, suc, ◌<◌, Bool, true, false, ◌⊎◌, inl, inr, List, sym, ap, ◌∙◌}
use Rattle.std.proofs.Common.{refl, subst, arith}
use Rattle.std.proofs.lemmas.Bool.{cases_lt}
use Rattle.std.proofs.lemmas.Bool.Decides.{nat_tests}
use Rattle.std.specs.FinSet as set
use Rattle.vir_altset.specs.Sets.{Set, IsPart}
use Rattle.vir_altset.specs.declared.split.Split.{Split}
use Rattle.vir_altset.proofs.SizeLaws.{whole_part}
use Rattle.vir_altset.proofs.SplitLaws.{deferred_part}
use Rattle.vir_profile.specs.declared.ballot.Entry.{Entry}
use Rattle.vir_profile.specs.Profiles.{IsProfileOn, restrict}
use Rattle.vir_profile.proofs.RestrictionLaws.{restricted_orders, restricted_to_the_whole}
use Rattle.vir_term.specs.Tree.{End, exactly, at_most}
use Rattle.vir_mean.specs.Modules.{Meaning, all_deferred}
use Rattle.vir_mean.specs.Compositions.{is_end, IsEnd, joined, loop_of}
use Rattle.vir_mean.proofs.MeaningLaws.{Splits, turns-split}
use Rattle.vir_mean.proofs.LoopLaws.{loop_of-few, loop_of-whole, loop_of-more, joined-all_deferred}
use Rattle.vir_mean.proofs.LoopLaws.{split_of_all_deferred}
use Rattle.vir_mean.proofs.RestrictionLemmas.{restrict-restrict}

ended : (k : End) (n : ℕ) → is_end k n ≡ true → IsEnd k n
ended (exactly k) n test = grind (arith, nat_tests)
ended (at_most k) n test = grind (arith, nat_tests)

goes_on : (k : End) (n : ℕ) → is_end k n ≡ false → IsEnd k n → ⊥
goes_on (exactly k) n test end = grind (arith, nat_tests)
goes_on (at_most k) n test end = grind (arith, nat_tests)

-- whether a loop ends at a set of this size
end_or_not : (k : End) (n : ℕ) → IsEnd k n ⊎ (IsEnd k n → ⊥)
end_or_not k n = by (is_end k n) refl
  where
    by : (b : Bool) → is_end k n ≡ b → IsEnd k n ⊎ (IsEnd k n → ⊥)
    by true e = inl (ended k n e)
    by false e = inr (goes_on k n e)

-- a part is the whole set, or is smaller
whole_or_not : (d a : Set) → IsPart d a → (d ≡ a) ⊎ (set.len d < set.len a)
whole_or_not d a part = elim (cases_lt (set.len d) (set.len a)) [
  | inl fewer ↦ inr fewer
  | inr all ↦ inl (whole_part d a part all)
]

module _ (k : End) (body : Meaning) (splits : Splits body) where
  -- what the loop makes of a set, by the lines of a profile on more
  abbrev again : List Entry → Set → Split
  again p d = loop_of k body d (restrict d p)

  -- what a split leaves, the loop leaves as it is
  abbrev Settles : List Entry → Split → Type 0
  Settles p s = again p s.deferred ≡ all_deferred s.deferred p

  -- the loop gives a split
  loop_splits : Splits (loop_of k body)
  loop_splits a p = turns-split (set.len a) k body splits a p

  settled_more : (a : Set) (p : List Entry) → IsPart (body a p).deferred a
      → Settles (restrict (body a p).deferred p) (again p (body a p).deferred)
      → Settles p (joined (body a p) (again p (body a p).deferred))
  settled_more a p part after =
      let d = (body a p).deferred in
      let dd = (again p d).deferred in
      let within : IsPart dd d = deferred_part d (again p d) (loop_splits d (restrict d p)) in
      ap (loop_of k body dd) (sym (restrict-restrict dd d within p)) ∙ after

  settled_up_to : (most : ℕ) (a : Set) (p : List Entry) → set.len a < most → IsProfileOn a p
      → Settles p (loop_of k body a p)
  settled_up_to zero a p size on = absurd (omega arith)
  settled_up_to (suc most) a p size on =
      let d = (body a p).deferred in
      let part : IsPart d a = deferred_part a (body a p) (splits a p) in
      let whole : restrict a p ≡ p = restricted_to_the_whole a p on in
      elim (end_or_not k (set.len a)) [
        | inl few ↦
            let is : loop_of k body a p ≡ all_deferred a p = loop_of-few k body a p few in
            subst (Settles p) (sym is) (ap (loop_of k body a) whole ∙ is)
        | inr many ↦ elim (whole_or_not d a part) [
          | inl all ↦
              let is : loop_of k body a p ≡ all_deferred a p = loop_of-whole k body splits a p all in
              subst (Settles p) (sym is) (ap (loop_of k body a) whole ∙ is)
          | inr fewer ↦
              let other : d ≢ a = λ e. (let same : set.len d ≡ set.len a = ap set.len e in absurd (omega arith)) in
              subst (Settles p) (sym (loop_of-more k body splits a p many other))
              (settled_more a p part (settled_up_to most d (restrict d p) (omega arith)
              (restricted_orders a d p part on)))
        ]
      ]

  -- a loop leaves what it has left
  pub loop_settles : (a : Set) (p : List Entry) → IsProfileOn a p → Settles p (loop_of k body a p)
  loop_settles a p on = settled_up_to (suc (set.len a)) a p (omega arith) on

  -- so a loop over it does nothing more
  pub loop_of-loop : (a : Set) (p : List Entry) → IsProfileOn a p → loop_of k (loop_of k body) a p ≡ loop_of k body a p
  loop_of-loop a p on =
      let inner = loop_of k body a p in
      let part : IsPart inner.deferred a = deferred_part a inner (loop_splits a p) in
      elim (end_or_not k (set.len a)) [
        | inl few ↦ loop_of-few k (loop_of k body) a p few ∙ sym (loop_of-few k body a p few)
        | inr many ↦ elim (whole_or_not inner.deferred a part) [
          | inl all ↦
              loop_of-whole k (loop_of k body) loop_splits a p all
              ∙ sym (split_of_all_deferred a inner p (loop_splits a p) all)
          | inr fewer ↦
              let d = inner.deferred in
              let other : d ≢ a = λ e. (let same : set.len d ≡ set.len a = ap set.len e in absurd (omega arith)) in
              let stays : (again p d).deferred ≡ d = ap (λ (s : Split). s.deferred) (loop_settles a p on) in
              loop_of-more k (loop_of k body) loop_splits a p many other
              ∙ ap (joined inner) (loop_of-whole k (loop_of k body) loop_splits d (restrict d p) stays)
              ∙ joined-all_deferred inner p
        ]
      ]
