-- Why it is enough to compose the first term of each signature.
use Rattle.std.proofs.Common.{◌≡◌, inl, inr, ℕ, zero, suc, ◌+◌, ◌-◌, ◌<◌, ◌≤◌, Bool, List, [], ◌∷◌, ◌++◌, map, None}
use Rattle.std.proofs.Common.{refl, sym, ◌∙◌, ap, subst, arith, lit≤}
use Rattle.std.specs.List.{find}
use Rattle.std.specs.Option.{option_map, option_and_then, is_some}
use Rattle.std.proofs.lemmas.Bool.{cases_lt}
use Rattle.vir_term.specs.Tree.{Tree, rev, seq, par, loop, exactly}
use Rattle.vir_synth.specs.Terms.{joins, splits, compositions}
use Rattle.vir_synth.specs.Alike.{Composes, Respects, FindsNone, IsServed}
use Rattle.vir_synth.proofs.Finding.{find-map, find_agree, none_in_first, none_in_second, none_of_map, same_in_both}
use Rattle.vir_synth.proofs.Finding.{some_passes, first_joined, find-joined, none_joined}

none_in_splits : (p : Tree → Bool) (op : Tree → Tree → Tree) (at : ℕ → List Tree) (left right i j : ℕ) → left ≤ i → i
    + suc j ≡ left + right → find p (splits op at left right) ≡ None → find p (joins op (at i) (at (suc j))) ≡ None
unfolding splits
none_in_splits p op at left zero i j l e h = absurd (omega arith)
none_in_splits p op at left (suc right) i j l e h = elim (cases_lt left i) [
  | inl below ↦ none_in_splits p op at (suc left) right i j (omega arith) (omega arith)
      (none_in_second p (joins op (at left) (at (suc right))) (splits op at (suc left) right) h)
  | inr above ↦ (let s : left ≡ i = omega arith in let k : right ≡ j = omega arith in
      subst (λ a. find p (joins op (at a) (at (suc j))) ≡ None) s (subst (λ b. find p (joins op (at left) (at (suc b)))
      ≡ None) k (none_in_first p (joins op (at left) (at (suc right))) (splits op at (suc left) right) h)))
]

module _ (Same : Tree → Tree → Type 0) (composes : Composes Same) (at kept : ℕ → List Tree) (n : ℕ) (none_of_none : at 0
    ≡ []) (composed : (i : ℕ) → 1 ≤ i → i < n → at (suc i) ≡ compositions at i)
    (served : (i : ℕ) → i ≤ n → IsServed Same at kept i) (p : Tree → Bool) (respects : Respects Same p)
    (finds_none : FindsNone p at (suc n)) where
  none_in_compositions : (i : ℕ) → 1 ≤ i → i < n → find p (compositions at i) ≡ None
  none_in_compositions i l h = subst (λ xs. find p xs ≡ None) (composed i l h) (finds_none (suc i) (omega arith))

  at_zero : (q : Tree → Bool) → find q (at 0) ≡ None
  at_zero q = subst (λ xs. find q xs ≡ None) (sym none_of_none) refl

  -- nothing is found in each of the four kinds of compositions
  record NoneInEach (i : ℕ) : Type 0 where
    revised : find p (map rev (at i)) ≡ None
    looped : find p (map (loop (exactly 1)) (at i)) ≡ None
    sequenced : find p (splits seq at 1 (i - 1)) ≡ None
    paralleled : find p (splits par at 1 (i - 1)) ≡ None

  none_in_each : (i : ℕ) → 1 ≤ i → i < n → NoneInEach i
  none_in_each i l h =
      let revs : List Tree = map rev (at i) in
      let loops : List Tree = map (loop (exactly 1)) (at i) in
      let seqs : List Tree = splits seq at 1 (i - 1) in
      let pars : List Tree = splits par at 1 (i - 1) in
      let all = none_in_compositions i l h in
      let three = none_in_first p (revs ++ loops ++ seqs) pars all in
      let two = none_in_first p (revs ++ loops) seqs three in
      record {
        revised = none_in_first p revs loops two;
        looped = none_in_second p revs loops two;
        sequenced =
            none_in_second p (revs ++ loops) seqs three;
        paralleled = none_in_second p (revs ++ loops ++ seqs) pars all;
      }

  none_revised : FindsNone (λ t. p (rev t)) at n
  none_revised zero h = at_zero (λ t. p (rev t))
  none_revised (suc i) h = none_of_map p rev (at (suc i)) (none_in_each (suc i) (omega arith) h).revised

  none_looped : FindsNone (λ t. p (loop (exactly 1) t)) at n
  none_looped zero h = at_zero (λ t. p (loop (exactly 1) t))
  none_looped (suc i) h = none_of_map p (loop (exactly 1)) (at (suc i)) (none_in_each (suc i) (omega arith) h).looped

  revised_served : find p (map rev (at n)) ≡ find p (map rev (kept n))
  revised_served = find-map p rev (at n)
      ∙ (ap (option_map rev) (served n (omega arith) (λ t. p (rev t)) (λ t u s. respects (rev t) (rev u)
      (composes.revised t u s)) none_revised) ∙ sym (find-map p rev (kept n)))

  looped_served : find p (map (loop (exactly 1)) (at n)) ≡ find p (map (loop (exactly 1)) (kept n))
  looped_served = find-map p (loop (exactly 1)) (at n)
      ∙ (ap (option_map (loop (exactly 1))) (served n (omega arith) (λ t. p (loop (exactly 1) t))
      (λ t u s. respects (loop (exactly 1) t) (loop (exactly 1) u) (composes.looped t u s)) none_looped)
      ∙ sym (find-map p (loop (exactly 1)) (kept n)))

  module _ (op : Tree → Tree → Tree) (carries : (t t' u u' : Tree) → Same t t' → Same u u' → Same (op t u) (op t' u'))
      (none_split : (i : ℕ) → 1 ≤ i → i < n → find p (splits op at 1 (i - 1)) ≡ None) where
    -- no composition of a smaller size passes
    none_of_two : (i j : ℕ) → 1 ≤ i → i + j < n → find p (joins op (at i) (at j)) ≡ None
    none_of_two i zero l h = subst (λ xs. find p (joins op (at i) xs) ≡ None) (sym none_of_none) (none_with_none (at i))
      where
        none_with_none : (xs : List Tree) → find p (joins op xs []) ≡ None
        none_with_none [] = refl
        none_with_none (x ∷ xs) = none_with_none xs
    none_of_two i (suc j) l h = none_in_splits p op at 1 (i + suc j - 1) i j l (omega arith)
        (none_split (i + suc j) (omega arith) h)

    -- each first term finds in the kept second ones what it finds in all of them
    seconds_served : (xs : List Tree) (j : ℕ) → j ≤ n → ((i : ℕ) → i < j → find p (joins op xs (at i)) ≡ None)
        → find p (joins op xs (at j)) ≡ find p (joins op xs (kept j))
    seconds_served [] j l none = refl
    seconds_served (x ∷ xs) j l none =
        same_in_both p (map (op x) (at j)) (joins op xs (at j)) (map (op x) (kept j)) (joins op xs (kept j))
        (find-map p (op x) (at j)
        ∙ (ap (option_map (op x))
        (served j l (λ y. p (op x y)) (λ t u s. respects (op x t) (op x u) (carries x x t u (composes.itself x) s))
        (λ i k. none_of_map p (op x) (at i) (none_in_first p (map (op x) (at i)) (joins op xs (at i)) (none i k))))
        ∙ sym (find-map p (op x) (kept j))))
        (seconds_served xs j l (λ i k. none_in_second p (map (op x) (at i)) (joins op xs (at i)) (none i k)))

    respects_first : (ys : List Tree) → Respects Same (some_passes p op ys)
    respects_first ys t u s = ap is_some (find_agree (λ y. p (op t y)) (λ y. p (op u y))
        (λ y. respects (op t y) (op u y) (carries t u y y s (composes.itself y))) ys)

    joined_served : (i j : ℕ) → 1 ≤ i → 1 ≤ j → i + j ≡ n → find p (joins op (at i) (at j))
        ≡ find p (joins op (kept i) (kept j))
    joined_served i j l k e =
        seconds_served (at i) j (omega arith) (λ r h. none_of_two i r l (omega arith))
        ∙ (find-joined p op (at i) (kept j)
        ∙ (ap (option_and_then (first_joined p op (kept j))) (served i (omega arith) (some_passes p op (kept j))
        (respects_first (kept j)) none_below)
        ∙ sym (find-joined p op (kept i) (kept j)))) where
          none_below : FindsNone (some_passes p op (kept j)) at i
          none_below zero h = subst (λ xs. find (some_passes p op (kept j)) xs ≡ None) (sym none_of_none) refl
          none_below (suc r) h = none_joined p op (at (suc r)) (kept j)
              (sym (seconds_served (at (suc r)) j (omega arith) (λ q g. none_of_two (suc r) q (omega arith)
              (omega arith))) ∙ none_of_two (suc r) j (omega arith) (omega arith))

    splits_served : (left right : ℕ) → 1 ≤ left → left + right ≡ n → find p (splits op at left right)
        ≡ find p (splits op kept left right)
    unfolding splits
    splits_served left zero l e = refl
    splits_served left (suc right) l e =
        same_in_both p (joins op (at left) (at (suc right))) (splits op at (suc left) right)
        (joins op (kept left) (kept (suc right))) (splits op kept (suc left) right)
        (joined_served left (suc right) l (omega arith) e) (splits_served (suc left) right (omega arith) (omega arith))

  -- in all compositions the same is found first as in those of the kept terms
  pub compositions_served : 1 ≤ n → find p (compositions at n) ≡ find p (compositions kept n)
  compositions_served l =
      let one : 1 + (n - 1) ≡ n = omega arith in
      same_in_both p (map rev (at n) ++ map (loop (exactly 1)) (at n) ++ splits seq at 1 (n - 1))
      (splits par at 1 (n - 1)) (map rev (kept n) ++ map (loop (exactly 1)) (kept n) ++ splits seq kept 1 (n - 1))
      (splits par kept 1 (n - 1))
      (same_in_both p (map rev (at n) ++ map (loop (exactly 1)) (at n)) (splits seq at 1 (n - 1)) (map rev (kept n)
      ++ map (loop (exactly 1)) (kept n)) (splits seq kept 1 (n - 1))
      (same_in_both p (map rev (at n)) (map (loop (exactly 1)) (at n)) (map rev (kept n))
      (map (loop (exactly 1)) (kept n)) revised_served looped_served)
      (splits_served seq composes.sequenced (λ i k h. (none_in_each i k h).sequenced) 1 (n - 1) (lit≤ tt) one))
      (splits_served par composes.paralleled (λ i k h. (none_in_each i k h).paralleled) 1 (n - 1) (lit≤ tt) one)
