-- A loop may go past the number of alternatives that it is to end with.
use Rattle.std.proofs.Common.{◌≡◌, ℕ, ◌+◌, ◌≤◌, Bool, true, false, cond, ◌||◌, ◌&&◌, nat_eq, nat_lt, [], refl, sym, ap}
use Rattle.std.proofs.Common.{ap₂, ◌∙◌, arith}
use Rattle.std.proofs.lemmas.Bool.Decides.{nat_tests}
use Rattle.std.proofs.lemmas.List.Elements.{All-nil}
use Rattle.std.specs.Cmp.{nat_cmp_total}
use Rattle.std.specs.FinSet as set
use Rattle.vir_altset.specs.Sets.{Set, IsPart}
use Rattle.vir_altset.specs.SetLaws.{contains-empty, contains-insert, contains-retain, set_members}
use Rattle.vir_altset.specs.declared.split.Split.{Split}
use Rattle.vir_altset.proofs.SizeLaws.{len-empty, len-insert, len_of_member, len-part}
use Rattle.vir_altset.proofs.SplitLaws.{deferred_part}
use Rattle.vir_profile.specs.Orders.{IsListing}
use Rattle.vir_profile.specs.Profiles.{restrict}
use Rattle.vir_term.specs.declared.prop.Prop.TheVariants.{Defers}
use Rattle.vir_term.specs.declared.leaf.Leaf.TheVariants.{PassFirst}
use Rattle.vir_term.specs.Tree.{Tree, leaf, loop, exactly}
use Rattle.vir_mean.specs.FixedOrders.{is_ahead, is_among_first, first_members}
use Rattle.vir_mean.specs.Modules.{all_deferred}
use Rattle.vir_mean.specs.Compositions.{joined}
use Rattle.vir_mean.specs.Meaning.{mean}
use Rattle.vir_mean.specs.Properties.{Holds, just}
use Rattle.vir_mean.proofs.MeaningLaws.{mean-split}
use Rattle.vir_mean.proofs.LoopLaws.{loop_of-turn}

abbrev nobody : Set
nobody = set.empty

one_two_three : Set
one_two_three = set.insert (set.insert (just 1) 2) 3

len-insert_new : (a : Set) (x : ℕ) → set.contains a x ≡ false → set.len (set.insert a x) ≡ set.len a + 1
len-insert_new a x new = len-insert a x ∙ ap (λ b. cond b (set.len a) (set.len a + 1)) new

len-just : (x : ℕ) → set.len (just x) ≡ 1
len-just x = len-insert_new nobody x (contains-empty x) ∙ ap (λ n. n + 1) len-empty

len-one_two_three : set.len one_two_three ≡ 3
unfolding one_two_three
len-one_two_three =
    let one = len-just 1 in
    let two = len-insert_new (just 1) 2 (grind (arith, nat_tests, set_members)) in
    let three = len-insert_new (set.insert (just 1) 2) 3 (grind (arith, nat_tests, set_members)) in
    omega arith

-- passing the first passes 1 alone
passed : Set
passed = first_members 1 [] one_two_three

contains-one_two_three : (x : ℕ) → set.contains one_two_three x ≡ (nat_eq x 3 || (nat_eq x 2 || nat_eq x 1))
unfolding one_two_three
contains-one_two_three x = grind (arith, nat_tests, set_members)

passed-just : IsPart passed (just 1)
unfolding passed
passed-just x member =
    let ahead : set.contains (set.retain one_two_three (is_ahead [] x)) 1 ≡ nat_lt 1 x = contains-retain one_two_three
    (is_ahead [] x) 1 ∙ ap (λ b. b && nat_lt 1 x) (contains-one_two_three 1) in
    contains-insert nobody 1 x ∙ ap (λ b. b || set.contains nobody x)
    (step x (set.len (set.retain one_two_three (is_ahead [] x))) (set.contains one_two_three x)
    (contains-one_two_three x)
    (sym (contains-retain one_two_three (is_among_first 1 [] one_two_three) x) ∙ member)
    (λ later. len_of_member (set.retain one_two_three (is_ahead [] x)) 1 (ahead ∙ later)))
  where
    step : (x n : ℕ) (inside : Bool) → inside ≡ (nat_eq x 3 || (nat_eq x 2 || nat_eq x 1)) → (inside && nat_lt n 1)
        ≡ true → (nat_lt 1 x ≡ true → 1 ≤ n) → nat_eq x 1 ≡ true
    step x n inside is kept later = grind (arith, nat_tests)

-- so not all are deferred at the first turn
not-all-passed : set.is_subset one_two_three passed ≡ false
not-all-passed = elim (set.is_subset one_two_three passed) as (λ b. set.is_subset one_two_three passed ≡ b
    → b ≡ false) [
      | true ↦ λ e.
          sym (passed-just 2 (set.is_subset-contains nat_cmp_total one_two_three passed e 2 (contains-one_two_three 2)))
          ∙ contains-insert nobody 1 2 ∙ contains-empty 2
      | false ↦ λ e. refl
    ] refl

abbrev cut_loop : Tree
cut_loop = loop (exactly 2) (leaf (PassFirst 1 []))

-- and the loop goes on to 1 alone
cut_loop-deferred : IsPart (mean cut_loop one_two_three []).deferred (just 1)
unfolding passed
cut_loop-deferred x member =
    let next : Split = mean cut_loop passed (restrict passed []) in
    let body : Split = mean (leaf (PassFirst 1 [])) one_two_three [] in
    let turned : mean cut_loop one_two_three [] ≡ joined body next =
    loop_of-turn (exactly 2) (mean (leaf (PassFirst 1 []))) (mean-split (leaf (PassFirst 1 []))) one_two_three []
    ∙ ap (λ b. cond b (all_deferred one_two_three []) (joined body next))
    (ap₂ (λ n c. nat_eq n 2 || c) len-one_two_three not-all-passed) in
    passed-just x (deferred_part passed next (mean-split cut_loop passed (restrict passed [])) x
    (sym (ap (λ s. set.contains s.deferred x) turned) ∙ member))

-- so a loop may defer fewer than the number that it is to end with
pub defers-cut_loop : Holds (Defers 2) (mean cut_loop) → ⊥
defers-cut_loop holds =
    let two = holds one_two_three []
    (record { positive = contains-one_two_three 0; lists = All-nil (λ line. IsListing one_two_three line.order) })
    (let size = len-one_two_three in omega arith) in
    let few = len-part (mean cut_loop one_two_three []).deferred (just 1) cut_loop-deferred in
    let one = len-just 1 in
    absurd (omega arith)
