-- Scores that are told of all members of a set.
use Rattle.std.proofs.Common.{◌≡◌, ℕ, zero, suc, ◌≤◌, ◌||◌, Bool, true, false, true≢false}
use Rattle.std.proofs.Common.{cond, not, nat_eq, List, [], ◌∷◌, ◌++◌}
use Rattle.std.proofs.Common.{option_map, ℤ, refl, sym, ap, ◌∙◌, arith}
use Rattle.std.proofs.lemmas.Bool.Decides.{nat_tests}
use Rattle.std.proofs.lemmas.List.Folds.{list_any-append}
use Rattle.std.specs.FinSet as set
use Rattle.std.specs.List.{list_any}
use Rattle.vir_altset.specs.Sets.{Set, limit, IsBounded}
use Rattle.vir_altset.specs.Members.{members, members_up_to}
use Rattle.vir_altset.specs.declared.split.Split.{Split}
use Rattle.vir_profile.specs.declared.ballot.Entry.{Entry}
use Rattle.vir_term.specs.declared.leaf.Leaf.{Leaf}
use Rattle.vir_term.specs.declared.leaf.Leaf.TheVariants as leaf
use Rattle.vir_term.specs.declared.score.Score.{Score}
use Rattle.vir_term.specs.declared.score.Score.TheVariants.{Plurality}
use Rattle.vir_mean.specs.declared.elimination.Elimination.TheVariants.{Max, Min, Below, Upto}
use Rattle.vir_mean.specs.Eliminators.{eliminated, is_passed}
use Rattle.vir_mean.specs.Modules.{leaf_mean}
use Rattle.vir_mean.specs.Scores.{score, plurality_score}
use Rattle.vir_mean.proofs.EliminatedSplits.{goes_same, retain_same}
use Rattle.vir_explain.specs.Visits.{scored, scores_by, score_in}
use Rattle.vir_explain.specs.Accounts.{told_of, told_by, split_by}

-- each member is listed
listed_up_to : (n : ℕ) (a : Set) (x : ℕ) → set.contains a x ≡ true → 1 ≤ x → x ≤ n
    → list_any (nat_eq x) (members_up_to n a) ≡ true
unfolding members_up_to
listed_up_to zero a x member low high = absurd (omega arith)
listed_up_to (suc n) a x member low high = elim (nat_eq x (suc n)) as (λ b. nat_eq x (suc n) ≡ b
    → list_any (nat_eq x) (members_up_to (suc n) a) ≡ true) [
      | true ↦ λ e. (let same : x ≡ suc n = grind (arith, nat_tests) in
          let there : set.contains a (suc n) ≡ true = ap (set.contains a) (sym same) ∙ member in
          ap (λ b. list_any (nat_eq x) (cond b (members_up_to n a ++ suc n ∷ []) (members_up_to n a))) there
          ∙ list_any-append (nat_eq x) (members_up_to n a) (suc n ∷ [])
          ∙ ap (λ b. list_any (nat_eq x) (members_up_to n a) || (b || false)) e ∙ last
          (list_any (nat_eq x) (members_up_to n a)))
      | false ↦ λ e. (let before : list_any (nat_eq x) (members_up_to n a) ≡ true = listed_up_to n a x member low
          (grind (arith, nat_tests)) in
          more (set.contains a (suc n)) before)
    ] refl
  where
    last : (b : Bool) → (b || (true || false)) ≡ true
    last b = grind arith

    more : (there : Bool) → list_any (nat_eq x) (members_up_to n a) ≡ true
        → list_any (nat_eq x) (cond there (members_up_to n a ++ suc n ∷ []) (members_up_to n a)) ≡ true
    more true before = list_any-append (nat_eq x) (members_up_to n a) (suc n ∷ [])
        ∙ ap (λ b. b || (nat_eq x (suc n) || false)) before
    more false before = before

pub member_listed : (a : Set) (x : ℕ) → IsBounded a → set.contains a x ≡ true → list_any (nat_eq x) (members a) ≡ true
member_listed a x bounded member = listed_up_to limit a x member (bounded.within x member).0 (bounded.within x member).1

-- what is told of who is listed
told_listed : (f : ℕ → ℤ) (list : List ℕ) (x : ℕ) → list_any (nat_eq x) list ≡ true → told_of (scored f list) x ≡ f x
told_listed f [] x there = absurd (true≢false (sym there))
told_listed f (y ∷ rest) x there = elim (nat_eq x y) as (λ b. nat_eq x y ≡ b
    → cond (nat_eq x y) (f y) (told_of (scored f rest) x) ≡ f x) [
      | true ↦ λ e. (let same : y ≡ x = grind (arith, nat_tests) in ap (λ b. cond b (f y) (told_of (scored f rest) x))
          e ∙ ap f same)
      | false ↦ λ e. ap (λ b. cond b (f y) (told_of (scored f rest) x)) e ∙ told_listed f rest x
          (sym (ap (λ b. b || list_any (nat_eq x) rest) e) ∙ there)
    ] refl

-- so it is of each member
pub told_members : (s : Score) (a : Set) (lines : List Entry) → IsBounded a → (x : ℕ) → set.contains a x ≡ true
    → told_of (scores_by a lines s) x ≡ score s a lines x
told_members s a lines bounded x member = told_listed (score s a lines) (members a) x (member_listed a x bounded member)

-- by the scores that are told, a module splits the set as it means
pub told_split : (l : Leaf) (a : Set) (lines : List Entry) → IsBounded a
    → split_by l a (told_by (option_map (scores_by a lines) (score_in l))) ≡ leaf_mean l a lines
told_split leaf.Elect a lines bounded = refl
told_split leaf.Defer a lines bounded = refl
told_split (leaf.PassFirst k order) a lines bounded = refl
told_split (leaf.DropFirst k order) a lines bounded = refl
told_split leaf.Plurality a lines bounded =
    let told = told_of (scores_by a lines Plurality) in
    let same : set.retain a (λ x. not (is_passed told a x)) ≡ set.retain a (λ x. not
    (is_passed (plurality_score lines) a x)) =
    retain_same a _ _ (λ x member. ap not (goes_same told (plurality_score lines) a
    (told_members Plurality a lines bounded) Max x member)) in
    ap (λ (e : Set). winners e) same
  where
    winners : Set → Split
    winners e = record { elected = e; rejected = set.difference a e; deferred = set.empty }
told_split (leaf.Max s) a lines bounded = ap (eliminated a) (retain_same a _ _ (goes_same
    (told_of (scores_by a lines s)) (score s a lines) a (told_members s a lines bounded) Max))
told_split (leaf.Min s) a lines bounded = ap (eliminated a) (retain_same a _ _ (goes_same
    (told_of (scores_by a lines s)) (score s a lines) a (told_members s a lines bounded) Min))
told_split (leaf.Below s) a lines bounded = ap (eliminated a) (retain_same a _ _
    (goes_same (told_of (scores_by a lines s)) (score s a lines) a (told_members s a lines bounded) Below))
told_split (leaf.Upto s) a lines bounded = ap (eliminated a)
    (retain_same a _ _ (goes_same (told_of (scores_by a lines s)) (score s a lines) a (told_members s a lines bounded)
    Upto))
