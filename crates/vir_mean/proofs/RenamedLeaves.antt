-- Modules under other names.
use Rattle.std.proofs.Common.{◌≡◌, ℕ, Bool, true, false, cond, not, ◌&&◌, ◌||◌, List, [], ◌∷◌, map, refl, sym, ap, ap₂}
use Rattle.std.proofs.Common.{◌∙◌, ℤ, pos, ◌+ℤ◌, ◌*ℤ◌, int_lt, int_le, arith}
use Rattle.std.specs.FinSet as set
use Rattle.std.specs.List.{list_any}
use Rattle.vir_altset.specs.Sets.{Set, IsPart}
use Rattle.vir_altset.specs.SetLaws.{contains-retain}
use Rattle.vir_altset.specs.declared.split.Split.{Split}
use Rattle.vir_profile.specs.declared.ballot.Entry.{Entry}
use Rattle.vir_profile.specs.Profiles.{IsProfileOn}
use Rattle.vir_term.specs.declared.score.Score.{Score}
use Rattle.vir_term.specs.declared.score.Score.TheVariants.{Plurality}
use Rattle.vir_mean.specs.declared.elimination.Elimination.{Elimination}
use Rattle.vir_mean.specs.declared.elimination.Elimination.TheVariants.{Max, Min, Below, Upto}
use Rattle.vir_mean.specs.Eliminators.{sum, sum_of, is_passed, goes, eliminated, eliminator}
use Rattle.vir_mean.specs.Listings.{listed}
use Rattle.vir_mean.specs.Modules.{all_elected, all_deferred, plurality_winners, winners_elected}
use Rattle.vir_mean.specs.Neutrality.{IsRenaming, renamed_set, renamed_lines, renamed_split, IsNeutral}
use Rattle.vir_mean.specs.Scores.{score, plurality_score}
use Rattle.vir_mean.proofs.MemberCounts.{Lists, at_head}
use Rattle.vir_mean.proofs.MemberListings.{listed_lists, any_listings, sum_listings}
use Rattle.vir_mean.proofs.MemberSums.{member_of_listed}
use Rattle.vir_mean.proofs.RenamedProfiles.{AllIn, all_in_rest}
use Rattle.vir_mean.proofs.RenamedScores.{score-renamed}
use Rattle.vir_mean.proofs.RenamedSets.{lists-renamed, len-renamed, renamed-empty, renamed-difference, renamed-subset}
use Rattle.vir_mean.proofs.RenamedSets.{renamed-retain}

pub whole : (a : Set) → IsPart a a
whole a x member = member

pub kept_part : (a : Set) (t : ℕ → Bool) → IsPart (set.retain a t) a
kept_part a t x h = first _ _ (sym (contains-retain a t x) ∙ h)
  where
    first : (b c : Bool) → (b && c) ≡ true → b ≡ true
    first b c h = grind arith

module _ (f : ℕ → ℕ) (a : Set) (renaming : IsRenaming f a) where
  -- ---- what is measured alike goes alike
  module _ (g h : ℕ → ℤ) (same : (y : ℕ) → set.contains a y ≡ true → g (f y) ≡ h y) where
    any_in_list : (t : ℤ → Bool) (list : List ℕ) → AllIn a list → list_any (λ y. t (g y)) (map f list)
        ≡ list_any (λ y. t (h y)) list
    any_in_list t [] within = refl
    any_in_list t (y ∷ list) within = ap₂ (λ b c. b || c) (ap t (same y (within y (at_head y list))))
        (any_in_list t list (all_in_rest a y list within))

    sum_in_list : (list : List ℕ) → AllIn a list → sum (map g (map f list)) ≡ sum (map h list)
    sum_in_list [] within = refl
    sum_in_list (y ∷ list) within = ap₂ (λ m n. m +ℤ n) (same y (within y (at_head y list)))
        (sum_in_list list (all_in_rest a y list within))

    new_listed : Lists (renamed_set f a) (map f (listed a))
    new_listed = lists-renamed f a renaming a (whole a) (listed a) (listed_lists a)

    any_renamed : (t : ℤ → Bool) → list_any (λ y. t (g y)) (set.items (renamed_set f a)) ≡ list_any (λ y. t (h y))
        (set.items a)
    any_renamed t =
        any_listings (λ y. t (g y)) (renamed_set f a) (map f (listed a)) new_listed
        ∙ any_in_list t (listed a) (member_of_listed a)
        ∙ sym (any_listings (λ y. t (h y)) a (listed a) (listed_lists a))

    sum_renamed : sum_of g (renamed_set f a) ≡ sum_of h a
    sum_renamed =
        sum_listings g (renamed_set f a) (listed (renamed_set f a)) (map f (listed a)) (listed_lists (renamed_set f a))
        new_listed
        ∙ sum_in_list (listed a) (member_of_listed a)

    pub goes-renamed : (kind : Elimination) (x : ℕ) → set.contains a x ≡ true → goes kind g (renamed_set f a) (f x)
        ≡ goes kind h a x
    goes-renamed Max x inside = any_renamed (λ v. int_lt (g (f x)) v)
        ∙ ap (λ v. list_any (λ y. int_lt v (h y)) (set.items a)) (same x inside)
    goes-renamed Min x inside = ap not (any_renamed (λ v. int_lt v (g (f x)))
        ∙ ap (λ v. list_any (λ y. int_lt (h y) v) (set.items a)) (same x inside))
    goes-renamed Below x inside = ap₂ int_lt (ap₂ (λ v n. v *ℤ pos n) (same x inside)
        (len-renamed f a renaming a (whole a))) sum_renamed
    goes-renamed Upto x inside = ap₂ int_le (ap₂ (λ v n. v *ℤ pos n) (same x inside)
        (len-renamed f a renaming a (whole a))) sum_renamed

  -- ---- splits
  pub eliminated-renamed : (gone : Set) → IsPart gone a → eliminated (renamed_set f a) (renamed_set f gone)
      ≡ renamed_split f (eliminated a gone)
  eliminated-renamed gone part =
      ap (λ b. cond b (record { elected = set.empty; rejected = set.empty; deferred = renamed_set f a })
      (record {
        elected = set.empty;
        rejected = renamed_set f gone;
        deferred = set.difference (renamed_set f a) (renamed_set f gone);
      }))
      (renamed-subset f a renaming a gone (whole a) part)
      ∙ step (set.is_subset a gone)
    where
      step : (b : Bool)
          → ◌≡◌ {A = Split} (cond b (record { elected = set.empty; rejected = set.empty; deferred = renamed_set f a })
          (record {
            elected = set.empty;
            rejected = renamed_set f gone;
            deferred = set.difference (renamed_set f a) (renamed_set f gone);
          }))
          (renamed_split f (cond b (record { elected = set.empty; rejected = set.empty; deferred = a })
          (record { elected = set.empty; rejected = gone; deferred = set.difference a gone })))
      step true = λ i. record {
        elected = sym (renamed-empty f) i;
        rejected = sym (renamed-empty f) i;
        deferred = renamed_set f a;
      }
      step false = λ i. record {
        elected = sym (renamed-empty f) i;
        rejected = renamed_set f gone;
        deferred = renamed-difference f a renaming a gone (whole a) part i;
      }

  pub eliminator-renamed : (kind : Elimination) (s : Score) (p : List Entry) → IsProfileOn a p
      → eliminator kind s (renamed_set f a) (renamed_lines f p) ≡ renamed_split f (eliminator kind s a p)
  eliminator-renamed kind s p on =
      ap (eliminated (renamed_set f a))
      (renamed-retain f a renaming (goes kind (score s (renamed_set f a) (renamed_lines f p)) (renamed_set f a))
      (goes kind (score s a p) a)
      (goes-renamed (score s (renamed_set f a) (renamed_lines f p)) (score s a p) (score-renamed f a renaming p on s)
      kind))
      ∙ eliminated-renamed (set.retain a (goes kind (score s a p) a)) (kept_part a _)

  pub plurality_winners-renamed : (p : List Entry) → IsProfileOn a p → plurality_winners (renamed_set f a)
      (renamed_lines f p) ≡ renamed_set f (plurality_winners a p)
  plurality_winners-renamed p on = renamed-retain f a renaming
      (λ z. not (is_passed (plurality_score (renamed_lines f p)) (renamed_set f a) z))
      (λ x. not (is_passed (plurality_score p) a x))
      (λ x inside. ap not (goes-renamed (plurality_score (renamed_lines f p)) (plurality_score p)
      (score-renamed f a renaming p on Plurality) Max x inside))

-- ---- the modules
pub elect-neutral : IsNeutral all_elected
elect-neutral a p f on renaming = λ i. record {
  elected = renamed_set f a;
  rejected = sym (renamed-empty f) i;
  deferred = sym (renamed-empty f) i;
}

pub defer-neutral : IsNeutral all_deferred
defer-neutral a p f on renaming = λ i. record {
  elected = sym (renamed-empty f) i;
  rejected = sym (renamed-empty f) i;
  deferred = renamed_set f a;
}

pub plurality-neutral : IsNeutral winners_elected
plurality-neutral a p f on renaming =
    let winners = plurality_winners-renamed f a renaming p on.lists in
    let losers : set.difference (renamed_set f a) (plurality_winners (renamed_set f a) (renamed_lines f p))
    ≡ renamed_set f (set.difference a (plurality_winners a p))
    = ap (set.difference (renamed_set f a)) winners ∙ renamed-difference f a renaming a (plurality_winners a p)
    (whole a) (kept_part a _) in
    λ i. record { elected = winners i; rejected = losers i; deferred = sym (renamed-empty f) i }

pub eliminator-neutral : (kind : Elimination) (s : Score) → IsNeutral (eliminator kind s)
eliminator-neutral kind s a p f on renaming = eliminator-renamed f a renaming kind s p on.lists
