-- Sets, splits and profiles on parts of a set.
use Rattle.std.proofs.Common.{◌≡◌, ℕ, ◌<◌, ◌≤◌, Bool, true, false, cond, List, [], ◌∷◌, nat_lt, refl, sym, ap, ◌∙◌}
use Rattle.std.proofs.Common.{subst, arith}
use Rattle.std.proofs.lemmas.Bool.Decides.{nat_tests}
use Rattle.std.specs.Cmp.{nat_cmp_total}
use Rattle.std.specs.FinSet as set
use Rattle.std.specs.List.{filter}
use Rattle.vir_altset.specs.Sets.{Set, IsPart}
use Rattle.vir_altset.specs.SetLaws.{same_members, set_members}
use Rattle.vir_altset.specs.declared.split.Split.{Split}
use Rattle.vir_altset.proofs.SizeLaws.{whole_part}
use Rattle.vir_profile.specs.declared.ballot.Entry.{Entry}
use Rattle.vir_profile.specs.Profiles.{restrict, restricted_line}
use Rattle.vir_mean.specs.Compositions.{joined}
use Rattle.vir_compile.specs.Exec.{undecided}

pub same_split : (s t : Split) → s.elected ≡ t.elected → s.rejected ≡ t.rejected → s.deferred ≡ t.deferred → s ≡ t
same_split s t e r d = λ i. record { elected = e i; rejected = r i; deferred = d i }

union_empty : (a : Set) → set.union a set.empty ≡ a
union_empty a = same_members _ _ (λ x. grind (arith, nat_tests, set_members))

empty_union : (a : Set) → set.union set.empty a ≡ a
empty_union a = same_members _ _ (λ x. grind (arith, nat_tests, set_members))

union_assoc : (a b c : Set) → set.union (set.union a b) c ≡ set.union a (set.union b c)
union_assoc a b c = same_members _ _ (λ x. grind (arith, nat_tests, set_members))

-- a split joined with none of what it defers
pub joined-undecided : (s : Split) → joined s (undecided s.deferred) ≡ s
joined-undecided s = same_split _ _ (union_empty s.elected) (union_empty s.rejected) refl

pub undecided-joined : (a : Set) (s : Split) → joined (undecided a) s ≡ s
undecided-joined a s = same_split _ _ (empty_union s.elected) (empty_union s.rejected) refl

pub joined_assoc : (s t u : Split) → joined (joined s t) u ≡ joined s (joined t u)
joined_assoc s t u = same_split _ _ (union_assoc _ _ _) (union_assoc _ _ _) refl

-- parts of parts are parts
pub part_of_part : (c b a : Set) → IsPart c b → IsPart b a → IsPart c a
part_of_part c b a one two x member = two x (one x member)

-- a part that lacks a member is smaller
pub part_less : (d a : Set) → IsPart d a → set.is_subset a d ≡ false → set.len d < set.len a
part_less d a part lacks =
    elim (nat_lt (set.len d) (set.len a)) as (λ b. nat_lt (set.len d) (set.len a) ≡ b → set.len d < set.len a) [
      | true ↦ λ e. grind (arith, nat_tests)
      | false ↦ λ e.
          let large : set.len a ≤ set.len d = grind (arith, nat_tests) in
          let same : d ≡ a = whole_part d a part large in
          let has : set.is_subset a d ≡ true = set.contains-is_subset nat_cmp_total a d
          (λ x member. subst (λ s. set.contains s x ≡ true) (sym same) member) in
          absurd cc
    ] refl

-- what a set keeps of what a greater one keeps
filter_filter : (d a : Set) → IsPart d a → (xs : List ℕ) → filter (set.contains d) (filter (set.contains a) xs)
    ≡ filter (set.contains d) xs
filter_filter d a part [] = refl
filter_filter d a part (x ∷ xs) = step (filter_filter d a part xs) (set.contains d x) (set.contains a x) (part x) refl
  where
    step : filter (set.contains d) (filter (set.contains a) xs) ≡ filter (set.contains d) xs → (in_d in_a : Bool)
        → (in_d ≡ true → in_a ≡ true) → set.contains d x ≡ in_d
        → filter (set.contains d) (cond in_a (x ∷ filter (set.contains a) xs) (filter (set.contains a) xs))
        ≡ cond in_d (x ∷ filter (set.contains d) xs) (filter (set.contains d) xs)
    step same_rest true true h e =
        ap (λ b. cond b (x ∷ filter (set.contains d) (filter (set.contains a) xs))
        (filter (set.contains d) (filter (set.contains a) xs))) e ∙ ap (λ l. x ∷ l) same_rest
    step same_rest true false h e = absurd (let wrong : false ≡ true = h refl in cc)
    step same_rest false true h e =
        ap (λ b. cond b (x ∷ filter (set.contains d) (filter (set.contains a) xs))
        (filter (set.contains d) (filter (set.contains a) xs))) e ∙ same_rest
    step same_rest false false h e = same_rest

-- a profile restricted to a part of a set to which it was restricted
pub restrict_restrict : (d a : Set) → IsPart d a → (lines : List Entry) → restrict d (restrict a lines)
    ≡ restrict d lines
restrict_restrict d a part [] = refl
restrict_restrict d a part (line ∷ lines) =
    ap (λ o. record line { order = o } ∷ restrict d (restrict a lines)) (filter_filter d a part line.order)
    ∙ ap (λ l. restricted_line d line ∷ l) (restrict_restrict d a part lines)
