-- What a member gets from all lines.
use Rattle.std.proofs.Common.{◌≡◌, ℕ, suc, ◌+◌, ◌*◌, ◌<◌, ◌≤◌, List, [], ◌∷◌, length, get_or, drop, sym, ap, ◌∙◌}
use Rattle.std.proofs.Common.{arith, add-one, ◌^◌, ℤ, pos}
use Rattle.std.proofs.Math.Nat.{mul-le-mul_left}
use Rattle.std.proofs.Math.Seq.{drop-cons}
use Rattle.std.proofs.lemmas.Int.{ints}
use Rattle.std.proofs.lemmas.List.Sums.{sum_by-cons}
use Rattle.std.specs.FinSet as set
use Rattle.std.specs.List.{filter}
use Rattle.vir_altset.specs.Sets.{Set}
use Rattle.vir_profile.specs.declared.ballot.Entry.{Entry}
use Rattle.vir_profile.specs.Profiles.{restrict, restricted_line, total_weight}
use Rattle.vir_mean.specs.FixedOrders.{place}
use Rattle.vir_mean.specs.Numbers.{score_bound, IsWithin}
use Rattle.vir_tables.proofs.FirstPlaces.{total_weight-restrict}
use Rattle.vir_positional.specs.Positional.{weighed}

-- from the first line it gets the weight of its place from each voter
pub weighed-cons : (f : ℕ → ℕ) (line : Entry) (lines : List Entry) (x : ℕ) → weighed f (line ∷ lines) x
    ≡ line.weight * f (place x line.order) + weighed f lines x
weighed-cons f line lines x = sum_by-cons (λ (e : Entry). e.weight * f (place x e.order)) line lines

-- where no weight is above 1,000,000, it gets at most that from each voter
weighed-le : (f : ℕ → ℕ) → ((i : ℕ) → f i ≤ 1000000) → (lines : List Entry) (x : ℕ) → weighed f lines x ≤ total_weight
    lines * 1000000
weighed-le f small [] x = omega arith
weighed-le f small (line ∷ lines) x =
    let first = weighed-cons f line lines x in
    let most = mul-le-mul_left line.weight (small (place x line.order)) in
    let rest = weighed-le f small lines x in
    let voters = sum_by-cons (λ (e : Entry). e.weight) line lines in
    omega arith

pub restricted_weighed-le : (f : ℕ → ℕ) → ((i : ℕ) → f i ≤ 1000000) → (d : Set) (lines : List Entry) (x : ℕ)
    → weighed f (restrict d lines) x ≤ total_weight lines * 1000000
restricted_weighed-le f small d lines x = let most = weighed-le f small (restrict d lines) x in let same =
    total_weight-restrict d lines in omega arith

-- the next line
pub weighed-drop : (f : ℕ → ℕ) (x : ℕ) (d : Set) (lines : List Entry) (i : ℕ) (line : Entry) → i < length lines → line
    ≡ get_or lines i line
    → weighed f (restrict d (drop i lines)) x ≡ line.weight * f (place x (filter (set.contains d) line.order))
    + weighed f (restrict d (drop (i + 1) lines)) x
weighed-drop f x d lines i line within here =
    ap (λ p. weighed f (restrict d p) x) (drop-cons lines i line within)
    ∙ weighed-cons f (restricted_line d (get_or lines i line)) (restrict d (drop (suc i) lines)) x
    ∙ ap (λ (e : Entry). e.weight * f (place x (filter (set.contains d) e.order))
    + weighed f (restrict d (drop (suc i) lines)) x) (sym here)
    ∙ ap (λ k. line.weight * f (place x (filter (set.contains d) line.order)) + weighed f (restrict d (drop k lines)) x)
    (sym (add-one i))

-- a score that is a small sum is within the bound of scores
pub natural_score : (z : ℤ) (n m : ℕ) → z ≡ pos n → m ≡ n → m ≤ 1000000 * 2 ^ 64 → IsWithin score_bound z
natural_score z n m is same most = record { low = omega (arith, ints); high = omega (arith, ints) }
