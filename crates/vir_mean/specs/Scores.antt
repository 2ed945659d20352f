-- What the members of a set are measured by: whole numbers, on sets and profiles of any size.
use Rattle.std.specs.Prelude.{ℕ, Bool, ◌||◌, nat_eq, nat_lt, List, ℤ, pos, ◌-ℤ◌}
use Rattle.std.specs.FinSet as set
use Rattle.std.specs.List.{list_all}
use Rattle.vir_altset.specs.Sets.{Set}
use Rattle.vir_altset.specs.Splits.{bit}
use Rattle.vir_profile.specs.declared.ballot.Entry.{Entry}
use Rattle.vir_profile.specs.Profiles.{pairwise_weight, first_weight}
use Rattle.vir_term.specs.declared.score.Score.{Score}
use Rattle.vir_term.specs.declared.score.Score.TheVariants.{Plurality, Borda, Copeland, Minimax, Condorcet}
use Rattle.vir_mean.specs.Listings.{others, total, least}

-- whether more voters put x before y than y before x
abbrev pub beats : List Entry → ℕ → ℕ → Bool
beats lines x y = nat_lt (pairwise_weight lines y x) (pairwise_weight lines x y)

-- whether x beats each other member of the set: a member that does is its Condorcet winner
abbrev pub beats_all : ℕ → Set → List Entry → Bool
beats_all x a lines = list_all (λ y. nat_eq y x || beats lines x y) (set.items a)

-- how many voters put x first
abbrev pub plurality_score : List Entry → ℕ → ℤ
plurality_score lines x = pos (first_weight lines x)

-- how many voters put x before another member, added up over the other members
abbrev pub borda_score : Set → List Entry → ℕ → ℤ
borda_score a lines x = pos (total (pairwise_weight lines x) (others x a))

-- how many members x beats, less how many beat x
abbrev pub copeland_score : Set → List Entry → ℕ → ℤ
copeland_score a lines x =
    pos (set.len (set.retain a (λ y. beats lines x y))) -ℤ pos (set.len (set.retain a (λ y. beats lines y x)))

-- how many voters put x before another member, where these are fewest
abbrev pub minimax_score : Set → List Entry → ℕ → ℤ
minimax_score a lines x = pos (least (pairwise_weight lines x) (others x a))

-- 1 for the Condorcet winner, and 0 for each other member
abbrev pub condorcet_score : Set → List Entry → ℕ → ℤ
condorcet_score a lines x = pos (bit (beats_all x a lines))

-- the score of a member of a set, by its name
abbrev pub score : Score → Set → List Entry → ℕ → ℤ
score Plurality a = plurality_score
score Borda a = borda_score a
score Copeland a = copeland_score a
score Minimax a = minimax_score a
score Condorcet a = condorcet_score a
