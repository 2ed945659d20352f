-- The text of how many voters put one alternative before another, for each ordered pair, and of the Condorcet winner.
use Rattle.std.specs.Prelude.{ℕ, zero, suc, List, [], ◌∷◌, ◌++◌, codes, decimal, map, Some, None}
use Rattle.std.specs.Prelude.{MatchOption, Bool, if◌then◌else◌}
use Rattle.std.specs.List.{flat_map}
use Rattle.std.specs.declared.option.Option.{Option}
use Rattle.vir_altset.specs.Sets.{all}
use Rattle.vir_profile.specs.declared.ballot.Entry.{Entry}
use Rattle.vir_profile.specs.Profiles.{Votes, pairwise_weight}
use Rattle.vir_profile.specs.Winners.{IsCondorcetWinner}
use Rattle.vir_mean.specs.Scores.{beats_all}
use Rattle.vir_report.specs.ResultText.{spaced}

-- the first of two, if there is one
abbrev pub or_else : Option ℕ → Option ℕ → Option ℕ
or_else (Some x) next = Some x
or_else None next = next

-- the numbers from 1 to n
unfoldable pub up_to : ℕ → List ℕ
up_to zero = []
up_to (suc n) = up_to n ++ suc n ∷ []

-- the row of x: how many voters put it before 1, before 2, and so on to n; before itself none do
abbrev pub row_line : List Entry → ℕ → ℕ → List ℕ
row_line lines n x = codes "prefer " ++ decimal x ++ codes ":" ++ spaced (map (pairwise_weight lines x) (up_to n))
    ++ codes "\n"

-- the rows of all alternatives
abbrev pub rows_text : Votes → List ℕ
rows_text votes = flat_map (row_line votes.lines votes.alternatives) (up_to votes.alternatives)

-- the winner's number, or that there is none
abbrev pub winner_text : Option ℕ → List ℕ
winner_text (Some w) = decimal w
winner_text None = codes "none"

-- the line of the Condorcet winner
abbrev pub winner_line : Option ℕ → List ℕ
winner_line winner = codes "condorcet winner: " ++ winner_text winner ++ codes "\n"

-- the first of the numbers from 1 to n that passes a test
unfoldable pub first_up_to : (ℕ → Bool) → ℕ → Option ℕ
first_up_to test zero = None
first_up_to test (suc n) = or_else (first_up_to test n) (if test (suc n) then Some (suc n) else None)

-- who beats each other alternative
abbrev pub winner_of : Votes → Option ℕ
winner_of votes = first_up_to (λ w. beats_all w (all votes.alternatives) votes.lines) votes.alternatives

-- It is the Condorcet winner of all alternatives, or there is none.
abbrev pub IsWinner : Votes → Option ℕ → Type 0
IsWinner votes winner = MatchOption winner
    ((w : ℕ) → IsCondorcetWinner w (all votes.alternatives) votes.lines → ⊥)
    (λ w. IsCondorcetWinner w (all votes.alternatives) votes.lines)

-- the rows of all pairs, and who the Condorcet winner is, or that there is none
abbrev pub pairs_text : Votes → List ℕ
pairs_text votes = rows_text votes ++ winner_line (winner_of votes)
