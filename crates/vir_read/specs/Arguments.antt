-- The arguments that are no terms: numbers, fixed orders and scores.
use Rattle.std.specs.Prelude.{◌≡◌, ℕ, ◌+◌, ◌-◌, ◌*◌, Bool, true, false, ◌&&◌, ◌||◌, List, [], ◌∷◌, ◌++◌, take, drop}
use Rattle.std.specs.Prelude.{Option, Some, None, Ok, Err, is_some, if◌then◌else◌, nat_le, nat_eq}
use Rattle.std.specs.List.{list_any}
use Rattle.vir_term.specs.declared.score.Score.{Score}
use Rattle.vir_term.specs.Orders.{member_limit}
use Rattle.vir_term.specs.Limits.{count_limit, IsWithinLimits}
use Rattle.vir_term.specs.Tree.{Tree}
use Rattle.vir_read.specs.declared.text_fault.TextKind.TheVariants.{UnknownName, WrongCountOfArguments, WrongSort}
use Rattle.vir_read.specs.declared.text_fault.TextKind.TheVariants.{BadNumber, RepeatedInOrder}
use Rattle.vir_read.specs.Faults.{OrFault, ◌>>=◌, fault}
use Rattle.vir_read.specs.RawTrees.{RawTree, RawTrees, word, number, bracket, none, more, list_of}
use Rattle.vir_read.specs.BuiltIns.{score_named, built_in_named}

-- the terms that names stand for
abbrev pub Names : Type 0
Names = List ℕ → Option Tree

-- all these terms are within the limits
abbrev pub AreWithinLimits : Names → Type 0
AreWithinLimits names = (name : List ℕ) (t : Tree) → names name ≡ Some t → IsWithinLimits t

-- the bytes of a text from a place to before another one
abbrev pub span : List ℕ → ℕ → ℕ → List ℕ
span text start end = take (end - start) (drop start text)

-- the number that these digits write, behind those of n
abbrev pub value_after : ℕ → List ℕ → ℕ
value_after n [] = n
value_after n (d ∷ rest) = value_after (n * 10 + (d - 48)) rest

-- the number that a span of digits writes
abbrev pub value_at : List ℕ → ℕ → ℕ → ℕ
value_at text start end = value_after 0 (span text start end)

-- a number from 1 to the greatest that may stand here
abbrev pub ranged : ℕ → ℕ → ℕ → OrFault ℕ
ranged most at n = if nat_le 1 n && nat_le n most then Ok n else Err (fault BadNumber at)

-- Where a number is wanted.
abbrev pub count_of : List ℕ → RawTree → OrFault ℕ
count_of text (number start end) = ranged count_limit start (value_at text start end)
count_of text (word start end parts) = Err (fault WrongSort start)
count_of text (bracket start members) = Err (fault WrongSort start)

-- a member behind these, where it isn't one of them
abbrev pub unrepeated : ℕ → List ℕ → ℕ → OrFault (List ℕ)
unrepeated at before n = if list_any (λ y. nat_eq y n) before then Err (fault RepeatedInOrder at)
    else Ok (before ++ n ∷ [])

-- one more member of a fixed order
abbrev pub with_member : List ℕ → List ℕ → RawTree → OrFault (List ℕ)
with_member text before (number start end) = ranged member_limit start (value_at text start end)
    >>= unrepeated start before
with_member text before (word start end parts) = Err (fault WrongSort start)
with_member text before (bracket start members) = Err (fault WrongSort start)

-- and more of them, from left to right
abbrev pub with_members : List ℕ → List ℕ → List RawTree → OrFault (List ℕ)
with_members text before [] = Ok before
with_members text before (m ∷ rest) = with_member text before m >>= λ so_far. with_members text so_far rest

-- Where a fixed order is wanted.
abbrev pub order_of : List ℕ → RawTree → OrFault (List ℕ)
order_of text (bracket start members) = with_members text [] (list_of members)
order_of text (word start end parts) = Err (fault WrongSort start)
order_of text (number start end) = Err (fault WrongSort start)

-- whether a name is built in or defined
abbrev pub is_known : Names → List ℕ → Bool
is_known names name = is_some (built_in_named name) || is_some (names name)

-- a word that is no score, and known or not
abbrev pub no_score : ℕ → Bool → OrFault Score
no_score at true = Err (fault WrongSort at)
no_score at false = Err (fault UnknownName at)

abbrev pub as_score : ℕ → RawTrees → Bool → Option Score → OrFault Score
as_score at parts known None = no_score at known
as_score at none known (Some s) = Ok s
as_score at (more _ _) known (Some s) = Err (fault WrongCountOfArguments at)

-- Where a score is wanted.
abbrev pub score_argument : List ℕ → Names → RawTree → OrFault Score
score_argument text names (word start end parts) = as_score start parts (is_known names (span text start end))
    (score_named (span text start end))
score_argument text names (number start end) = Err (fault WrongSort start)
score_argument text names (bracket start members) = Err (fault WrongSort start)
