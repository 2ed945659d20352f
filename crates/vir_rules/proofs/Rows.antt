-- What the rows of the table are, one by one.
use Rattle.std.proofs.Common.{◌≡◌, ℕ, zero, suc, ◌-◌, ◌<◌, ◌≤◌, List, [], ◌∷◌, map, length, get_or, slice_index_or}
use Rattle.std.proofs.Common.{refl, sym, ◌∙◌, ap, arith, sub-one, Bool, true, ◌&&◌, nat_le}
use Rattle.std.proofs.lemmas.Bool.{lt-ltb, le-leb}
use Rattle.std.proofs.lemmas.List.{get_or-map, get_or_default, length-map}
use Rattle.vir_rules.specs.declared.row.Row.{Row}
use Rattle.vir_rules.specs.Counts.{rule_count}
use Rattle.vir_rules.specs.Table.{Rule, table}
use Rattle.vir_rules.specs.Premises.{row_of, is_rule, blank}
use Rattle.vir_rules.specs.Seen.{row_seen}

-- the table has as many rows as there are rules
pub table_is_long : length table ≡ rule_count
unfolding table
table_is_long = refl

-- a list that shows the table shows the row of each rule at its place
pub rows_tell : (rows : List Row) (number rule : ℕ) (other : Row) → map row_seen rows ≡ table → number ≡ rule
    → 1 ≤ number → number ≤ rule_count →
    row_seen (slice_index_or rows (number - 1) other) ≡ row_of rule
unfolding row_of
rows_tell rows zero rule other shown is some few = absurd (omega arith)
rows_tell rows (suc place) rule other shown is some few =
    let inside : place < length table = omega (arith, table_is_long) in
    let within : place < length rows = omega (arith, inside, sym (length-map rows row_seen), ap length shown) in
    rw (sub-one (suc place), sym is) (sym (get_or-map row_seen rows place other (row_seen other) within)
    ∙ ap (λ rules. get_or rules place (row_seen other)) shown
    ∙ get_or_default table place (row_seen other) blank inside)

-- a number from 1 to that of the rules is a rule's
pub rule_within : (number rule : ℕ) → number ≡ rule → 1 ≤ number → number ≤ rule_count → is_rule rule ≡ true
unfolding is_rule
rule_within number rule is some few =
    let within : rule ≤ length table = omega (arith, table_is_long) in
    rw (lt-ltb 0 rule (omega arith)) (le-leb rule (length table) within)

-- whether each rule of a list has at most 4 premises
abbrev have_few_premises : List Rule → Bool
have_few_premises [] = true
have_few_premises (first ∷ rest) = nat_le (length first.premises) 4 && have_few_premises rest

few_at : (rules : List Rule) (place : ℕ) → have_few_premises rules ≡ true
    → length (slice_index_or rules place blank).premises ≤ 4
few_at [] place few = omega arith
few_at (first ∷ rest) zero few = grind arith
few_at (first ∷ rest) (suc place) few = few_at rest place (grind arith)

-- a rule has at most 4 premises
pub few_premises : (rule : ℕ) → length (row_of rule).premises ≤ 4
unfolding row_of table
few_premises rule = few_at (blank ∷ table) rule refl
