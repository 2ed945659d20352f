-- How the rows of the table are read: what a rule's premises are, by the row and the letters that the code has.
use Rattle.std.proofs.Common.{◌≡◌, ℕ, true, List, map, length, slice_get, Option, Some, None, option_map, sym, ◌∙◌, ap}
use Rattle.std.specs.Option.{is_some, option_and_then}
use Rattle.std.proofs.lemmas.List.{length-map}
use Rattle.std.proofs.lemmas.Option.{slice_get-map}
use Rattle.vir_rules.specs.declared.letters.Letters.{Letters as Borrowed}
use Rattle.vir_rules.specs.declared.row.Row.{Row}
use Rattle.vir_rules.specs.declared.row.Need.{Need}
use Rattle.vir_rules.specs.Claims.{Claim}
use Rattle.vir_rules.specs.Premises.{row_of, letters_in, filled, premises, premises_by, fits, is_rule}
use Rattle.vir_rules.specs.Seen.{row_seen, letters_seen}

-- the premises, filled in with the letters if there are any
abbrev by_letters : Option Borrowed → List Need → Option (List Claim)
by_letters found needs = option_map (λ letters. map (filled letters) needs) (option_map letters_seen found)

-- the premises of a rule, by its row and the letters of that
premises_read : (row : Row) (rule : ℕ) (c : Claim) (found : Option Borrowed) → row_seen row ≡ row_of rule → is_rule rule
    ≡ true → option_map letters_seen found ≡ letters_in row.1 c →
    premises rule c ≡ by_letters found row.2.now
unfolding premises
premises_read row rule c found shown known read = rw known (ap (λ r. premises_by r c) (sym shown)
    ∙ ap (option_map (λ letters. map (filled letters) row.2.now)) (sym read))

-- a rule fits where there are letters
pub fits_read : (row : Row) (rule : ℕ) (c : Claim) (found : Option Borrowed) → row_seen row ≡ row_of rule → is_rule rule
    ≡ true → option_map letters_seen found ≡ letters_in row.1 c →
    is_some found ≡ fits rule c
fits_read row rule c None shown known read = ap is_some (sym (premises_read row rule c None shown known read))
fits_read row rule c (Some letters) shown known read =
    ap is_some (sym (premises_read row rule c (Some letters) shown known read))

-- where there are no letters, there are no premises
pub none_read : (row : Row) (rule : ℕ) (c : Claim) → row_seen row ≡ row_of rule → is_rule rule ≡ true → None
    ≡ letters_in row.1 c → premises rule c ≡ None
none_read row rule c shown known read = premises_read row rule c None shown known read

-- where there are letters, there are as many premises as the row has
pub count_read : (row : Row) (rule : ℕ) (c : Claim) (letters : Borrowed) → row_seen row ≡ row_of rule → is_rule rule
    ≡ true → Some (letters_seen letters) ≡ letters_in row.1 c →
    option_map length (premises rule c) ≡ Some (length (row_of rule).premises)
count_read row rule c letters shown known read =
    ap (option_map length) (premises_read row rule c (Some letters) shown known read)
    ∙ ap Some (length-map row.2.now (filled (letters_seen letters)) ∙ ap (λ r. length r.premises) shown)

-- where there are letters, each premise is that of the row, filled in
pub premise_read : (row : Row) (rule : ℕ) (c : Claim) (letters : Borrowed) (place : ℕ) → row_seen row ≡ row_of rule
    → is_rule rule ≡ true → Some (letters_seen letters) ≡ letters_in row.1 c →
    option_and_then (λ needed. slice_get needed place) (premises rule c) ≡ option_map (filled (letters_seen letters))
    (slice_get (row_of rule).premises place)
premise_read row rule c letters place shown known read =
    ap (option_and_then (λ needed. slice_get needed place)) (premises_read row rule c (Some letters) shown known read)
    ∙ slice_get-map (filled (letters_seen letters)) row.2.now place
    ∙ ap (λ r. option_map (filled (letters_seen letters)) (slice_get r.premises place)) shown
