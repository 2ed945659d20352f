-- Lines of votes in their usual shape, where some bytes begin with them. The format itself does not stand on this.
-- (The program's promises don't stand on this file.)
use Rattle.std.specs.Prelude.{◌≡◌, ℕ, ◌-◌, ◌<◌, Bool, true, false, List, [], ◌∷◌, ◌++◌, length, None, Ok, if◌then◌else◌}
use Rattle.std.specs.List.{list_any, slice_index_or, slice_split}
use Rattle.vir_profile.specs.declared.ballot.Entry.{Entry}
use Rattle.vir_profile.specs.OrderFaults.{order_fault}
use Rattle.vir_profile.specs.SocFiles.{is_blank, is_line_feed}
use Rattle.vir_soc.specs.LineKinds.{ballots}
use Rattle.vir_soc.specs.Reader.Pieces.{kind_at}
use Rattle.vir_soc.specs.Votes.{is_brace, is_comma, order_after, with_order, with_votes}

-- a line feed stands somewhere in the bytes
abbrev pub HasLineFeed : List ℕ → Type 0
HasLineFeed bytes = list_any is_line_feed bytes ≡ true

-- the bytes begin with the text of this order of m alternatives, which ends in a digit, and the rest stands behind it
pub record BeginsWithOrder (m : ℕ) (bytes order rest : List ℕ) : Type 0 where
  pub text : List ℕ
  pub parts : bytes ≡ text ++ rest
  pub read : order_after m [] (slice_split is_comma text) ≡ Ok order
  pub no_tie : list_any is_brace text ≡ false
  pub one_line : list_any is_line_feed text ≡ false
  pub some : 0 < length text
  pub last : is_blank (slice_index_or text (length text - 1) 0) ≡ false
  pub judged : order_fault m order ≡ None

-- the bytes begin with a line of votes of this weight and this order, and the rest stands behind it; a carriage return
-- at the end of the line doesn't count
pub record BeginsWithVotes (m : ℕ) (bytes : List ℕ) (weight : ℕ) (order rest : List ℕ) : Type 0 where
  pub line : List ℕ
  pub parts : bytes ≡ line ++ rest
  pub one_line : list_any is_line_feed line ≡ false
  pub kind : (number : ℕ) → kind_at number line ≡ ballots line
  pub kind_returned : (number : ℕ) → kind_at number (line ++ 13 ∷ []) ≡ ballots line
  pub says : (votes : List Entry) → with_votes m votes line ≡ with_order m votes weight order
  pub judged : order_fault m order ≡ None

-- the bytes begin with the end of a line, with or without a carriage return, and the rest stands behind it
pub record BeginsWithEnd (bytes rest : List ℕ) : Type 0 where
  pub returned : Bool
  pub parts : bytes ≡ (if returned then 13 ∷ 10 ∷ rest else 10 ∷ rest)

-- the bytes begin with an ended line that leads from these votes on m alternatives to those, and the rest stands
-- behind its line feed
pub record BeginsWithLine (m : ℕ) (bytes : List ℕ) (before after : List Entry) (rest : List ℕ) : Type 0 where
  pub line : List ℕ
  pub parts : bytes ≡ line ++ 10 ∷ rest
  pub one_line : list_any is_line_feed line ≡ false
  pub text : List ℕ
  pub kind : (number : ℕ) → kind_at number line ≡ ballots text
  pub says : with_votes m before text ≡ Ok after
