-- The content after a line of votes.
use Rattle.std.specs.Prelude.{ℕ, ◌+◌, ◌||◌, Bool, not, List, [], ◌∷◌, ◌++◌, length, Result, Ok, nat_le, nat_lt, nat_eq}
use Rattle.std.specs.List.{list_any, slice_split, before_first, after_first}
use Rattle.std.specs.Option.{ok_or}
use Rattle.vir_profile.specs.declared.ballot.Entry.{Entry}
use Rattle.vir_profile.specs.Profiles.{lines_limit, voters_limit, total_weight}
use Rattle.vir_soc.specs.declared.kind.SocKind.{SocKind}
use Rattle.vir_soc.specs.declared.kind.SocKind.TheVariants.{NoAlternativeCount, BadCount, NoColon, BadEntry, OutOfRange}
use Rattle.vir_soc.specs.declared.kind.SocKind.TheVariants.{Repeated, Short, Tie, TooManyOrders, TooManyVoters}
use Rattle.vir_soc.specs.Checks.{◌>>=◌, refuse}
use Rattle.vir_soc.specs.Lines.{trim}
use Rattle.vir_soc.specs.LineKinds.{is_colon}
use Rattle.vir_soc.specs.Numbers.{number}
use Rattle.vir_soc.specs.Content.{Content}

abbrev pub is_comma : ℕ → Bool
is_comma c = nat_eq c 44

-- a brace, which stands round alternatives that tie
abbrev pub is_brace : ℕ → Bool
is_brace c = nat_eq c 123 || nat_eq c 125

-- the one of m alternatives that a part of an order names
abbrev pub alternative : ℕ → List ℕ → Result ℕ SocKind
alternative m part = do
  x ← ok_or (number (trim part)) BadEntry
  _ ← refuse (nat_eq x 0 || nat_lt m x) OutOfRange
  Ok x

-- the alternatives that these parts name, after those that were named before
unfoldable pub order_after : ℕ → List ℕ → List (List ℕ) → Result (List ℕ) SocKind
order_after m before [] = Ok before
order_after m before (part ∷ parts) = do
  x ← alternative m part
  _ ← refuse (list_any (λ y. nat_eq y x) before) Repeated
  order_after m (before ++ x ∷ []) parts

-- the votes, with a further line of this count and this order
abbrev pub with_order : ℕ → List Entry → ℕ → List ℕ → Result (List Entry) SocKind
with_order m votes count order = do
  _ ← refuse (nat_lt (length order) m) Short
  _ ← refuse (nat_le lines_limit (length votes)) TooManyOrders
  _ ← refuse (nat_lt voters_limit (total_weight votes + count)) TooManyVoters
  Ok (votes ++ record { weight = count; order = order } ∷ [])

-- the votes on m alternatives, after a further line
abbrev pub with_votes : ℕ → List Entry → List ℕ → Result (List Entry) SocKind
with_votes m votes text = do
  _ ← refuse (not (list_any is_colon text)) NoColon
  count ← ok_or (number (trim (before_first is_colon text))) BadCount
  let rest = after_first is_colon text
  _ ← refuse (list_any is_brace rest) Tie
  order ← order_after m [] (slice_split is_comma rest)
  with_order m votes count order

-- the content after a line of votes
abbrev pub after_votes : Content → List ℕ → Result Content SocKind
after_votes content text = do
  m ← ok_or content.alternatives NoAlternativeCount
  votes ← with_votes m content.votes text
  Ok (record content { votes = votes })
