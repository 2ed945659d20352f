-- The content after a line of metadata.
use Rattle.std.specs.Prelude.{ℕ, Bool, false, not, List, Option, Some, None, Result, Ok, nat_lt, nat_eq, codes}
use Rattle.std.specs.Option.{ok_or, option_map, unwrap_or}
use Rattle.std.specs.Str.{bytes_eq, str_to_ascii_lowercase}
use Rattle.vir_altset.specs.Sets.{limit}
use Rattle.vir_profile.specs.Profiles.{voters_limit}
use Rattle.vir_soc.specs.declared.key.Key.{Key}
use Rattle.vir_soc.specs.declared.key.Key.TheVariants.{DataType, Alternatives, Voters, Orders, NameOf, Other}
use Rattle.vir_soc.specs.declared.kind.SocKind.{SocKind}
use Rattle.vir_soc.specs.declared.kind.SocKind.TheVariants.{BadNumber, TooManyAlternatives, WrongType, CountDiffers}
use Rattle.vir_soc.specs.declared.stated.Stated.{Stated}
use Rattle.vir_soc.specs.Checks.{◌>>=◌, refuse}
use Rattle.vir_soc.specs.Names.{with_name}
use Rattle.vir_soc.specs.Numbers.{number}
use Rattle.vir_soc.specs.Content.{Content}

-- whether an earlier line stated another number
abbrev pub differs : Option ℕ → ℕ → Bool
differs None n = false
differs (Some earlier) n = not (nat_eq n earlier)

-- the number of alternatives, after a line that states it
abbrev pub alternatives_stated : Option ℕ → List ℕ → Result ℕ SocKind
alternatives_stated earlier value = do
  m ← ok_or (number value) BadNumber
  _ ← refuse (nat_eq m 0) BadNumber
  _ ← refuse (nat_lt limit m) TooManyAlternatives
  _ ← refuse (differs earlier m) CountDiffers
  Ok m

-- a number of voters or of orders, after a line that states it; it stays at its first line
abbrev pub number_stated : Option Stated → ℕ → List ℕ → Result Stated SocKind
number_stated earlier line value = do
  n ← ok_or (number value) BadNumber
  _ ← refuse (nat_lt voters_limit n) BadNumber
  _ ← refuse (differs (option_map (λ t. t.value) earlier) n) CountDiffers
  Ok (unwrap_or earlier (record { value = n; line = line }))

-- `soc`, ASCII case ignored
abbrev pub is_soc : List ℕ → Bool
is_soc value = bytes_eq (str_to_ascii_lowercase value) (codes "soc")

-- the content after a key with its value; another key is skipped
abbrev pub after_key : Content → ℕ → Key → List ℕ → Result Content SocKind
after_key content line DataType value = do
  _ ← refuse (not (is_soc value)) WrongType
  Ok content
after_key content line Alternatives value = do
  m ← alternatives_stated content.alternatives value
  Ok (record content { alternatives = Some m })
after_key content line Voters value = do
  stated ← number_stated content.voters line value
  Ok (record content { voters = Some stated })
after_key content line Orders value = do
  stated ← number_stated content.orders line value
  Ok (record content { orders = Some stated })
after_key content line (NameOf i) value = Ok (record content { names = with_name i value content.names })
after_key content line Other value = Ok content
