-- The keys of metadata.
use Rattle.std.specs.Prelude.{ℕ, ◌||◌, List, take, drop, Option, Some, None, if◌then◌else◌, nat_lt, nat_eq, codes}
use Rattle.std.specs.Str.{bytes_eq}
use Rattle.vir_altset.specs.Sets.{limit}
use Rattle.vir_soc.specs.declared.key.Key.{Key}
use Rattle.vir_soc.specs.declared.key.Key.TheVariants.{DataType, Alternatives, Voters, Orders, NameOf, Other}
use Rattle.vir_soc.specs.Numbers.{number}

-- the key of the name of i, where there can be an alternative i
abbrev pub name_key : Option ℕ → Key
name_key None = Other
name_key (Some i) = if nat_eq i 0 || nat_lt limit i then Other else NameOf i

-- what a key asks for
abbrev pub key_of : List ℕ → Key
key_of text =
    if bytes_eq text (codes "DATA TYPE") then DataType
    else if bytes_eq text (codes "NUMBER ALTERNATIVES") then Alternatives
    else if bytes_eq text (codes "NUMBER VOTERS") then Voters
    else if bytes_eq text (codes "NUMBER UNIQUE ORDERS") then Orders
    else if bytes_eq (take 17 text) (codes "ALTERNATIVE NAME ") then name_key (number (drop 17 text))
    else Other
