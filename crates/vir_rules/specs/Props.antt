-- Properties as the rules write and compare them.
use Rattle.std.specs.Prelude.{ℕ, Bool, ◌&&◌, nat_eq, List, [], ◌++◌, codes, decimal}
use Rattle.vir_term.specs.declared.prop.Prop.{Prop}
use Rattle.vir_term.specs.declared.prop.Prop.TheVariants.{Ne, Ea, El, Defers, Rejects, Elim, Nb, Decr, Dli, Imono}
use Rattle.vir_term.specs.declared.prop.Prop.TheVariants.{Dimono, Dmono, Mono, Cc, Dcc, Cprog, Ccomp, Neut}

-- the place of a property in their order, from 1
abbrev pub rank : Prop → ℕ
rank Ne = 1
rank Ea = 2
rank El = 3
rank (Defers k) = 4
rank (Rejects k) = 5
rank (Elim k) = 6
rank Nb = 7
rank Decr = 8
rank Dli = 9
rank Imono = 10
rank Dimono = 11
rank Dmono = 12
rank Mono = 13
rank Cc = 14
rank Dcc = 15
rank Cprog = 16
rank Ccomp = 17
rank Neut = 18

-- the number of a property; 0 where it has none
abbrev pub number_of : Prop → ℕ
number_of (Defers k) = k
number_of (Rejects k) = k
number_of (Elim k) = k
number_of _ = 0

-- whether two properties are one
abbrev pub is_same : Prop → Prop → Bool
is_same p q = nat_eq (rank p) (rank q) && nat_eq (number_of p) (number_of q)

-- the name of a property, without its number
abbrev pub prop_word : Prop → List ℕ
prop_word Ne = codes "ne"
prop_word Ea = codes "ea"
prop_word El = codes "el"
prop_word (Defers k) = codes "defers"
prop_word (Rejects k) = codes "rejects"
prop_word (Elim k) = codes "elim"
prop_word Nb = codes "nb"
prop_word Decr = codes "decr"
prop_word Dli = codes "dli"
prop_word Imono = codes "imono"
prop_word Dimono = codes "dimono"
prop_word Dmono = codes "dmono"
prop_word Mono = codes "mono"
prop_word Cc = codes "cc"
prop_word Dcc = codes "dcc"
prop_word Cprog = codes "cprog"
prop_word Ccomp = codes "ccomp"
prop_word Neut = codes "neut"

-- a number in parentheses
abbrev pub in_parentheses : ℕ → List ℕ
in_parentheses k = codes "(" ++ decimal k ++ codes ")"

-- what stands behind the name of a property: its number, where it has one
abbrev pub number_text : Prop → List ℕ
number_text (Defers k) = in_parentheses k
number_text (Rejects k) = in_parentheses k
number_text (Elim k) = in_parentheses k
number_text _ = []

-- the text of a property
abbrev pub prop_text : Prop → List ℕ
prop_text prop = prop_word prop ++ number_text prop
