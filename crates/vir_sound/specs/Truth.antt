-- What judgements say of rules, and which rules of the table are sound.
-- (The program's promises don't stand on this file.)
use Rattle.std.specs.Prelude.{◌≡◌, ℕ, ◌≤◌, List, [], ◌∷◌, Some}
use Rattle.vir_term.specs.declared.leaf.Leaf.{Leaf}
use Rattle.vir_term.specs.declared.leaf.Leaf.TheVariants.{PassFirst, DropFirst}
use Rattle.vir_term.specs.Tree.{Tree, leaf, rev, seq, par, loop, number_of}
use Rattle.vir_mean.specs.Meaning.{mean}
use Rattle.vir_mean.specs.Properties.{Holds}
use Rattle.vir_mean.specs.Disjointness.{AreDisjoint}
use Rattle.vir_rules.specs.Claims.{Claim, of, disj}
use Rattle.vir_rules.specs.Table.{Rule}
use Rattle.vir_rules.specs.Premises.{premises_by, row_of}

-- A claim is true: the property holds of what the term means, or the two meanings are disjoint.
abbrev pub IsTrueClaim : Claim → Type 0
IsTrueClaim (of prop term) = Holds prop (mean term)
IsTrueClaim (disj left right) = AreDisjoint (mean left) (mean right)

-- All of these are true.
abbrev pub AllTrue : List Claim → Type 0
AllTrue [] = Unit {0}
AllTrue (c ∷ rest) = IsTrueClaim c × AllTrue rest

-- A module names no number of alternatives, or at least 1.
abbrev pub IsProperLeaf : Leaf → Type 0
IsProperLeaf (PassFirst k order) = 1 ≤ k
IsProperLeaf (DropFirst k order) = 1 ≤ k
IsProperLeaf _ = Unit {0}

-- Each number of alternatives that a term names is at least 1. This holds of each term within the limits;
-- without it `pass` and `drop` of 0 would break rules.
abbrev pub IsProper : Tree → Type 0
IsProper (leaf l) = IsProperLeaf l
IsProper (rev part) = IsProper part
IsProper (seq first second) = IsProper first × IsProper second
IsProper (par first second) = IsProper first × IsProper second
IsProper (loop k body) = (1 ≤ number_of k) × IsProper body

-- A claim is about such terms.
abbrev pub IsProperClaim : Claim → Type 0
IsProperClaim (of prop term) = IsProper term
IsProperClaim (disj left right) = IsProper left × IsProper right

-- A row is sound: each claim that it concludes is true where its premises are.
abbrev pub IsSoundRow : Rule → Type 0
IsSoundRow row = (c : Claim) (needed : List Claim) → IsProperClaim c → premises_by row c ≡ Some needed → AllTrue needed
    → IsTrueClaim c

-- The rule of this number has this name, and is sound.
pub record IsSound (number : ℕ) (name : List ℕ) : Type 0 where
  pub named : (row_of number).name ≡ name
  pub sound : IsSoundRow (row_of number)
