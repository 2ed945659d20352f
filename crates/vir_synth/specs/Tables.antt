-- What the search keeps: of each signature the first term.
-- (The program's promises don't stand on this file.)
use Rattle.std.specs.Prelude.{◌≡◌, ℕ, true, List, ◌++◌, map, All, Contains}
use Rattle.indexmap.specs.IndexSet.{contains}
use Rattle.vir_term.specs.Tree.{Tree, tree, rev, seq, par, loop, exactly}
use Rattle.vir_synth.specs.declared.form.Joint.{Joint}
use Rattle.vir_synth.specs.declared.form.Joint.TheVariants as joint
use Rattle.vir_synth.specs.declared.form.Single.{Single}
use Rattle.vir_synth.specs.declared.form.Single.TheVariants as single
use Rattle.vir_synth.specs.declared.table.Found.{Found}
use Rattle.vir_synth.specs.declared.table.Table.{Table}
use Rattle.vir_derive.specs.declared.term_signature.Signature.{Signature}
use Rattle.vir_synth.specs.Alike.{HaveOneSignature, Serves}
use Rattle.vir_derive.specs.Numbers.{is_listed}
use Rattle.vir_derive.specs.Signatures.{IsSignatureOf, are_equal}

-- the composition of one term
abbrev pub of_one : Single → Tree → Tree
of_one single.Rev t = rev t
of_one single.LoopOne t = loop (exactly 1) t

-- the composition of two terms
abbrev pub of_two : Joint → Tree → Tree → Tree
of_two joint.Seq t u = seq t u
of_two joint.Par t u = par t u

-- the terms of what was found
abbrev pub terms_of : List Found → List Tree
terms_of founds = map (λ f. tree f.term) founds

-- A term that was found stands beside its signature.
abbrev pub IsSigned : List ℕ → Found → Type 0
IsSigned numbers f = IsSignatureOf numbers f.signature (tree f.term)

-- A table holds the first terms of those offered to it, where these terms were kept before: each signature that was
-- seen is that of a term that is kept, and a test that asks for signatures alone and passes no earlier term finds first
-- in the kept terms what it finds first in the offered ones.
pub record HoldsFirsts (numbers : List ℕ) (before offered : List Tree) (table : Table) : Type 0 where
  pub known : (s : Signature) → contains are_equal table.seen s ≡ true → (t : Tree)
      × Contains (before ++ terms_of table.found.items) t × IsSignatureOf numbers s t
  pub signed : All (IsSigned numbers) table.found.items
  pub serves : Serves (HaveOneSignature (is_listed numbers)) before offered (terms_of table.found.items)

-- A table was offered some more terms.
abbrev pub Adds : List ℕ → List Tree → Table → Table → Type 0
Adds numbers terms old new = (before offered : List Tree) → HoldsFirsts numbers before offered old → HoldsFirsts
    numbers before
    (offered ++ terms) new
