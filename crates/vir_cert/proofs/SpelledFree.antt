-- A tree that spells a term without an `until` has that word nowhere.
use Rattle.std.proofs.Common.{◌≡◌, ℕ, Bool, true, false, ◌||◌, List, [], ◌∷◌, refl, sym, ◌∙◌, ap, subst}
use Rattle.std.specs.Prelude.{codes}
use Rattle.std.specs.Str.{bytes_eq}
use Rattle.vir_term.specs.declared.leaf.Leaf.{Leaf}
use Rattle.vir_term.specs.declared.leaf.Leaf.TheVariants.{Elect, Defer, PassFirst, DropFirst, Plurality, Max, Min}
use Rattle.vir_term.specs.declared.leaf.Leaf.TheVariants.{Below, Upto}
use Rattle.vir_term.specs.declared.score.Score.{Score}
use Rattle.vir_term.specs.declared.score.Score.TheVariants as score
use Rattle.vir_term.specs.Text.{score_text}
use Rattle.vir_term.specs.Tree.{Tree, leaf, rev, seq, par, loop, exactly, at_most}
use Rattle.vir_read.specs.RawTrees.{RawTree, RawTrees, word, number, bracket, none, more}
use Rattle.vir_read.specs.Spelling.{IsWord, IsNumber, AreNumbers, IsBracket, IsOf, IsOfTwo, SpellsOrdered}
use Rattle.vir_read.specs.Spelling.{SpellsEliminator, SpellsLeaf, Spells}
use Rattle.vir_cert.specs.Untils.{until_word}
use Rattle.vir_cert.proofs.UntilFree.{IsFree, AllFree}
use Rattle.vir_cert.specs.Texts.{has_until}

module _ (text : List ℕ) where
  abbrev IsOther : List ℕ → Type 0
  IsOther w = bytes_eq w until_word ≡ false

  word_free : (w : List ℕ) (parts : RawTrees) (raw : RawTree) → IsOther w → IsWord text w parts raw → AllFree text parts
      → IsFree text raw
  word_free w parts raw other is free =
      let here : IsFree text (word is.start is.end parts) = (ap (λ n. bytes_eq n until_word) is.written ∙ other, free)
      in
      subst (IsFree text) (sym is.shape) here

  number_free : (n : ℕ) (raw : RawTree) → IsNumber text n raw → IsFree text raw
  number_free n raw is = let here : IsFree text (number is.start is.end) = tt in subst (IsFree text) (sym is.shape) here

  numbers_free : (order : List ℕ) (raws : RawTrees) → AreNumbers text order raws → AllFree text raws
  numbers_free [] none is = tt
  numbers_free [] (more raw rest) is = absurd is
  numbers_free (n ∷ order) none is = absurd is
  numbers_free (n ∷ order) (more raw rest) is = (number_free n raw is.0, numbers_free order rest is.1)

  bracket_free : (order : List ℕ) (raw : RawTree) → IsBracket text order raw → IsFree text raw
  bracket_free order raw is = let here : IsFree text (bracket is.start is.members) = numbers_free order is.members
      is.written in subst (IsFree text) (sym is.shape) here

  of_free : (w : List ℕ) (First : RawTree → Type 0) (raw : RawTree) → IsOther w
      → ((r : RawTree) → First r → IsFree text r) → IsOf text w First raw → IsFree text raw
  of_free w First raw other f is = word_free w (more is.0 none) raw other is.1 (f is.0 is.2, tt)

  of_two_free : (w : List ℕ) (First Second : RawTree → Type 0) (raw : RawTree) → IsOther w
      → ((r : RawTree) → First r → IsFree text r) → ((r : RawTree) → Second r → IsFree text r) →
      IsOfTwo text w First Second raw → IsFree text raw
  of_two_free w First Second raw other f g is = word_free w (more is.0 (more is.1 none)) raw other is.2
      (f is.0 is.3, (g is.1 is.4, tt))

  ordered_free : (w : List ℕ) (k : ℕ) (order : List ℕ) (raw : RawTree) → IsOther w → SpellsOrdered text w k order raw
      → IsFree text raw
  ordered_free w k [] raw other is = of_free w (IsNumber text k) raw other (number_free k) is
  ordered_free w k (x ∷ rest) raw other is = of_two_free w (IsNumber text k) (IsBracket text (x ∷ rest)) raw other
      (number_free k) (bracket_free (x ∷ rest)) is

  score_other : (s : Score) → IsOther (score_text s)
  score_other score.Plurality = refl
  score_other score.Borda = refl
  score_other score.Copeland = refl
  score_other score.Minimax = refl
  score_other score.Condorcet = refl

  eliminator_free : (w : List ℕ) (s : Score) (raw : RawTree) → IsOther w → SpellsEliminator text w s raw
      → IsFree text raw
  eliminator_free w s raw other is = of_free w (IsWord text (score_text s) none) raw other
      (λ r i. word_free (score_text s) none r (score_other s) i tt) is

  leaf_free : (l : Leaf) (raw : RawTree) → SpellsLeaf text l raw → IsFree text raw
  leaf_free Elect raw is = word_free (codes "elect") none raw refl is tt
  leaf_free Defer raw is = word_free (codes "defer") none raw refl is tt
  leaf_free Plurality raw is = word_free (codes "plurality") none raw refl is tt
  leaf_free (PassFirst k order) raw is = ordered_free (codes "pass") k order raw refl is
  leaf_free (DropFirst k order) raw is = ordered_free (codes "drop") k order raw refl is
  leaf_free (Max s) raw is = eliminator_free (codes "max") s raw refl is
  leaf_free (Min s) raw is = eliminator_free (codes "min") s raw refl is
  leaf_free (Below s) raw is = eliminator_free (codes "below") s raw refl is
  leaf_free (Upto s) raw is = eliminator_free (codes "upto") s raw refl is

  neither : (a b : Bool) → (a || b) ≡ false → (a ≡ false) × (b ≡ false)
  neither true b h = cc
  neither false b h = (refl, h)

  pub spelled_free : (t : Tree) (raw : RawTree) → has_until t ≡ false → Spells text t raw → IsFree text raw
  spelled_free (leaf l) raw h is = leaf_free l raw is
  spelled_free (rev part) raw h is = of_free (codes "rev") (Spells text part) raw refl (λ r i. spelled_free part r h i)
      is
  spelled_free (seq first second) raw h is =
      let k = neither (has_until first) (has_until second) h in
      of_two_free (codes "seq") (Spells text first) (Spells text second) raw refl (λ r i. spelled_free first r k.0 i)
      (λ r i. spelled_free second r k.1 i) is
  spelled_free (par first second) raw h is =
      let k = neither (has_until first) (has_until second) h in
      of_two_free (codes "par") (Spells text first) (Spells text second) raw refl (λ r i. spelled_free first r k.0 i)
      (λ r i. spelled_free second r k.1 i) is
  spelled_free (loop (exactly k) body) raw h is =
      of_two_free (codes "loop") (IsNumber text k) (Spells text body) raw refl (number_free k)
      (λ r i. spelled_free body r h i) is
  spelled_free (loop (at_most k) body) raw h is = cc
