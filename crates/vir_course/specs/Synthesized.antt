-- What is said of the first rule up to a size that has wanted properties.
use Rattle.std.specs.Prelude.{◌≡◌, ℕ, List, ◌++◌, None, Some, All, codes, decimal, map}
use Rattle.std.specs.List.{flat_map}
use Rattle.vir_course.specs.Proved.{IsHeld}
use Rattle.vir_course.specs.Reports.{finding_text, holds}
use Rattle.vir_rules.specs.RuleTrees.{RuleTree}
use Rattle.vir_synth.specs.Firsts.{IsFirstWith}
use Rattle.vir_synth.specs.Terms.{terms_up_to}
use Rattle.vir_term.specs.declared.leaf.Leaf.{Leaf}
use Rattle.vir_term.specs.declared.prop.Prop.{Prop}
use Rattle.vir_term.specs.Text.{term_text}
use Rattle.vir_term.specs.Tree.{Tree}

-- a wanted property, and its derivation
pub record Held : Type 0 where
  pub prop : Prop
  pub derivation : RuleTree

-- the text of wanted properties with their derivations
abbrev pub held_text : List Held → List ℕ
held_text held = flat_map (λ (h : Held). finding_text h.prop (holds h.derivation)) held

-- The text names the first of the terms up to a size, composed of these modules, of which each wanted property is
-- derivable; and then each wanted property, in their order, with its first derivation. So all of them hold of it.
pub record IsFound (size : ℕ) (props : List Prop) (modules : List Leaf) (text : List ℕ) : Type 0 where
  pub term : Tree
  pub first : IsFirstWith props (terms_up_to modules size) (Some term)
  pub held : List Held
  pub in_order : map (λ (h : Held). h.prop) held ≡ props
  pub each : All (λ (h : Held). IsHeld term h.prop h.derivation) held
  pub text_is : text ≡ codes "found " ++ term_text term ++ codes "\n" ++ held_text held

-- There is no such term, and the text says so.
pub record IsNone (size : ℕ) (props : List Prop) (modules : List Leaf) (text : List ℕ) : Type 0 where
  pub none : IsFirstWith props (terms_up_to modules size) None
  pub text_is : text ≡ codes "none up to " ++ decimal size ++ codes "\n"
