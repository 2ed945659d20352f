-- What is told of the first rule that has wanted properties.
use Rattle.std.proofs.Common.{◌≡◌, ℕ, zero, suc, ◌<◌, List, [], ◌∷◌, ◌++◌, All, codes, get_or, length, subst, arith}
use Rattle.std.proofs.Common.{Some, refl}
use Rattle.std.proofs.lemmas.List.Elements.{All-contains, All-weaker, Contains-append_right}
use Rattle.vir_claims.specs.Holdings.{IsFirstOf, TellsHeld}
use Rattle.vir_claims.proofs.ComposedTerms.{composed_in_range}
use Rattle.vir_course.specs.Proved.{IsHeld}
use Rattle.vir_course.specs.Synthesized.{Held, IsFound}
use Rattle.vir_course.proofs.HeldLemmas.{held_by}
use Rattle.vir_rules.specs.Claims.{of}
use Rattle.vir_rules.specs.Derivations.{Derivable}
use Rattle.vir_synth.specs.Firsts.{HasAll, IsFirstWith}
use Rattle.vir_synth.specs.Terms.{terms_up_to}
use Rattle.vir_term.specs.declared.leaf.Leaf.{Leaf}
use Rattle.vir_term.specs.declared.prop.Prop.{Prop}
use Rattle.vir_term.specs.Limits.{IsInRange, IsLeafInRange}
use Rattle.vir_term.specs.Text.{term_text}
use Rattle.vir_term.specs.Tree.{Tree}

-- one of the properties that are all derivable
pub derivable_at : (term : Tree) (props : List Prop) (i : ℕ) (default : Prop) → i < length props → HasAll props term
    → Derivable (of (get_or props i default) term)
derivable_at term [] i default within has = absurd (omega arith)
derivable_at term (prop ∷ props) zero default within has = has.0
derivable_at term (prop ∷ props) (suc i) default within has =
    derivable_at term props i default (omega arith) has.1

-- a term that is found is one of the terms up to the size
found_in_range : (modules : List Leaf) (size : ℕ) (before after : List Tree) (term : Tree) → All IsLeafInRange modules
    → terms_up_to modules size ≡ before ++ term ∷ after → IsInRange term
found_in_range modules size before after term fine is =
    All-contains IsInRange (before ++ term ∷ after) term
    (subst (λ ts. All IsInRange ts) is (composed_in_range modules size fine))
    (Contains-append_right before (term ∷ after) term (0, omega arith, refl))

-- what is told behind the term
pub found_with : (modules : List Leaf) (size : ℕ) (props : List Prop) (term : Tree) (text : List ℕ)
    → All IsLeafInRange modules → IsFirstWith props (terms_up_to modules size) (Some term)
    → TellsHeld term props (codes "found " ++ term_text term ++ codes "\n") text → IsFound size props modules text
found_with modules size props term text fine first tells =
    let range : IsInRange term = found_in_range modules size first.0 first.1 term fine first.2 in
    record {
      term = term;
      first = first;
      held = tells.told;
      in_order = tells.in_order;
      each = All-weaker (IsFirstOf term) (λ (h : Held). IsHeld term h.prop h.derivation)
          (λ h is. held_by term h.prop h.derivation range is) tells.told tells.are_so;
      text_is = tells.text_is;
    }
