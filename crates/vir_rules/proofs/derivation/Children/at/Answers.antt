use Rattle.std.proofs.Common.{◌≡◌, ℕ, List, length, get_or, sym, ap, ◌∙◌, slice_get, nat_lt, Option, Some, None}
use Rattle.std.proofs.Common.{option_map}
use Rattle.std.specs.Borrow.{Bor}
use Rattle.std.specs.Option.{is_some, IfSome}
use Rattle.std.proofs.lemmas.Bool.{ltb-true, ltb-false}
use Rattle.std.proofs.lemmas.Option.{slice_get-map, slice_get_past, slice_get-get_or}
use Rattle.vir_rules.specs.RuleTrees.{RuleTree, rule_tree, rule_trees, listed_step, tree_step}
use Rattle.vir_rules.specs.declared.derivation.Derivation.{Derivation}
use Rattle.vir_rules.specs.declared.derivation.Children.{Children, out-Children, fold_out-Children}
use Rattle.vir_rules.proofs.derivation.Children.at.Goals as goal

-- the tree of what stands at a place, by whether something stands there and what it is
found_at : (found : Option (Bor Derivation)) (all : List Derivation) (place : ℕ) → is_some found
    ≡ nat_lt place (length all)
    → IfSome found (λ (child : Bor Derivation). child.now ≡ get_or all place child.now)
    → option_map (λ (child : Bor Derivation). rule_tree child.now) found ≡ option_map rule_tree (slice_get all place)
found_at None all place inside is = ap (option_map rule_tree)
    (sym (slice_get_past all place (ltb-false place (length all) (sym inside))))
found_at (Some child) all place inside is =
    ap Some (ap rule_tree is) ∙ ap (option_map rule_tree)
    (sym (slice_get-get_or all place child.now (ltb-true place (length all) (sym inside))))

-- the trees of a list of the code are those of its items
listed : (children : Children) (place : ℕ) → option_map rule_tree (slice_get (out-Children children).items.items place)
    ≡ slice_get (rule_trees children) place
listed children place =
    sym (slice_get-map rule_tree (out-Children children).items.items place)
    ∙ ap (λ trees. slice_get trees place) (sym (fold_out-Children (List RuleTree) RuleTree listed_step tree_step
    children))

pub returns : goal.returns
returns c =
    rw c.deref.ensures.value at (found_at c.get.result c.deref.result.now c.args.i c.get.ensures.lookup.0
    c.get.ensures.lookup.1)
    ∙ listed c.args.self.now c.args.i
