-- Trees of rules in a list: the one at a place, and the text of those from there on.
use Rattle.std.proofs.Common.{◌≡◌, ℕ, zero, suc, ◌+◌, ◌≤◌, List, [], ◌∷◌, ◌++◌, None, Some, codes, drop, length}
use Rattle.std.proofs.Common.{slice_get, refl, sym, ap, ◌∙◌, append_assoc, append-nil, arith}
use Rattle.std.proofs.lemmas.List.{drop_all, drop_more}
use Rattle.std.proofs.lemmas.Option.{get_or_from_slice_get, slice_get_within}
use Rattle.vir_rules.specs.RuleTrees.{RuleTree, gathered, size, size_of_all}
use Rattle.vir_rules.specs.Texts.{children_text, derivation_text, more_children_text}

-- what stands from a place on
pub drop_at_get : {X : Type 0} (xs : List X) (i : ℕ) (x : X) → Some x ≡ slice_get xs i → drop i xs ≡ x ∷ drop (i + 1) xs
drop_at_get xs i x is =
    drop_more xs i x (slice_get_within xs i x (sym is)) ∙ ap (λ y. y ∷ drop (i + 1) xs)
    (get_or_from_slice_get xs i x x (sym is))

-- a tree has no more rules than the list in which it stands
pub size_at : (trees : List RuleTree) (i : ℕ) (tree : RuleTree) → Some tree ≡ slice_get trees i
    → size tree ≤ size_of_all (gathered trees)
size_at [] i tree is = absurd cc
size_at (first ∷ rest) zero tree is = let same : tree ≡ first = cc in rw same (omega arith)
size_at (first ∷ rest) (suc i) tree is = let below : size tree ≤ size_of_all (gathered rest) = size_at rest i tree is
    in omega arith

-- a list that has none at its beginning has no text
pub children_text_of_none : (trees : List RuleTree) → None ≡ slice_get trees 0 → [] ≡ children_text (gathered trees)
children_text_of_none [] is = refl
children_text_of_none (first ∷ rest) is = absurd cc

-- with a comma and the tree at a place written, what is to come is the text of those behind it
pub more_children_text_at : (trees : List RuleTree) (i : ℕ) (tree : RuleTree) (before comma after whole : List ℕ)
    → Some tree ≡ slice_get trees i → before ++ more_children_text (gathered (drop i trees)) ≡ whole
    → comma ≡ before ++ codes "," → after ≡ comma ++ derivation_text tree → after
    ++ more_children_text (gathered (drop (i + 1) trees)) ≡ whole
more_children_text_at trees i tree before comma after whole is so_far one two =
    let rest = more_children_text (gathered (drop (i + 1) trees)) in
    let parts : more_children_text (gathered (drop i trees)) ≡ codes "," ++ derivation_text tree ++ rest =
    ap (λ ts. more_children_text (gathered ts)) (drop_at_get trees i tree is) in
    let written : after ≡ before ++ (codes "," ++ derivation_text tree) = two ∙ ap (λ xs. xs ++ derivation_text tree)
    one ∙ append_assoc before (codes ",") (derivation_text tree) in
    ap (λ xs. xs ++ rest) written ∙ append_assoc before (codes "," ++ derivation_text tree) rest
    ∙ ap (λ xs. before ++ xs) (sym parts) ∙ so_far

-- with all written, behind an opening parenthesis and the first, a closing one completes the text
pub children_text_whole : (trees : List RuleTree) (n : ℕ) (tree : RuleTree) (start opened first before : List ℕ)
    → Some tree ≡ slice_get trees 0 → length trees ≤ n → opened ≡ start ++ codes "(" → first ≡ opened
    ++ derivation_text tree
    → before ++ more_children_text (gathered (drop n trees)) ≡ first ++ more_children_text (gathered (drop 1 trees))
    → before ++ codes ")" ≡ start ++ children_text (gathered trees)
children_text_whole trees n tree start opened first before is all one two so_far =
    let rest = more_children_text (gathered (drop 1 trees)) in
    let none : more_children_text (gathered (drop n trees)) ≡ [] = ap (λ ts. more_children_text (gathered ts))
    (drop_all n trees all) in
    let whole : before ≡ first ++ rest = sym (append-nil before) ∙ ap (λ xs. before ++ xs) (sym none) ∙ so_far in
    let begun : first ≡ start ++ (codes "(" ++ derivation_text tree) = two ∙ ap (λ xs. xs ++ derivation_text tree) one
    ∙ append_assoc start (codes "(") (derivation_text tree) in
    let up_to : before ≡ start ++ (codes "(" ++ derivation_text tree ++ rest) = whole ∙ ap (λ xs. xs ++ rest) begun
    ∙ append_assoc start (codes "(" ++ derivation_text tree) rest in
    let parts : children_text (gathered trees) ≡ codes "(" ++ derivation_text tree ++ rest ++ codes ")" =
    ap (λ ts. children_text (gathered ts)) (drop_at_get trees 0 tree is) in
    ap (λ xs. xs ++ codes ")") up_to ∙ append_assoc start (codes "(" ++ derivation_text tree ++ rest) (codes ")")
    ∙ ap (λ xs. start ++ xs) (sym parts)
