-- Terms that are composed of modules in range are in range.
use Rattle.std.proofs.Common.{ℕ, zero, suc, ◌-◌, nat_eq, Bool, true, false, List, [], ◌∷◌, All, map}
use Rattle.std.proofs.Common.{if◌then◌else◌, lit≤}
use Rattle.std.proofs.lemmas.List.Elements.{All-append, All-map, All-nil, All-head, All-tail, All-weaker}
use Rattle.vir_synth.specs.Terms.{compositions, joins, next_terms, splits, terms, terms_up_to, terms_within}
use Rattle.vir_term.specs.declared.leaf.Leaf.{Leaf}
use Rattle.vir_term.specs.Limits.{IsCount, IsInRange, IsLeafInRange}
use Rattle.vir_term.specs.Tree.{Tree, leaf, rev, seq, par, loop, exactly}

-- these terms are
abbrev AreInRange : List Tree → Type 0
AreInRange ts = All IsInRange ts

-- a composition of terms in range is in range
abbrev Keeps : (Tree → Tree → Tree) → Type 0
Keeps op = (t u : Tree) → IsInRange t → IsInRange u → IsInRange (op t u)

joins_in_range : (op : Tree → Tree → Tree) (firsts seconds : List Tree) → Keeps op → AreInRange firsts
    → AreInRange seconds → AreInRange (joins op firsts seconds)
joins_in_range op [] seconds keeps one two = All-nil IsInRange
joins_in_range op (first ∷ firsts) seconds keeps one two =
    let head : IsInRange first = All-head IsInRange first firsts one in
    All-append IsInRange (map (op first) seconds) (joins op firsts seconds)
    (All-map IsInRange (op first) seconds
    (All-weaker IsInRange (λ u. IsInRange (op first u)) (λ u range. keeps first u head range) seconds two))
    (joins_in_range op firsts seconds keeps (All-tail IsInRange first firsts one) two)

splits_in_range : (op : Tree → Tree → Tree) (at : ℕ → List Tree) (left right : ℕ) → Keeps op
    → ((k : ℕ) → AreInRange (at k)) → AreInRange (splits op at left right)
unfolding splits
splits_in_range op at left zero keeps range = All-nil IsInRange
splits_in_range op at left (suc right) keeps range =
    All-append IsInRange (joins op (at left) (at (suc right))) (splits op at (suc left) right)
    (joins_in_range op (at left) (at (suc right)) keeps (range left) (range (suc right)))
    (splits_in_range op at (suc left) right keeps range)

compositions_in_range : (at : ℕ → List Tree) (n : ℕ) → ((k : ℕ) → AreInRange (at k)) → AreInRange (compositions at n)
compositions_in_range at n range =
    let one : IsCount 1 = record { some = lit≤ tt; few = lit≤ tt } in
    let revised : AreInRange (map rev (at n)) = All-map IsInRange rev (at n) (range n) in
    let bodies : All (λ t. IsInRange (loop (exactly 1) t)) (at n) = All-weaker IsInRange
    (λ t. IsInRange (loop (exactly 1) t)) (λ t fine. (one, fine)) (at n) (range n) in
    let looped : AreInRange (map (loop (exactly 1)) (at n)) = All-map IsInRange (loop (exactly 1)) (at n) bodies in
    let splits_of : (op : Tree → Tree → Tree) → Keeps op → AreInRange (splits op at 1 (n - 1)) = λ op keeps.
    splits_in_range op at 1 (n - 1) keeps range in
    All-append IsInRange _ (splits par at 1 (n - 1))
    (All-append IsInRange _ (splits seq at 1 (n - 1))
    (All-append IsInRange (map rev (at n)) (map (loop (exactly 1)) (at n)) revised looped)
    (splits_of seq (λ t u first second. (first, second))))
    (splits_of par (λ t u first second. (first, second)))

next_in_range : (modules : List Leaf) (at : ℕ → List Tree) (n : ℕ) → All IsLeafInRange modules
    → ((k : ℕ) → AreInRange (at k)) → AreInRange (next_terms modules at n)
next_in_range modules at zero fine range = All-map IsInRange leaf modules fine
next_in_range modules at (suc n) fine range = compositions_in_range at (suc n) range

either_in_range : (b : Bool) (ts us : List Tree) → AreInRange ts → AreInRange us → AreInRange (if b then ts else us)
either_in_range true ts us one two = one
either_in_range false ts us one two = two

within_in_range : (modules : List Leaf) (n k : ℕ) → All IsLeafInRange modules → AreInRange (terms_within modules n k)
unfolding terms_within
within_in_range modules zero k fine = All-nil IsInRange
within_in_range modules (suc n) k fine =
    either_in_range (nat_eq k (suc n)) (next_terms modules (terms_within modules n) n) (terms_within modules n k)
    (next_in_range modules (terms_within modules n) n fine (λ j. within_in_range modules n j fine))
    (within_in_range modules n k fine)

terms_in_range : (modules : List Leaf) (size : ℕ) → All IsLeafInRange modules → AreInRange (terms modules size)
unfolding terms
terms_in_range modules size fine = within_in_range modules size size fine

-- the terms up to a size
pub composed_in_range : (modules : List Leaf) (size : ℕ) → All IsLeafInRange modules → All IsInRange
    (terms_up_to modules size)
unfolding terms_up_to
composed_in_range modules zero fine = All-nil IsInRange
composed_in_range modules (suc n) fine =
    All-append IsInRange (terms_up_to modules n) (terms modules (suc n)) (composed_in_range modules n fine)
    (terms_in_range modules (suc n) fine)
