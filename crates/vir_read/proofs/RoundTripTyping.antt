-- A tree that spells a term stands for that term.
use Rattle.std.proofs.Common.{◌≡◌, ℕ, ◌+◌, ◌-◌, ◌*◌, ◌≤◌, ◌^◌, Bool, true, false, ◌&&◌, List, [], ◌∷◌, ◌++◌, Option}
use Rattle.std.proofs.Common.{Some, None, Ok, nat_le, nat_eq, if◌then◌else◌, decimal, refl, sym, ◌∙◌, ap, arith}
use Rattle.std.proofs.Common.{append-nil, append_assoc, lit<}
use Rattle.std.specs.Prelude.{codes}
use Rattle.std.specs.Char.{digit_value}
use Rattle.std.specs.List.{list_any}
use Rattle.std.specs.Str.Parse.{AllDigits, digits_value_after}
use Rattle.std.proofs.lemmas.Str.{digit_value_digit}
use Rattle.std.proofs.lemmas.Str.Parse.{digit_from_value, IsNumeralModel}
use Rattle.std.proofs.lemmas.Fmt.{digits_value-decimal}
use Rattle.std.proofs.lemmas.Bool.Decides.{nat_tests}
use Rattle.vir_term.specs.declared.fixed_order.OrderFault.TheVariants.{OutOfRange, Repeated}
use Rattle.vir_term.specs.declared.leaf.Leaf.{Leaf}
use Rattle.vir_term.specs.declared.leaf.Leaf.TheVariants.{Elect, Defer, PassFirst, DropFirst, Plurality, Max, Min}
use Rattle.vir_term.specs.declared.leaf.Leaf.TheVariants.{Below, Upto}
use Rattle.vir_term.specs.declared.score.Score.{Score}
use Rattle.vir_term.specs.declared.score.Score.TheVariants as score
use Rattle.vir_term.specs.Orders.{member_limit, order_fault_after}
use Rattle.vir_term.specs.Limits.{IsCount, IsLeafInRange, IsInRange, count_limit, nesting_limit}
use Rattle.vir_term.specs.Text.{score_text}
use Rattle.vir_term.specs.Tree.{Tree, leaf, rev, seq, par, loop, exactly, at_most, nesting}
use Rattle.vir_read.specs.Faults.{◌>>=◌}
use Rattle.vir_read.specs.RawTrees.{RawTree, RawTrees, none, more, list_of}
use Rattle.vir_read.specs.BuiltIns.{built_in_named, score_named}
use Rattle.vir_read.specs.Arguments.{Names, value_after, ranged, count_of, unrepeated, with_member, with_members}
use Rattle.vir_read.specs.Arguments.{order_of, is_known, as_score, score_argument}
use Rattle.vir_read.specs.Typing.{term_at, arguments_of, word_term}
use Rattle.vir_read.specs.Spelling.{IsWord, IsNumber, AreNumbers, IsBracket, SpellsLeaf, Spells}

-- ---- numbers

value_after-digits : (ds : List ℕ) (n : ℕ) → AllDigits 10 ds → value_after n ds ≡ digits_value_after 10 n ds
value_after-digits [] n h = refl
value_after-digits (d ∷ rest) n h =
    let e = digit_value_digit d (digit_from_value d h.0) in
    let k : d - 48 ≡ digit_value d = omega (arith, e) in
    ap (λ v. value_after (n * 10 + v) rest) k ∙ value_after-digits rest (n * 10 + digit_value d) h.1

-- digits are read here as std reads them
pub digits_are_read : IsNumeralModel (AllDigits 10) (value_after 0)
digits_are_read = record { to = λ ds h. h; from = λ ds h. h; same = λ ds h. value_after-digits ds 0 h }

pub value_after-decimal : (n : ℕ) → n ≤ count_limit → value_after 0 (decimal n) ≡ n
value_after-decimal n h =
    let P : List ℕ → Type 0 = AllDigits 10 in
    digits_value-decimal {P = P} digits_are_read n (omega (arith, lit< {m = count_limit} {n = 2 ^ 64} tt))

count_in_range : (k : ℕ) → IsCount k → (nat_le 1 k && nat_le k count_limit) ≡ true
count_in_range k h = grind (arith, nat_tests, h.some, h.few)

-- ---- members of fixed orders

some_is_not_none : {A : Type 0} (x : A) → Some x ≡ None → ⊥
some_is_not_none x h = cc

-- a faultless first member is in range and new, and the rest has no fault
pub no_fault : {X : Type 0} (p q : Bool) (x y : X) (u : Option X) → (if p then (if q then Some x else u) else Some y)
    ≡ None → (p ≡ true) × (q ≡ false) × (u ≡ None)
no_fault true true x y u h = absurd (some_is_not_none x h)
no_fault true false x y u h = (refl, refl, h)
no_fault false q x y u h = absurd (some_is_not_none y h)

pub member_is_small : (x : ℕ) → (nat_le 1 x && nat_le x member_limit) ≡ true → x ≤ member_limit
member_is_small x h = grind (arith, nat_tests)

with_members-numbers : (text before order : List ℕ) (members : RawTrees) → AreNumbers text order members
    → order_fault_after before order ≡ None →
    with_members text before (list_of members) ≡ Ok (before ++ order)
with_members-numbers text before [] none w h = ap Ok (sym (append-nil before))
with_members-numbers text before [] (more raw others) w h = absurd w
with_members-numbers text before (x ∷ rest) none w h = absurd w
with_members-numbers text before (x ∷ rest) (more raw others) w h =
    let good = no_fault (nat_le 1 x && nat_le x member_limit) (list_any (λ y. nat_eq y x) before) Repeated OutOfRange
    (order_fault_after (before ++ x ∷ []) rest) h in
    let one : with_member text before raw ≡ Ok (before ++ x ∷ []) =
    ap (with_member text before) w.0.shape
    ∙ ap (λ ds. ranged member_limit w.0.start (value_after 0 ds) >>= unrepeated w.0.start before) w.0.written
    ∙ ap (λ n. ranged member_limit w.0.start n >>= unrepeated w.0.start before)
    (value_after-decimal x (omega (arith, member_is_small x good.0)))
    ∙ rw (good.0, good.1) refl in
    ap (λ r. r >>= λ so_far. with_members text so_far (list_of others)) one
    ∙ with_members-numbers text (before ++ x ∷ []) rest others w.1 good.2
    ∙ ap Ok (append_assoc before (x ∷ []) rest)

module _ (text : List ℕ) (names : Names) where
  -- ---- arguments

  pub count_of-number : (raw : RawTree) (k : ℕ) → IsNumber text k raw → IsCount k → count_of text raw ≡ Ok k
  count_of-number raw k w h =
      ap (count_of text) w.shape ∙ ap (λ ds. ranged count_limit w.start (value_after 0 ds)) w.written
      ∙ ap (ranged count_limit w.start) (value_after-decimal k h.few) ∙ rw (count_in_range k h) refl

  order_of-bracket : (raw : RawTree) (order : List ℕ) → IsBracket text order raw → order_fault_after [] order ≡ None
      → order_of text raw ≡ Ok order
  order_of-bracket raw order w h = ap (order_of text) w.shape ∙ with_members-numbers text [] order w.members w.written h

  score_named-text : (s : Score) → score_named (score_text s) ≡ Some s
  score_named-text score.Plurality = refl
  score_named-text score.Borda = refl
  score_named-text score.Copeland = refl
  score_named-text score.Minimax = refl
  score_named-text score.Condorcet = refl

  score_argument-word : (raw : RawTree) (s : Score) → IsWord text (score_text s) none raw → score_argument text names
      raw ≡ Ok s
  score_argument-word raw s w =
      ap (score_argument text names) w.shape ∙ ap (λ n. as_score w.start none (is_known names n) (score_named n))
      w.written
      ∙ ap (as_score w.start none (is_known names (score_text s))) (score_named-text s)

  -- ---- terms

  -- a tree of a word is typed by the word that is written there
  typed-word : (raw : RawTree) (name : List ℕ) (parts : RawTrees) (level : ℕ) → (w : IsWord text name parts raw) →
      term_at text names raw level ≡ word_term text names w.start level name (arguments_of text names parts)
      (built_in_named name)
  typed-word raw name parts level w =
      ap (λ r. term_at text names r level) w.shape
      ∙ ap (λ n. word_term text names w.start level n (arguments_of text names parts) (built_in_named n)) w.written

  level_is_low : (level : ℕ) → level ≤ nesting_limit → nat_le level nesting_limit ≡ true
  level_is_low level h = grind (arith, nat_tests)

  typed-leaf : (l : Leaf) (raw : RawTree) (level : ℕ) → SpellsLeaf text l raw → IsLeafInRange l → level ≤ nesting_limit
      → term_at text names raw level ≡ Ok (leaf l)
  typed-leaf Elect raw level w r h = typed-word raw (codes "elect") none level w ∙ rw (level_is_low level h) refl
  typed-leaf Defer raw level w r h = typed-word raw (codes "defer") none level w ∙ rw (level_is_low level h) refl
  typed-leaf Plurality raw level w r h = typed-word raw (codes "plurality") none level w ∙ rw (level_is_low level h)
      refl
  typed-leaf (Max s) raw level w r h = typed-word raw (codes "max") (more w.0 none) level w.1
      ∙ rw (level_is_low level h, score_argument-word w.0 s w.2) refl
  typed-leaf (Min s) raw level w r h = typed-word raw (codes "min") (more w.0 none) level w.1
      ∙ rw (level_is_low level h, score_argument-word w.0 s w.2) refl
  typed-leaf (Below s) raw level w r h = typed-word raw (codes "below") (more w.0 none) level w.1
      ∙ rw (level_is_low level h, score_argument-word w.0 s w.2) refl
  typed-leaf (Upto s) raw level w r h = typed-word raw (codes "upto") (more w.0 none) level w.1
      ∙ rw (level_is_low level h, score_argument-word w.0 s w.2) refl
  typed-leaf (PassFirst k []) raw level w r h = typed-word raw (codes "pass") (more w.0 none) level w.1
      ∙ rw (level_is_low level h, count_of-number w.0 k w.2 r.0) refl
  typed-leaf (DropFirst k []) raw level w r h = typed-word raw (codes "drop") (more w.0 none) level w.1
      ∙ rw (level_is_low level h, count_of-number w.0 k w.2 r.0) refl
  typed-leaf (PassFirst k (x ∷ rest)) raw level w r h =
      typed-word raw (codes "pass") (more w.0 (more w.1 none)) level w.2
      ∙ rw (level_is_low level h, count_of-number w.0 k w.3 r.0, order_of-bracket w.1 (x ∷ rest) w.4 r.1) refl
  typed-leaf (DropFirst k (x ∷ rest)) raw level w r h =
      typed-word raw (codes "drop") (more w.0 (more w.1 none)) level w.2
      ∙ rw (level_is_low level h, count_of-number w.0 k w.3 r.0, order_of-bracket w.1 (x ∷ rest) w.4 r.1) refl

  pub typed-spelled : (t : Tree) (raw : RawTree) (level : ℕ) → Spells text t raw → IsInRange t → level
      + nesting t ≤ nesting_limit + 1 → term_at text names raw level ≡ Ok t
  typed-spelled (leaf l) raw level w r h = typed-leaf l raw level w r (omega arith)
  typed-spelled (rev part) raw level w r h =
      typed-word raw (codes "rev") (more w.0 none) level w.1
      ∙ rw (level_is_low level (omega arith), typed-spelled part w.0 (level + 1) w.2 r (omega arith)) refl
  typed-spelled (seq first second) raw level w r h =
      let one = typed-spelled first w.0 (level + 1) w.3 r.0 (omega arith) in
      let other = typed-spelled second w.1 (level + 1) w.4 r.1 (omega arith) in
      typed-word raw (codes "seq") (more w.0 (more w.1 none)) level w.2
      ∙ rw (level_is_low level (omega arith), one, other) refl
  typed-spelled (par first second) raw level w r h =
      let one = typed-spelled first w.0 (level + 1) w.3 r.0 (omega arith) in
      let other = typed-spelled second w.1 (level + 1) w.4 r.1 (omega arith) in
      typed-word raw (codes "par") (more w.0 (more w.1 none)) level w.2
      ∙ rw (level_is_low level (omega arith), one, other) refl
  typed-spelled (loop (exactly k) body) raw level w r h =
      let inner = typed-spelled body w.1 (level + 1) w.4 r.1 (omega arith) in
      typed-word raw (codes "loop") (more w.0 (more w.1 none)) level w.2
      ∙ rw (level_is_low level (omega arith), count_of-number w.0 k w.3 r.0, inner) refl
  typed-spelled (loop (at_most k) body) raw level w r h =
      let inner = typed-spelled body w.1 (level + 1) w.4 r.1 (omega arith) in
      typed-word raw (codes "until") (more w.0 (more w.1 none)) level w.2
      ∙ rw (level_is_low level (omega arith), count_of-number w.0 k w.3 r.0, inner) refl
