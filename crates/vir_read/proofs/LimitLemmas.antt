-- A term that is accepted is within the limits, where the terms of names are.
use Rattle.std.proofs.Common.{◌≡◌, ℕ, ◌+◌, ◌≤◌, Bool, true, false, List, [], ◌∷◌, ◌++◌, length, Option, Some, None, Ok}
use Rattle.std.proofs.Common.{Err, nat_le, if◌then◌else◌, refl, sym, ap, subst, ◌∙◌, arith}
use Rattle.std.specs.Prelude.{⊤}
use Rattle.std.proofs.lemmas.Bool.Decides.{nat_tests}
use Rattle.vir_term.specs.Orders.{member_limit, order_fault}
use Rattle.vir_term.specs.Tree.{Tree, leaf, rev, loop, size, nesting}
use Rattle.vir_term.specs.Limits.{IsCount, IsInRange, IsWithinLimits, count_limit, size_limit, nesting_limit}
use Rattle.vir_read.specs.declared.text_fault.TextFault.{TextFault}
use Rattle.vir_read.specs.declared.built_in.BuiltIn.{BuiltIn}
use Rattle.vir_read.specs.declared.built_in.BuiltIn.TheVariants as word'
use Rattle.vir_read.specs.declared.built_in.Plain.{Plain}
use Rattle.vir_read.specs.declared.built_in.Plain.TheVariants as plain
use Rattle.vir_read.specs.declared.built_in.Ordered.{Ordered}
use Rattle.vir_read.specs.declared.built_in.Ordered.TheVariants as ordered
use Rattle.vir_read.specs.declared.built_in.Eliminator.{Eliminator}
use Rattle.vir_read.specs.declared.built_in.Eliminator.TheVariants as eliminator
use Rattle.vir_read.specs.declared.built_in.Pair.{Pair}
use Rattle.vir_read.specs.declared.built_in.Pair.TheVariants as pair
use Rattle.vir_read.specs.declared.built_in.LoopEnd.{LoopEnd}
use Rattle.vir_read.specs.declared.built_in.LoopEnd.TheVariants as loop_end
use Rattle.vir_term.specs.declared.score.Score.{Score}
use Rattle.vir_read.specs.Faults.{OrFault, ◌>>=◌}
use Rattle.vir_read.specs.RawTrees.{RawTree, RawTrees, word, number, bracket, none, more, list_of}
use Rattle.vir_read.specs.BuiltIns.{built_in_named, takes, is_only_score}
use Rattle.vir_read.specs.Arguments.{Names, AreWithinLimits, span, value_at, ranged, count_of, unrepeated, with_member}
use Rattle.vir_read.specs.Arguments.{with_members, order_of, score_argument}
use Rattle.vir_read.specs.Typing.{Argument, ordered_leaf, plain_leaf, eliminator_leaf, pair_tree, end_of}
use Rattle.vir_read.specs.Typing.{composition_of, built_in_term, defined_term, word_term, term_at, arguments_of}
use Rattle.vir_read.specs.Typing.{check_size, term_of}
use Rattle.vir_read.proofs.TypingLemmas.{ranged_ok, order_more}
use Rattle.std.specs.List.{list_any}
use Rattle.std.specs.Prelude.{nat_eq}

-- ---- values without a fault

pub bind_ok : {A B : Type 0} (r : OrFault A) (f : A → OrFault B) (y : B) → (r >>= f) ≡ Ok y → (x : A) × (r ≡ Ok x)
    × (f x ≡ Ok y)
bind_ok (Ok x) f y h = (x, refl, h)
bind_ok (Err e) f y h = cc

pub ok_ok : {A : Type 0} (x y : A) → (let a : OrFault A = Ok x in a ≡ Ok y) → x ≡ y
ok_ok x y h = cc

pub guard_else : {A : Type 0} (b : Bool) (e : TextFault) (r : OrFault A) (y : A) → (if b then Err e else r) ≡ Ok y
    → (b ≡ false) × (r ≡ Ok y)
guard_else true e r y h = cc
guard_else false e r y h = (refl, h)

pub guard_then : {A : Type 0} (b : Bool) (e : TextFault) (r : OrFault A) (y : A) → (if b then r else Err e) ≡ Ok y
    → (b ≡ true) × (r ≡ Ok y)
guard_then true e r y h = (refl, h)
guard_then false e r y h = cc

at_most : (n m : ℕ) → nat_le n m ≡ true → n ≤ m
at_most n m h = grind (arith, nat_tests)

-- ---- numbers and orders

pub count_of_ok : (text : List ℕ) (t : RawTree) (k : ℕ) → count_of text t ≡ Ok k → IsCount k
count_of_ok text (number start end) k h = let r = ranged_ok count_limit start (value_at text start end) k h
    in record { some = r.0; few = r.1 }
count_of_ok text (word start end parts) k h = cc
count_of_ok text (bracket start members) k h = cc

unrepeated_ok : (at : ℕ) (before : List ℕ) (n : ℕ) (after : List ℕ) → 1 ≤ n → n ≤ member_limit → order_fault before
    ≡ None → unrepeated at before n ≡ Ok after → order_fault after ≡ None
unrepeated_ok at before n after some few faultless h =
    let g = guard_else (list_any (λ y. nat_eq y n) before) _ (Ok (before ++ n ∷ [])) after h in
    ap order_fault (sym (ok_ok (before ++ n ∷ []) after g.1)) ∙ order_more [] before n some few g.0 faultless

with_member_ok : (text before : List ℕ) (t : RawTree) (after : List ℕ) → order_fault before ≡ None
    → with_member text before t ≡ Ok after → order_fault after ≡ None
with_member_ok text before (number start end) after faultless h =
    let b = bind_ok (ranged member_limit start (value_at text start end)) (unrepeated start before) after h in
    let r = ranged_ok member_limit start (value_at text start end) b.0 b.1 in
    unrepeated_ok start before b.0 after r.0 r.1 faultless b.2
with_member_ok text before (word start end parts) after faultless h = cc
with_member_ok text before (bracket start members) after faultless h = cc

with_members_ok : (text before : List ℕ) (members : List RawTree) (after : List ℕ) → order_fault before ≡ None
    → with_members text before members ≡ Ok after → order_fault after ≡ None
with_members_ok text before [] after faultless h = ap order_fault (sym (ok_ok before after h)) ∙ faultless
with_members_ok text before (m ∷ rest) after faultless h =
    let b = bind_ok (with_member text before m) (λ so_far. with_members text so_far rest) after h in
    with_members_ok text b.0 rest after (with_member_ok text before m b.0 faultless b.1) b.2

order_of_ok : (text : List ℕ) (t : RawTree) (order : List ℕ) → order_of text t ≡ Ok order → order_fault order ≡ None
order_of_ok text (bracket start members) order h = with_members_ok text [] (list_of members) order refl h
order_of_ok text (word start end parts) order h = cc
order_of_ok text (number start end) order h = cc

-- ---- terms at a level of nesting

record IsKept (level : ℕ) (t : Tree) : Type 0 where
  flat : level + nesting t ≤ nesting_limit + 1
  in_range : IsInRange t

abbrev AreKept : List Argument → Type 0
AreKept [] = ⊤
AreKept (a ∷ rest) = ((level : ℕ) (t : Tree) → a.term level ≡ Ok t → IsKept level t) × AreKept rest

kept_as : (level : ℕ) (s t : Tree) → IsKept level s → (let a : OrFault Tree = Ok s in a ≡ Ok t) → IsKept level t
kept_as level s t k h = subst (IsKept level) (ok_ok s t h) k

plain_kept : (level : ℕ) (m : Plain) → level ≤ nesting_limit → IsKept level (leaf (plain_leaf m))
plain_kept level plain.Elect h = record { flat = omega arith; in_range = tt }
plain_kept level plain.Defer h = record { flat = omega arith; in_range = tt }
plain_kept level plain.Plurality h = record { flat = omega arith; in_range = tt }

ordered_kept : (level : ℕ) (m : Ordered) (k : ℕ) (order : List ℕ) → level ≤ nesting_limit → IsCount k
    → order_fault order ≡ None → IsKept level (leaf (ordered_leaf m k order))
ordered_kept level ordered.Pass k order h c o = record { flat = omega arith; in_range = (c, o) }
ordered_kept level ordered.Drop k order h c o = record { flat = omega arith; in_range = (c, o) }

eliminator_kept : (level : ℕ) (m : Eliminator) (s : Score) → level ≤ nesting_limit
    → IsKept level (leaf (eliminator_leaf m s))
eliminator_kept level eliminator.Max s h = record { flat = omega arith; in_range = tt }
eliminator_kept level eliminator.Min s h = record { flat = omega arith; in_range = tt }
eliminator_kept level eliminator.Below s h = record { flat = omega arith; in_range = tt }
eliminator_kept level eliminator.Upto s h = record { flat = omega arith; in_range = tt }

rev_kept : (level : ℕ) (t : Tree) → IsKept (level + 1) t → IsKept level (rev t)
rev_kept level t k = let f = k.flat in record { flat = omega arith; in_range = k.in_range }

loop_kept : (level : ℕ) (e : LoopEnd) (k : ℕ) (t : Tree) → IsCount k → IsKept (level + 1) t
    → IsKept level (loop (end_of e k) t)
loop_kept level loop_end.Exactly n t c k = let f = k.flat in record { flat = omega arith; in_range = (c, k.in_range) }
loop_kept level loop_end.AtMost n t c k = let f = k.flat in record { flat = omega arith; in_range = (c, k.in_range) }

pair_kept : (level : ℕ) (p : Pair) (s t : Tree) → IsKept (level + 1) s → IsKept (level + 1) t
    → IsKept level (pair_tree p s t)
pair_kept level pair.Seq s t k j = let f = k.flat in let g = j.flat
    in record { flat = omega arith; in_range = (k.in_range, j.in_range) }
pair_kept level pair.Par s t k j = let f = k.flat in let g = j.flat
    in record { flat = omega arith; in_range = (k.in_range, j.in_range) }

module _ (text : List ℕ) (names : Names) (at level : ℕ) (flat : level ≤ nesting_limit) where
  one_number_kept : (m : Ordered) (k : Argument) (t : Tree) → composition_of text names at level (word'.Ordered m)
      (k ∷ []) ≡ Ok t → IsKept level t
  one_number_kept m k t h =
      let b = bind_ok (count_of text k.tree) (λ k. Ok (leaf (ordered_leaf m k []))) t h in
      kept_as level (leaf (ordered_leaf m b.0 [])) t (ordered_kept level m b.0 [] flat (count_of_ok text k.tree b.0 b.1)
      refl) b.2

  with_order_kept : (m : Ordered) (k o : Argument) (t : Tree) → composition_of text names at level (word'.Ordered m)
      (k ∷ o ∷ []) ≡ Ok t → IsKept level t
  with_order_kept m k o t h =
      let b = bind_ok (count_of text k.tree) (λ k. order_of text o.tree >>= λ order. Ok (leaf (ordered_leaf m k order)))
      t h in
      let d = bind_ok (order_of text o.tree) (λ order. Ok (leaf (ordered_leaf m b.0 order))) t b.2 in
      kept_as level (leaf (ordered_leaf m b.0 d.0)) t (ordered_kept level m b.0 d.0 flat
      (count_of_ok text k.tree b.0 b.1) (order_of_ok text o.tree d.0 d.1)) d.2

  score_kept : (m : Eliminator) (s : Argument) (t : Tree) → composition_of text names at level (word'.Eliminator m)
      (s ∷ []) ≡ Ok t → IsKept level t
  score_kept m s t h =
      let b = bind_ok (score_argument text names s.tree) (λ s. Ok (leaf (eliminator_leaf m s))) t h in
      kept_as level (leaf (eliminator_leaf m b.0)) t (eliminator_kept level m b.0 flat) b.2

  rev_of_kept : (m : Argument) (t : Tree) → AreKept (m ∷ []) → composition_of text names at level word'.Rev (m ∷ [])
      ≡ Ok t → IsKept level t
  rev_of_kept m t k h =
      let b = bind_ok (m.term (level + 1)) (λ m. Ok (rev m)) t h in
      kept_as level (rev b.0) t (rev_kept level b.0 (k.0 (level + 1) b.0 b.1)) b.2

  pair_of_kept : (p : Pair) (m n : Argument) (t : Tree) → AreKept (m ∷ n ∷ []) → composition_of text names at level
      (word'.Pair p) (m ∷ n ∷ []) ≡ Ok t → IsKept level t
  pair_of_kept p m n t k h =
      let b = bind_ok (m.term (level + 1)) (λ first. n.term (level + 1) >>= λ second. Ok (pair_tree p first second)) t h
      in
      let d = bind_ok (n.term (level + 1)) (λ second. Ok (pair_tree p b.0 second)) t b.2 in
      kept_as level (pair_tree p b.0 d.0) t (pair_kept level p b.0 d.0 (k.0 (level + 1) b.0 b.1)
      (k.1.0 (level + 1) d.0 d.1)) d.2

  loop_of_kept : (e : LoopEnd) (k m : Argument) (t : Tree) → AreKept (k ∷ m ∷ []) → composition_of text names at level
      (word'.Loop e) (k ∷ m ∷ []) ≡ Ok t → IsKept level t
  loop_of_kept e n m t k h =
      let b = bind_ok (count_of text n.tree) (λ k. m.term (level + 1) >>= λ body. Ok (loop (end_of e k) body)) t h in
      let d = bind_ok (m.term (level + 1)) (λ body. Ok (loop (end_of e b.0) body)) t b.2 in
      kept_as level (loop (end_of e b.0) d.0) t (loop_kept level e b.0 d.0 (count_of_ok text n.tree b.0 b.1)
      (k.1.0 (level + 1) d.0 d.1)) d.2

  composed_kept : (w : BuiltIn) (arguments : List Argument) (t : Tree) → AreKept arguments → composition_of text names
      at level w arguments ≡ Ok t → IsKept level t
  composed_kept (word'.Plain m) [] t k h = kept_as level (leaf (plain_leaf m)) t (plain_kept level m flat) h
  composed_kept (word'.Plain m) (a ∷ rest) t k h = cc
  composed_kept (word'.Ordered m) [] t k h = cc
  composed_kept (word'.Ordered m) (a ∷ []) t k h = one_number_kept m a t h
  composed_kept (word'.Ordered m) (a ∷ b ∷ []) t k h = with_order_kept m a b t h
  composed_kept (word'.Ordered m) (a ∷ b ∷ c ∷ rest) t k h = cc
  composed_kept (word'.Eliminator m) [] t k h = cc
  composed_kept (word'.Eliminator m) (a ∷ []) t k h = score_kept m a t h
  composed_kept (word'.Eliminator m) (a ∷ b ∷ rest) t k h = cc
  composed_kept word'.Rev [] t k h = cc
  composed_kept word'.Rev (a ∷ []) t k h = rev_of_kept a t k h
  composed_kept word'.Rev (a ∷ b ∷ rest) t k h = cc
  composed_kept (word'.Pair p) [] t k h = cc
  composed_kept (word'.Pair p) (a ∷ []) t k h = cc
  composed_kept (word'.Pair p) (a ∷ b ∷ []) t k h = pair_of_kept p a b t k h
  composed_kept (word'.Pair p) (a ∷ b ∷ c ∷ rest) t k h = cc
  composed_kept (word'.Loop e) [] t k h = cc
  composed_kept (word'.Loop e) (a ∷ []) t k h = cc
  composed_kept (word'.Loop e) (a ∷ b ∷ []) t k h = loop_of_kept e a b t k h
  composed_kept (word'.Loop e) (a ∷ b ∷ c ∷ rest) t k h = cc
  composed_kept (word'.OnlyScore s) arguments t k h = cc

built_in_kept : (text : List ℕ) (names : Names) (at level : ℕ) (w : BuiltIn) (arguments : List Argument) (t : Tree)
    → AreKept arguments → built_in_term text names at level w arguments ≡ Ok t → IsKept level t
built_in_kept text names at level w arguments t k h =
    let a = guard_else (is_only_score w) _ _ t h in
    let b = guard_then (takes w (length arguments)) _ _ t a.1 in
    let d = guard_then (nat_le level nesting_limit) _ (composition_of text names at level w arguments) t b.1 in
    composed_kept text names at level (at_most level nesting_limit d.0) w arguments t k d.1

defined_kept : (at level n : ℕ) (found : Option Tree) (t : Tree) → ((s : Tree) → found ≡ Some s → IsWithinLimits s)
    → defined_term at level n found ≡ Ok t → IsKept level t
defined_kept at level n None t k h = cc
defined_kept at level n (Some s) t k h =
    let a = guard_then (nat_eq n 0) _ _ t h in
    let b = guard_then (nat_le (level + nesting s) (nesting_limit + 1)) _ (Ok s) t a.1 in
    kept_as level s t (record {
      flat = at_most (level + nesting s) (nesting_limit + 1) b.0;
      in_range = (k s refl).in_range;
    }) b.1

module _ (text : List ℕ) (names : Names) (within : AreWithinLimits names) where
  word_kept : (at level : ℕ) (name : List ℕ) (arguments : List Argument) (w : Option BuiltIn) (t : Tree)
      → AreKept arguments → word_term text names at level name arguments w ≡ Ok t → IsKept level t
  word_kept at level name arguments (Some w) t k h = built_in_kept text names at level w arguments t k h
  word_kept at level name arguments None t k h = defined_kept at level (length arguments) (names name) t (within name) h

  mutual
    typed_kept : (raw : RawTree) (level : ℕ) (t : Tree) → term_at text names raw level ≡ Ok t → IsKept level t
    typed_kept (number start end) level t h = cc
    typed_kept (bracket start members) level t h = cc
    typed_kept (word start end parts) level t h =
        word_kept start level (span text start end) (arguments_of text names parts)
        (built_in_named (span text start end)) t (arguments_kept parts) h

    arguments_kept : (parts : RawTrees) → AreKept (arguments_of text names parts)
    arguments_kept none = tt
    arguments_kept (more raw rest) = (λ level t h. typed_kept raw level t h, arguments_kept rest)

  pub term_of_within : (at : ℕ) (raw : RawTree) (t : Tree) → term_of text names at raw ≡ Ok t → IsWithinLimits t
  term_of_within at raw t h =
      let b = bind_ok (term_at text names raw 1) (check_size at) t h in
      let g = guard_then (nat_le (size b.0) size_limit) _ (Ok b.0) t b.2 in
      let k = typed_kept raw 1 t (b.1 ∙ g.1) in
      let flat = k.flat in
      let e : size b.0 ≡ size t = ap size (ok_ok b.0 t g.1) in
      let small = at_most (size b.0) size_limit g.0 in
      record { small = omega arith; flat = omega arith; in_range = k.in_range }
