-- What the language without `until` accepts, the one with it accepts as the same term.
use Rattle.std.proofs.Common.{◌≡◌, ℕ, suc, ◌+◌, Bool, true, false, List, [], ◌∷◌, length, Option, Some, None, Ok}
use Rattle.std.proofs.Common.{nat_le, if◌then◌else◌, refl, sym, ◌∙◌, ap, subst}
use Rattle.std.specs.Prelude.{⊤}
use Rattle.std.specs.Str.{bytes_eq}
use Rattle.std.specs.Cmp.Lexicographic.{bytes_decides}
use Rattle.vir_term.specs.declared.score.Score.{Score}
use Rattle.vir_term.specs.Limits.{nesting_limit}
use Rattle.vir_term.specs.Tree.{Tree, leaf, rev, loop}
use Rattle.vir_read.specs.declared.built_in.BuiltIn.{BuiltIn}
use Rattle.vir_read.specs.declared.built_in.BuiltIn.TheVariants as word'
use Rattle.vir_read.specs.declared.built_in.Ordered.{Ordered}
use Rattle.vir_read.specs.declared.built_in.Eliminator.{Eliminator}
use Rattle.vir_read.specs.declared.built_in.Pair.{Pair}
use Rattle.vir_read.specs.declared.built_in.LoopEnd.{LoopEnd}
use Rattle.vir_read.specs.Faults.{OrFault, ◌>>=◌}
use Rattle.vir_read.specs.RawTrees.{RawTree, RawTrees, word, number, bracket, none, more, list_of}
use Rattle.vir_read.specs.BuiltIns.{built_in_named, score_named, takes, is_only_score}
use Rattle.vir_read.specs.Arguments.{Names, span, count_of, with_member, with_members, order_of, as_score, is_known}
use Rattle.vir_read.specs.Arguments.{score_argument}
use Rattle.vir_read.specs.Typing.{Argument, ordered_leaf, eliminator_leaf, pair_tree, end_of, composition_of}
use Rattle.vir_read.specs.Typing.{built_in_term}
use Rattle.vir_read.specs.Typing.{defined_term, word_term, term_at, arguments_of}
use Rattle.vir_read.proofs.LimitLemmas.{bind_ok, guard_else, guard_then}
use Rattle.vir_cert.specs.Untils.{until_word, until_at}
use Rattle.vir_cert.specs.FirstReader.{first_typed, first_arguments_of}
use Rattle.vir_cert.proofs.UntilFree.{IsFree, AllFree, free_at}

-- ---- arguments that are no terms

count_free : (text : List ℕ) (raw : RawTree) (k : ℕ) → count_of text raw ≡ Ok k → IsFree text raw
count_free text (number start end) k h = tt
count_free text (word start end parts) k h = cc
count_free text (bracket start members) k h = cc

member_free : (text before : List ℕ) (raw : RawTree) (after : List ℕ) → with_member text before raw ≡ Ok after
    → IsFree text raw
member_free text before (number start end) after h = tt
member_free text before (word start end parts) after h = cc
member_free text before (bracket start members) after h = cc

members_free : (text before : List ℕ) (raws : RawTrees) (after : List ℕ) → with_members text before (list_of raws)
    ≡ Ok after → AllFree text raws
members_free text before none after h = tt
members_free text before (more raw rest) after h =
    let b = bind_ok (with_member text before raw) (λ so_far. with_members text so_far (list_of rest)) after h in
    (member_free text before raw b.0 b.1, members_free text b.0 rest after b.2)

order_free : (text : List ℕ) (raw : RawTree) (order : List ℕ) → order_of text raw ≡ Ok order → IsFree text raw
order_free text (bracket start members) order h = members_free text [] members order h
order_free text (word start end parts) order h = cc
order_free text (number start end) order h = cc

no_score : score_named until_word ≡ None
no_score = refl

other_word : (name : List ℕ) (s : Score) (b : Bool) → bytes_eq name until_word ≡ b → score_named name ≡ Some s → b
    ≡ false
other_word name s false e h = refl
other_word name s true e h = let same : name ≡ until_word = (bytes_decides name until_word).0 e
    in absurd (clash (sym (ap score_named same ∙ no_score) ∙ h)) where
      clash : None ≡ Some s → ⊥
      clash h = cc

as_score_free : (text name : List ℕ) (at : ℕ) (parts : RawTrees) (known : Bool) (found : Option Score) (s : Score)
    → score_named name ≡ found → as_score at parts known found ≡ Ok s →
    (bytes_eq name until_word ≡ false) × AllFree text parts
as_score_free text name at parts true None s e h = cc
as_score_free text name at parts false None s e h = cc
as_score_free text name at none known (Some r) s e h = (other_word name r (bytes_eq name until_word) refl e, tt)
as_score_free text name at (more _ _) known (Some r) s e h = cc

score_free : (text : List ℕ) (names : Names) (raw : RawTree) (s : Score) → score_argument text names raw ≡ Ok s
    → IsFree text raw
score_free text names (word start end parts) s h =
    as_score_free text (span text start end) start parts (is_known names (span text start end))
    (score_named (span text start end)) s refl h
score_free text names (number start end) s h = cc
score_free text names (bracket start members) s h = cc

-- ---- arguments

module _ (text : List ℕ) (names : Names) where
  -- an argument as each language takes it
  record Twin : Type 0 where
    tree : RawTree
    first : ℕ → OrFault Tree
    second : ℕ → OrFault Tree
    alike : (level : ℕ) (t : Tree) → first level ≡ Ok t → IsFree text tree × (second level ≡ Ok t)

  abbrev firsts : List Twin → List Argument
  firsts [] = []
  firsts (x ∷ rest) = record { tree = x.tree; term = x.first } ∷ firsts rest

  abbrev seconds : List Twin → List Argument
  seconds [] = []
  seconds (x ∷ rest) = record { tree = x.tree; term = x.second } ∷ seconds rest

  abbrev AreFree : List Twin → Type 0
  AreFree [] = ⊤
  AreFree (x ∷ rest) = IsFree text x.tree × AreFree rest

  module _ (at level : ℕ) where
    -- what a word makes of them
    abbrev Alike : BuiltIn → List Twin → Tree → Type 0
    Alike w xs t = AreFree xs × (composition_of text names at level w (seconds xs) ≡ Ok t)

    one_number : (m : Ordered) (k : Twin) (t : Tree) → composition_of text names at level (word'.Ordered m)
        (firsts (k ∷ []))
        ≡ Ok t → Alike (word'.Ordered m) (k ∷ []) t
    one_number m k t h =
        let b = bind_ok (count_of text k.tree) (λ k. Ok (leaf (ordered_leaf m k []))) t h in
        ((count_free text k.tree b.0 b.1, tt), h)

    with_order : (m : Ordered) (k o : Twin) (t : Tree) → composition_of text names at level (word'.Ordered m)
        (firsts (k ∷ o ∷ [])) ≡ Ok t → Alike (word'.Ordered m) (k ∷ o ∷ []) t
    with_order m k o t h =
        let b = bind_ok (count_of text k.tree) (λ k. order_of text o.tree >>= λ order.
        Ok (leaf (ordered_leaf m k order))) t h in
        let d = bind_ok (order_of text o.tree) (λ order. Ok (leaf (ordered_leaf m b.0 order))) t b.2 in
        ((count_free text k.tree b.0 b.1, (order_free text o.tree d.0 d.1, tt)), h)

    with_score : (m : Eliminator) (s : Twin) (t : Tree) → composition_of text names at level (word'.Eliminator m)
        (firsts (s ∷ [])) ≡ Ok t → Alike (word'.Eliminator m) (s ∷ []) t
    with_score m s t h =
        let b = bind_ok (score_argument text names s.tree) (λ s. Ok (leaf (eliminator_leaf m s))) t h in
        ((score_free text names s.tree b.0 b.1, tt), h)

    one_part : (m : Twin) (t : Tree) → composition_of text names at level word'.Rev (firsts (m ∷ [])) ≡ Ok t
        → Alike word'.Rev (m ∷ []) t
    one_part m t h =
        let b = bind_ok (m.first (level + 1)) (λ m. Ok (rev m)) t h in
        let a = m.alike (level + 1) b.0 b.1 in
        ((a.0, tt), ap (λ r. r >>= λ m. Ok (rev m)) a.1 ∙ b.2)

    two_parts : (c : Pair) (m n : Twin) (t : Tree) → composition_of text names at level (word'.Pair c)
        (firsts (m ∷ n ∷ []))
        ≡ Ok t → Alike (word'.Pair c) (m ∷ n ∷ []) t
    two_parts c m n t h =
        let b = bind_ok (m.first (level + 1)) (λ first. n.first (level + 1) >>= λ second. Ok (pair_tree c first second))
        t h in
        let d = bind_ok (n.first (level + 1)) (λ second. Ok (pair_tree c b.0 second)) t b.2 in
        let a = m.alike (level + 1) b.0 b.1 in
        let e = n.alike (level + 1) d.0 d.1 in (
          (a.0, (e.0, tt)),
          ap (λ r. r >>= λ first. n.second (level + 1) >>= λ second. Ok (pair_tree c first second)) a.1
              ∙ ap (λ r. r >>= λ second. Ok (pair_tree c b.0 second)) e.1 ∙ d.2,
        )

    number_and_part : (e : LoopEnd) (k m : Twin) (t : Tree) →
        composition_of text names at level (word'.Loop e) (firsts (k ∷ m ∷ [])) ≡ Ok t → Alike (word'.Loop e)
        (k ∷ m ∷ []) t
    number_and_part e k m t h =
        let b = bind_ok (count_of text k.tree) (λ k. m.first (level + 1) >>= λ body. Ok (loop (end_of e k) body)) t h in
        let d = bind_ok (m.first (level + 1)) (λ body. Ok (loop (end_of e b.0) body)) t b.2 in
        let a = m.alike (level + 1) d.0 d.1 in (
          (count_free text k.tree b.0 b.1, (a.0, tt)),
          ap (λ r. r >>= λ k. m.second (level + 1) >>= λ body. Ok (loop (end_of e k) body)) b.1
              ∙ ap (λ r. r >>= λ body. Ok (loop (end_of e b.0) body)) a.1 ∙ d.2,
        )

    composed_alike : (w : BuiltIn) (xs : List Twin) (t : Tree) → composition_of text names at level w (firsts xs) ≡ Ok t
        → Alike w xs t
    composed_alike (word'.Plain m) [] t h = (tt, h)
    composed_alike (word'.Plain m) (x ∷ xs) t h = cc
    composed_alike (word'.Ordered m) [] t h = cc
    composed_alike (word'.Ordered m) (k ∷ []) t h = one_number m k t h
    composed_alike (word'.Ordered m) (k ∷ o ∷ []) t h = with_order m k o t h
    composed_alike (word'.Ordered m) (k ∷ o ∷ x ∷ xs) t h = cc
    composed_alike (word'.Eliminator m) [] t h = cc
    composed_alike (word'.Eliminator m) (s ∷ []) t h = with_score m s t h
    composed_alike (word'.Eliminator m) (s ∷ x ∷ xs) t h = cc
    composed_alike word'.Rev [] t h = cc
    composed_alike word'.Rev (m ∷ []) t h = one_part m t h
    composed_alike word'.Rev (m ∷ x ∷ xs) t h = cc
    composed_alike (word'.Pair c) [] t h = cc
    composed_alike (word'.Pair c) (m ∷ []) t h = cc
    composed_alike (word'.Pair c) (m ∷ n ∷ []) t h = two_parts c m n t h
    composed_alike (word'.Pair c) (m ∷ n ∷ x ∷ xs) t h = cc
    composed_alike (word'.Loop e) [] t h = cc
    composed_alike (word'.Loop e) (k ∷ []) t h = cc
    composed_alike (word'.Loop e) (k ∷ m ∷ []) t h = number_and_part e k m t h
    composed_alike (word'.Loop e) (k ∷ m ∷ x ∷ xs) t h = cc
    composed_alike (word'.OnlyScore s) xs t h = cc

  same_length : (xs : List Twin) → length (firsts xs) ≡ length (seconds xs)
  same_length [] = refl
  same_length (x ∷ xs) = ap suc (same_length xs)

  built_in_alike : (at level : ℕ) (w : BuiltIn) (xs : List Twin) (t : Tree) → built_in_term text names at level w
      (firsts xs)
      ≡ Ok t →
      AreFree xs × (built_in_term text names at level w (seconds xs) ≡ Ok t)
  built_in_alike at level w xs t h =
      let a = guard_else (is_only_score w) _ _ t h in
      let b = guard_then (takes w (length (firsts xs))) _ _ t a.1 in
      let c = guard_then (nat_le level nesting_limit) _ _ t b.1 in
      let k = composed_alike at level w xs t c.1 in
      let n : takes w (length (seconds xs)) ≡ true = ap (takes w) (sym (same_length xs)) ∙ b.0 in
      (k.0, rw (a.0, n, c.0) k.1)

  -- arguments of the one language, and of the other
  abbrev AreAlike : List Argument → List Argument → Type 0
  AreAlike [] [] = ⊤
  AreAlike (a ∷ as') (b ∷ bs) =
      (a.tree ≡ b.tree) × ((level : ℕ) (t : Tree) → a.term level ≡ Ok t → IsFree text a.tree × (b.term level ≡ Ok t))
      × AreAlike as' bs
  AreAlike [] (_ ∷ _) = ⊥
  AreAlike (_ ∷ _) [] = ⊥

  twins : (as' bs : List Argument) → AreAlike as' bs → (xs : List Twin) × (as' ≡ firsts xs) × (bs ≡ seconds xs)
  twins [] [] h = ([], refl, refl)
  twins [] (b ∷ bs) h = absurd h
  twins (a ∷ as') [] h = absurd h
  twins (a ∷ as') (b ∷ bs) h =
      let k = twins as' bs h.2 in
      let x : Twin = record { tree = a.tree; first = a.term; second = b.term; alike = h.1 } in (
        x ∷ k.0,
        ap (λ ys. a ∷ ys) k.1,
        ap (λ tree. record { tree = tree; term = b.term } ∷ bs) (sym h.0)
            ∙ ap (λ ys. record { tree = a.tree; term = b.term } ∷ ys) k.2,
      )

  head_of : RawTree → List Argument → RawTree
  head_of other [] = other
  head_of other (a ∷ rest) = a.tree

  tail_of : List Argument → List Argument
  tail_of [] = []
  tail_of (a ∷ rest) = rest

  parts_free : (parts : RawTrees) (xs : List Twin) → first_arguments_of text names parts ≡ firsts xs → AreFree xs
      → AllFree text parts
  unfolding head_of tail_of
  parts_free none xs e h = tt
  parts_free (more raw rest) [] e h = cc
  parts_free (more raw rest) (x ∷ xs) e h =
      let same : x.tree ≡ raw = sym (ap (head_of raw) e) in
      (subst (IsFree text) same h.0, parts_free rest xs (ap tail_of e) h.1)

  module _ (nobody : (name : List ℕ) → names name ≡ None) where
    undefined : (at level n : ℕ) (name : List ℕ) (t : Tree) → defined_term at level n (names name) ≡ Ok t → ⊥
    undefined at level n name t h = no_term (ap (defined_term at level n) (sym (nobody name)) ∙ h) where
      no_term : defined_term at level n None ≡ Ok t → ⊥
      no_term h = cc

    module _ (start end level : ℕ) (parts : RawTrees) (t : Tree) (alike : AreAlike (first_arguments_of text names parts)
        (arguments_of text names parts)) where
      Whole : Type 0
      Whole = (bytes_eq (span text start end) until_word ≡ false) × AllFree text parts
          × (word_term text names start level (span text start end) (arguments_of text names parts)
          (built_in_named (span text start end)) ≡ Ok t)

      by_word : (found : Option BuiltIn) → built_in_named (span text start end) ≡ found → bytes_eq (span text start end)
          until_word ≡ false →
          word_term text names start level (span text start end) (first_arguments_of text names parts) found ≡ Ok t
          → Whole
      unfolding Whole
      by_word None e other h = absurd (undefined start level (length (first_arguments_of text names parts))
          (span text start end) t h)
      by_word (Some w) e other h =
          let k = twins (first_arguments_of text names parts) (arguments_of text names parts) alike in
          let b = built_in_alike start level w k.0 t (ap (built_in_term text names start level w) (sym k.1) ∙ h) in (
            other,
            parts_free parts k.0 k.1 b.0,
            ap (word_term text names start level (span text start end) (arguments_of text names parts)) e
                ∙ ap (built_in_term text names start level w) k.2 ∙ b.1,
          )

      by_name : (b : Bool) → bytes_eq (span text start end) until_word ≡ b →
          word_term text names start level (span text start end) (first_arguments_of text names parts) (if b then None
          else built_in_named (span text start end)) ≡ Ok t → Whole
      by_name true e h = absurd (undefined start level (length (first_arguments_of text names parts))
          (span text start end) t h)
      by_name false e h = by_word (built_in_named (span text start end)) refl e h

      word_alike : first_typed text names (word start end parts) level ≡ Ok t → IsFree text (word start end parts)
          × (term_at text names (word start end parts) level ≡ Ok t)
      unfolding Whole
      word_alike h = let k = by_name (bytes_eq (span text start end) until_word) refl h in ((k.0, k.1), k.2)

    mutual
      typed_alike : (raw : RawTree) (level : ℕ) (t : Tree) → first_typed text names raw level ≡ Ok t → IsFree text raw
          × (term_at text names raw level ≡ Ok t)
      typed_alike (number start end) level t h = cc
      typed_alike (bracket start members) level t h = cc
      typed_alike (word start end parts) level t h = word_alike start end level parts t (arguments_alike parts) h

      arguments_alike : (parts : RawTrees) → AreAlike (first_arguments_of text names parts)
          (arguments_of text names parts)
      arguments_alike none = tt
      arguments_alike (more raw rest) = (refl, (λ level t h. typed_alike raw level t h), arguments_alike rest)

    pub accepted_alike : (raw : RawTree) (level : ℕ) (t : Tree) → first_typed text names raw level ≡ Ok t
        → (until_at text raw ≡ None) × (term_at text names raw level ≡ Ok t)
    accepted_alike raw level t h = let k = typed_alike raw level t h in (free_at text raw k.0, k.1)
