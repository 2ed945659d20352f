-- Bytes that are cut into lines.
use Rattle.std.proofs.Common.{◌≡◌, ℕ, suc, ◌+◌, ◌<◌, ◌≤◌, true, false, cond, List, [], ◌∷◌, ◌++◌, length, get_or, map}
use Rattle.std.proofs.Common.{nat_eq, Result, Ok, Err, ap, sym, ◌∙◌, refl, arith, append_assoc, append-nil, add-zero}
use Rattle.std.specs.List.{position_or_len, before_first, after_first, list_any}
use Rattle.std.proofs.lemmas.Bool.Decides.{nat_tests}
use Rattle.std.proofs.lemmas.List.{get_or-take, length-take-le, length-append}
use Rattle.std.proofs.lemmas.List.Sums.{fails_before_first, passes_at_first, split_at_first}
use Rattle.vir_soc.specs.declared.fault.SocError.{SocError}
use Rattle.vir_soc.specs.declared.fault.SocError.TheVariants as errors
use Rattle.vir_soc.specs.declared.fault.SocFault.{SocFault}
use Rattle.vir_profile.specs.SocFiles.{is_line_feed}
use Rattle.vir_soc.specs.Checks.{◌>>=◌, at_line}
use Rattle.vir_soc.specs.Content.{Content}
use Rattle.vir_soc.specs.LineKinds.{LineKind, kinds_of, text_kind}
use Rattle.vir_soc.specs.Lines.{trim, without_mark}
use Rattle.vir_soc.specs.Soc.{after_line, after_lines}
use Rattle.vir_soc.specs.Reader.Answers.{Fails, fault_in}
use Rattle.vir_soc.specs.Reader.Pieces.{after_text, after_texts, ended, kinds_from, unended, Progress, reads, end_line}
use Rattle.vir_soc.specs.Reader.UsualLines.{HasLineFeed}
use Rattle.vir_soc.proofs.AnyLemmas.{position-inside, position-none}

-- cut in two
pub ended_append : (begun xs ys : List ℕ) → ended begun (xs ++ ys) ≡ ended begun xs ++ ended (unended begun xs) ys
unfolding ended unended
ended_append begun [] ys = refl
ended_append begun (c ∷ cs) ys =
    elim (is_line_feed c) as (λ b. cond b (begun ∷ ended [] (cs ++ ys)) (ended (begun ++ c ∷ []) (cs ++ ys))
    ≡ cond b (begun ∷ ended [] cs) (ended (begun ++ c ∷ []) cs)
    ++ ended (cond b (unended [] cs) (unended (begun ++ c ∷ []) cs)) ys) [
      | true ↦ ap (λ ls. begun ∷ ls) (ended_append [] cs ys)
      | false ↦ ended_append (begun ++ c ∷ []) cs ys
    ]

pub unended_append : (begun xs ys : List ℕ) → unended begun (xs ++ ys) ≡ unended (unended begun xs) ys
unfolding unended
unended_append begun [] ys = refl
unended_append begun (c ∷ cs) ys =
    elim (is_line_feed c) as (λ b. cond b (unended [] (cs ++ ys)) (unended (begun ++ c ∷ []) (cs ++ ys))
    ≡ unended (cond b (unended [] cs) (unended (begun ++ c ∷ []) cs)) ys) [
      | true ↦ unended_append [] cs ys
      | false ↦ unended_append (begun ++ c ∷ []) cs ys
    ]

-- bytes with no line end
pub record HasNoEnd (xs : List ℕ) : Type 0 where
  pub at : (k : ℕ) → k < length xs → is_line_feed (get_or xs k 0) ≡ false

pub ended_none : (begun xs : List ℕ) → HasNoEnd xs → ended begun xs ≡ []
unfolding ended
ended_none begun [] h = refl
ended_none begun (c ∷ cs) h = rw (h.at 0 (omega arith))
    (ended_none (begun ++ c ∷ []) cs (record { at = λ k l. h.at (suc k) (omega arith) }))

pub unended_none : (begun xs : List ℕ) → HasNoEnd xs → unended begun xs ≡ begun ++ xs
unfolding unended
unended_none begun [] h = sym (append-nil begun)
unended_none begun (c ∷ cs) h = rw (h.at 0 (omega arith)) (unended_none (begun ++ c ∷ []) cs
    (record { at = λ k l. h.at (suc k) (omega arith) }) ∙ append_assoc begun (c ∷ []) cs)

pub ended_at : (begun : List ℕ) (c : ℕ) (ys : List ℕ) → is_line_feed c ≡ true → ended begun (c ∷ ys) ≡ begun
    ∷ ended [] ys
unfolding ended
ended_at begun c ys e = rw e refl

pub unended_at : (begun : List ℕ) (c : ℕ) (ys : List ℕ) → is_line_feed c ≡ true → unended begun (c ∷ ys) ≡ unended [] ys
unfolding unended
unended_at begun c ys e = rw e refl

module _ (rest : List ℕ) where
  before_has_none : position_or_len is_line_feed rest ≤ length rest → HasNoEnd (before_first is_line_feed rest)
  before_has_none h = record {
    at = λ k l.
        let n = length-take-le (position_or_len is_line_feed rest) rest h in
        ap is_line_feed (get_or-take (position_or_len is_line_feed rest) rest k 0 (omega arith))
        ∙ fails_before_first is_line_feed rest k 0 (omega arith);
  }

  module _ (h : position_or_len is_line_feed rest < length rest) (begun : List ℕ) where
    pub ended_first : ended begun rest ≡ (begun ++ before_first is_line_feed rest)
        ∷ ended [] (after_first is_line_feed rest)
    ended_first =
        let before = before_first is_line_feed rest in
        let c = get_or rest (position_or_len is_line_feed rest) 0 in
        let none = before_has_none (omega arith) in
        ap (ended begun) (split_at_first is_line_feed rest 0 h)
        ∙ ended_append begun before (c ∷ after_first is_line_feed rest)
        ∙ rw (ended_none begun before none, unended_none begun before none)
        (ended_at (begun ++ before) c (after_first is_line_feed rest) (passes_at_first is_line_feed rest 0 h))

    pub unended_first : unended begun rest ≡ unended [] (after_first is_line_feed rest)
    unended_first =
        let before = before_first is_line_feed rest in
        let c = get_or rest (position_or_len is_line_feed rest) 0 in
        ap (unended begun) (split_at_first is_line_feed rest 0 h)
        ∙ unended_append begun before (c ∷ after_first is_line_feed rest)
        ∙ unended_at (unended begun before) c (after_first is_line_feed rest) (passes_at_first is_line_feed rest 0 h)

  pub rest_has_none : position_or_len is_line_feed rest ≡ length rest → HasNoEnd rest
  rest_has_none e = record { at = λ k l. fails_before_first is_line_feed rest k 0 (omega arith) }

-- ---- what lines are, by their numbers

later_kinds : (n : ℕ) (texts : List (List ℕ)) → 1 < n → kinds_from n texts ≡ map (λ text. text_kind (trim text)) texts
unfolding kinds_from
later_kinds n [] h = refl
later_kinds n (text ∷ texts) h =
    let e : nat_eq n 1 ≡ false = grind (arith, nat_tests) in
    rw e (ap (λ ks. text_kind (trim text) ∷ ks) (later_kinds (n + 1) texts (omega arith)))

-- from the first line on
pub kinds_from-first : (texts : List (List ℕ)) → kinds_from 1 texts ≡ kinds_of texts
unfolding kinds_from
kinds_from-first [] = refl
kinds_from-first (text ∷ texts) = ap (λ ks. text_kind (trim (without_mark text)) ∷ ks)
    (later_kinds 2 texts (omega arith))

kinds_from_append : (n : ℕ) (xs ys : List (List ℕ)) → kinds_from n (xs ++ ys) ≡ kinds_from n xs
    ++ kinds_from (n + length xs) ys
unfolding kinds_from
kinds_from_append n [] ys = ap (λ k. kinds_from k ys) (sym (add-zero n))
kinds_from_append n (x ∷ xs) ys =
    let e : n + 1 + length xs ≡ n + suc (length xs) = omega arith in
    rw (kinds_from_append (n + 1) xs ys, e) refl

pub length-kinds_from : (n : ℕ) (texts : List (List ℕ)) → length (kinds_from n texts) ≡ length texts
unfolding kinds_from
length-kinds_from n [] = refl
length-kinds_from n (x ∷ xs) = ap suc (length-kinds_from (n + 1) xs)

pub after_lines_append : (s : Content) (n : ℕ) (xs ys : List LineKind) → after_lines s n (xs ++ ys)
    ≡ (after_lines s n xs >>= λ t. after_lines t (n + length xs) ys)
unfolding after_lines
after_lines_append s n [] ys = ap (λ k. after_lines s k ys) (sym (add-zero n))
after_lines_append s n (x ∷ xs) ys =
    let e : n + 1 + length xs ≡ n + suc (length xs) = omega arith in
    elim (at_line n (after_line s n x)) as (λ r. (r >>= λ u. after_lines u (n + 1) (xs ++ ys))
    ≡ ((r >>= λ u. after_lines u (n + 1) xs) >>= λ t. after_lines t (n + suc (length xs)) ys)) [
      | Ok u ↦ after_lines_append u (n + 1) xs ys ∙ ap (λ k. after_lines u (n + 1) xs >>= λ t. after_lines t k ys) e
      | Err f ↦ refl
    ]

pub after_texts_append : (s : Content) (n : ℕ) (xs ys : List (List ℕ)) → after_texts s n (xs ++ ys)
    ≡ (after_texts s n xs >>= λ t. after_texts t (n + length xs) ys)
after_texts_append s n xs ys =
    ap (after_lines s n) (kinds_from_append n xs ys)
    ∙ after_lines_append s n (kinds_from n xs) (kinds_from (n + length xs) ys)
    ∙ ap (λ k. after_texts s n xs >>= λ t. after_lines t (n + k) (kinds_from (n + length xs) ys))
    (length-kinds_from n xs)

-- ---- pieces

abbrev put : ℕ → List ℕ → Content → Result Progress SocFault
put line begun content = Ok (record { content = content; line = line; begun = begun })

then_lines : (r : Result Content SocFault) (line : ℕ) (rest : List ℕ)
    → ((r >>= λ s. after_texts s (line + 1) (ended [] rest)) >>= put (line + suc (length (ended [] rest)))
    (unended [] rest)) ≡ ((r >>= put (line + 1) []) >>= λ (q : Progress). reads q rest)
then_lines (Err f) line rest = refl
then_lines (Ok s) line rest = let e : line + suc (length (ended [] rest)) ≡ line + 1 + length (ended [] rest) =
    omega arith in ap (λ n. after_texts s (line + 1) (ended [] rest) >>= put n (unended [] rest)) e

-- a line that ends in these bytes, and the bytes behind it
pub reads_end : (p : Progress) (rest : List ℕ) → position_or_len is_line_feed rest < length rest → reads p rest
    ≡ (end_line p (before_first is_line_feed rest) >>= λ q. reads q (after_first is_line_feed rest))
unfolding after_lines after_text kinds_from
reads_end p rest h = rw (ended_first rest h p.begun, unended_first rest h p.begun)
    (then_lines (at_line p.line (after_text p.content p.line (p.begun ++ before_first is_line_feed rest))) p.line
    (after_first is_line_feed rest))

abbrev line_in : Result Progress SocFault → ℕ
line_in (Ok q) = q.line
line_in (Err f) = 0

abbrev begun_in : Result Progress SocFault → List ℕ
begun_in (Ok q) = q.begun
begun_in (Err f) = []

-- the line behind one that ends
module _ (p next : Progress) (end : List ℕ) where
  by_content : (r : Result Content SocFault) → (r >>= put (p.line + 1) []) ≡ Ok next → (next.line ≡ p.line + 1)
      × (next.begun ≡ [])
  by_content (Ok content) is = (sym (ap line_in is), sym (ap begun_in is))
  by_content (Err f) is = absurd cc

  pub end_line-next : end_line p end ≡ Ok next → (next.line ≡ p.line + 1) × (next.begun ≡ [])
  end_line-next is = by_content (at_line p.line (after_text p.content p.line (p.begun ++ end))) is

-- a line that is taken, and the bytes behind it
pub reads_on : (p q : Progress) (bytes after : List ℕ) → HasLineFeed bytes → after ≡ after_first is_line_feed bytes
    → end_line p (before_first is_line_feed bytes) ≡ Ok q → reads p bytes ≡ reads q after
reads_on p q bytes after h e is = rw e (reads_end p bytes (position-inside is_line_feed bytes h)
    ∙ ap (λ r. r >>= λ q. reads q (after_first is_line_feed bytes)) is)

-- a line at fault
pub reads_fails : (p : Progress) (bytes : List ℕ) (e : SocError) → HasLineFeed bytes
    → Fails (fault_in e) (end_line p (before_first is_line_feed bytes)) → Fails (fault_in e) (reads p bytes)
reads_fails p bytes (errors.Fault f) h is = reads_end p bytes (position-inside is_line_feed bytes h)
    ∙ ap (λ r. r >>= λ q. reads q (after_first is_line_feed bytes)) is
reads_fails p bytes errors.Memory h is = tt

-- bytes that end no line
pub reads_none : (p : Progress) (rest : List ℕ) → position_or_len is_line_feed rest ≡ length rest → reads p rest
    ≡ Ok (record { content = p.content; line = p.line; begun = p.begun ++ rest })
unfolding after_lines after_text kinds_from
reads_none p rest e = rw (
  ended_none p.begun rest (rest_has_none rest e),
  unended_none p.begun rest
      (rest_has_none rest e),
) (ap (λ n. put n (p.begun ++ rest) p.content) (add-zero p.line))

join : (r : Result Content SocFault) (n : ℕ) (begun bytes : List ℕ) → ((r >>= λ t. after_texts t n (ended begun bytes))
    >>= put (n + length (ended begun bytes)) (unended begun bytes)) ≡ ((r >>= put n begun) >>= λ (q : Progress).
    reads q bytes)
join (Ok s) n begun bytes = refl
join (Err f) n begun bytes = refl

-- reading in pieces is reading
pub reads_append : (p : Progress) (xs ys : List ℕ) → reads p (xs ++ ys) ≡ (reads p xs >>= λ q. reads q ys)
reads_append p xs ys =
    let first = ended p.begun xs in
    let begun = unended p.begun xs in
    let later = ended begun ys in
    let n : p.line + length (first ++ later) ≡ p.line + length first + length later =
    omega (arith, length-append first later) in
    rw (ended_append p.begun xs ys, unended_append p.begun xs ys, n, after_texts_append p.content p.line first later)
    (join (after_texts p.content p.line first) (p.line + length first) begun ys)

pub reads_nothing : (p : Progress) → reads p [] ≡ Ok p
reads_nothing p = reads_none p [] refl ∙ ap (λ b. put p.line b p.content) (append-nil p.begun)

-- no more lines end than there are bytes
pub length-ended : (begun bytes : List ℕ) → length (ended begun bytes) ≤ length bytes
unfolding ended
length-ended begun [] = omega arith
length-ended begun (c ∷ cs) =
    elim (is_line_feed c) as (λ b. length (cond b (begun ∷ ended [] cs) (ended (begun ++ c ∷ []) cs))
    ≤ suc (length cs)) [
      | true ↦ let l = length-ended [] cs in omega arith
      | false ↦ let l = length-ended (begun ++ c ∷ []) cs in omega arith
    ]

-- the number of the line behind bytes that are read
module _ (p next : Progress) (bytes : List ℕ) where
  by_lines : (r : Result Content SocFault) → (r >>= put (p.line + length (ended p.begun bytes)) (unended p.begun bytes))
      ≡ Ok next → next.line ≤ p.line + length bytes
  by_lines (Ok content) is =
      let l = length-ended p.begun bytes in
      let n = ap line_in is in
      omega arith
  by_lines (Err f) is = absurd cc

  pub reads-line : reads p bytes ≡ Ok next → next.line ≤ p.line + length bytes
  reads-line is = by_lines (after_texts p.content p.line (ended p.begun bytes)) is

-- bytes that end no line, behind others
pub reads_open : (p q : Progress) (bytes front back : List ℕ) → bytes ≡ front ++ back → reads p front ≡ Ok q
    → list_any is_line_feed back ≡ false
    → reads p bytes ≡ Ok (record { content = q.content; line = q.line; begun = q.begun ++ back })
reads_open p q bytes front back e is none = ap (reads p) e ∙ reads_append p front back
    ∙ ap (λ r. r >>= λ q. reads q back) is ∙ reads_none q back (position-none is_line_feed back none)

-- a fault of the bytes before others
pub reads_append_fails : (p : Progress) (bytes front back : List ℕ) (e : SocError) → bytes ≡ front ++ back
    → Fails (fault_in e) (reads p front) → Fails (fault_in e) (reads p bytes)
reads_append_fails p bytes front back (errors.Fault f) e is = ap (reads p) e ∙ reads_append p front back
    ∙ ap (λ r. r >>= λ q. reads q back) is
reads_append_fails p bytes front back errors.Memory e is = tt
