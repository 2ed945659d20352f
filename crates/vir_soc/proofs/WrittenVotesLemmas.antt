-- A written line of votes is read.
use Rattle.std.proofs.Common.{◌≡◌, ℕ, suc, ◌+◌, ◌-◌, ◌<◌, ◌≤◌, ◌^◌, Bool, true, false, ◌&&◌, ◌||◌, cond, List, [], ◌∷◌}
use Rattle.std.proofs.Common.{◌++◌, length, get_or, map, decimal, Option, Some, None, Ok, nat_eq, nat_le, nat_lt, ap}
use Rattle.std.proofs.Common.{sym, ◌∙◌, refl, arith, append_assoc, append-nil}
use Rattle.std.specs.Prelude.{All}
use Rattle.std.specs.List.{list_any, slice_split, onto_first}
use Rattle.std.proofs.lemmas.Bool.{le-ltb, lt-leb, ltb-false}
use Rattle.std.proofs.lemmas.Bool.Decides.{nat_tests}
use Rattle.std.proofs.lemmas.List.{length-append, get_or_append_left}
use Rattle.std.proofs.lemmas.List.Elements.{All-nil, All-cons}
use Rattle.std.proofs.lemmas.List.Folds.{list_any-append}
use Rattle.std.proofs.lemmas.List.Splits.{slice_split_at, slice_split_none}
use Rattle.vir_altset.specs.Sets.{limit}
use Rattle.vir_profile.specs.OrderFaults.{fault_where, member_fault_after, or_else, order_fault}
use Rattle.vir_profile.specs.Profiles.{lines_limit, voters_limit, total_weight}
use Rattle.vir_profile.specs.SocFiles.{is_blank, is_line_feed}
use Rattle.vir_profile.specs.declared.ballot.Entry.{Entry}
use Rattle.vir_profile.specs.declared.refused.AddFault.{AddFault}
use Rattle.vir_profile.specs.declared.refused.AddFault.TheVariants as faults
use Rattle.vir_soc.specs.Lines.{trim}
use Rattle.vir_soc.specs.LineKinds.{ballots, is_colon, is_hash, text_kind}
use Rattle.vir_soc.specs.Numbers.{number}
use Rattle.vir_soc.specs.Content.{Content}
use Rattle.vir_soc.specs.Soc.{after_line}
use Rattle.vir_soc.specs.SocText.{order_text}
use Rattle.vir_soc.specs.Votes.{alternative, is_brace, is_comma, order_after, with_votes}
use Rattle.vir_soc.proofs.AnyLemmas.{All-none}
use Rattle.vir_soc.proofs.CleanLemmas.{IsClean, IsClean-append, IsClean-decimal, after_colon, before_colon}
use Rattle.vir_soc.proofs.CleanLemmas.{colon_inside, last-append, trim-clean, trim-spaced}
use Rattle.vir_soc.proofs.DigitLemmas.{FailsDigits, brace_fails, colon_fails, comma_fails, decimal-some, digit_fails}
use Rattle.vir_soc.proofs.DigitLemmas.{hash_fails, line_feed_fails, list_any-decimal, number-decimal}

-- ---- an order

-- some numbers of 64 bits
pub record AreSmall (order : List ℕ) : Type 0 where
  pub each : All (λ x. x < 2 ^ 64) order

small_first : (x : ℕ) (xs : List ℕ) → AreSmall (x ∷ xs) → x < 2 ^ 64
small_first x xs h = h.each 0 0 (omega arith)

small_rest : (x : ℕ) (xs : List ℕ) → AreSmall (x ∷ xs) → AreSmall xs
small_rest x xs h = record { each = λ k d l. h.each (suc k) d (omega arith) }

pub no_comma : (x : ℕ) → x < 2 ^ 64 → All (λ c. is_comma c ≡ false) (decimal x)
no_comma x h = All-none is_comma (decimal x) (list_any-decimal is_comma comma_fails x h)

split_order : (x : ℕ) (xs : List ℕ) → AreSmall (x ∷ xs) → slice_split is_comma (order_text (x ∷ xs))
    ≡ map decimal (x ∷ xs)
split_order x [] h = slice_split_none is_comma (decimal x) (no_comma x (small_first x [] h))
split_order x (y ∷ ys) h =
    slice_split_at is_comma (decimal x) 44 (order_text (y ∷ ys)) (no_comma x (small_first x (y ∷ ys) h)) refl
    ∙ ap (λ ts. decimal x ∷ ts) (split_order y ys (small_rest x (y ∷ ys) h))

split_spaced : (x : ℕ) (xs : List ℕ) → AreSmall (x ∷ xs) → slice_split is_comma (32 ∷ order_text (x ∷ xs))
    ≡ (32 ∷ decimal x) ∷ map decimal xs
split_spaced x xs h = ap (onto_first 32) (split_order x xs h)

-- where a member and those after it give no fault
pub fault_first : (inside again : Bool) (next : Option AddFault) → cond inside (cond again (Some faults.Repeated) next)
    (Some faults.OutOfRange) ≡ None → (inside ≡ true) × (again ≡ false) × (next ≡ None)
fault_first true true next h = absurd cc
fault_first true false next h = (refl, refl, h)
fault_first false again next h = absurd cc

in_range : (m x : ℕ) → (nat_le 1 x && nat_le x m) ≡ true → (nat_eq x 0 || nat_lt m x) ≡ false
in_range m x h = grind (arith, nat_tests)

pub alternative-decimal : (m x : ℕ) → x < 2 ^ 64 → (nat_le 1 x && nat_le x m) ≡ true → alternative m (decimal x) ≡ Ok x
alternative-decimal m x h r = rw (trim-clean (decimal x) (IsClean-decimal x h), number-decimal x h, in_range m x r) refl

order_after-decimal : (m : ℕ) (before order : List ℕ) → AreSmall order → member_fault_after m before order ≡ None
    → order_after m before (map decimal order) ≡ Ok (before ++ order)
unfolding order_after
order_after-decimal m before [] h e = ap Ok (sym (append-nil before))
order_after-decimal m before (x ∷ xs) h e =
    let f = fault_first (nat_le 1 x && nat_le x m) (list_any (λ y. nat_eq y x) before)
    (member_fault_after m (before ++ x ∷ []) xs) e in
    rw (alternative-decimal m x (small_first x xs h) f.0, f.1) (order_after-decimal m (before ++ x ∷ []) xs
    (small_rest x xs h) f.2 ∙ ap Ok (append_assoc before (x ∷ []) xs))

first_spaced : (m x : ℕ) (parts : List (List ℕ)) → x < 2 ^ 64 → order_after m [] ((32 ∷ decimal x) ∷ parts)
    ≡ order_after m [] (decimal x ∷ parts)
unfolding order_after
first_spaced m x parts h = rw (
  trim-spaced (decimal x) (IsClean-decimal x h),
  trim-clean (decimal x)
      (IsClean-decimal x h),
) refl

-- an order without a fault, as it is written behind the colon
order_read : (m : ℕ) (order : List ℕ) → 0 < length order → AreSmall order → member_fault_after m [] order ≡ None
    → order_after m [] (slice_split is_comma (32 ∷ order_text order)) ≡ Ok order
order_read m [] l h e = absurd (omega arith)
order_read m (x ∷ xs) l h e = ap (order_after m []) (split_spaced x xs h) ∙ first_spaced m x (map decimal xs)
    (small_first x xs h) ∙ order_after-decimal m [] (x ∷ xs) h e

-- neither a digit nor a comma passes the test
order_fails : (p : ℕ → Bool) → FailsDigits p → p 44 ≡ false → (order : List ℕ) → AreSmall order
    → list_any p (order_text order) ≡ false
order_fails p f e [] h = refl
order_fails p f e (x ∷ []) h = list_any-decimal p f x (small_first x [] h)
order_fails p f e (x ∷ y ∷ ys) h =
    list_any-append p (decimal x) (44 ∷ order_text (y ∷ ys))
    ∙ rw (list_any-decimal p f x (small_first x (y ∷ ys) h), e) (order_fails p f e (y ∷ ys) (small_rest x (y ∷ ys) h))

order-some : (order : List ℕ) → 0 < length order → AreSmall order → 0 < length (order_text order)
order-some [] l h = absurd (omega arith)
order-some (x ∷ []) l h = decimal-some x (small_first x [] h)
order-some (x ∷ y ∷ ys) l h = let n = length-append (decimal x) (44 ∷ order_text (y ∷ ys)) in omega arith

order-back : (order : List ℕ) → 0 < length order → AreSmall order
    → is_blank (get_or (order_text order) (length (order_text order) - 1) 0) ≡ false
order-back [] l h = absurd (omega arith)
order-back (x ∷ []) l h = (IsClean-decimal x (small_first x [] h)).back
order-back (x ∷ y ∷ ys) l h =
    let rest = small_rest x (y ∷ ys) h in
    let more : 0 < length (y ∷ ys) = omega arith in
    let some = order-some (y ∷ ys) more rest in
    let behind : 0 < length (44 ∷ order_text (y ∷ ys)) = omega arith in
    ap is_blank (last-append (decimal x) (44 ∷ order_text (y ∷ ys)) behind ∙ last-append (44 ∷ []) (order_text (y ∷ ys))
    some) ∙ order-back (y ∷ ys) more rest

-- ---- a line

-- a line of votes, without its line feed
abbrev pub votes_line : Entry → List ℕ
votes_line entry = decimal entry.weight ++ 58 ∷ 32 ∷ order_text entry.order

-- a line of a profile of m alternatives
pub record IsLine (m : ℕ) (entry : Entry) : Type 0 where
  pub weight : entry.weight < 2 ^ 64
  pub some : 0 < length entry.order
  pub small : AreSmall entry.order
  pub order : order_fault m entry.order ≡ None

no_fault : (fault : Option AddFault) (short : Bool) → or_else fault (fault_where short faults.Short) ≡ None
    → (fault ≡ None) × (short ≡ false)
no_fault None true h = absurd cc
no_fault None false h = (refl, refl)
no_fault (Some f) short h = absurd cc

in_bound : (m x : ℕ) → m ≤ limit → (nat_le 1 x && nat_le x m) ≡ true → x < 2 ^ 64
in_bound m x few h = let most : x ≤ m = grind (arith, nat_tests) in omega arith

small_members : (m : ℕ) (before order : List ℕ) → m ≤ limit → member_fault_after m before order ≡ None
    → All (λ x. x < 2 ^ 64) order
small_members m before [] few h = All-nil (λ x. x < 2 ^ 64)
small_members m before (x ∷ xs) few h =
    let f = fault_first (nat_le 1 x && nat_le x m) (list_any (λ y. nat_eq y x) before)
    (member_fault_after m (before ++ x ∷ []) xs) h in
    All-cons (λ x. x < 2 ^ 64) x xs (in_bound m x few f.0) (small_members m (before ++ x ∷ []) xs few f.2)

-- a line with an order that has no fault
pub IsLine-accepted : (m : ℕ) (entry : Entry) → 1 ≤ m → m ≤ limit → entry.weight < 2 ^ 64 → order_fault m entry.order
    ≡ None → IsLine m entry
IsLine-accepted m entry some few weight h =
    let f = no_fault (member_fault_after m [] entry.order) (nat_lt (length entry.order) m) h in
    let l = ltb-false (length entry.order) m f.1 in
    record {
      weight = weight;
      some = omega arith;
      small = record { each = small_members m [] entry.order few f.0 };
      order = h;
    }

module _ (m : ℕ) (entry : Entry) (h : IsLine m entry) where
  no_colon : list_any is_colon (decimal entry.weight) ≡ false
  no_colon = list_any-decimal is_colon colon_fails entry.weight h.weight

  pub votes_line-one_line : list_any is_line_feed (votes_line entry) ≡ false
  votes_line-one_line =
      list_any-append is_line_feed (decimal entry.weight) (58 ∷ 32 ∷ order_text entry.order)
      ∙ rw (list_any-decimal is_line_feed line_feed_fails entry.weight h.weight)
      (order_fails is_line_feed line_feed_fails refl entry.order h.small)

  IsClean-votes_line : IsClean (votes_line entry)
  IsClean-votes_line =
      let weight = IsClean-decimal entry.weight h.weight in
      let some = order-some entry.order h.some h.small in
      let behind : 0 < length (58 ∷ 32 ∷ order_text entry.order) = omega arith in
      IsClean-append (decimal entry.weight) (58 ∷ 32 ∷ order_text entry.order) weight.some behind weight.front
      (ap is_blank (last-append (58 ∷ 32 ∷ []) (order_text entry.order) some) ∙ order-back entry.order h.some
      h.small)

  votes_line-hash : is_hash (get_or (votes_line entry) 0 0) ≡ false
  votes_line-hash =
      let some = decimal-some entry.weight h.weight in
      ap is_hash (get_or_append_left (decimal entry.weight) (58 ∷ 32 ∷ order_text entry.order) 0 0 some)
      ∙ digit_fails is_hash hash_fails entry.weight h.weight 0 some

  number_before : number (trim (decimal entry.weight)) ≡ Some entry.weight
  number_before = ap number (trim-clean (decimal entry.weight) (IsClean-decimal entry.weight h.weight))
      ∙ number-decimal entry.weight h.weight

  -- the votes with the line, where there is room for it
  with_votes-line : (votes : List Entry) → length votes < lines_limit → total_weight votes + entry.weight ≤ voters_limit
      → with_votes m votes (votes_line entry) ≡ Ok (votes ++ entry ∷ [])
  with_votes-line votes few fits =
      let f = no_fault (member_fault_after m [] entry.order) (nat_lt (length entry.order) m) h.order in
      let brace = order_fails is_brace brace_fails refl entry.order h.small in
      let n = lt-leb lines_limit (length votes) few in
      let t = le-ltb voters_limit (total_weight votes + entry.weight) fits in
      rw (
        colon_inside (decimal entry.weight) (32 ∷ order_text entry.order) no_colon,
        before_colon
            (decimal entry.weight) (32 ∷ order_text entry.order) no_colon,
        number_before,
        after_colon
            (decimal entry.weight) (32 ∷ order_text entry.order) no_colon,
        brace,
        order_read m entry.order h.some h.small
            f.0,
        f.1,
        n,
        t,
      ) refl

  -- what the line is read as
  pub kind_of-votes : text_kind (trim (votes_line entry)) ≡ ballots (votes_line entry)
  kind_of-votes =
      let clean = IsClean-votes_line in
      let some = clean.some in
      let z : nat_eq (length (votes_line entry)) 0 ≡ false = grind (arith, nat_tests) in
      ap text_kind (trim-clean (votes_line entry) clean) ∙ rw (z, votes_line-hash) refl

  -- the content after the line
  pub votes_line-read : (content : Content) (n : ℕ) → content.alternatives ≡ Some m → length content.votes < lines_limit
      → total_weight content.votes + entry.weight ≤ voters_limit → after_line content n (ballots (votes_line entry))
      ≡ Ok (record content { votes = content.votes ++ entry ∷ [] })
  votes_line-read content n known few fits = rw (known, with_votes-line content.votes few fits) refl
