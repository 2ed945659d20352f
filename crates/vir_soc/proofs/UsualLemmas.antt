-- Lines of votes in their usual shape.
use Rattle.std.proofs.Common.{◌≡◌, ℕ, suc, Bool, true, false, cond, sym, drop, subst, ◌+◌, ◌*◌, ◌-◌, ◌<◌, ◌≤◌, ◌^◌, ◌/◌}
use Rattle.std.proofs.Common.{◌%◌, List, [], ◌∷◌, ◌++◌, length, decimal, Some, None, Ok, nat_eq, nat_le, nat_lt, ap}
use Rattle.std.proofs.Common.{◌∙◌, refl}
use Rattle.std.proofs.Common.{arith, append_assoc, ◌≢◌, ◌||◌, get_or, Option, replicate}
use Rattle.std.proofs.Math.ListN.{set as put}
use Rattle.std.proofs.lemmas.List.{get_or-replicate, get_or-set_other, get_or-set_same, get_or_append_left}
use Rattle.std.proofs.lemmas.List.{length-append}
use Rattle.std.specs.Prelude.{All}
use Rattle.std.specs.List.{after_first, before_first, list_any, prefix_len, slice_split}
use Rattle.std.proofs.lemmas.Bool.Decides.{nat_tests}
use Rattle.std.proofs.lemmas.Fmt.{decimal_digit, decimal_step}
use Rattle.std.proofs.lemmas.List.Elements.{All-cons}
use Rattle.std.proofs.lemmas.List.Folds.{list_any-append}
use Rattle.std.proofs.lemmas.List.Splits.{slice_split_at, slice_split_none}
use Rattle.vir_altset.specs.Sets.{limit}
use Rattle.vir_profile.specs.Add.{add_fault}
use Rattle.vir_profile.specs.OrderFaults.{fault_where, member_fault_after, or_else, order_fault}
use Rattle.vir_profile.specs.Profiles.{Votes, lines_limit, total_weight, voters_limit}
use Rattle.vir_profile.specs.SocFiles.{is_blank, is_line_feed}
use Rattle.vir_profile.specs.declared.ballot.Entry.{Entry}
use Rattle.vir_profile.specs.declared.refused.AddFault.{AddFault}
use Rattle.vir_soc.specs.Content.{Content}
use Rattle.vir_soc.specs.Lines.{trim, without_mark}
use Rattle.vir_soc.specs.LineKinds.{ballots, is_colon, is_hash, text_kind}
use Rattle.vir_soc.specs.Numbers.{number}
use Rattle.vir_soc.specs.Reader.Pieces.{after_text, end_line, kind_at}
use Rattle.vir_soc.specs.Reader.UsualLines.{BeginsWithEnd, BeginsWithLine, BeginsWithOrder, BeginsWithVotes}
use Rattle.vir_soc.specs.Reader.UsualLines.{HasLineFeed}
use Rattle.vir_soc.specs.Votes.{alternative, is_brace, is_comma, order_after, with_order, with_votes}
use Rattle.vir_soc.proofs.CleanLemmas.{IsClean, IsClean-append, IsClean-decimal, after_at, after_colon, before_at}
use Rattle.vir_soc.proofs.CleanLemmas.{before_colon, colon_inside, last-append, trim-clean, trim-returned}
use Rattle.vir_soc.proofs.CleanLemmas.{trim-space, without_mark-none}
use Rattle.vir_soc.proofs.DigitLemmas.{brace_fails, colon_fails, digit_fails, hash_fails, line_feed_fails}
use Rattle.vir_soc.proofs.DigitLemmas.{list_any-decimal}
use Rattle.vir_soc.proofs.DigitLemmas.{mark_fails, number-decimal}
use Rattle.vir_soc.proofs.LineFeedLemmas.{feed_behind_text}
use Rattle.vir_soc.proofs.OrderLemmas.{ranged, sound_push}
use Rattle.vir_soc.proofs.WrittenVotesLemmas.{alternative-decimal, no_comma}

-- ---- digits

-- the first digit, which is no zero
pub decimal-first_digit : (c : ℕ) → 49 ≤ c → c ≤ 57 → decimal (c - 48) ≡ c ∷ []
decimal-first_digit c low high =
    let digit : 48 + (c - 48) ≡ c = omega arith in
    decimal_digit (c - 48) (omega arith) ∙ ap (λ d. d ∷ []) digit

-- a further digit
pub decimal-next_digit : (n c : ℕ) → 1 ≤ n → n < 100000000000000000 → 48 ≤ c → c ≤ 57 → decimal (n * 10 + (c - 48))
    ≡ decimal n ++ c ∷ []
decimal-next_digit n c some small low high =
    let before : (n * 10 + (c - 48)) / 10 ≡ n = omega arith in
    let digit : 48 + (n * 10 + (c - 48)) % 10 ≡ c = omega arith in
    decimal_step (n * 10 + (c - 48)) (omega arith) (omega arith) ∙ rw (before, digit) refl

-- ---- alternatives

-- a part of an order, between its commas, that names x
pub record Names (m x : ℕ) (part : List ℕ) : Type 0 where
  pub read : alternative m part ≡ Ok x
  pub no_comma : All (λ c. is_comma c ≡ false) part
  pub no_brace : list_any is_brace part ≡ false
  pub no_feed : list_any is_line_feed part ≡ false
  pub some : 0 < length part
  pub last : is_blank (get_or part (length part - 1) 0) ≡ false

Names-decimal : (m x : ℕ) → m ≤ limit → 1 ≤ x → x ≤ m → Names m x (decimal x)
Names-decimal m x few some known =
    let small : x < 2 ^ 64 = omega arith in
    let clean = IsClean-decimal x small in
    record {
      read = alternative-decimal m x small (ranged m x some known);
      no_comma = no_comma x small;
      no_brace = list_any-decimal is_brace brace_fails x small;
      no_feed = list_any-decimal is_line_feed line_feed_fails x small;
      some = clean.some;
      last = clean.back;
    }

-- a space before the part
Names-space : (m x : ℕ) (part : List ℕ) → Names m x part → Names m x (32 ∷ part)
Names-space m x part names = record {
  read = rw (trim-space part) names.read;
  no_comma = All-cons (λ c. is_comma c ≡ false) 32 part refl names.no_comma;
  no_brace = names.no_brace;
  no_feed = names.no_feed;
  some = omega arith;
  last = ap is_blank (last-append (32 ∷ []) part names.some) ∙ names.last;
}

-- a text whose first part names x, and what stands behind that part
pub record Begins (m x : ℕ) (text after : List ℕ) : Type 0 where
  pub part : List ℕ
  pub names : Names m x part
  pub parts : text ≡ part ++ after

-- without the spaces at its front
abbrev unspaced : List ℕ → List ℕ
unspaced text = drop (prefix_len (λ c. nat_eq c 32) text) text

module _ (m x : ℕ) (after : List ℕ) (few : m ≤ limit) (some : 1 ≤ x) (known : x ≤ m) where
  at_once : (text : List ℕ) → text ≡ decimal x ++ after → Begins m x text after
  at_once text e = record { part = decimal x; names = Names-decimal m x few some known; parts = e }

  behind_space : (rest : List ℕ) → Begins m x rest after → Begins m x (32 ∷ rest) after
  behind_space rest b = record {
    part = 32 ∷ b.part;
    names = Names-space m x b.part b.names;
    parts = ap (λ t. 32 ∷ t) b.parts;
  }

  by_space : (c : ℕ) (rest : List ℕ) (space : Bool) → nat_eq c 32 ≡ space → (unspaced rest ≡ decimal x ++ after
      → Begins m x rest after) → drop (cond space (1 + prefix_len (λ c. nat_eq c 32) rest) 0) (c ∷ rest) ≡ decimal x
      ++ after → Begins m x (c ∷ rest) after
  by_space c rest true s later e =
      let is : 32 ≡ c = grind (arith, nat_tests) in
      let n : suc (prefix_len (λ c. nat_eq c 32) rest) ≡ 1 + prefix_len (λ c. nat_eq c 32) rest = omega arith in
      subst (λ (c : ℕ). Begins m x (c ∷ rest) after) is (behind_space rest (later (ap (λ k. drop k (c ∷ rest)) n ∙ e)))
  by_space c rest false s later e = at_once (c ∷ rest) e

  begins_text : (text : List ℕ) → unspaced text ≡ decimal x ++ after → Begins m x text after
  begins_text [] e = at_once [] e
  begins_text (c ∷ rest) e = by_space c rest (nat_eq c 32) refl (begins_text rest) e

pub begins : (m x : ℕ) (text digits after : List ℕ) → m ≤ limit → 1 ≤ x → x ≤ m → digits ≡ unspaced text → digits
    ≡ decimal x ++ after → Begins m x text after
begins m x text digits after few some known u e = begins_text m x after few some known text (sym u ∙ e)

-- ---- orders

-- an order of so many alternatives, none of which is at fault
pub order_fault-complete : (m : ℕ) (order : List ℕ) → member_fault_after m [] order ≡ None → m ≤ length order
    → order_fault m order ≡ None
order_fault-complete m order sound l =
    let t : nat_lt (length order) m ≡ false = grind (arith, nat_tests) in
    rw (sound, t) refl

-- the bytes begin with members of an order, each with a comma behind it, and the rest stands behind them
pub record Reads (m : ℕ) (bytes order rest : List ℕ) : Type 0 where
  pub text : List ℕ
  pub parts : bytes ≡ text ++ rest
  pub read : (more : List ℕ) → order_after m [] (slice_split is_comma (text ++ more))
      ≡ order_after m order (slice_split is_comma more)
  pub no_brace : list_any is_brace text ≡ false
  pub no_feed : list_any is_line_feed text ≡ false
  pub sound : member_fault_after m [] order ≡ None

pub Reads-none : (m : ℕ) (bytes : List ℕ) → Reads m bytes [] bytes
Reads-none m bytes = record {
  text = [];
  parts = refl;
  read = λ more. refl;
  no_brace = refl;
  no_feed = refl;
  sound = refl;
}

-- none of the two parts has it
none_in : (p : ℕ → Bool) (xs ys : List ℕ) → list_any p xs ≡ false → list_any p ys ≡ false → list_any p (xs ++ ys)
    ≡ false
none_in p xs ys h e = list_any-append p xs ys ∙ rw (h, e) refl

module _ (m x : ℕ) (bytes order rest after : List ℕ) (r : Reads m bytes order rest) (b : Begins m x rest after)
    (some : 1 ≤ x) (known : x ≤ m) (once : list_any (λ y. nat_eq y x) order ≡ false) where
  -- the part of the next member
  next_part : bytes ≡ (r.text ++ b.part) ++ after
  next_part = r.parts ∙ ap (λ t. r.text ++ t) b.parts ∙ sym (append_assoc r.text b.part after)

  order_after-more : (more : List ℕ) → order_after m order (slice_split is_comma (b.part ++ 44 ∷ more))
      ≡ order_after m (order ++ x ∷ []) (slice_split is_comma more)
  unfolding order_after
  order_after-more more = rw (slice_split_at is_comma b.part 44 more b.names.no_comma refl, b.names.read, once) refl

  order_after-last : order_after m order (slice_split is_comma b.part) ≡ Ok (order ++ x ∷ [])
  unfolding order_after
  order_after-last = rw (slice_split_none is_comma b.part b.names.no_comma, b.names.read, once) refl

  -- a further member
  pub Reads-next : (next : List ℕ) → after ≡ 44 ∷ next → Reads m bytes (order ++ x ∷ []) next
  Reads-next next e =
      let text = r.text ++ (b.part ++ 44 ∷ []) in
      let more : (t : List ℕ) → text ++ t ≡ r.text ++ (b.part ++ 44 ∷ t) =
      λ t. append_assoc r.text (b.part ++ 44 ∷ []) t ∙ ap (λ u. r.text ++ u) (append_assoc b.part (44 ∷ []) t) in
      record {
        text = text;
        parts = r.parts ∙ ap (λ t. r.text ++ t) (b.parts ∙ ap (λ t. b.part ++ t) e) ∙ sym (more next);
        read = λ t. ap (λ u. order_after m [] (slice_split is_comma u)) (more t) ∙ r.read (b.part ++ 44 ∷ t)
            ∙ order_after-more t;
        no_brace = none_in is_brace r.text (b.part ++ 44 ∷ []) r.no_brace
            (none_in is_brace b.part (44 ∷ []) b.names.no_brace refl);
        no_feed = none_in is_line_feed r.text (b.part ++ 44 ∷ []) r.no_feed
            (none_in is_line_feed b.part (44 ∷ []) b.names.no_feed refl);
        sound = sound_push m [] order x some known r.sound once;
      }

  -- the last member
  pub Reads-last : m ≤ length (order ++ x ∷ []) → BeginsWithOrder m bytes (order ++ x ∷ []) after
  Reads-last all = record {
    text = r.text ++ b.part;
    parts = next_part;
    read = r.read b.part ∙ order_after-last;
    no_tie = none_in is_brace r.text b.part r.no_brace b.names.no_brace;
    one_line = none_in is_line_feed r.text b.part r.no_feed b.names.no_feed;
    some = let n = length-append r.text b.part in let s = b.names.some in omega arith;
    last = ap is_blank (last-append r.text b.part b.names.some) ∙ b.names.last;
    judged = order_fault-complete m (order ++ x ∷ []) (sound_push m [] order x some known r.sound once) all;
  }

-- ---- line feeds behind what was read

pub Reads-feed : (m : ℕ) (bytes order rest : List ℕ) → Reads m bytes order rest → HasLineFeed bytes → HasLineFeed rest
Reads-feed m bytes order rest r h = feed_behind_text bytes r.text rest r.parts r.no_feed h

pub BeginsWithOrder-feed : (m : ℕ) (bytes order rest : List ℕ) → BeginsWithOrder m bytes order rest → HasLineFeed bytes
    → HasLineFeed rest
BeginsWithOrder-feed m bytes order rest o h = feed_behind_text bytes o.text rest o.parts o.one_line h

pub BeginsWithVotes-feed : (m : ℕ) (bytes : List ℕ) (weight : ℕ) (order rest : List ℕ) → BeginsWithVotes m bytes weight
    order rest → HasLineFeed bytes → HasLineFeed rest
BeginsWithVotes-feed m bytes weight order rest v h = feed_behind_text bytes v.line rest v.parts v.one_line h

pub decimal-feed : (n : ℕ) (text rest : List ℕ) → n < 2 ^ 64 → text ≡ decimal n ++ rest → HasLineFeed text
    → HasLineFeed rest
decimal-feed n text rest small e h = feed_behind_text text (decimal n) rest e
    (list_any-decimal is_line_feed line_feed_fails n small) h

pub empty_is : (xs : List ℕ) → true ≡ nat_eq (length xs) 0 → xs ≡ []
empty_is [] h = refl
empty_is (x ∷ xs) h = let t : nat_eq (length (x ∷ xs)) 0 ≡ false = grind (arith, nat_tests) in absurd cc

pub some_inside : (xs : List ℕ) → false ≡ nat_eq (length xs) 0 → 0 < length xs
some_inside [] h = absurd cc
some_inside (x ∷ xs) h = omega arith

-- ---- members seen so far

-- the marks say which of the numbers up to m stand in the order
abbrev pub AreSeen : ℕ → List Bool → List ℕ → Type 0
AreSeen m seen order = (y : ℕ) → y ≤ m → get_or seen y false ≡ list_any (λ z. nat_eq z y) order

-- at first none is marked
pub seen_none : (m n : ℕ) → m < n → AreSeen m (replicate n false) []
seen_none m n l y low = get_or-replicate n y false false (omega arith)

or-met : (b : Bool) → (b || (true || false)) ≡ true
or-met true = refl
or-met false = refl

or-unmet : (b : Bool) → (b || (false || false)) ≡ b
or-unmet true = refl
or-unmet false = refl

-- a further member is marked
pub seen_more : (m x : ℕ) (seen : List Bool) (order : List ℕ) → x < length seen → AreSeen m seen order → AreSeen m
    (put seen x true) (order ++ x ∷ [])
seen_more m x seen order inside are y low = step (nat_eq x y) refl
  where
    at_end : list_any (λ z. nat_eq z y) (order ++ x ∷ []) ≡ (list_any (λ z. nat_eq z y) order || (nat_eq x y || false))
    at_end = list_any-append (λ z. nat_eq z y) order (x ∷ [])

    step : (b : Bool) → nat_eq x y ≡ b → get_or (put seen x true) y false ≡ list_any (λ z. nat_eq z y) (order ++ x ∷ [])
    step true t =
        let is : y ≡ x = grind (arith, nat_tests) in
        ap (λ i. get_or (put seen x true) i false) is ∙ get_or-set_same seen x true false inside
        ∙ sym (at_end ∙ ap (λ b. list_any (λ z. nat_eq z y) order || (b || false)) t
        ∙ or-met (list_any (λ z. nat_eq z y) order))
    step false t =
        let apart : y ≢ x = grind (arith, nat_tests) in
        get_or-set_other seen x y true false apart ∙ are y low
        ∙ sym (at_end ∙ ap (λ b. list_any (λ z. nat_eq z y) order || (b || false)) t ∙ or-unmet (list_any (λ z. nat_eq z
        y) order))

-- ---- lines

-- a count, a colon and an order in which nothing ties
pub with_votes-usual : (m w : ℕ) (text rest order : List ℕ) (votes : List Entry) → w < 2 ^ 64 → text ≡ decimal w ++ 58
    ∷ rest → list_any is_brace rest ≡ false → order_after m [] (slice_split is_comma rest) ≡ Ok order
    → with_votes m votes text ≡ with_order m votes w order
with_votes-usual m w text rest order votes small t tie o =
    let none = list_any-decimal is_colon colon_fails w small in
    let count : number (trim (decimal w)) ≡ Some w = ap number (trim-clean (decimal w) (IsClean-decimal w small))
    ∙ number-decimal w small in
    rw (
      t,
      colon_inside (decimal w) rest none,
      before_colon (decimal w) rest none,
      count,
      after_colon (decimal w) rest
          none,
      tie,
      o,
    ) refl

-- a line of votes that begins with a digit and ends in one, whatever its number is
module _ (line : List ℕ) (clean : IsClean line) (hash : is_hash (get_or line 0 0) ≡ false)
    (mark : nat_eq (get_or line 0 0) 0xEF ≡ false) where
  text_kind-votes : text_kind line ≡ ballots line
  text_kind-votes =
      let some = clean.some in
      let z : nat_eq (length line) 0 ≡ false = grind (arith, nat_tests) in
      rw (z, hash) refl

  kind-votes : (text : List ℕ) → trim text ≡ line → nat_eq (get_or text 0 0) 0xEF ≡ false → (number : ℕ)
      → kind_at number text ≡ ballots line
  kind-votes text t e number =
      elim (nat_eq number 1) as (λ b. text_kind (trim (cond b (without_mark text) text)) ≡ ballots line) [
        | true ↦ ap (λ u. text_kind (trim u)) (without_mark-none text e) ∙ ap text_kind t ∙ text_kind-votes
        | false ↦ ap text_kind t ∙ text_kind-votes
      ]

  pub kind_at-votes : (number : ℕ) → kind_at number line ≡ ballots line
  kind_at-votes number = kind-votes line (trim-clean line clean) mark number

  pub kind_at-returned : (number : ℕ) → kind_at number (line ++ 13 ∷ []) ≡ ballots line
  kind_at-returned number = kind-votes (line ++ 13 ∷ []) (trim-returned line clean)
      (ap (λ c. nat_eq c 0xEF) (get_or_append_left line (13 ∷ []) 0 0 clean.some) ∙ mark) number

-- a count, a colon and an order
pub BeginsWithVotes-usual : (m w : ℕ) (bytes behind text order rest : List ℕ) → w < 2 ^ 64 → bytes ≡ decimal w ++ behind
    → behind ≡ 58 ∷ text → BeginsWithOrder m text order rest → BeginsWithVotes m bytes w order rest
BeginsWithVotes-usual m w bytes behind text order rest small e colon o =
    let line = decimal w ++ 58 ∷ o.text in
    let weight = IsClean-decimal w small in
    let more : 0 < length (58 ∷ o.text) = omega arith in
    let first : get_or line 0 0 ≡ get_or (decimal w) 0 0 =
    get_or_append_left (decimal w) (58 ∷ o.text) 0 0 weight.some in
    let clean = IsClean-append (decimal w) (58 ∷ o.text) weight.some more weight.front
    (ap is_blank (last-append (58 ∷ []) o.text o.some) ∙ o.last) in
    let hash = ap is_hash first ∙ digit_fails is_hash hash_fails w small 0 weight.some in
    let mark = ap (λ c. nat_eq c 0xEF) first ∙ digit_fails (λ c. nat_eq c 0xEF) mark_fails w small 0 weight.some in
    record {
      line = line;
      parts = e ∙ ap (λ t. decimal w ++ t) (colon ∙ ap (λ t. 58 ∷ t) o.parts)
          ∙ sym (append_assoc (decimal w) (58 ∷ o.text) rest);
      one_line = none_in is_line_feed (decimal w) (58 ∷ o.text)
          (list_any-decimal is_line_feed line_feed_fails w small) o.one_line;
      kind = kind_at-votes line clean hash mark;
      kind_returned = kind_at-returned line clean hash mark;
      says = λ votes. with_votes-usual m w line o.text order votes small refl o.no_tie o.read;
      judged = o.judged;
    }

-- ---- lines that are taken

or_none : (a b : Option AddFault) → or_else a b ≡ None → (a ≡ None) × (b ≡ None)
or_none None b h = (refl, h)
or_none (Some f) b h = absurd cc

where_none : (test : Bool) (f : AddFault) → fault_where test f ≡ None → test ≡ false
where_none true f h = absurd cc
where_none false f h = refl

-- a line that a profile takes
with_order-taken : (votes : Votes) (entry : Entry) → add_fault votes entry ≡ None → with_order votes.alternatives
    votes.lines entry.weight entry.order ≡ Ok (votes.lines ++ entry ∷ [])
with_order-taken votes entry h =
    let a = or_none _ _ h in
    let order = or_none _ _ a.0 in
    let room = or_none _ _ a.1 in
    let short = where_none (nat_lt (length entry.order) votes.alternatives) _ order.1 in
    let full = where_none (nat_le lines_limit (length votes.lines)) _ room.0 in
    let heavy = where_none (nat_lt voters_limit (total_weight votes.lines + entry.weight)) _ room.1 in
    rw (short, full, heavy) refl

-- a line with an end
ended_line : (votes : Votes) (entry : Entry) (bytes end rest : List ℕ) → BeginsWithVotes votes.alternatives bytes
    entry.weight entry.order end → (returned : Bool) → end ≡ cond returned (13 ∷ 10 ∷ rest) (10 ∷ rest)
    → add_fault votes entry ≡ None
    → BeginsWithLine votes.alternatives bytes votes.lines (votes.lines ++ entry ∷ []) rest
ended_line votes entry bytes end rest v true e h = record {
  line = v.line ++ 13 ∷ [];
  parts = v.parts ∙ ap (λ t. v.line ++ t) e ∙ sym (append_assoc v.line (13 ∷ []) (10 ∷ rest));
  one_line = none_in is_line_feed v.line (13 ∷ []) v.one_line refl;
  text = v.line;
  kind = v.kind_returned;
  says = v.says votes.lines ∙ with_order-taken votes entry h;
}
ended_line votes entry bytes end rest v false e h = record {
  line = v.line;
  parts = v.parts ∙ ap (λ t. v.line ++ t) e;
  one_line = v.one_line;
  text = v.line;
  kind = v.kind;
  says = v.says votes.lines ∙ with_order-taken votes entry h;
}

pub BeginsWithLine-taken : (votes : Votes) (entry : Entry) (bytes end rest : List ℕ) → BeginsWithVotes
    votes.alternatives bytes entry.weight entry.order end → BeginsWithEnd end rest → add_fault votes entry ≡ None
    → BeginsWithLine votes.alternatives bytes votes.lines (votes.lines ++ entry ∷ []) rest
BeginsWithLine-taken votes entry bytes end rest v e h = ended_line votes entry bytes end rest v e.returned e.parts h

-- the line that the bytes begin with
module _ (content : Content) (n m : ℕ) (bytes rest : List ℕ) (after : List Entry)
    (l : BeginsWithLine m bytes content.votes after rest) where
  pub before_first-line : before_first is_line_feed bytes ≡ l.line
  before_first-line = ap (before_first is_line_feed) l.parts
      ∙ before_at is_line_feed l.line 10 rest l.one_line refl

  pub after_first-line : rest ≡ after_first is_line_feed bytes
  after_first-line = sym (ap (after_first is_line_feed) l.parts ∙ after_at is_line_feed l.line 10 rest l.one_line refl)

  -- it is taken where no line has begun before
  pub end_line-votes : content.alternatives ≡ Some m
      → end_line (record { content = content; line = n; begun = [] }) (before_first is_line_feed bytes)
      ≡ Ok (record { content = record content { votes = after }; line = n + 1; begun = [] })
  unfolding after_text
  end_line-votes known =
      ap (end_line (record { content = content; line = n; begun = [] })) before_first-line
      ∙ rw (l.kind n, known, l.says) refl
