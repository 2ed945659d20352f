-- The votes of an accepted file are what its lines of votes say.
use Rattle.std.proofs.Common.{◌≡◌, ℕ, ◌+◌, not, ◌||◌, List, [], ◌∷◌, ◌++◌, length, map, Option, Some, Result, Ok}
use Rattle.std.proofs.Common.{nat_eq, nat_lt, nat_le, ap, sym, ◌∙◌, refl, append_assoc, append-nil}
use Rattle.std.specs.List.{flat_map, list_any, slice_split, before_first, after_first}
use Rattle.std.specs.Option.{ok_or}
use Rattle.std.proofs.lemmas.List.{map-append}
use Rattle.vir_profile.specs.Profiles.{lines_limit, voters_limit, total_weight}
use Rattle.vir_profile.specs.declared.ballot.Entry.{Entry}
use Rattle.vir_profile.specs.SocFiles.{File}
use Rattle.vir_soc.specs.declared.key.Key.{Key}
use Rattle.vir_soc.specs.declared.key.Key.TheVariants.{DataType, Alternatives, Voters, Orders, NameOf, Other}
use Rattle.vir_soc.specs.declared.kind.SocKind.{SocKind}
use Rattle.vir_soc.specs.declared.kind.SocKind.TheVariants as kinds
use Rattle.vir_soc.specs.Accepted.{as_vote, ballots_in, vote_lines, vote_of}
use Rattle.vir_soc.specs.Checks.{◌>>=◌, at_line, refuse}
use Rattle.vir_soc.specs.LineKinds.{LineKind, ballots, is_colon, kinds_of, metadata, skipped}
use Rattle.vir_soc.specs.Lines.{lines, trim}
use Rattle.vir_soc.specs.Metadata.{after_key, alternatives_stated, is_soc, number_stated}
use Rattle.vir_soc.specs.Names.{with_name}
use Rattle.vir_soc.specs.Numbers.{number}
use Rattle.vir_soc.specs.Content.{Content, nothing}
use Rattle.vir_soc.specs.Soc.{after_line, after_lines, soc}
use Rattle.vir_soc.specs.Votes.{after_votes, alternative, is_brace, is_comma, order_after, with_order, with_votes}
use Rattle.vir_soc.proofs.ChainLemmas.{bound, was_some, went_well}
use Rattle.vir_soc.proofs.FileLemmas.{soc-ok}

-- ---- a line of votes

abbrev some : ℕ → Option ℕ
some x = Some x

abbrev part_number : List ℕ → Option ℕ
part_number part = number (trim part)

alternative_is : (m : ℕ) (part : List ℕ) (x : ℕ) → alternative m part ≡ Ok x → part_number part ≡ Some x
alternative_is m part x h =
    let b = bound (ok_or (part_number part) kinds.BadEntry) (λ y. refuse (nat_eq y 0 || nat_lt m y) kinds.OutOfRange
    >>= λ _. Ok y) x h in
    let d = bound (refuse (nat_eq b.0 0 || nat_lt m b.0) kinds.OutOfRange) (λ _. Ok b.0) x b.2 in
    let e : b.0 ≡ x = cc d.2 in
    was_some (part_number part) kinds.BadEntry b.0 b.1 ∙ ap some e

order_is : (m : ℕ) (before : List ℕ) (parts : List (List ℕ)) (order : List ℕ) → order_after m before parts ≡ Ok order
    → map some order ≡ map some before ++ map part_number parts
unfolding order_after
order_is m before [] order h = let e : before ≡ order = cc in ap (map some) (sym e) ∙ sym (append-nil (map some before))
order_is m before (part ∷ parts) order h =
    let b = bound (alternative m part) (λ x. refuse (list_any (λ y. nat_eq y x) before) kinds.Repeated >>= λ _.
    order_after m (before ++ x ∷ []) parts) order h in
    let d = bound (refuse (list_any (λ y. nat_eq y b.0) before) kinds.Repeated) (λ _. order_after m (before ++ b.0 ∷ [])
    parts) order b.2 in
    order_is m (before ++ b.0 ∷ []) parts order d.2
    ∙ ap (λ xs. xs ++ map part_number parts) (map-append some before (b.0 ∷ []))
    ∙ append_assoc (map some before) (Some b.0 ∷ []) (map part_number parts)
    ∙ ap (λ o. map some before ++ o ∷ map part_number parts) (sym (alternative_is m part b.0 b.1))

with_order_is : (m : ℕ) (votes : List Entry) (count : ℕ) (order : List ℕ) (new : List Entry) → with_order m votes count
    order ≡ Ok new → new ≡ votes ++ record { weight = count; order = order } ∷ []
with_order_is m votes count order new h =
    let last : Result (List Entry) SocKind = Ok (votes ++ record { weight = count; order = order } ∷ []) in
    let a = bound (refuse (nat_lt (length order) m) kinds.Short) (λ _. refuse (nat_le lines_limit (length votes))
    kinds.TooManyOrders >>= λ _. refuse (nat_lt voters_limit (total_weight votes + count)) kinds.TooManyVoters
    >>= λ _. last) new h in
    let b = bound (refuse (nat_le lines_limit (length votes)) kinds.TooManyOrders)
    (λ _. refuse (nat_lt voters_limit (total_weight votes + count)) kinds.TooManyVoters >>= λ _. last) new a.2 in
    let d = bound (refuse (nat_lt voters_limit (total_weight votes + count)) kinds.TooManyVoters) (λ _. last) new b.2 in
    cc d.2

same_vote : (count : ℕ) (order : List ℕ) (c : Option ℕ) (o : List (Option ℕ)) → c ≡ Some count → map some order ≡ o
    → as_vote (record { weight = count; order = order }) ≡ record { count = c; order = o }
same_vote count order c o e f = rw (e, ← f) refl

with_votes_is : (m : ℕ) (votes : List Entry) (text : List ℕ) (new : List Entry) → with_votes m votes text ≡ Ok new
    → map as_vote new ≡ map as_vote votes ++ vote_of text ∷ []
with_votes_is m votes text new h =
    let count_text = trim (before_first is_colon text) in
    let rest = after_first is_colon text in
    let a = bound (refuse (not (list_any is_colon text)) kinds.NoColon) (λ _. ok_or (number count_text) kinds.BadCount
    >>= λ count. refuse (list_any is_brace rest) kinds.Tie >>= λ _. order_after m [] (slice_split is_comma rest)
    >>= λ order. with_order m votes count order) new h in
    let b = bound (ok_or (number count_text) kinds.BadCount) (λ count. refuse (list_any is_brace rest) kinds.Tie
    >>= λ _. order_after m [] (slice_split is_comma rest) >>= λ order. with_order m votes count order) new a.2 in
    let d = bound (refuse (list_any is_brace rest) kinds.Tie) (λ _. order_after m [] (slice_split is_comma rest)
    >>= λ order. with_order m votes b.0 order) new b.2 in
    let e = bound (order_after m [] (slice_split is_comma rest)) (λ order. with_order m votes b.0 order) new d.2 in
    let count_is : number count_text ≡ Some b.0 = was_some (number count_text) kinds.BadCount b.0 b.1 in
    let order_is = order_is m [] (slice_split is_comma rest) e.0 e.1 in
    let vote = same_vote b.0 e.0 (number count_text) (map part_number (slice_split is_comma rest)) count_is order_is in
    ap (map as_vote) (with_order_is m votes b.0 e.0 new e.2)
    ∙ map-append as_vote votes (record { weight = b.0; order = e.0 } ∷ [])
    ∙ ap (λ v. map as_vote votes ++ v ∷ []) vote

after_votes_is : (content new : Content) (text : List ℕ) → after_votes content text ≡ Ok new → map as_vote new.votes
    ≡ map as_vote content.votes ++ vote_of text ∷ []
after_votes_is content new text h =
    let a = bound (ok_or content.alternatives kinds.NoAlternativeCount) (λ m. with_votes m content.votes text
    >>= λ votes. Ok (record content { votes = votes })) new h in
    let b = bound (with_votes a.0 content.votes text) (λ votes. Ok (record content { votes = votes })) new a.2 in
    let n : record content { votes = b.0 } ≡ new = cc b.2 in
    ap (λ (s : Content). map as_vote s.votes) (sym n) ∙ with_votes_is a.0 content.votes text b.0 b.1

-- ---- lines

after_key_is : (content new : Content) (line : ℕ) (key : Key) (value : List ℕ) → after_key content line key value
    ≡ Ok new → new.votes ≡ content.votes
after_key_is content new line DataType value h =
    let a = bound (refuse (not (is_soc value)) kinds.WrongType) (λ _. Ok content) new h in
    let n : content ≡ new = cc a.2 in ap (λ (s : Content). s.votes) (sym n)
after_key_is content new line Alternatives value h =
    let a = bound (alternatives_stated content.alternatives value) (λ m. Ok (record content { alternatives = Some m }))
    new h in
    let n : record content { alternatives = Some a.0 } ≡ new = cc a.2 in ap (λ (s : Content). s.votes) (sym n)
after_key_is content new line Voters value h =
    let a = bound (number_stated content.voters line value) (λ stated. Ok (record content { voters = Some stated })) new
    h in
    let n : record content { voters = Some a.0 } ≡ new = cc a.2 in ap (λ (s : Content). s.votes) (sym n)
after_key_is content new line Orders value h =
    let a = bound (number_stated content.orders line value) (λ stated. Ok (record content { orders = Some stated })) new
    h in
    let n : record content { orders = Some a.0 } ≡ new = cc a.2 in ap (λ (s : Content). s.votes) (sym n)
after_key_is content new line (NameOf i) value h =
    let n : record content { names = with_name i value content.names } ≡ new = cc in ap (λ (s : Content). s.votes)
    (sym n)
after_key_is content new line Other value h = let n : content ≡ new = cc in ap (λ (s : Content). s.votes) (sym n)

after_line_is : (content new : Content) (n : ℕ) (kind : LineKind) → after_line content n kind ≡ Ok new
    → map as_vote new.votes ≡ map as_vote content.votes ++ map vote_of (ballots_in kind)
after_line_is content new n skipped h = let e : content ≡ new = cc in ap (λ (s : Content). map as_vote s.votes) (sym e)
    ∙ sym (append-nil (map as_vote content.votes))
after_line_is content new n (metadata key value) h = ap (map as_vote) (after_key_is content new n key value h)
    ∙ sym (append-nil (map as_vote content.votes))
after_line_is content new n (ballots text) h = after_votes_is content new text h

after_lines_is : (content new : Content) (n : ℕ) (kinds : List LineKind) → after_lines content n kinds ≡ Ok new
    → map as_vote new.votes ≡ map as_vote content.votes ++ map vote_of (flat_map ballots_in kinds)
unfolding after_lines
after_lines_is content new n [] h = let e : content ≡ new = cc in ap (λ (s : Content). map as_vote s.votes) (sym e)
    ∙ sym (append-nil (map as_vote content.votes))
after_lines_is content new n (kind ∷ kinds) h =
    let a = bound (at_line n (after_line content n kind)) (λ s. after_lines s (n + 1) kinds) new h in
    let line = after_line_is content a.0 n kind (went_well n (after_line content n kind) a.0 a.1) in
    let others = map vote_of (flat_map ballots_in kinds) in
    after_lines_is a.0 new (n + 1) kinds a.2
    ∙ ap (λ vs. vs ++ others) line
    ∙ append_assoc (map as_vote content.votes) (map vote_of (ballots_in kind)) others
    ∙ ap (λ vs. map as_vote content.votes ++ vs)
    (sym (map-append vote_of (ballots_in kind) (flat_map ballots_in kinds)))

pub votes_are_lines : (bytes : List ℕ) (file : File) → soc bytes ≡ Ok file → map as_vote file.profile.lines
    ≡ map vote_of (vote_lines bytes)
votes_are_lines bytes file h =
    let a = soc-ok bytes file h in
    ap (map as_vote) (sym a.2.votes) ∙ after_lines_is nothing a.0 1 (kinds_of (lines bytes)) a.1
