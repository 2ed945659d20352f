-- A written file is read back.
use Rattle.std.proofs.Common.{◌≡◌, ℕ, suc, ◌+◌, ◌≤◌, Bool, false, List, [], ◌∷◌, ◌++◌, length, get_or, map, codes}
use Rattle.std.proofs.Common.{decimal, Some, Result, Ok, ap, eq-eqb, sym, ◌∙◌, refl, arith, append_assoc, append-nil}
use Rattle.std.specs.Prelude.{All}
use Rattle.std.specs.List.{flat_map, list_any, slice_split}
use Rattle.std.proofs.lemmas.Bool.{le-leb}
use Rattle.std.proofs.lemmas.List.{length-append, map-append}
use Rattle.std.proofs.lemmas.List.Concat.{flat_map-append}
use Rattle.std.proofs.lemmas.List.Folds.{list_any-append}
use Rattle.std.proofs.lemmas.List.Splits.{slice_split_at}
use Rattle.std.proofs.lemmas.List.Sums.{sum_by-cons, sum_by_push, get_or-le-sum_by}
use Rattle.vir_profile.specs.Profiles.{lines_limit, IsProfile, voters_limit, Votes, total_weight}
use Rattle.vir_profile.specs.SocFiles.{AreNames, File, is_line_feed}
use Rattle.vir_profile.specs.declared.ballot.Entry.{Entry}
use Rattle.vir_profile.specs.declared.soc_file.Name.{Name}
use Rattle.vir_soc.specs.declared.fault.SocFault.{SocFault}
use Rattle.vir_soc.specs.declared.key.Key.TheVariants.{DataType, Alternatives, Voters, Orders}
use Rattle.vir_soc.specs.LineKinds.{LineKind, ballots, kinds_of, metadata, skipped, text_kind}
use Rattle.vir_soc.specs.Lines.{lines, trim}
use Rattle.vir_soc.specs.Content.{Content, nothing}
use Rattle.vir_soc.specs.Soc.{after_line, after_lines, file_of, content_of_lines, soc, complete_file}
use Rattle.vir_soc.specs.Limits.{profile_size_limit}
use Rattle.vir_soc.specs.SocText.{counts_text, metadata_text, name_text, order_text, soc_text, votes_text}
use Rattle.vir_soc.proofs.AnyLemmas.{All-none, or_false}
use Rattle.vir_soc.proofs.DigitLemmas.{line_feed_fails, list_any-decimal}
use Rattle.vir_soc.proofs.LineLemmas.{after_lines_append}
use Rattle.vir_soc.proofs.WrittenMetadataLemmas.{alternatives_kind, alternatives_read, given_of, kind_of_name}
use Rattle.vir_soc.proofs.WrittenMetadataLemmas.{metadata_line, name_key_text, name_kinds, name_line}
use Rattle.vir_soc.proofs.WrittenMetadataLemmas.{name_lines-one_line, names_read, names_up_to-all, orders_kind}
use Rattle.vir_soc.proofs.WrittenMetadataLemmas.{orders_read, type_kind, voters_kind, voters_read}
use Rattle.vir_soc.proofs.WrittenVotesLemmas.{IsLine, IsLine-accepted, kind_of-votes, votes_line, votes_line-one_line}
use Rattle.vir_soc.proofs.WrittenVotesLemmas.{votes_line-read}

-- ---- lines

-- these lines, each ended by a line feed
abbrev pub ended_text : List (List ℕ) → List ℕ
ended_text texts = flat_map (λ text. text ++ 10 ∷ []) texts

-- whether a line feed stands inside one of the lines
abbrev pub is_torn : List (List ℕ) → Bool
is_torn texts = list_any (λ text. list_any is_line_feed text) texts

-- lines that are ended are found again
lines-ended_text : (texts : List (List ℕ)) → is_torn texts ≡ false → lines (ended_text texts) ≡ texts ++ [] ∷ []
lines-ended_text [] h = refl
lines-ended_text (text ∷ texts) h =
    let b = or_false (list_any is_line_feed text) (is_torn texts) h in
    ap (slice_split is_line_feed) (append_assoc text (10 ∷ []) (ended_text texts))
    ∙ slice_split_at is_line_feed text 10 (ended_text texts) (All-none is_line_feed text b.0) refl
    ∙ ap (λ ts. text ∷ ts) (lines-ended_text texts b.1)

is_torn-append : (first later : List (List ℕ)) → is_torn first ≡ false → is_torn later ≡ false
    → is_torn (first ++ later) ≡ false
is_torn-append first later f l = list_any-append (λ text. list_any is_line_feed text) first later ∙ rw (f, l) refl

-- the file that some lines of these kinds are, as the text of these lines is
soc-ended_text : (texts : List (List ℕ)) (kinds : List LineKind) (content : Content) → is_torn texts ≡ false
    → kinds_of (texts ++ [] ∷ []) ≡ kinds ++ skipped ∷ [] → after_lines nothing 1 kinds ≡ Ok content
    → length (ended_text texts) ≤ profile_size_limit → soc (ended_text texts) ≡ complete_file content
    (length (texts ++ [] ∷ []))
unfolding after_lines
soc-ended_text texts kinds content torn are read fits =
    let fits_is = le-leb (length (ended_text texts)) profile_size_limit fits in
    let last : content_of_lines (texts ++ [] ∷ []) ≡ Ok content = ap (after_lines nothing 1) are
    ∙ after_lines_append nothing 1 kinds (skipped ∷ []) ∙ rw read refl in
    rw fits_is (ap file_of (lines-ended_text texts torn) ∙ rw last refl)

-- ---- the lines of a file

-- the lines of the counts
unfoldable count_lines : Votes → List (List ℕ)
count_lines profile =
    metadata_line (codes "DATA TYPE") (codes "soc")
    ∷ metadata_line (codes "NUMBER ALTERNATIVES") (decimal profile.alternatives)
    ∷ metadata_line (codes "NUMBER VOTERS") (decimal (total_weight profile.lines))
    ∷ metadata_line (codes "NUMBER UNIQUE ORDERS") (decimal (length profile.lines))
    ∷ []

-- the lines of a file, without their line feeds
abbrev written_lines : File → List (List ℕ)
written_lines file = count_lines file.profile ++ map name_line file.names ++ map votes_line file.profile.lines

four_parts : (a b c d : List ℕ) → a ++ b ++ c ++ d ≡ a ++ (b ++ (c ++ (d ++ [])))
four_parts a b c d = simp (append_assoc, append-nil)

counts_text-lines : (profile : Votes) → counts_text profile ≡ ended_text (count_lines profile)
unfolding counts_text count_lines metadata_text
counts_text-lines profile = four_parts (metadata_line (codes "DATA TYPE") (codes "soc") ++ 10 ∷ [])
    (metadata_line (codes "NUMBER ALTERNATIVES") (decimal profile.alternatives) ++ 10 ∷ [])
    (metadata_line (codes "NUMBER VOTERS") (decimal (total_weight profile.lines)) ++ 10 ∷ [])
    (metadata_line (codes "NUMBER UNIQUE ORDERS") (decimal (length profile.lines)) ++ 10 ∷ [])

name_text-line : (name : Name) → name_text name ≡ name_line name ++ 10 ∷ []
unfolding name_text metadata_text
name_text-line name = ap (λ t. t ++ 10 ∷ []) (append_assoc (35 ∷ 32 ∷ name_key_text name.number) (58 ∷ 32 ∷ [])
    name.text)

names-lines : (names : List Name) → flat_map name_text names ≡ ended_text (map name_line names)
names-lines [] = refl
names-lines (n ∷ ns) = rw (name_text-line n, names-lines ns) refl

votes_text-line : (entry : Entry) → votes_text entry ≡ votes_line entry ++ 10 ∷ []
votes_text-line entry = ap (λ t. t ++ 10 ∷ []) (append_assoc (decimal entry.weight) (58 ∷ 32 ∷ [])
    (order_text entry.order))

votes-lines : (entries : List Entry) → flat_map votes_text entries ≡ ended_text (map votes_line entries)
votes-lines [] = refl
votes-lines (e ∷ es) = ap (λ t. t ++ flat_map votes_text es) (votes_text-line e) ∙ ap (λ t. (votes_line e ++ 10 ∷ [])
    ++ t) (votes-lines es)

soc_text-lines : (file : File) → soc_text file ≡ ended_text (written_lines file)
soc_text-lines file =
    rw (counts_text-lines file.profile, names-lines file.names, votes-lines file.profile.lines)
    (sym (flat_map-append (λ text. text ++ 10 ∷ []) (count_lines file.profile ++ map name_line file.names)
    (map votes_line file.profile.lines)
    ∙ ap (λ t. t ++ ended_text (map votes_line file.profile.lines)) (flat_map-append (λ text. text ++ 10 ∷ [])
    (count_lines file.profile) (map name_line file.names))))

-- ---- none of the lines is torn

number_line : (n : ℕ) → n ≤ voters_limit → list_any is_line_feed (decimal n) ≡ false
number_line n h = list_any-decimal is_line_feed line_feed_fails n (omega arith)

count_lines-torn : (profile : Votes) → IsProfile profile → is_torn (count_lines profile) ≡ false
unfolding count_lines
count_lines-torn profile h =
    let few = h.few in
    let fewer = h.lines in
    rw (
      number_line profile.alternatives (omega arith),
      number_line (total_weight profile.lines) h.weights,
      number_line
          (length profile.lines) (omega arith),
    ) refl

-- lines of a profile of m alternatives
record AreLines (m : ℕ) (entries : List Entry) : Type 0 where
  pub each : All (IsLine m) entries

first_line : (m : ℕ) (entry : Entry) (entries : List Entry) → AreLines m (entry ∷ entries) → IsLine m entry
first_line m entry entries h = h.each 0 entry (omega arith)

other_lines : (m : ℕ) (entry : Entry) (entries : List Entry) → AreLines m (entry ∷ entries) → AreLines m entries
other_lines m entry entries h = record { each = λ k d l. h.each (suc k) d (omega arith) }

AreLines-profile : (profile : Votes) → IsProfile profile → AreLines profile.alternatives profile.lines
AreLines-profile profile h = record {
  each = λ k d l.
      let weight = get_or-le-sum_by (λ (entry : Entry). entry.weight) profile.lines k d l in
      let most = h.weights in
      IsLine-accepted profile.alternatives (get_or profile.lines k d) h.some h.few (omega arith) (h.orders k d l);
}

votes_lines-torn : (m : ℕ) (entries : List Entry) → AreLines m entries → is_torn (map votes_line entries) ≡ false
votes_lines-torn m [] h = refl
votes_lines-torn m (e ∷ es) h = rw (votes_line-one_line m e (first_line m e es h))
    (votes_lines-torn m es (other_lines m e es h))

written_lines-torn : (file : File) → IsProfile file.profile → AreNames file.profile.alternatives file.names
    → is_torn (written_lines file) ≡ false
written_lines-torn file p n =
    is_torn-append (count_lines file.profile ++ map name_line file.names) (map votes_line file.profile.lines)
    (is_torn-append (count_lines file.profile) (map name_line file.names) (count_lines-torn file.profile p)
    (name_lines-one_line file.profile.alternatives 0 file.names p.few n))
    (votes_lines-torn file.profile.alternatives file.profile.lines (AreLines-profile file.profile p))

-- ---- what the lines say

-- what the counts say
abbrev counted : Votes → Content
counted profile = record {
  alternatives = Some profile.alternatives;
  voters = Some (record { value = total_weight profile.lines; line = 3 });
  orders = Some (record { value = length profile.lines; line = 4 });
  names = [];
  votes = [];
}

-- ---- what the lines are

abbrev kind_of : List ℕ → LineKind
kind_of text = text_kind (trim text)

abbrev kind_of_votes : Entry → LineKind
kind_of_votes entry = ballots (votes_line entry)

abbrev count_kinds : Votes → List LineKind
count_kinds profile =
    metadata DataType (codes "soc")
    ∷ metadata Alternatives (decimal profile.alternatives)
    ∷ metadata Voters (decimal (total_weight profile.lines))
    ∷ metadata Orders (decimal (length profile.lines))
    ∷ []

abbrev file_kinds : File → List LineKind
file_kinds file = count_kinds file.profile ++ map kind_of_name file.names ++ map kind_of_votes file.profile.lines

count_lines-kinds : (profile : Votes) → IsProfile profile → map kind_of (count_lines profile) ≡ count_kinds profile
unfolding count_lines
count_lines-kinds profile h =
    let few = h.few in
    let lines = h.lines in
    let weights = h.weights in
    rw (
      type_kind,
      alternatives_kind profile.alternatives (omega arith),
      voters_kind (total_weight profile.lines)
          (omega arith),
      orders_kind (length profile.lines) (omega arith),
    ) refl

votes_kinds : (m : ℕ) (entries : List Entry) → AreLines m entries → map kind_of (map votes_line entries)
    ≡ map kind_of_votes entries
votes_kinds m [] h = refl
votes_kinds m (e ∷ es) h = rw (kind_of-votes m e (first_line m e es h), votes_kinds m es (other_lines m e es h)) refl

-- no written line begins with a byte order mark
no_mark : (file : File) → kinds_of (written_lines file ++ [] ∷ []) ≡ map kind_of (written_lines file ++ [] ∷ [])
unfolding count_lines
no_mark file = refl

three_parts : (a b c : List (List ℕ)) → map kind_of (a ++ b ++ c) ≡ map kind_of a ++ map kind_of b ++ map kind_of c
three_parts a b c = map-append kind_of (a ++ b) c ∙ ap (λ ks. ks ++ map kind_of c) (map-append kind_of a b)

written_kinds : (file : File) → IsProfile file.profile → AreNames file.profile.alternatives file.names
    → map kind_of (written_lines file) ≡ file_kinds file
written_kinds file p n =
    three_parts (count_lines file.profile) (map name_line file.names) (map votes_line file.profile.lines)
    ∙ rw (
      count_lines-kinds file.profile p,
      name_kinds file.profile.alternatives 0 file.names p.few n,
      votes_kinds
          file.profile.alternatives file.profile.lines (AreLines-profile file.profile p),
    ) refl

written_lines-kinds : (file : File) → IsProfile file.profile → AreNames file.profile.alternatives file.names
    → kinds_of (written_lines file ++ [] ∷ []) ≡ file_kinds file ++ skipped ∷ []
written_lines-kinds file p n =
    no_mark file
    ∙ map-append kind_of (written_lines file) ([] ∷ [])
    ∙ ap (λ ks. ks ++ skipped ∷ []) (written_kinds file p n)

counts_read : (profile : Votes) → IsProfile profile → after_lines nothing 1 (count_kinds profile) ≡ Ok (counted profile)
unfolding after_lines
counts_read profile h =
    let fewer = h.lines in
    let s2 : Content = record nothing { alternatives = Some profile.alternatives } in
    let s3 : Content = record s2 { voters = Some (record { value = total_weight profile.lines; line = 3 }) } in
    rw (
      alternatives_read nothing 2 profile.alternatives h.some h.few refl,
      voters_read s2 3
          (total_weight profile.lines) h.weights refl,
      orders_read s3 4 (length profile.lines) (omega arith) refl,
    ) refl

votes_read : (m : ℕ) (content : Content) (n : ℕ) (entries : List Entry) → content.alternatives ≡ Some m
    → AreLines m entries → length content.votes + length entries ≤ lines_limit → total_weight content.votes
    + total_weight entries ≤ voters_limit → after_lines content n (map kind_of_votes entries)
    ≡ Ok (record content { votes = content.votes ++ entries })
unfolding after_lines
votes_read m content n [] known h few fits = let put : List Entry → Result Content SocFault = λ votes.
    Ok (record content { votes = votes }) in ap put (sym (append-nil content.votes))
votes_read m content n (e ∷ es) known h few fits =
    let put : List Entry → Result Content SocFault = λ votes. Ok (record content { votes = votes }) in
    let next : Content = record content { votes = content.votes ++ e ∷ [] } in
    let first = sum_by-cons (λ (entry : Entry). entry.weight) e es in
    let sum = sum_by_push (λ (entry : Entry). entry.weight) content.votes e in
    let len = length-append content.votes (e ∷ []) in
    let line : after_line content n (kind_of_votes e) ≡ Ok next = votes_line-read m e (first_line m e es h) content n
    known (omega arith) (omega arith) in
    rw line (votes_read m next (n + 1) es known (other_lines m e es h) (omega arith) (omega arith)
    ∙ ap put (append_assoc content.votes (e ∷ []) es))

-- what a file's lines say
abbrev file_content : File → Content
file_content file = record (counted file.profile) { names = given_of file.names; votes = file.profile.lines }

file_read : (file : File) → IsProfile file.profile → AreNames file.profile.alternatives file.names
    → after_lines nothing 1 (file_kinds file) ≡ Ok (file_content file)
file_read file p n =
    let profile = file.profile in
    let counts = count_kinds profile in
    let named : Content = record (counted profile) { names = given_of file.names } in
    let few = p.lines in
    let fits = p.weights in
    let few_lines : 0 + length profile.lines ≤ lines_limit = omega arith in
    let few_voters : 0 + total_weight profile.lines ≤ voters_limit = omega arith in
    let names = names_read profile.alternatives 0 (counted profile) (1 + length counts) file.names tt n in
    let before : after_lines nothing 1 (counts ++ map kind_of_name file.names) ≡ Ok named = after_lines_append nothing 1
    counts (map kind_of_name file.names) ∙ rw (counts_read profile p) names in
    let votes = votes_read profile.alternatives named (1 + length (counts ++ map kind_of_name file.names)) profile.lines
    refl (AreLines-profile profile p) few_lines few_voters in
    after_lines_append nothing 1 (counts ++ map kind_of_name file.names) (map kind_of_votes profile.lines)
    ∙ rw before votes

complete_file-file : (file : File) (last : ℕ) → AreNames file.profile.alternatives file.names
    → complete_file (file_content file) last ≡ Ok file
unfolding complete_file
complete_file-file file last n = rw (
  eq-eqb (total_weight file.profile.lines) (total_weight file.profile.lines) refl,
  eq-eqb (length file.profile.lines) (length file.profile.lines) refl,
  names_up_to-all file.profile.alternatives 0
      file.names n,
) refl

-- the text of a file is read as that file
pub soc-soc_text : (file : File) → IsProfile file.profile → AreNames file.profile.alternatives file.names
    → length (soc_text file) ≤ profile_size_limit → soc (soc_text file) ≡ Ok file
soc-soc_text file p n fits =
    let text = soc_text-lines file in
    let same_length = ap length text in
    ap soc text ∙ soc-ended_text (written_lines file) (file_kinds file) (file_content file)
    (written_lines-torn file p n) (written_lines-kinds file p n) (file_read file p n) (omega arith)
    ∙ complete_file-file file (length (written_lines file ++ [] ∷ [])) n
