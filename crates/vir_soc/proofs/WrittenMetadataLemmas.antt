-- A written line of metadata is read.
use Rattle.std.proofs.Common.{◌≡◌, ℕ, ◌+◌, ◌<◌, ◌≤◌, ◌^◌, true, false, ◌||◌, List, [], ◌∷◌, ◌++◌, length, map, codes}
use Rattle.std.proofs.Common.{decimal, Some, None, Ok, nat_eq, nat_lt, ap, sym, ◌∙◌, refl, arith, append_assoc}
use Rattle.std.proofs.Common.{append-nil}
use Rattle.std.specs.List.{list_any}
use Rattle.std.proofs.lemmas.Bool.{le-leb, le-ltb}
use Rattle.std.proofs.lemmas.Bool.Decides.{nat_tests}
use Rattle.std.proofs.lemmas.List.Folds.{list_any-append}
use Rattle.vir_altset.specs.Sets.{limit}
use Rattle.vir_profile.specs.Profiles.{voters_limit}
use Rattle.vir_profile.specs.SocFiles.{AreNamesAbove, IsNameText, is_blank, is_line_feed}
use Rattle.vir_profile.specs.declared.soc_file.Name.{Name}
use Rattle.vir_soc.specs.declared.key.Key.TheVariants.{DataType, Alternatives, Voters, Orders, NameOf}
use Rattle.vir_soc.specs.Keys.{key_of}
use Rattle.vir_soc.specs.LineKinds.{LineKind, is_colon, metadata, text_kind}
use Rattle.vir_soc.specs.Lines.{trim}
use Rattle.vir_soc.specs.Names.{names_up_to, with_name}
use Rattle.vir_soc.specs.Content.{Content}
use Rattle.vir_soc.specs.Soc.{after_line, after_lines}
use Rattle.vir_soc.proofs.CleanLemmas.{IsClean, IsClean-append, IsClean-decimal, IsClean-name, after_colon}
use Rattle.vir_soc.proofs.CleanLemmas.{before_colon, colon_inside, last-append, trim-clean, trim-spaced}
use Rattle.vir_soc.proofs.DigitLemmas.{colon_fails, line_feed_fails, list_any-decimal, number-decimal}

-- ---- a line

-- a line of metadata, without its line feed
abbrev pub metadata_line : List ℕ → List ℕ → List ℕ
metadata_line key value = (35 ∷ 32 ∷ key) ++ 58 ∷ 32 ∷ value

-- a key and a value that are read as they are written
pub record IsMetadata (key value : List ℕ) : Type 0 where
  pub no_colon : list_any is_colon key ≡ false
  pub clean_key : IsClean key
  pub clean_value : IsClean value

module _ (key value : List ℕ) (h : IsMetadata key value) where
  IsClean-metadata_line : IsClean (metadata_line key value)
  IsClean-metadata_line =
      let value_is = h.clean_value in
      let front : 0 < length (35 ∷ 32 ∷ key) = omega arith in
      let behind : 0 < length (58 ∷ 32 ∷ value) = omega arith in
      IsClean-append (35 ∷ 32 ∷ key) (58 ∷ 32 ∷ value) front behind refl
      (ap is_blank (last-append (58 ∷ 32 ∷ []) value value_is.some) ∙ value_is.back)

  -- the line is read as its key and value
  pub kind_of-metadata : text_kind (trim (metadata_line key value)) ≡ metadata (key_of key) value
  kind_of-metadata =
      let z : nat_eq (length (metadata_line key value)) 0 ≡ false = grind (arith, nat_tests) in
      ap text_kind (trim-clean (metadata_line key value) IsClean-metadata_line)
      ∙ rw (
        z,
        colon_inside (32 ∷ key) (32 ∷ value) h.no_colon,
        before_colon (32 ∷ key) (32 ∷ value) h.no_colon,
        after_colon (32 ∷ key) (32 ∷ value) h.no_colon,
        trim-spaced key h.clean_key,
        trim-spaced value h.clean_value,
      )
      refl

-- ---- the counts

type_is : IsMetadata (codes "DATA TYPE") (codes "soc")
type_is = record {
  no_colon = refl;
  clean_key = record { some = omega arith; front = refl; back = refl };
  clean_value = record { some = omega arith; front = refl; back = refl };
}

pub type_kind : text_kind (trim (metadata_line (codes "DATA TYPE") (codes "soc"))) ≡ metadata DataType (codes "soc")
type_kind = kind_of-metadata (codes "DATA TYPE") (codes "soc") type_is

count_kind : (key : List ℕ) (n : ℕ) → n < 2 ^ 64 → list_any is_colon key ≡ false → IsClean key
    → text_kind (trim (metadata_line key (decimal n))) ≡ metadata (key_of key) (decimal n)
count_kind key n h colon clean = kind_of-metadata key (decimal n)
    (record { no_colon = colon; clean_key = clean; clean_value = IsClean-decimal n h })

pub alternatives_kind : (m : ℕ) → m < 2 ^ 64
    → text_kind (trim (metadata_line (codes "NUMBER ALTERNATIVES") (decimal m))) ≡ metadata Alternatives (decimal m)
alternatives_kind m h = count_kind (codes "NUMBER ALTERNATIVES") m h refl
    (record { some = omega arith; front = refl; back = refl })

pub voters_kind : (v : ℕ) → v < 2 ^ 64 → text_kind (trim (metadata_line (codes "NUMBER VOTERS") (decimal v)))
    ≡ metadata Voters (decimal v)
voters_kind v h = count_kind (codes "NUMBER VOTERS") v h refl (record { some = omega arith; front = refl; back = refl })

pub orders_kind : (v : ℕ) → v < 2 ^ 64 → text_kind (trim (metadata_line (codes "NUMBER UNIQUE ORDERS") (decimal v)))
    ≡ metadata Orders (decimal v)
orders_kind v h = count_kind (codes "NUMBER UNIQUE ORDERS") v h refl
    (record { some = omega arith; front = refl; back = refl })

pub alternatives_read : (content : Content) (n m : ℕ) → 1 ≤ m → m ≤ limit → content.alternatives ≡ None
    → after_line content n (metadata Alternatives (decimal m)) ≡ Ok (record content { alternatives = Some m })
alternatives_read content n m some few new =
    let z : nat_eq m 0 ≡ false = grind (arith, nat_tests) in
    let t = le-ltb limit m few in
    let b : m < 2 ^ 64 = omega arith in
    rw (number-decimal m b, z, t, new) refl

pub voters_read : (content : Content) (n v : ℕ) → v ≤ voters_limit → content.voters ≡ None → after_line content n
    (metadata Voters (decimal v)) ≡ Ok (record content { voters = Some (record { value = v; line = n }) })
voters_read content n v fits new =
    let t = le-ltb voters_limit v fits in
    let b : v < 2 ^ 64 = omega arith in
    rw (number-decimal v b, t, new) refl

pub orders_read : (content : Content) (n v : ℕ) → v ≤ voters_limit → content.orders ≡ None → after_line content n
    (metadata Orders (decimal v)) ≡ Ok (record content { orders = Some (record { value = v; line = n }) })
orders_read content n v fits new =
    let t = le-ltb voters_limit v fits in
    let b : v < 2 ^ 64 = omega arith in
    rw (number-decimal v b, t, new) refl

-- ---- a name

-- the key of a name
abbrev pub name_key_text : ℕ → List ℕ
name_key_text i = codes "ALTERNATIVE NAME " ++ decimal i

-- the line of a name, without its line feed
abbrev pub name_line : Name → List ℕ
name_line name = metadata_line (name_key_text name.number) name.text

module _ (i : ℕ) (some : 1 ≤ i) (few : i ≤ limit) where
  small : i < 2 ^ 64
  small = omega arith

  key_of-name : key_of (name_key_text i) ≡ NameOf i
  key_of-name =
      let range : (nat_eq i 0 || nat_lt limit i) ≡ false = grind (arith, nat_tests) in
      rw (number-decimal i small, range) refl

  name_is : (text : List ℕ) → IsNameText text → IsMetadata (name_key_text i) text
  name_is text h =
      let number = IsClean-decimal i small in
      record {
        no_colon = list_any-append is_colon (codes "ALTERNATIVE NAME ") (decimal i)
            ∙ rw (list_any-decimal is_colon colon_fails i small) refl;
        clean_key = IsClean-append (codes "ALTERNATIVE NAME ") (decimal i) (omega arith) number.some refl number.back;
        clean_value = IsClean-name text h;
      }

  pub name_kind : (text : List ℕ) → IsNameText text → text_kind (trim (metadata_line (name_key_text i) text))
      ≡ metadata (NameOf i) text
  name_kind text h = kind_of-metadata (name_key_text i) text (name_is text h) ∙ ap (λ k. metadata k text) key_of-name

  pub name_line-one_line : (text : List ℕ) → IsNameText text → list_any is_line_feed
      (metadata_line (name_key_text i) text) ≡ false
  name_line-one_line text h =
      list_any-append is_line_feed (35 ∷ 32 ∷ name_key_text i) (58 ∷ 32 ∷ text)
      ∙ rw (
        list_any-append is_line_feed (35 ∷ 32 ∷ codes "ALTERNATIVE NAME ") (decimal i),
        list_any-decimal
            is_line_feed line_feed_fails i small,
        h.one_line,
      ) refl

-- ---- the names

-- what some names are as texts that are given
abbrev pub given_of : List Name → List (ℕ × List ℕ)
given_of names = map (λ n. (n.number, n.text)) names

-- texts given to numbers up to this one
abbrev pub AreUpTo : ℕ → List (ℕ × List ℕ) → Type 0
AreUpTo high [] = Unit {0}
AreUpTo high (e ∷ es) = (e.0 ≤ high) × AreUpTo high es

AreUpTo-push : (low high : ℕ) (es : List (ℕ × List ℕ)) (i : ℕ) (text : List ℕ) → AreUpTo low es → low ≤ high → i ≤ high
    → AreUpTo high (es ++ (i, text) ∷ [])
AreUpTo-push low high [] i text h l b = (b, tt)
AreUpTo-push low high (e ∷ es) i text h l b = (omega (arith, h.0), AreUpTo-push low high es i text h.1 l b)

-- a text given to a greater number stands behind
with_name-last : (low : ℕ) (es : List (ℕ × List ℕ)) (i : ℕ) (text : List ℕ) → AreUpTo low es → low < i
    → with_name i text es ≡ es ++ (i, text) ∷ []
with_name-last low [] i text h l = refl
with_name-last low (e ∷ es) i text h l =
    let first = h.0 in
    let b : nat_lt i e.0 ≡ false = grind (arith, nat_tests) in
    let s : nat_eq i e.0 ≡ false = grind (arith, nat_tests) in
    rw (b, s) (ap (λ xs. e ∷ xs) (with_name-last low es i text h.1 l))

-- what the line of a name is read as
abbrev pub kind_of_name : Name → LineKind
kind_of_name name = metadata (NameOf name.number) name.text

pub name_kinds : (m low : ℕ) (names : List Name) → m ≤ limit → AreNamesAbove low m names
    → map (λ text. text_kind (trim text)) (map name_line names) ≡ map kind_of_name names
name_kinds m low [] few h = refl
name_kinds m low (n ∷ ns) few h =
    let first = h.0 in
    let most = h.1 in
    rw (name_kind n.number (omega arith) (omega arith) n.text h.2, name_kinds m n.number ns few h.3) refl

-- names in ascending order are read one behind the other
pub names_read : (m low : ℕ) (content : Content) (n : ℕ) (names : List Name) → AreUpTo low content.names
    → AreNamesAbove low m names → after_lines content n (map kind_of_name names)
    ≡ Ok (record content { names = content.names ++ given_of names })
unfolding after_lines
names_read m low content n [] before h = ap (λ ns. Ok (record content { names = ns })) (sym (append-nil content.names))
names_read m low content n (name ∷ names) before h =
    let first = h.0 in
    let next : Content = record content { names = content.names ++ (name.number, name.text) ∷ [] } in
    rw (with_name-last low content.names name.number name.text before first) (names_read m name.number next (n + 1)
    names (AreUpTo-push low name.number content.names name.number name.text before (omega arith) (omega arith)) h.3
    ∙ ap (λ ns. Ok (record content { names = ns })) (append_assoc content.names ((name.number, name.text) ∷ [])
    (given_of names)))

-- each of them is a name, and of no number above m
pub names_up_to-all : (m low : ℕ) (names : List Name) → AreNamesAbove low m names → names_up_to m (given_of names)
    ≡ names
names_up_to-all m low [] h = refl
names_up_to-all m low (n ∷ ns) h =
    let most = h.1 in
    let text = h.2 in
    let t = le-leb n.number m most in
    let some : nat_lt 0 (length n.text) ≡ true = grind (arith, nat_tests, text.some) in
    rw (t, some) (ap (λ xs. n ∷ xs) (names_up_to-all m n.number ns h.3))

-- no line of a name has a line feed
pub name_lines-one_line : (m low : ℕ) (names : List Name) → m ≤ limit → AreNamesAbove low m names
    → list_any (λ text. list_any is_line_feed text) (map name_line names) ≡ false
name_lines-one_line m low [] few h = refl
name_lines-one_line m low (n ∷ ns) few h =
    let first = h.0 in
    let most = h.1 in
    rw (name_line-one_line n.number (omega arith) (omega arith) n.text h.2) (name_lines-one_line m n.number ns few h.3)
