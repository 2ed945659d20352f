-- The parts of a word, and what they are, one after another.
use Rattle.std.proofs.Common.{◌≡◌, ◌≢◌, ℕ, suc, ◌+◌, ◌-◌, ◌<◌, ◌≤◌, ◌==◌, Bool, true, false, nat_le, List, [], ◌∷◌}
use Rattle.std.proofs.Common.{◌++◌}
use Rattle.std.proofs.Common.{length, get_or, Option, Some, None, refl, sym, ◌∙◌, ap, subst, arith, append_assoc, cond}
use Rattle.std.proofs.Common.{append-nil}
use Rattle.std.proofs.lemmas.Bool.Decides.{nat_tests}
use Rattle.std.proofs.lemmas.List.{get_or_default}
use Rattle.std.proofs.lemmas.List.Splits.{slice_split_first, slice_split_none, length-slice_split}
use Rattle.std.proofs.lemmas.Str.Pattern.{IsSplitOnceResult, split_once_first, split_parts}
use Rattle.std.specs.List.{All, AllByRecursion, after_first, count_by}
use Rattle.std.specs.Option.{option_map}
use denote.Ref.{Bor}
use Rattle.vir_words.specs.WordLists.{each_of, few_of, list_of, parts, with_first}

-- ---- parts

not_same : (a b : ℕ) → a ≢ b → (a == b) ≡ false
not_same a b differ = grind (arith, nat_tests)

-- the word is cut at its first sign
pub cut_at : (sign : ℕ) (word : List ℕ) (first behind : Bor (List ℕ))
    → IsSplitOnceResult sign word (Some (first, behind)) → sign < 128
    → parts sign word ≡ first.now ∷ parts sign behind.now
cut_at sign word first behind split small =
    let found = split_once_first sign word (Some (first, behind)) split small in
    slice_split_first (λ b. b == sign) word 0 found.0
    ∙ ap (λ part. part ∷ parts sign (after_first (λ b. b == sign) word)) (sym found.1)
    ∙ ap (λ more. first.now ∷ parts sign more) (sym found.2)

-- a word without a sign is one part
pub no_cut : (sign : ℕ) (word : List ℕ) → IsSplitOnceResult sign word None → sign < 128 → parts sign word ≡ word ∷ []
no_cut sign word split small =
    let apart : (i : ℕ) → i < length word → get_or word i 0 ≢ sign = split_parts sign word None split small in
    let each : All (λ b. (b == sign) ≡ false) word = λ k d inside. not_same (get_or word k d) sign
    (λ same. apart k inside (get_or_default word k 0 d inside ∙ same)) in
    slice_split_none (λ b. b == sign) word each

-- a word has a part
some_part : (sign : ℕ) (word : List ℕ) → 1 ≤ length (parts sign word)
some_part sign word =
    let e : length (parts sign word) ≡ count_by (λ b. b == sign) word + 1 = length-slice_split (λ b. b == sign) word in
    omega arith

-- ---- what they are

-- these values, and then those
abbrev pub joined : {A : Type 0} → List A → Option (List A) → Option (List A)
joined list more = option_map (λ rest. list ++ rest) more

joined_none : {A : Type 0} (more : Option (List A)) → joined [] more ≡ more
joined_none None = refl
joined_none (Some rest) = refl

joined_more : {A : Type 0} (list : List A) (x : A) (more : Option (List A)) → joined list (with_first (Some x) more)
    ≡ joined (list ++ x ∷ []) more
joined_more list x None = refl
joined_more list x (Some rest) = ap Some (sym (append_assoc list (x ∷ []) rest))

one_more : (a b : ℕ) → nat_le (suc a) (suc b) ≡ nat_le a b
one_more a b = grind (arith, nat_tests)

not_none : (a : ℕ) → nat_le (suc a) 0 ≡ false
not_none a = grind (arith, nat_tests)

module _ {A : Type 0} (read : List ℕ → Option A) where
  with_test : (b : Bool) (o : Option A) (words : List (List ℕ)) → cond b (with_first o (each_of read words)) None
      ≡ with_first o (cond b (each_of read words) None)
  with_test true o words = refl
  with_test false None words = refl
  with_test false (Some x) words = refl

  -- the first word, and then the others
  few-cons : (most : ℕ) (word : List ℕ) (rest : List (List ℕ)) → few_of (suc most) read (word ∷ rest)
      ≡ with_first (read word) (few_of most read rest)
  few-cons most word rest =
      ap (λ b. cond b (with_first (read word) (each_of read rest)) None) (one_more (length rest) most)
      ∙ with_test (nat_le (length rest) most) (read word) rest

  few-zero : (word : List ℕ) (rest : List (List ℕ)) → few_of 0 read (word ∷ rest) ≡ None
  few-zero word rest = ap (λ b. cond b (with_first (read word) (each_of read rest)) None) (not_none (length rest))

  -- no word may be left over
  none_over : (words : List (List ℕ)) → 1 ≤ length words → few_of 0 read words ≡ None
  none_over [] some = absurd (omega arith)
  none_over (word ∷ rest) some = few-zero word rest

  none_left : (most : ℕ) → few_of most read [] ≡ Some []
  none_left most = ap (λ b. cond b (Some []) None) (at_least most)
    where
      at_least : (m : ℕ) → nat_le 0 m ≡ true
      at_least m = grind (arith, nat_tests)

  module _ (sign most : ℕ) where
    -- these were read of a word that was gone through up to its rest, and so many more may follow
    abbrev pub IsReadTo : List A → ℕ → List (List ℕ) → List ℕ → Type 0
    IsReadTo list more rest word = joined list (few_of more read rest) ≡ list_of sign most read word

    pub starts : (word : List ℕ) → IsReadTo [] (most - 0) (parts sign word) word
    starts word =
        let e : most - 0 ≡ most = omega arith in
        joined_none (few_of (most - 0) read (parts sign word)) ∙ ap (λ m. few_of m read (parts sign word)) e

    -- the first part that is left
    first_part : (list : List A) (i : ℕ) (first rest word : List ℕ) (behind : List (List ℕ)) → i < most
        → parts sign rest ≡ first ∷ behind → IsReadTo list (most - i) (parts sign rest) word
        → joined list (with_first (read first) (few_of (most - (i + 1)) read behind)) ≡ list_of sign most read word
    first_part list i first rest word behind below cut is =
        let e : most - i ≡ suc (most - (i + 1)) = omega arith in
        let same : few_of (most - i) read (parts sign rest)
        ≡ with_first (read first) (few_of (most - (i + 1)) read behind)
        = ap (λ m. few_of m read (parts sign rest)) e ∙ ap (few_of (suc (most - (i + 1))) read) cut
        ∙ few-cons (most - (i + 1)) first behind in
        sym (ap (joined list) same) ∙ is

    pub goes_on : (list : List A) (x : A) (i : ℕ) (first rest word : List ℕ) (behind : List (List ℕ)) → i < most
        → parts sign rest ≡ first ∷ behind → IsReadTo list (most - i) (parts sign rest) word → Some x ≡ read first
        → IsReadTo (list ++ x ∷ []) (most - (i + 1)) behind word
    goes_on list x i first rest word behind below cut is found =
        sym (joined_more list x (few_of (most - (i + 1)) read behind))
        ∙ ap (λ o. joined list (with_first o (few_of (most - (i + 1)) read behind))) found
        ∙ first_part list i first rest word behind below cut is

    pub ends : (list : List A) (x : A) (i : ℕ) (first rest word : List ℕ) → i < most
        → parts sign rest ≡ first ∷ [] → IsReadTo list (most - i) (parts sign rest) word → Some x ≡ read first
        → Some (list ++ x ∷ []) ≡ list_of sign most read word
    ends list x i first rest word below cut is found =
        ap Some (sym (append-nil (list ++ x ∷ []))) ∙ sym (ap (joined (list ++ x ∷ [])) (none_left (most - (i + 1))))
        ∙ goes_on list x i first rest word [] below cut is found

    pub fails : (list : List A) (i : ℕ) (first rest word : List ℕ) (behind : List (List ℕ)) → i < most
        → parts sign rest ≡ first ∷ behind → IsReadTo list (most - i) (parts sign rest) word → None ≡ read first
        → None ≡ list_of sign most read word
    fails list i first rest word behind below cut is missing =
        ap (λ o. joined list (with_first o (few_of (most - (i + 1)) read behind))) missing
        ∙ first_part list i first rest word behind below cut is

    pub is_over : (list : List A) (i : ℕ) (rest word : List ℕ) → most ≤ i
        → IsReadTo list (most - i) (parts sign rest) word → None ≡ list_of sign most read word
    is_over list i rest word past is =
        let e : most - i ≡ 0 = omega arith in
        sym (ap (λ m. joined list (few_of m read (parts sign rest))) e
        ∙ ap (joined list) (none_over (parts sign rest) (some_part sign rest))) ∙ is

  -- ---- what a list that was read is like

  with_some : (o : Option A) (more : Option (List A)) (x : List A) → with_first o more ≡ Some x
      → (y : A) × (rest : List A) × (o ≡ Some y) × (more ≡ Some rest) × (x ≡ y ∷ rest)
  with_some (Some y) (Some rest) x e = (y, rest, refl, refl, cc)
  with_some (Some y) None x e = absurd (cc)
  with_some None (Some rest) x e = absurd (cc)
  with_some None None x e = absurd (cc)

  each_is : (P : A → Type 0) → ((word : List ℕ) (x : A) → read word ≡ Some x → P x) → (words : List (List ℕ))
      (list : List A) → each_of read words ≡ Some list → AllByRecursion P list × (length list ≡ length words)
  each_is P is [] list e =
      let nothing : [] ≡ list = cc in
      subst (λ xs. AllByRecursion P xs × (length xs ≡ 0)) nothing (tt, refl)
  each_is P is (word ∷ rest) list e =
      let found = with_some (read word) (each_of read rest) list e in
      let others = each_is P is rest found.1 found.3 in
      subst (λ xs. AllByRecursion P xs × (length xs ≡ suc (length rest))) (sym found.4)
      ((is word found.0 found.2, others.0), ap suc others.1)

  few_is : (b : Bool) (words : List (List ℕ)) (list : List A) → cond b (each_of read words) None ≡ Some list
      → (b ≡ true) × (each_of read words ≡ Some list)
  few_is true words list e = (refl, e)
  few_is false words list e = absurd (cc)

  at_most : (a b : ℕ) → nat_le a b ≡ true → a ≤ b
  at_most a b is = grind (arith, nat_tests)

  -- a list that a word is has a member, and at most so many
  pub list_is : (P : A → Type 0) → ((word : List ℕ) (x : A) → read word ≡ Some x → P x) → (sign most : ℕ)
      (word : List ℕ) (list : List A) → list_of sign most read word ≡ Some list
      → AllByRecursion P list × (1 ≤ length list) × (length list ≤ most)
  list_is P is sign most word list e =
      let found = few_is (nat_le (length (parts sign word)) most) (parts sign word) list e in
      let each = each_is P is (parts sign word) list found.1 in
      let few : length (parts sign word) ≤ most = at_most (length (parts sign word)) most found.0 in
      let some : 1 ≤ length (parts sign word) = some_part sign word in
      let size : length list ≡ length (parts sign word) = each.1 in
      (each.0, omega arith, omega arith)
