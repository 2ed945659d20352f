-- Lists of all terms.
use Rattle.std.proofs.Common.{◌≡◌, inl, inr, ℕ, zero, suc, ◌+◌, ◌-◌, ◌<◌, ◌≤◌, true, false, List, [], ◌∷◌, ◌++◌, map}
use Rattle.std.proofs.Common.{length, take, drop, drop-cons, get_or, option_map, Option, Some, None, refl, sym, ◌∙◌, ap}
use Rattle.std.proofs.Common.{subst, append_assoc, arith}
use Rattle.std.specs.Prelude.{Vec}
use Rattle.std.specs.declared.alloc.Global.{Global}
use Rattle.std.proofs.lemmas.Bool.{cases_lt}
use Rattle.std.proofs.lemmas.List.{append-nil, take_more, map-append, take-append-drop}
use Rattle.std.specs.List.{find}
use Rattle.std.specs.Option.{is_some}
use Rattle.vir_term.specs.declared.leaf.Leaf.{Leaf}
use Rattle.vir_term.specs.declared.term.Term.{Term}
use Rattle.vir_term.specs.Tree.{Tree, tree, rev, seq, par, loop, exactly}
use Rattle.vir_synth.specs.Terms.{joins, splits, compositions, next_terms, terms, terms_up_to}
use Rattle.vir_synth.specs.Lists.{trees, terms_in, terms_at}
use Rattle.vir_term.specs.declared.prop.Prop.{Prop}
use Rattle.vir_synth.specs.Firsts.{HasAll, IsFirstWith}
use Rattle.vir_synth.specs.Alike.{FindsNone}
use Rattle.vir_synth.proofs.FirstLemmas.{AllLack, has_all, found_is_first, first_is_found}
use Rattle.vir_synth.proofs.Tabling.{joins-push}
use Rattle.vir_synth.proofs.Searching.{splits_next, splits-zero}
use Rattle.vir_synth.proofs.Stepping.{slice_get-append, slice_get-last, length-push, none_of_zero, nothing_up_to}
use Rattle.vir_synth.proofs.Stepping.{found_up_to}
use Rattle.vir_synth.proofs.TermLemmas.{terms-zero, terms-suc, next_agree}

trees-push : (terms : List Term) (x : Term) → trees (terms ++ x ∷ []) ≡ trees terms ++ tree x ∷ []
trees-push terms x = map-append tree terms (x ∷ [])

-- one first term more
pub pushed_joined : (op : Tree → Tree → Tree) (start old new : List Tree) (xs : List Term) (i : ℕ) (x : Term)
    (ys : List Tree) → i < length xs → x ≡ get_or xs i x → old ≡ start ++ joins op (trees (take i xs)) ys → new ≡ old
    ++ map (op (tree x)) ys →
    new ≡ start ++ joins op (trees (take (i + 1) xs)) ys
pushed_joined op start old new xs i x ys l e h k =
    let so_far : List Tree = joins op (trees (take i xs)) ys in
    let more : List Tree = map (op (tree x)) ys in
    let all : joins op (trees (take (i + 1) xs)) ys ≡ so_far ++ more =
    ap (λ ts. joins op (trees ts) ys) (take_more xs i x l ∙ ap (λ y. take i xs ++ y ∷ []) (sym e))
    ∙ (ap (λ ts. joins op ts ys) (trees-push (take i xs) x) ∙ joins-push op (trees (take i xs)) ys (tree x)) in
    k ∙ (ap (λ ts. ts ++ more) h ∙ (append_assoc start so_far more ∙ ap (λ ts. start ++ ts) (sym all)))

listed_at : (sizes : List (Vec Term Global)) (i : ℕ) (terms : Vec Term Global) → i < length sizes → terms
    ≡ get_or sizes i terms → terms_at sizes (suc i) ≡ trees terms.items
listed_at [] i terms l e = absurd (omega arith)
listed_at (x ∷ sizes) zero terms l e = let s : x ≡ terms = sym e in ap (λ v. trees v.items) s
listed_at (x ∷ sizes) (suc i) terms l e = listed_at sizes i terms (omega arith) e

pub listed_of_size : (sizes : List (Vec Term Global)) (n i : ℕ) (terms : Vec Term Global) → n ≡ suc i → i < length sizes
    → terms ≡ get_or sizes i terms → terms_at sizes n ≡ trees terms.items
listed_of_size sizes n i terms s l e = subst (λ k. terms_at sizes k ≡ trees terms.items) (sym s)
    (listed_at sizes i terms l e)

-- What stands in a list, and what is to come, is what stood there and all compositions of two terms.
abbrev pub IsPushed : (Tree → Tree → Tree) → List (Vec Term Global) → ℕ → List Tree → List Tree → Type 0
IsPushed op sizes left start now = now ++ splits op (terms_at sizes) left (length sizes - left) ≡ start
    ++ splits op (terms_at sizes) 1 (length sizes - 1)

pub pushed_more : (op : Tree → Tree → Tree) (sizes : List (Vec Term Global)) (left : ℕ) (first second : Vec Term Global)
    (start old new : List Tree) → 1 ≤ left → left < length sizes →
    first ≡ get_or sizes (left - 1) first → second ≡ get_or sizes (length sizes - left - 1) second
    → IsPushed op sizes left start old → new ≡ old ++ joins op (trees first.items) (trees second.items)
    → IsPushed op sizes (left + 1) start new
pushed_more op sizes left first second start old new l k e f h g =
    let n : ℕ = length sizes in
    let xs : List Tree = joins op (trees first.items) (trees second.items) in
    let firsts : terms_at sizes left ≡ trees first.items = listed_of_size sizes left (left - 1) first (omega arith)
    (omega arith) e in
    let seconds : terms_at sizes (n - left) ≡ trees second.items = listed_of_size sizes (n - left) (n - left - 1) second
    (omega arith) (omega arith) f in
    let same : joins op (terms_at sizes left) (terms_at sizes (n - left)) ≡ xs =
    ap (λ ts. joins op ts (terms_at sizes (n - left))) firsts ∙ ap (joins op (trees first.items)) seconds in
    let rest : List Tree = splits op (terms_at sizes) (left + 1) (n - (left + 1)) in
    let next : xs ++ rest ≡ splits op (terms_at sizes) left (n - left) = ap (λ ts. ts ++ rest) (sym same)
    ∙ splits_next op (terms_at sizes) left n (n - left - 1) (omega arith) (omega arith) in
    ap (λ ts. ts ++ rest) g ∙ (append_assoc old xs rest ∙ (ap (λ ts. old ++ ts) next ∙ h))

pub pushed_all : (op : Tree → Tree → Tree) (sizes : List (Vec Term Global)) (left : ℕ) (start now : List Tree)
    → length sizes ≤ left → IsPushed op sizes left start now → now ≡ start ++ splits op (terms_at sizes) 1
    (length sizes - 1)
pushed_all op sizes left start now l h =
    let none : splits op (terms_at sizes) left (length sizes - left) ≡ [] = splits-zero op (terms_at sizes) left
    (length sizes - left) (omega arith) in
    sym (append-nil now) ∙ (ap (λ ts. now ++ ts) (sym none) ∙ h)

pub compositions_pushed : (sizes : List (Vec Term Global)) (last : Vec Term Global) (a b c d e : List Tree)
    → 1 ≤ length sizes → last ≡ get_or sizes (length sizes - 1) last →
    b ≡ a ++ map rev (trees last.items) → c ≡ b ++ map (loop (exactly 1)) (trees last.items) → d ≡ c
    ++ splits seq (terms_at sizes) 1 (length sizes - 1) → e ≡ d ++ splits par (terms_at sizes) 1 (length sizes - 1)
    →
    e ≡ a ++ compositions (terms_at sizes) (length sizes)
compositions_pushed sizes last a b c d e l is revs loops seqs pars =
    let n : ℕ = length sizes in
    let same : terms_at sizes n ≡ trees last.items = listed_of_size sizes n (n - 1) last (omega arith) (omega arith) is
    in
    let rs : List Tree = map rev (terms_at sizes n) in
    let ls : List Tree = map (loop (exactly 1)) (terms_at sizes n) in
    let ss : List Tree = splits seq (terms_at sizes) 1 (n - 1) in
    let ps : List Tree = splits par (terms_at sizes) 1 (n - 1) in
    let b_is : b ≡ a ++ rs = revs ∙ ap (λ ts. a ++ map rev ts) (sym same) in
    let c_is : c ≡ a ++ (rs ++ ls) = loops ∙ (ap (λ ts. b ++ map (loop (exactly 1)) ts) (sym same)
    ∙ (ap (λ ts. ts ++ ls) b_is ∙ append_assoc a rs ls)) in
    let d_is : d ≡ a ++ (rs ++ ls ++ ss) = seqs ∙ (ap (λ ts. ts ++ ss) c_is ∙ append_assoc a (rs ++ ls) ss) in
    pars ∙ (ap (λ ts. ts ++ ps) d_is ∙ append_assoc a (rs ++ ls ++ ss) ps)

-- The lists of the sizes so far are whole.
abbrev pub AreWhole : List Leaf → List (Vec Term Global) → Type 0
AreWhole leaves sizes = (i : ℕ) → i ≤ length sizes → terms_at sizes i ≡ terms leaves i

pub whole_none : (leaves : List Leaf) (sizes : List (Vec Term Global)) → sizes ≡ [] → AreWhole leaves sizes
whole_none leaves sizes e = subst (AreWhole leaves) (sym e)
    (λ i l. (let z : 0 ≡ i = omega (arith, l) in subst (λ k. terms_at [] k ≡ terms leaves k) z
    (sym (terms-zero leaves))))

pub next_whole : (leaves : List Leaf) (sizes : List (Vec Term Global)) → AreWhole leaves sizes
    → next_terms leaves (terms_at sizes) (length sizes) ≡ terms leaves (suc (length sizes))
next_whole leaves sizes h = next_agree leaves (terms_at sizes) (terms leaves) (length sizes) h
    ∙ sym (terms-suc leaves (length sizes))

pub whole_more : (leaves : List Leaf) (sizes others : List (Vec Term Global)) (new : Vec Term Global) → others ≡ sizes
    ++ new ∷ [] → AreWhole leaves sizes → trees new.items ≡ terms leaves (suc (length sizes)) → AreWhole leaves others
whole_more leaves sizes others new e h k = subst (AreWhole leaves) (sym e) (λ i l. elim (cases_lt (length sizes) i) [
  | inl above ↦ (let s : suc (length sizes) ≡ i = omega (arith, l, length-push sizes new) in
      subst (λ j. terms_at (sizes ++ new ∷ []) j ≡ terms leaves j) s (ap terms_in (slice_get-last sizes new) ∙ k))
  | inr below ↦ (listed_before i below ∙ h i below)
]) where
  listed_before : (i : ℕ) → i ≤ length sizes → terms_at (sizes ++ new ∷ []) i ≡ terms_at sizes i
  listed_before zero l = refl
  listed_before (suc i) l = ap terms_in (slice_get-append sizes (new ∷ []) i (omega arith))

-- What is known after some sizes were listed: their lists are whole, and nothing was found.
pub record AreListed (leaves : List Leaf) (sizes : List (Vec Term Global)) (count : ℕ) : Type 0 where
  pub counted : length sizes ≡ count
  pub whole : AreWhole leaves sizes

pub listed_none : (leaves : List Leaf) (sizes : List (Vec Term Global)) → sizes ≡ [] → AreListed leaves sizes 0
listed_none leaves sizes e = record { counted = ap length e; whole = whole_none leaves sizes e }

pub listed_more : (leaves : List Leaf) (sizes others : List (Vec Term Global)) (count : ℕ) (new : Vec Term Global)
    → AreListed leaves sizes count → others ≡ sizes ++ new ∷ [] → trees new.items ≡ next_terms leaves (terms_at sizes)
    (length sizes) → AreListed leaves others (count + 1)
listed_more leaves sizes others count new h e k = record {
  counted = omega (arith, ap length e, length-push sizes new, h.counted);
  whole = whole_more leaves sizes others new e h.whole (k ∙ next_whole leaves sizes h.whole);
}

-- the last list is that of the greatest size
pub last_listed : (leaves : List Leaf) (sizes rest : List (Vec Term Global)) (last : Vec Term Global) (count : ℕ)
    → AreListed leaves sizes count → sizes ≡ rest ++ last ∷ [] → trees last.items ≡ terms leaves count
last_listed leaves sizes rest last count h e =
    let long : suc (length rest) ≡ count = sym (length-push rest last) ∙ (sym (ap length e) ∙ h.counted) in
    let at : terms_at sizes (suc (length rest)) ≡ trees last.items = ap (λ xs. terms_at xs (suc (length rest))) e
    ∙ ap terms_in (slice_get-last rest last) in
    subst (λ k. trees last.items ≡ terms leaves k) long (sym at ∙ h.whole (suc (length rest))
    (omega (arith, long, h.counted)))

-- the first one that is wanted
pub wanted_first : (props : List Prop) (list : List Term) (i : ℕ) (x term : Term) → i < length list → x
    ≡ get_or list i x → AllLack props (trees (take i list)) → HasAll props (tree x) → tree term ≡ tree x
    → IsFirstWith props (trees list) (Some (tree term))
wanted_first props list i x term l e lack has same =
    let parts : list ≡ take i list ++ x ∷ drop (suc i) list = sym (take-append-drop i list)
    ∙ ap (λ ys. take i list ++ ys) (drop-cons list i x l ∙ ap (λ y. y ∷ drop (suc i) list) (sym e)) in (
      trees (take i list),
      trees (drop (suc i) list),
      ap trees parts ∙ (map-append tree (take i list) (x ∷ drop (suc i) list) ∙ ap (λ u. trees (take i list) ++ u
          ∷ trees (drop (suc i) list)) (sym same)),
      subst (HasAll props) (sym same) has,
      lack,
    )

-- What is known after some sizes were searched: their lists are whole, and nothing was found.
pub record ArePlain (leaves : List Leaf) (props : List Prop) (sizes : List (Vec Term Global)) (count : ℕ) : Type 0 where
  pub are_listed : AreListed leaves sizes count
  pub none : FindsNone (has_all props) (terms leaves) (suc count)

pub plain_none : (leaves : List Leaf) (props : List Prop) (sizes : List (Vec Term Global)) → sizes ≡ []
    → ArePlain leaves props sizes 0
plain_none leaves props sizes e =
    record { are_listed = listed_none leaves sizes e; none = none_of_zero leaves (has_all props) }

module _ (leaves : List Leaf) (props : List Prop) (sizes : List (Vec Term Global)) (count : ℕ) (new : Vec Term Global)
    (h : ArePlain leaves props sizes count) (list_is : trees new.items ≡ next_terms leaves (terms_at sizes)
    (length sizes)) where
  new_terms : trees new.items ≡ terms leaves (suc count)
  new_terms = list_is ∙ (next_whole leaves sizes h.are_listed.whole ∙ ap (λ n. terms leaves (suc n))
      h.are_listed.counted)

  found_in_new : (o : Option Tree) → IsFirstWith props (trees new.items) o → find (has_all props)
      (terms leaves (suc count)) ≡ o
  found_in_new o is = ap (find (has_all props)) (sym new_terms) ∙ first_is_found props (trees new.items) o is

  pub plain_more : (others : List (Vec Term Global)) (o : Option Term) → others ≡ sizes ++ new ∷ []
      → IsFirstWith props (trees new.items) (option_map tree o) → is_some o ≡ false → ArePlain leaves props others
      (count + 1)
  plain_more others None e is empty = record {
    are_listed = listed_more leaves sizes others count new h.are_listed e list_is;
    none = λ i l. elim (cases_lt i (suc count)) [
      | inl below ↦ h.none i below
      | inr above ↦ (let s : suc count ≡ i = omega (arith, l) in subst (λ k. find (has_all props) (terms leaves k)
          ≡ None) s (found_in_new None is))
    ];
  }
  plain_more others (Some t) e is empty = cc

  pub plain_found : (o : Option Term) (size : ℕ) → IsFirstWith props (trees new.items) (option_map tree o) → is_some o
      ≡ true → count < size → IsFirstWith props (terms_up_to leaves size) (option_map tree o)
  plain_found None size is full l = cc
  plain_found (Some t) size is full l = found_is_first props (terms_up_to leaves size) (Some (tree t))
      (found_up_to leaves (has_all props) count size (tree t) h.none (found_in_new (Some (tree t)) is) l)

pub plain_nothing : (leaves : List Leaf) (props : List Prop) (sizes : List (Vec Term Global)) (count size : ℕ)
    → ArePlain leaves props sizes count → count ≡ size → IsFirstWith props (terms_up_to leaves size) None
plain_nothing leaves props sizes count size h e = found_is_first props (terms_up_to leaves size) None
    (nothing_up_to leaves (has_all props) size (λ i l. h.none i (omega (arith, l, e))))
