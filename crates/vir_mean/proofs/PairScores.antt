-- Scores that go by pairs, as loops over a list of the members find them.
use Rattle.std.proofs.Common.{◌≡◌, ℕ, ◌+◌, ◌<◌, ◌≤◌, Bool, true, false, not, cond, List, [], ◌∷◌, length, get_or, drop}
use Rattle.std.proofs.Common.{filter, nat_eq, refl, sym, ap, ◌∙◌, arith, add-one, ap₂, pos, ℤ, ◌-ℤ◌, Option, None}
use Rattle.std.proofs.Common.{unwrap_or, ◌&&◌, ◌||◌, ◌^◌, nat_lt}
use Rattle.std.specs.FinSet.{remove, items}
use Rattle.std.specs.List.{list_all, list_any}
use Rattle.vir_altset.specs.Sets.{Set}
use Rattle.vir_profile.specs.declared.ballot.Entry.{Entry}
use Rattle.vir_profile.specs.Profiles.{pairwise_weight}
use Rattle.std.proofs.lemmas.Int.{ints}
use mir.Syntax.{w128}
use mir.Val.{to_z, of_z, bool_byte}
use Rattle.std.proofs.Math.Seq.{drop-cons}
use Rattle.std.proofs.lemmas.Bool.Decides.{nat_tests}
use Rattle.vir_altset.specs.Splits.{bit}
use Rattle.vir_mean.specs.Listings.{total}
use Rattle.vir_mean.proofs.MemberCounts.{Lists}
use Rattle.vir_mean.specs.Scores.{score, beats}
use Rattle.vir_term.specs.declared.score.Score.TheVariants.{Borda, Copeland, Minimax, Condorcet}
use Rattle.vir_mean.specs.Extremes.{fold}
use Rattle.vir_mean.proofs.MemberListings.{lower}
use Rattle.vir_mean.proofs.MemberListings.{Swaps, fold_carry, lower_swaps, total_listings, least_listings, len_retain}
use Rattle.vir_mean.proofs.MemberListings.{any_listings, others_list, listing_without}

abbrev pub others_in : ℕ → List ℕ → List ℕ
others_in x list = filter (λ z. not (nat_eq x z)) list

-- what is left of a list, as its first and the rest
pub here : (list : List ℕ) (i : ℕ) → i < length list → drop i list ≡ get_or list i 0 ∷ drop (i + 1) list
here list i within = drop-cons list i 0 within ∙ ap (λ k. get_or list i 0 ∷ drop k list) (sym (add-one i))

pub apart_false : (y x : ℕ) → (y ≡ x → ⊥) → nat_eq y x ≡ false
apart_false y x apart = grind (arith, nat_tests)

pub same_true : (y x : ℕ) → y ≡ x → nat_eq y x ≡ true
same_true y x same = grind (arith, nat_tests)

turn : (x y : ℕ) → nat_eq x y ≡ nat_eq y x
turn x y = grind (arith, nat_tests)

-- a member other than x is the first of the others that are left
pub other_here : (x : ℕ) (list : List ℕ) (i : ℕ) → i < length list → (get_or list i 0 ≡ x → ⊥)
    → others_in x (drop i list) ≡ get_or list i 0 ∷ others_in x (drop (i + 1) list)
other_here x list i within apart =
    ap (others_in x) (here list i within)
    ∙ ap (λ b. cond (not b) (get_or list i 0 ∷ others_in x (drop (i + 1) list)) (others_in x (drop (i + 1) list)))
    (turn x (get_or list i 0) ∙ apart_false _ x apart)

-- x itself is none of them
pub self_here : (x : ℕ) (list : List ℕ) (i : ℕ) → i < length list → get_or list i 0 ≡ x → others_in x (drop i list)
    ≡ others_in x (drop (i + 1) list)
self_here x list i within same =
    ap (others_in x) (here list i within)
    ∙ ap (λ b. cond (not b) (get_or list i 0 ∷ others_in x (drop (i + 1) list)) (others_in x (drop (i + 1) list)))
    (turn x (get_or list i 0) ∙ same_true _ x same)

-- one further member, folded in at the front
pub fold_more : {B : Type 0} (op : ℕ → B → B) → Swaps op → (e d goal : B) (list : List ℕ) (i : ℕ) → i < length list → d
    ≡ op (get_or list i 0) e → fold op e (drop i list) ≡ goal → fold op d (drop (i + 1) list) ≡ goal
fold_more op s e d goal list i within is all =
    ap (λ v. fold op v (drop (i + 1) list)) is ∙ fold_carry op s e (get_or list i 0) (drop (i + 1) list)
    ∙ sym (ap (fold op e) (here list i within)) ∙ all

module _ (f : ℕ → ℕ) (x : ℕ) (list : List ℕ) (i : ℕ) (within : i < length list) where
  pub least_more : (m n goal : Option ℕ) → (get_or list i 0 ≡ x → ⊥) → n ≡ lower f (get_or list i 0) m
      → fold (lower f) m (others_in x (drop i list)) ≡ goal → fold (lower f) n (others_in x (drop (i + 1) list)) ≡ goal
  least_more m n goal apart is all =
      ap (λ v. fold (lower f) v (others_in x (drop (i + 1) list))) is ∙ fold_carry (lower f) (lower_swaps f) m
      (get_or list i 0) (others_in x (drop (i + 1) list))
      ∙ sym (ap (fold (lower f) m) (other_here x list i within apart)) ∙ all

  pub least_same : (m n goal : Option ℕ) → get_or list i 0 ≡ x → n ≡ m → fold (lower f) m (others_in x (drop i list))
      ≡ goal → fold (lower f) n (others_in x (drop (i + 1) list)) ≡ goal
  least_same m n goal same is all = ap (λ v. fold (lower f) v (others_in x (drop (i + 1) list))) is
      ∙ sym (ap (fold (lower f) m) (self_here x list i within same)) ∙ all

pub byte : (b : Bool) → bool_byte b ≡ bit b
byte true = refl
byte false = refl

module _ (t : ℕ → Bool) (list : List ℕ) (i : ℕ) (within : i < length list) where
  pub bits_more : (n v goal : ℕ) (b : Bool) → n + total (λ z. bit (t z)) (drop i list) ≡ goal → v ≡ bool_byte b → b
      ≡ t (get_or list i 0) → (n + v) + total (λ z. bit (t z)) (drop (i + 1) list) ≡ goal
  bits_more n v goal b all is tells = let h = ap (total (λ z. bit (t z))) (here list i within) in let k = byte b
      in let l = ap bit tells in omega arith

  pub bits_same : (n goal : ℕ) → n + total (λ z. bit (t z)) (drop i list) ≡ goal → bit (t (get_or list i 0)) ≡ 0 → n
      + total (λ z. bit (t z)) (drop (i + 1) list) ≡ goal
  bits_same n goal all none = let h = ap (total (λ z. bit (t z))) (here list i within) in omega arith

  pub one_fails : list_all t list ≡ list_all t (drop i list) → t (get_or list i 0) ≡ false → list_all t list ≡ false
  one_fails all fails = all ∙ ap (list_all t) (here list i within) ∙ ap (λ b. b && list_all t (drop (i + 1) list)) fails

pub byte_le : (b : Bool) → bool_byte b ≤ 1
byte_le true = omega arith
byte_le false = omega arith

module _ (a : Set) (lines : List Entry) (x : ℕ) (list : List ℕ) (lists : Lists a list) where
  pub borda_is : score Borda a lines x ≡ pos (total (pairwise_weight lines x) (others_in x list))
  borda_is = ap pos (total_listings (pairwise_weight lines x) (remove a x) _ (others_in x list) (others_list a x)
      (listing_without a x list lists))

  pub minimax_is : score Minimax a lines x
      ≡ pos (unwrap_or (fold (lower (pairwise_weight lines x)) None (others_in x list)) 0)
  minimax_is = ap pos (least_listings (pairwise_weight lines x) (remove a x) _ (others_in x list) (others_list a x)
      (listing_without a x list lists))

  pub copeland_is : score Copeland a lines x ≡ pos (total (λ y. bit (beats lines x y)) list) -ℤ pos
      (total (λ y. bit (beats lines y x)) list)
  copeland_is = ap₂ (λ (m n : ℕ). pos m -ℤ pos n) (len_retain a _ list lists) (len_retain a _ list lists)

  pub condorcet_is : score Condorcet a lines x ≡ pos (bit (list_all (λ y. nat_eq y x || beats lines x y) list))
  condorcet_is = ap (λ b. pos (bit b)) (all_not (λ y. nat_eq y x || beats lines x y) (items a)
      ∙ ap not (any_listings _ a list lists) ∙ sym (all_not (λ y. nat_eq y x || beats lines x y) list))
    where
      all_not : (t : ℕ → Bool) (xs : List ℕ) → list_all t xs ≡ not (list_any (λ y. not (t y)) xs)
      all_not t [] = refl
      all_not t (y ∷ ys) = ap (λ b. t y && b) (all_not t ys) ∙ step (t y) (list_any (λ y. not (t y)) ys)
        where
          step : (b c : Bool) → (b && not c) ≡ not (not b || c)
          step b c = grind arith

-- nobody beats itself
pub not_itself : (lines : List Entry) (x y : ℕ) → nat_eq y x ≡ true → (bit (beats lines x y) ≡ 0)
    × (bit (beats lines y x) ≡ 0)
not_itself lines x y e = let same : y ≡ x = grind (arith, nat_tests) in (
  ap (λ z. bit (beats lines x z)) same ∙ ap bit (no (pairwise_weight lines x x)),
  ap (λ z. bit (beats lines z x))
      same ∙ ap bit (no (pairwise_weight lines x x)),
)
  where
    no : (n : ℕ) → nat_lt n n ≡ false
    no n = grind (arith, nat_tests)

pub bit_le : (b : Bool) → bit b ≤ 1
bit_le b = grind arith

-- numbers that fit are what an i128 holds
pub signed : (n m : ℕ) → n ≡ m → n < 2 ^ 127 → to_z w128 n ≡ pos m
signed n m e h = omega (arith, ints)

pub difference : (y z : ℤ) (a b m n : ℕ) → y ≡ pos a → z ≡ pos b → a ≡ m → b ≡ n → a < 2 ^ 16 → b < 2 ^ 16
    → to_z w128 (of_z w128 (to_z w128 (of_z w128 y) -ℤ to_z w128 (of_z w128 z))) ≡ pos m -ℤ pos n
difference y z a b m n p q e f h k = omega (arith, ints)

pub plain : (y : ℤ) (a m : ℕ) → y ≡ pos a → a ≡ m → a < 2 ^ 64 → to_z w128 (of_z w128 y) ≡ pos m
plain y a m p e h = omega (arith, ints)
