-- The profiles of so many voters, by how many cast the first order.
use Rattle.std.proofs.Common.{◌≡◌, ◌≢◌, ℕ, zero, suc, ◌+◌, ◌-◌, ◌<◌, ◌≤◌, List, [], ◌∷◌, ◌++◌, map, length, take, drop}
use Rattle.std.proofs.Common.{get_or}
use Rattle.std.proofs.Common.{refl, sym, ap, ◌∙◌, subst, arith, append_assoc}
use Rattle.std.proofs.lemmas.List.Folds.{flat_map-map}
use Rattle.std.proofs.lemmas.List.{append-nil}
use Rattle.std.specs.List.{flat_map}
use Rattle.vir_profile.specs.declared.ballot.Entry.{Entry}
use Rattle.vir_profile.specs.Profiles.{Votes}
use Rattle.vir_term.specs.declared.prop.Prop.{Prop}
use Rattle.vir_refute.specs.Cases.{Case}
use Rattle.vir_find.specs.Spreads.{with_line, down_from, spread}
use Rattle.vir_find.specs.Trials.{cases_of}
use Rattle.vir_find.specs.Going.{going_on, taking}

pub length-down_from : (n : ℕ) → length (down_from n) ≡ n + 1
unfolding down_from
length-down_from zero = refl
length-down_from (suc n) = more _ _ (length-down_from n)
  where
    more : (l n : ℕ) → l ≡ n + 1 → suc l ≡ suc n + 1
    more l n e = omega arith

pub at-down_from : (n i : ℕ) → i ≤ n → get_or (down_from n) i 0 ≡ n - i
unfolding down_from
at-down_from zero zero inside = refl
at-down_from zero (suc i) inside = absurd (omega arith)
at-down_from (suc n) zero inside = whole n
  where
    whole : (n : ℕ) → suc n ≡ suc n - 0
    whole n = omega arith
at-down_from (suc n) (suc i) inside = at-down_from n i (omega arith) ∙ less n i
  where
    less : (n i : ℕ) → n - i ≡ suc n - suc i
    less n i = omega arith

-- nobody is left
pub spread-nobody : (orders : List (List ℕ)) → spread orders 0 ≡ [] ∷ []
unfolding spread down_from
spread-nobody [] = refl
spread-nobody (order ∷ orders) = ap (λ rest. map (with_line 0 order) rest ++ []) (spread-nobody orders)

flat_map-flat_map : {A B C : Type 0} (g : B → List C) (h : A → List B) (xs : List A) → flat_map g (flat_map h xs)
    ≡ flat_map (λ x. flat_map g (h x)) xs
flat_map-flat_map g h [] = refl
flat_map-flat_map g h (x ∷ xs) = appended (h x) (flat_map h xs)
    ∙ ap (λ ys. flat_map g (h x) ++ ys) (flat_map-flat_map g h xs)
  where
    appended : (ys zs : _) → flat_map g (ys ++ zs) ≡ flat_map g ys ++ flat_map g zs
    appended [] zs = refl
    appended (y ∷ ys) zs = ap (λ us. g y ++ us) (appended ys zs)
        ∙ sym (append_assoc (g y) (flat_map g ys) (flat_map g zs))

-- somebody is: by how many cast the first order
pub spread-by_first : (prop : Prop) (votes : Votes) (order : List ℕ) (orders : List (List ℕ)) (voters : ℕ)
    → flat_map (going_on prop votes) (spread (order ∷ orders) voters)
    ≡ flat_map (taking prop votes (order ∷ orders) voters) (down_from voters)
unfolding spread
spread-by_first prop votes order orders voters = flat_map-flat_map (going_on prop votes)
    (λ w. map (with_line w order) (spread orders (voters - w))) (down_from voters)

line_between : (w : ℕ) (order : List ℕ) (p lines : List Entry) → (p ++ with_line w order []) ++ lines ≡ p
    ++ with_line w order lines
line_between zero order p lines = ap (λ q. q ++ lines) (append-nil p)
line_between (suc w) order p lines = append_assoc p (record { weight = suc w; order = order } ∷ []) lines

flat_map-same : {A B : Type 0} (g h : A → List B) → ((x : A) → g x ≡ h x) → (xs : List A)
    → flat_map g xs ≡ flat_map h xs
flat_map-same g h same xs = λ i. flat_map (λ x. same x i) xs

-- the cases with one more line, as those of the profile that has it
pub taking-is : (prop : Prop) (votes : Votes) (order : List ℕ) (orders : List (List ℕ)) (voters others : ℕ)
    → others ≤ voters
    → flat_map (going_on prop (record votes { lines = votes.lines ++ with_line (voters - others) order [] }))
    (spread orders others) ≡ taking prop votes (order ∷ orders) voters (voters - others)
taking-is prop votes order orders voters others inside =
    flat_map-same _ _ (λ lines. ap (cases_of prop votes.alternatives) (line_between (voters - others) order votes.lines
    lines)) (spread orders others)
    ∙ sym (flat_map-map (going_on prop votes) (with_line (voters - others) order) (spread orders others))
    ∙ ap (λ n. flat_map (going_on prop votes) (map (with_line (voters - others) order) (spread orders n)))
    (left voters others inside)
  where
    left : (n k : ℕ) → k ≤ n → k ≡ n - (n - k)
    left n k e = omega arith

pub nobody_left : (prop : Prop) (votes : Votes) (orders : List (List ℕ)) (voters : ℕ) → voters ≡ 0
    → cases_of prop votes.alternatives votes.lines ≡ flat_map (going_on prop votes) (spread orders voters)
nobody_left prop votes orders voters none =
    ap (cases_of prop votes.alternatives) (sym (append-nil votes.lines))
    ∙ sym (append-nil (going_on prop votes []))
    ∙ ap (flat_map (going_on prop votes)) (sym (spread-nobody orders) ∙ ap (spread orders) (sym none))

nothing : (prop : Prop) (votes : Votes) (voters : ℕ) → voters ≢ 0
    → flat_map (going_on prop votes) (spread [] voters) ≡ []
unfolding spread
nothing prop votes zero some = absurd (some refl)
nothing prop votes (suc n) some = refl

pub no_orders : (prop : Prop) (votes : Votes) (orders : List (List ℕ)) (voters : ℕ) → orders ≡ [] → voters ≢ 0
    → flat_map (going_on prop votes) (spread orders voters) ≡ []
no_orders prop votes orders voters none some = ap (λ os. flat_map (going_on prop votes) (spread os voters)) none
    ∙ nothing prop votes voters some
