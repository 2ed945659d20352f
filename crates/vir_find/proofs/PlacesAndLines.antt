-- The single raises of a profile, line by line and place by place.
use Rattle.std.proofs.Common.{◌≡◌, ◌≢◌, ℕ, zero, suc, ◌+◌, ◌-◌, ◌<◌, ◌≤◌, List, [], ◌∷◌, ◌++◌, map, length, take, drop}
use Rattle.std.proofs.Common.{get_or, refl, sym, ap, ap₂, ◌∙◌, subst, arith, cond, true, false, Bool, append_assoc}
use Rattle.std.proofs.Common.{length-drop, Result, Ok, Err, IfOk, Option, Some, None, option_map}
use Rattle.std.proofs.lemmas.List.Elements.{All-nil, All-cons, All-append}
use Rattle.std.proofs.lemmas.List.{take_all, map-append, append-nil}
use Rattle.std.specs.List.{All, flat_map}
use Rattle.vir_profile.specs.declared.ballot.Entry.{Entry}
use Rattle.vir_profile.specs.Profiles.{Votes}
use Rattle.vir_term.specs.declared.prop.Prop.{Prop}
use Rattle.vir_refute.specs.Cases.{Case, one, pair}
use Rattle.vir_refute.specs.Judged.{election_of}
use Rattle.vir_refute.specs.Violations.{is_on_lifts}
use Rattle.vir_find.specs.Lifting.{swapped, raise_at, order_at, replaced, lift_at, numbers_from, case_at}
use Rattle.vir_find.specs.Lifting.{cases_of_line, cases_of_lines}
use Rattle.vir_find.specs.declared.found.FoundCase.{FoundCase}
use Rattle.vir_find.specs.Found.{found_case}
use Rattle.vir_find.specs.Outcomes.{IsFirst, IsOutcome}
use Rattle.vir_find.specs.Raises.{Raise, behind, raises, Lift, behind_line, line_lift, single_lifts}
use Rattle.vir_find.specs.Spreads.{with_line}
use Rattle.vir_find.specs.Trials.{election, lift_case, cases_of}
use Rattle.vir_find.proofs.CaseKinds.{cases_of-lifts}
use Rattle.vir_find.proofs.Outcomes.{none_further, first_at, first_later}

-- ---- numbers in a row
pub length-numbers_from : (i n : ℕ) → length (numbers_from i n) ≡ n
unfolding numbers_from
length-numbers_from i zero = refl
length-numbers_from i (suc n) = ap suc (length-numbers_from (suc i) n)

pub at-numbers_from : (i n k : ℕ) → k < n → get_or (numbers_from i n) k 0 ≡ i + k
unfolding numbers_from
at-numbers_from i zero k inside = absurd (omega arith)
at-numbers_from i (suc n) zero inside = none i
  where
    none : (i : ℕ) → i ≡ i + 0
    none i = omega arith
at-numbers_from i (suc n) (suc k) inside = at-numbers_from (suc i) n k (omega arith) ∙ next i k
  where
    next : (i k : ℕ) → suc i + k ≡ i + suc k
    next i k = omega arith

map_map : {A B C : Type 0} (g : B → C) (f : A → B) (xs : List A) → map g (map f xs) ≡ map (λ x. g (f x)) xs
map_map g f [] = refl
map_map g f (x ∷ xs) = ap (λ ys. g (f x) ∷ ys) (map_map g f xs)

-- ---- the raises of an order
raises_behind : (y : ℕ) (x : ℕ) (rest : List ℕ) (i n : ℕ) → map (raise_at (y ∷ x ∷ rest)) (numbers_from (suc i) n)
    ≡ map (behind y) (map (raise_at (x ∷ rest)) (numbers_from i n))
unfolding numbers_from
raises_behind y x rest i zero = refl
raises_behind y x rest i (suc n) = ap (λ rs. behind y (raise_at (x ∷ rest) i) ∷ rs) (raises_behind y x rest (suc i) n)

raises-by_place : (order : List ℕ) → raises order ≡ map (raise_at order) (numbers_from 0 (length order - 1))
unfolding raises numbers_from
raises-by_place [] = refl
raises-by_place (y ∷ []) = refl
raises-by_place (y ∷ x ∷ rest) =
    ap (λ rs. record { alternative = x; order = x ∷ y ∷ rest } ∷ rs)
    (ap (map (behind y)) (raises-by_place (x ∷ rest)) ∙ sym (raises_behind y x rest 0 (length (x ∷ rest) - 1)))
    ∙ ap (λ n. record { alternative = x; order = x ∷ y ∷ rest } ∷ map (raise_at (y ∷ x ∷ rest)) (numbers_from 1 n))
    (less (length rest))
    ∙ ap (λ n. map (raise_at (y ∷ x ∷ rest)) (numbers_from 0 n)) (more (length rest))
  where
    less : (n : ℕ) → suc n - 1 ≡ n
    less n = omega arith

    more : (n : ℕ) → suc n ≡ suc (suc n) - 1
    more n = omega arith

-- ---- the lifts of a profile
lifts_at : List Entry → ℕ → List Lift
lifts_at lines i = map (lift_at lines i) (raises (order_at lines i))

lifts_behind : (line : Entry) (lines : List Entry) (i n : ℕ) → flat_map (lifts_at (line ∷ lines)) (numbers_from
    (suc i) n)
    ≡ map (behind_line line) (flat_map (lifts_at lines) (numbers_from i n))
unfolding numbers_from lifts_at
lifts_behind line lines i zero = refl
lifts_behind line lines i (suc n) =
    ap₂ (λ here later. here ++ later) (sym (map_map (behind_line line) (lift_at lines i) (raises (order_at lines i))))
    (lifts_behind line lines (suc i) n)
    ∙ sym (map-append (behind_line line) (lifts_at lines i) (flat_map (lifts_at lines) (numbers_from (suc i) n)))

single_lifts-by_line : (lines : List Entry) → single_lifts lines
    ≡ flat_map (lifts_at lines) (numbers_from 0 (length lines))
unfolding single_lifts numbers_from lifts_at
single_lifts-by_line [] = refl
single_lifts-by_line (line ∷ lines) = ap (λ later. map (line_lift line lines) (raises line.order) ++ later)
    (ap (map (behind_line line)) (single_lifts-by_line lines) ∙ sym (lifts_behind line lines 0 (length lines)))

map-flat_map : {A B C : Type 0} (f : B → C) (g : A → List B) (xs : List A) → map f (flat_map g xs)
    ≡ flat_map (λ x. map f (g x)) xs
map-flat_map f g [] = refl
map-flat_map f g (x ∷ xs) = map-append f (g x) (flat_map g xs) ∙ ap (λ ys. map f (g x) ++ ys) (map-flat_map f g xs)

pub flat_map-one : {A B : Type 0} (f : A → B) (xs : List A) → map f xs ≡ flat_map (λ x. f x ∷ []) xs
flat_map-one f [] = refl
flat_map-one f (x ∷ xs) = ap (λ ys. f x ∷ ys) (flat_map-one f xs)

line_is : (m : ℕ) (lines : List Entry) (i : ℕ) → map (lift_case m) (lifts_at lines i) ≡ cases_of_line m lines i
unfolding cases_of_line lifts_at
line_is m lines i =
    ap (λ rs. map (lift_case m) (map (lift_at lines i) rs)) (raises-by_place (order_at lines i))
    ∙ ap (map (lift_case m)) (map_map (lift_at lines i) (raise_at (order_at lines i)) (numbers_from 0
    (length (order_at lines i) - 1)))
    ∙ map_map (lift_case m) (λ k. lift_at lines i (raise_at (order_at lines i) k)) (numbers_from 0
    (length (order_at lines i) - 1))
    ∙ flat_map-one (case_at m lines i) (numbers_from 0 (length (order_at lines i) - 1))

pub lines_are : (m : ℕ) (lines : List Entry) → map (lift_case m) (single_lifts lines) ≡ cases_of_lines m lines
lines_are m lines =
    ap (map (lift_case m)) (single_lifts-by_line lines)
    ∙ map-flat_map (lift_case m) (lifts_at lines) (numbers_from 0 (length lines))
    ∙ (λ j. flat_map (λ i. line_is m lines i j) (numbers_from 0 (length lines)))

-- ---- what a search of these finds
pub lift_cases : (prop : Prop) (votes : Votes) → is_on_lifts prop ≡ true → cases_of prop votes.alternatives votes.lines
    ≡ pair (election_of votes) (election_of votes) 1 ∷ cases_of_lines votes.alternatives votes.lines
lift_cases prop votes kind = cases_of-lifts prop votes.alternatives votes.lines kind
    ∙ ap (λ cs. pair (election_of votes) (election_of votes) 1 ∷ cs) (lines_are votes.alternatives votes.lines)

module _ (Wanted : Case → Type 0) (m : ℕ) (lines : List Entry) where
  here : (n i : ℕ) → i < n → get_or (numbers_from 0 n) i 0 ≡ i
  here n i inside = at-numbers_from 0 n i inside ∙ none i
    where
      none : (i : ℕ) → 0 + i ≡ i
      none i = omega arith

  short : (n i : ℕ) → i < n → i < length (numbers_from 0 n)
  short n i inside = let long = length-numbers_from 0 n in omega arith

  pub found_by_line : (i : ℕ) (c : Case) → i < length lines
      → All (λ c. Wanted c → ⊥) (flat_map (cases_of_line m lines) (take i (numbers_from 0 (length lines))))
      → IsFirst Wanted (cases_of_line m lines i) c → IsFirst Wanted (cases_of_lines m lines) c
  found_by_line i c inside none found =
      first_at Wanted (cases_of_line m lines) (numbers_from 0 (length lines)) i c (short (length lines) i inside) none
      (subst (λ n. IsFirst Wanted (cases_of_line m lines n) c) (sym (here (length lines) i inside)) found)

  pub none_by_line : (i : ℕ) → i < length lines
      → All (λ c. Wanted c → ⊥) (flat_map (cases_of_line m lines) (take i (numbers_from 0 (length lines))))
      → All (λ c. Wanted c → ⊥) (cases_of_line m lines i)
      → All (λ c. Wanted c → ⊥) (flat_map (cases_of_line m lines) (take (i + 1) (numbers_from 0 (length lines))))
  none_by_line i inside none found =
      none_further Wanted (cases_of_line m lines) (numbers_from 0 (length lines)) i (short (length lines) i inside) none
      (subst (λ n. All (λ c. Wanted c → ⊥) (cases_of_line m lines n)) (sym (here (length lines) i inside)) found)

  pub none_of_lines : (i : ℕ) → length lines ≤ i
      → All (λ c. Wanted c → ⊥) (flat_map (cases_of_line m lines) (take i (numbers_from 0 (length lines))))
      → All (λ c. Wanted c → ⊥) (cases_of_lines m lines)
  none_of_lines i end none =
      subst (λ list. All (λ c. Wanted c → ⊥) (flat_map (cases_of_line m lines) list)) (take_all i (numbers_from 0
      (length lines)) (let long = length-numbers_from 0 (length lines) in omega arith)) none

  abbrev case_of_place : ℕ → ℕ → List Case
  case_of_place i k = case_at m lines i k ∷ []

  pub found_by_place : (i k : ℕ) (c : Case) → k < length (order_at lines i) - 1
      → All (λ c. Wanted c → ⊥) (flat_map (λ k. case_at m lines i k ∷ []) (take k (numbers_from 0
      (length (order_at lines i) - 1))))
      → IsFirst Wanted (case_at m lines i k ∷ []) c → IsFirst Wanted (cases_of_line m lines i) c
  unfolding cases_of_line
  found_by_place i k c inside none found =
      first_at Wanted (λ k. case_at m lines i k ∷ []) (numbers_from 0 (length (order_at lines i) - 1)) k c
      (short (length (order_at lines i) - 1) k inside) none
      (subst (λ n. IsFirst Wanted (case_at m lines i n ∷ []) c) (sym (here (length
      (order_at lines i) - 1) k inside)) found)

  pub none_by_place : (i k : ℕ) → k < length (order_at lines i) - 1
      → All (λ c. Wanted c → ⊥) (flat_map (λ k. case_at m lines i k ∷ []) (take k (numbers_from 0
      (length (order_at lines i) - 1))))
      → All (λ c. Wanted c → ⊥) (case_at m lines i k ∷ [])
      → All (λ c. Wanted c → ⊥) (flat_map (λ k. case_at m lines i k ∷ []) (take (k + 1) (numbers_from 0
      (length (order_at lines i) - 1))))
  none_by_place i k inside none found =
      none_further Wanted (λ k. case_at m lines i k ∷ []) (numbers_from 0 (length (order_at lines i) - 1)) k
      (short (length (order_at lines i) - 1) k inside) none
      (subst (λ n. All (λ c. Wanted c → ⊥) (case_at m lines i n ∷ [])) (sym (here (length (order_at lines i) - 1) k
      inside)) found)

  pub none_of_places : (i k : ℕ) → length (order_at lines i) - 1 ≤ k
      → All (λ c. Wanted c → ⊥) (flat_map (λ k. case_at m lines i k ∷ []) (take k (numbers_from 0
      (length (order_at lines i) - 1))))
      → All (λ c. Wanted c → ⊥) (cases_of_line m lines i)
  unfolding cases_of_line
  none_of_places i k end none =
      subst (λ list. All (λ c. Wanted c → ⊥) (flat_map (λ k. case_at m lines i k ∷ []) list))
      (take_all k (numbers_from 0 (length (order_at lines i) - 1))
      (let long = length-numbers_from 0 (length (order_at lines i) - 1) in omega arith)) none

-- ---- a raised order, and a replaced line, in parts
pub swapped-parts : (k : ℕ) (order : List ℕ) → suc k < length order → take k order ++ (get_or order (suc k) 0
    ∷ get_or order k 0 ∷ drop (suc (suc k)) order) ≡ swapped k order
swapped-parts k [] inside = absurd (omega arith)
swapped-parts k (y ∷ []) inside = absurd (omega arith)
swapped-parts zero (y ∷ x ∷ rest) inside = refl
swapped-parts (suc k) (y ∷ x ∷ rest) inside = ap (λ zs. y ∷ zs) (swapped-parts k (x ∷ rest) (omega arith))

pub replaced-parts : (lines : List Entry) (i : ℕ) (line : Entry) (order : List ℕ) → i < length lines
    → line ≡ get_or lines i line → (take i lines ++ with_line (line.weight - 1) line.order []) ++
    (record {
      weight = 1;
      order =
          order;
    } ∷ drop (suc i) lines) ≡ replaced lines i order
replaced-parts [] i line order inside is = absurd (omega arith)
replaced-parts (first ∷ lines) zero line order inside is =
    ap (λ (e : Entry). with_line (e.weight - 1) e.order [] ++ (record { weight = 1; order = order } ∷ lines)) is
    ∙ in_front (first.weight - 1)
  where
    in_front : (w : ℕ) → with_line w first.order [] ++ (record { weight = 1; order = order } ∷ lines)
        ≡ with_line w first.order (record { weight = 1; order = order } ∷ lines)
    in_front zero = refl
    in_front (suc w) = refl
replaced-parts (first ∷ lines) (suc i) line order inside is = ap (λ es. first ∷ es) (replaced-parts lines i line order
    (omega arith) is)

pub order_is : (lines : List Entry) (i : ℕ) (line : Entry) → i < length lines → line ≡ get_or lines i line
    → line.order ≡ order_at lines i
order_is [] i line inside is = absurd (omega arith)
order_is (first ∷ lines) zero line inside is = ap (λ (e : Entry). e.order) is
order_is (first ∷ lines) (suc i) line inside is = order_is lines i line (omega arith) is

-- ---- as the code puts them together
tail_is : {A : Type 0} (n : ℕ) (xs : List A) → take (length xs - n) (drop n xs) ≡ drop n xs
tail_is n xs = take_all (length xs - n) (drop n xs) (let long = length-drop n xs in omega arith)

pub raised_items : (k : ℕ) (order : List ℕ) → k + 1 < length order
    → ((take k order ++ get_or order (k + 1) 0 ∷ []) ++ get_or order k 0 ∷ []) ++ take (length order - (k + 2))
    (drop (k + 2) order) ≡ swapped k order
raised_items k order inside =
    ap (λ rest. ((take k order ++ get_or order (k + 1) 0 ∷ []) ++ get_or order k 0 ∷ []) ++ rest) (tail_is
    (k + 2) order)
    ∙ append_assoc (take k order ++ get_or order (k + 1) 0 ∷ []) (get_or order k 0 ∷ []) (drop (k + 2) order)
    ∙ append_assoc (take k order) (get_or order (k + 1) 0 ∷ []) (get_or order k 0 ∷ drop (k + 2) order)
    ∙ ap₂ (λ i j. take k order ++ (get_or order i 0 ∷ get_or order k 0 ∷ drop j order)) (one k) (two k)
    ∙ swapped-parts k order (omega arith)
  where
    one : (k : ℕ) → k + 1 ≡ suc k
    one k = omega arith

    two : (k : ℕ) → k + 2 ≡ suc (suc k)
    two k = omega arith

pub replaced_votes : (votes new p q r s : Votes) (m : ℕ) (entries : List Entry) (i : ℕ) (line : Entry) (order : List ℕ)
    → i < length votes.lines → entries ≡ votes.lines → m ≡ votes.alternatives
    → new ≡ record { alternatives = m; lines = [] }
    → p ≡ record new { lines = new.lines ++ take i entries }
    → line ≡ get_or entries i line
    → q ≡ record p { lines = p.lines ++ with_line (line.weight - 1) line.order [] }
    → r ≡ record q { lines = q.lines ++ record { weight = 1; order = order } ∷ [] }
    → s ≡ record r { lines = r.lines ++ take (length entries - (i + 1)) (drop (i + 1) entries) }
    → s ≡ record votes { lines = replaced votes.lines i order }
replaced_votes votes new p q r s m entries i line order inside are number is_new is_p is is_q is_r is_s =
    λ j. record { alternatives = alternatives j; lines = lines j }
  where
    alternatives : s.alternatives ≡ votes.alternatives
    alternatives = ap (λ (v : Votes). v.alternatives) is_s ∙ ap (λ (v : Votes). v.alternatives) is_r
        ∙ ap (λ (v : Votes). v.alternatives) is_q ∙ ap (λ (v : Votes). v.alternatives) is_p
        ∙ ap (λ (v : Votes). v.alternatives) is_new ∙ number

    others : List Entry
    others = with_line (line.weight - 1) line.order []

    within : i < length entries
    within = subst (λ (es : List Entry). i < length es) (sym are) inside

    so_far : q.lines ≡ take i entries ++ with_line (line.weight - 1) line.order []
    so_far = ap (λ (v : Votes). v.lines) is_q ∙ ap (λ (es : List Entry). es ++ with_line
        (line.weight - 1) line.order [])
        (ap (λ (v : Votes). v.lines) is_p ∙ ap (λ (v : Votes). v.lines ++ take i entries) is_new)

    lines : s.lines ≡ replaced votes.lines i order
    lines =
        ap (λ (v : Votes). v.lines) is_s
        ∙ ap₂ (λ (es : List Entry) (rest : List Entry). es ++ rest)
        (ap (λ (v : Votes). v.lines) is_r ∙ ap (λ (es : List Entry). es ++ record { weight = 1; order = order } ∷ [])
        so_far)
        (tail_is (i + 1) entries ∙ ap (λ n. drop n entries) (one i))
        ∙ append_assoc (take i entries ++ with_line (line.weight - 1) line.order [])
        (record { weight = 1; order = order }
        ∷ []) (drop (suc i) entries)
        ∙ replaced-parts entries i line order within is
        ∙ ap (λ (es : List Entry). replaced es i order) are
      where
        one : (i : ℕ) → i + 1 ≡ suc i
        one i = omega arith

-- the case of a line and a place, as the code has it
pub placed : (votes first second : Votes) (i k : ℕ) (order raised : List ℕ) → order ≡ order_at votes.lines i
    → first ≡ record votes { lines = replaced votes.lines i order } → raised ≡ swapped k order
    → second ≡ record votes { lines = replaced votes.lines i raised }
    → pair (election_of first) (election_of second) (get_or order (k + 1) 0)
    ≡ case_at votes.alternatives votes.lines i k
placed votes first second i k order raised is is_first is_raised is_second =
    ap (λ (v : Votes). pair (election_of v) (election_of second) (get_or order (k + 1) 0))
    (is_first ∙ ap (λ o. record votes { lines = replaced votes.lines i o }) is)
    ∙ ap (λ (v : Votes). pair (election_of (record votes { lines = replaced votes.lines i (order_at votes.lines i) }))
    (election_of v) (get_or order (k + 1) 0))
    (is_second ∙ ap (λ o. record votes { lines = replaced votes.lines i o }) (is_raised ∙ ap (swapped k) is))
    ∙ ap₂ (λ (o : List ℕ) (j : ℕ). pair (election_of (record votes {
      lines = replaced votes.lines i
          (order_at votes.lines i);
    })) (election_of (record votes {
      lines = replaced votes.lines i (swapped k (order_at
          votes.lines i));
    })) (get_or o j 0)) is (one k)
  where
    one : (k : ℕ) → k + 1 ≡ suc k
    one k = omega arith

pub first_alone : (Wanted : Case → Type 0) (c d : Case) → c ≡ d → Wanted c → IsFirst Wanted (d ∷ []) c
first_alone Wanted c d same wanted = subst (λ (e : Case). IsFirst Wanted (e ∷ []) c) same
    (record { before = []; after = []; place = refl; earlier = All-nil (λ c. Wanted c → ⊥); wanted = wanted })

pub none_alone : (Wanted : Case → Type 0) (c d : Case) → c ≡ d → (Wanted c → ⊥) → All (λ c. Wanted c → ⊥) (d ∷ [])
none_alone Wanted c d same unwanted = All-cons (λ c. Wanted c → ⊥) d [] (subst (λ (e : Case). Wanted e
    → ⊥) same unwanted)
    (All-nil (λ c. Wanted c → ⊥))

-- the unchanged profile, and then the lines
pub first_unchanged : (Wanted : Case → Type 0) (prop : Prop) (votes : Votes) (c : Case) → is_on_lifts prop ≡ true
    → IsFirst Wanted (pair (election_of votes) (election_of votes) 1 ∷ []) c
    → IsFirst Wanted (cases_of prop votes.alternatives votes.lines) c
first_unchanged Wanted prop votes c kind first = first_later Wanted [] (pair (election_of votes)
    (election_of votes) 1 ∷ [])
    (cases_of_lines votes.alternatives votes.lines) (cases_of prop votes.alternatives votes.lines) c
    (lift_cases prop votes
    kind) (All-nil (λ c. Wanted c → ⊥)) first

pub then_lines : {E : Type 0} (Wanted : Case → Type 0) (prop : Prop) (votes : Votes) (result : Result
    (Option FoundCase) E)
    → is_on_lifts prop ≡ true
    → All (λ c. Wanted c → ⊥) (pair (election_of votes) (election_of votes) 1 ∷ [])
    → IfOk result (λ found. IsOutcome Wanted (cases_of_lines votes.alternatives votes.lines)
    (option_map found_case found))
    → IfOk result (λ found. IsOutcome Wanted (cases_of prop votes.alternatives votes.lines)
    (option_map found_case found))
then_lines Wanted prop votes (Ok (Some found)) kind none first = first_later Wanted
    (pair (election_of votes) (election_of votes) 1 ∷ []) (cases_of_lines votes.alternatives votes.lines) []
    (cases_of prop votes.alternatives votes.lines) (found_case found) (lift_cases prop votes kind
    ∙ ap (λ cs. pair (election_of votes) (election_of votes) 1 ∷ cs)
    (sym (append-nil (cases_of_lines votes.alternatives votes.lines)))) none first
then_lines Wanted prop votes (Ok None) kind none others = subst (All (λ c. Wanted c
    → ⊥)) (sym (lift_cases prop votes kind))
    (All-append (λ c. Wanted c → ⊥) (pair (election_of votes) (election_of votes) 1 ∷ [])
    (cases_of_lines votes.alternatives votes.lines) none others)
then_lines Wanted prop votes (Err e) kind none first = first
