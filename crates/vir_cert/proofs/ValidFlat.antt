-- A valid derivation is nested at most three levels deep for each level of its term.
use Rattle.std.proofs.Common.{◌≡◌, ℕ, zero, suc, ◌+◌, ◌-◌, ◌*◌, ◌<◌, ◌≤◌, Bool, true, false, ◌&&◌, ◌||◌, nat_eq, nat_lt}
use Rattle.std.proofs.Common.{List, [], ◌∷◌, map, slice_index_or, Option, Some, None, option_map, if◌then◌else◌}
use Rattle.std.proofs.Common.{refl, sym, ◌∙◌, ap, subst, arith}
use Rattle.std.specs.Prelude.{⊤}
use Rattle.std.specs.List.{list_all}
use Rattle.std.specs.Option.{option_and_then}
use Rattle.std.proofs.lemmas.Bool.Decides.{nat_tests}
use Rattle.vir_term.specs.declared.leaf.Leaf.{Leaf}
use Rattle.vir_term.specs.declared.prop.Prop.{Prop}
use Rattle.vir_term.specs.declared.prop.Prop.TheVariants.{Ne, Ea, El, Defers, Rejects, Elim, Nb, Decr, Dli, Imono}
use Rattle.vir_term.specs.declared.prop.Prop.TheVariants.{Dimono, Dmono, Mono, Cc, Dcc, Cprog, Ccomp, Neut}
use Rattle.vir_term.specs.Limits.{IsWithinLimits}
use Rattle.vir_term.specs.Tree.{Tree, leaf, rev, seq, par, loop, nesting}
use Rattle.vir_read.proofs.RoundTripTokens.{both}
use Rattle.vir_rules.specs.declared.row.Wanted.{Wanted}
use Rattle.vir_rules.specs.declared.row.Wanted.TheVariants.{Is, DefersK, RejectsK}
use Rattle.vir_rules.specs.declared.row.Shape.{Shape}
use Rattle.vir_rules.specs.declared.row.Shape.TheVariants as shape'
use Rattle.vir_rules.specs.declared.row.Pairing.{Pairing}
use Rattle.vir_rules.specs.declared.row.Pairing.TheVariants.{PassDrop, DropPass, SeqLeft, SeqRight, RevLeft, RevRight}
use Rattle.vir_rules.specs.declared.row.Conclusion.{Conclusion}
use Rattle.vir_rules.specs.declared.row.Conclusion.TheVariants.{Has, Apart}
use Rattle.vir_rules.specs.declared.row.Part.{Part}
use Rattle.vir_rules.specs.declared.row.Part.TheVariants.{M, N, T, U}
use Rattle.vir_rules.specs.declared.row.Need.{Need}
use Rattle.vir_rules.specs.declared.row.Need.TheVariants as need
use Rattle.vir_rules.specs.Claims.{Claim, of, disj}
use Rattle.vir_rules.specs.Derivations.{Valid, AllValid}
use Rattle.vir_rules.specs.Forms.{form_of, first_part, second_part, is_shaped}
use Rattle.vir_rules.specs.Forms as form'
use Rattle.vir_rules.specs.Premises.{Letters, number_in, letters_of, letters_of_pair, paired, letters_in, prop_for}
use Rattle.vir_rules.specs.Premises.{part_of, filled}
use Rattle.vir_rules.specs.Premises.{blank, row_of, premises, premises_by, is_rule}
use Rattle.vir_rules.specs.Props.{is_same, rank, number_of}
use Rattle.vir_rules.specs.RuleTrees.{RuleTree, RuleTrees, node, none, more, nesting_of_all}
use Rattle.vir_rules.specs.RuleTrees as rules
use Rattle.vir_rules.specs.Table.{Rule, table}
use Rattle.vir_rules.specs.Named.{IsPropInRange}
use Rattle.vir_rules.proofs.ValidRules.{valid_rules}
use Rattle.vir_cert.specs.Certs.{Cert}
use Rattle.vir_cert.specs.Texts.{IsCert, IsValid}

-- ---- how the rows of the table descend

-- for each property, by its place in their order from 1, how many rules on the same term may stand below its own
abbrev heights : List ℕ
heights =
    0 ∷ 0 ∷ 0 ∷ 1 ∷ 0 ∷ 0 ∷ 0 ∷ 2 ∷ 1 ∷ 0 ∷ 0 ∷ 1 ∷ 2 ∷ 1 ∷ 0 ∷ 0 ∷ 1 ∷ 2 ∷ 0 ∷ []

-- that number of a property
abbrev pub height : Prop → ℕ
height p = slice_index_or heights (rank p) 0

-- that number of a property as a row writes it
abbrev height_of : Wanted → ℕ
height_of (Is p) = height p
height_of DefersK = 0
height_of RejectsK = 0

-- whether a shape is one of compositions alone
abbrev is_composed : Shape → Bool
is_composed shape'.Any = false
is_composed (shape'.ModuleOf family) = false
is_composed shape'.PassK = false
is_composed shape'.DropK = false
is_composed _ = true

-- whether a letter stands for a part of a composition
abbrev is_inner : Part → Bool
is_inner M = true
is_inner N = true
is_inner T = false
is_inner U = false

-- whether it stands for the first part
abbrev is_first : Part → Bool
is_first M = true
is_first N = false
is_first T = false
is_first U = false

-- whether it stands, in a pairing, for the other term
abbrev is_other : Part → Bool
is_other U = true
is_other _ = false

-- A premise is on parts, or asks for a property of less height.
abbrev descends : Wanted → Shape → Need → Bool
descends wanted shape (need.Of asked part) =
    (is_composed shape && is_inner part) || nat_lt (height_of asked) (height_of wanted)
descends wanted shape (need.Disj left right) = is_composed shape && (is_inner left && is_inner right)

-- A premise of a pairing has a part in the place of the term that is composed.
abbrev pair_descends : Pairing → Need → Bool
pair_descends PassDrop asked = false
pair_descends DropPass asked = false
pair_descends SeqLeft (need.Disj left right) = is_first left && is_other right
pair_descends RevLeft (need.Disj left right) = is_first left && is_other right
pair_descends SeqRight (need.Disj left right) = is_other left && is_first right
pair_descends RevRight (need.Disj left right) = is_other left && is_first right
pair_descends _ (need.Of asked part) = false

-- each premise of a conclusion is such
abbrev all_descend : Conclusion → List Need → Bool
all_descend (Has wanted shape) needs = list_all (descends wanted shape) needs
all_descend (Apart pairing) needs = list_all (pair_descends pairing) needs

-- a rule of which that is so
abbrev row_descends : Rule → Bool
row_descends row = all_descend row.conclusion row.premises

descends_at : (rows : List Rule) (place : ℕ) → list_all row_descends rows ≡ true →
    row_descends (slice_index_or rows place blank) ≡ true
descends_at [] place all = refl
descends_at (row ∷ rest) zero all = (both (row_descends row) (list_all row_descends rest) all).0
descends_at (row ∷ rest) (suc place) all =
    descends_at rest place (both (row_descends row) (list_all row_descends rest) all).1

rows_descend : (rule : ℕ) → row_descends (row_of rule) ≡ true
unfolding row_of table
rows_descend rule = descends_at (blank ∷ table) rule refl

-- ---- heights and nesting

height_small : (p : Prop) → height p ≤ 2
height_small Ne = omega arith
height_small Ea = omega arith
height_small El = omega arith
height_small (Defers j) = omega arith
height_small (Rejects j) = omega arith
height_small (Elim j) = omega arith
height_small Nb = omega arith
height_small Decr = omega arith
height_small Dli = omega arith
height_small Imono = omega arith
height_small Dimono = omega arith
height_small Dmono = omega arith
height_small Mono = omega arith
height_small Cc = omega arith
height_small Dcc = omega arith
height_small Cprog = omega arith
height_small Ccomp = omega arith
height_small Neut = omega arith

asked_height : (asked : Wanted) (k : ℕ) → height (prop_for asked k) ≡ height_of asked
asked_height (Is p) k = refl
asked_height DefersK k = refl
asked_height RejectsK k = refl

if_true : {A : Type 0} (b : Bool) (x : Option A) (y : A) → (if b then x else None) ≡ Some y → b ≡ true
if_true true x y h = refl
if_true false x y h = cc

equal : (n m : ℕ) → nat_eq n m ≡ true → n ≡ m
equal n m h = grind (arith, nat_tests)

less_than : (n m : ℕ) → nat_lt n m ≡ true → n < m
less_than n m h = grind (arith, nat_tests)

same_height : (wanted : Wanted) (p : Prop) (k : ℕ) → number_in wanted p ≡ Some k → height p ≡ height_of wanted
same_height (Is w) p k h =
    let same = if_true (is_same w p) (Some (number_of w)) k h in
    let ranks = equal (rank w) (rank p) (both (nat_eq (rank w) (rank p)) (nat_eq (number_of w) (number_of p)) same).0 in
    ap (λ place. slice_index_or heights place 0) (sym ranks)
same_height DefersK (Defers j) k h = refl
same_height DefersK _ k h = cc
same_height RejectsK (Rejects j) k h = refl
same_height RejectsK _ k h = cc

module_shape : (shape : Shape) (k : ℕ) (l : Leaf) → is_composed shape ≡ true → is_shaped shape k (form'.leaf l) ≡ true
    → ⊥
module_shape shape'.Any k l c h = cc
module_shape _ k l c h = cc

-- what a letter stands for is nested no deeper than the term, and less deep if the term is composed
part_within : (part : Part) (t : Tree) (k : ℕ) → nesting (part_of part (letters_of t k)) ≤ nesting t
part_within T t k = omega arith
part_within U t k = omega arith
part_within M (leaf l) k = omega arith
part_within M (rev part) k = omega arith
part_within M (seq first second) k = omega arith
part_within M (par first second) k = omega arith
part_within M (loop end body) k = omega arith
part_within N (leaf l) k = omega arith
part_within N (rev part) k = omega arith
part_within N (seq first second) k = omega arith
part_within N (par first second) k = omega arith
part_within N (loop end body) k = omega arith

part_below : (shape : Shape) (j : ℕ) (part : Part) (t : Tree) (k : ℕ) → is_composed shape ≡ true →
    is_shaped shape j (form_of t) ≡ true → is_inner part ≡ true → nesting (part_of part (letters_of t k)) < nesting t
part_below shape j T t k c s i = cc
part_below shape j U t k c s i = cc
part_below shape j M (leaf l) k c s i = absurd (module_shape shape j l c s)
part_below shape j M (rev part) k c s i = omega arith
part_below shape j M (seq first second) k c s i = omega arith
part_below shape j M (par first second) k c s i = omega arith
part_below shape j M (loop end body) k c s i = omega arith
part_below shape j N (leaf l) k c s i = absurd (module_shape shape j l c s)
part_below shape j N (rev part) k c s i = omega arith
part_below shape j N (seq first second) k c s i = omega arith
part_below shape j N (par first second) k c s i = omega arith
part_below shape j N (loop end body) k c s i = omega arith

some_levels : (t : Tree) → 1 ≤ nesting t
some_levels (leaf l) = omega arith
some_levels (rev part) = omega arith
some_levels (seq first second) = omega arith
some_levels (par first second) = omega arith
some_levels (loop end body) = omega arith

-- ---- how deep a derivation of a claim may be

-- at most three levels for each level of a term, and for two terms their levels together
abbrev pub IsFlat : ℕ → Claim → Type 0
IsFlat depth (of p t) = depth + 2 ≤ 3 * nesting t + height p
IsFlat depth (disj left right) = depth + 1 ≤ nesting left + nesting right

-- what is so flat for these claims has at most so many levels
abbrev Below : ℕ → Claim → Type 0
Below n c = (depth : ℕ) → IsFlat depth c → depth ≤ n

-- the same for each of these claims
abbrev AllBelow : ℕ → List Claim → Type 0
AllBelow n [] = ⊤
AllBelow n (c ∷ rest) = Below n c × AllBelow n rest

module _ (p : Prop) (t : Tree) (wanted : Wanted) (shape : Shape) (k : ℕ) (same : height p ≡ height_of wanted)
    (shaped : is_shaped shape k (form_of t) ≡ true) where
  of_inner : (asked : Wanted) (part : Part) → is_composed shape ≡ true → is_inner part ≡ true →
      Below (3 * nesting t + height p - 3) (filled (letters_of t k) (need.Of asked part))
  of_inner asked part c i depth flat =
      let below = part_below shape k part t k c shaped i in
      let small = height_small (prop_for asked k) in
      omega arith

  of_lower : (asked : Wanted) (part : Part) → nat_lt (height_of asked) (height_of wanted) ≡ true →
      Below (3 * nesting t + height p - 3) (filled (letters_of t k) (need.Of asked part))
  of_lower asked part lower depth flat =
      let less : height_of asked < height_of wanted = less_than (height_of asked) (height_of wanted) lower in
      let within = part_within part t k in
      let asks = asked_height asked k in
      omega arith

  of_either : (asked : Wanted) (part : Part) (b : Bool) → (is_composed shape && is_inner part) ≡ b →
      (b || nat_lt (height_of asked) (height_of wanted)) ≡ true →
      Below (3 * nesting t + height p - 3) (filled (letters_of t k) (need.Of asked part))
  of_either asked part true e h = let k = both (is_composed shape) (is_inner part) e in of_inner asked part k.0 k.1
  of_either asked part false e h = of_lower asked part h

  need_below : (asked : Need) → descends wanted shape asked ≡ true →
      Below (3 * nesting t + height p - 3) (filled (letters_of t k) asked)
  need_below (need.Of asked part) h = of_either asked part (is_composed shape && is_inner part) refl h
  need_below (need.Disj left right) h = λ depth flat.
      let c = both (is_composed shape) (is_inner left && is_inner right) h in
      let i = both (is_inner left) (is_inner right) c.1 in
      let a = part_below shape k left t k c.0 shaped i.0 in
      let b = part_below shape k right t k c.0 shaped i.1 in
      omega arith

  needs_below : (needs : List Need) → list_all (descends wanted shape) needs ≡ true →
      AllBelow (3 * nesting t + height p - 3) (map (filled (letters_of t k)) needs)
  needs_below [] h = tt
  needs_below (first ∷ rest) h =
      let b = both (descends wanted shape first) (list_all (descends wanted shape) rest) h in
      (need_below first b.0, needs_below rest b.1)

-- ---- premises of a property

module _ (p : Prop) (t : Tree) (needs : List Need) (needed : List Claim) where
  -- the premises that letters give
  abbrev given : Option Letters → Option (List Claim)
  given letters = option_map (λ letters. map (filled letters) needs) letters

  of_shape : (wanted : Wanted) (shape : Shape) (k : ℕ) → height p ≡ height_of wanted → list_all (descends wanted shape)
      needs ≡ true →
      (b : Bool) → is_shaped shape k (form_of t) ≡ b →
      given (option_map (letters_of t) (if b then Some k else None)) ≡ Some needed
      → AllBelow (3 * nesting t + height p - 3) needed
  of_shape wanted shape k same all true shaped h =
      let e : map (filled (letters_of t k)) needs ≡ needed = cc in
      subst (AllBelow (3 * nesting t + height p - 3)) e (needs_below p t wanted shape k same shaped needs all)
  of_shape wanted shape k same all false shaped h = cc

  of_number : (wanted : Wanted) (shape : Shape) → list_all (descends wanted shape) needs ≡ true →
      (found : Option ℕ) → number_in wanted p ≡ found →
      given (option_map (letters_of t) (option_and_then (λ k. if is_shaped shape k (form_of t) then Some k else None)
      found)) ≡ Some needed →
      AllBelow (3 * nesting t + height p - 3) needed
  of_number wanted shape all None e h = cc
  of_number wanted shape all (Some k) e h =
      of_shape wanted shape k (same_height wanted p k e) all (is_shaped shape k (form_of t)) refl h

  of_conclusion : (conclusion : Conclusion) → all_descend conclusion needs ≡ true →
      given (letters_in conclusion (of p t)) ≡ Some needed → AllBelow (3 * nesting t + height p - 3) needed
  of_conclusion (Has wanted shape) all h = of_number wanted shape all (number_in wanted p) refl h
  of_conclusion (Apart pairing) all h = cc

-- ---- premises of a pairing

is_first_part : (part : Part) (letters : Letters) → is_first part ≡ true → part_of part letters ≡ letters.m
is_first_part M letters h = refl
is_first_part N letters h = cc
is_first_part T letters h = cc
is_first_part U letters h = cc

is_other_term : (part : Part) (letters : Letters) → is_other part ≡ true → part_of part letters ≡ letters.u
is_other_term U letters h = refl
is_other_term _ letters h = cc

-- the letters of a pairing: the first part of the term that is composed, and the other term
abbrev Fits : Pairing → Tree → Tree → Letters → Type 0
Fits PassDrop left right letters = ⊤
Fits DropPass left right letters = ⊤
Fits SeqLeft left right letters = (nesting letters.m < nesting left) × (letters.u ≡ right)
Fits RevLeft left right letters = (nesting letters.m < nesting left) × (letters.u ≡ right)
Fits SeqRight left right letters = (nesting letters.m < nesting right) × (letters.u ≡ left)
Fits RevRight left right letters = (nesting letters.m < nesting right) × (letters.u ≡ left)

pair_fits : (pairing : Pairing) (left right : Tree) (letters : Letters) → paired pairing left right ≡ Some letters
    → Fits pairing left right letters
pair_fits PassDrop left right letters h = tt
pair_fits DropPass left right letters h = tt
pair_fits SeqLeft (seq first second) other letters h =
    let same : letters_of_pair first other ≡ letters = cc in
    let here : Fits SeqLeft (seq first second) other (letters_of_pair first other) = (omega arith, refl) in
    subst (Fits SeqLeft (seq first second) other) same here
pair_fits SeqLeft _ other letters h = cc
pair_fits RevLeft (rev part) other letters h =
    let same : letters_of_pair part other ≡ letters = cc in
    let here : Fits RevLeft (rev part) other (letters_of_pair part other) = (omega arith, refl) in
    subst (Fits RevLeft (rev part) other) same here
pair_fits RevLeft _ other letters h = cc
pair_fits SeqRight other (seq first second) letters h =
    let same : letters_of_pair first other ≡ letters = cc in
    let here : Fits SeqRight other (seq first second) (letters_of_pair first other) = (omega arith, refl) in
    subst (Fits SeqRight other (seq first second)) same here
pair_fits SeqRight other _ letters h = cc
pair_fits RevRight other (rev part) letters h =
    let same : letters_of_pair part other ≡ letters = cc in
    let here : Fits RevRight other (rev part) (letters_of_pair part other) = (omega arith, refl) in
    subst (Fits RevRight other (rev part)) same here
pair_fits RevRight other _ letters h = cc

left_below : (left right : Tree) (letters : Letters) (a b : Part) → nesting letters.m < nesting left → letters.u ≡ right
    →
    (is_first a && is_other b) ≡ true → Below (nesting left + nesting right - 2) (filled letters (need.Disj a b))
left_below left right letters a b less same h depth flat =
    let k = both (is_first a) (is_other b) h in
    let e : nesting (part_of a letters) ≡ nesting letters.m = ap nesting (is_first_part a letters k.0) in
    let f : nesting (part_of b letters) ≡ nesting right = ap nesting (is_other_term b letters k.1 ∙ same) in
    omega arith

right_below : (left right : Tree) (letters : Letters) (a b : Part) → nesting letters.m < nesting right → letters.u
    ≡ left →
    (is_other a && is_first b) ≡ true → Below (nesting left + nesting right - 2) (filled letters (need.Disj a b))
right_below left right letters a b less same h depth flat =
    let k = both (is_other a) (is_first b) h in
    let e : nesting (part_of b letters) ≡ nesting letters.m = ap nesting (is_first_part b letters k.1) in
    let f : nesting (part_of a letters) ≡ nesting left = ap nesting (is_other_term a letters k.0 ∙ same) in
    omega arith

-- letters that fit, and a premise that descends
pair_below : (pairing : Pairing) (left right : Tree) (letters : Letters) (asked : Need) → Fits pairing left right
    letters →
    pair_descends pairing asked ≡ true → Below (nesting left + nesting right - 2) (filled letters asked)
pair_below PassDrop left right letters asked fits h = cc
pair_below DropPass left right letters asked fits h = cc
pair_below SeqLeft left right letters (need.Of asked part) fits h = cc
pair_below RevLeft left right letters (need.Of asked part) fits h = cc
pair_below SeqRight left right letters (need.Of asked part) fits h = cc
pair_below RevRight left right letters (need.Of asked part) fits h = cc
pair_below SeqLeft left right letters (need.Disj a b) fits h = left_below left right letters a b fits.0 fits.1 h
pair_below RevLeft left right letters (need.Disj a b) fits h = left_below left right letters a b fits.0 fits.1 h
pair_below SeqRight left right letters (need.Disj a b) fits h = right_below left right letters a b fits.0 fits.1 h
pair_below RevRight left right letters (need.Disj a b) fits h = right_below left right letters a b fits.0 fits.1 h

module _ (left right : Tree) (letters : Letters) (pairing : Pairing) (fits : Fits pairing left right letters) where
  pairs_below : (needs : List Need) → list_all (pair_descends pairing) needs ≡ true →
      AllBelow (nesting left + nesting right - 2) (map (filled letters) needs)
  pairs_below [] h = tt
  pairs_below (first ∷ rest) h =
      let b = both (pair_descends pairing first) (list_all (pair_descends pairing) rest) h in
      (pair_below pairing left right letters first fits b.0, pairs_below rest b.1)

module _ (left right : Tree) (needs : List Need) (needed : List Claim) where
  of_letters : (pairing : Pairing) → list_all (pair_descends pairing) needs ≡ true → (found : Option Letters) →
      paired pairing left right ≡ found → option_map (λ letters. map (filled letters) needs) found ≡ Some needed →
      AllBelow (nesting left + nesting right - 2) needed
  of_letters pairing all None e h = cc
  of_letters pairing all (Some letters) e h =
      let same : map (filled letters) needs ≡ needed = cc in
      subst (AllBelow (nesting left + nesting right - 2)) same
      (pairs_below left right letters pairing (pair_fits pairing left right letters e) needs all)

  of_pair : (conclusion : Conclusion) → all_descend conclusion needs ≡ true →
      option_map (λ letters. map (filled letters) needs) (letters_in conclusion (disj left right)) ≡ Some needed →
      AllBelow (nesting left + nesting right - 2) needed
  of_pair (Has wanted shape) all h = cc
  of_pair (Apart pairing) all h = of_letters pairing all (paired pairing left right) refl h

-- ---- derivations

then_some : {A : Type 0} (b : Bool) (found : Option A) (x : A) → (if b then found else None) ≡ Some x → found ≡ Some x
then_some true found x h = h
then_some false found x h = cc

row_premises : (rule : ℕ) (c : Claim) (needed : List Claim) → premises rule c ≡ Some needed →
    premises_by (row_of rule) c ≡ Some needed
unfolding premises
row_premises rule c needed h = then_some (is_rule rule) (premises_by (row_of rule) c) needed h

of_below : (rule : ℕ) (p : Prop) (t : Tree) (needed : List Claim) → premises rule (of p t) ≡ Some needed →
    AllBelow (3 * nesting t + height p - 3) needed
of_below rule p t needed h =
    of_conclusion p t (row_of rule).premises needed (row_of rule).conclusion (rows_descend rule)
    (row_premises rule (of p t) needed h)

disj_below : (rule : ℕ) (left right : Tree) (needed : List Claim) → premises rule (disj left right) ≡ Some needed →
    AllBelow (nesting left + nesting right - 2) needed
disj_below rule left right needed h =
    of_pair left right (row_of rule).premises needed (row_of rule).conclusion (rows_descend rule)
    (row_premises rule (disj left right) needed h)

mutual
  flat_for : (d : RuleTree) (c : Claim) → Valid d c → IsFlat (rules.nesting d) c
  flat_for (node rule children) (of p t) valid =
      let below = of_below rule p t valid.0 valid.1 in
      let few = all_flat_for children valid.0 (3 * nesting t + height p - 3) valid.2 below in
      let some = some_levels t in
      omega arith
  flat_for (node rule children) (disj left right) valid =
      let below = disj_below rule left right valid.0 valid.1 in
      let few = all_flat_for children valid.0 (nesting left + nesting right - 2) valid.2 below in
      let some = some_levels left in
      let other = some_levels right in
      omega arith

  all_flat_for : (ds : RuleTrees) (cs : List Claim) (n : ℕ) → AllValid ds cs → AllBelow n cs → nesting_of_all ds ≤ n
  all_flat_for none cs n valid below = omega arith
  all_flat_for (more first rest) [] n valid below = absurd valid
  all_flat_for (more first rest) (c ∷ cs) n valid below =
      let a = below.0 (rules.nesting first) (flat_for first c valid.0) in
      let b = all_flat_for rest cs n valid.1 below.1 in
      omega arith

pub valid_is_flat : (d : RuleTree) (p : Prop) (t : Tree) → Valid d (of p t) → nesting t ≤ 64 → rules.nesting d ≤ 192
valid_is_flat d p t valid within =
    let flat = flat_for d (of p t) valid in
    let small = height_small p in
    omega arith

pub valid_is_cert : (c : Cert) → IsWithinLimits c.term → IsPropInRange c.prop → IsValid c → IsCert c
valid_is_cert c term prop valid =
    let levels = valid_is_flat c.derivation c.prop c.term valid (omega (arith, term.flat)) in
    record { term = term; prop = prop; rules = valid_rules c.derivation (of c.prop c.term) valid; flat = omega arith }
