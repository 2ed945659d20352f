-- The premises of a rule are smaller than what it concludes: on a smaller term, or on the same term and of a property
-- before.
use Rattle.std.proofs.Common.{◌≡◌, ℕ, zero, suc, ◌+◌, ◌*◌, ◌<◌, ◌≤◌, nat_eq, nat_lt, Bool, true, false, ◌&&◌}
use Rattle.std.proofs.Common.{if◌then◌else◌, List, [], ◌∷◌, map, Some, None, slice_get, refl, sym, ◌∙◌, ap, subst}
use Rattle.std.proofs.Common.{arith}
use Rattle.std.specs.List.{list_all}
use Rattle.std.proofs.lemmas.Bool.{and_parts, ltb-true, eqb-true}
use Rattle.vir_term.specs.declared.prop.Prop.{Prop}
use Rattle.vir_term.specs.declared.prop.Prop.TheVariants.{Ne, Ea, El, Defers, Rejects, Elim, Nb, Decr, Dli, Imono}
use Rattle.vir_term.specs.declared.prop.Prop.TheVariants.{Dimono, Dmono, Mono, Cc, Dcc, Cprog, Ccomp, Neut}
use Rattle.vir_term.specs.Tree.{Tree, size}
use Rattle.vir_term.specs.Tree as tree
use Rattle.vir_rules.specs.declared.row.Conclusion.{Conclusion}
use Rattle.vir_rules.specs.declared.row.Conclusion.TheVariants.{Has, Apart}
use Rattle.vir_rules.specs.declared.row.Need.{Need}
use Rattle.vir_rules.specs.declared.row.Need.TheVariants.{Of, Disj}
use Rattle.vir_rules.specs.declared.row.Part.TheVariants.{M, N, T, U}
use Rattle.vir_rules.specs.declared.row.Shape.{Shape}
use Rattle.vir_rules.specs.declared.row.Shape.TheVariants as shape
use Rattle.vir_rules.specs.declared.row.Wanted.{Wanted}
use Rattle.vir_rules.specs.declared.row.Wanted.TheVariants.{Is, DefersK, RejectsK}
use Rattle.vir_rules.specs.Claims.{Claim, of, disj}
use Rattle.vir_rules.specs.Forms.{Form, leaf, rev, seq, par, loop, form_of, first_part, second_part, is_shaped}
use Rattle.vir_rules.specs.Premises.{Letters, letters_of, number_in, number_for, prop_for, filled, row_of, premises}
use Rattle.vir_rules.specs.Props.{rank, number_of}
use Rattle.vir_rules.specs.Table.{Rule, table}
use Rattle.vir_rules.specs.declared.rule_id.TheConstants.RuleId.{COUNT}
use Rattle.vir_derive.specs.DerivableProps.{is_composed, IsTold}
use Rattle.vir_derive.proofs.Disjointness.{AskOfTerms, asked_of_terms}
use Rattle.vir_derive.proofs.Rows.{no_true, is_in_table, premises_of_rule, row_passes, IsFitting, fitting, shaped}

-- the shapes of composed forms, and of those with two parts
composed_shape : Shape → Bool
composed_shape shape.Rev = true
composed_shape shape.Seq = true
composed_shape shape.Par = true
composed_shape shape.Loop = true
composed_shape shape.LoopK = true
composed_shape shape.LoopOne = true
composed_shape shape.Until = true
composed_shape shape.UntilK = true
composed_shape shape.UntilOne = true
composed_shape _ = false

forked_shape : Shape → Bool
forked_shape shape.Seq = true
forked_shape shape.Par = true
forked_shape _ = false

is_forked : Form → Bool
is_forked seq = true
is_forked par = true
is_forked _ = false

composed_if_shaped : (s : Shape) (k : ℕ) (form : Form) → is_shaped s k form ≡ true → composed_shape s ≡ true
    → is_composed form ≡ true
unfolding composed_shape
composed_if_shaped shape.Rev k rev h c = refl
composed_if_shaped shape.Seq k seq h c = refl
composed_if_shaped shape.Par k par h c = refl
composed_if_shaped shape.Loop k (loop j) h c = refl
composed_if_shaped shape.LoopK k (loop j) h c = refl
composed_if_shaped shape.LoopOne k (loop j) h c = refl
composed_if_shaped shape.Until k (loop j) h c = refl
composed_if_shaped shape.UntilK k (loop j) h c = refl
composed_if_shaped shape.UntilOne k (loop j) h c = refl
composed_if_shaped _ k _ h c = cc

forked_if_shaped : (s : Shape) (k : ℕ) (form : Form) → is_shaped s k form ≡ true → forked_shape s ≡ true
    → is_forked form ≡ true
unfolding forked_shape is_forked
forked_if_shaped shape.Seq k seq h c = refl
forked_if_shaped shape.Par k par h c = refl
forked_if_shaped _ k _ h c = cc

-- the rank of the property that a premise on the whole term asks for; 0 for another premise
abbrev pub need_rank : Need → ℕ
need_rank (Of wanted T) = rank (prop_for wanted 0)
need_rank _ = 0

-- whether a premise is smaller than its row's conclusion on a term
falls : Conclusion → Need → Bool
falls (Has wanted s) (Of other T) = nat_lt (rank (prop_for other 0)) (rank (prop_for wanted 0))
falls (Has wanted s) (Of other U) = false
falls (Has wanted s) (Of other _) = composed_shape s
falls (Has wanted s) (Disj M N) = forked_shape s
falls (Has wanted s) (Disj _ _) = false
falls (Apart pairing) need = true

row_falls : Rule → Bool
row_falls row = list_all (falls row.conclusion) row.premises

table_falls : list_all row_falls table ≡ true
unfolding table row_falls falls composed_shape forked_shape
table_falls = refl

-- what a list passes, each of its elements does
pub nth_passes : {A : Type 0} (test : A → Bool) (xs : List A) (i : ℕ) (x : A) → slice_get xs i ≡ Some x
    → list_all test xs ≡ true → test x ≡ true
nth_passes test [] i x e h = cc
nth_passes test (y ∷ ys) zero x e h = let s : y ≡ x = cc in subst (λ z. test z ≡ true) s
    (and_parts (test y) (list_all test ys) h).0
nth_passes test (y ∷ ys) (suc i) x e h = nth_passes test ys i x e (and_parts (test y) (list_all test ys) h).1

need_falls : (rule : ℕ) (i : ℕ) (need : Need) → 1 ≤ rule → rule ≤ COUNT → slice_get (row_of rule).premises i ≡ Some need
    → falls (row_of rule).conclusion need ≡ true
unfolding row_falls
need_falls rule i need l k e = nth_passes (falls (row_of rule).conclusion) (row_of rule).premises i need e
    (row_passes row_falls rule l k table_falls)

pub rank_for : (wanted : Wanted) (k : ℕ) → rank (prop_for wanted k) ≡ rank (prop_for wanted 0)
rank_for (Is q) k = refl
rank_for DefersK k = refl
rank_for RejectsK k = refl

pub rank_within : (q : Prop) → (1 ≤ rank q) × (rank q ≤ 18)
rank_within q = elim q as (λ x. (1 ≤ rank x) × (rank x ≤ 18)) [
  | Ne ↦ (omega arith, omega arith)
  | Ea ↦ (omega arith, omega arith)
  | El ↦ (omega arith, omega arith)
  | Defers k ↦ (omega arith, omega arith)
  | Rejects k ↦ (omega arith, omega arith)
  | Elim k ↦ (omega arith, omega arith)
  | Nb ↦ (omega arith, omega arith)
  | Decr ↦ (omega arith, omega arith)
  | Dli ↦ (omega arith, omega arith)
  | Imono ↦ (omega arith, omega arith)
  | Dimono ↦ (omega arith, omega arith)
  | Dmono ↦ (omega arith, omega arith)
  | Mono ↦ (omega arith, omega arith)
  | Cc ↦ (omega arith, omega arith)
  | Dcc ↦ (omega arith, omega arith)
  | Cprog ↦ (omega arith, omega arith)
  | Ccomp ↦ (omega arith, omega arith)
  | Neut ↦ (omega arith, omega arith)
]

same_rank : (p q : Prop) (b c : Bool) (k : ℕ) → nat_eq (rank p) (rank q) ≡ b → (if b && c then Some (number_of p)
    else None) ≡ Some k → rank q ≡ rank p
same_rank p q true c k e h = sym (eqb-true (rank p) (rank q) e)
same_rank p q false c k e h = cc

-- a property that is the wanted one has its rank
pub rank_of_wanted : (wanted : Wanted) (q : Prop) (k : ℕ) → number_in wanted q ≡ Some k → rank q
    ≡ rank (prop_for wanted 0)
rank_of_wanted (Is p) q k h = same_rank p q (nat_eq (rank p) (rank q)) (nat_eq (number_of p) (number_of q)) k refl h
rank_of_wanted DefersK (Defers j) k h = refl
rank_of_wanted RejectsK (Rejects j) k h = refl
rank_of_wanted DefersK _ k h = cc
rank_of_wanted RejectsK _ k h = cc

-- A premise of a row that fits is told of the form, is before the property, and asks for disjointness only of two
-- parts.
pub record IsBelow (form : Form) (q : Prop) (need : Need) : Type 0 where
  pub told : IsTold form need
  pub before : need_rank need < rank q

abbrev IsOfTwo : Form → Need → Type 0
IsOfTwo form (Of wanted part) = Unit {0}
IsOfTwo form (Disj left right) = is_forked form ≡ true

composed_if_forked : (form : Form) → is_forked form ≡ true → is_composed form ≡ true
unfolding is_forked
composed_if_forked (leaf l) h = cc
composed_if_forked _ h = refl

below_by : (wanted : Wanted) (s : Shape) (q : Prop) (form : Form) (k : ℕ) (need : Need) → number_in wanted q ≡ Some k
    → is_shaped s k form ≡ true → falls (Has wanted s) need ≡ true →
    IsBelow form q need × IsOfTwo form need
unfolding falls
below_by wanted s q form k (Of other M) n h f =
    (record { told = composed_if_shaped s k form h f; before = (let w = rank_within q in omega arith) }, tt)
below_by wanted s q form k (Of other N) n h f =
    (record { told = composed_if_shaped s k form h f; before = (let w = rank_within q in omega arith) }, tt)
below_by wanted s q form k (Of other T) n h f = (
  record {
    told = tt;
    before = (let e = rank_of_wanted wanted q k n in let l = ltb-true (rank (prop_for other 0))
        (rank (prop_for wanted 0)) f in omega arith);
  },
  tt,
)
below_by wanted s q form k (Of other U) n h f = no_true f
below_by wanted s q form k (Disj M N) n h f = (
  record {
    told = composed_if_forked form (forked_if_shaped s k form h f);
    before = (let w = rank_within q in omega arith);
  },
  forked_if_shaped s k form h f,
)
below_by wanted s q form k (Disj _ _) n h f = no_true f

below_row : (conclusion : Conclusion) (q : Prop) (form : Form) (k : ℕ) (need : Need) → number_for conclusion q form
    ≡ Some k → falls conclusion need ≡ true → IsBelow form q need × IsOfTwo form need
below_row (Has wanted s) q form k need h f = let w = shaped wanted s q form k h in below_by wanted s q form k need w.0
    w.1 f
below_row (Apart pairing) q form k need h f = cc

below_of : (rule : ℕ) (q : Prop) (form : Form) (k i : ℕ) (need : Need) → 1 ≤ rule → rule ≤ COUNT
    → number_for (row_of rule).conclusion q form ≡ Some k → slice_get (row_of rule).premises i ≡ Some need
    → IsBelow form q need × IsOfTwo form need
below_of rule q form k i need l g h e = below_row (row_of rule).conclusion q form k need h
    (need_falls rule i need l g e)

-- a premise of a rule that fits is below the conclusion
pub need_below : (rule : ℕ) (q : Prop) (form : Form) (k i : ℕ) (need : Need) → 1 ≤ rule → rule ≤ COUNT
    → number_for (row_of rule).conclusion q form ≡ Some k → slice_get (row_of rule).premises i ≡ Some need
    → IsBelow form q need
need_below rule q form k i need l g h e = (below_of rule q form k i need l g h e).0

-- how much there is to derive in a claim
abbrev pub measure : Claim → ℕ
measure (of q term) = 19 * size term + rank q
measure (disj left right) = 19 * (size left + size right)

parts_smaller : (t : Tree) → is_composed (form_of t) ≡ true → (size (first_part t) < size t)
    × (size (second_part t) < size t)
parts_smaller (tree.leaf l) h = cc
parts_smaller (tree.rev part) h = (omega arith, omega arith)
parts_smaller (tree.seq first second) h = (omega arith, omega arith)
parts_smaller (tree.par first second) h = (omega arith, omega arith)
parts_smaller (tree.loop k body) h = (omega arith, omega arith)

both_smaller : (t : Tree) → is_forked (form_of t) ≡ true → size (first_part t) + size (second_part t) < size t
unfolding is_forked
both_smaller (tree.seq first second) h = omega arith
both_smaller (tree.par first second) h = omega arith
both_smaller _ h = no_true h

filled_smaller : (q : Prop) (t : Tree) (k : ℕ) (need : Need) → IsBelow (form_of t) q need → IsOfTwo (form_of t) need
    → measure (filled (letters_of t k) need) < measure (of q t)
filled_smaller q t k (Of wanted M) b two = let s : size (first_part t) < size t = (parts_smaller t b.told).0 in let w =
    rank_within q in let r = rank_within (prop_for wanted k) in omega arith
filled_smaller q t k (Of wanted N) b two = let s : size (second_part t) < size t = (parts_smaller t b.told).1 in let w =
    rank_within q in let r = rank_within (prop_for wanted k) in omega arith
filled_smaller q t k (Of wanted T) b two = let e = rank_for wanted k in let l = b.before in omega arith
filled_smaller q t k (Of wanted U) b two = absurd b.told
filled_smaller q t k (Disj M N) b two = let s = both_smaller t two in let w = rank_within q in omega arith
filled_smaller q t k (Disj _ _) b two = absurd b.told

-- the premise in a place is that need of the row, filled in
pub nth_filled : (letters : Letters) (needs : List Need) (i : ℕ) (premise : Claim)
    → slice_get (map (filled letters) needs) i ≡ Some premise → (need : Need) × (slice_get needs i ≡ Some need)
    × (filled letters need ≡ premise)
nth_filled letters [] i premise h = cc
nth_filled letters (need ∷ needs) zero premise h = (need, refl, cc)
nth_filled letters (need ∷ needs) (suc i) premise h = nth_filled letters needs i premise h

smaller_of : (rule : ℕ) (q : Prop) (t : Tree) (needed : List Claim) (i : ℕ) (premise : Claim) → 1 ≤ rule → rule ≤ COUNT
    → IsFitting (row_of rule) q t needed → slice_get needed i ≡ Some premise → measure premise < measure (of q t)
smaller_of rule q t needed i premise l g f h =
    let w = nth_filled (letters_of t f.k) (row_of rule).premises i premise (ap (λ xs. slice_get xs i) f.needed_are ∙ h)
    in
    let b = below_of rule q (form_of t) f.k i w.0 l g f.number_is w.1 in
    subst (λ c. measure c < measure (of q t)) w.2 (filled_smaller q t f.k w.0 b.0 b.1)

smaller_disj : (left right : Tree) (needed : List Claim) (i : ℕ) (premise : Claim) → AskOfTerms left right needed
    → slice_get needed i ≡ Some premise → measure premise < measure (disj left right)
smaller_disj left right [] i premise a h = cc
smaller_disj left right (disj part other ∷ []) zero premise a h =
    let e : disj part other ≡ premise = cc in
    subst (λ c. measure c < measure (disj left right)) e (omega arith)
smaller_disj left right (disj part other ∷ []) (suc i) premise a h = cc
smaller_disj left right (disj part other ∷ _ ∷ _) i premise a h = absurd a
smaller_disj left right (of q t ∷ _) i premise a h = absurd a

-- each premise of a rule is smaller than the claim
pub premise_smaller : (rule : ℕ) (c : Claim) (needed : List Claim) (i : ℕ) (premise : Claim) → premises rule c
    ≡ Some needed → slice_get needed i ≡ Some premise → measure premise < measure c
premise_smaller rule (of q t) needed i premise e h =
    let range = is_in_table rule (of q t) needed e in
    smaller_of rule q t needed i premise range.0 range.1
    (fitting (row_of rule) q t needed (sym (premises_of_rule rule (of q t) range.0 range.1) ∙ e)) h
premise_smaller rule (disj left right) needed i premise e h = smaller_disj left right needed i premise
    (asked_of_terms rule left right needed e) h
