-- The modules under a lift: whom they elect and whom they defer after it.
use Rattle.std.proofs.Common.{◌≡◌, ◌≢◌, inl, inr, ℕ, Bool, true, false, true≢false, cond, not, ◌||◌, ◌&&◌, nat_eq}
use Rattle.std.proofs.Common.{nat_lt, List, refl, sym, ap, ◌∙◌, arith, ℤ, pos, ◌≤ℤ◌, ◌<ℤ◌}
use Rattle.std.proofs.lemmas.Bool.Decides.{nat_tests}
use Rattle.std.proofs.lemmas.Int.{ints}
use Rattle.std.specs.Cmp.{nat_cmp_total}
use Rattle.std.specs.FinSet as set
use Rattle.vir_altset.specs.Sets.{Set}
use Rattle.vir_altset.specs.SetLaws.{contains-empty, contains-difference, contains-retain, same_members}
use Rattle.vir_altset.specs.Splits.{bit}
use Rattle.vir_altset.specs.declared.split.Split.{Split}
use Rattle.vir_profile.specs.declared.ballot.Entry.{Entry}
use Rattle.vir_profile.specs.Elections.{IsElection}
use Rattle.vir_term.specs.declared.score.Score.{Score}
use Rattle.vir_term.specs.declared.score.Score.TheVariants.{Plurality, Borda, Copeland, Minimax, Condorcet}
use Rattle.vir_term.specs.declared.leaf.Leaf.{Leaf}
use Rattle.vir_term.specs.declared.leaf.Leaf.TheVariants as leaf
use Rattle.vir_term.specs.declared.prop.Prop.TheVariants.{Dli, Imono, Dimono, Dmono}
use Rattle.vir_term.specs.Kinds.{kind_of}
use Rattle.vir_mean.specs.declared.elimination.Elimination.{Elimination}
use Rattle.vir_mean.specs.declared.elimination.Elimination.TheVariants.{Max, Min, Below, Upto}
use Rattle.vir_mean.specs.Eliminators.{is_passed, goes, eliminated, eliminator}
use Rattle.vir_mean.specs.Lifts.{Lifts}
use Rattle.vir_mean.specs.Modules.{leaf_mean}
use Rattle.vir_mean.specs.Properties.{Holds, StaysOrBecomes}
use Rattle.vir_mean.specs.Scores.{beats, beats_all, score}
use Rattle.vir_mean.proofs.LiftedScores.{lifted_score_never_falls, no_other_score_rises, moved_plurality, moved_borda}
use Rattle.vir_mean.proofs.LiftedScores.{moved_copeland}
use Rattle.vir_mean.proofs.MemberCounts.{in_items}
use Rattle.vir_mean.proofs.ScoreComparisons.{list_all-each}
use Rattle.vir_rules.specs.declared.row.Family.TheVariants.{ElectingSome, Unscored, Leading, Eliminating}
use Rattle.vir_rules.specs.Families.{is_leading, is_of}
use Rattle.vir_mean.proofs.Leaders.{Leads, leads_of_test, test_of_leads, leader_of, leaders, leader_leads, IsLift}
use Rattle.vir_mean.proofs.Leaders.{leaders_stay_or_become}
use Rattle.vir_mean.proofs.DeferredMembers.{deferred_still, eliminated-deferred, eliminated-elected}
use Rattle.vir_mean.proofs.LiftedEliminations.{goes_no_sooner, all_go_still}

-- ---- whom an eliminator defers
-- `max` defers those whom none passes
pub max-deferred : (f : ℕ → ℤ) (a : Set) → (eliminated a (set.retain a (is_passed f a))).deferred ≡ leaders f a
max-deferred f a = same_members _ _ (λ y. eliminated-deferred a (is_passed f a) y ∙ step (set.contains a y) _
    (is_passed f a y) (not_all y) ∙ sym (contains-retain a _ y))
  where
    step : (b c d : Bool) → (b ≡ true → c ≡ false) → (b && (c || not d)) ≡ (b && not d)
    step b c d some = grind arith

    stays : (y : ℕ) → set.contains a y ≡ true → set.is_subset a (set.retain a (is_passed f a)) ≡ true → ⊥
    stays y member all =
        let leader = leader_of f a y member in
        true≢false (sym (set.is_subset-contains nat_cmp_total a (set.retain a (is_passed f a)) all leader.one
        leader.member) ∙ contains-retain a (is_passed f a) leader.one
        ∙ last _ _ (test_of_leads f a leader.one leader.leads))
      where
        last : (b c : Bool) → c ≡ false → (b && c) ≡ false
        last b c none = grind arith

    not_all : (y : ℕ) → set.contains a y ≡ true → set.is_subset a (set.retain a (is_passed f a)) ≡ false
    not_all y member = refuted _ (stays y member)
      where
        refuted : (b : Bool) → (b ≡ true → ⊥) → b ≡ false
        refuted b h = grind arith

module _ (a : Set) (p q : List Entry) (x : ℕ) (on : IsElection a p) (on_after : IsElection a q)
    (inside : set.contains a x ≡ true) (lifted : Lifts x p q) where
  lift_of : (s : Score) → IsLift a x (score s a p) (score s a q)
  lift_of s = record {
    inside = inside;
    rises = lifted_score_never_falls a p q x on.lists on_after.lists inside lifted s;
    falls = no_other_score_rises a p q x on.lists on_after.lists inside lifted s;
  }

  -- where x leads, it rises as soon as another's score changes
  abbrev Moves : Score → Type 0
  Moves s = Leads (score s a p) a x → (y : ℕ) → set.contains a y ≡ true → y ≢ x → score s a q y ≢ score s a p y
      → score s a p x <ℤ score s a q x

  -- where x has the greatest Condorcet score, no other changes: two alternatives don't beat each other
  moved_condorcet : Moves Condorcet
  moved_condorcet leads y member apart moved =
      absurd (not_both (beats_all_of y winner x inside (other x y (λ e. apart (sym e))))
      (beats_all_of x (level _ _ winner (leads y member)) y member (other y x apart)))
    where
      other : (x y : ℕ) → x ≢ y → nat_eq x y ≡ false
      other x y apart = grind (arith, nat_tests)

      was : (b c : Bool) → pos (bit c) ≤ℤ pos (bit b) → pos (bit c) ≢ pos (bit b) → b ≡ true
      was true c falls moved = refl
      was false true falls moved = absurd (omega (arith, ints))
      was false false falls moved = absurd (moved refl)

      winner : beats_all y a p ≡ true
      winner = was _ _ (no_other_score_rises a p q x on.lists on_after.lists inside lifted Condorcet y member apart)
          moved

      level : (b c : Bool) → b ≡ true → pos (bit b) ≤ℤ pos (bit c) → c ≡ true
      level true true e most = refl
      level true false e most = absurd (omega (arith, ints))
      level false c e most = absurd (true≢false (sym e))

      beats_all_of : (v : ℕ) → beats_all v a p ≡ true → (w : ℕ) → set.contains a w ≡ true → nat_eq w v ≡ false
          → beats p v w ≡ true
      beats_all_of v all w there differs = or_else _ _ differs (list_all-each (λ z. nat_eq z v || beats p v z)
          (set.items a) all w (sym (in_items a w) ∙ there))
        where
          or_else : (b c : Bool) → b ≡ false → (b || c) ≡ true → c ≡ true
          or_else b c no_first either = grind arith

      not_both : beats p y x ≡ true → beats p x y ≡ true → ⊥
      not_both = step _ _
        where
          step : (m n : ℕ) → nat_lt m n ≡ true → nat_lt n m ≡ true → ⊥
          step m n less more = grind (arith, nat_tests)

  moves : (s : Score) → is_leading s ≡ true → Moves s
  moves Plurality leading leads = moved_plurality a p q x on.lists on_after.lists inside lifted
  moves Borda leading leads = moved_borda a p q x on.lists on_after.lists inside lifted
  moves Copeland leading leads = moved_copeland a p q x on.lists on_after.lists inside lifted
  moves Minimax leading leads = absurd (true≢false (sym leading))
  moves Condorcet leading leads = moved_condorcet leads

  -- those with the greatest score stay, or become x alone
  scores_lead : (s : Score) → is_leading s ≡ true → set.contains (leaders (score s a p) a) x ≡ true
      → StaysOrBecomes x (leaders (score s a p) a) (leaders (score s a q) a)
  scores_lead s leading leader = leaders_stay_or_become (lift_of s) (moves s leading)
      (leads_of_test (score s a p) a x (leader_leads (score s a p) a x leader))

  max_defers : (s : Score) → is_leading s ≡ true → set.contains (eliminator Max s a p).deferred x ≡ true
      → StaysOrBecomes x (eliminator Max s a p).deferred (eliminator Max s a q).deferred
  max_defers s leading before = by (max-deferred (score s a p) a) (max-deferred (score s a q) a)
      (scores_lead s leading (sym (ap (λ d. set.contains d x) (max-deferred (score s a p) a)) ∙ before))
    where
      by : {s t s' t' : Set} → s ≡ s' → t ≡ t' → StaysOrBecomes x s' t' → StaysOrBecomes x s t
      by e f (inl stays) = inl (f ∙ stays ∙ sym e)
      by e f (inr becomes) = inr (f ∙ becomes)

  eliminator_defers : (kind : Elimination) (s : Score) → set.contains (eliminator kind s a p).deferred x ≡ true
      → set.contains (eliminator kind s a q).deferred x ≡ true
  eliminator_defers kind s = deferred_still a x (goes kind (score s a p) a) (goes kind (score s a q) a) inside
      (goes_no_sooner (lift_of s) kind) (all_go_still (lift_of s) kind)

-- ---- the modules
not_of : {A : Type 0} → false ≡ true → A
not_of of_family = absurd (true≢false (sym of_family))

pub dli_leaf : (l : Leaf) → is_of Unscored (kind_of l) ≡ true → Holds Dli (leaf_mean l)
dli_leaf leaf.Elect of_family a p q x on on_after inside lifted deferred = refl
dli_leaf leaf.Defer of_family a p q x on on_after inside lifted deferred = refl
dli_leaf (leaf.PassFirst k order) of_family a p q x on on_after inside lifted deferred = refl
dli_leaf (leaf.DropFirst k order) of_family a p q x on on_after inside lifted deferred = refl
dli_leaf leaf.Plurality of_family a p q x on on_after inside lifted deferred =
    absurd (true≢false (sym deferred ∙ contains-empty x))
dli_leaf (leaf.Max s) of_family a p q x on on_after inside lifted deferred = not_of of_family
dli_leaf (leaf.Min s) of_family a p q x on on_after inside lifted deferred = not_of of_family
dli_leaf (leaf.Below s) of_family a p q x on on_after inside lifted deferred = not_of of_family
dli_leaf (leaf.Upto s) of_family a p q x on on_after inside lifted deferred = not_of of_family

pub imono_leaf : (l : Leaf) → is_of ElectingSome (kind_of l) ≡ true → Holds Imono (leaf_mean l)
imono_leaf leaf.Elect of_family a p q x on on_after inside lifted elected = inl refl
imono_leaf leaf.Plurality of_family a p q x on on_after inside lifted elected = scores_lead a p q x on on_after inside
    lifted Plurality refl elected
imono_leaf leaf.Defer of_family a p q x on on_after inside lifted elected = not_of of_family
imono_leaf (leaf.PassFirst k order) of_family a p q x on on_after inside lifted elected = not_of of_family
imono_leaf (leaf.DropFirst k order) of_family a p q x on on_after inside lifted elected = not_of of_family
imono_leaf (leaf.Max s) of_family a p q x on on_after inside lifted elected = not_of of_family
imono_leaf (leaf.Min s) of_family a p q x on on_after inside lifted elected = not_of of_family
imono_leaf (leaf.Below s) of_family a p q x on on_after inside lifted elected = not_of of_family
imono_leaf (leaf.Upto s) of_family a p q x on on_after inside lifted elected = not_of of_family

pub dimono_leaf : (l : Leaf) → is_of Leading (kind_of l) ≡ true → Holds Dimono (leaf_mean l)
dimono_leaf (leaf.Max s) of_family = (
  λ a p on. eliminated-elected a _,
  λ a p q x on on_after inside lifted.
      max_defers a p q x on on_after inside lifted s of_family,
)
dimono_leaf leaf.Elect of_family = not_of of_family
dimono_leaf leaf.Plurality of_family = not_of of_family
dimono_leaf leaf.Defer of_family = not_of of_family
dimono_leaf (leaf.PassFirst k order) of_family = not_of of_family
dimono_leaf (leaf.DropFirst k order) of_family = not_of of_family
dimono_leaf (leaf.Min s) of_family = not_of of_family
dimono_leaf (leaf.Below s) of_family = not_of of_family
dimono_leaf (leaf.Upto s) of_family = not_of of_family

pub dmono_leaf : (l : Leaf) → is_of Eliminating (kind_of l) ≡ true → Holds Dmono (leaf_mean l)
dmono_leaf (leaf.Max s) of_family a p q x on on_after inside lifted = eliminator_defers a p q x on on_after inside
    lifted Max s
dmono_leaf (leaf.Min s) of_family a p q x on on_after inside lifted = eliminator_defers a p q x on on_after inside
    lifted Min s
dmono_leaf (leaf.Below s) of_family a p q x on on_after inside lifted = eliminator_defers a p q x on on_after inside
    lifted Below s
dmono_leaf (leaf.Upto s) of_family a p q x on on_after inside lifted = eliminator_defers a p q x on on_after inside
    lifted Upto s
dmono_leaf leaf.Elect of_family a p q x on on_after inside lifted = not_of of_family
dmono_leaf leaf.Plurality of_family a p q x on on_after inside lifted = not_of of_family
dmono_leaf leaf.Defer of_family a p q x on on_after inside lifted = not_of of_family
dmono_leaf (leaf.PassFirst k order) of_family a p q x on on_after inside lifted = not_of of_family
dmono_leaf (leaf.DropFirst k order) of_family a p q x on on_after inside lifted = not_of of_family
