-- What modules do with a Condorcet winner.
use Rattle.std.proofs.Common.{◌≡◌, ◌≢◌, ℕ, ◌≤◌, true, false, true≢false, not, nat_eq, List, refl, sym, ap, ◌∙◌, arith}
use Rattle.std.proofs.Common.{eqb-true, ℤ, ◌<ℤ◌, ◌≤ℤ◌, int_lt, int_le}
use Rattle.std.proofs.lemmas.Int.{ints}
use Rattle.std.specs.FinSet as set
use Rattle.vir_altset.specs.Sets.{Set}
use Rattle.vir_altset.specs.SetLaws.{contains-empty}
use Rattle.vir_profile.specs.declared.ballot.Entry.{Entry}
use Rattle.vir_profile.specs.Elections.{IsElection}
use Rattle.vir_profile.specs.Winners.{IsCondorcetWinner}
use Rattle.vir_term.specs.declared.leaf.Leaf.{Leaf}
use Rattle.vir_term.specs.declared.leaf.Leaf.TheVariants as leaf
use Rattle.vir_term.specs.declared.prop.Prop.TheVariants.{Dcc, Cprog, Ccomp}
use Rattle.vir_term.specs.declared.score.Score.{Score}
use Rattle.vir_term.specs.declared.score.Score.TheVariants.{Plurality, Borda, Copeland, Minimax, Condorcet}
use Rattle.vir_term.specs.Kinds.{kind_of}
use Rattle.vir_mean.specs.declared.elimination.Elimination.TheVariants.{Max, Min, Below, Upto}
use Rattle.vir_mean.specs.Scores.{score}
use Rattle.vir_mean.specs.Eliminators.{sum_of, scaled, goes, eliminated}
use Rattle.vir_mean.specs.Modules.{leaf_mean}
use Rattle.vir_mean.specs.Properties.{Holds, just}
use Rattle.vir_mean.proofs.WinnerScores.{copeland_leads, minimax_leads, condorcet_leads}
use Rattle.vir_mean.proofs.BordaAverage.{borda_above_average}
use Rattle.vir_rules.specs.declared.row.Family.TheVariants.{Winning, Progressing, Deferring}
use Rattle.vir_rules.specs.Families.{is_of, is_winning, is_above_average}
use Rattle.vir_sound.proofs.Averages.{LowMember, low_member, leader_above, low_less, low_below}
use Rattle.vir_sound.proofs.SparedMembers.{apart_of, no_member, some_member, less_is, not_less_is, Spared, alone}
use Rattle.vir_sound.proofs.SparedMembers.{progress}

-- ---- a greatest score
-- a member with a score above all others' alone is deferred
leader_alone : (f : ℕ → ℤ) (a : Set) (w : ℕ) → set.contains a w ≡ true → ((y : ℕ) → set.contains a y ≡ true → y ≢ w
    → f y <ℤ f w)
    → eliminated a (set.retain a (goes Max f a)) ≡ record {
      elected = set.empty;
      rejected = set.difference a (just w);
      deferred = just w;
    }
leader_alone f a w member leads = alone a (goes Max f a) w member
    (no_member (λ y. int_lt (f w) (f y)) a (λ y inside. not_less_is (f w) (f y) (under y inside)))
    (λ x inside other. some_member (λ y. int_lt (f x) (f y)) a w member
    (less_is (f x) (f w) (leads x inside (apart_of x w other))))
  where
    under : (y : ℕ) → set.contains a y ≡ true → f y ≤ℤ f w
    under y inside = elim (nat_eq y w) as (λ b. nat_eq y w ≡ b → f y ≤ℤ f w) [
      | true ↦ λ e. let same = ap f (eqb-true y w e) in omega (arith, ints)
      | false ↦ λ e. let less = leads y inside (apart_of y w e) in omega (arith, ints)
    ] refl

-- ---- a score above the average
module _ (f : ℕ → ℤ) (a : Set) (w : ℕ) (member : set.contains a w ≡ true) (above : sum_of f a <ℤ scaled f a w) where
  abbrev least : LowMember f a
  least = low_member f a w member

  spared_min : Spared a (goes Min f a) w member
  spared_min = record {
    stays = ap not (some_member (λ y. int_lt (f y) (f w)) a least.one least.member
        (less_is _ _ (low_less f a w member above least)));
    one = least.one;
    one_member = least.member;
    one_goes = ap not (no_member (λ y. int_lt (f y) (f least.one)) a (λ y inside. not_less_is (f y) (f least.one)
        (least.low y inside)));
  }

  spared_below : Spared a (goes Below f a) w member
  spared_below = record {
    stays = (grind (arith, ints));
    one = least.one;
    one_member = least.member;
    one_goes = less_is _ _ (low_below f a w member above least);
  }

  spared_upto : Spared a (goes Upto f a) w member
  spared_upto = record {
    stays = at_most _ _ above;
    one = least.one;
    one_member = least.member;
    one_goes = within _ _ (low_below f a w member above least);
  }
    where
      at_most : (u v : ℤ) → u <ℤ v → int_le v u ≡ false
      at_most u v less = grind (arith, ints)

      within : (u v : ℤ) → u <ℤ v → int_le u v ≡ true
      within u v less = grind (arith, ints)

-- a Condorcet winner leads by these scores
winner_leads : (s : Score) → is_winning s ≡ true → (a : Set) (p : List Entry) (w : ℕ) → IsElection a p
    → IsCondorcetWinner w a p
    → (y : ℕ) → set.contains a y ≡ true → y ≢ w → score s a p y <ℤ score s a p w
winner_leads Plurality fits a p w on winner y inside apart = cc fits
winner_leads Borda fits a p w on winner y inside apart = cc fits
winner_leads Copeland fits a p w on winner y inside apart = copeland_leads a p w winner y inside apart
winner_leads Minimax fits a p w on winner y inside apart = minimax_leads a p w winner y inside apart on.lists
winner_leads Condorcet fits a p w on winner y inside apart = condorcet_leads a p w winner y inside apart

-- and is above the average by these
winner_above : (s : Score) → is_above_average s ≡ true → (a : Set) (p : List Entry) (w : ℕ) → IsElection a p
    → IsCondorcetWinner w a p
    → 2 ≤ set.len a → sum_of (score s a p) a <ℤ scaled (score s a p) a w
winner_above Plurality fits a p w on winner two = cc fits
winner_above Borda fits a p w on winner two = borda_above_average a p on.lists w winner two
winner_above Copeland fits a p w on winner two = leader_above (score Copeland a p) a w winner.member two
    (winner_leads Copeland refl a p w on winner)
winner_above Minimax fits a p w on winner two = leader_above (score Minimax a p) a w winner.member two
    (winner_leads Minimax refl a p w on winner)
winner_above Condorcet fits a p w on winner two = leader_above (score Condorcet a p) a w winner.member two
    (winner_leads Condorcet refl a p w on winner)

-- ---- the modules
pub dcc_leaf : (l : Leaf) → is_of Winning (kind_of l) ≡ true → Holds Dcc (leaf_mean l)
dcc_leaf (leaf.Max s) fits a p w on winner = leader_alone (score s a p) a w winner.member
    (winner_leads s fits a p w on winner)
dcc_leaf leaf.Elect fits a p w on winner = cc fits
dcc_leaf leaf.Defer fits a p w on winner = cc fits
dcc_leaf (leaf.PassFirst k order) fits a p w on winner = cc fits
dcc_leaf (leaf.DropFirst k order) fits a p w on winner = cc fits
dcc_leaf leaf.Plurality fits a p w on winner = cc fits
dcc_leaf (leaf.Min s) fits a p w on winner = cc fits
dcc_leaf (leaf.Below s) fits a p w on winner = cc fits
dcc_leaf (leaf.Upto s) fits a p w on winner = cc fits

pub cprog_leaf : (l : Leaf) → is_of Progressing (kind_of l) ≡ true → Holds Cprog (leaf_mean l)
cprog_leaf (leaf.Min s) fits a p w on winner = progress a (goes Min (score s a p) a) w winner.member
    (λ two. spared_min (score s a p) a w winner.member (winner_above s fits a p w on winner two))
cprog_leaf (leaf.Below s) fits a p w on winner = progress a (goes Below (score s a p) a) w winner.member
    (λ two. spared_below (score s a p) a w winner.member (winner_above s fits a p w on winner two))
cprog_leaf (leaf.Upto s) fits a p w on winner = progress a (goes Upto (score s a p) a) w winner.member
    (λ two. spared_upto (score s a p) a w winner.member (winner_above s fits a p w on winner two))
cprog_leaf leaf.Elect fits a p w on winner = cc fits
cprog_leaf leaf.Defer fits a p w on winner = cc fits
cprog_leaf (leaf.PassFirst k order) fits a p w on winner = cc fits
cprog_leaf (leaf.DropFirst k order) fits a p w on winner = cc fits
cprog_leaf leaf.Plurality fits a p w on winner = cc fits
cprog_leaf (leaf.Max s) fits a p w on winner = cc fits

pub ccomp_leaf : (l : Leaf) → is_of Deferring (kind_of l) ≡ true → Holds Ccomp (leaf_mean l)
ccomp_leaf leaf.Defer fits a p w on winner = record {
  kept = contains-empty w;
  no_other = λ x elected. absurd (true≢false (sym elected ∙ contains-empty x));
  others = λ elected. absurd (true≢false (sym elected ∙ contains-empty w));
}
ccomp_leaf leaf.Elect fits a p w on winner = cc fits
ccomp_leaf (leaf.PassFirst k order) fits a p w on winner = cc fits
ccomp_leaf (leaf.DropFirst k order) fits a p w on winner = cc fits
ccomp_leaf leaf.Plurality fits a p w on winner = cc fits
ccomp_leaf (leaf.Max s) fits a p w on winner = cc fits
ccomp_leaf (leaf.Min s) fits a p w on winner = cc fits
ccomp_leaf (leaf.Below s) fits a p w on winner = cc fits
ccomp_leaf (leaf.Upto s) fits a p w on winner = cc fits
