-- Rows that aren't sound, each by an election of two or three alternatives.
use Rattle.std.proofs.Common.{◌≡◌, ◌≢◌, ◌⊎◌, inl, inr, ℕ, ◌<◌, Bool, true, false, true≢false, not, ◌&&◌, ◌||◌, nat_eq}
use Rattle.std.proofs.Common.{nat_lt, nat_le}
use Rattle.std.proofs.Common.{List, [], ◌∷◌, ℤ, pos, int_lt, refl, sym, ap, ◌∙◌, subst, arith}
use Rattle.std.proofs.lemmas.Bool.Decides.{nat_tests}
use Rattle.std.specs.FinSet as set
use Rattle.std.specs.List.{list_any}
use Rattle.vir_altset.specs.SetLaws.{contains-all, contains-empty, contains-insert, contains-retain, set_members}
use Rattle.vir_altset.specs.Sets.{Set}
use Rattle.vir_altset.specs.declared.split.Split.{Split}
use Rattle.vir_altset.proofs.SizeLaws.{len-all}
use Rattle.vir_profile.specs.declared.ballot.Entry.{Entry}
use Rattle.vir_profile.specs.Profiles.{pairwise_weight}
use Rattle.vir_profile.specs.Winners.{IsCondorcetWinner}
use Rattle.vir_term.specs.declared.leaf.Leaf.TheVariants as leaf'
use Rattle.vir_term.specs.declared.prop.Prop.TheVariants.{Ne, Defers, Nb, Dli, Dimono, Dcc, Cprog, Neut}
use Rattle.vir_term.specs.declared.score.Score.TheVariants.{Plurality, Borda, Minimax}
use Rattle.vir_term.specs.Tree.{leaf, par, loop, exactly}
use Rattle.vir_mean.specs.declared.elimination.Elimination.{Elimination}
use Rattle.vir_mean.specs.declared.elimination.Elimination.TheVariants.{Max, Min, Below, Upto}
use Rattle.vir_mean.specs.Compositions.{loop_of, par_of}
use Rattle.vir_mean.specs.Eliminators.{eliminator, goes, is_passed}
use Rattle.vir_mean.specs.Lifts.{Lifts}
use Rattle.vir_mean.specs.Meaning.{mean}
use Rattle.vir_mean.specs.Modules.{Meaning, all_deferred, plurality_winners, winners_elected}
use Rattle.vir_mean.specs.Properties.{Holds, just}
use Rattle.vir_mean.specs.Scores.{plurality_score, minimax_score}
use Rattle.vir_mean.proofs.LoopLaws.{loop_of-few, loop_of-whole}
use Rattle.vir_mean.proofs.MeaningLaws.{mean-split}
use Rattle.vir_mean.proofs.Passing.{passing_has_an_order}
use Rattle.vir_mean.proofs.StillScores.{first_lifted, lifted, lifted_scores, minimax_of, tied, tied_scores}
use Rattle.vir_rules.specs.declared.row.Conclusion.TheVariants.{Has}
use Rattle.vir_rules.specs.declared.row.Family.TheVariants.{Eliminating, Unscored, Winning}
use Rattle.vir_rules.specs.declared.row.Need.TheVariants.{Of}
use Rattle.vir_rules.specs.declared.row.Part.TheVariants.{M, N}
use Rattle.vir_rules.specs.declared.row.Shape.TheVariants.{Loop, LoopOne, ModuleOf, Par}
use Rattle.vir_rules.specs.declared.row.Wanted.TheVariants.{Is}
use Rattle.vir_rules.specs.Claims.{of}
use Rattle.vir_rules.specs.Table.{rule}
use Rattle.vir_sound.specs.Truth.{IsSoundRow}
use Rattle.vir_sound.proofs.ElectingLaws.{ne_leaf}
use Rattle.vir_sound.proofs.KeepingLaws.{nb_leaf}
use Rattle.vir_mean.proofs.Leaders.{leaders}
use Rattle.vir_mean.proofs.DeferredMembers.{eliminated-deferred}
use Rattle.vir_sound.proofs.LiftLeaves.{dli_leaf, max-deferred}
use Rattle.vir_sound.proofs.WinnerLeaves.{cprog_leaf}
use Rattle.vir_mean.proofs.SmallElections.{any_of_three, any_of_two, by_number, election, goes_of_three}
use Rattle.vir_mean.proofs.SmallElections.{goes_three, lacks, line, lists_three}
use Rattle.vir_mean.proofs.SmallElections.{one_two, one_two_three, three, three_one_two, three_two_one, two, two_one}
use Rattle.vir_mean.proofs.SmallElections.{two_one_three}

abbrev nobody : Set
nobody = set.empty

outside_just : (x y : ℕ) → nat_eq y x ≡ false → set.contains (just x) y ≡ false
outside_just x y apart = contains-insert nobody x y ∙ ap (λ b. b || set.contains nobody y) apart ∙ contains-empty y

-- ---- a loop that is to end with two
abbrev single : List Entry
single = line 1 (1 ∷ 2 ∷ []) ∷ []

single_won : IsCondorcetWinner 1 two single
single_won = record {
  member = contains-all 2 1;
  wins = λ y member other. subst (λ z. pairwise_weight single z 1 < pairwise_weight single 1 z)
      (sym (second y (sym (contains-all 2 y) ∙ member) other)) (omega arith);
}
  where
    second : (y : ℕ) → (nat_lt 0 y && nat_le y 2) ≡ true → y ≢ 1 → y ≡ 2
    second y member other = grind (arith, nat_tests)

-- of two alternatives it leaves both, whoever wins
pub not_dcc : (m : Meaning) → Holds Dcc (loop_of (exactly 2) m) → ⊥
not_dcc m holds =
    let said = holds two single 1 (election 2 single (one_two, tt)) single_won in
    let stopped : loop_of (exactly 2) m two single ≡ all_deferred two single = loop_of-few (exactly 2) m two single
    (len-all 2) in
    let same : two ≡ just 1 = ap (λ (s : Split). s.deferred) (sym stopped ∙ said) in
    true≢false (sym (contains-all 2 2) ∙ ap (λ s. set.contains s 2) same ∙ outside_just 1 2 refl)

pub unsound_dcc_loop : (name : List ℕ) → IsSoundRow (rule name (Has (Is Dcc) Loop) (Of (Is Cprog) M ∷ [])) → ⊥
unsound_dcc_loop name sound =
    not_dcc (mean (leaf (leaf'.Min Borda))) (sound (of Dcc (loop (exactly 2) (leaf (leaf'.Min Borda))))
    (of Cprog (leaf (leaf'.Min Borda)) ∷ [])
    (omega arith, tt) refl (cprog_leaf (leaf'.Min Borda) refl, tt))

-- ---- the eliminators of first places
abbrev divided : List Entry
divided = line 1 by_number ∷ line 2 (2 ∷ 1 ∷ 3 ∷ []) ∷ line 2 (3 ∷ 1 ∷ 2 ∷ []) ∷ []

divided_won : IsCondorcetWinner 1 three divided
divided_won = record {
  member = contains-all 3 1;
  wins = λ y member other. elim (second y (sym (contains-all 3 y) ∙ member) other) [
    | inl is ↦ subst (λ z. pairwise_weight divided z 1 < pairwise_weight divided 1 z) (sym is) (omega arith)
    | inr is ↦ subst (λ z. pairwise_weight divided z 1 < pairwise_weight divided 1 z) (sym is) (omega arith)
  ];
}
  where
    second : (y : ℕ) → (nat_lt 0 y && nat_le y 3) ≡ true → y ≢ 1 → (y ≡ 2) ⊎ (y ≡ 3)
    second y member other = grind (arith, nat_tests)

first_goes : (kind : Elimination) → goes_of_three kind (plurality_score divided) 1 ≡ true
first_goes Max = refl
first_goes Min = refl
first_goes Below = refl
first_goes Upto = refl

second_stays : (kind : Elimination) → goes_of_three kind (plurality_score divided) 2 ≡ false
second_stays Max = refl
second_stays Min = refl
second_stays Below = refl
second_stays Upto = refl

-- each rejects a Condorcet winner whom the fewest put first
pub not_cprog : (kind : Elimination) → Holds Cprog (eliminator kind Plurality) → ⊥
not_cprog kind holds =
    let t : ℕ → Bool = goes kind (plurality_score divided) three in
    let kept = (holds three divided 1 (election 3 divided (one_two_three, (two_one_three, (three_one_two, tt))))
    divided_won).deferred in
    let gone : t 1 ≡ true = goes_three kind (plurality_score divided) 1 ∙ first_goes kind in
    let stays : t 2 ≡ false = goes_three kind (plurality_score divided) 2 ∙ second_stays kind in
    let not_all : set.is_subset three (set.retain three t) ≡ false =
    lacks three (set.retain three t) 2 (contains-all 3 2) (contains-retain three t 2 ∙ step (set.contains three 2) (t 2)
    stays) in
    true≢false (sym kept ∙ eliminated-deferred three t 1 ∙ out (set.contains three 1)
    (set.is_subset three (set.retain three t)) (t 1) not_all gone)
  where
    step : (b c : Bool) → c ≡ false → (b && c) ≡ false
    step b c is = grind arith

    out : (b c d : Bool) → c ≡ false → d ≡ true → (b && (c || not d)) ≡ false
    out b c d none is = grind arith

pub unsound_cprog_leaf : (name : List ℕ) → IsSoundRow (rule name (Has (Is Cprog) (ModuleOf Eliminating)) []) → ⊥
unsound_cprog_leaf name sound = not_cprog Min (sound (of Cprog (leaf (leaf'.Min Plurality))) [] tt refl tt)

-- ---- the greatest of the least wins
leads_three : (lines : List Entry) (s : ℕ → ℤ) → (s ≡ minimax_score three lines) → (x : ℕ) → set.contains three x ≡ true
    → set.contains (leaders s three) x ≡ not (list_any (λ y. int_lt (s x) (s y)) by_number)
leads_three lines s is x inside =
    contains-retain three (λ y. not (is_passed s three y)) x ∙ ap (λ b. b && not (is_passed s three x)) inside
    ∙ ap not (any_of_three (λ y. int_lt (s x) (s y)))

-- whether one of three leads, by their scores
abbrev leads : ℤ → ℤ → ℤ → ℤ → Bool
leads score one other third = not (int_lt score one || (int_lt score other || (int_lt score third || false)))

deferred_by : (lines : List Entry) (x : ℕ) (v one other third : ℤ) → set.contains three x ≡ true → minimax_of lines x
    ≡ v
    → minimax_of lines 1 ≡ one → minimax_of lines 2 ≡ other → minimax_of lines 3 ≡ third →
    set.contains (eliminator Max Minimax three lines).deferred x ≡ leads v one other third
unfolding minimax_of
deferred_by lines x v one other third inside is is1 is2 is3 =
    ap (λ s. set.contains s x) (max-deferred (minimax_score three lines) three)
    ∙ leads_three lines (minimax_score three lines) refl x inside
    ∙ (λ i. leads (is i) (is1 i) (is2 i) (is3 i))

-- a lift of a leader makes another one fall, and a third one stay
pub not_dimono : Holds Dimono (eliminator Max Minimax) → ⊥
not_dimono holds =
    let before = λ (x : ℕ) (is : minimax_of tied x ≡ pos 1) (inside : set.contains three x ≡ true).
    deferred_by tied x (pos 1) (pos 1) (pos 1) (pos 1) inside is tied_scores.0 tied_scores.1 tied_scores.2 in
    let after = λ (x : ℕ) (v : ℤ) (is : minimax_of lifted x ≡ v) (inside : set.contains three x ≡ true).
    deferred_by lifted x v (pos 1) (pos 0) (pos 1) inside is lifted_scores.0 lifted_scores.1 lifted_scores.2 in
    elim (holds.1 three tied lifted 1 (election 3 tied (one_two_three, (three_two_one, tt)))
    (election 3 lifted (one_two_three, (three_one_two, tt)))
    (contains-all 3 1) first_lifted (before 1 tied_scores.0 (contains-all 3 1))) [
      | inl same ↦ true≢false (sym (before 2 tied_scores.1 (contains-all 3 2)) ∙ ap (λ s. set.contains s 2) (sym same)
          ∙ after 2 (pos 0) lifted_scores.1 (contains-all 3 2))
      | inr alone ↦ true≢false (sym (after 3 (pos 1) lifted_scores.2 (contains-all 3 3)) ∙ ap (λ s. set.contains s 3)
          alone ∙ outside_just 1 3 refl)
    ]

pub unsound_dimono_leaf : (name : List ℕ) → IsSoundRow (rule name (Has (Is Dimono) (ModuleOf Winning)) []) → ⊥
unsound_dimono_leaf name sound = not_dimono (sound (of Dimono (leaf (leaf'.Max Minimax))) [] tt refl tt)

-- ---- the most first places, beside `defer`
abbrev reversed : List Entry
reversed = line 1 (2 ∷ 1 ∷ []) ∷ []

second_lifted : Lifts 2 single reversed
second_lifted = (record { agrees = record { weight = refl; others = refl }; nearer = omega arith }, tt)

won : (lines : List Entry) (x : ℕ) → set.contains two x ≡ true → set.contains (plurality_winners two lines) x
    ≡ not (list_any (λ y. int_lt (plurality_score lines x) (plurality_score lines y)) (1 ∷ 2 ∷ []))
won lines x inside =
    contains-retain two (λ y. not (is_passed (plurality_score lines) two y)) x
    ∙ ap (λ b. b && not (is_passed (plurality_score lines) two x)) inside
    ∙ ap not (any_of_two (λ y. int_lt (plurality_score lines x) (plurality_score lines y)))

-- a lift of the one that is deferred makes it the winner
pub not_dli : Holds Dli (par_of winners_elected all_deferred) → ⊥
not_dli holds =
    let first : set.contains (plurality_winners two single) 1 ≡ true = won single 1 (contains-all 2 1) in
    let second : set.contains (plurality_winners two single) 2 ≡ false = won single 2 (contains-all 2 2) in
    let later : set.contains (plurality_winners two reversed) 1 ≡ false = won reversed 1 (contains-all 2 1) in
    let inside : set.contains two 2 ≡ true = contains-all 2 2 in
    let left : set.contains (par_of winners_elected all_deferred two single).deferred 2 ≡ true =
    grind (arith, set_members) in
    let same = holds two single reversed 2 (election 2 single (one_two, tt)) (election 2 reversed (two_one, tt)) inside
    second_lifted left in
    let elected : set.contains (set.union (plurality_winners two reversed) set.empty) 1
    ≡ set.contains (set.union (plurality_winners two single) set.empty) 1
    = ap (λ (s : Split). set.contains s.elected 1) same in
    let gained : set.contains (set.union (plurality_winners two single) set.empty) 1 ≡ true = grind (arith, set_members)
    in
    let lost : set.contains (set.union (plurality_winners two reversed) set.empty) 1 ≡ false =
    grind (arith, set_members) in
    true≢false (sym gained ∙ sym elected ∙ lost)

pub unsound_dli_par : (name : List ℕ) → IsSoundRow (rule name (Has (Is Dli) Par) (Of (Is Dli) M ∷ Of (Is Dli) N ∷ []))
    → ⊥
unsound_dli_par name sound =
    not_dli (sound (of Dli (par (leaf leaf'.Plurality) (leaf leaf'.Defer))) (of Dli (leaf leaf'.Plurality)
    ∷ of Dli (leaf leaf'.Defer) ∷ [])
    (tt, tt) refl (dli_leaf leaf'.Plurality refl, (dli_leaf leaf'.Defer refl, tt)))

-- ---- a loop whose body rejects nobody
pub not_defers : Holds (Defers 1) (loop_of (exactly 1) all_deferred) → ⊥
not_defers holds =
    let one = holds two [] (election 2 [] tt) (let n = len-all 2 in omega arith) in
    let stopped : loop_of (exactly 1) all_deferred two [] ≡ all_deferred two [] = loop_of-whole (exactly 1) all_deferred
    (mean-split (leaf leaf'.Defer)) two [] refl in
    let same : set.len (loop_of (exactly 1) all_deferred two []).deferred ≡ set.len two =
    ap (λ (s : Split). set.len s.deferred) stopped in
    let n = len-all 2 in
    absurd (omega arith)

pub unsound_defers_loop : (name : List ℕ)
    → IsSoundRow (rule name (Has (Is (Defers 1)) LoopOne) (Of (Is Ne) M ∷ Of (Is Nb) M ∷ [])) → ⊥
unsound_defers_loop name sound =
    not_defers (sound (of (Defers 1) (loop (exactly 1) (leaf leaf'.Defer))) (of Ne (leaf leaf'.Defer)
    ∷ of Nb (leaf leaf'.Defer) ∷ [])
    (omega arith, tt) refl (ne_leaf leaf'.Defer tt refl, (nb_leaf leaf'.Defer tt refl, tt)))

-- ---- modules with an order of their own
pub unsound_neut_leaf : (name : List ℕ) → IsSoundRow (rule name (Has (Is Neut) (ModuleOf Unscored)) []) → ⊥
unsound_neut_leaf name sound = passing_has_an_order (sound (of Neut (leaf (leaf'.PassFirst 1 []))) [] (omega arith) refl
    tt)
