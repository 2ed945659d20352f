-- Chains of steps.
use Rattle.std.proofs.Common.{◌≡◌, ℕ, zero, suc, ◌+◌, ◌≤◌, List, [], ◌++◌, length, append_assoc, Some, None, refl, sym}
use Rattle.std.proofs.Common.{ap, ◌∙◌, subst, inl, inr, arith}
use Rattle.std.specs.Prelude.{slice_get}
use Rattle.std.proofs.lemmas.Option.{slice_get_past}
use Rattle.std.proofs.lemmas.List.{append-nil}
use Rattle.std.specs.FinSet as set
use Rattle.vir_altset.specs.Sets.{Set, IsPart}
use Rattle.vir_profile.specs.declared.ballot.Entry.{Entry}
use Rattle.vir_term.specs.declared.leaf.Leaf.{Leaf}
use Rattle.vir_code.specs.declared.instr.Instr.{Instr}
use Rattle.vir_compile.specs.Exec.{State, act, IsStep, AreSteps}
use Rattle.vir_compile.specs.Calls.{called, calls_after, calls_at, calls_within, calls_left}
use Rattle.vir_compile.specs.StepsLeft.{origin, steps_bound, one_more, at_instr, steps_within, steps_left}
use Rattle.vir_compile.specs.Laws.{IsSafe, StepsAreLeft, CallsAreLeft}

module _ (code : List Instr) (lines : List Entry) (depth : ℕ) (whole : Set) where
  -- no stack is above the depth, the run began with this set, and the domain is a part of it
  pub record Fits (s : State) : Type 0 where
    pub splits : length s.splits ≤ depth
    pub domains : length s.domains ≤ depth
    pub began : origin s.domain s.domains ≡ whole
    pub part : IsPart s.domain whole

  -- a step to a state that fits
  pub record Goes (a b : State) : Type 0 where
    pub step : IsStep code lines a b
    pub fits : Fits b

  -- so many such steps
  abbrev pub Chain : ℕ → State → State → Type 0
  Chain zero a b = a ≡ b
  Chain (suc n) a b = (c : State) × Goes a c × Chain n c b

  -- the modules that are called by a chain
  abbrev pub calls_in : (n : ℕ) (a b : State) → Chain n a b → List Leaf
  calls_in zero a b e = []
  calls_in (suc n) a b (c, goes, chain) = called goes.step.at ++ calls_in n c b chain

  -- at most so many such steps, and by them these calls
  abbrev pub Leads : ℕ → List Leaf → State → State → Type 0
  Leads most ls a b = (n : ℕ) × (n ≤ most) × (chain : Chain n a b) × (calls_in n a b chain ≡ ls)

  chain_then : (n most : ℕ) (ls ms : List Leaf) (a b c : State) → (chain : Chain n a b) → calls_in n a b chain ≡ ls
      → Leads most ms b c → Leads (n + most) (ls ++ ms) a c
  chain_then zero most ls ms a b c e calls l =
      subst (λ x. Leads (0 + most) (ls ++ ms) x c) (sym e) (
        l.0,
        omega (arith, l.1),
        l.2,
        l.3
            ∙ ap (λ ks. ks ++ ms) calls,
      )
  chain_then (suc n) most ls ms a b c (x, step, chain) calls l =
      let rest = chain_then n most (calls_in n x b chain) ms x b c chain refl l in
      let first = called step.step.at in (
        suc rest.0,
        omega (arith, rest.1),
        (x, step, rest.2),
        ap (λ ks. first ++ ks) rest.3
            ∙ sym (append_assoc first (calls_in n x b chain) ms) ∙ ap (λ ks. ks ++ ms) calls,
      )

  pub leads_then : (n most : ℕ) (ls ms : List Leaf) (a b c : State) → Leads n ls a b → Leads most ms b c
      → Leads (n + most) (ls ++ ms) a c
  leads_then n most ls ms a b c l m =
      let all = chain_then l.0 most ls ms a b c l.2 l.3 m in
      (all.0, omega (arith, l.1, all.1), all.2, all.3)

  pub one_step : (a b : State) (i : Instr) → slice_get code a.place ≡ Some i → act lines i a ≡ Some b
      → length b.splits ≤ depth → length b.domains ≤ depth → origin b.domain b.domains ≡ whole → IsPart b.domain whole
      → Leads 1 (called i) a b
  one_step a b i stands leads f g o part = (
    1,
    omega arith,
    (
      b,
      record {
        step = record { at = i; stands = stands; leads = leads };
        fits = record { splits = f; domains = g; began = o; part = part };
      },
      refl,
    ),
    append-nil (called i),
  )

  pub ends_as : (n most : ℕ) (ls ms : List Leaf) (a b c : State) → n ≤ most → ls ≡ ms → b ≡ c → Leads n ls a b
      → Leads most ms a c
  ends_as n most ls ms a b c le same e l = subst (Leads most ms a) e (l.0, omega (arith, l.1), l.2, l.3 ∙ same)

  pub steps_of : (n : ℕ) (a b : State) → Chain n a b → AreSteps code lines n a b
  steps_of zero a b e = e
  steps_of (suc n) a b (c, goes, chain) = (c, goes.step, steps_of n c b chain)

  -- one state at most is next
  pub same_next : (a b c : State) → IsStep code lines a b → IsStep code lines a c → b ≡ c
  same_next a b c g h =
      let read : Some g.at ≡ Some h.at = sym g.stands ∙ h.stands in
      let instr : g.at ≡ h.at = cc in
      let next : Some b ≡ Some c = sym g.leads ∙ ap (λ i. act lines i a) instr ∙ h.leads in
      cc

  -- none at the end of the code
  pub none_next : (a b : State) → a.place ≡ length code → IsStep code lines a b → ⊥
  none_next a b e g =
      let past : slice_get code a.place ≡ None = slice_get_past code a.place (omega arith) in
      let read : Some g.at ≡ None = sym g.stands ∙ past in
      cc

  -- one state at most is reached at the end of the code
  pub same_end : (n m : ℕ) (a b c : State) → AreSteps code lines n a b → AreSteps code lines m a c → b.place
      ≡ length code → c.place ≡ length code → b ≡ c
  same_end zero zero a b c g h e f = sym g ∙ h
  same_end zero (suc m) a b c g h e f = absurd (none_next a h.0 (ap (λ (x : State). x.place) g ∙ e) h.1)
  same_end (suc n) zero a b c g h e f = absurd (none_next a g.0 (ap (λ (x : State). x.place) h ∙ f) g.1)
  same_end (suc n) (suc m) a b c g h e f =
      let next = same_next a h.0 g.0 h.1 g.1 in
      same_end n m g.0 b c g.2 (subst (λ x. AreSteps code lines m x c) next h.2) e f

  -- what is to come from a state on the way of a chain to the end
  pub record ToCome (most : ℕ) (end b : State) : Type 0 where
    pub steps : ℕ
    pub few : steps ≤ most
    pub chain : Chain steps b end
    pub fits : Fits b

  pub on_the_way : (n m most : ℕ) (a b end : State) → n ≤ most → Chain n a end → end.place ≡ length code → Fits a
      → AreSteps code lines m a b → ToCome most end b
  on_the_way n zero most a b end le chain e f h = subst (ToCome most end) h
      (record { steps = n; few = le; chain = chain; fits = f })
  on_the_way zero (suc m) most a b end le chain e f h = absurd (none_next a h.0 (ap (λ (x : State). x.place) chain ∙ e)
      h.1)
  on_the_way (suc n) (suc m) most a b end le chain e f h =
      let next = same_next a h.0 chain.0 h.1 chain.1.step in
      on_the_way n m most chain.0 b end (omega arith) chain.2 e chain.1.fits (subst (λ x. AreSteps code lines m x b)
      next h.2)

  pub safe_where : (most : ℕ) (end b : State) → end.place ≡ length code → ToCome most end b → IsSafe code whole lines
      depth b
  safe_where most end b e h = by h.steps h.chain
    where
      by : (n : ℕ) → Chain n b end → IsSafe code whole lines depth b
      by zero chain = record {
        goes_on = inl (ap (λ (x : State). x.place) chain ∙ e);
        splits_fit = h.fits.splits;
        domains_fit = h.fits.domains;
        part = h.fits.part;
      }
      by (suc n) chain = record {
        goes_on = inr (chain.0, chain.1.step);
        splits_fit = h.fits.splits;
        domains_fit = h.fits.domains;
        part = h.fits.part;
      }

  -- the steps that are counted are those of the chain
  pub steps_are : (most n : ℕ) (b end : State) → n ≤ most → Chain n b end → end.place ≡ length code
      → steps_within code lines most b ≡ n
  steps_are zero zero b end le chain e = refl
  steps_are zero (suc n) b end le chain e = absurd (omega arith)
  steps_are (suc most) zero b end le chain e =
      let place : b.place ≡ length code = ap (λ (x : State). x.place) chain ∙ e in
      let past : slice_get code b.place ≡ None = slice_get_past code b.place (omega arith) in
      ap (at_instr (λ i. one_more (steps_within code lines most) (act lines i b))) past
  steps_are (suc most) (suc n) b end le chain e =
      ap (at_instr (λ i. one_more (steps_within code lines most) (act lines i b))) chain.1.step.stands
      ∙ ap (one_more (steps_within code lines most)) chain.1.step.leads
      ∙ ap suc (steps_are most n chain.0 end (omega arith) chain.2 e)

  -- the same, by the state alone
  pub left_is : (b end : State) (h : ToCome (steps_bound (set.len whole) (length code)) end b) → end.place ≡ length code
      → steps_left code lines b ≡ h.steps
  unfolding steps_left
  left_is b end h e =
      ap (λ a. steps_within code lines (steps_bound (set.len a) (length code)) b) h.fits.began
      ∙ steps_are (steps_bound (set.len whole) (length code)) h.steps b end h.few h.chain e

  pub left_where : (b end : State) → ToCome (steps_bound (set.len whole) (length code)) end b → end.place ≡ length code
      → StepsAreLeft code lines b
  left_where b end h e = record {
    end = end;
    run = subst (λ n. AreSteps code lines n b end) (sym (left_is b end h e)) (steps_of h.steps b end h.chain);
    ends = e;
    lower = λ c step. by c step h.steps h.few h.chain (left_is b end h e);
  }
    where
      by : (c : State) → IsStep code lines b c → (n : ℕ) → n ≤ steps_bound (set.len whole) (length code) → Chain n b end
          → steps_left code lines b ≡ n → steps_left code lines b ≡ steps_left code lines c + 1
      by c step zero le chain is = absurd (none_next b c (ap (λ (x : State). x.place) chain ∙ e) step)
      by c step (suc n) le chain is =
          let next = same_next b chain.0 c chain.1.step step in
          let rest = left_is chain.0 end (record { steps = n; few = omega arith; chain = chain.2; fits = chain.1.fits })
          e in
          let there : steps_left code lines c ≡ n = sym (ap (steps_left code lines) next) ∙ rest in
          omega arith

  -- the calls that are counted are those of the chain
  pub calls_are : (most n : ℕ) (b end : State) → n ≤ most → (chain : Chain n b end) → end.place ≡ length code
      → calls_within code lines most b ≡ calls_in n b end chain
  calls_are zero zero b end le chain e = refl
  calls_are zero (suc n) b end le chain e = absurd (omega arith)
  calls_are (suc most) zero b end le chain e =
      let place : b.place ≡ length code = ap (λ (x : State). x.place) chain ∙ e in
      let past : slice_get code b.place ≡ None = slice_get_past code b.place (omega arith) in
      ap (calls_at (λ i. called i ++ calls_after (calls_within code lines most) (act lines i b))) past
  calls_are (suc most) (suc n) b end le (c, goes, chain) e =
      ap (calls_at (λ i. called i ++ calls_after (calls_within code lines most) (act lines i b))) goes.step.stands
      ∙ ap (λ o. called goes.step.at ++ calls_after (calls_within code lines most) o) goes.step.leads
      ∙ ap (λ ls. called goes.step.at ++ ls) (calls_are most n c end (omega arith) chain e)

  -- the same, by the state alone
  pub calls_left_are : (b end : State) (h : ToCome (steps_bound (set.len whole) (length code)) end b) → end.place
      ≡ length code → calls_left code lines b ≡ calls_in h.steps b end h.chain
  unfolding calls_left
  calls_left_are b end h e =
      ap (λ a. calls_within code lines (steps_bound (set.len a) (length code)) b) h.fits.began
      ∙ calls_are (steps_bound (set.len whole) (length code)) h.steps b end h.few h.chain e

  pub calls_where : (b end : State) → ToCome (steps_bound (set.len whole) (length code)) end b → end.place ≡ length code
      → CallsAreLeft code lines b
  calls_where b end h e = by h.steps h.few h.chain (calls_left_are b end h e)
    where
      by : (n : ℕ) → n ≤ steps_bound (set.len whole) (length code) → (chain : Chain n b end) → calls_left code lines b
          ≡ calls_in n b end chain → CallsAreLeft code lines b
      by zero le chain is =
          record {
            none = λ over. is;
            first = λ c step. absurd (none_next b c (ap (λ (x : State). x.place) chain ∙ e)
                step);
          }
      by (suc n) le (next, goes, chain) is = record {
        none = λ over. absurd (none_next b next over goes.step);
        first = λ c step.
            let same : next ≡ c = same_next b next c goes.step step in
            let read : Some goes.step.at ≡ Some step.at = sym goes.step.stands ∙ step.stands in
            let instr : goes.step.at ≡ step.at = cc in
            let rest = calls_left_are next end
            (record { steps = n; few = omega arith; chain = chain; fits = goes.fits }) e in
            is ∙ ap (λ i. called i ++ calls_in n next end chain) instr ∙ ap (λ ls. called step.at ++ ls)
            (sym rest ∙ ap (calls_left code lines) same);
      }
