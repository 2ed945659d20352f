-- For the machine that runs code: what is known of a state that is reached from the start.
use Rattle.std.proofs.Common.{◌≡◌, ℕ, zero, suc, ◌<◌, ◌≤◌, List, [], ◌++◌, length, Some, None, refl, sym, ap, ◌∙◌}
use Rattle.std.proofs.Common.{subst, arith}
use Rattle.std.specs.Prelude.{slice_get}
use Rattle.std.proofs.lemmas.Option.{slice_get_past}
use Rattle.vir_altset.specs.Sets.{Set, IsPart}
use Rattle.vir_profile.specs.declared.ballot.Entry.{Entry}
use Rattle.vir_term.specs.Tree.{Tree}
use Rattle.vir_code.specs.declared.instr.Instr.{Instr}
use Rattle.vir_code.specs.Code.{code_of}
use Rattle.vir_code.specs.Depth.{depth_of}
use Rattle.vir_compile.specs.Exec.{State, act, IsStep, AreSteps, IsReached, start_of}
use Rattle.vir_compile.specs.Calls.{called, calls_left}
use Rattle.vir_compile.specs.StepsLeft.{steps_left}
use Rattle.vir_compile.proofs.Runs.{Chain}
use Rattle.vir_compile.proofs.Executed.{end_of, to_come, exact, calls_exact}

-- the instruction leads from the state to one that is reached, fits, has fewer steps left, and all calls left but its
-- own
pub record Onward (code : List Instr) (a : Set) (lines : List Entry) (depth : ℕ) (at : Instr) (b : State) : Type 0 where
  pub next : State
  pub leads : act lines at b ≡ Some next
  pub splits_fit : length next.splits ≤ depth
  pub domains_fit : length next.domains ≤ depth
  pub part : IsPart next.domain a
  pub reached : IsReached code a lines next
  pub fewer : steps_left code lines next < steps_left code lines b
  pub calls : calls_left code lines b ≡ called at ++ calls_left code lines next

-- the start is reached
pub start_reached : (code : List Instr) (a : Set) (lines : List Entry) → IsReached code a lines (start_of a)
start_reached code a lines = record { steps = 0; run = refl }

then_step : (code : List Instr) (lines : List Entry) (n : ℕ) (b c d : State) → AreSteps code lines n b c
    → IsStep code lines c d → AreSteps code lines (suc n) b d
then_step code lines zero b c d e step = (d, subst (λ x. IsStep code lines x d) (sym e) step, refl)
then_step code lines (suc n) b c d h step = (h.0, h.1, then_step code lines n h.0 c d h.2 step)

-- what a step leads to from a state that is reached is reached
pub next_reached : (code : List Instr) (a : Set) (lines : List Entry) (b c : State) → IsReached code a lines b
    → IsStep code lines b c → IsReached code a lines c
next_reached code a lines b c h step =
    record { steps = suc h.steps; run = then_step code lines h.steps (start_of a) b c h.run step }

module _ (t : Tree) (a : Set) (lines : List Entry) (b : State) where
  onward_of : IsReached (code_of t) a lines b → (at : Instr) → slice_get (code_of t) b.place ≡ Some at
      → Onward (code_of t) a lines (depth_of t) at b
  onward_of h at stands = let g = to_come t a lines b h in by g.steps g.chain
    where
      by : (n : ℕ) → Chain (code_of t) lines (depth_of t) a n b (end_of t a lines) → Onward (code_of t) a lines
          (depth_of t) at b
      by zero chain =
          let past = slice_get_past (code_of t) b.place (omega (arith, ap (λ (x : State). x.place) chain)) in
          absurd cc
      by (suc n) (next, goes, chain) =
          let read : Some goes.step.at ≡ Some at = sym goes.step.stands ∙ stands in
          let same : goes.step.at ≡ at = cc in
          let lower = (exact t a lines b h).lower next goes.step in
          record {
            next = next;
            leads = ap (λ i. act lines i b) (sym same) ∙ goes.step.leads;
            splits_fit = goes.fits.splits;
            domains_fit = goes.fits.domains;
            part = goes.fits.part;
            reached = next_reached (code_of t) a lines b next h goes.step;
            fewer = omega arith;
            calls = ((calls_exact t a lines).left b h).first next goes.step
                ∙ ap (λ i. called i ++ calls_left (code_of t) lines next) same;
          }

  over_of : IsReached (code_of t) a lines b → slice_get (code_of t) b.place ≡ None → b ≡ end_of t a lines
  over_of h none = let g = to_come t a lines b h in by g.steps g.chain
    where
      by : (n : ℕ) → Chain (code_of t) lines (depth_of t) a n b (end_of t a lines) → b ≡ end_of t a lines
      by zero chain = chain
      by (suc n) (next, goes, chain) = let read : None ≡ Some goes.step.at = sym none ∙ goes.step.stands in absurd cc

module _ (code : List Instr) (t : Tree) (is : code ≡ code_of t) (a : Set) (lines : List Entry) (b : State) where
  -- the instruction at the position of a state that is reached leads on
  pub onward : IsReached code a lines b → (at : Instr) → slice_get code b.place ≡ Some at
      → Onward code a lines (depth_of t) at b
  onward = subst (λ l. IsReached l a lines b → (at : Instr) → slice_get l b.place ≡ Some at
      → Onward l a lines (depth_of t) at b) (sym is) (onward_of t a lines b)

  -- the same, for the state to which a machine came by it
  pub onward_to : IsReached code a lines b → (at : Instr) → slice_get code b.place ≡ Some at → (c : State)
      → act lines at b ≡ Some c → (g : Onward code a lines (depth_of t) at b) × (g.next ≡ c)
  onward_to h at stands c leads =
      let g = onward h at stands in
      let same : Some g.next ≡ Some c = sym g.leads ∙ leads in
      (g, cc)

  -- where no instruction stands, the run is over
  pub over : IsReached code a lines b → slice_get code b.place ≡ None → b ≡ end_of t a lines
  over = subst (λ l. IsReached l a lines b → slice_get l b.place ≡ None → b ≡ end_of t a lines) (sym is)
      (over_of t a lines b)

  -- and no call is left
  pub no_calls : IsReached code a lines b → slice_get code b.place ≡ None → calls_left code lines b ≡ []
  no_calls = subst (λ l. IsReached l a lines b → slice_get l b.place ≡ None → calls_left l lines b ≡ []) (sym is)
      (λ h none. ((calls_exact t a lines).left b h).none (ap (λ (x : State). x.place) (over_of t a lines b h none)))
