-- A run of a term's code from its start.
use Rattle.std.proofs.Common.{◌≡◌, ◌≤◌, List, [], ◌∷◌, length, refl, sym, ap, ◌∙◌, subst, arith}
use Rattle.std.specs.FinSet as set
use Rattle.vir_altset.specs.Sets.{Set}
use Rattle.vir_altset.specs.declared.split.Split.{Split}
use Rattle.vir_profile.specs.declared.ballot.Entry.{Entry}
use Rattle.vir_profile.proofs.RestrictionLaws.{restricted_to_the_whole}
use Rattle.vir_term.specs.Tree.{Tree}
use Rattle.vir_code.specs.Code.{code_of}
use Rattle.vir_code.specs.Depth.{depth_of}
use Rattle.vir_code.proofs.Unique.{length-code_at, whole_code, last_before, ending}
use Rattle.vir_mean.specs.Meaning.{mean}
use Rattle.vir_compile.specs.Exec.{State, state, IsReached, start_of}
use Rattle.vir_compile.specs.StepsLeft.{steps_bound}
use Rattle.vir_compile.specs.Laws.{CodeExecutesToTheMeaning, CodeExecutesOnRestrictedBallots, CodeIsSafe}
use Rattle.vir_compile.specs.Laws.{StepsLeftAreExact, CallsLeftAreExact}
use Rattle.vir_compile.proofs.Meant.{meant}
use Rattle.vir_compile.proofs.CallsMeant.{calls_on}
use Rattle.vir_compile.proofs.Bounds.{most_steps, most_bound}
use Rattle.vir_compile.proofs.Runs.{Leads, ToCome, ends_as, steps_of, same_end, on_the_way, safe_where, left_where}
use Rattle.vir_compile.proofs.Runs.{calls_left_are, calls_where}
use Rattle.vir_compile.proofs.Follow.{follows}

module _ (t : Tree) (a : Set) (lines : List Entry) where
  -- where the run ends
  abbrev pub end_of : State
  end_of = state (length (code_of t)) a (meant lines t a ∷ []) []

  -- the whole run
  pub whole_run : Leads (code_of t) lines (depth_of t) a (steps_bound (set.len a) (length (code_of t)))
      (calls_on lines t a) (start_of a) end_of
  whole_run =
      let code = code_of t in
      let h = whole_code code t refl in
      let last = last_before code (length code) 0 t h in
      let few : most_steps t (set.len a) ≤ steps_bound (set.len a) (length code) =
      subst (λ n. most_steps t (set.len a) ≤ steps_bound (set.len a) n) (sym (length-code_at 0 t))
      (most_bound t (set.len a)) in
      ends_as code lines (depth_of t) a _ _ _ _ _ _ _ few refl (ap (λ n. state n a (meant lines t a ∷ []) []) last.1)
      (follows code lines (depth_of t) a t last.0 0 (ending code last.0 (length code) 0 t last.1 h) a [] []
      (omega arith) (omega arith) refl (λ x member. member))

  -- what is to come from a state that is reached
  pub to_come : (b : State) → IsReached (code_of t) a lines b → ToCome (code_of t) lines (depth_of t) a
      (steps_bound (set.len a) (length (code_of t))) end_of b
  to_come b h =
      on_the_way (code_of t) lines (depth_of t) a whole_run.0 h.steps _ (start_of a) b end_of whole_run.1 whole_run.2
      refl (record { splits = omega arith; domains = omega arith; began = refl; part = λ x member. member }) h.run

  -- each state at the end is that one
  pub ends_there : (b : State) → IsReached (code_of t) a lines b → b.place ≡ length (code_of t) → b ≡ end_of
  ends_there b h e =
      same_end (code_of t) lines (depth_of t) a h.steps whole_run.0 (start_of a) b end_of h.run
      (steps_of (code_of t) lines (depth_of t) a whole_run.0 _ _ whole_run.2) e refl

first : (s : Split) (ss : List Split) (u : Split) (us : List Split) → s ∷ ss ≡ u ∷ us → s ≡ u
first s ss u us e = cc

pub on_restricted_ballots : CodeExecutesOnRestrictedBallots
on_restricted_ballots t a lines s =
    let run = whole_run t a lines in
    let steps = steps_of (code_of t) lines (depth_of t) a run.0 _ _ run.2 in (
      λ h. first s h.rest _ [] (sym h.top ∙ ap (λ (x : State). x.splits) (ends_there t a lines h.last h.reached
          h.ends)),
      λ e. record {
        last = end_of t a lines;
        rest = [];
        reached = record { steps = run.0; run = steps };
        ends = refl;
        top = ap (λ x. x ∷ []) (sym e);
      },
    )

pub to_the_meaning : CodeExecutesToTheMeaning
to_the_meaning t a lines s profile =
    let same = ap (mean t a) (restricted_to_the_whole a lines profile) in
    let exact = on_restricted_ballots t a lines s in
    (λ h. exact.0 h ∙ same, λ e. exact.1 (e ∙ sym same))

pub safe : CodeIsSafe
safe t a lines b h =
    safe_where (code_of t) lines (depth_of t) a _ (end_of t a lines) b refl (to_come t a lines b h)

pub exact : StepsLeftAreExact
exact t a lines b h =
    left_where (code_of t) lines (depth_of t) a b (end_of t a lines) (to_come t a lines b h) refl

pub calls_exact : CallsLeftAreExact
calls_exact t a lines =
    let run = whole_run t a lines in
    let start : ToCome (code_of t) lines (depth_of t) a (steps_bound (set.len a) (length (code_of t)))
    (end_of t a lines) (start_of a) = record {
      steps = run.0;
      few = run.1;
      chain = run.2;
      fits = record { splits = omega arith; domains = omega arith; began = refl; part = λ x member. member };
    } in
    record {
      all = calls_left_are (code_of t) lines (depth_of t) a (start_of a) (end_of t a lines) start refl ∙ run.3;
      left = λ b h. calls_where (code_of t) lines (depth_of t) a b (end_of t a lines) (to_come t a lines b h) refl;
    }
