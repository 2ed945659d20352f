-- One instruction of a run that a machine does, with what its counters count.
use Rattle.std.proofs.Common.{◌≡◌, ◌<◌, List, [], ◌∷◌, ◌++◌, Some, None, sym, ap, ◌∙◌, subst}
use Rattle.std.specs.Prelude.{slice_get}
use Rattle.vir_altset.specs.Sets.{Set, IsPart}
use Rattle.vir_altset.specs.declared.split.Split.{Split}
use Rattle.vir_profile.specs.declared.ballot.Entry.{Entry}
use Rattle.vir_profile.specs.Profiles.{restrict}
use Rattle.vir_term.specs.Tree.{Tree}
use Rattle.vir_code.specs.declared.instr.Instr.{Instr}
use Rattle.vir_code.specs.Code.{code_of}
use Rattle.vir_compile.specs.Exec.{State, act, start_of, IsReached}
use Rattle.vir_compile.specs.Calls.{called, calls_left, calls_of}
use Rattle.vir_compile.specs.StepsLeft.{steps_left}
use Rattle.vir_compile.proofs.Executed.{calls_exact}
use Rattle.vir_compile.proofs.Reached.{onward_to, no_calls}
use Rattle.vir_machine.specs.Bench.{CounterView, kinds_of}
use Rattle.vir_machine.specs.Asked.{asked}
use Rattle.vir_machine.proofs.Asked.{asked-append, kinds_of-asked}

-- the split that is popped is the one that was left
pub popped : (stack rest : List Split) (top only : Split) → stack ≡ top ∷ rest → stack ≡ only ∷ [] → only ≡ top
popped stack rest top only e f = let g : only ∷ [] ≡ top ∷ rest = sym f ∙ e in cc

-- no instruction changes what is served
pub same_kinds : (at : Instr) (before after : List CounterView) → after ≡ asked (called at) before → kinds_of after
    ≡ kinds_of before
same_kinds at before after calls = ap kinds_of calls ∙ kinds_of-asked (called at) before

module _ (code : List Instr) (t : Tree) (is : code ≡ code_of t) (a : Set) (lines : List Entry) (b : State)
    (reached : IsReached code a lines b) where
  -- the instruction that stands there was done, and led to another state
  module _ (at : Instr) (stands : slice_get code b.place ≡ Some at) (c : State) (leads : act lines at b ≡ Some c) where
    pub fewer_left : steps_left code lines c < steps_left code lines b
    fewer_left = let g = onward_to code t is a lines b reached at stands c leads
        in subst (λ s. steps_left code lines s < steps_left code lines b) g.1 g.0.fewer

    pub part_next : IsPart c.domain a
    part_next = let g = onward_to code t is a lines b reached at stands c leads
        in subst (λ (s : State). IsPart s.domain a) g.1 g.0.part

    -- what was asked and what is left to ask come to the same
    pub asked_on : (before after : List CounterView) → after ≡ asked (called at) before
        → asked (calls_left code lines c) after ≡ asked (calls_left code lines b) before
    asked_on before after count =
        let g = onward_to code t is a lines b reached at stands c leads in
        let calls : calls_left code lines b ≡ called at ++ calls_left code lines c = g.0.calls
        ∙ ap (λ s. called at ++ calls_left code lines s) g.1 in
        ap (asked (calls_left code lines c)) count
        ∙ sym (asked-append (called at) (calls_left code lines c) before)
        ∙ ap (λ m. asked m before) (sym calls)

  -- where no instruction stands, all that the meaning calls was asked for
  pub asked_all : slice_get code b.place ≡ None → (before after : List CounterView) → asked (calls_left code lines b)
      after ≡ asked (calls_left code lines (start_of a)) before → after ≡ asked (calls_of t a (restrict a lines)) before
  asked_all none before after count =
      let all : calls_left code lines (start_of a) ≡ calls_of t a (restrict a lines) =
      ap (λ l. calls_left l lines (start_of a)) is ∙ (calls_exact t a lines).all in
      ap (λ m. asked m after) (sym (no_calls code t is a lines b reached none))
      ∙ count
      ∙ ap (λ m. asked m before) all
