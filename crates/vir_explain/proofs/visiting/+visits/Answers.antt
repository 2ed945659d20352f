use Rattle.std.proofs.Common.{◌≡◌, ◌≢◌, ◌+◌, ◌-◌, suc, false, true≢false, ◌++◌}
use Rattle.std.proofs.Common.{ap, sym, refl, subst, ◌∙◌, arith, rules, IfOk}
use Rattle.std.proofs.lemmas.Result.{err_from_is_err_and}
use Rattle.std.specs.FinSet as set
use Rattle.vir_altset.specs.Sets.{all, IsPart}
use Rattle.vir_altset.specs.declared.split.Split.{Split}
use Rattle.vir_profile.specs.Profiles.{restrict}
use Rattle.vir_term.specs.Tree.{tree, size, exactly, at_most, rev, seq, par, loop}
use Rattle.vir_term.proofs.Beginnings.{begins_after, begins_itself}
use Rattle.vir_mean.specs.Compositions.{IsEnd, is_end, joined, loop_of}
use Rattle.vir_mean.specs.Meaning.{mean}
use Rattle.vir_mean.proofs.LoopLaws.{joined-all_deferred, loop_of-few, loop_of-none, loop_of-whole}
use Rattle.vir_mean.proofs.LoopLaws.{len-deferred, joined-turn}
use Rattle.vir_mean.proofs.MeaningLaws.{mean-split}
use Rattle.vir_explain.specs.Endings.{end_of}
use Rattle.vir_explain.specs.Visits.{left_by, rounds, visits}
use Rattle.vir_explain.specs.VisitTexts.{visits_text}
use Rattle.vir_explain.proofs.Meant.{all_left, at_end, before_end, left_part, left_within}
use Rattle.vir_explain.proofs.Meant.{some_left, undecided_joined}
use Rattle.vir_explain.proofs.Composed.{appends_whole, loop_parts, par_parts, parts_of, rev_parts, seq_parts}
use Rattle.vir_explain.proofs.Composed.{too_long_whole}
use Rattle.vir_explain.proofs.Rounds.{told-end, told-more, told-none, told-whole, too_long-round}
use Rattle.vir_explain.proofs.visiting.+visits.Goals as goal

-- ---- rounds

pub visit_rounds-loop-round-init : goal.visit_rounds-loop-round-init
visit_rounds-loop-round-init t c =
    let a = c.args.domain.now in
    let lines = c.args.election.now.profile.lines in
    let body = tree c.args.body.now in
    let k = end_of c.args.ending in
    let start : c.defer_all-so_far.result.deferred ≡ a = ap (λ (s : Split). s.deferred) c.defer_all-so_far.ensures in
    record {
      whole =
          ap (λ (s : Split). joined s (loop_of k (mean body) s.deferred (restrict s.deferred lines)))
          c.defer_all-so_far.ensures ∙ undecided_joined a (loop_of k (mean body) a (restrict a lines));
      told = let none_made : suc (set.len a) - 0 ≡ suc (set.len a) = omega arith in ap (λ m. c.args.text.now.items
          ++ visits_text (rounds m k (left_by body lines) (visits c.args.place body lines)
          c.defer_all-so_far.result.deferred)) none_made ∙ ap (λ d. c.args.text.now.items
          ++ visits_text (rounds (suc (set.len a)) k (left_by body lines)
          (visits c.args.place body lines) d)) start;
      begun = begins_itself _ _ refl;
      part = subst (λ d. IsPart d (all c.args.election.now.profile.alternatives)) (sym start) c.requires.part;
      fewer = let same : set.len c.defer_all-so_far.result.deferred ≡ set.len a = ap set.len start in omega arith;
    }

pub visit_rounds-returns-then-ends_at-clause-split : goal.visit_rounds-returns-then-ends_at-clause-split
visit_rounds-returns-then-ends_at-clause-split t c =
    let so_far = c.loop-round.so_far in
    let left = restrict so_far.deferred c.args.election.now.profile.lines in
    let k = end_of c.args.ending in
    let few : IsEnd k (set.len so_far.deferred) = at_end k _ (sym c.ends_at.ensures ∙ c.if-ends_at.true) in
    sym (joined-all_deferred so_far left)
    ∙ ap (joined so_far) (sym (loop_of-few k (mean (tree c.args.body.now)) so_far.deferred left few))
    ∙ c.loop-round.invariant.whole

pub visit_rounds-returns-then-ends_at-clause-text : goal.visit_rounds-returns-then-ends_at-clause-text
visit_rounds-returns-then-ends_at-clause-text t c =
    let lines = c.args.election.now.profile.lines in
    let body = tree c.args.body.now in
    told-end (end_of c.args.ending) (left_by body lines) (visits c.args.place body lines) _ c.loop-round.so_far.deferred
    _ _ (sym c.ends_at.ensures ∙ c.if-ends_at.true) c.loop-round.invariant.told

pub visit_rounds-returns-then-equals-clause-split : goal.visit_rounds-returns-then-equals-clause-split
visit_rounds-returns-then-equals-clause-split t c =
    let body = tree c.args.body.now in
    let so_far = c.loop-round.so_far in
    let left = restrict so_far.deferred c.args.election.now.profile.lines in
    let is : c.in_ok-next.next ≡ mean body so_far.deferred left = c.in_ok-next.ensures.split in
    let whole : (mean body so_far.deferred left).deferred ≡ so_far.deferred = ap (λ (s : Split). s.deferred) (sym is)
    ∙ c.equals.ensures.0 c.if-equals.true in
    sym (joined-all_deferred so_far left)
    ∙ ap (joined so_far) (sym (loop_of-whole (end_of c.args.ending) (mean body) (mean-split body) so_far.deferred
    left whole)) ∙ c.loop-round.invariant.whole

pub visit_rounds-returns-then-equals-clause-text : goal.visit_rounds-returns-then-equals-clause-text
visit_rounds-returns-then-equals-clause-text t c =
    let lines = c.args.election.now.profile.lines in
    let body = tree c.args.body.now in
    let so_far = c.loop-round.so_far in
    let is : c.in_ok-next.next ≡ mean body so_far.deferred (restrict so_far.deferred lines) = c.in_ok-next.ensures.split
    in
    let whole : left_by body lines so_far.deferred ≡ so_far.deferred = ap (λ (s : Split). s.deferred) (sym is)
    ∙ c.equals.ensures.0 c.if-equals.true in
    told-whole (end_of c.args.ending) (left_by body lines) (visits c.args.place body lines)
    (suc (set.len c.args.domain.now))
    c.loop-round._round so_far.deferred _ _ _ (omega arith) (sym c.ends_at.ensures ∙ c.if-ends_at.false)
    (all_left so_far.deferred (left_by body lines so_far.deferred) whole) c.loop-round.invariant.told
    c.in_ok-next.ensures.text

pub visit_rounds-loop-round-preserved : goal.visit_rounds-loop-round-preserved
visit_rounds-loop-round-preserved t c =
    let lines = c.args.election.now.profile.lines in
    let body = tree c.args.body.now in
    let k = end_of c.args.ending in
    let so_far = c.loop-round.so_far in
    let next = c.in_ok-next.next in
    let left = restrict so_far.deferred lines in
    let is : next ≡ mean body so_far.deferred left = c.in_ok-next.ensures.split in
    let on : is_end k (set.len so_far.deferred) ≡ false = sym c.ends_at.ensures ∙ c.if-ends_at.false in
    let some : IsEnd k (set.len so_far.deferred) → ⊥ = before_end k _ on in
    let other : next.deferred ≢ so_far.deferred = λ e. true≢false (sym (c.equals.ensures.1 e) ∙ c.if-equals.false) in
    let apart : left_by body lines so_far.deferred ≢ so_far.deferred = λ e. other (ap (λ (s : Split). s.deferred) is
    ∙ e) in
    let further : c.join_in_sequence-so_far.result ≡ joined so_far next = c.join_in_sequence-so_far.ensures in
    let smaller = len-deferred k (mean body) (mean-split body) so_far.deferred left apart in
    let left_is : c.join_in_sequence-so_far.result.deferred ≡ left_by body lines so_far.deferred =
    ap (λ (s : Split). s.deferred) further ∙ ap (λ (s : Split). s.deferred) is in
    let less : set.len c.join_in_sequence-so_far.result.deferred ≡ set.len (left_by body lines so_far.deferred) =
    ap set.len left_is in
    record {
      whole =
          ap (λ (s : Split). joined s (loop_of k (mean body) s.deferred (restrict s.deferred lines))) further
          ∙ joined-turn k (mean body) (mean-split body) so_far next lines is some other ∙ c.loop-round.invariant.whole;
      told =
          told-more k (left_by body lines) (visits c.args.place body lines) (suc (set.len c.args.domain.now))
          c.loop-round._round so_far.deferred _ _ _ _ (omega arith) on
          (some_left so_far.deferred (left_by body lines so_far.deferred) (left_part body lines so_far.deferred) apart)
          left_is c.loop-round.invariant.told c.in_ok-next.ensures.text;
      begun = begins_after _ _ _ _ c.loop-round.invariant.begun c.in_ok-next.ensures.text;
      part = subst (λ d. IsPart d (all c.args.election.now.profile.alternatives)) (sym left_is)
          (λ x member. c.loop-round.invariant.part x (left_part body lines so_far.deferred x member));
      fewer = let before = c.loop-round.invariant.fewer in omega arith;
    }

pub visit_rounds-returns-clause-split : goal.visit_rounds-returns-clause-split
visit_rounds-returns-clause-split t c =
    let so_far = c.loop-round.so_far in
    let left = restrict so_far.deferred c.args.election.now.profile.lines in
    let none : set.len so_far.deferred ≡ 0 = let fewer = c.loop-round.invariant.fewer in let all_made =
    c.count-most.ensures.exact in omega arith in
    sym (joined-all_deferred so_far left)
    ∙ ap (joined so_far) (sym (loop_of-none (end_of c.args.ending) (mean (tree c.args.body.now)) so_far.deferred
    left none)) ∙ c.loop-round.invariant.whole

pub visit_rounds-returns-clause-text : goal.visit_rounds-returns-clause-text
visit_rounds-returns-clause-text t c =
    let lines = c.args.election.now.profile.lines in
    let body = tree c.args.body.now in
    let none : suc (set.len c.args.domain.now) - c.loop-round._round ≡ 0 = let all_made = c.count-most.ensures.exact
    in omega arith
    in
    told-none (end_of c.args.ending) (left_by body lines) (visits c.args.place body lines)
    (suc (set.len c.args.domain.now))
    c.loop-round._round c.loop-round.so_far.deferred _ _ none c.loop-round.invariant.told

-- ---- terms

pub visit-returns-in_ok-one-in-Rev : goal.visit-returns-in_ok-one-in-Rev
visit-returns-in_ok-one-in-Rev t c =
    let part = tree c.deref.result.now in
    let is : tree c.args.term.now ≡ rev part = search rules in
    let parts = parts_of _ _ c.args.place _ _ c.args.election.now.profile.lines c.args.domain.now _ is
    (rev_parts c.args.text.now.items _ c.args.place part c.args.election.now.profile.lines c.args.domain.now _ _
    c.in_ok-one-in-Rev.ensures.split c.in_ok-one-in-Rev.ensures.text c.revise.ensures) in
    let done = c.visit_composition.ensures in
    record {
      split = subst (λ s. IfOk c.visit_composition.result (λ given. given ≡ s)) parts.split done.split;
      text = appends_whole _ _ _ _ _ _ _ _ _ parts done.text;
      short = done.short;
      long = too_long_whole _ _ _ _ _ _ _ _ parts done.long;
    }

pub visit-returns-in_ok-other-in-Seq : goal.visit-returns-in_ok-other-in-Seq
visit-returns-in_ok-other-in-Seq t c =
    let first = tree c.deref-in-Seq.result.now in
    let second = tree c.deref-in-Seq-3.result.now in
    let is : tree c.args.term.now ≡ seq first second = search rules in
    let size_is : c.size.result ≡ size first = search rules in
    let parts = parts_of _ _ c.args.place _ _ c.args.election.now.profile.lines c.args.domain.now _ is
    (seq_parts c.args.text.now.items _ _ c.args.place _ first second c.args.election.now.profile.lines
    c.args.domain.now _ _ _ c.in_ok-one-in-Seq.ensures.split c.in_ok-other-in-Seq.ensures.split
    c.in_ok-one-in-Seq.ensures.text c.in_ok-other-in-Seq.ensures.text size_is c.join_in_sequence.ensures) in
    let done = c.visit_composition-in-Seq.ensures in
    record {
      split = subst (λ s. IfOk c.visit_composition-in-Seq.result (λ given. given ≡ s)) parts.split done.split;
      text = appends_whole _ _ _ _ _ _ _ _ _ parts done.text;
      short = done.short;
      long = too_long_whole _ _ _ _ _ _ _ _ parts done.long;
    }

pub visit-returns-in_ok-other-in-Par : goal.visit-returns-in_ok-other-in-Par
visit-returns-in_ok-other-in-Par t c =
    let first = tree c.deref-in-Par.result.now in
    let second = tree c.deref-in-Par-3.result.now in
    let is : tree c.args.term.now ≡ par first second = search rules in
    let size_is : c.size-in-Par.result ≡ size first = search rules in
    let parts = parts_of _ _ c.args.place _ _ c.args.election.now.profile.lines c.args.domain.now _ is
    (par_parts c.args.text.now.items _ _ c.args.place _ first second c.args.election.now.profile.lines
    c.args.domain.now _ _ _ c.in_ok-one-in-Par.ensures.split c.in_ok-other-in-Par.ensures.split
    c.in_ok-one-in-Par.ensures.text c.in_ok-other-in-Par.ensures.text size_is c.join_in_parallel.ensures) in
    let done = c.visit_composition-in-Par.ensures in
    record {
      split = subst (λ s. IfOk c.visit_composition-in-Par.result (λ given. given ≡ s)) parts.split done.split;
      text = appends_whole _ _ _ _ _ _ _ _ _ parts done.text;
      short = done.short;
      long = too_long_whole _ _ _ _ _ _ _ _ parts done.long;
    }

pub visit-returns-in_ok-split-in-Loop : goal.visit-returns-in_ok-split-in-Loop
visit-returns-in_ok-split-in-Loop t c =
    let body = tree c.deref-in-Loop.result.now in
    let is : tree c.args.term.now ≡ loop (exactly c.in-Loop.k) body = search rules in
    let parts = parts_of _ _ c.args.place _ _ c.args.election.now.profile.lines c.args.domain.now _ is
    (loop_parts c.args.text.now.items _ c.args.place (exactly c.in-Loop.k) body c.args.election.now.profile.lines
    c.args.domain.now _ c.in_ok-split-in-Loop.ensures.text c.in_ok-split-in-Loop.ensures.split) in
    let done = c.visit_composition-in-Loop.ensures in
    record {
      split = subst (λ s. IfOk c.visit_composition-in-Loop.result (λ given. given ≡ s)) parts.split done.split;
      text = appends_whole _ _ _ _ _ _ _ _ _ parts done.text;
      short = done.short;
      long = too_long_whole _ _ _ _ _ _ _ _ parts done.long;
    }

pub visit-returns-in_ok-split-in-Until : goal.visit-returns-in_ok-split-in-Until
visit-returns-in_ok-split-in-Until t c =
    let body = tree c.deref-in-Until.result.now in
    let is : tree c.args.term.now ≡ loop (at_most c.in-Until.k) body = search rules in
    let parts = parts_of _ _ c.args.place _ _ c.args.election.now.profile.lines c.args.domain.now _ is
    (loop_parts c.args.text.now.items _ c.args.place (at_most c.in-Until.k) body c.args.election.now.profile.lines
    c.args.domain.now _ c.in_ok-split-in-Until.ensures.text c.in_ok-split-in-Until.ensures.split) in
    let done = c.visit_composition-in-Until.ensures in
    record {
      split = subst (λ s. IfOk c.visit_composition-in-Until.result (λ given. given ≡ s)) parts.split done.split;
      text = appends_whole _ _ _ _ _ _ _ _ _ parts done.text;
      short = done.short;
      long = too_long_whole _ _ _ _ _ _ _ _ parts done.long;
    }

pub visit-visit-requires-in-Seq-2 : goal.visit-visit-requires-in-Seq-2
visit-visit-requires-in-Seq-2 t c =
    let first = tree c.deref-in-Seq.result.now in
    let second = tree c.deref-in-Seq-3.result.now in
    let is : tree c.args.term.now ≡ seq first second = search rules in
    let whole : size (tree c.args.term.now) ≡ 1 + size first + size second = ap size is in
    let size_is : c.size.result ≡ size first = search rules in
    let room = c.requires.room in
    let measure = c.decreases in (
      omega arith,
      (
        left_within first c.args.election.now.profile.lines c.args.domain.now
            (all c.args.election.now.profile.alternatives) c.in_ok-one-in-Seq.one c.in_ok-one-in-Seq.ensures.split
            c.requires.part,
        omega arith,
      ),
    )

pub visit_rounds-returns-in_err-next-clause-long : goal.visit_rounds-returns-in_err-next-clause-long
visit_rounds-returns-in_err-next-clause-long t c =
    let lines = c.args.election.now.profile.lines in
    let body = tree c.args.body.now in
    let p = err_from_is_err_and c.from_residual.result c.from_residual.ensures.1 in
    rw (p.1, p.2) (λ why. too_long-round (end_of c.args.ending) (left_by body lines) (visits c.args.place body lines)
    (suc (set.len c.args.domain.now)) c.loop-round._round c.loop-round.so_far.deferred _ _ (omega arith)
    (sym c.ends_at.ensures ∙ c.if-ends_at.false) c.loop-round.invariant.told (c.in_err-next.ensures.long why))
