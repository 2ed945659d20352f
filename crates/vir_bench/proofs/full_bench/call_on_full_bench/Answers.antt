use Rattle.std.proofs.Common.{◌≡◌, ℕ, [], refl, ap, ◌∙◌, subst}
use Rattle.vir_machine.specs.Runs.{BenchView, served_by}
use Rattle.vir_machine.specs.Bench.{views}
use Rattle.vir_term.specs.declared.score.Score.{Score}
use Rattle.vir_term.specs.declared.score.Score.TheVariants as score
use Rattle.vir_top.proofs.ServedLemmas.{never_eight}
use Rattle.vir_top.specs.Calls.{AnswersWords, Calls}
use Rattle.vir_top.specs.CommandCourses.{command_course}
use Rattle.vir_top.specs.Delivery.{Delivers}
use Rattle.vir_top.specs.Printed.{IsDueOfCommand, Printed, faults_before, faults_of}
use Rattle.vir_words.specs.Command.{are_listed, command_in}
use Rattle.vir_bench.specs.FullBench.{full_bench}
use Rattle.vir_bench.proofs.FullBenchLemmas.{all_full, is_full, pushed}
use Rattle.vir_bench.proofs.full_bench.call_on_full_bench.Given as given
use Rattle.vir_bench.proofs.full_bench.call_on_full_bench.OwnLists as own
use Rattle.vir_bench.proofs.full_bench.call_on_full_bench.Goals as goal

-- a counter of a score, as it is seen before its first call
scored : {a b : Score} → a ≡ b → ◌≡◌ {A = Score × ℕ} (a, 0) (b, 0)
scored same = ap (λ (s : Score). (s, 0)) same

-- the bench that is lent to `virage`
abbrev lent : (g : given.Over) → goal.After-drop-bench-2 g → BenchView
lent g c =
    record {
      counters = views (λ b. (own.own-1.entry b.vtable).1.kinds b.value) (λ b. (own.own-1.entry b.vtable).1.made
          b.value) c.push-8.new.self.counters.items;
      runs = c.push-8.new.self.runs;
    }

-- and as it is left
abbrev left : (g : given.Over) → goal.After-drop-bench-2 g → BenchView
left g c =
    record {
      counters = views (λ b. (own.own-1.entry b.vtable).1.kinds b.value) (λ b. (own.own-1.entry b.vtable).1.made
          b.value) c.virage.new.bench.counters.items;
      runs = c.virage.new.bench.runs;
    }

full : (g : given.Over) (c : goal.After-drop-bench-2 g) → lent g c ≡ full_bench
full g c =
    let p1 = pushed own.own-1 (λ e v. e.1.kinds v) (λ e v. e.1.made v) _ _ _ _ [] own.entry-1-1 own.at-1-1 refl _ _ _ 0
    c.into_dyn_box.ensures.1 (c.in_ok-new.ensures.ok ∙ c.new.ensures) refl c.in_ok-push.ensures.ok
    c.new-bench.ensures.counters in
    let p2 = pushed own.own-1 (λ e v. e.1.kinds v) (λ e v. e.1.made v) _ _ _ _ _ own.entry-1-2 own.at-1-2 refl _ _ _ 0
    c.into_dyn_box-in_ok-new-2.ensures.1 (c.in_ok-new-2.ensures.ok ∙ c.new-3.ensures) refl c.in_ok-push-2.ensures.ok
    p1 in
    let p3 = pushed own.own-1 (λ e v. e.1.kinds v) (λ e v. e.1.made v) _ _ _ _ _ own.entry-1-3 own.at-1-3 refl _ _ _ 0
    c.into_dyn_box-in_ok-new-3.ensures.1 (c.in_ok-new-3.ensures.ok ∙ c.new-5.ensures) refl c.in_ok-push-3.ensures.ok
    p2 in
    let p4 = pushed own.own-1 (λ e v. e.1.kinds v) (λ e v. e.1.made v) _ _ _ _ _ own.entry-1-4 own.at-1-4 refl _ _ _
    (score.Plurality, 0) c.into_dyn_box-in_ok-new-4.ensures.1 (c.in_ok-new-4.ensures.ok ∙ c.new-plurality.ensures
    ∙ scored c.new-7.ensures) refl c.in_ok-push-4.ensures.ok p3 in
    let p5 = pushed own.own-1 (λ e v. e.1.kinds v) (λ e v. e.1.made v) _ _ _ _ _ own.entry-1-4 own.at-1-4 refl _ _ _
    (score.Borda, 0) c.into_dyn_box-in_ok-new-5.ensures.1 (c.in_ok-new-5.ensures.ok ∙ c.new-borda.ensures
    ∙ scored c.new-9.ensures) refl c.in_ok-push-5.ensures.ok p4 in
    let p6 = pushed own.own-1 (λ e v. e.1.kinds v) (λ e v. e.1.made v) _ _ _ _ _ own.entry-1-4 own.at-1-4 refl _ _ _
    (score.Copeland, 0) c.into_dyn_box-in_ok-new-6.ensures.1 (c.in_ok-new-6.ensures.ok ∙ c.new-copeland.ensures
    ∙ scored c.new-11.ensures) refl c.in_ok-push-6.ensures.ok p5 in
    let p7 = pushed own.own-1 (λ e v. e.1.kinds v) (λ e v. e.1.made v) _ _ _ _ _ own.entry-1-4 own.at-1-4 refl _ _ _
    (score.Minimax, 0) c.into_dyn_box-in_ok-new-7.ensures.1 (c.in_ok-new-7.ensures.ok ∙ c.new-minimax.ensures
    ∙ scored c.new-13.ensures) refl c.in_ok-push-7.ensures.ok p6 in
    let p8 = pushed own.own-1 (λ e v. e.1.kinds v) (λ e v. e.1.made v) _ _ _ _ _ own.entry-1-4 own.at-1-4 refl _ _ _
    (score.Condorcet, 0) c.into_dyn_box-in_ok-new-8.ensures.1 (c.in_ok-new-8.ensures.ok ∙ c.new-condorcet.ensures
    ∙ scored c.new-15.ensures) refl c.in_ok-push-8.ensures.ok p7 in
    is_full _ _ p8 (c.in_ok-push-8.ensures.runs ∙ c.in_ok-push-7.ensures.runs ∙ c.in_ok-push-6.ensures.runs
    ∙ c.in_ok-push-5.ensures.runs ∙ c.in_ok-push-4.ensures.runs ∙ c.in_ok-push-3.ensures.runs
    ∙ c.in_ok-push-2.ensures.runs ∙ c.in_ok-push.ensures.runs ∙ c.new-bench.ensures.runs)

-- what `virage` does, of the bench that is written out
whole : (g : given.Over) (c : goal.After-drop-bench-2 g) → Calls
    (AnswersWords (are_listed c.args.words.now) (command_in c.args.words.now) g.S.Shelf.seen c.args.shelf.now
    c.virage.new.shelf full_bench (left g c))
    (λ answer. Delivers answer c.virage.result g.O.Sink.seen c.args.out.now c.virage.new.out g.E.Sink.seen
    c.args.err.now c.virage.new.err)
whole g c =
    let calls = c.virage.ensures.calls in
    record {
      answer = calls.answer;
      answers =
          subst (λ (bench : BenchView). AnswersWords (are_listed c.args.words.now) (command_in c.args.words.now)
          g.S.Shelf.seen c.args.shelf.now c.virage.new.shelf bench (left g c) calls.answer) (full g c) calls.answers;
      delivers = calls.delivers;
    }

pub returns-clause-calls : goal.returns-clause-calls
returns-clause-calls g c = (left g c, whole g c)

pub returns-clause-serves_all : goal.returns-clause-serves_all
returns-clause-serves_all g c = all_full

pub returns-clause-never_unserved : goal.returns-clause-never_unserved
returns-clause-never_unserved g c =
    never_eight _ _ g.S.Shelf.seen c.args.shelf.now c.virage.new.shelf full_bench _ _ g.O.Sink.seen c.args.out.now
    c.virage.new.out g.E.Sink.seen c.args.err.now c.virage.new.err all_full (whole g c)

pub returns-clause-printed : goal.returns-clause-printed
returns-clause-printed g c = λ command asks is.
    subst (λ (bench : BenchView). Printed (command_course (served_by bench) command)
    (g.S.Shelf.seen c.args.shelf.now).files
    (g.O.Sink.seen c.args.out.now).written (g.O.Sink.seen c.virage.new.out).written) (full g c)
    (c.virage.ensures.printed command asks is)

pub returns-clause-due : goal.returns-clause-due
returns-clause-due g c = λ command all asks told.
    subst (λ (bench : BenchView). IsDueOfCommand (served_by bench) all command c.virage.result
    (faults_before (g.S.Shelf.seen c.args.shelf.now) (g.S.Shelf.seen c.virage.new.shelf)
    (g.O.Sink.seen c.args.out.now))
    (faults_of (g.S.Shelf.seen c.virage.new.shelf) (g.O.Sink.seen c.virage.new.out))) (full g c)
    (c.virage.ensures.due command all asks told)
