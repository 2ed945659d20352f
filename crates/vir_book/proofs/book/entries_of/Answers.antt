use Rattle.std.proofs.Common.{sym, drop}
use Rattle.vir_read.proofs.TypingLemmas.{fails_on, fails_as}
use Rattle.vir_book.specs.Entries.{entries}
use Rattle.vir_book.specs.Listing.{written}
use Rattle.vir_book.proofs.StepLemmas.{stops, goes, reads, adds}
use Rattle.vir_book.proofs.book.entries_of.Goals as goal

pub returns-then-at-list-clause-exact : goal.returns-then-at-list-clause-exact
returns-then-at-list-clause-exact g c =
    stops c.args.text.now c.args.list.now c.loop.counter c.loop.at (entries g.T.KeptTerm.meaning c.loop.found) _
    c.loop-test.true
    c.loop.invariant.same c.if-at-list.true

pub returns-in-Err-clause-exact : goal.returns-in-Err-clause-exact
returns-in-Err-clause-exact g c = fails_as c.in-Err.e _ _
    (goes c.args.text.now c.args.list.now c.loop.counter c.loop.at (entries g.T.KeptTerm.meaning c.loop.found) _
    c.loop-test.true
    c.loop.invariant.same c.if-at-list.false)
    (fails_on c.in-Err.e _ _ c.in-Err.ensures.exact)

pub returns-in-Err-add_definition-clause-exact : goal.returns-in-Err-add_definition-clause-exact
returns-in-Err-add_definition-clause-exact g c = fails_as c.in-Err-add_definition.e _ _
    (reads c.args.text.now c.args.list.now c.loop.counter c.loop.at (entries g.T.KeptTerm.meaning c.loop.found) _
    c.loop-test.true
    c.loop.invariant.same
    (written c.in-Ok.definition) (drop c.in-Ok.definition.next c.args.list.now) c.if-at-list.false
    c.in-Ok.ensures.exact)
    (fails_on c.in-Err-add_definition.e _ _ c.in-Err-add_definition.ensures.exact)

pub loop-preserved : goal.loop-preserved
loop-preserved g c = record {
  same = sym (adds c.args.text.now c.args.list.now c.loop.counter c.loop.at (entries g.T.KeptTerm.meaning
      c.loop.found) _ c.loop-test.true
      c.loop.invariant.same
      (written c.in-Ok.definition) (drop c.in-Ok.definition.next c.args.list.now) (entries g.T.KeptTerm.meaning
      c.in-Ok-add_definition.after)
      c.if-at-list.false c.in-Ok.ensures.exact
      c.in-Ok-add_definition.ensures.exact);
  within = c.in-Ok-add_definition.ensures.within;
}
