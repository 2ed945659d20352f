use Rattle.std.proofs.Common.{rules, ◌≡◌, ◌∷◌, ap, ◌∙◌}
use Rattle.std.specs.Option.{option_copied}
use Rattle.vir_words.specs.WordLists.{parts, parts_behind}
use Rattle.vir_words.proofs.ListLemmas.{goes_on, is_over}
use Rattle.vir_words.proofs.word_lists.read_list.Goals as goal

pub returns : goal.returns
returns g c =
    is_over g.P.Part.part_of c.args.sign c.args.most c.loop.list.items c.loop.counter c.loop.rest.now c.args.word.now
    c.loop-test.false c.loop.invariant.read

pub loop-preserved : goal.loop-preserved
loop-preserved g c =
    let cut_here : parts c.args.sign c.loop.rest.now ≡ c.cut.result.0.now ∷ parts c.args.sign c.in-Some.more.now =
    c.cut.ensures ∙ ap (λ o. c.cut.result.0.now ∷ parts_behind c.args.sign (option_copied o)) c.in-Some.is in
    record {
      read = rw c.in_ok-push-in-Ok-Some.ensures.items
          (goes_on g.P.Part.part_of c.args.sign c.args.most c.loop.list.items c.in-Ok-Some.part c.loop.counter
          c.cut.result.0.now c.loop.rest.now c.args.word.now (parts c.args.sign c.in-Some.more.now)
          c.loop-test.true cut_here c.loop.invariant.read
          (rw c.in-Ok-Some.field-0-is at c.in-Ok-Some.ensures));
      text = search rules;
    }
