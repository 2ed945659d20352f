use Rattle.std.proofs.Common.{◌-◌}
use denote.Shadow.{shadow}
use denote.Text.{Utf8}
use Rattle.vir_words.specs.WordLists.{parts}
use Rattle.vir_words.proofs.ListLemmas.{IsReadTo}
use Rattle.vir_words.proofs.word_lists.read_list.Given as goal

abbrev pub invariant-loop : goal.invariant-loop
invariant-loop g l =
    record {
      read : IsReadTo g.P.Part.part_of l.sign l.most l.list.items (l.most - l.counter) (parts l.sign l.rest) l.word;
      text : shadow (Utf8 l.rest);
    }
