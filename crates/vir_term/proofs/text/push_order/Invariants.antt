use Rattle.std.proofs.Common.{◌≡◌, ◌++◌, drop}
use Rattle.vir_term.specs.Appending.{Begins}
use Rattle.vir_term.specs.Text.{more_text}
use Rattle.vir_term.proofs.text.push_order.Given as goal

-- what is written, and what is to come, is the whole; and what stood there before is its beginning
abbrev pub invariant-loop-i : goal.invariant-loop-i
invariant-loop-i l = record {
  whole : l.text.items ++ more_text (drop l.i l.order) ≡ l.initial.text.items ++ more_text (drop 1 l.order);
  begun : Begins l.fn.text.items l.text.items;
}
