use Rattle.std.proofs.Common.{◌≡◌, ◌++◌, drop}
use Rattle.vir_code.specs.Listing.{lines_text, listing_text}
use Rattle.vir_code.proofs.text.push_lines.Given as goal

-- what is written, with the lines of what is left
abbrev pub invariant-loop-at : goal.invariant-loop-at
invariant-loop-at l =
    l.text.items ++ lines_text l.at (drop l.at l.list) ≡ l.fn.text.items ++ listing_text l.list
