use Rattle.std.proofs.Common.{◌≡◌, ◌+◌, ◌<◌, List, ℕ, ap, ◌∙◌, length, false}
use Rattle.std.specs.List.{list_any, after_first, position_or_len}
use Rattle.vir_profile.specs.SocFiles.{IsNameText, is_line_feed}
use Rattle.vir_soc.specs.Lines.{trim}
use Rattle.vir_soc.specs.LineKinds.{is_colon}
use Rattle.vir_soc.proofs.AnyLemmas.{list_any-drop}
use Rattle.vir_soc.proofs.TrimLemmas.{IsNameText-trim}
use Rattle.vir_soc.proofs.metadata.after_metadata.Goals as goal

value_is : (text value trimmed : List ℕ) → list_any is_line_feed text ≡ false → value ≡ after_first is_colon text
    → trimmed ≡ trim value → 0 < length trimmed → IsNameText trimmed
value_is text value trimmed h v t some =
    let none : list_any is_line_feed value ≡ false = ap (list_any is_line_feed) v ∙ list_any-drop is_line_feed
    (position_or_len is_colon text + 1) text h in
    rw t (IsNameText-trim value none (rw (← t) some))

pub after_key-requires-clause-value : goal.after_key-requires-clause-value
after_key-requires-clause-value c =
    let e = rw c.in-Some.is at c.cut.ensures.after in
    value_is c.args.text.now c.in-Some.value.now c.trim-in-Some.result.now c.requires e.1 c.trim-in-Some.ensures
