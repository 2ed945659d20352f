use Rattle.std.proofs.Common.{◌≡◌, ℕ, Bool, true, false, cond, List, drop, nat_eq, ap, ◌∙◌}
use Rattle.std.specs.List.{list_any}
use Rattle.vir_profile.specs.SocFiles.{is_line_feed}
use Rattle.vir_soc.proofs.AnyLemmas.{list_any-drop}
use Rattle.vir_soc.proofs.TrimLemmas.{list_any-trim}
use Rattle.vir_soc.proofs.line.after_line.Goals as goal

one_of : (first mark : Bool) (text : List ℕ) → list_any is_line_feed text ≡ false → list_any is_line_feed
    (cond first (cond mark (drop 3 text) text) text) ≡ false
one_of true true text h = list_any-drop is_line_feed 3 text h
one_of true false text h = h
one_of false mark text h = h

pub after_text-requires : goal.after_text-requires
after_text-requires c =
    ap (list_any is_line_feed) c.trim.ensures ∙ list_any-trim c.unmarked.result.now
    (ap (list_any is_line_feed) c.unmarked.ensures ∙ one_of (nat_eq c.args.line 1) _ c.args.text.now c.requires)
