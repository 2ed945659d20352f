use Rattle.std.proofs.Common.{◌≡◌, ◌≤◌, ◌∙◌, ℕ, length, not, rules, tests, sym, subst}
use Rattle.std.specs.List.{position_or_len}
use Rattle.std.proofs.lemmas.Iterator.{YieldsList-from_slice}
use Rattle.std.proofs.lemmas.Iterator.Consumers.{count_from_yields_List}
use Rattle.std.proofs.lemmas.Iterator.Search.{YieldsList-from_take_while}
use Rattle.std.proofs.lemmas.List.Folds.{length-prefix_len}
use Rattle.std.proofs.lemmas.List.Sums.{prefix_len-le-length}
use Rattle.vir_batch.specs.Manifest.{is_line_feed}
use Rattle.vir_batch.proofs.manifest.line_length.Goals as goal

pub returns : goal.returns
returns c =
    let bytes = c.args.bytes.now in
    let is : c.count.result ≡ position_or_len is_line_feed bytes =
    count_from_yields_List c.take_while.result c.count.result c.count.ensures.ran
    (YieldsList-from_take_while _ (λ byte. not (is_line_feed byte)) (YieldsList-from_slice bytes (cc))
    c.take_while.ensures.closure c.take_while.ensures.done (λ x b q k. search (rules, tests)))
    ∙ length-prefix_len (λ byte. not (is_line_feed byte)) bytes in
    record {
      length = is;
      within =
          subst (λ (n : ℕ). n ≤ length bytes) (sym is)
          (prefix_len-le-length (λ byte. not (is_line_feed byte)) bytes);
    }
