use Rattle.std.proofs.Common.{◌≡◌, ℕ, ◌+◌, ◌-◌, List, length, take, drop, ap, sym, ◌∙◌, arith}
use Rattle.std.specs.List.{position_or_len}
use Rattle.std.proofs.lemmas.List.{length-drop, length-take, take_all}
use Rattle.vir_batch.specs.Manifest.{is_line_feed, lines, with_line, with_lines, without_return}
use Rattle.vir_batch.proofs.LineLemmas.{fails_so, first_line, line_fails, line_gives, names_at_end}
use Rattle.vir_batch.proofs.manifest.read_lines.Goals as goal

-- all bytes from a place on
rest_length : (at : ℕ) (text : List ℕ) → position_or_len is_line_feed (take (length text - at) (drop at text))
    ≡ position_or_len is_line_feed (drop at text)
rest_length at text =
    let size = length-drop at text in
    ap (position_or_len is_line_feed) (take_all (length text - at) (drop at text) (omega arith))

-- so many bytes from a place on
front : (at n : ℕ) (text line : List ℕ) → line ≡ without_return (take (at + n - at) (drop at text))
    → without_return (take n (drop at text)) ≡ line
front at n text line is =
    let same : n ≡ at + n - at = omega arith in
    ap (λ k. without_return (take k (drop at text))) same ∙ sym is

pub loop-at-preserved : goal.loop-at-preserved
loop-at-preserved c =
    let at = c.loop-at.at in
    let n = c.line_length.result in
    let text = c.args.text.now in
    let names = c.loop-at.names in
    let line = front at n text c.without_return.result.now c.without_return.ensures in
    let next : ℕ = at + n + 1 in
    let size = length-take (length text - at) (drop at text) in
    let rest = length-drop at text in
    let within = c.line_length.ensures.within in (
      sym (line_gives (with_line names at (without_return (take n (drop at text))))
          (λ more. with_lines more next (lines (drop next text))) c.push_line.new.self
          (ap (with_line names at) line ∙ c.in_default.ensures))
          ∙ sym (first_line names at text n (c.line_length.ensures.length ∙ rest_length at text))
          ∙ c.loop-at.invariant.0,
      omega arith,
    )

pub returns-in-Err : goal.returns-in-Err
returns-in-Err c =
    let at = c.loop-at.at in
    let n = c.line_length.result in
    let text = c.args.text.now in
    let names = c.loop-at.names in
    let line = front at n text c.without_return.result.now c.without_return.ensures in
    let next : ℕ = at + n + 1 in
    let one = with_line names at (without_return (take n (drop at text))) in
    let rest = λ (more : List (List ℕ)). with_lines more next (lines (drop next text)) in
    fails_so c.in-Err.error _ _
    (sym (first_line names at text n (c.line_length.ensures.length ∙ rest_length at text)) ∙ c.loop-at.invariant.0)
    (line_fails c.in-Err.error one rest
    (fails_so c.in-Err.error _ _ (ap (with_line names at) (sym line)) c.in-Err.ensures))

pub returns : goal.returns
returns c = sym c.loop-at.invariant.0 ∙ names_at_end c.loop-at.names c.loop-at.at c.args.text.now c.loop-at-test.false
