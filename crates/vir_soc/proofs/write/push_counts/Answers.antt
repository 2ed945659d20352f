use Rattle.std.proofs.Common.{◌∙◌}
use Rattle.std.proofs.lemmas.Result.{on_ok_weaker}
use Rattle.vir_soc.proofs.WriteLemmas.{counts_text-written}
use Rattle.vir_soc.proofs.write.push_counts.Goals as goal

pub returns : goal.returns
returns c = on_ok_weaker c.push_count-3.result (λ e. e ∙ rw (
  c.in_ok-push_count-2.ensures,
  c.in_ok-push_count.ensures,
  c.in_ok-push_metadata.ensures,
  c.from.ensures,
  c.alternatives.ensures.number,
  c.total.ensures,
  c.lines.ensures,
)
    (counts_text-written c.args.out.now.items c.args.profile.now)) c.push_count-3.ensures
