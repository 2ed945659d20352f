use Rattle.std.proofs.Common.{◌∙◌}
use Rattle.std.proofs.lemmas.Result.{on_ok_weaker}
use Rattle.vir_soc.proofs.WriteLemmas.{name_text-written, on_ok_chosen}
use Rattle.vir_soc.proofs.write.push_name.Goals as goal

pub returns : goal.returns
returns c = on_ok_weaker c.extend_from_slice-4.result
    (λ e. e ∙ rw (
      c.in_ok-extend_from_slice-3.ensures.items,
      c.bytes.ensures,
      c.in_ok-extend_from_slice-2.ensures.items,
      c.in_ok-push_number.ensures,
      c.from.ensures,
      c.in_ok-extend_from_slice.ensures.items,
    )
    (name_text-written c.args.out.now.items c.args.name.now)) (on_ok_chosen c.extend_from_slice-4.result
    c.extend_from_slice-4.new.self.items _ _ c.extend_from_slice-4.ensures.items)
