use Rattle.vir_bench.proofs.FullBenchLemmas.{by_answer}
use Rattle.virage.proofs.calling.call.Goals as goal

pub returns : goal.returns
returns g c =
    by_answer _ _ c.call_on_full_bench-answered.result _ c.exit_code.ensures
    (rw c.words_behind_name-words.ensures at c.call_on_full_bench-answered.ensures.calls)
    c.call_on_full_bench-answered.ensures.undone
