-- The status that the program ends with.
-- (The program's promises don't stand on this file.)
use Rattle.std.specs.Prelude.{◌≡◌, ◌⊎◌, ℕ, List, Result, Ok, Err}
use Rattle.std.specs.declared.alloc.AllocError.{AllocError}
use Rattle.std.specs.declared.string.String.{String}
use Rattle.vir_machine.specs.Runs.{BenchView}
use Rattle.vir_outside.specs.Shelf.{ShelfView}
use Rattle.vir_outside.specs.Sink.{SinkView}
use Rattle.vir_top.specs.Calls.{AnswersWords, Calls}
use Rattle.vir_top.specs.Delivery.{Delivers}
use Rattle.vir_words.specs.Command.{are_listed, command_in}
use Rattle.vir_bench.specs.FullBench.{full_bench}

-- that of a call, or that of want of memory
abbrev pub status_or_memory : Result ℕ AllocError → ℕ
status_or_memory (Ok status) = status
status_or_memory (Err error) = 7

-- There is one answer to these words on a bench of the eight counters, and it is delivered with this status; or memory
-- was wanting for the bench, and nothing is done.
abbrev pub Exits : {Z S O E : Type 0} → List (String Z) → ℕ → (S → ShelfView) → S → S → (O → SinkView) → O → O
    → (E → SinkView) → E → E → Type 0
Exits words status seen shelf left out old new err err_old err_new =
    ((bench : BenchView)
    × Calls (AnswersWords (are_listed words) (command_in words) seen shelf left full_bench bench)
    (λ answer. Delivers answer status out old new err err_old err_new))
    ⊎ ((status ≡ 7) × ((left ≡ shelf) × (new ≡ old) × (err_new ≡ err_old)))
