use Rattle.std.proofs.Common.{ap, ◌∙◌}
use Rattle.vir_words.specs.WordProps.{prop_of}
use Rattle.vir_words.proofs.PropLemmas.{word_read}
use Rattle.vir_words.proofs.word_prop.word_prop.Goals as goal

pub returns-clause-prop : goal.returns-clause-prop
returns-clause-prop c =
    word_read c.as_bytes.result.now c.read_prop.result c.read_prop.ensures.found c.read_prop.ensures.missing
    ∙ ap prop_of c.as_bytes.ensures.value
