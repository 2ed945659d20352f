use Rattle.vir_words.proofs.ListLemmas.{cut_at, no_cut}
use Rattle.vir_words.proofs.word_lists.cut.Goals as goal

pub returns-in-Some : goal.returns-in-Some
returns-in-Some c =
    cut_at c.args.sign c.args.word.now c.in-Some.first c.in-Some.behind c.in-Some.ensures.cases c.requires

pub returns-in-None : goal.returns-in-None
returns-in-None c = no_cut c.args.sign c.args.word.now c.in-None.ensures.cases c.requires
