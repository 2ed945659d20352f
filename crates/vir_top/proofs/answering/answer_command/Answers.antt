use Rattle.std.proofs.Common.{ap}
use Rattle.vir_files.proofs.CallLemmas.{performs_works}
use Rattle.vir_top.proofs.AnswerLemmas.{plain_answer, synth_same}
use Rattle.vir_words.specs.Command.{command_seen}
use Rattle.vir_top.proofs.answering.answer_command.Goals as goal

pub returns-in-Synth : goal.returns-in-Synth
returns-in-Synth g c =
    rw (ap command_seen c.in-Synth.is)
    (plain_answer g.S.Shelf.seen c.args.shelf.now _ _ _
    (synth_same c.in-Synth.size _ _ _ _ _ c.deref.ensures.value c.deref-in-Synth.ensures.value c.synth.ensures))

pub returns-in-Drill : goal.returns-in-Drill
returns-in-Drill g c =
    rw (ap command_seen c.in-Drill.is) (performs_works _ _ g.S.Shelf.seen c.args.shelf.now _ _ _ c.drill.ensures)

pub returns-in-OnRule : goal.returns-in-OnRule
returns-in-OnRule g c = rw (ap command_seen c.in-OnRule.is) (c.answer_rule.ensures _)

pub returns-in-OnProfile : goal.returns-in-OnProfile
returns-in-OnProfile g c = rw (ap command_seen c.in-OnProfile.is) (c.answer_profile.ensures _)

pub returns-in-Check : goal.returns-in-Check
returns-in-Check g c = rw (ap command_seen c.in-Check.is) (c.answer_check.ensures _)

pub returns-in-RefutePair : goal.returns-in-RefutePair
returns-in-RefutePair g c =
    rw (ap command_seen c.in-RefutePair.is) (c.answer_refute_pair.ensures _)
