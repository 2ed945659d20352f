use Rattle.std.proofs.Common.{sym, ◌∙◌, ap}
use Rattle.vir_soc.specs.Reader.Stands.{state_of}
use Rattle.vir_soc.proofs.StandLemmas.{fed_ok, fed_err, fed_again}
use Rattle.vir_soc.proofs.soc_reader.SocReader.feed.Goals as goal

pub returns-in-Some-clause-fault : goal.returns-in-Some-clause-fault
returns-in-Some-clause-fault c = λ bytes s. fed_again c.args.self.now bytes s c.args.piece.now c.in-Some.stop
    (sym c.self.view_is ∙ ap (state_of c.self.inside.reader c.self.inside.size) c.in-Some.is)

pub returns-in-Ok-clause-ok : goal.returns-in-Ok-clause-ok
returns-in-Ok-clause-ok c = λ bytes s.
    let e = sym c.self.view_is ∙ ap (state_of c.self.inside.reader c.self.inside.size) c.in-None.is in
    let h = fed_ok c.args.self.now bytes s c.args.piece.now _ _ e c.in-Ok.ensures.exact in
    (ap (state_of c.take.new.reader c.in-Ok.size) c.in-None.is ∙ h.0, h.1)

pub returns-in-Err-clause-fault : goal.returns-in-Err-clause-fault
returns-in-Err-clause-fault c = λ bytes s. fed_err c.args.self.now bytes s c.args.piece.now _ c.in-Err.stop
    (sym c.self.view_is ∙ ap (state_of c.self.inside.reader c.self.inside.size) c.in-None.is) c.in-Err.ensures.exact
