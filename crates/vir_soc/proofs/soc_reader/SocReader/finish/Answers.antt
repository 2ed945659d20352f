use Rattle.std.proofs.Common.{sym, ◌∙◌, ap, Result, subst}
use Rattle.vir_soc.specs.Reader.Stands.{state_of}
use Rattle.vir_soc.specs.declared.fault.SocFault.{SocFault}
use Rattle.vir_soc.specs.Reader.Answers.{Gives, fault_in}
use Rattle.vir_profile.specs.SocFiles.{File}
use Rattle.vir_soc.specs.Reader.Views.{reading_of}
use Rattle.vir_soc.proofs.StandLemmas.{closes, refuses}
use Rattle.vir_soc.proofs.soc_reader.SocReader.finish.Goals as goal

pub returns-in-Some-clause-file : goal.returns-in-Some-clause-file
returns-in-Some-clause-file c = λ bytes s. refuses c.args.self bytes s c.in-Some.stop (sym c.self.view_is
    ∙ ap (state_of c.self.inside.reader c.self.inside.size) c.in-Some.is)

pub returns-clause-file : goal.returns-clause-file
returns-clause-file c = λ bytes s.
    let e = sym c.self.view_is ∙ ap (state_of c.self.inside.reader c.self.inside.size) c.in-None.is in
    let k = closes c.args.self bytes s (reading_of c.self.inside.reader c.self.inside.size) e in
    let P : Result File SocFault → Type 0 = λ x. Gives fault_in (λ file. file) c.close.result x in
    subst P (sym k) c.close.ensures
