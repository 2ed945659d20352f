use Rattle.std.proofs.Common.{sym, subst}
use Rattle.vir_soc.specs.Reader.Given.{AreGiven, MayBeName}
use Rattle.vir_soc.proofs.NameLemmas.{AreGiven-with_name}
use Rattle.vir_soc.proofs.names.Names.put.Goals as goal

pub invariant_of-self-2 : goal.invariant_of-self-2
invariant_of-self-2 c = subst (AreGiven MayBeName 1) (sym c.in_ok-insert.ensures.entries)
    (AreGiven-with_name MayBeName c.args.number c.args.text c.requires.text 1 c.self.inside.given.entries
    c.requires.alternative c.self.invariant)
