-- The properties of rules, as names.
use Rattle.std.specs.Prelude.{List, [], ◌∷◌}
use Rattle.vir_term.specs.declared.prop.Prop.{Prop}
use Rattle.vir_term.specs.declared.prop.Prop.TheVariants.{
  Ne,
  Ea,
  El,
  Defers,
  Rejects,
  Elim,
  Nb,
  Decr,
  Dli,
  Imono,
  Dimono,
  Dmono,
  Mono,
  Cc,
  Dcc,
  Cprog,
  Ccomp,
  Neut,
}

-- all of them in their order, those of a number at the number 1
abbrev pub all_props : List Prop
all_props =
    Ne ∷ Ea ∷ El ∷ Defers 1 ∷ Rejects 1 ∷ Elim 1 ∷ Nb ∷ Decr
    ∷ Dli ∷ Imono ∷ Dimono ∷ Dmono ∷ Mono ∷ Cc ∷ Dcc ∷ Cprog ∷ Ccomp ∷ Neut ∷ []
