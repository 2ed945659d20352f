-- The kinds of modules that a positional counter serves.
-- (The program's promises don't stand on this file.)
use Rattle.std.specs.Prelude.{List, []}
use Rattle.vir_term.specs.declared.leaf.LeafKind.{LeafKind}
use Rattle.vir_term.specs.declared.score.Score.TheVariants.{Plurality, Borda}
use Rattle.vir_counter.specs.Kinds.{eliminator_kinds}
use Rattle.vir_positional.specs.declared.weight_form.WeightForm.{WeightForm}
use Rattle.vir_positional.specs.declared.weight_form.WeightForm.TheVariants as form

-- the eliminators of the score that has the form's name; a list has none
abbrev pub served_kinds : WeightForm → List LeafKind
served_kinds form.Plurality = eliminator_kinds Plurality
served_kinds form.Borda = eliminator_kinds Borda
served_kinds (form.List list) = []
