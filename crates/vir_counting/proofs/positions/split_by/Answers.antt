use Rattle.vir_positional.specs.declared.weight_form.WeightForm.TheVariants as form
use Rattle.vir_counting.proofs.RunLemmas.{positional_split_of_whole, whole_of}
use Rattle.vir_counting.proofs.positions.split_by.Goals as goal

pub returns : goal.returns
returns c =
    let election = c.without_table-election.result in
    let whole = whole_of election c.args.file c.alternatives.result c.all-domain.result c.without_table-election.ensures
    c.all-domain.ensures c.alternatives.ensures.number c.alternatives.ensures.limits in
    positional_split_of_whole c.args.kind c.new-rule.result (form.List c.args.weights) c.args.file.profile _ _ _ whole
    c.new-rule.ensures c.positional_split.ensures.exact
