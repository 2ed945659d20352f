use Rattle.std.proofs.Common.{ap, ◌∙◌}
use Rattle.std.specs.List.{list_any}
use Rattle.vir_profile.specs.SocFiles.{is_line_feed}
use Rattle.vir_soc.proofs.AnyLemmas.{list_any-before_first}
use Rattle.vir_soc.proofs.bytes.first_line.Goals as goal

pub returns-clause-one_line : goal.returns-clause-one_line
returns-clause-one_line c = ap (list_any is_line_feed) c.cut.ensures.before ∙ list_any-before_first is_line_feed
    c.args.bytes.now
