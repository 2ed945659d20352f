use Rattle.std.proofs.Common.{ap, ◌∙◌}
use Rattle.std.proofs.lemmas.Result.{err_from_is_err_and}
use Rattle.vir_profile.specs.SocFiles.{File}
use Rattle.vir_term.specs.Tree.{Tree, tree}
use Rattle.vir_files.specs.Files.{profiles, rules}
use Rattle.vir_files.specs.Readings.{rule_profile}
use Rattle.vir_files.specs.Values.{SeesRuleProfile}
use Rattle.vir_files.proofs.FedLemmas.{SeesFile}
use Rattle.vir_files.proofs.PerformLemmas.{asks_first, asks_more, performs_both, performs_first, performs_last}
use Rattle.vir_files.proofs.RuleLemmas.{SeesTree}
use Rattle.vir_files.proofs.two_files.rule_and_profile.Goals as goal

pub returns-in_err-rule-clause-performs : goal.returns-in_err-rule-clause-performs
returns-in_err-rule-clause-performs g c = λ bench.
    let p = err_from_is_err_and c.from_residual.result c.from_residual.ensures.1 in
    rw (p.1, p.2)
    (performs_first rules profiles rule_profile SeesTree SeesFile SeesRuleProfile c.args.rule_name.now
    c.args.profile_name.now g.S.Shelf.seen bench c.args.shelf.now c.rule_file.new.shelf c.in_err-rule.field-0.0
    c.in_err-rule.ensures.reads)

pub returns-in_err-rule-clause-asks : goal.returns-in_err-rule-clause-asks
returns-in_err-rule-clause-asks g c =
    asks_first (g.S.Shelf.seen c.args.shelf.now) (g.S.Shelf.seen c.rule_file.new.shelf) c.args.rule_name.now
    c.in_err-rule.ensures.reads.took.asked

pub returns-in_err-file-clause-performs : goal.returns-in_err-file-clause-performs
returns-in_err-file-clause-performs g c = λ bench.
    let p = err_from_is_err_and c.from_residual-in_err-file.result c.from_residual-in_err-file.ensures.1 in
    rw (p.1, p.2)
    (performs_last rules profiles rule_profile SeesTree SeesFile SeesRuleProfile c.args.rule_name.now
    c.args.profile_name.now g.S.Shelf.seen bench c.args.shelf.now c.rule_file.new.shelf c.profile_file.new.shelf
    c.in_ok-rule.rule c.in_ok-rule.ensures.reads c.in_err-file.field-0.0 c.in_err-file.ensures.reads)

pub returns-in_err-file-clause-asks : goal.returns-in_err-file-clause-asks
returns-in_err-file-clause-asks g c =
    asks_more (g.S.Shelf.seen c.args.shelf.now) (g.S.Shelf.seen c.rule_file.new.shelf)
    (g.S.Shelf.seen c.profile_file.new.shelf) c.args.rule_name.now c.args.profile_name.now
    (asks_first (g.S.Shelf.seen c.args.shelf.now) (g.S.Shelf.seen c.rule_file.new.shelf) c.args.rule_name.now
    c.in_ok-rule.ensures.reads.took.asked) c.in_err-file.ensures.reads.took.asked

pub returns-clause-performs : goal.returns-clause-performs
returns-clause-performs g c = λ bench.
    performs_both rules profiles rule_profile SeesTree SeesFile SeesRuleProfile c.args.rule_name.now
    c.args.profile_name.now g.S.Shelf.seen bench c.args.shelf.now c.rule_file.new.shelf c.profile_file.new.shelf
    c.in_ok-rule.rule c.in_ok-rule.ensures.reads c.in_ok-file.file _ (λ a b first last.
    ap (λ (t : Tree). rule_profile t b) first ∙ ap (λ (f : File). rule_profile (tree c.in_ok-rule.rule) f) last)
    c.in_ok-file.ensures.reads

pub returns-clause-asks : goal.returns-clause-asks
returns-clause-asks g c =
    asks_more (g.S.Shelf.seen c.args.shelf.now) (g.S.Shelf.seen c.rule_file.new.shelf)
    (g.S.Shelf.seen c.profile_file.new.shelf) c.args.rule_name.now c.args.profile_name.now
    (asks_first (g.S.Shelf.seen c.args.shelf.now) (g.S.Shelf.seen c.rule_file.new.shelf) c.args.rule_name.now
    c.in_ok-rule.ensures.reads.took.asked) c.in_ok-file.ensures.reads.took.asked
