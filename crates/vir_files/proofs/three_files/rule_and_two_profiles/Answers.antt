use Rattle.std.proofs.Common.{ℕ, List, ap, ◌∙◌}
use Rattle.std.proofs.lemmas.Result.{err_from_is_err_and}
use Rattle.vir_course.specs.Courses.{Course}
use Rattle.vir_profile.specs.SocFiles.{File}
use Rattle.vir_term.specs.Tree.{Tree, tree}
use Rattle.vir_files.specs.Contents.{Contents}
use Rattle.vir_files.specs.Files.{profiles, rules}
use Rattle.vir_files.specs.Readings.{RuleProfile, rule_and_profile_of, rule_at, rule_profile, rule_two_profiles}
use Rattle.vir_files.specs.Values.{SeesRuleProfile, SeesRuleTwoProfiles}
use Rattle.vir_files.proofs.FedLemmas.{SeesFile}
use Rattle.vir_files.proofs.PerformLemmas.{AsksBefore, asks_further, asks_more, asks_one, further_all, further_first}
use Rattle.vir_files.proofs.PerformLemmas.{further_last}
use Rattle.vir_files.proofs.three_files.rule_and_two_profiles.Goals as goal

abbrev reads_rule : List ℕ → Contents → Course Tree
reads_rule name contents = rule_at contents 0 name

abbrev reads_both : List ℕ → List ℕ → Contents → Course RuleProfile
reads_both rule profile contents = rule_and_profile_of contents rule profile

asks_both : (rule profile : List ℕ) → AsksBefore 2 (reads_both rule profile)
asks_both rule profile = asks_further (reads_rule rule) 1 profiles rule_profile profile (asks_one rules rule)

pub returns-in_err-both-clause-performs : goal.returns-in_err-both-clause-performs
returns-in_err-both-clause-performs g c = λ bench.
    let p = err_from_is_err_and c.from_residual.result c.from_residual.ensures.1 in
    rw (p.1, p.2)
    (further_first (reads_both c.args.rule_name.now c.args.first_name.now) 2 (asks_both _ _) profiles
    rule_two_profiles SeesRuleProfile SeesFile SeesRuleTwoProfiles c.args.second_name.now g.S.Shelf.seen bench
    c.args.shelf.now c.rule_and_profile.new.shelf c.in_err-both.field-0.0 (c.in_err-both.ensures.performs bench))

pub returns-in_err-both-clause-asks : goal.returns-in_err-both-clause-asks
returns-in_err-both-clause-asks g c = c.rule_and_profile.ensures.asks

pub returns-in_err-second-clause-performs : goal.returns-in_err-second-clause-performs
returns-in_err-second-clause-performs g c = λ bench.
    let p = err_from_is_err_and c.from_residual-in_err-second.result c.from_residual-in_err-second.ensures.1 in
    rw (p.1, p.2)
    (further_last (reads_both c.args.rule_name.now c.args.first_name.now) 2 (asks_both _ _) profiles
    rule_two_profiles SeesRuleProfile SeesFile SeesRuleTwoProfiles c.args.second_name.now g.S.Shelf.seen bench
    c.args.shelf.now c.rule_and_profile.new.shelf c.profile_file.new.shelf c.in_ok-both.both
    (c.in_ok-both.ensures.performs bench) c.in_err-second.field-0.0 c.in_err-second.ensures.reads)

pub returns-in_err-second-clause-asks : goal.returns-in_err-second-clause-asks
returns-in_err-second-clause-asks g c =
    asks_more (g.S.Shelf.seen c.args.shelf.now) (g.S.Shelf.seen c.rule_and_profile.new.shelf)
    (g.S.Shelf.seen c.profile_file.new.shelf) c.args.rule_name.now c.args.second_name.now
    c.rule_and_profile.ensures.asks c.in_err-second.ensures.reads.took.asked

pub returns-clause-performs : goal.returns-clause-performs
returns-clause-performs g c = λ bench.
    let both = c.in_ok-both.both in
    further_all (reads_both c.args.rule_name.now c.args.first_name.now) 2 (asks_both _ _) profiles rule_two_profiles
    SeesRuleProfile SeesFile SeesRuleTwoProfiles c.args.second_name.now g.S.Shelf.seen bench c.args.shelf.now
    c.rule_and_profile.new.shelf c.profile_file.new.shelf c.in_ok-both.both (c.in_ok-both.ensures.performs bench)
    c.in_ok-second.second _
    (λ said file first last. ap (λ (s : RuleProfile). rule_two_profiles s file) first
    ∙ ap (λ (f : File). rule_two_profiles (rule_profile (tree both.rule) both.file) f) last)
    c.in_ok-second.ensures.reads

pub returns-clause-asks : goal.returns-clause-asks
returns-clause-asks g c =
    asks_more (g.S.Shelf.seen c.args.shelf.now) (g.S.Shelf.seen c.rule_and_profile.new.shelf)
    (g.S.Shelf.seen c.profile_file.new.shelf) c.args.rule_name.now c.args.second_name.now
    c.rule_and_profile.ensures.asks c.in_ok-second.ensures.reads.took.asked
