use Rattle.std.proofs.Common.{rules, ◌-◌, length, take, drop, map}
use Rattle.vir_term.specs.Tree.{tree}
use Rattle.vir_counting.proofs.DrillRunLemmas.{made_more, made_one, parts_of, served_first, served_rest, within_rest}
use Rattle.vir_counting.proofs.drills.+push_results.Goals as goal

pub split_of-requires-clause-served : goal.split_of-requires-clause-served
split_of-requires-clause-served g t c =
    let terms = c.args.terms.now in
    let rest = take (length terms - 1) (drop 1 terms) in
    let parts = parts_of terms c.first-item.result c.in-len1-up.len_at_least c.first-item.is in
    served_first _ (map tree terms) (tree c.first-item.result) (map tree rest) parts c.requires.served

pub returns-in_err-push_elected-in-len1-up-clause-began : goal.returns-in_err-push_elected-in-len1-up-clause-began
returns-in_err-push_elected-in-len1-up-clause-began g t c =
    let terms = c.args.terms.now in
    let rest = take (length terms - 1) (drop 1 terms) in
    let parts = parts_of terms c.first-item.result c.in-len1-up.len_at_least c.first-item.is in
    made_one c.args.election.now.profile (map tree terms) (tree c.first-item.result) (map tree rest) _ _ _ parts
    c.in_ok-split-in-len1-up.ensures.ran

pub push_results-requires : goal.push_results-requires
push_results-requires g t c =
    let terms = c.args.terms.now in
    let rest = take (length terms - 1) (drop 1 terms) in
    let parts = parts_of terms c.first-item.result c.in-len1-up.len_at_least c.first-item.is in (
      search rules,
      (
        within_rest (map tree terms) (tree c.first-item.result) (map tree rest) parts c.requires.within,
        served_rest (map tree terms) (tree c.first-item.result) (map tree rest) c.args.election.now.profile _ _ parts
            c.requires.served c.in_ok-split-in-len1-up.ensures.ran,
      ),
    )

pub returns-in_ok-push_elected-in-len1-up-clause-began : goal.returns-in_ok-push_elected-in-len1-up-clause-began
returns-in_ok-push_elected-in-len1-up-clause-began g t c =
    let terms = c.args.terms.now in
    let rest = take (length terms - 1) (drop 1 terms) in
    let parts = parts_of terms c.first-item.result c.in-len1-up.len_at_least c.first-item.is in
    made_more c.args.election.now.profile (map tree terms) (tree c.first-item.result) (map tree rest) _ _ _
    c.push_results.result parts c.in_ok-split-in-len1-up.ensures.ran c.push_results.ensures.began
