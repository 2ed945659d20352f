use Rattle.std.proofs.Common.{◌≡◌, ◌∙◌, ap, arith, get_or, IfSome, subst}
use Rattle.vir_profile.specs.Profiles.{Votes, pairwise_weight}
use Rattle.vir_profile.specs.SocFiles.{File}
use Rattle.vir_tables.specs.Table.{index, IsTable}
use Rattle.vir_tables.proofs.Cells.{get_or_any, index_lt}
use Rattle.vir_tables.proofs.RankedPairs.{is_alternative}
use Rattle.vir_tables.proofs.election.Election.prefers.Goals as goal

pub index-requires-clause-first : goal.index-requires-clause-first
index-requires-clause-first c = rw (c.alternatives.ensures.number, c.profile-profile.ensures)
    (is_alternative _ _ (rw (← c.self.view_is) at c.requires.first))

pub index-requires-clause-second : goal.index-requires-clause-second
index-requires-clause-second c = rw (c.alternatives.ensures.number, c.profile-profile.ensures)
    (is_alternative _ _ (rw (← c.self.view_is) at c.requires.second))

pub returns-in-Some : goal.returns-in-Some
returns-in-Some c =
    let file = c.self.inside.file in
    let m = file.profile.alternatives in
    let t = c.in-Some.table.items in
    let x = c.args.x in
    let y = c.args.y in
    let first = is_alternative m x (rw (← c.self.view_is) at c.requires.first) in
    let second = is_alternative m y (rw (← c.self.view_is) at c.requires.second) in
    let place : c.index.result ≡ index m x y = c.index.ensures.exact ∙ ap (λ n. index n x y)
    (c.alternatives.ensures.number ∙ ap (λ (votes : Votes). votes.alternatives) c.profile-profile.ensures) in
    let filled : IsTable m t file.profile.lines =
    subst (λ found. IfSome found (λ table. IsTable m table.items file.profile.lines)) c.in-Some.is c.self.invariant
    in
    c.index-in-Some.ensures
    ∙ ap (λ i. get_or t i c.index-in-Some.result.now) place
    ∙ get_or_any t (index m x y) c.index-in-Some.result.now 0 (let inside = index_lt m x y first second in let size =
    filled.size in omega arith)
    ∙ filled.weights.at x y first second
    ∙ ap (λ (file : File). pairwise_weight file.profile.lines x y) c.self.view_is
