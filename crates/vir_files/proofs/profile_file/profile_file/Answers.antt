use Rattle.std.proofs.Common.{◌≡◌, ◌≤◌, ◌+◌, List, ℕ, ◌++◌, ap, length, IsSome, IsTrue, rules, refl, inl, inr, ◌∙◌}
use Rattle.std.specs.Io.KnownBytes.{prepend_known}
use Rattle.vir_files.proofs.FedLemmas.{SeesFile, reads_rest, stops_taken, told_taken}
use Rattle.vir_files.specs.Files.{profiles}
use Rattle.vir_files.proofs.PerformLemmas.{later_then, reads_fault, takes_later}
use Rattle.vir_files.proofs.profile_file.profile_file.Goals as goal
use Rattle.vir_outside.specs.Shelf.{TakesAtMost, before_reads, told_content, up_to_select}
use Rattle.vir_soc.specs.declared.soc_reader.TheConstants.{PROFILE_SIZE_LIMIT}

pub returns-in-Err-clause-reads : goal.returns-in-Err-clause-reads
returns-in-Err-clause-reads g c =
    let takes : TakesAtMost (g.S.Shelf.seen c.select.new.self) c.args.name.now (PROFILE_SIZE_LIMIT + 1) = search rules
    in
    reads_fault profiles SeesFile _ _ _ _
    (record {
      asked = ap up_to_select c.select.ensures.asked;
      later = c.select.ensures.later;
      left = record { takes = takes; is_selected = inl refl };
    }) c.in-Err.ensures.failed refl

pub returns-in-Ok-clause-reads : goal.returns-in-Ok-clause-reads
returns-in-Ok-clause-reads g c =
    let old = g.S.Shelf.seen c.args.shelf.now in
    let mid = g.S.Shelf.seen c.select.new.self in
    let new = g.S.Shelf.seen c.selected_profile.new.shelf in
    let later = later_then old mid new c.select.ensures.later c.selected_profile.ensures.later in
    let t = c.selected_profile.ensures.taken in
    let takes : IsSome old.files → IsTrue new.selected → (taken : List ℕ) × (length taken ≤ PROFILE_SIZE_LIMIT + 1)
    × (told_content old.files c.args.name.now ≡ prepend_known taken new.rest) = λ told is_selected. (
      t.front ++ t.piece,
      t.within,
      told_taken old.files c.args.name.now mid.rest new.rest (t.front ++ t.piece) c.in-Ok.ensures.content t.taken told,
    ) in
    reads_rest _ old mid new _ c.select.ensures.later c.in-Ok.ensures.content
    (record {
      asked = c.selected_profile.ensures.reads_on ∙ ap before_reads c.select.ensures.asked;
      later = later;
      left = record {
        takes = takes_later old new c.args.name.now (PROFILE_SIZE_LIMIT + 1) later takes;
        is_selected = inr c.selected_profile.ensures.selected;
      };
    })
    c.selected_profile.ensures.answers

pub returns-in-Ok-clause-stops : goal.returns-in-Ok-clause-stops
returns-in-Ok-clause-stops g c =
    let old = g.S.Shelf.seen c.args.shelf.now in
    let mid = g.S.Shelf.seen c.select.new.self in
    let new = g.S.Shelf.seen c.selected_profile.new.shelf in
    stops_taken old new mid.rest c.args.name.now
    (later_then old mid new c.select.ensures.later c.selected_profile.ensures.later) c.in-Ok.ensures.content
    c.selected_profile.ensures.taken
