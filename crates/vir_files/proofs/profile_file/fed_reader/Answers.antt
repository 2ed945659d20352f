use Rattle.std.proofs.Common.{◌≡◌, ℕ, ◌+◌, ◌++◌, ◌≤◌, ◌<◌, ◌∙◌, List, [], None, refl, length, take, drop, ap}
use Rattle.std.proofs.Common.{sym, subst, arith}
use Rattle.std.proofs.lemmas.Bool.Decides.{nat_tests}
use Rattle.std.proofs.lemmas.Grind.{common_steps}
use Rattle.std.proofs.lemmas.List.{take-append-le}
use Rattle.vir_soc.specs.Reader.Answers.{Shows}
use Rattle.vir_soc.specs.Soc.{settled}
use Rattle.vir_soc.specs.declared.soc_reader.TheConstants.{PROFILE_SIZE_LIMIT}
use Rattle.vir_soc.specs.Reader.Stands.{stands}
use Rattle.vir_outside.proofs.Rests.{before_reads-some, consumes_more}
use Rattle.vir_outside.specs.Shelf.{before_reads}
use Rattle.vir_files.proofs.FedLemmas.{all_taken, length-piece, none_taken, settled-nothing, settled-within}
use Rattle.vir_files.proofs.FedLemmas.{shown_of_rest, starts_taken, still_taken, takes_fed, takes_piece}
use Rattle.vir_files.proofs.PerformLemmas.{later_same, later_then}
use Rattle.vir_files.proofs.profile_file.fed_reader.Goals as goal

pub loop-taken-init : goal.loop-taken-init
loop-taken-init g c =
    record {
      reads_on = refl;
      is_selected = c.requires;
      within = omega arith;
      later = later_same (g.S.Shelf.seen c.args.shelf.now);
      fed = [];
      stands_for = c.new-reader.ensures;
      settles_nothing = settled-nothing;
      long = refl;
      parts = starts_taken (g.S.Shelf.seen c.args.shelf.now).rest;
    }

pub returns-in_default-clause-taken : goal.returns-in_default-clause-taken
returns-in_default-clause-taken g c =
    let so_far = c.loop-taken.invariant in
    takes_fed _ _ so_far.fed so_far.settles_nothing (omega arith)
    (still_taken _ _ _ so_far.fed so_far.parts c.in_default.ensures.bytes)

pub returns-then-count-eq0-clause-fed : goal.returns-then-count-eq0-clause-fed
returns-then-count-eq0-clause-fed g c =
    let so_far = c.loop-taken.invariant in
    let none : c.in-Ok.count ≡ 0 = grind (arith, nat_tests) in
    let some : 0 < length c.read.new.buf = grind (arith, common_steps) in
    record {
      bytes = so_far.fed;
      stands_for = so_far.stands_for;
      told =
          all_taken _ _ so_far.fed
          (none_taken _ _ _ so_far.fed c.read.new.buf c.in-Ok.count none so_far.parts c.in-Ok.ensures.bytes.0)
          (c.in-Ok.ensures.bytes.1 none some);
    }

pub returns-then-count-eq0-clause-taken : goal.returns-then-count-eq0-clause-taken
returns-then-count-eq0-clause-taken g c =
    let so_far = c.loop-taken.invariant in
    let none : c.in-Ok.count ≡ 0 = grind (arith, nat_tests) in
    takes_fed _ _ so_far.fed so_far.settles_nothing (omega arith)
    (none_taken _ _ _ so_far.fed c.read.new.buf c.in-Ok.count none so_far.parts c.in-Ok.ensures.bytes.0)

pub returns-in-Err-clause-stops : goal.returns-in-Err-clause-stops
returns-in-Err-clause-stops g c =
    let so_far = c.loop-taken.invariant in
    let buf = c.read.new.buf in
    let fed : take c.in-Ok.count (buf ++ drop c.room_after-room.result c.loop-taken.piece) ≡ take c.in-Ok.count buf =
    take-append-le c.in-Ok.count buf _ c.in-Ok.ensures.bound.0 in
    rw c.stop_of.ensures
    (shown_of_rest _ _ _ so_far.fed (take c.in-Ok.count buf) _ c.in-Err.error so_far.parts c.in-Ok.ensures.bytes.0
    (subst (λ (p : List ℕ). Shows c.in-Err.error (settled (so_far.fed ++ p))) fed (c.in-Err.ensures.fault so_far.fed
    so_far.stands_for)))

pub returns-in-Err-clause-taken : goal.returns-in-Err-clause-taken
returns-in-Err-clause-taken g c =
    let so_far = c.loop-taken.invariant in
    takes_piece _ _ _ so_far.fed c.read.new.buf c.in-Ok.count so_far.settles_nothing (omega arith)
    (grind (arith, common_steps)) (grind (arith, common_steps)) so_far.parts c.in-Ok.ensures.bytes.0

pub loop-taken-preserved : goal.loop-taken-preserved
loop-taken-preserved g c =
    let so_far = c.loop-taken.invariant in
    let buf = c.read.new.buf in
    let n = c.in-Ok.count in
    let fed : take n (buf ++ drop c.room_after-room.result c.loop-taken.piece) ≡ take n buf = take-append-le n buf _
    c.in-Ok.ensures.bound.0 in
    let after = c.in_default-feed.ensures.ok so_far.fed so_far.stands_for in
    let long : length (so_far.fed ++ take n buf) ≡ length so_far.fed + n = length-piece so_far.fed buf n
    c.in-Ok.ensures.bound.0 in
    let fine : settled (so_far.fed ++ take n buf) ≡ None = ap (λ (p : List ℕ). settled (so_far.fed ++ p)) (sym fed)
    ∙ after.1 in
    let size : length (so_far.fed ++ take n buf) ≤ PROFILE_SIZE_LIMIT = settled-within (so_far.fed ++ take n buf) fine
    in
    let some : 0 < n = grind (arith, nat_tests) in
    record {
      reads_on = ap before_reads c.in-Ok.ensures.asked ∙ before_reads-some n _ some ∙ so_far.reads_on;
      is_selected = c.in-Ok.ensures.selected;
      within = omega arith;
      later = later_then _ _ _ so_far.later c.in-Ok.ensures.later;
      fed = so_far.fed ++ take n buf;
      stands_for = after.0 ∙ ap (λ (p : List ℕ). stands (so_far.fed ++ p)) fed;
      settles_nothing = fine;
      long = omega arith;
      parts = consumes_more _ _ _ so_far.fed (take n buf) so_far.parts c.in-Ok.ensures.bytes.0;
    }
