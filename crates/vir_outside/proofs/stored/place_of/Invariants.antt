use Rattle.std.proofs.Common.{◌≡◌, drop}
use Rattle.vir_outside.specs.Shelf.{content_of}
use Rattle.vir_outside.proofs.stored.place_of.Given as goal

abbrev pub invariant-loop-place : goal.invariant-loop-place
invariant-loop-place l = content_of l.files l.name ≡ content_of (drop l.place l.files) l.name
