use Rattle.std.proofs.Common.{◌≡◌, ◌+◌, ℕ, [], List, Some, Ok, refl}
use Rattle.std.specs.List.{after_first, before_first}
use Rattle.vir_profile.specs.Profiles.{Votes}
use Rattle.vir_profile.specs.SocFiles.{is_line_feed}
use Rattle.vir_soc.specs.Content.{Content}
use Rattle.vir_soc.specs.Reader.Pieces.{end_line}
use Rattle.vir_soc.specs.Reader.UsualLines.{BeginsWithLine}
use Rattle.vir_soc.specs.Reader.Views.{progress_of}
use Rattle.vir_soc.specs.declared.line_reader.LineReader.{LineReader}
use Rattle.vir_soc.proofs.UsualLemmas.{after_first-line, end_line-votes}
use Rattle.vir_soc.proofs.line_reader.take_usual.Goals as goal

-- a line of votes is added to the profile
taken : (r : LineReader) (old new : Votes) (bytes rest : List ℕ) → r.draft.profile ≡ Some old → r.begun ≡ []
    → new.alternatives ≡ old.alternatives → BeginsWithLine old.alternatives bytes old.lines new.lines rest
    → (rest ≡ after_first is_line_feed bytes) × (end_line (progress_of r) (before_first is_line_feed bytes)
    ≡ Ok (progress_of (record {
      draft = record r.draft { profile = Some new };
      line = r.line + 1;
      begun = r.begun;
    })))
taken r old new bytes rest known none same l =
    let content : Content = record {
      alternatives = Some old.alternatives;
      voters = r.draft.voters;
      orders = r.draft.orders;
      names = r.draft.names;
      votes = old.lines;
    } in (
      after_first-line content r.line old.alternatives bytes rest new.lines l,
      rw (known, none, same) (end_line-votes content r.line old.alternatives bytes rest new.lines l refl),
    )

pub returns : goal.returns
returns c = taken c.args.reader.now c.in-Some.profile c.take_ended.new.profile c.args.bytes.now
    c.in_ok-rest.rest.now c.in-Some.is c.requires.begun c.in_ok-rest.ensures.alternatives c.in_ok-rest.ensures.taken
