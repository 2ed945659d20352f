-- What the reader's parts are seen as.
-- (The program's promises don't stand on this file.)
use Rattle.std.specs.Prelude.{ℕ, List, [], Option, Some, None}
use Rattle.vir_profile.specs.declared.ballot.Entry.{Entry}
use Rattle.vir_profile.specs.Profiles.{Votes}
use Rattle.vir_soc.specs.declared.draft.Draft.{Draft}
use Rattle.vir_soc.specs.declared.line_reader.LineReader.{LineReader}
use Rattle.vir_soc.specs.Content.{Content}
use Rattle.vir_soc.specs.Reader.Pieces.{Progress, Reading}

-- the votes so far
abbrev pub votes_of : Option Votes → List Entry
votes_of None = []
votes_of (Some profile) = profile.lines

-- the number of alternatives, once it is stated
abbrev pub alternatives_of : Option Votes → Option ℕ
alternatives_of None = None
alternatives_of (Some profile) = Some profile.alternatives

abbrev pub content_of : Draft → Content
content_of s = record {
  alternatives = alternatives_of s.profile;
  voters = s.voters;
  orders = s.orders;
  names = s.names;
  votes = votes_of s.profile;
}

abbrev pub progress_of : LineReader → Progress
progress_of l = record { content = content_of l.draft; line = l.line; begun = l.begun }

abbrev pub reading_of : LineReader → ℕ → Reading
reading_of l size = record { progress = progress_of l; size = size }
