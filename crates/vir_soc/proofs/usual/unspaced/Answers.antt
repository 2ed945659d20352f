use Rattle.std.proofs.Common.{◌≡◌, ◌+◌, ℕ, List, get_or, nat_eq, true, false, arith}
use Rattle.std.proofs.lemmas.Bool.Decides.{nat_tests}
use Rattle.std.proofs.lemmas.List.Sums.{prefix_len-drop_yes}
use Rattle.vir_profile.specs.SocFiles.{is_line_feed}
use Rattle.vir_soc.specs.Reader.UsualLines.{HasLineFeed}
use Rattle.vir_soc.proofs.LineFeedLemmas.{feed_at, feed_inside, feed_step}
use Rattle.vir_soc.proofs.usual.unspaced.Invariants.{SoFar}

SoFar-first : (text : List ℕ) → HasLineFeed text → SoFar text 0
SoFar-first text some = record { spaces = omega arith; feed = some; inside = feed_inside text some }

SoFar-next : (text : List ℕ) (from : ℕ) → get_or text from 0 ≡ 32 → SoFar text from → SoFar text (from + 1)
SoFar-next text from space old =
    let other : is_line_feed (get_or text from 0) ≡ false = grind (arith, nat_tests) in
    let feed = feed_step text from old.inside other old.feed in
    let is : nat_eq (get_or text from 0) 32 ≡ true = grind (arith, nat_tests) in
    let more = prefix_len-drop_yes (λ c. nat_eq c 32) text from 0 old.inside is in
    record {
      spaces = omega (arith, old.spaces);
      feed = feed;
      inside = feed_at text (from + 1) (let l = old.inside in omega arith) feed;
    }
