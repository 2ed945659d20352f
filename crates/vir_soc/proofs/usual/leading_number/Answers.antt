use Rattle.std.proofs.Common.{◌≡◌, ◌≤◌, ◌<◌, ◌+◌, ◌*◌, ◌-◌, ◌++◌, ◌∷◌, [], ℕ, List, get_or, decimal, arith, ap}
use Rattle.std.proofs.Common.{sym, ◌∙◌, false}
use Rattle.std.proofs.lemmas.Bool.Decides.{nat_tests}
use Rattle.std.proofs.lemmas.List.{take_more}
use Rattle.vir_profile.specs.SocFiles.{is_line_feed}
use Rattle.vir_soc.specs.Reader.UsualLines.{HasLineFeed}
use Rattle.vir_soc.proofs.LineFeedLemmas.{feed_at, feed_inside, feed_step}
use Rattle.vir_soc.proofs.UsualLemmas.{decimal-first_digit, decimal-next_digit}
use Rattle.vir_soc.proofs.usual.leading_number.Invariants.{SoFar}
use Rattle.vir_soc.proofs.usual.leading_number.Goals as goal

-- a digit is none
no_feed : (c : ℕ) → 48 ≤ c → is_line_feed c ≡ false
no_feed c low = grind (arith, nat_tests)

SoFar-first : (text : List ℕ) (n : ℕ) → HasLineFeed text → 49 ≤ get_or text 0 0 → get_or text 0 0 ≤ 57 → n
    ≡ get_or text 0 0 - 48 → SoFar text 1 n
SoFar-first text n some low high e =
    let inside = feed_inside text some in
    let feed = feed_step text 0 inside (no_feed (get_or text 0 0) (omega arith)) some in
    record {
      digits = take_more text 0 0 inside ∙ sym (ap decimal e ∙ decimal-first_digit (get_or text 0 0) low high);
      some = omega arith;
      begun = omega arith;
      feed = feed;
      inside = feed_at text 1 (omega arith) feed;
    }

SoFar-next : (text : List ℕ) (i n d : ℕ) → n < 100000000000000000 → 48 ≤ get_or text i 0 → get_or text i 0 ≤ 57 → d
    ≡ get_or text i 0 - 48 → SoFar text i n → SoFar text (i + 1) (n * 10 + d)
SoFar-next text i n d small low high e old =
    let inside = old.inside in
    let feed = feed_step text i inside (no_feed (get_or text i 0) low) old.feed in
    record {
      digits = take_more text i 0 inside ∙ ap (λ t. t ++ get_or text i 0 ∷ []) old.digits
          ∙ sym (ap (λ x. decimal (n * 10 + x)) e ∙ decimal-next_digit n (get_or text i 0) old.some small low high);
      some = let s = old.some in omega arith;
      begun = omega arith;
      feed = feed;
      inside = feed_at text (i + 1) (omega arith) feed;
    }

pub loop-i-init : goal.loop-i-init
loop-i-init c = SoFar-first c.args.text.now c.from-number.result c.requires
    (omega arith) (omega arith) c.from-number.ensures

pub loop-i-preserved : goal.loop-i-preserved
loop-i-preserved c = SoFar-next c.args.text.now c.loop-i.i c.loop-i.number c.from.result (omega arith)
    (omega arith) (omega arith) c.from.ensures c.loop-i.invariant
