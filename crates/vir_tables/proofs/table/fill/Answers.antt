use Rattle.std.proofs.Common.{◌≡◌, ◌+◌, ◌-◌, ◌≤◌, ◌∙◌, ℕ, true, false, arith, cond, get_or, nat_eq, nat_lt, sym}
use Rattle.std.proofs.lemmas.Bool.Decides.{nat_tests}
use Rattle.vir_altset.specs.Sets.{all}
use Rattle.vir_mean.proofs.PairWeights.{pairwise_weight-both}
use Rattle.vir_profile.proofs.OrderLaws.{listing_of_accepted}
use Rattle.vir_profile.specs.Orders.{puts_before}
use Rattle.vir_profile.specs.Profiles.{IsProfileOn, pairwise_weight}
use Rattle.vir_tables.specs.Table.{cell}
use Rattle.vir_tables.proofs.Lines.{weight_where_le_total}
use Rattle.vir_tables.proofs.RankedPairs.{member_of_range}
use Rattle.vir_tables.proofs.table.fill.Goals as goal

pub complete-requires-clause-room : goal.complete-requires-clause-room
complete-requires-clause-room c a b ha hb below =
    let filled = c.fill_by_blocks.ensures.filled.at a b ha hb below in
    let most = weight_where_le_total (puts_before a b) c.args.lines.now in
    let voters = c.requires.voters in
    omega (arith, filled, most, voters)

-- each cell, by the half in which it stands
either_half : (a b new up down before after voters : ℕ) → new ≡ cond (nat_lt b a) (voters - down) up
    → (b ≤ a → down ≡ after) → (a ≤ b → up ≡ before) → (nat_lt b a ≡ true → before + after ≡ voters) → new ≡ before
either_half a b new up down before after voters e f g h = grind (arith, nat_tests)

unequal : (a b : ℕ) → nat_lt b a ≡ true → nat_eq a b ≡ false
unequal a b h = grind (arith, nat_tests)

pub returns : goal.returns
returns c =
    let m = c.args.m in
    let lines = c.args.lines.now in
    let filled = c.fill_by_blocks.ensures.filled in
    let on : IsProfileOn (all m) lines = λ i e h. listing_of_accepted m (get_or lines i e).order
    (c.requires.known.orders i e h) in
    record {
      size = c.complete.ensures.size;
      weights = record {
        at = λ a b ha hb.
            either_half a b _ (cell c.fill_by_blocks.new.table m a b) (cell c.fill_by_blocks.new.table m b a)
            (pairwise_weight lines a b) (pairwise_weight lines b a) c.args.voters
            (c.complete.ensures.written.at a b ha hb)
            (λ h. filled.at b a hb ha h) (λ h. filled.at a b ha hb h)
            (λ h. pairwise_weight-both (all m) a b (unequal a b h) (member_of_range m a ha.low ha.high) lines on
            ∙ sym c.requires.voters);
      };
    }
