-- When an exchange of two neighbours violates neutrality.
use Rattle.std.proofs.Common.{◌≡◌, ◌↔◌, ℕ, ◌+◌, ◌≤◌, Bool, true, false, true≢false, not, IsTrue}
use Rattle.std.proofs.Common.{refl, sym, ap, ◌∙◌, arith}
use Rattle.vir_altset.specs.declared.split.Split.{Split}
use Rattle.vir_profile.specs.Profiles.{Votes}
use Rattle.vir_term.specs.declared.prop.Prop.TheVariants.{Neut}
use Rattle.vir_mean.specs.Modules.{Meaning}
use Rattle.vir_mean.specs.Neutrality.{renamed_lines, renamed_split}
use Rattle.vir_refute.specs.Cases.{renamed, split_by, under}
use Rattle.vir_refute.specs.Judged.{election_of}
use Rattle.vir_refute.specs.Violations.{Violates}
use Rattle.vir_find.specs.Exchanges.{exchanging}
use Rattle.vir_find.proofs.NeighbourExchanges.{exchange_onto}

module _ (f : Meaning) (votes other : Votes) (i : ℕ) (before after : Split) (low : 1 ≤ i)
    (high : i + 1 ≤ votes.alternatives) (is : other ≡ record votes { lines = renamed_lines (exchanging i) votes.lines })
    (first : before ≡ split_by f (election_of votes)) (second : after ≡ split_by f (election_of other)) where
  under_names : after ≡ split_by f (under (exchanging i) (election_of votes))
  under_names =
      second ∙ ap (λ (v : Votes). split_by f (election_of v)) is
      ∙ ap (λ a. f a (renamed_lines (exchanging i) votes.lines))
      (sym (exchange_onto votes.alternatives i low (omega arith)).onto)

  pub violated_by_exchange : (b : Bool) → IsTrue b ↔ (after ≡ renamed_split (exchanging i) before)
      → IsTrue (not b) ↔ Violates Neut f (renamed (election_of votes) (exchanging i))
  violated_by_exchange true same = (
    λ h. absurd (true≢false (sym h)),
    λ violates.
        absurd (violates.conclusion_false (sym under_names ∙ same.0 refl ∙ ap (renamed_split (exchanging i)) first)),
  )
  violated_by_exchange false same = (
    λ h. record {
      one_or_lift = (exchange_onto votes.alternatives i low (omega arith)).renaming;
      premise = refl;
      conclusion_false = λ concluded. true≢false (sym (same.1
          (under_names ∙ concluded ∙ ap (renamed_split (exchanging i)) (sym first))));
    },
    λ violates. refl,
  )
