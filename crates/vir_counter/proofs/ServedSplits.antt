-- The split of a module that a positional counter serves.
use Rattle.std.proofs.Common.{◌≡◌, ℕ, true, true≢false, List, sym, ap, ◌∙◌}
use Rattle.std.specs.FinSet as set
use Rattle.vir_altset.specs.Sets.{Set, IsPart, all}
use Rattle.vir_profile.specs.declared.ballot.Entry.{Entry}
use Rattle.vir_profile.specs.Profiles.{Votes, IsProfile, IsProfileOn, restrict}
use Rattle.vir_profile.proofs.RestrictionLaws.{restricted_orders, profiles_are_complete}
use Rattle.vir_term.specs.declared.leaf.Leaf.{Leaf}
use Rattle.vir_term.specs.declared.score.Score.{Score}
use Rattle.vir_term.specs.declared.score.Score.TheVariants.{Plurality, Borda}
use Rattle.vir_term.specs.Kinds.{kind_of}
use Rattle.vir_mean.specs.declared.elimination.Elimination.{Elimination}
use Rattle.vir_mean.specs.Eliminators.{eliminated, eliminator}
use Rattle.vir_mean.specs.Modules.{leaf_mean}
use Rattle.vir_mean.specs.Scores.{score}
use Rattle.vir_mean.proofs.EliminatedSplits.{goes_same, retain_same}
use Rattle.vir_counter.specs.Kinds.{eliminator_kinds, has_kind}
use Rattle.vir_positional.specs.declared.weight_form.WeightForm.{WeightForm}
use Rattle.vir_positional.specs.declared.weight_form.WeightForm.TheVariants as form
use Rattle.vir_counter.specs.PositionalKinds.{served_kinds}
use Rattle.vir_positional.specs.Positional.{positional, positional_split}
use Rattle.vir_positional.proofs.NamedScores.{plurality_by_weights, borda_by_weights}

-- where the scores of all members are those of a name, so is the split
named_split : (kind : Elimination) (kept : WeightForm) (s : Score) (d : Set) (p : List Entry)
    → ((x : ℕ) → set.contains d x ≡ true → positional kept d p x ≡ score s d p x)
    → positional_split kind kept d p ≡ eliminator kind s d p
named_split kind kept s d p same = ap (eliminated d)
    (retain_same d _ _ (goes_same (positional kept d p) (score s d p) d same kind))

split_on : (leaf : Leaf) (kind : Elimination) (kept : WeightForm) (d : Set) (p : List Entry) → IsProfileOn d p
    → has_kind (served_kinds kept) (kind_of leaf) ≡ true
    → ((s : Score) → has_kind (eliminator_kinds s) (kind_of leaf) ≡ true → leaf_mean leaf ≡ eliminator kind s)
    → positional_split kind kept d p ≡ leaf_mean leaf d p
split_on leaf kind form.Plurality d p on served means = named_split kind form.Plurality Plurality d p
    (λ x inside. plurality_by_weights d p x on inside) ∙ sym (ap (λ m. m d p) (means Plurality served))
split_on leaf kind form.Borda d p on served means = named_split kind form.Borda Borda d p
    (λ x inside. borda_by_weights d p x on inside) ∙ sym (ap (λ m. m d p) (means Borda served))
split_on leaf kind (form.List list) d p on served means = absurd (true≢false (sym served))

pub served_split : (leaf : Leaf) (kind : Elimination) (kept : WeightForm) (d : Set) (votes : Votes) → IsProfile votes
    → IsPart d (all votes.alternatives)
    → has_kind (served_kinds kept) (kind_of leaf) ≡ true → ((s : Score) → has_kind (eliminator_kinds s) (kind_of leaf)
    ≡ true → leaf_mean leaf ≡ eliminator kind s)
    → positional_split kind kept d (restrict d votes.lines) ≡ leaf_mean leaf d (restrict d votes.lines)
served_split leaf kind kept d votes is part served means = split_on leaf kind kept d (restrict d votes.lines)
    (restricted_orders (all votes.alternatives) d votes.lines part (profiles_are_complete votes is)) served means
