-- The eliminators that go by positional scores: whom they elect, reject and defer.
use Rattle.std.proofs.Common.{◌≡◌, ◌≢◌, true, false, true≢false, refl, sym, ap, ◌∙◌}
use Rattle.std.specs.Cmp.{nat_cmp_total}
use Rattle.std.specs.FinSet as set
use Rattle.vir_altset.specs.Sets.{Set}
use Rattle.vir_term.specs.declared.prop.Prop.TheVariants.{Ne, Nb, Dmono}
use Rattle.vir_mean.specs.declared.elimination.Elimination.{Elimination}
use Rattle.vir_mean.specs.Eliminators.{goes, eliminated}
use Rattle.vir_mean.specs.Properties.{Holds}
use Rattle.vir_positional.specs.declared.weight_form.WeightForm.{WeightForm}
use Rattle.vir_positional.specs.Positional.{positional, positional_split}
use Rattle.vir_positional.specs.Weights.{IsForm}
use Rattle.vir_mean.proofs.DeferredMembers.{deferred_still, eliminated-elected, split_by}
use Rattle.vir_mean.proofs.LiftedEliminations.{goes_no_sooner, all_go_still}
use Rattle.vir_positional.proofs.LiftedPlaces.{positional_lift}

-- ---- the laws
pub elects_nobody : (kind : Elimination) (kept : WeightForm) → Holds Ne (positional_split kind kept)
elects_nobody kind kept a p on = eliminated-elected a (set.retain a (goes kind (positional kept a p) a))

keeps_some : (a gone : Set) → a ≢ set.empty → (eliminated a gone).rejected ≢ a
keeps_some a gone some = elim (set.is_subset a gone) as (λ b. set.is_subset a gone ≡ b → (split_by a gone b).rejected ≢
    a) [
      | true ↦ λ e is. some (sym is)
      | false ↦ λ e is.
          true≢false (sym (set.contains-is_subset nat_cmp_total a gone (λ y member. ap (λ s. set.contains s y) is
          ∙ member))
          ∙ e)
    ] refl

pub keep_some : (kind : Elimination) (kept : WeightForm) → Holds Nb (positional_split kind kept)
keep_some kind kept a p on some = keeps_some a (set.retain a (goes kind (positional kept a p) a)) some

pub stays_deferred : (kind : Elimination) (kept : WeightForm) → IsForm kept → Holds Dmono (positional_split kind kept)
stays_deferred kind kept is a p q x on on_after inside lifted =
    let lift = positional_lift kept is a p q x on.lists on_after.lists inside lifted in
    deferred_still a x (goes kind (positional kept a p) a) (goes kind (positional kept a q) a) inside
    (goes_no_sooner lift kind) (all_go_still lift kind)
