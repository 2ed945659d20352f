-- The weights of places, by the form in which they are given.
use Rattle.std.specs.Prelude.{◌≡◌, ℕ, ◌-◌, true, slice_get, unwrap_or, nat_eq, if◌then◌else◌}
use Rattle.vir_positional.specs.declared.weight_form.WeightForm.{WeightForm}
use Rattle.vir_positional.specs.declared.weight_form.WeightForm.TheVariants as form
use Rattle.vir_positional.specs.WeightLists.{are_weights, last_weight}

-- the weight of a place, counted from 0, among n places: of plurality 1 at the front and 0 elsewhere; of Borda the
-- number of places behind it; of a list its member at that place, or its last one past its end
abbrev pub weight_of : WeightForm → ℕ → ℕ → ℕ
weight_of form.Plurality place n = if nat_eq place 0 then 1 else 0
weight_of form.Borda place n = n - 1 - place
weight_of (form.List list) place n = unwrap_or (slice_get list place) (last_weight list)

-- The list of the form, where it has one, is one of weights. The code holds no other form.
abbrev pub IsForm : WeightForm → Type 0
IsForm form.Plurality = Unit {0}
IsForm form.Borda = Unit {0}
IsForm (form.List list) = are_weights list ≡ true
