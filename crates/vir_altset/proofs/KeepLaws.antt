-- What a test keeps of a set, in the words of a caller's definition.
use Rattle.std.proofs.Common.{◌≡◌, ℕ, Bool, true, false, ◌&&◌, refl, sym, ◌∙◌}
use Rattle.std.specs.FinSet as set
use Rattle.vir_altset.specs.Keep.{IsKept}
use Rattle.vir_altset.specs.SetLaws.{contains-retain, same_members}
use Rattle.vir_altset.specs.Sets.{Set}

-- what is kept by a test that can only tell p is the members that p is true of
pub kept_is : (a kept : Set) (Told : ℕ → Bool → Type 0) (p : ℕ → Bool) → IsKept a kept Told
    → ((x : ℕ) (b : Bool) → Told x b → b ≡ p x) → kept ≡ set.retain a p
kept_is a kept Told p is_kept is = same_members kept (set.retain a p) (λ x. each x ∙ sym (contains-retain a p x))
  where
    each : (x : ℕ) → set.contains kept x ≡ (set.contains a x && p x)
    each x = elim (set.contains a x) as (λ b. set.contains a x ≡ b → set.contains kept x ≡ (b && p x)) [
      | true ↦ λ e. is x _ (is_kept.told x e)
      | false ↦ λ e. is_kept.part x e
    ] refl
