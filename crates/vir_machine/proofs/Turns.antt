-- More turns of a loop than it takes ask for nothing more.
use Rattle.std.proofs.Common.{◌≡◌, ◌≢◌, ℕ, zero, suc, ◌+◌, ◌<◌, Bool, true, false, true≢false, cond, List, refl, sym}
use Rattle.std.proofs.Common.{ap, ◌∙◌, arith}
use Rattle.std.specs.Cmp.{nat_cmp_total}
use Rattle.std.specs.FinSet as set
use Rattle.vir_altset.specs.Sets.{Set}
use Rattle.vir_profile.specs.declared.ballot.Entry.{Entry}
use Rattle.vir_profile.specs.Profiles.{restrict}
use Rattle.vir_term.specs.Tree.{End}
use Rattle.vir_mean.specs.Compositions.{is_end}
use Rattle.vir_mean.specs.Modules.{Meaning}
use Rattle.vir_mean.proofs.MeaningLaws.{Splits}
use Rattle.vir_mean.proofs.LoopLaws.{len-deferred}
use Rattle.vir_machine.specs.Uses.{Count, turn_count, turns_count, loop_count}

-- what a turn asks for, where what follows is asked only if the turn goes on
choose : (few whole : Bool) (first x y : ℕ) → (whole ≡ false → x ≡ y) → cond few 0 (first + cond whole 0 x)
    ≡ cond few 0 (first + cond whole 0 y)
choose true whole first x y same = refl
choose false true first x y same = refl
choose false false first x y same = ap (λ z. first + z) (same refl)

-- a set of which something isn't deferred isn't deferred whole
not_whole : (a d : Set) → set.is_subset a d ≡ false → d ≢ a
not_whole a d other same =
    true≢false (sym (set.contains-is_subset nat_cmp_total a d (λ x member. ap (λ s. set.contains s x) same ∙ member))
    ∙ other)

module _ (k : End) (body : Meaning) (splits : Splits body) (uses : Count) where
  smaller : (a : Set) (lines : List Entry) → set.is_subset a (body a lines).deferred ≡ false
      → set.len (body a lines).deferred < set.len a
  smaller a lines other = len-deferred k body splits a lines (not_whole a (body a lines).deferred other)

  turn_count-same : (next other : Count) (a : Set) (lines : List Entry)
      → (set.is_subset a (body a lines).deferred ≡ false → next (body a lines).deferred
      (restrict (body a lines).deferred lines) ≡ other (body a lines).deferred
      (restrict (body a lines).deferred lines))
      → turn_count k body uses next a lines ≡ turn_count k body uses other a lines
  turn_count-same next other a lines same = choose (is_end k (set.len a)) (set.is_subset a (body a lines).deferred)
      (uses a lines) _ _ same

  turns_count-enough : (most more : ℕ) (a : Set) (lines : List Entry) → set.len a < most → set.len a < more
      → turns_count most k body uses a lines ≡ turns_count more k body uses a lines
  unfolding turns_count
  turns_count-enough zero more a lines one other = absurd (omega arith)
  turns_count-enough (suc most) zero a lines one other = absurd (omega arith)
  turns_count-enough (suc most) (suc more) a lines one other =
      turn_count-same (turns_count most k body uses) (turns_count more k body uses) a lines (λ e.
      let less = smaller a lines e in
      turns_count-enough most more (body a lines).deferred (restrict (body a lines).deferred lines) (omega arith)
      (omega arith))

  -- a loop asks for what one turn asks for, and then the loop again
  pub loop_count-turn : (a : Set) (lines : List Entry) → loop_count k body uses a lines ≡ turn_count k body uses
      (loop_count k body uses) a lines
  unfolding turns_count
  loop_count-turn a lines =
      turn_count-same (turns_count (set.len a) k body uses) (loop_count k body uses) a lines (λ e.
      let less = smaller a lines e in
      turns_count-enough (set.len a) (suc (set.len (body a lines).deferred)) (body a lines).deferred
      (restrict (body a lines).deferred lines) (omega arith) (omega arith))
