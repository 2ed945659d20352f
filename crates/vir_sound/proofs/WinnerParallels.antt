-- Parallel composition, and Condorcet winners.
use Rattle.std.proofs.Common.{◌≡◌, ap, ap₂, ◌∙◌, ◌&&◌, arith}
use Rattle.std.proofs.lemmas.Bool.Decides.{nat_tests}
use Rattle.std.specs.FinSet as set
use Rattle.vir_altset.specs.Sets.{Set}
use Rattle.vir_altset.specs.SetLaws.{contains-intersection, same_members, set_members}
use Rattle.vir_term.specs.declared.prop.Prop.TheVariants.{Ne, Cc, Dcc, Ccomp}
use Rattle.vir_mean.specs.Modules.{Meaning}
use Rattle.vir_mean.specs.Compositions.{merged, par_of}
use Rattle.vir_mean.specs.Properties.{Holds, just}
use Rattle.vir_mean.proofs.MeaningLaws.{Splits}
use Rattle.vir_sound.proofs.WinnerLemmas.{compatible_of_none}
use Rattle.vir_sound.proofs.MeaningLemmas.{union_none}

union-same : (a : Set) → set.union a a ≡ a
union-same a = same_members _ _ (λ x. grind (arith, nat_tests, set_members))

intersection-same : (a : Set) → set.intersection a a ≡ a
intersection-same a = same_members _ _ (λ x. grind (arith, nat_tests, set_members))

difference-empty : (a : Set) → set.difference a set.empty ≡ a
difference-empty a = same_members _ _ (λ x. grind (arith, nat_tests, set_members))

empty-difference : (a : Set) → set.difference set.empty a ≡ set.empty
empty-difference a = same_members _ _ (λ x. grind (arith, nat_tests, set_members))

pub cc_par : (m n : Meaning) → Splits m → Splits n → Holds Cc m → Holds Cc n → Holds Cc (par_of m n)
cc_par m n one other first second a p w on winner =
    ap₂ merged (first a p w on winner) (second a p w on winner)
    ∙ (λ i. record {
      elected = union-same (just w) i;
      rejected = intersection-same (set.difference a (just w)) i;
      deferred = (ap (λ d. set.difference d (set.union (just w) (just w))) (union-same set.empty) ∙ empty-difference _)
          i;
    })

pub dcc_par : (m n : Meaning) → Splits m → Splits n → Holds Dcc m → Holds Dcc n → Holds Dcc (par_of m n)
dcc_par m n one other first second a p w on winner =
    ap₂ merged (first a p w on winner) (second a p w on winner)
    ∙ (λ i. record {
      elected = union-same set.empty i;
      rejected = intersection-same (set.difference a (just w)) i;
      deferred = (ap₂ set.difference (union-same (just w)) (union-same set.empty) ∙ difference-empty _) i;
    })

pub ccomp_par : (m n : Meaning) → Splits m → Splits n → Holds Ne m → Holds Ne n → Holds Ccomp m → Holds Ccomp n
    → Holds Ccomp (par_of m n)
ccomp_par m n one other nobody none first second a p w on winner =
    compatible_of_none w a _
    (union_none _ _ (nobody a p on) (none a p on))
    (contains-intersection (m a p).rejected (n a p).rejected w ∙ ap₂ (λ b c. b && c) (first a p w on winner).kept
    (second a p w on winner).kept)
