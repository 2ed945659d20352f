-- Revision, one property for another, and Condorcet winners.
use Rattle.std.proofs.Common.{◌≡◌, sym, ap, ◌∙◌, arith}
use Rattle.std.specs.FinSet as set
use Rattle.vir_altset.specs.SetLaws.{contains-difference}
use Rattle.vir_altset.specs.declared.split.Split.{Split}
use Rattle.vir_term.specs.declared.prop.Prop.TheVariants.{Cc, Dcc, Cprog, Ccomp}
use Rattle.vir_mean.specs.Modules.{Meaning}
use Rattle.vir_mean.specs.Compositions.{rev_of}
use Rattle.vir_mean.specs.Properties.{Holds, just}
use Rattle.vir_mean.proofs.MeaningLaws.{Splits}
use Rattle.vir_sound.proofs.WinnerLemmas.{contains-just-same, just_member, len-just, compatible_of_none}
use Rattle.vir_sound.proofs.MeaningLemmas.{same_at}

pub dcc_rev : (m : Meaning) → Splits m → Holds Cc m → Holds Dcc (rev_of m)
dcc_rev m one elected a p w on winner =
    ap (λ (s : Split). record { elected = set.empty; rejected = set.difference a s.elected; deferred = s.elected })
    (elected a p w on winner)

pub cprog_dcc : (m : Meaning) → Splits m → Holds Dcc m → Holds Cprog m
cprog_dcc m one deferred a p w on winner =
    let is = deferred a p w on winner in
    let alone : (m a p).deferred ≡ just w = ap (λ (s : Split). s.deferred) is in
    record {
      none_elected = ap (λ (s : Split). s.elected) is;
      deferred = same_at w alone ∙ contains-just-same w;
      fewer = λ two all.
          let size : set.len (just w) ≡ 1 = len-just w in
          let same : set.len (just w) ≡ set.len a = ap set.len (sym alone ∙ all) in
          absurd (omega arith);
    }

pub ccomp_cprog : (m : Meaning) → Splits m → Holds Cprog m → Holds Ccomp m
ccomp_cprog m one progress a p w on winner =
    let is = progress a p w on winner in
    compatible_of_none w a (m a p) is.none_elected (let parts = (one a p).parts w in let member = is.deferred
    in grind arith)

pub ccomp_cc : (m : Meaning) → Splits m → Holds Cc m → Holds Ccomp m
ccomp_cc m one elected a p w on winner =
    let is = elected a p w on winner in
    let alone : (m a p).elected ≡ just w = ap (λ (s : Split). s.elected) is in
    let rest : (m a p).rejected ≡ set.difference a (just w) = ap (λ (s : Split). s.rejected) is in
    record {
      kept = same_at w rest ∙ contains-difference a (just w) w ∙ (let member = contains-just-same w in grind arith);
      no_other = λ x member. just_member w x (sym (same_at x alone) ∙ member);
      others = λ _. rest;
    }
