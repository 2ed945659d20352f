use Rattle.std.proofs.Common.{◌-◌, ◌∷◌, [], take}
use Rattle.std.specs.List.{All, flat_map}
use Rattle.vir_term.specs.Tree.{tree}
use Rattle.vir_term.specs.declared.prop.Prop.TheVariants.{Neut}
use Rattle.vir_mean.specs.Meaning.{mean}
use Rattle.vir_refute.specs.Violations.{Violates}
use Rattle.vir_find.specs.Permutations.{up_to}
use Rattle.vir_find.specs.Trials.{exchange_case}
use Rattle.vir_find.proofs.trying.try_exchanges.Given as goal

abbrev pub invariant-loop-k : goal.invariant-loop-k
invariant-loop-k l = All (λ c. Violates Neut (mean (tree l.term)) c → ⊥)
    (flat_map (λ i. exchange_case l.profile.alternatives l.profile.lines i ∷ [])
    (take l.k (up_to (l.profile.alternatives - 1))))
