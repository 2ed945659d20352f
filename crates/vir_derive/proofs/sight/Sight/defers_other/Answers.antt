use Rattle.std.proofs.Common.{◌≡◌, ◌↔◌, ℕ, true, Option, sym, ◌∙◌, subst}
use Rattle.vir_term.specs.declared.prop.Prop.TheVariants as prop
use Rattle.vir_rules.specs.Claims.{of}
use Rattle.vir_rules.specs.Derivations.{Derivable}
use Rattle.vir_derive.specs.DerivableProps.{is_number}
use Rattle.vir_derive.proofs.Numbers.{not_one, no_candidate, candidate_fails, candidate_serves}
use Rattle.vir_derive.proofs.Serving.{not_derivable, defers_seen}
use Rattle.vir_derive.proofs.sight.Sight.defers_other.Goals as goal
use Rattle.vir_derive.proofs.sight.Sight.defers_other.Goals.{then-k-eq1-via-then-k-eq1}
use Rattle.vir_derive.proofs.sight.Sight.defers_other.Goals.{then-k-eq1-via-else-k-eq1+then-not-derives}

pub returns-in_err-k-clause-derivable : goal.returns-in_err-k-clause-derivable
returns-in_err-k-clause-derivable c = λ numbers enough term seen k other in_numbers.
    subst (λ (found : Option ℕ). (is_number found k ≡ true) ↔ Derivable (of (prop.Defers k) term))
    (sym c.from_residual.ensures)
    (no_candidate (λ j. Derivable (of (prop.Defers j) term)) _ k (defers_seen numbers c.args.self term seen k other
    in_numbers) (sym c.in_err-k.ensures))

pub returns-then-k-eq1-clause-derivable : goal.returns-then-k-eq1-clause-derivable
returns-then-k-eq1-clause-derivable c = λ numbers enough term seen k other in_numbers.
    candidate_fails (λ j. Derivable (of (prop.Defers j) term)) _ k (defers_seen numbers c.args.self term seen k other
    in_numbers) c.in_ok-k.k (sym c.in_ok-k.ensures)
    (λ e d. elim c.then-k-eq1.branch [
      | then-k-eq1-via-then-k-eq1 w ↦ not_one k other (sym e ∙ w.if-k-eq1.true)
      | then-k-eq1-via-else-k-eq1+then-not-derives w ↦ not_derivable (w.derives.ensures numbers enough term seen
          (subst (λ j. numbers j ≡ true) (sym e) in_numbers)) w.if-not-derives.true
          (subst (λ j. Derivable (of (prop.Defers j) term)) (sym e) d)
    ])

pub returns-clause-derivable : goal.returns-clause-derivable
returns-clause-derivable c = λ numbers enough term seen k other in_numbers.
    candidate_serves (λ j. Derivable (of (prop.Defers j) term)) _ k (defers_seen numbers c.args.self term seen k other
    in_numbers) c.in_ok-k.k (sym c.in_ok-k.ensures)
    (λ e. (c.derives.ensures numbers enough term seen (subst (λ j. numbers j ≡ true) (sym e) in_numbers)).0
    c.if-not-derives.false)
