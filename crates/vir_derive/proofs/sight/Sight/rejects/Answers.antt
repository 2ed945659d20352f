use Rattle.std.proofs.Common.{◌≡◌, ◌↔◌, ℕ, true, Option, sym, subst}
use Rattle.vir_term.specs.declared.prop.Prop.TheVariants as prop
use Rattle.vir_rules.specs.Claims.{of}
use Rattle.vir_rules.specs.Derivations.{Derivable}
use Rattle.vir_derive.specs.DerivableProps.{is_number}
use Rattle.vir_derive.proofs.Numbers.{no_candidate, candidate_fails, candidate_serves}
use Rattle.vir_derive.proofs.Serving.{not_derivable, rejects_seen}
use Rattle.vir_derive.proofs.sight.Sight.rejects.Goals as goal

pub returns-in_err-k : goal.returns-in_err-k
returns-in_err-k c = λ numbers enough term seen k in_numbers.
    subst (λ (found : Option ℕ). (is_number found k ≡ true) ↔ Derivable (of (prop.Rejects k) term))
    (sym c.from_residual.ensures)
    (no_candidate (λ j. Derivable (of (prop.Rejects j) term)) _ k (rejects_seen numbers c.args.self term seen k)
    (sym c.in_err-k.ensures))

pub returns-then-not-derives : goal.returns-then-not-derives
returns-then-not-derives c = λ numbers enough term seen k in_numbers.
    candidate_fails (λ j. Derivable (of (prop.Rejects j) term)) _ k (rejects_seen numbers c.args.self term seen k)
    c.in_ok-k.k (sym c.in_ok-k.ensures)
    (λ e d. not_derivable (c.derives.ensures numbers enough term seen (subst (λ j. numbers j ≡ true) (sym e)
    in_numbers)) c.if-not-derives.true (subst (λ j. Derivable (of (prop.Rejects j) term)) (sym e) d))

pub returns : goal.returns
returns c = λ numbers enough term seen k in_numbers.
    candidate_serves (λ j. Derivable (of (prop.Rejects j) term)) _ k (rejects_seen numbers c.args.self term seen k)
    c.in_ok-k.k (sym c.in_ok-k.ensures)
    (λ e. (c.derives.ensures numbers enough term seen (subst (λ j. numbers j ≡ true) (sym e) in_numbers)).0
    c.if-not-derives.false)
