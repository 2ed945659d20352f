-- A text of the visits of a term explains what it means.
use Rattle.std.proofs.Common.{◌≡◌, ◌<◌, ◌≤◌, ◌^◌, ℕ, List, Result, Ok, Err, IfOk, sym, subst, ◌∙◌, arith}
use Rattle.std.proofs.lemmas.List.{append_cancel_left}
use Rattle.vir_altset.specs.Sets.{Set, IsBounded, all, limit}
use Rattle.vir_altset.specs.declared.split.Split.{Split}
use Rattle.vir_profile.specs.declared.ballot.Entry.{Entry}
use Rattle.vir_profile.specs.Profiles.{restrict, total_weight}
use Rattle.vir_term.specs.Appending.{Appends}
use Rattle.vir_term.specs.Limits.{size_limit}
use Rattle.vir_term.specs.Tree.{Tree, size}
use Rattle.vir_mean.specs.Meaning.{mean}
use Rattle.vir_explain.specs.Visits.{visits}
use Rattle.vir_explain.specs.VisitTexts.{visits_text}
use Rattle.vir_explain.specs.Accounts.{Accounts}
use Rattle.vir_explain.specs.Explained.{Explains}
use Rattle.vir_explain.proofs.Accounting.{visits_account}
use Rattle.vir_explain.proofs.LegibleVisits.{visits_legible}
use Rattle.vir_explain.proofs.ReadVisits.{visits_read}
use Rattle.vir_explain.proofs.TrueVisits.{visits_scored}
use Rattle.vir_explain.proofs.Listed.{bounds_of_member}

-- the alternatives of a profile are bounded
pub bounded_all : (m : ℕ) → m ≤ limit → IsBounded (all m)
bounded_all m few = record {
  within = λ x member. (let bounds = bounds_of_member m x member in (bounds.0, omega (arith, bounds.1)));
}

pub explained : {E : Type 0} (result : Result Split E) (t : Tree) (p : List Entry) (a : Set) (before after : List ℕ)
    → IsBounded a → total_weight p < 2 ^ 64 → size t ≤ size_limit
    → IfOk result (λ s. s ≡ mean t a (restrict a p))
    → Appends result before after (visits_text (visits 0 t p a)) → IfOk result (λ s. Explains t p a before after s)
explained (Ok s) t p a before after bounded few small is told = record {
  visits = visits 0 t p a;
  accounts = subst (λ (s : Split). Accounts 0 t a (visits 0 t p a) s) (sym is) (visits_account 0 t p a bounded);
  scored = visits_scored t p a;
  told = told;
  only = λ others legible same. visits_read t others (visits 0 t p a) legible (visits_legible t p a bounded few
      (omega arith)) (append_cancel_left before (visits_text others) (visits_text (visits 0 t p a)) (sym same ∙ told));
}
explained (Err e) t p a before after bounded few small is told = is
