-- Where equations fit, by the parts of a term.
use Rattle.std.proofs.Common.{◌≡◌, ◌↔◌, ℕ, IsTrue, nat_eq, refl, ap, sym, ◌∙◌}
use Rattle.std.proofs.lemmas.Bool.{eq-eqb, eqb-true}
use Rattle.vir_term.specs.Tree.{Tree, rev, seq, par, loop, exactly, at_most}
use Rattle.vir_simplify.specs.declared.equation.Equation.TheVariants.{SeqDeferLeft, SeqDeferRight, SeqElect}
use Rattle.vir_simplify.specs.declared.equation.Equation.TheVariants.{SeqPlurality, SeqNobody, RevElect, ParSame}
use Rattle.vir_simplify.specs.declared.equation.Equation.TheVariants.{ParElectLeft, ParElectRight, ParNobodyLeft}
use Rattle.vir_simplify.specs.declared.equation.Equation.TheVariants.{ParNobodyRight, LoopDefer, LoopLoop, UntilDefer}
use Rattle.vir_simplify.specs.declared.equation.Equation.TheVariants.{UntilUntil}
use Rattle.vir_simplify.specs.Equations.{elect, defer, plurality, nobody, Rewrites}

pub seq_defer_left : (f s : Tree) → f ≡ defer → Rewrites SeqDeferLeft (seq f s) s
seq_defer_left f s is = record { m = s; n = s; t = s; k = 0; is_left = cc; is_right = refl }

pub seq_defer_right : (f s : Tree) → s ≡ defer → Rewrites SeqDeferRight (seq f s) f
seq_defer_right f s is = record { m = f; n = f; t = f; k = 0; is_left = cc; is_right = refl }

pub seq_elect : (f s : Tree) → f ≡ elect → Rewrites SeqElect (seq f s) f
seq_elect f s is = record { m = s; n = s; t = s; k = 0; is_left = cc; is_right = cc }

pub seq_plurality : (f s : Tree) → f ≡ plurality → Rewrites SeqPlurality (seq f s) f
seq_plurality f s is = record { m = s; n = s; t = s; k = 0; is_left = cc; is_right = cc }

pub seq_nobody : (f s : Tree) → f ≡ nobody → Rewrites SeqNobody (seq f s) f
seq_nobody f s is = record { m = s; n = s; t = s; k = 0; is_left = cc; is_right = cc }

pub rev_elect : (part : Tree) → part ≡ elect → Rewrites RevElect (rev part) defer
rev_elect part is = record { m = part; n = part; t = part; k = 0; is_left = cc; is_right = refl }

pub par_same : (f s : Tree) → f ≡ s → Rewrites ParSame (par f s) f
par_same f s is = record { m = f; n = f; t = f; k = 0; is_left = cc; is_right = refl }

pub par_elect_left : (f s : Tree) → f ≡ elect → Rewrites ParElectLeft (par f s) f
par_elect_left f s is = record { m = s; n = s; t = s; k = 0; is_left = cc; is_right = cc }

pub par_elect_right : (f s : Tree) → s ≡ elect → Rewrites ParElectRight (par f s) s
par_elect_right f s is = record { m = f; n = f; t = f; k = 0; is_left = cc; is_right = cc }

pub par_nobody_left : (f s : Tree) → f ≡ nobody → Rewrites ParNobodyLeft (par f s) s
par_nobody_left f s is = record { m = s; n = s; t = s; k = 0; is_left = cc; is_right = refl }

pub par_nobody_right : (f s : Tree) → s ≡ nobody → Rewrites ParNobodyRight (par f s) f
par_nobody_right f s is = record { m = f; n = f; t = f; k = 0; is_left = cc; is_right = refl }

pub loop_defer : (k : ℕ) (body : Tree) → body ≡ defer → Rewrites LoopDefer (loop (exactly k) body) body
loop_defer k body is = record { m = body; n = body; t = body; k = k; is_left = cc; is_right = cc }

pub loop_loop : (k : ℕ) (body m : Tree) → body ≡ loop (exactly k) m
    → Rewrites LoopLoop (loop (exactly k) body) body
loop_loop k body m is = record { m = m; n = m; t = m; k = k; is_left = cc; is_right = is }

pub until_defer : (k : ℕ) (body : Tree) → body ≡ defer → Rewrites UntilDefer (loop (at_most k) body) body
until_defer k body is = record { m = body; n = body; t = body; k = k; is_left = cc; is_right = cc }

pub until_until : (k : ℕ) (body m : Tree) → body ≡ loop (at_most k) m
    → Rewrites UntilUntil (loop (at_most k) body) body
until_until k body m is = record { m = m; n = m; t = m; k = k; is_left = cc; is_right = is }

-- whether a loop has this number
pub loop_by_number : (t body : Tree) (number k : ℕ) → t ≡ loop (exactly number) body
    → (IsTrue (nat_eq number k) ↔ ((m : Tree) × (t ≡ loop (exactly k) m)))
loop_by_number t body number k is = (
  λ same. (body, is ∙ ap (λ n. loop (exactly n) body) (eqb-true number k same)),
  λ (m, other). eq-eqb number k (let both : loop (exactly number) body ≡ loop (exactly k) m = sym is ∙ other in cc),
)

-- whether a loop has this number
pub until_by_number : (t body : Tree) (number k : ℕ) → t ≡ loop (at_most number) body
    → (IsTrue (nat_eq number k) ↔ ((m : Tree) × (t ≡ loop (at_most k) m)))
until_by_number t body number k is = (
  λ same. (body, is ∙ ap (λ n. loop (at_most n) body) (eqb-true number k same)),
  λ (m, other). eq-eqb number k (let both : loop (at_most number) body ≡ loop (at_most k) m = sym is ∙ other in cc),
)

-- the equations between sequences
pub ruleset fitting_sequences = (seq_defer_left, seq_defer_right, seq_elect, seq_plurality, seq_nobody)

-- the equations between parallel compositions
pub ruleset fitting_parallels = (par_same, par_elect_left, par_elect_right, par_nobody_left, par_nobody_right)
