-- What the code sees of a term.
-- (The program's promises don't stand on this file.)
use Rattle.std.specs.Prelude.{ℕ, Bool}
use Rattle.vir_term.specs.Tree.{Tree}
use Rattle.vir_rules.specs.Forms.{form_seen}
use Rattle.vir_derive.specs.declared.sight.Sight.{Sight}
use Rattle.vir_derive.specs.DerivableProps.{IsSeenWithin}

-- What the code sees is seen of a term, of its parts with these numbers.
abbrev pub Shows : (ℕ → Bool) → Sight → Tree → Type 0
Shows numbers sight term = IsSeenWithin numbers (form_seen sight.form) sight.first sight.second sight.opposed term
