-- What holds where a chain of checks went well.
use Rattle.std.proofs.Common.{◌≡◌, ℕ, Bool, true, false, Option, Some, None, Result, Ok, Err, refl}
use Rattle.std.specs.Option.{ok_or}
use Rattle.vir_soc.specs.declared.kind.SocKind.{SocKind}
use Rattle.vir_soc.specs.Checks.{◌>>=◌, at_line, refuse}

-- both steps went well where the whole did
pub bound : {A B E : Type 0} (r : Result A E) (f : A → Result B E) (y : B) → (r >>= f) ≡ Ok y → (x : A) × (r ≡ Ok x)
    × (f x ≡ Ok y)
bound (Ok x) f y h = (x, refl, h)
bound (Err e) f y h = absurd cc

pub was_some : {A E : Type 0} (o : Option A) (e : E) (x : A) → ok_or o e ≡ Ok x → o ≡ Some x
was_some None e x h = absurd cc
was_some (Some y) e x h = cc

pub went_well : {A : Type 0} (line : ℕ) (r : Result A SocKind) (x : A) → at_line line r ≡ Ok x → r ≡ Ok x
went_well line (Ok y) x h = cc
went_well line (Err k) x h = absurd cc

pub passed : {E : Type 0} (test : Bool) (e : E) (x : Unit {0}) → refuse test e ≡ Ok x → test ≡ false
passed true e x h = absurd cc
passed false e x h = refl
