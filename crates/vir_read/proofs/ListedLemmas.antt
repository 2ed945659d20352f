-- Values of a list that are read, and those that are left.
use Rattle.std.proofs.Common.{◌≡◌, List, [], ◌∷◌, ◌++◌, Ok, Err, refl, ap, append_assoc}
use Rattle.vir_read.specs.Faults.{◌>>=◌}
use Rattle.vir_read.specs.Grammar.{Read}

-- these values, and then those that are read
abbrev pub with_front : {A : Type 0} → List A → Read (List A) → Read (List A)
with_front front (Ok found) = Ok (front ++ found.0, found.1)
with_front front (Err e) = Err e

pub with_front-none : {A : Type 0} (found : Read (List A)) → with_front [] found ≡ found
with_front-none (Ok found) = refl
with_front-none (Err e) = refl

pub with_front-more : {A : Type 0} (front : List A) (x : A) (further : Read (List A)) → with_front (front ++ x ∷ [])
    further ≡ with_front front (further >>= λ others. Ok (x ∷ others.0, others.1))
with_front-more front x (Ok found) = ap (λ values. Ok (values, found.1)) (append_assoc front (x ∷ []) found.0)
with_front-more front x (Err e) = refl
