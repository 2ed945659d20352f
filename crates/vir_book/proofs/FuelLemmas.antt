-- Any number of definitions that isn't below that of the tokens is enough.
use Rattle.std.proofs.Common.{◌≡◌, ℕ, zero, suc, ◌≤◌, List, [], ◌∷◌, length, Ok, Err, refl, arith}
use Rattle.vir_read.specs.declared.token.Token.{Token}
use Rattle.vir_read.specs.Faults.{OrFault, ◌>>=◌}
use Rattle.vir_book.specs.Books.{Entry, definition_of, with_definition, entries_of}
use Rattle.vir_book.proofs.ShorterLemmas.{definition_of-leaves}

next_same : {A B : Type 0} (r : OrFault A) (f g : A → OrFault B) → ((x : A) → r ≡ Ok x → f x ≡ g x) → (r >>= f)
    ≡ (r >>= g)
next_same (Ok x) f g h = h x refl
next_same (Err e) f g h = refl

pub entries_of-enough : (n m : ℕ) (text : List ℕ) (before : List Entry) (tokens : List Token) → length tokens ≤ n
    → length tokens ≤ m → entries_of n text before tokens ≡ entries_of m text before tokens
entries_of-enough zero zero text before tokens h k = refl
entries_of-enough zero (suc m) text before [] h k = refl
entries_of-enough zero (suc m) text before (t ∷ rest) h k = absurd (omega arith)
entries_of-enough (suc n) zero text before [] h k = refl
entries_of-enough (suc n) zero text before (t ∷ rest) h k = absurd (omega arith)
entries_of-enough (suc n) (suc m) text before [] h k = refl
entries_of-enough (suc n) (suc m) text before (t ∷ rest) h k =
    next_same (definition_of text (t ∷ rest)) _ _ (λ d e. next_same (with_definition text before d.0) _ _
    (λ after _. let l = definition_of-leaves text t rest d e in entries_of-enough n m text after d.1 (omega arith)
    (omega arith)))
