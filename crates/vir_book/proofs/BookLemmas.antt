-- Laws of names and their limits.
use Rattle.std.proofs.Common.{◌≡◌, ℕ, zero, suc, ◌+◌, ◌-◌, Bool, true, false, ◌||◌, List, [], ◌∷◌, ◌++◌, drop, length}
use Rattle.std.proofs.Common.{slice_get, Option, Some, None, Ok, Err, is_some, option_map, if◌then◌else◌, refl, sym}
use Rattle.std.proofs.Common.{ap, ◌∙◌}
use Rattle.std.proofs.Common.{arith, subst, add-one}
use Rattle.std.specs.Str.{bytes_eq}
use Rattle.vir_term.specs.Tree.{Tree}
use Rattle.vir_term.specs.Limits.{IsWithinLimits}
use Rattle.vir_read.specs.declared.text_fault.TextKind.TheVariants.{EmptyBook}
use Rattle.vir_read.specs.Faults.{◌>>=◌, fault}
use Rattle.vir_read.specs.BuiltIns.{built_in_named}
use Rattle.vir_read.specs.Arguments.{AreWithinLimits, is_known}
use Rattle.vir_book.specs.Books.{Entry, lookup, last_term, filled, AllWithinLimits}

some_some : {A : Type 0} (x y : A) → Some x ≡ Some y → x ≡ y
some_some x y h = cc

within_cases : (b : Bool) (s t : Tree) (found : Option Tree) → (found ≡ Some t → IsWithinLimits t) → IsWithinLimits s
    → (if b then Some s else found) ≡ Some t → IsWithinLimits t
within_cases true s t found h k e = subst IsWithinLimits (some_some s t e) k
within_cases false s t found h k e = h e

-- so all terms that names stand for are within the limits
pub lookup_within : (list : List Entry) → AllWithinLimits list → AreWithinLimits (lookup list)
lookup_within [] within name t e = cc
lookup_within (x ∷ rest) within name t e =
    within_cases (bytes_eq name x.name) x.term t (lookup rest name) (lookup_within rest within.1 name t) within.0 e

pub within-append : (list : List Entry) (e : Entry) → AllWithinLimits list → IsWithinLimits e.term
    → AllWithinLimits (list ++ e ∷ [])
within-append [] e within k = (k, tt)
within-append (x ∷ rest) e within k = (within.0, within-append rest e within.1 k)

-- so is the last one
pub last-within : (list : List Entry) (n : ℕ) (t : Tree) → AllWithinLimits list → Some t ≡ option_map (λ e. e.term)
    (slice_get list n) → IsWithinLimits t
last-within [] n t within h = cc
last-within (x ∷ rest) zero t within h = subst IsWithinLimits (sym (some_some t x.term h)) within.0
last-within (x ∷ rest) (suc n) t within h = last-within rest n t within.1 h

either_false : (a b : Bool) → (a || b) ≡ false → b ≡ false
either_false true b h = cc
either_false false b h = h

not_some : {A : Type 0} (o : Option A) → is_some o ≡ false → o ≡ None
not_some None h = refl
not_some (Some x) h = cc

-- a name that isn't known isn't defined
pub lookup_unknown : (list : List Entry) (name : List ℕ) → is_known (lookup list) name ≡ false → lookup list name ≡ None
lookup_unknown list name h = not_some (lookup list name) (either_false (is_some (built_in_named name))
    (is_some (lookup list name)) h)

-- the last entry's term
pub last_term-last : (list : List Entry) (t : Tree) → Some t ≡ option_map (λ e. e.term)
    (slice_get list (length list - 1)) → last_term list ≡ Ok t
last_term-last [] t is = cc
last_term-last (e ∷ []) t is = ap Ok (sym (some_some t e.term is))
last_term-last (e ∷ next ∷ rest) t is =
    let index : length (e ∷ next ∷ rest) - 1 ≡ suc (length (next ∷ rest) - 1) = omega arith in
    last_term-last (next ∷ rest) t (is ∙ ap (λ i. option_map (λ e. e.term) (slice_get (e ∷ next ∷ rest) i)) index)

-- the rule of these entries is the last one's term
pub rule_of-last : (list : List Entry) (t : Tree) → Some t ≡ option_map (λ e. e.term)
    (slice_get list (length list - 1)) → (filled list >>= last_term) ≡ Ok t
rule_of-last [] t is = cc
rule_of-last (e ∷ rest) t is = last_term-last (e ∷ rest) t is

-- and where no entry is last there is none
pub rule_of-none : (list : List Entry) → None ≡ option_map (λ e. e.term) (slice_get list (length list - 1))
    → (filled list >>= last_term) ≡ Err (fault EmptyBook 0)
rule_of-none [] is = refl
rule_of-none (e ∷ []) is = cc
rule_of-none (e ∷ next ∷ rest) is =
    let index : length (e ∷ next ∷ rest) - 1 ≡ suc (length (next ∷ rest) - 1) = omega arith in
    rule_of-none (next ∷ rest) (is ∙ ap (λ i. option_map (λ e. e.term) (slice_get (e ∷ next ∷ rest) i)) index)
