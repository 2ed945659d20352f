-- The texts of properties.
use Rattle.std.proofs.Common.{rules, ◌≡◌, ◌≢◌, ℕ, ◌<◌, ◌^◌, List, ◌++◌, Some, Result, Ok, Err, decimal, sym, ◌∙◌, ap}
use Rattle.std.proofs.Common.{subst, arith, append_assoc, lit<}
use Rattle.std.specs.Prelude.{codes}
use Rattle.std.specs.Str.{IsUtf8}
use Rattle.std.specs.Str.Parse.{ParsesUnsigned}
use Rattle.std.proofs.lemmas.Fmt.{IsAscii-decimal, parse-decimal}
use Rattle.std.proofs.lemmas.List.{append_cancel_left, append_cancel_right}
use Rattle.std.proofs.lemmas.Str.{IsUtf8-from_ascii}
use Rattle.vir_term.specs.declared.prop.Prop.{Prop}
use Rattle.vir_term.specs.declared.prop.Prop.TheVariants.{Ne, Ea, El, Defers, Rejects, Elim, Nb, Decr, Dli, Imono}
use Rattle.vir_term.specs.declared.prop.Prop.TheVariants.{Dimono, Dmono, Mono, Cc, Dcc, Cprog, Ccomp, Neut}
use Rattle.vir_term.specs.Limits.{IsCount, count_limit}
use Rattle.vir_rules.specs.declared.prop_name.PropName.TheVariants.{Alone}
use Rattle.vir_rules.specs.Named.{IsPropInRange, prop_named}
use Rattle.vir_rules.specs.Props.{prop_text}

count_is_small : (k : ℕ) → IsCount k → k < 2 ^ 64
count_is_small k h = omega (arith, h.few, lit< {m = count_limit} {n = 2 ^ 64} tt)

count_is_narrow : (k : ℕ) → IsCount k → k < 2 ^ 32
count_is_narrow k h = omega (arith, h.few, lit< {m = count_limit} {n = 2 ^ 32} tt)

-- the digits of a number are text
pub utf8_decimal : (k : ℕ) (ds : List ℕ) → IsCount k → decimal k ≡ ds → IsUtf8 ds
utf8_decimal k ds h e = subst IsUtf8 e (IsUtf8-from_ascii (decimal k) (IsAscii-decimal k (count_is_small k h)))

-- and are read as it
pub parses_decimal : {E : Type 0} (k : ℕ) (ds : List ℕ) (r : Result ℕ E) → IsCount k → decimal k ≡ ds
    → ParsesUnsigned 32 10 ds r → r ≡ Ok k
parses_decimal k ds r h e p = parse-decimal 32 k ds r (count_is_narrow k h) (count_is_small k h) (sym e) p

pub ok_same : {E : Type 0} (m n : ℕ) → (let a : Result ℕ E = Ok m in a ≡ Ok n) → m ≡ n
ok_same m n h = cc

pub not_ok : {E : Type 0} (r : Result ℕ E) (e : E) (k : ℕ) → r ≡ Err e → r ≡ Ok k → ⊥
not_ok r e k h j = cc

-- no property has a text that is none of these
pub no_prop : (text : List ℕ) → ((p : Prop) → prop_named text ≡ Some (Alone p) → ⊥) →
    ((k : ℕ) → IsCount k → codes "defers(" ++ decimal k ++ codes ")" ≢ text) → ((k : ℕ) → IsCount k → codes "rejects("
    ++ decimal k ++ codes ")" ≢ text) →
    ((k : ℕ) → IsCount k → codes "elim(" ++ decimal k ++ codes ")" ≢ text) → (p : Prop) → IsPropInRange p
    → prop_text p ≢ text
no_prop text alone defers rejects elims Ne r e = alone Ne (ap prop_named (sym e))
no_prop text alone defers rejects elims Ea r e = alone Ea (ap prop_named (sym e))
no_prop text alone defers rejects elims El r e = alone El (ap prop_named (sym e))
no_prop text alone defers rejects elims (Defers k) r e = defers k r e
no_prop text alone defers rejects elims (Rejects k) r e = rejects k r e
no_prop text alone defers rejects elims (Elim k) r e = elims k r e
no_prop text alone defers rejects elims Nb r e = alone Nb (ap prop_named (sym e))
no_prop text alone defers rejects elims Decr r e = alone Decr (ap prop_named (sym e))
no_prop text alone defers rejects elims Dli r e = alone Dli (ap prop_named (sym e))
no_prop text alone defers rejects elims Imono r e = alone Imono (ap prop_named (sym e))
no_prop text alone defers rejects elims Dimono r e = alone Dimono (ap prop_named (sym e))
no_prop text alone defers rejects elims Dmono r e = alone Dmono (ap prop_named (sym e))
no_prop text alone defers rejects elims Mono r e = alone Mono (ap prop_named (sym e))
no_prop text alone defers rejects elims Cc r e = alone Cc (ap prop_named (sym e))
no_prop text alone defers rejects elims Dcc r e = alone Dcc (ap prop_named (sym e))
no_prop text alone defers rejects elims Cprog r e = alone Cprog (ap prop_named (sym e))
no_prop text alone defers rejects elims Ccomp r e = alone Ccomp (ap prop_named (sym e))
no_prop text alone defers rejects elims Neut r e = alone Neut (ap prop_named (sym e))

-- a text that doesn't end so is none of a number
pub not_ended : (front rest text : List ℕ) → text ≡ front ++ rest → ((f : List ℕ) → rest ≢ f ++ codes ")") → (k : ℕ)
    → front ++ decimal k ++ codes ")" ≢ text
not_ended front rest text e h k same =
    h (decimal k) (append_cancel_left front rest (decimal k ++ codes ")") (sym e ∙ sym same
    ∙ append_assoc front (decimal k) (codes ")")))

-- nor is one with other digits
pub not_counted : (front rest ds text : List ℕ) → text ≡ front ++ rest → rest ≡ ds ++ codes ")"
    → ((k : ℕ) → IsCount k → decimal k ≢ ds) → (k : ℕ) → IsCount k →
    front ++ decimal k ++ codes ")" ≢ text
not_counted front rest ds text e f h k is same =
    h k is (append_cancel_right (decimal k) ds (codes ")")
    (append_cancel_left front (decimal k ++ codes ")") (ds ++ codes ")")
    (sym (append_assoc front (decimal k) (codes ")")) ∙ same ∙ e ∙ ap (λ r. front ++ r) f)))

-- what a word names without a number has that text
pub named_alone : (w : List ℕ) (p : Prop) → prop_named w ≡ Some (Alone p) → (prop_text p ≡ w) × IsPropInRange p
named_alone w p is = search rules
