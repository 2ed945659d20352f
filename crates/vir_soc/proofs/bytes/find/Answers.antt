use Rattle.std.proofs.Common.{◌≡◌, ℕ, ◌<◌, Bool, true, false, List, length, get_or, nat_eq, sym, arith, refl}
use Rattle.std.specs.List.{position_or_len}
use Rattle.std.proofs.lemmas.List.Sums.{position_or_len_is}
use Rattle.memchr.specs.Find.{NoneBefore, Nowhere, Passes, is_byte}
use Rattle.vir_soc.proofs.bytes.find.Goals as goal

not_true : (b : Bool) → ¬ (b ≡ true) → b ≡ false
not_true true h = absurd (h refl)
not_true false h = refl

at_place : (byte : ℕ) (text : List ℕ) (place : ℕ) → NoneBefore (Passes (is_byte byte) text) 0 (length text) place
    × (is_byte byte (get_or text place 0) ≡ true) → place ≡ position_or_len (λ c. nat_eq c byte) text
at_place byte text place h =
    let inside : place < length text = h.0.high in
    sym (position_or_len_is (λ c. nat_eq c byte) text place 0 (omega arith)
    (λ k l. not_true _ (h.0.before k (omega arith) l)) (λ l. h.1))

nowhere : (byte : ℕ) (text : List ℕ) → Nowhere (Passes (is_byte byte) text) 0 (length text) → length text
    ≡ position_or_len (λ c. nat_eq c byte) text
nowhere byte text h = sym (position_or_len_is (λ c. nat_eq c byte) text (length text) 0 (omega arith)
    (λ k l. not_true _ (h k (omega arith) l)) (λ l. absurd (omega arith)))

pub returns-in-Some-clause-place : goal.returns-in-Some-clause-place
returns-in-Some-clause-place c = at_place c.args.byte c.args.text.now c.in-Some.place c.in-Some.ensures

pub returns-in-None-clause-place : goal.returns-in-None-clause-place
returns-in-None-clause-place c = nowhere c.args.byte c.args.text.now c.in-None.ensures
