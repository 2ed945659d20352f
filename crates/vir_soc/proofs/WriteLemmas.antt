-- The text of a file, as it is written part by part.
use Rattle.std.proofs.Common.{◌≡◌, ℕ, zero, suc, ◌+◌, ◌<◌, false, cond, List, [], ◌∷◌, ◌++◌, length, take, get_or}
use Rattle.std.proofs.Common.{codes, decimal, nat_eq, ap, sym, ◌∙◌, refl, arith, append_assoc, append-nil, Result, Ok}
use Rattle.std.proofs.Common.{Err}
use Rattle.std.specs.Result.{OnOk, is_ok}
use Rattle.std.proofs.lemmas.Bool.Decides.{nat_tests}
use Rattle.std.proofs.lemmas.List.{take_more, length-take-le}
use Rattle.vir_profile.specs.declared.soc_file.Name.{Name}
use Rattle.vir_profile.specs.Profiles.{Votes, total_weight}
use Rattle.vir_soc.specs.SocText.{counts_text, member_text, metadata_text, name_text, order_text}

-- what a value is where a call went well
pub on_ok_chosen : {T E A : Type 0} (r : Result T E) (new x y : A) → new ≡ cond (is_ok r) x y → OnOk r (new ≡ x)
on_ok_chosen (Ok t) new x y h = h
on_ok_chosen (Err e) new x y h = tt

-- four parts behind a text
four_parts : (out a b c d : List ℕ) → out ++ a ++ b ++ c ++ d ≡ out ++ (a ++ b ++ c ++ d)
four_parts out a b c d = simp append_assoc

-- the lines of the counts behind a text
pub counts_text-written : (out : List ℕ) (profile : Votes) → out ++ metadata_text (codes "DATA TYPE") (codes "soc")
    ++ metadata_text (codes "NUMBER ALTERNATIVES") (decimal profile.alternatives)
    ++ metadata_text (codes "NUMBER VOTERS") (decimal (total_weight profile.lines))
    ++ metadata_text (codes "NUMBER UNIQUE ORDERS") (decimal (length profile.lines)) ≡ out ++ counts_text profile
unfolding counts_text
counts_text-written out profile = four_parts out _ _ _ _

-- the parts of a name's line behind a text
name_parts : (out number text : List ℕ) → out ++ codes "# ALTERNATIVE NAME " ++ number ++ codes ": " ++ text ++ 10 ∷ []
    ≡ out ++ (codes "# " ++ (codes "ALTERNATIVE NAME " ++ number) ++ codes ": " ++ text ++ 10 ∷ [])
name_parts out number text = simp append_assoc

-- the line of a name behind a text
pub name_text-written : (out : List ℕ) (name : Name) → out ++ codes "# ALTERNATIVE NAME " ++ decimal name.number
    ++ codes ": " ++ name.text ++ 10 ∷ [] ≡ out ++ name_text name
unfolding name_text metadata_text
name_text-written out name = name_parts out (decimal name.number) name.text

-- a further member stands behind a comma
order_text-push : (xs : List ℕ) (x : ℕ) → 0 < length xs → order_text (xs ++ x ∷ []) ≡ order_text xs ++ 44 ∷ decimal x
order_text-push [] x h = absurd (omega arith)
order_text-push (y ∷ []) x h = refl
order_text-push (y ∷ z ∷ zs) x h = ap (λ t. decimal y ++ 44 ∷ t) (order_text-push (z ∷ zs) x (omega arith))
    ∙ sym (append_assoc (decimal y) (44 ∷ order_text (z ∷ zs)) (44 ∷ decimal x))

-- the text of the members up to a place, and of the one there
pub order_next : (old out order : List ℕ) (place : ℕ) → place < length order → out ≡ old
    ++ order_text (take place order) → out ++ member_text place (get_or order place 0) ≡ old
    ++ order_text (take (place + 1) order)
order_next old out order zero h s = rw (take_more order 0 0 h, s, append-nil old) refl
order_next old out order (suc k) h s =
    let t : nat_eq (suc k) 0 ≡ false = grind (arith, nat_tests) in
    let n = length-take-le (suc k) order (omega arith) in
    rw (take_more order (suc k) 0 h, order_text-push (take (suc k) order) (get_or order (suc k) 0) (omega arith), s, t)
    (append_assoc old (order_text (take (suc k) order)) (44 ∷ decimal (get_or order (suc k) 0)))
