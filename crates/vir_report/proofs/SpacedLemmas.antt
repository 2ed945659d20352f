-- Printed members of a set, one after another.
use Rattle.std.proofs.Common.{◌≡◌, ℕ, ◌≤◌, List, [], ◌∷◌, ◌++◌, decimal, sym, ap, ◌∙◌, append_assoc}
use Rattle.std.proofs.lemmas.Grind.{flat_map-append}
use Rattle.std.proofs.lemmas.List.{append-nil}
use Rattle.vir_altset.specs.Sets.{Set, limit, IsNext, IsLast}
use Rattle.vir_altset.specs.Members.{members, members_up_to}
use Rattle.vir_altset.proofs.MemberLaws.{members_up_to-next, members_up_to-last}
use Rattle.vir_report.specs.ResultText.{spaced}

-- with the next member printed, the members up to it are
pub spaced-next : (a : Set) (x y : ℕ) (start before after : List ℕ) → IsNext a x y → before ≡ start
    ++ spaced (members_up_to x a) → after ≡ before ++ 32 ∷ decimal y
    → after ≡ start ++ spaced (members_up_to y a)
spaced-next a x y start before after next printed one =
    let two : spaced (members_up_to y a) ≡ spaced (members_up_to x a) ++ 32 ∷ decimal y =
    ap spaced (members_up_to-next a x y next) ∙ flat_map-append (λ number. 32 ∷ decimal number) (members_up_to x a)
    (y ∷ [])
    ∙ ap (λ zs. spaced (members_up_to x a) ++ zs) (append-nil (32 ∷ decimal y)) in
    one ∙ ap (λ zs. zs ++ 32 ∷ decimal y) printed ∙ append_assoc start (spaced (members_up_to x a)) (32 ∷ decimal y)
    ∙ ap (λ zs. start ++ zs) (sym two)

-- with the last member printed, all are
pub spaced-last : (a : Set) (x : ℕ) (start text : List ℕ) → IsLast a x → x ≤ limit → text ≡ start
    ++ spaced (members_up_to x a) → text ≡ start ++ spaced (members a)
spaced-last a x start text last within printed = printed ∙ ap (λ xs. start ++ spaced xs)
    (sym (members_up_to-last a x limit last within))

-- with nothing printed, none are
pub spaced-none : (a : Set) (start : List ℕ) → start ≡ start ++ spaced (members_up_to 0 a)
unfolding members_up_to
spaced-none a start = sym (append-nil start)
