-- Laws of electing: nobody, everybody, somebody.
use Rattle.std.proofs.Common.{◌≡◌, ◌≤◌, true, true≢false, not, ◌&&◌, refl, sym, ap₂, ◌∙◌, arith}
use Rattle.std.proofs.lemmas.Bool.Decides.{nat_tests}
use Rattle.std.specs.FinSet as set
use Rattle.vir_altset.specs.Sets.{Set, IsPart}
use Rattle.vir_altset.specs.SetLaws.{contains-retain, same_members, set_members}
use Rattle.vir_altset.proofs.SplitLaws.{elected_part, deferred_part}
use Rattle.vir_profile.specs.Profiles.{restrict}
use Rattle.vir_term.specs.declared.leaf.Leaf.{Leaf}
use Rattle.vir_term.specs.declared.leaf.Leaf.TheVariants as leaf
use Rattle.vir_term.specs.declared.prop.Prop.TheVariants.{Ne, Ea, El, Nb}
use Rattle.vir_term.specs.Kinds.{kind_of}
use Rattle.vir_mean.specs.Scores.{plurality_score}
use Rattle.vir_mean.specs.Modules.{Meaning, leaf_mean}
use Rattle.vir_term.specs.Tree.{End, number_of}
use Rattle.vir_mean.specs.Compositions.{rev_of, seq_of, par_of, loop_of}
use Rattle.vir_mean.specs.Properties.{Holds}
use Rattle.vir_mean.proofs.MeaningLaws.{Splits}
use Rattle.vir_rules.specs.declared.row.Family.TheVariants.{ElectingNobody, ElectingAll, ElectingSome}
use Rattle.vir_rules.specs.Families.{is_of}
use Rattle.vir_sound.specs.Truth.{IsProperLeaf}
use Rattle.vir_sound.proofs.MeaningLemmas.{same_at, none_at, empty_of_not, union_none, left_none, right_none}
use Rattle.vir_sound.proofs.MeaningLemmas.{all_rejected, elected-eliminated, deferred_profile, by_turns, member_of}
use Rattle.vir_mean.proofs.Leaders.{leader_of, test_of_leads}

-- ---- nobody is elected
pub ne_leaf : (l : Leaf) → IsProperLeaf l → is_of ElectingNobody (kind_of l) ≡ true → Holds Ne (leaf_mean l)
ne_leaf leaf.Elect proper fits a p on = cc
ne_leaf leaf.Defer proper fits a p on = refl
ne_leaf (leaf.PassFirst k order) proper fits a p on = refl
ne_leaf (leaf.DropFirst k order) proper fits a p on = refl
ne_leaf leaf.Plurality proper fits a p on = cc
ne_leaf (leaf.Max s) proper fits a p on = elected-eliminated a _
ne_leaf (leaf.Min s) proper fits a p on = elected-eliminated a _
ne_leaf (leaf.Below s) proper fits a p on = elected-eliminated a _
ne_leaf (leaf.Upto s) proper fits a p on = elected-eliminated a _

pub ne_rev : (m : Meaning) → Splits m → Holds Ne (rev_of m)
ne_rev m splits a p on = refl

pub ne_seq : (m n : Meaning) → Splits m → Splits n → Holds Ne m → Holds Ne n → Holds Ne (seq_of m n)
ne_seq m n splits also first second a p on = union_none _ _ (first a p on)
    (second _ _ (deferred_profile m splits a p on))

pub ne_par : (m n : Meaning) → Splits m → Splits n → Holds Ne m → Holds Ne n → Holds Ne (par_of m n)
ne_par m n splits also first second a p on = union_none _ _ (first a p on) (second a p on)

pub ne_loop : (k : End) (m : Meaning) → 1 ≤ number_of k → Splits m → Holds Ne m → Holds Ne (loop_of k m)
ne_loop k m some splits body = by_turns k m splits (λ a p s. s.elected ≡ set.empty)
    (λ a p on few. refl)
    (λ a p on more whole. refl)
    (λ a p on more smaller rest. union_none _ _ (body a p on) rest)

-- ---- all are elected
pub ea_leaf : (l : Leaf) → IsProperLeaf l → is_of ElectingAll (kind_of l) ≡ true → Holds Ea (leaf_mean l)
ea_leaf leaf.Elect proper fits a p on = refl
ea_leaf leaf.Defer proper fits a p on = cc
ea_leaf (leaf.PassFirst k order) proper fits a p on = cc
ea_leaf (leaf.DropFirst k order) proper fits a p on = cc
ea_leaf leaf.Plurality proper fits a p on = cc
ea_leaf (leaf.Max s) proper fits a p on = cc
ea_leaf (leaf.Min s) proper fits a p on = cc
ea_leaf (leaf.Below s) proper fits a p on = cc
ea_leaf (leaf.Upto s) proper fits a p on = cc

-- what is elected besides is a part
with_part : (a b d : Set) → b ≡ a → IsPart d a → set.union b d ≡ a
with_part a b d all part = same_members _ _ (λ x. let same = same_at x all in let inside = part x
    in grind (arith, nat_tests, set_members))

part_with : (a b d : Set) → b ≡ a → IsPart d a → set.union d b ≡ a
part_with a b d all part = same_members _ _ (λ x. let same = same_at x all in let inside = part x
    in grind (arith, nat_tests, set_members))

pub ea_seq : (m n : Meaning) → Splits m → Splits n → Holds Ea m → Holds Ea (seq_of m n)
ea_seq m n splits also first a p on = with_part a _ _ (first a p on) (λ x member. deferred_part a (m a p) (splits a p) x
    (elected_part _ _ (also (m a p).deferred (restrict (m a p).deferred p)) x member))

pub ea_par_left : (m n : Meaning) → Splits m → Splits n → Holds Ea m → Holds Ea (par_of m n)
ea_par_left m n splits also first a p on = with_part a _ _ (first a p on) (elected_part a (n a p) (also a p))

pub ea_par_right : (m n : Meaning) → Splits m → Splits n → Holds Ea n → Holds Ea (par_of m n)
ea_par_right m n splits also second a p on = part_with a _ _ (second a p on) (elected_part a (m a p) (splits a p))

-- ---- somebody is elected
pub el_leaf : (l : Leaf) → IsProperLeaf l → is_of ElectingSome (kind_of l) ≡ true → Holds El (leaf_mean l)
el_leaf leaf.Elect proper fits a p on some none = some none
el_leaf leaf.Defer proper fits a p on some none = cc
el_leaf (leaf.PassFirst k order) proper fits a p on some none = cc
el_leaf (leaf.DropFirst k order) proper fits a p on some none = cc
el_leaf leaf.Plurality proper fits a p on some none =
    let somebody = member_of a some in
    let first = leader_of (plurality_score p) a somebody.one somebody.member in
    true≢false (sym (contains-retain a _ first.one ∙ ap₂ (λ b c. b && not c) first.member
    (test_of_leads (plurality_score p) a first.one first.leads)) ∙ none_at first.one none)
el_leaf (leaf.Max s) proper fits a p on some none = cc
el_leaf (leaf.Min s) proper fits a p on some none = cc
el_leaf (leaf.Below s) proper fits a p on some none = cc
el_leaf (leaf.Upto s) proper fits a p on some none = cc

pub el_seq_first : (m n : Meaning) → Splits m → Splits n → Holds El m → Holds El (seq_of m n)
el_seq_first m n splits also first a p on some none = first a p on some (left_none _ _ none)

-- where the first part elects nobody, it defers somebody, since it doesn't reject all
pub el_seq_second : (m n : Meaning) → Splits m → Splits n → Holds Nb m → Holds El n → Holds El (seq_of m n)
el_seq_second m n splits also first second a p on some none =
    let nobody = left_none _ _ none in
    let nothing = empty_of_not (m a p).deferred (λ left. second _ _ (deferred_profile m splits a p on) left
    (right_none _ _ none)) in
    first a p on some (all_rejected a (m a p) (splits a p) nobody nothing)

pub el_par_left : (m n : Meaning) → Splits m → Splits n → Holds El m → Holds El (par_of m n)
el_par_left m n splits also first a p on some none = first a p on some (left_none _ _ none)

pub el_par_right : (m n : Meaning) → Splits m → Splits n → Holds El n → Holds El (par_of m n)
el_par_right m n splits also second a p on some none = second a p on some (right_none _ _ none)

pub el_ea : (m : Meaning) → Splits m → Holds Ea m → Holds El m
el_ea m splits all a p on some none = some (sym (all a p on) ∙ none)
