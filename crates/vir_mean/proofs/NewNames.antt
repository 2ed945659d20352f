-- A meaning that asks whether 1 is among the alternatives: names within the set make no difference to it, others do.
use Rattle.std.proofs.Common.{◌≡◌, ℕ, suc, ◌≤◌, Bool, true, false, true≢false, ◌||◌, nat_eq, if◌then◌else◌, List, []}
use Rattle.std.proofs.Common.{sym, ap, ◌∙◌, refl, arith}
use Rattle.std.proofs.lemmas.Bool.Decides.{nat_tests}
use Rattle.std.proofs.lemmas.List.Elements.{All-nil}
use Rattle.std.specs.FinSet as set
use Rattle.vir_altset.specs.SetLaws.{contains-empty, contains-insert, set_members}
use Rattle.vir_altset.specs.Sets.{Set}
use Rattle.vir_altset.specs.declared.split.Split.{Split}
use Rattle.vir_profile.specs.declared.ballot.Entry.{Entry}
use Rattle.vir_profile.specs.Elections.{IsElection}
use Rattle.vir_profile.specs.Orders.{IsListing}
use Rattle.vir_term.specs.declared.prop.Prop.TheVariants.{Neut}
use Rattle.vir_mean.specs.Modules.{Meaning, all_elected, all_deferred}
use Rattle.vir_mean.specs.Neutrality.{IsRenaming, renamed_set, renamed_lines, renamed_split}
use Rattle.vir_mean.specs.Properties.{Holds, just}
use Rattle.vir_mean.proofs.RenamedLeaves.{elect-neutral, defer-neutral}
use Rattle.vir_mean.proofs.RenamedSets.{named, contains-name}

-- all are elected or deferred
abbrev elected_if : Bool → Meaning
elected_if b = if b then all_elected else all_deferred

-- all are elected where 1 is among them, and deferred where it isn't
abbrev elects_with_one : Meaning
elects_with_one a lines = elected_if (set.contains a 1) a lines

-- It does what neutrality asks with each renaming of a set onto itself.
within : (a : Set) (p : List Entry) (f : ℕ → ℕ) → IsElection a p → IsRenaming f a → renamed_set f a ≡ a
    → elects_with_one (renamed_set f a) (renamed_lines f p) ≡ renamed_split f (elects_with_one a p)
within a p f on renaming same =
    ap (λ s. elected_if (set.contains s 1) (renamed_set f a) (renamed_lines f p)) same ∙ either (set.contains a 1)
  where
    either : (b : Bool) → elected_if b (renamed_set f a) (renamed_lines f p) ≡ renamed_split f (elected_if b a p)
    either true = elect-neutral a p f on renaming
    either false = defer-neutral a p f on renaming

-- ---- 1 becomes 2
contains-just : (x : ℕ) → set.contains (just 1) x ≡ nat_eq x 1
contains-just x = contains-insert set.empty 1 x ∙ ap (λ b. nat_eq x 1 || b) (contains-empty x) ∙ alone (nat_eq x 1)
  where
    alone : (b : Bool) → (b || false) ≡ b
    alone true = refl
    alone false = refl

renaming : IsRenaming suc (just 1)
renaming = record {
  positive = λ x member. omega arith;
  one_to_one = λ x y with_x with_y same. omega (arith, same);
}

election : IsElection (just 1) []
election = record { positive = contains-just 0; lists = All-nil (λ line. IsListing (just 1) line.order) }

without_one : set.contains (renamed_set suc (just 1)) 1 ≡ false
without_one = by (set.contains (renamed_set suc (just 1)) 1) refl
  where
    none : (x : ℕ) → nat_eq x 1 ≡ true → suc x ≡ 1 → ⊥
    none x is name = grind (arith, nat_tests)

    by : (b : Bool) → set.contains (renamed_set suc (just 1)) 1 ≡ b → b ≡ false
    by false e = refl
    by true e =
        let one = named suc (just 1) 1 e in
        absurd (none one.one (sym (contains-just one.one) ∙ one.member) one.name)

not_neutral : Holds Neut elects_with_one → ⊥
not_neutral neutral =
    let same : renamed_set suc (elected_if (set.contains (just 1) 1) (just 1) []).elected
    ≡ (elected_if (set.contains (renamed_set suc (just 1)) 1) (renamed_set suc (just 1)) []).elected
    = sym (ap (λ (s : Split). s.elected) (neutral (just 1) [] suc election renaming)) in
    let two : set.contains (renamed_set suc (just 1)) 2 ≡ true = contains-name suc (just 1) 1 (contains-just 1) in
    true≢false (sym two ∙ ap (λ b. set.contains (renamed_set suc (elected_if b (just 1) []).elected) 2)
    (sym (contains-just 1)) ∙ ap (λ s. set.contains s 2) same
    ∙ ap (λ b. set.contains (elected_if b (renamed_set suc (just 1)) []).elected 2) without_one ∙ contains-empty 2)

pub new_names_matter : (m : Meaning)
    × ((a : Set) (p : List Entry) (f : ℕ → ℕ) → IsElection a p → IsRenaming f a → renamed_set f a ≡ a
    → m (renamed_set f a) (renamed_lines f p) ≡ renamed_split f (m a p))
    × (Holds Neut m → ⊥)
new_names_matter = (elects_with_one, within, not_neutral)
