-- Renamings of profiles, one after the other.
use Rattle.std.proofs.Common.{◌≡◌, ℕ, ◌+◌, ◌<◌, ◌≤◌, Bool, true, false, cond, List, [], ◌∷◌, map, refl, sym, ap, ◌∙◌}
use Rattle.std.proofs.Common.{arith, subst}
use Rattle.std.proofs.lemmas.List.Elements.{All-head, All-tail}
use Rattle.std.proofs.lemmas.List.Sums.{sum_by-cons}
use Rattle.std.specs.FinSet as set
use Rattle.vir_altset.specs.Sets.{Set, all}
use Rattle.vir_altset.specs.SetLaws.{same_members, contains-all}
use Rattle.vir_altset.specs.declared.split.Split.{Split}
use Rattle.vir_profile.specs.declared.ballot.Entry.{Entry}
use Rattle.vir_profile.specs.Orders.{IsListing}
use Rattle.vir_profile.specs.Profiles.{IsProfileOn, weight_where, total_weight}
use Rattle.vir_mean.specs.Neutrality.{IsRenaming, renamed_set, renamed_line, renamed_lines, renamed_split}
use Rattle.vir_mean.proofs.MemberCounts.{often, at_head, lists_of}
use Rattle.vir_mean.proofs.RenamedElections.{renamed_election}
use Rattle.vir_mean.proofs.RenamedSets.{named, contains-name, member_listed}
use Rattle.vir_find.proofs.AlikeProfiles.{Alike, weight_where-cons}

pub same_truth : (b c : Bool) → (b ≡ true → c ≡ true) → (c ≡ true → b ≡ true) → b ≡ c
same_truth b c there back = grind arith

-- ---- profiles
weight_where-renamed : (test : List ℕ → Bool) (f : ℕ → ℕ) (lines : List Entry)
    → weight_where test (renamed_lines f lines) ≡ weight_where (λ order. test (map f order)) lines
weight_where-renamed test f [] = refl
weight_where-renamed test f (line ∷ lines) =
    weight_where-cons test (renamed_line f line) (renamed_lines f lines)
    ∙ ap (λ n. cond (test (map f line.order)) line.weight 0 + n) (weight_where-renamed test f lines)
    ∙ sym (weight_where-cons (λ order. test (map f order)) line lines)

-- profiles that are alike are so under other names
pub alike_renamed : (f : ℕ → ℕ) (p q : List Entry) → Alike p q → Alike (renamed_lines f p) (renamed_lines f q)
alike_renamed f p q alike test =
    weight_where-renamed test f p ∙ alike (λ order. test (map f order)) ∙ sym (weight_where-renamed test f q)

pub total_weight-renamed : (f : ℕ → ℕ) (lines : List Entry) → total_weight (renamed_lines f lines) ≡ total_weight lines
total_weight-renamed f lines = weight_where-renamed (λ _. true) f lines

map_map : (g f : ℕ → ℕ) (xs : List ℕ) → map g (map f xs) ≡ map (λ x. g (f x)) xs
map_map g f [] = refl
map_map g f (x ∷ xs) = ap (λ ys. g (f x) ∷ ys) (map_map g f xs)

-- ---- two renamings, one after the other
pub renamed_lines-twice : (g f : ℕ → ℕ) (lines : List Entry) → renamed_lines g (renamed_lines f lines)
    ≡ renamed_lines (λ x. g (f x)) lines
renamed_lines-twice g f [] = refl
renamed_lines-twice g f (line ∷ lines) =
    let here = map_map g f line.order in
    let rest = renamed_lines-twice g f lines in
    λ i. record { weight = line.weight; order = here i } ∷ rest i

pub renamed_set-twice : (g f : ℕ → ℕ) (d : Set) → renamed_set g (renamed_set f d) ≡ renamed_set (λ x. g (f x)) d
renamed_set-twice g f d = same_members _ _ (λ z. same_truth _ _
    (λ h.
    let outer = named g (renamed_set f d) z h in
    let inner = named f d outer.one outer.member in
    subst (λ y. set.contains (renamed_set (λ x. g (f x)) d) y ≡ true) (ap g inner.name ∙ outer.name)
    (contains-name (λ x. g (f x)) d inner.one inner.member))
    (λ h.
    let n = named (λ x. g (f x)) d z h in
    subst (λ y. set.contains (renamed_set g (renamed_set f d)) y ≡ true) n.name
    (contains-name g (renamed_set f d) (f n.one) (contains-name f d n.one n.member))))

pub renamed_split-twice : (g f : ℕ → ℕ) (s : Split) → renamed_split g (renamed_split f s)
    ≡ renamed_split (λ x. g (f x)) s
renamed_split-twice g f s =
    let elected = renamed_set-twice g f s.elected in
    let rejected = renamed_set-twice g f s.rejected in
    let deferred = renamed_set-twice g f s.deferred in
    λ i. record { elected = elected i; rejected = rejected i; deferred = deferred i }

-- ---- names that stay
pub renamed_set-fixed : (f : ℕ → ℕ) (d : Set) → ((x : ℕ) → set.contains d x ≡ true → f x ≡ x) → renamed_set f d ≡ d
renamed_set-fixed f d fixed = same_members _ _ (λ z. same_truth _ _
    (λ h.
    let n = named f d z h in
    subst (λ y. set.contains d y ≡ true) (sym (fixed n.one n.member) ∙ n.name) n.member)
    (λ h. subst (λ y. set.contains (renamed_set f d) y ≡ true) (fixed z h) (contains-name f d z h)))

map-fixed : (f : ℕ → ℕ) (order : List ℕ) → ((x : ℕ) → 0 < often x order → f x ≡ x) → map f order ≡ order
map-fixed f [] fixed = refl
map-fixed f (y ∷ order) fixed =
    ap (λ z. z ∷ map f order) (fixed y (at_head y order))
    ∙ ap (λ ys. y ∷ ys) (map-fixed f order (λ x some. fixed x (omega arith)))

-- ---- renamings of the alternatives from 1 to m onto themselves
pub record IsOnto (m : ℕ) (f : ℕ → ℕ) : Type 0 where
  pub renaming : IsRenaming f (all m)
  pub onto : renamed_set f (all m) ≡ all m

module _ (m : ℕ) (f : ℕ → ℕ) (is : IsOnto m f) where
  pub value_inside : (x : ℕ) → set.contains (all m) x ≡ true → set.contains (all m) (f x) ≡ true
  value_inside x inside = subst (λ a. set.contains a (f x) ≡ true) is.onto (contains-name f (all m) x inside)

  pub renamed_on : (lines : List Entry) → IsProfileOn (all m) lines → IsProfileOn (all m) (renamed_lines f lines)
  renamed_on lines on = subst (λ a. IsProfileOn a (renamed_lines f lines)) is.onto
      (renamed_election f (all m) lines (record { positive = contains-all m 0; lists = on }) is.renaming).lists

  pub renamed_lines-fixed : ((x : ℕ) → set.contains (all m) x ≡ true → f x ≡ x) → (lines : List Entry)
      → IsProfileOn (all m) lines → renamed_lines f lines ≡ lines
  renamed_lines-fixed fixed [] on = refl
  renamed_lines-fixed fixed (line ∷ lines) on =
      let listing = All-head (λ (line : Entry). IsListing (all m) line.order) line lines on in
      let here = map-fixed f line.order (λ x some. fixed x
      (member_listed f (all m) is.renaming (all m) line.order (lists_of (all m) line.order listing) x some)) in
      let rest =
      renamed_lines-fixed fixed lines (All-tail (λ (line : Entry). IsListing (all m) line.order) line lines on) in
      λ i. record { weight = line.weight; order = here i } ∷ rest i

pub onto-twice : (m : ℕ) (g f : ℕ → ℕ) → IsOnto m g → IsOnto m f → IsOnto m (λ x. g (f x))
onto-twice m g f outer inner = record {
  renaming = record {
    positive = λ x inside. outer.renaming.positive (f x) (value_inside m f inner x inside);
    one_to_one = λ x y with_x with_y same. inner.renaming.one_to_one x y with_x with_y
        (outer.renaming.one_to_one (f x) (f y)
        (value_inside m f inner x with_x) (value_inside m f inner y with_y) same);
  };
  onto = sym (renamed_set-twice g f (all m)) ∙ ap (renamed_set g) inner.onto ∙ outer.onto;
}
