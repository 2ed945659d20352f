-- What the alternatives of elections are, also under other names.
use Rattle.std.proofs.Common.{◌≡◌, ℕ, zero, suc, ◌≤◌, Bool, true, false, true≢false, List, map, sym, ◌∙◌, arith}
use Rattle.std.proofs.lemmas.List.Elements.{All-map, All-weaker}
use Rattle.std.specs.FinSet as set
use Rattle.vir_altset.specs.Sets.{Set}
use Rattle.vir_profile.specs.declared.ballot.Entry.{Entry}
use Rattle.vir_profile.specs.Orders.{IsListing}
use Rattle.vir_profile.specs.Profiles.{IsProfileOn}
use Rattle.vir_profile.specs.Elections.{IsElection}
use Rattle.vir_mean.specs.Neutrality.{IsRenaming, renamed_set, renamed_line, renamed_lines}
use Rattle.vir_mean.proofs.MemberCounts.{lists_of, listing_of}
use Rattle.vir_mean.proofs.RenamedSets.{named, lists-renamed}

-- the alternatives are numbers from 1 on
pub from_1_on : (a : Set) (p : List Entry) (x : ℕ) → IsElection a p → set.contains a x ≡ true → 1 ≤ x
from_1_on a p zero on member = absurd (true≢false (sym member ∙ on.positive))
from_1_on a p (suc x) on member = omega arith

-- an election under other names is one
pub renamed_election : (f : ℕ → ℕ) (a : Set) (p : List Entry) → IsElection a p → IsRenaming f a
    → IsElection (renamed_set f a) (renamed_lines f p)
renamed_election f a p on renaming =
    record {
      positive = none _ (λ h.
          let n = named f a 0 h in
          let some = renaming.positive n.one n.member in
          let zero = n.name in
          absurd (omega arith));
      lists = lists;
    }
  where
    none : (b : Bool) → (b ≡ true → ⊥) → b ≡ false
    none b not = grind arith

    lists : IsProfileOn (renamed_set f a) (renamed_lines f p)
    lists = All-map (λ line. IsListing (renamed_set f a) line.order) (renamed_line f) p
        (All-weaker (λ line. IsListing a line.order) (λ line. IsListing (renamed_set f a) (map f line.order))
        (λ line one. listing_of (renamed_set f a) (map f line.order)
        (lists-renamed f a renaming a (λ x member. member) line.order (lists_of a line.order one))) p on.lists)
