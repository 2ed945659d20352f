-- Generated profiles: one step of each recursion, and that no generated line has a fault.
use Rattle.std.proofs.Common.{◌≡◌, ℕ, zero, suc, ◌+◌, ◌-◌, ◌%◌, ◌<◌, ◌≤◌, ◌&&◌, false, cond, List, [], ◌∷◌, ◌++◌}
use Rattle.std.proofs.Common.{append_assoc, append-nil, length, None, nat_eq, nat_le, nat_lt, refl, sym, ap, ◌∙◌, arith}
use Rattle.std.proofs.lemmas.Bool.Decides.{nat_tests}
use Rattle.std.proofs.lemmas.List.Sums.{sum_by-append, sum_by-cons, sum_by-insert}
use Rattle.std.specs.List.{insert}
use Rattle.vir_altset.specs.Sets.{all}
use Rattle.vir_altset.specs.SetLaws.{contains-all}
use Rattle.vir_profile.specs.Add.{add_fault}
use Rattle.vir_profile.specs.declared.ballot.Entry.{Entry}
use Rattle.vir_profile.specs.OrderFaults.{or_else, fault_where}
use Rattle.vir_profile.specs.declared.refused.AddFault.TheVariants.{TooManyOrders, TooManyVoters}
use Rattle.vir_profile.specs.Orders.{times, IsListing}
use Rattle.vir_profile.specs.Profiles.{Votes, total_weight, voters_limit}
use Rattle.vir_profile.proofs.OrderLaws.{times-cons, accepted_of_listing}
use Rattle.vir_counting.specs.Drill.{Drawn, with_next, drawn_from, draw_of, next_state, lines_from}

-- an order gets one more alternative
pub drawn_from_step : (x j : ℕ) → 2 ≤ j → drawn_from x j ≡ with_next j (drawn_from x (j - 1))
unfolding drawn_from
drawn_from_step x zero h = absurd (omega arith)
drawn_from_step x (suc zero) h = absurd (omega arith)
drawn_from_step x (suc (suc k)) h =
    let less : suc (suc k) - 1 ≡ suc k = omega arith in
    ap (λ n. with_next (suc (suc k)) (drawn_from x n)) (sym less)

-- an order begins with alternative 1
pub drawn_from_one : (x : ℕ) → drawn_from x 1 ≡ record { order = 1 ∷ []; state = x }
unfolding drawn_from
drawn_from_one x = refl

-- what the next draw puts in gives the next order and the state after it
pub drawn_from-more : (x j : ℕ) (order : List ℕ) (before state draw : ℕ) (more : List ℕ) → 2 ≤ j → order
    ≡ (drawn_from x (j - 1)).order → before ≡ (drawn_from x (j - 1)).state → state ≡ next_state before → draw
    ≡ draw_of state → more ≡ insert order (draw % j) j → (more ≡ (drawn_from x j).order)
    × (state ≡ (drawn_from x j).state)
drawn_from-more x j order before state draw more h of_order of_state next drawn put =
    let step = drawn_from_step x j h in
    let to_order = ap (λ (d : Drawn). d.order) step in
    let to_state = ap (λ (d : Drawn). d.state) step in
    (cc, cc)

-- one more line, and those after it
pub lines_from_step : (m x n : ℕ) → 1 ≤ n → lines_from m x n ≡ record { weight = 1; order = (drawn_from x m).order }
    ∷ lines_from m (drawn_from x m).state (n - 1)
unfolding lines_from
lines_from_step m x zero h = absurd (omega arith)
lines_from_step m x (suc n) h =
    let less : suc n - 1 ≡ n = omega arith in
    ap (λ k. record { weight = 1; order = (drawn_from x m).order } ∷ lines_from m (drawn_from x m).state k) (sym less)

-- no line is left
pub lines_from_none : (m x n : ℕ) → n ≡ 0 → lines_from m x n ≡ []
unfolding lines_from
lines_from_none m x zero e = refl
lines_from_none m x (suc n) e = absurd (omega arith)

-- each alternative stands once in a generated order
times-drawn_from : (x m y : ℕ) → times y (drawn_from x m).order ≡ cond (nat_lt 0 y && nat_le y m) 1 0
unfolding drawn_from
times-drawn_from x zero y = none y
  where
    none : (y : ℕ) → times y [] ≡ cond (nat_lt 0 y && nat_le y 0) 1 0
    none y = grind (arith, nat_tests)
times-drawn_from x (suc zero) y = times-cons y 1 [] ∙ one y
  where
    one : (y : ℕ) → cond (nat_eq 1 y) 1 0 + 0 ≡ cond (nat_lt 0 y && nat_le y 1) 1 0
    one y = grind (arith, nat_tests)
times-drawn_from x (suc (suc k)) y =
    let before = drawn_from x (suc k) in
    sum_by-insert (λ z. cond (nat_eq z y) 1 0) before.order (draw_of (next_state before.state) % suc (suc k))
    (suc (suc k))
    ∙ ap (λ n. n + cond (nat_eq (suc (suc k)) y) 1 0) (times-drawn_from x (suc k) y)
    ∙ more (suc k) y
  where
    more : (k y : ℕ) → cond (nat_lt 0 y && nat_le y k) 1 0 + cond (nat_eq (suc k) y) 1 0
        ≡ cond (nat_lt 0 y && nat_le y (suc k)) 1 0
    more k y = grind (arith, nat_tests)

listing-drawn_from : (x m : ℕ) → IsListing (all m) (drawn_from x m).order
listing-drawn_from x m y = times-drawn_from x m y ∙ ap (λ b. cond b 1 0) (sym (contains-all m y))

-- a profile with room takes a generated line
pub add_fault-drawn : (votes : Votes) (x : ℕ) → length votes.lines < 1000000 → total_weight votes.lines < voters_limit
    → add_fault votes (record { weight = 1; order = (drawn_from x votes.alternatives).order }) ≡ None
add_fault-drawn votes x room light =
    ap (λ fault. or_else fault (or_else (fault_where (nat_le 1000000 (length votes.lines)) TooManyOrders)
    (fault_where (nat_lt voters_limit (total_weight votes.lines + 1)) TooManyVoters)))
    (accepted_of_listing votes.alternatives (drawn_from x votes.alternatives).order
    (listing-drawn_from x votes.alternatives))
    ∙ rest (length votes.lines) (total_weight votes.lines) room light
  where
    few : (n : ℕ) → n < 1000000 → nat_le 1000000 n ≡ false
    few n h = grind (arith, nat_tests)

    within : (t limit : ℕ) → t < limit → nat_lt limit (t + 1) ≡ false
    within t limit h = grind (arith, nat_tests)

    rest : (n t : ℕ) → n < 1000000 → t < voters_limit → or_else (fault_where (nat_le 1000000 n) TooManyOrders)
        (fault_where (nat_lt voters_limit (t + 1)) TooManyVoters) ≡ None
    rest n t room light = rw (few n room, within t voters_limit light) refl

-- where a line is added, the rest is one less
pub lines_from-more : (m x n state : ℕ) (order : List ℕ) (before more whole : List Entry) → 1 ≤ n → order
    ≡ (drawn_from x m).order → state ≡ (drawn_from x m).state → more ≡ before ++ record { weight = 1; order = order }
    ∷ [] → before ++ lines_from m x n ≡ whole → more ++ lines_from m state (n - 1) ≡ whole
lines_from-more m x n state order before more whole h of_order of_state added is =
    let step = lines_from_step m x n h in
    let joined : (before ++ record { weight = 1; order = order } ∷ []) ++ lines_from m state (n - 1) ≡ before
    ++ record { weight = 1; order = order } ∷ lines_from m state (n - 1) = simp append_assoc in
    cc

-- a line is one voter more
pub total_weight-more : (before : List Entry) (order : List ℕ)
    → total_weight (before ++ record { weight = 1; order = order } ∷ []) ≡ total_weight before + 1
total_weight-more before order =
    let line : Entry = record { weight = 1; order = order } in
    let joined = sum_by-append (λ (one : Entry). one.weight) before (line ∷ []) in
    let last = sum_by-cons (λ (one : Entry). one.weight) line [] in
    omega arith

-- a profile is its number of alternatives and its lines
pub same_votes : (votes : Votes) (m : ℕ) (lines : List Entry) → votes.alternatives ≡ m → votes.lines ++ [] ≡ lines
    → votes ≡ record { alternatives = m; lines = lines }
same_votes votes m lines of_alternatives of_lines =
    let all : votes.lines ≡ lines = sym (append-nil votes.lines) ∙ of_lines in
    let first : votes ≡ record votes { alternatives = m } = ap (λ n. record votes { alternatives = n }) of_alternatives
    in
    let second : record votes { alternatives = m } ≡ record { alternatives = m; lines = lines } =
    ap (λ rest. record { alternatives = m; lines = rest }) all in
    first ∙ second
