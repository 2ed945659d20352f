-- The code of a term leads past it, with the term's meaning on top.
use Rattle.std.proofs.Common.{◌≡◌, ℕ, zero, suc, ◌+◌, ◌<◌, ◌≤◌, Bool, true, false, List, [], ◌∷◌, ◌++◌, length, Some}
use Rattle.std.proofs.Common.{if◌then◌else◌, refl, sym, ap, ◌∙◌, subst, arith}
use Rattle.std.specs.Prelude.{slice_get}
use Rattle.std.proofs.lemmas.List.{append-nil}
use Rattle.std.specs.FinSet as set
use Rattle.vir_altset.specs.Sets.{Set, IsPart}
use Rattle.vir_altset.specs.declared.split.Split.{Split}
use Rattle.vir_altset.proofs.SizeLaws.{len-part}
use Rattle.vir_profile.specs.declared.ballot.Entry.{Entry}
use Rattle.vir_term.specs.declared.leaf.Leaf.{Leaf}
use Rattle.vir_term.specs.Tree.{Tree, leaf, rev, seq, par, loop, End, exactly, at_most}
use Rattle.vir_code.specs.declared.instr.Instr.{Instr}
use Rattle.vir_code.specs.declared.instr.Instr.TheVariants.{Call, KeepDomain, FetchDomain, JoinSeq, JoinMax, Revise}
use Rattle.vir_code.specs.declared.instr.Instr.TheVariants.{StartLoop, LoopBack, EndLoop}
use Rattle.vir_code.specs.Code.{test_of}
use Rattle.vir_code.specs.Depth.{depth_of}
use Rattle.vir_code.specs.Places.{EndsAt}
use Rattle.vir_code.proofs.DepthLemmas.{depth_positive}
use Rattle.vir_code.proofs.Unique.{Ending, last_before, ending}
use Rattle.vir_mean.specs.Compositions.{is_end, joined, merged}
use Rattle.vir_compile.specs.Exec.{State, state, undecided, act}
use Rattle.vir_compile.specs.Calls.{called}
use Rattle.vir_compile.specs.StepsLeft.{origin}
use Rattle.vir_compile.proofs.Sets.{joined-undecided, undecided-joined, joined_assoc, part_of_part}
use Rattle.vir_compile.proofs.Meant.{meant, meant-part, meant-seq, meant-met, meant-idle, meant-on, meant-less}
use Rattle.vir_compile.proofs.CallsMeant.{calls_on, calls_on-seq, calls_on-met, calls_on-unmet}
use Rattle.vir_compile.proofs.Bounds.{repeated, most_steps}
use Rattle.vir_compile.proofs.Runs as runs

-- a test of either kind leads to its exit where the loop ends, and calls nothing
act-test_of : (lines : List Entry) (k : End) (exit : ℕ) (s : State) → act lines (test_of k exit) s
    ≡ Some (state (if is_end k (set.len s.domain) then exit else s.place + 1) s.domain s.splits s.domains)
act-test_of lines (exactly k) exit s = refl
act-test_of lines (at_most k) exit s = refl

called-test_of : (k : End) (exit : ℕ) → called (test_of k exit) ≡ []
called-test_of (exactly k) exit = refl
called-test_of (at_most k) exit = refl

module _ (code : List Instr) (lines : List Entry) (depth : ℕ) (whole : Set) where
  -- no set on the way is larger
  abbrev size : ℕ
  size = set.len whole

  abbrev Leads : ℕ → List Leaf → State → State → Type 0
  Leads n ls a b = runs.Leads code lines depth whole n ls a b

  abbrev calls : Tree → Set → List Leaf
  calls t d = calls_on lines t d

  abbrev means : Tree → Set → Split
  means t a = meant lines t a

  -- what a part of the set leaves is one
  left_part : (t : Tree) (d : Set) → IsPart d whole → IsPart (means t d).deferred whole
  left_part t d part = part_of_part (means t d).deferred d whole (meant-part lines t d) part

  onward : (n m : ℕ) (ls ms : List Leaf) (a b c : State) → Leads n ls a b → Leads m ms b c → Leads (n + m) (ls ++ ms) a
      c
  onward n m ls ms a b c = runs.leads_then code lines depth whole n m ls ms a b c

  step : (a b : State) (i : Instr) → slice_get code a.place ≡ Some i → act lines i a ≡ Some b → length b.splits ≤ depth
      → length b.domains ≤ depth → origin b.domain b.domains ≡ whole → IsPart b.domain whole → Leads 1 (called i) a b
  step a b i = runs.one_step code lines depth whole a b i

  -- the same, where more steps are allowed and the state after is another form of one
  ends_as : (n most : ℕ) (ls ms : List Leaf) (a b c : State) → n ≤ most → ls ≡ ms → b ≡ c → Leads n ls a b
      → Leads most ms a c
  ends_as n most ls ms a b c = runs.ends_as code lines depth whole n most ls ms a b c

  -- the turns of a loop, where the body's code leads to its meaning
  module _ (k : End) (m : Tree) (start turn last : ℕ) (ss : List Split) (ds : List Set) (next : turn + 1 ≡ last)
      (test_at : slice_get code (start + 1) ≡ Some (test_of k last)) (back_at : slice_get code turn
      ≡ Some (LoopBack (start + 1)))
      (body : (d : Set) (so_far : Split) → IsPart d whole → Leads (most_steps m size) (calls m d)
      (state (start + 2) d (so_far ∷ ss) ds) (state turn d (means m d ∷ (so_far ∷ ss)) ds)) (f : length ss
      + 1 ≤ depth) (g : length ds ≤ depth) (began : (d : Set) → origin d ds ≡ whole) where
    -- the rest of the loop leads to its end, in some domain
    abbrev Turns : ℕ → Split → Type 0
    Turns fuel so_far =
        (d : Set) × Leads (repeated fuel (most_steps m size + 2)) (calls (loop k m) so_far.deferred)
        (state (start + 1) so_far.deferred (so_far ∷ ss) ds)
        (state last d (joined so_far (means (loop k m) so_far.deferred) ∷ ss) ds)

    -- where nothing is to come
    over : (so_far : Split) → means (loop k m) so_far.deferred ≡ undecided so_far.deferred → state last so_far.deferred
        (so_far ∷ ss) ds ≡ state last so_far.deferred (joined so_far (means (loop k m) so_far.deferred) ∷ ss) ds
    over so_far e = ap (λ s. state last so_far.deferred (s ∷ ss) ds)
        (sym (ap (joined so_far) e ∙ joined-undecided so_far))

    back : (fuel : ℕ) (so_far : Split) → is_end k (set.len so_far.deferred) ≡ false → IsPart so_far.deferred whole
        → ((t : Split) → set.len t.deferred < set.len so_far.deferred → IsPart t.deferred whole → Turns fuel t)
        → (b : Bool) → set.is_subset so_far.deferred (means m so_far.deferred).deferred ≡ b
        → (d : Set) × Leads (1 + repeated fuel (most_steps m size + 2)) (if b then []
        else calls (loop k m) (means m so_far.deferred).deferred)
        (state turn so_far.deferred (means m so_far.deferred ∷ (so_far ∷ ss)) ds)
        (state last d (joined so_far (means (loop k m) so_far.deferred) ∷ ss) ds)
    back fuel so_far met part again true q =
        let d = so_far.deferred in
        let t = means m d in
        let here = state turn d (t ∷ (so_far ∷ ss)) ds in
        let leads = ap (λ b. Some (if b then state (turn + 1) d (so_far ∷ ss) ds else state (start + 1) t.deferred
        (joined so_far t ∷ ss) ds)) q in
        let end = ap (λ n. state n d (so_far ∷ ss) ds) next ∙ over so_far (meant-idle lines k m d met q) in (
          d,
          ends_as 1 _ [] [] here _ _ (omega arith) refl end (step here (state (turn + 1) d (so_far ∷ ss) ds)
              (LoopBack (start + 1)) back_at leads (omega arith) g (began _) part),
        )
    back fuel so_far met part again false q =
        let d = so_far.deferred in
        let t = means m d in
        let here = state turn d (t ∷ (so_far ∷ ss)) ds in
        let there = state (start + 1) t.deferred (joined so_far t ∷ ss) ds in
        let leads = ap (λ b. Some (if b then state (turn + 1) d (so_far ∷ ss) ds else there)) q in
        let left = left_part m d part in
        let rest = again (joined so_far t) (meant-less lines k m d q) left in
        let all : joined (joined so_far t) (means (loop k m) t.deferred) ≡ joined so_far (means (loop k m) d) =
        joined_assoc so_far t (means (loop k m) t.deferred) ∙ ap (joined so_far) (sym (meant-on lines k m d met q))
        in (
          rest.0,
          ends_as _ _ _ _ here _ _ (omega arith) refl (ap (λ s. state last rest.0 (s ∷ ss) ds) all)
              (onward _ _ [] _ here there _ (step here there (LoopBack (start + 1)) back_at leads (omega arith) g
              (began _) left) rest.1),
        )

    tested : (fuel : ℕ) (so_far : Split) → IsPart so_far.deferred whole
        → ((t : Split) → set.len t.deferred < set.len so_far.deferred → IsPart t.deferred whole → Turns fuel t)
        → (b : Bool) → is_end k (set.len so_far.deferred) ≡ b → Turns (suc fuel) so_far
    tested fuel so_far part again true q =
        let d = so_far.deferred in
        let here = state (start + 1) d (so_far ∷ ss) ds in
        let leads = act-test_of lines k last here
        ∙ ap (λ b. Some (state (if b then last else start + 1 + 1) d (so_far ∷ ss) ds)) q in (
          d,
          ends_as 1 _ (called (test_of k last)) _ here _ _ (omega arith) (called-test_of k last
              ∙ sym (calls_on-met lines k m d q)) (over so_far (meant-met lines k m d q))
              (step here (state last d (so_far ∷ ss) ds) (test_of k last) test_at leads (omega arith) g (began _) part),
        )
    tested fuel so_far part again false q =
        let d = so_far.deferred in
        let here = state (start + 1) d (so_far ∷ ss) ds in
        let there = state (start + 1 + 1) d (so_far ∷ ss) ds in
        let leads = act-test_of lines k last here
        ∙ ap (λ b. Some (state (if b then last else start + 1 + 1) d (so_far ∷ ss) ds)) q in
        let two : start + 1 + 1 ≡ start + 2 = omega arith in
        let first = ends_as 1 1 (called (test_of k last)) [] here there _ (omega arith) (called-test_of k last)
        (ap (λ n. state n d (so_far ∷ ss) ds) two) (step here there (test_of k last) test_at leads (omega arith) g
        (began _) part) in
        let rest = back fuel so_far q part again (set.is_subset d (means m d).deferred) refl in (
          rest.0,
          ends_as _ _ _ _ here _ _ (omega arith) (sym (calls_on-unmet lines k m d q)) refl
              (onward _ _ [] _ here _ _ first (onward _ _ _ _ _ _ _ (body d so_far part) rest.1)),
        )

    pub turns : (fuel : ℕ) (so_far : Split) → set.len so_far.deferred < fuel → IsPart so_far.deferred whole
        → Turns fuel so_far
    turns zero so_far few part = absurd (omega arith)
    turns (suc fuel) so_far few part =
        tested fuel so_far part (λ t fewer left. turns fuel t (omega arith) left) (is_end k (set.len so_far.deferred))
        refl

  -- the code of a part leads to its end, where it leads past its last instruction
  part : (end start : ℕ) (t : Tree) (d : Set) (ss : List Split) (ds : List Set) → EndsAt code end start t
      → ((last : ℕ) → Ending code last start t → Leads (most_steps t size) (calls t d) (state start d ss ds)
      (state (last + 1) d (means t d ∷ ss) ds)) → Leads (most_steps t size) (calls t d) (state start d ss ds)
      (state end d (means t d ∷ ss) ds)
  part end start t d ss ds h leads =
      let last = last_before code end start t h in
      ends_as _ _ _ _ _ _ _ (omega arith) refl (ap (λ n. state n d (means t d ∷ ss) ds) last.1)
      (leads last.0 (ending code last.0 end start t last.1 h))

  -- the code of a term leads past its last instruction, with the term's meaning on top
  pub follows : (t : Tree) (last start : ℕ) → Ending code last start t → (d : Set) (ss : List Split) (ds : List Set)
      → length ss + depth_of t ≤ depth → length ds + depth_of t ≤ depth → origin d ds ≡ whole → IsPart d whole
      → Leads (most_steps t size) (calls t d) (state start d ss ds) (state (last + 1) d (means t d ∷ ss) ds)
  follows (leaf l) last start h d ss ds f g o inside =
      let place = ap (λ n. state n d ss ds) (sym h.parts) in
      subst (λ s. Leads 1 (l ∷ []) s (state (last + 1) d (means (leaf l) d ∷ ss) ds)) place
      (step (state last d ss ds) _ (Call l) h.at_last refl (omega arith) (omega arith) o inside)
  follows (rev m) last start h d ss ds f g o inside =
      let some = depth_positive m in
      ends_as _ _ _ _ _ _ _ (omega arith) (append-nil (calls m d)) refl
      (onward _ _ (calls m d) [] _ _ _ (part last start m d ss ds h.parts (λ z e. follows m z start e d ss ds f g o
      inside))
      (step (state last d (means m d ∷ ss) ds) _ Revise h.at_last refl (omega arith) (omega arith) o inside))
  follows (seq m n) last start h d ss ds f g o inside =
      let some = depth_positive m in
      let some' = depth_positive n in
      let middle = h.parts.0 in
      let one = means m d in
      let two = means n one.deferred in
      let left = left_part m d inside in
      let kept = state (middle + 1) d (one ∷ ss) (d ∷ ds) in
      let fetched = state (middle + 1 + 1) one.deferred (one ∷ ss) (d ∷ ds) in
      let place : middle + 1 + 1 ≡ middle + 2 = omega arith in
      let first = part middle start m d ss ds h.parts.3 (λ z e. follows m z start e d ss ds (omega arith) (omega arith)
      o inside) in
      let keep = step (state middle d (one ∷ ss) ds) kept KeepDomain h.parts.2.0 refl (omega arith) (omega arith) o
      inside in
      let fetch = ends_as 1 1 [] [] kept fetched _ (omega arith) refl
      (ap (λ p. state p one.deferred (one ∷ ss) (d ∷ ds)) place) (step kept fetched FetchDomain h.parts.2.1.0 refl
      (omega arith) (omega arith) o left) in
      let second = part last (middle + 2) n one.deferred (one ∷ ss) (d ∷ ds) h.parts.1
      (λ z e. follows n z (middle + 2) e one.deferred (one ∷ ss) (d ∷ ds) (omega arith) (omega arith) o left) in
      let join = step (state last one.deferred (two ∷ (one ∷ ss)) (d ∷ ds)) (state (last + 1) d (joined one two ∷ ss)
      ds) JoinSeq h.at_last refl (omega arith) (omega arith) o inside in
      let called_there = ap (λ ls. calls m d ++ ls) (append-nil (calls n one.deferred)) ∙ sym (calls_on-seq lines m n d)
      in
      ends_as _ _ _ _ _ _ _ (omega arith) called_there (ap (λ s. state (last + 1) d (s ∷ ss) ds)
      (sym (meant-seq lines m n d)))
      (onward _ _ (calls m d) _ _ _ _ first
      (onward _ _ [] _ _ _ _ keep (onward _ _ [] _ _ _ _ fetch (onward _ _ (calls n one.deferred) [] _ _ _ second
      join))))
  follows (par m n) last start h d ss ds f g o inside =
      let some = depth_positive m in
      let some' = depth_positive n in
      let middle = h.parts.0 in
      let one = means m d in
      let two = means n d in
      let first = part middle start m d ss ds h.parts.2 (λ z e. follows m z start e d ss ds (omega arith) (omega arith)
      o inside) in
      let second = part last middle n d (one ∷ ss) ds h.parts.1 (λ z e. follows n z middle e d (one ∷ ss) ds
      (omega arith) (omega arith) o inside) in
      let join = step (state last d (two ∷ (one ∷ ss)) ds) (state (last + 1) d (merged one two ∷ ss) ds) JoinMax
      h.at_last refl (omega arith) (omega arith) o inside in
      ends_as _ _ _ _ _ _ _ (omega arith) (ap (λ ls. calls m d ++ ls) (append-nil (calls n d))) refl
      (onward _ _ (calls m d) _ _ _ _ first (onward _ _ (calls n d) [] _ _ _ second join))
  follows (loop k m) last start h d ss ds f g o inside =
      let some = depth_positive m in
      let turn = h.parts.0 in
      let begin = step (state start d ss ds) (state (start + 1) d (undecided d ∷ ss) (d ∷ ds)) StartLoop h.parts.4.0
      refl (omega arith) (omega arith) o inside in
      let body = λ (b : Set) (so_far : Split) (fits : IsPart b whole). part turn (start + 2) m b (so_far ∷ ss) (d ∷ ds)
      h.parts.3 (λ z e. follows m z (start + 2) e b (so_far ∷ ss) (d ∷ ds) (omega arith) (omega arith) o fits) in
      let run = turns k m start turn last ss (d ∷ ds) h.parts.1 h.parts.4.1.0 h.parts.2 body (omega arith) (omega arith)
      (λ _. o) (suc size) (undecided d) (let few = len-part d whole inside in omega arith) inside in
      let all = undecided-joined d (means (loop k m) d) in
      let end = step (state last run.0 (joined (undecided d) (means (loop k m) d) ∷ ss) (d ∷ ds))
      (state (last + 1) d (joined (undecided d) (means (loop k m) d) ∷ ss) ds) EndLoop h.at_last refl (omega arith)
      (omega arith) o inside in
      ends_as _ _ _ _ _ _ _ (omega arith) (append-nil (calls (loop k m) d)) (ap (λ s. state (last + 1) d (s ∷ ss) ds)
      all)
      (onward _ _ [] _ _ _ _ begin (onward _ _ (calls (loop k m) d) [] _ _ _ run.1 end))
