-- The meaning on a set, by the meanings of the parts of the term.
use Rattle.std.proofs.Common.{◌≡◌, ℕ, zero, suc, ◌<◌, ◌≤◌, Bool, true, false, ◌||◌, List, if◌then◌else◌, refl, sym, ap}
use Rattle.std.proofs.Common.{◌∙◌, arith}
use Rattle.std.specs.FinSet as set
use Rattle.vir_altset.specs.Sets.{Set, IsPart}
use Rattle.vir_altset.specs.Splits.{IsSplitOf}
use Rattle.vir_altset.specs.declared.split.Split.{Split}
use Rattle.vir_altset.proofs.SplitLaws.{all_elected as elected_split, all_deferred as deferred_split}
use Rattle.vir_altset.proofs.SplitLaws.{kept_elected_rest_rejected, kept_rejected_rest_deferred}
use Rattle.vir_altset.proofs.SplitLaws.{kept_deferred_rest_rejected, part_deferred, elected_part, deferred_part}
use Rattle.vir_altset.proofs.SplitLaws.{join_split, parallel_split}
use Rattle.vir_profile.specs.declared.ballot.Entry.{Entry}
use Rattle.vir_profile.specs.Profiles.{restrict}
use Rattle.vir_term.specs.declared.leaf.Leaf.{Leaf}
use Rattle.vir_term.specs.declared.leaf.Leaf.TheVariants as leaves
use Rattle.vir_term.specs.declared.score.Score.{Score}
use Rattle.vir_term.specs.Tree.{Tree, leaf, rev, seq, par, loop, End}
use Rattle.vir_mean.specs.declared.elimination.Elimination.{Elimination}
use Rattle.vir_mean.specs.declared.elimination.Elimination.TheVariants.{Max, Min, Below, Upto}
use Rattle.vir_mean.specs.Scores.{score}
use Rattle.vir_mean.specs.Eliminators.{goes, eliminated, eliminator}
use Rattle.vir_mean.specs.FixedOrders.{is_among_first}
use Rattle.vir_mean.specs.Modules.{Meaning, leaf_mean}
use Rattle.vir_mean.specs.Compositions.{is_end, joined, turns}
use Rattle.vir_mean.specs.Meaning.{mean}
use Rattle.vir_compile.specs.Exec.{undecided}
use Rattle.vir_compile.proofs.Sets.{part_less, restrict_restrict}

-- one of two splits of a set is one
either_split : (a : Set) (b : Bool) (s t : Split) → IsSplitOf a s → IsSplitOf a t → IsSplitOf a (if b then s else t)
either_split a true s t g h = g
either_split a false s t g h = h

eliminated_split : (a : Set) (test : ℕ → Bool) → IsSplitOf a (eliminated a (set.retain a test))
eliminated_split a test =
    either_split a (set.is_subset a (set.retain a test)) _ _ (deferred_split a) (kept_rejected_rest_deferred a test)

eliminator_split : (kind : Elimination) (s : Score) (a : Set) (p : List Entry) → IsSplitOf a (eliminator kind s a p)
eliminator_split kind s a p = eliminated_split a (goes kind (score s a p) a)

-- each module splits the set
leaf_mean-split : (l : Leaf) (a : Set) (p : List Entry) → IsSplitOf a (leaf_mean l a p)
leaf_mean-split leaves.Elect a p = elected_split a
leaf_mean-split leaves.Defer a p = deferred_split a
leaf_mean-split (leaves.PassFirst k order) a p = kept_deferred_rest_rejected a (is_among_first k order a)
leaf_mean-split (leaves.DropFirst k order) a p = kept_rejected_rest_deferred a (is_among_first k order a)
leaf_mean-split leaves.Plurality a p = kept_elected_rest_rejected a _
leaf_mean-split (leaves.Max s) a p = eliminator_split Max s a p
leaf_mean-split (leaves.Min s) a p = eliminator_split Min s a p
leaf_mean-split (leaves.Below s) a p = eliminator_split Below s a p
leaf_mean-split (leaves.Upto s) a p = eliminator_split Upto s a p

-- the turns of a loop over a meaning that splits each set
module _ (k : End) (m : Meaning) (splits : (a : Set) (p : List Entry) → IsSplitOf a (m a p)) where
  pub turns-split : (n : ℕ) (a : Set) (p : List Entry) → IsSplitOf a (turns n k m a p)
  unfolding turns
  turns-split zero a p = deferred_split a
  turns-split (suc n) a p =
      let d = (m a p).deferred in
      either_split a (is_end k (set.len a) || set.is_subset a d) _ _ (deferred_split a)
      (join_split a (m a p) (turns n k m d (restrict d p)) (splits a p) (turns-split n d (restrict d p)))

  -- what is left by a turn that goes on is less
  pub less : (a : Set) (p : List Entry) → set.is_subset a (m a p).deferred ≡ false → set.len (m a p).deferred < set.len
      a
  less a p t = part_less (m a p).deferred a (deferred_part a (m a p) (splits a p)) t

  none_left : (n : ℕ) (a : Set) (p : List Entry) → set.len a ≡ 0 → undecided a ≡ turns (suc n) k m a p
  unfolding turns
  none_left n a p e = pick (is_end k (set.len a)) (set.is_subset a (m a p).deferred) refl
    where
      pick : (b c : Bool) → set.is_subset a (m a p).deferred ≡ c → undecided a
          ≡ (if b || c then undecided a
          else joined (m a p) (turns n k m (m a p).deferred (restrict (m a p).deferred p)))
      pick true c h = refl
      pick false true h = refl
      pick false false h = absurd (let few = less a p h in omega arith)

  -- two loops with turns enough are one
  pub enough_turns : (n n' : ℕ) (a : Set) (p : List Entry) → set.len a ≤ n → set.len a ≤ n' → turns n k m a p
      ≡ turns n' k m a p
  unfolding turns
  enough_turns zero zero a p f g = refl
  enough_turns zero (suc n') a p f g = none_left n' a p (omega arith)
  enough_turns (suc n) zero a p f g = sym (none_left n a p (omega arith))
  enough_turns (suc n) (suc n') a p f g =
      pick (λ few. enough_turns n n' (m a p).deferred (restrict (m a p).deferred p) (omega arith) (omega arith))
      (is_end k (set.len a)) (set.is_subset a (m a p).deferred) refl
    where
      pick : (set.len (m a p).deferred < set.len a → turns n k m (m a p).deferred (restrict (m a p).deferred p)
          ≡ turns n' k m (m a p).deferred (restrict (m a p).deferred p))
          → (b c : Bool) → set.is_subset a (m a p).deferred ≡ c
          → (if b || c then undecided a
          else joined (m a p) (turns n k m (m a p).deferred (restrict (m a p).deferred p)))
          ≡ (if b || c then undecided a
          else joined (m a p) (turns n' k m (m a p).deferred (restrict (m a p).deferred p)))
      pick again true c h = refl
      pick again false true h = refl
      pick again false false h = ap (joined (m a p)) (again (less a p h))

  -- one turn by hand
  one_turn : (a : Set) (p : List Entry) → turns (set.len a) k m a p
      ≡ (if is_end k (set.len a) || set.is_subset a (m a p).deferred then undecided a
      else joined (m a p) (turns (set.len a) k m (m a p).deferred (restrict (m a p).deferred p)))
  unfolding turns
  one_turn a p = enough_turns (set.len a) (suc (set.len a)) a p (omega arith) (omega arith)

  -- a loop whose number is met
  pub turns-met : (a : Set) (p : List Entry) → is_end k (set.len a) ≡ true → turns (set.len a) k m a p ≡ undecided a
  turns-met a p met =
      one_turn a p
      ∙ ap (λ b. if b || set.is_subset a (m a p).deferred then undecided a
      else joined (m a p) (turns (set.len a) k m (m a p).deferred (restrict (m a p).deferred p))) met

  -- a loop whose body defers all
  pub turns-idle : (a : Set) (p : List Entry) → is_end k (set.len a) ≡ false → set.is_subset a (m a p).deferred ≡ true
      → turns (set.len a) k m a p ≡ undecided a
  turns-idle a p met idle =
      one_turn a p
      ∙ ap (λ b. if b || set.is_subset a (m a p).deferred then undecided a
      else joined (m a p) (turns (set.len a) k m (m a p).deferred (restrict (m a p).deferred p))) met
      ∙ ap (λ b. if b then undecided a else joined (m a p) (turns (set.len a) k m (m a p).deferred
      (restrict (m a p).deferred p))) idle

  -- a loop that goes on
  pub turns-on : (a : Set) (p : List Entry) → is_end k (set.len a) ≡ false → set.is_subset a (m a p).deferred ≡ false
      → turns (set.len a) k m a p ≡ joined (m a p) (turns (set.len (m a p).deferred) k m (m a p).deferred
      (restrict (m a p).deferred p))
  turns-on a p met idle =
      let few = less a p idle in
      one_turn a p
      ∙ ap (λ b. if b || set.is_subset a (m a p).deferred then undecided a
      else joined (m a p) (turns (set.len a) k m (m a p).deferred (restrict (m a p).deferred p))) met
      ∙ ap (λ b. if b then undecided a else joined (m a p) (turns (set.len a) k m (m a p).deferred
      (restrict (m a p).deferred p))) idle
      ∙ ap (joined (m a p)) (enough_turns (set.len a) (set.len (m a p).deferred) (m a p).deferred
      (restrict (m a p).deferred p) (omega arith) (omega arith))

-- each term splits the set
pub mean-split : (t : Tree) (a : Set) (p : List Entry) → IsSplitOf a (mean t a p)
mean-split (leaf l) a p = leaf_mean-split l a p
mean-split (rev m) a p = part_deferred a (mean m a p).elected (elected_part a (mean m a p) (mean-split m a p))
mean-split (seq m n) a p =
    let one = mean m a p in
    join_split a one (mean n one.deferred (restrict one.deferred p)) (mean-split m a p)
    (mean-split n one.deferred (restrict one.deferred p))
mean-split (par m n) a p = parallel_split a _ _ (mean-split m a p) (mean-split n a p)
mean-split (loop k m) a p = turns-split k (mean m) (λ b q. mean-split m b q) (set.len a) a p

module _ (lines : List Entry) where
  -- the meaning on a set, by the ballots restricted to it
  abbrev pub meant : Tree → Set → Split
  meant t a = mean t a (restrict a lines)

  -- what is deferred is a part
  pub meant-part : (m : Tree) (a : Set) → IsPart (meant m a).deferred a
  meant-part m a = deferred_part a (meant m a) (mean-split m a (restrict a lines))

  again : (t : Tree) (m : Tree) (a : Set) → mean t (meant m a).deferred
      (restrict (meant m a).deferred (restrict a lines)) ≡ meant t (meant m a).deferred
  again t m a = ap (mean t (meant m a).deferred) (restrict_restrict (meant m a).deferred a (meant-part m a) lines)

  pub meant-seq : (m n : Tree) (a : Set) → meant (seq m n) a ≡ joined (meant m a) (meant n (meant m a).deferred)
  meant-seq m n a = ap (joined (meant m a)) (again n m a)

  module _ (k : End) (m : Tree) (a : Set) where
    pub meant-met : is_end k (set.len a) ≡ true → meant (loop k m) a ≡ undecided a
    meant-met met = turns-met k (mean m) (mean-split m) a (restrict a lines) met

    pub meant-idle : is_end k (set.len a) ≡ false → set.is_subset a (meant m a).deferred ≡ true → meant (loop k m) a
        ≡ undecided a
    meant-idle met idle = turns-idle k (mean m) (mean-split m) a (restrict a lines) met idle

    pub meant-on : is_end k (set.len a) ≡ false → set.is_subset a (meant m a).deferred ≡ false → meant (loop k m) a
        ≡ joined (meant m a) (meant (loop k m) (meant m a).deferred)
    meant-on met idle =
        turns-on k (mean m) (mean-split m) a (restrict a lines) met idle
        ∙ ap (joined (meant m a)) (again (loop k m) m a)

    pub meant-less : set.is_subset a (meant m a).deferred ≡ false → set.len (meant m a).deferred < set.len a
    meant-less idle = part_less (meant m a).deferred a (meant-part m a) idle
