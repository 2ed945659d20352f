-- The visits of a composition: those of its parts, told one behind another, and then its own.
use Rattle.std.proofs.Common.{◌≡◌, ℕ, suc, ◌+◌, List, [], ◌∷◌, ◌++◌, Result, sym, refl, subst, ap, ◌∙◌}
use Rattle.std.proofs.Common.{IfErr, None}
use Rattle.std.proofs.lemmas.Grind.{flat_map-append}
use Rattle.std.specs.FinSet as set
use Rattle.vir_altset.specs.Sets.{Set}
use Rattle.vir_altset.specs.declared.split.Split.{Split}
use Rattle.vir_profile.specs.declared.ballot.Entry.{Entry}
use Rattle.vir_profile.specs.Profiles.{restrict}
use Rattle.vir_mean.specs.Compositions.{joined, loop_of, merged, revised}
use Rattle.vir_mean.specs.Meaning.{mean}
use Rattle.vir_term.specs.Tree.{Tree, End, loop, par, rev, seq, size}
use Rattle.vir_term.specs.Appending.{Appends}
use Rattle.vir_explain.specs.Visits.{Visit, left_by, rounds, score_of_term, visit_of, visits}
use Rattle.vir_explain.specs.VisitTexts.{visit_text, visits_text}
use Rattle.vir_explain.specs.TextLimits.{IsTooLong}
use Rattle.vir_explain.specs.declared.unexplained.Unexplained.{Unexplained}
use Rattle.vir_explain.specs.declared.unexplained.Unexplained.TheVariants.{TooLong}
use Rattle.vir_explain.proofs.Meant.{seq_meant}
use Rattle.vir_explain.proofs.Told.{appended_both, appends_more, told_composition, too_long_more}

-- From the text `start` on the visits of a composition's parts are told, which makes `before`; and s is its split.
pub record PartsTold (start before : List ℕ) (n : ℕ) (t : Tree) (p : List Entry) (a : Set) (s : Split) : Type 0 where
  pub of_parts : List Visit
  pub told : before ≡ start ++ visits_text of_parts
  pub whole : visits n t p a ≡ of_parts ++ visit_of n t a p ∷ []
  pub unscored : score_of_term t ≡ None
  pub split : s ≡ mean t a (restrict a p)

-- the visit that is told behind them
abbrev own_text : ℕ → Tree → Set → Split → List ℕ
own_text n t a s = visit_text (record { place = n; term = t; domain = a; scores = None; split = s })

whole_text : (start before : List ℕ) (n : ℕ) (t : Tree) (p : List Entry) (a : Set) (s : Split)
    → (parts : PartsTold start before n t p a s)
    → visits_text parts.of_parts ++ own_text n t a s ≡ visits_text (visits n t p a)
whole_text start before n t p a s parts =
    told_composition n t p a parts.of_parts s parts.whole parts.unscored parts.split

-- a call that appends the composition's own visit has appended all of them
pub appends_whole : {T E : Type 0} (result : Result T E) (start before after : List ℕ) (n : ℕ) (t : Tree)
    (p : List Entry) (a : Set) (s : Split) → PartsTold start before n t p a s
    → Appends result before after (own_text n t a s) → Appends result start after (visits_text (visits n t p a))
appends_whole result start before after n t p a s parts own =
    appends_more result start before after (visits_text parts.of_parts) (own_text n t a s)
    (visits_text (visits n t p a)) parts.told own (whole_text start before n t p a s parts)

-- and where it finds the text too long, it is too long with all of them
pub too_long_whole : {T : Type 0} (result : Result T Unexplained) (start before : List ℕ) (n : ℕ) (t : Tree)
    (p : List Entry) (a : Set) (s : Split) → PartsTold start before n t p a s
    → IfErr result (λ why. why ≡ TooLong → IsTooLong (before ++ own_text n t a s))
    → IfErr result (λ why. why ≡ TooLong → IsTooLong (start ++ visits_text (visits n t p a)))
too_long_whole result start before n t p a s parts long =
    too_long_more result start before (visits_text parts.of_parts) (own_text n t a s) (visits_text (visits n t p a))
    parts.told (whole_text start before n t p a s parts) long

-- the composition is told by its term
pub parts_of : (start before : List ℕ) (n : ℕ) (t u : Tree) (p : List Entry) (a : Set) (s : Split) → t ≡ u
    → PartsTold start before n u p a s → PartsTold start before n t p a s
parts_of start before n t u p a s is parts = subst (λ v. PartsTold start before n v p a s) (sym is) parts

pub rev_parts : (start before : List ℕ) (n : ℕ) (part : Tree) (p : List Entry) (a : Set) (one s : Split)
    → one ≡ mean part a (restrict a p) → before ≡ start ++ visits_text (visits (n + 1) part p a) → s ≡ revised a one
    → PartsTold start before n (rev part) p a s
rev_parts start before n part p a one s is told split = record {
  of_parts = visits (n + 1) part p a;
  told = told;
  whole = refl;
  unscored = refl;
  split = split ∙ ap (revised a) is;
}

-- Two parts are told, where the second stands at the place m and is handed the set d.
both_told : (start middle before : List ℕ) (us : List Visit) (second : Tree) (p : List Entry) (m k : ℕ) (d e : Set)
    → middle ≡ start ++ visits_text us → before ≡ middle ++ visits_text (visits m second p d) → m ≡ k → d ≡ e
    → before ≡ start ++ visits_text (us ++ visits k second p e)
both_told start middle before us second p m k d e first then place handed =
    appended_both start middle before (visits_text us) (visits_text (visits k second p e)) first
    (then ∙ ap (λ j. middle ++ visits_text (visits j second p d)) place
    ∙ ap (λ b. middle ++ visits_text (visits k second p b)) handed)
    ∙ ap (λ xs. start ++ xs) (sym (flat_map-append visit_text us (visits k second p e)))

pub seq_parts : (start middle before : List ℕ) (n m : ℕ) (first second : Tree) (p : List Entry) (a : Set)
    (one other s : Split) → one ≡ mean first a (restrict a p)
    → other ≡ mean second one.deferred (restrict one.deferred p)
    → middle ≡ start ++ visits_text (visits (n + 1) first p a)
    → before ≡ middle ++ visits_text (visits (n + 1 + m) second p one.deferred)
    → m ≡ size first → s ≡ joined one other → PartsTold start before n (seq first second) p a s
seq_parts start middle before n m first second p a one other s is then told further size_is split = record {
  of_parts = visits (n + 1) first p a ++ visits (n + 1 + size first) second p (left_by first p a);
  told =
      both_told start middle before (visits (n + 1) first p a) second p (n + 1 + m) (n + 1 + size first) one.deferred
      (left_by first p a) told further (ap (λ j. n + 1 + j) size_is) (ap (λ (w : Split). w.deferred) is);
  whole = refl;
  unscored = refl;
  split = split ∙ seq_meant first second p a one other is then;
}

pub par_parts : (start middle before : List ℕ) (n m : ℕ) (first second : Tree) (p : List Entry) (a : Set)
    (one other s : Split) → one ≡ mean first a (restrict a p) → other ≡ mean second a (restrict a p)
    → middle ≡ start ++ visits_text (visits (n + 1) first p a)
    → before ≡ middle ++ visits_text (visits (n + 1 + m) second p a)
    → m ≡ size first → s ≡ merged one other → PartsTold start before n (par first second) p a s
par_parts start middle before n m first second p a one other s is then told further size_is split = record {
  of_parts = visits (n + 1) first p a ++ visits (n + 1 + size first) second p a;
  told =
      both_told start middle before (visits (n + 1) first p a) second p (n + 1 + m) (n + 1 + size first) a a told
      further (ap (λ j. n + 1 + j) size_is) refl;
  whole = refl;
  unscored = refl;
  split = split ∙ ap (λ w. merged w other) is ∙ ap (merged (mean first a (restrict a p))) then;
}

pub loop_parts : (start before : List ℕ) (n : ℕ) (k : End) (body : Tree) (p : List Entry) (a : Set) (s : Split)
    → before ≡ start ++ visits_text (rounds (suc (set.len a)) k (left_by body p) (visits (n + 1) body p) a)
    → s ≡ loop_of k (mean body) a (restrict a p) → PartsTold start before n (loop k body) p a s
loop_parts start before n k body p a s told split = record {
  of_parts = rounds (suc (set.len a)) k (left_by body p) (visits (n + 1) body p) a;
  told = told;
  whole = refl;
  unscored = refl;
  split = split;
}
