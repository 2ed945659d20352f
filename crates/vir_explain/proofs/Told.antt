-- Texts of visits, one behind another.
use Rattle.std.proofs.Common.{◌≡◌, ℕ, List, [], ◌∷◌, ◌++◌, Result, Ok, Err, sym, ap, ◌∙◌, append_assoc, append-nil}
use Rattle.std.proofs.Common.{IfErr, None, option_map, subst}
use Rattle.std.proofs.lemmas.Grind.{flat_map-append}
use Rattle.vir_altset.specs.Sets.{Set}
use Rattle.vir_altset.specs.declared.split.Split.{Split}
use Rattle.vir_profile.specs.declared.ballot.Entry.{Entry}
use Rattle.vir_profile.specs.Profiles.{restrict}
use Rattle.vir_mean.specs.Meaning.{mean}
use Rattle.vir_term.specs.Tree.{Tree}
use Rattle.vir_term.specs.Appending.{Appends}
use Rattle.vir_term.proofs.Beginnings.{begins_before}
use Rattle.vir_explain.specs.Visits.{Visit, score_of_term, scores_by, visit_of, visits}
use Rattle.vir_explain.specs.VisitTexts.{visit_text, visits_text}
use Rattle.vir_explain.specs.TextLimits.{IsTooLong}
use Rattle.vir_explain.specs.declared.unexplained.Unexplained.{Unexplained}
use Rattle.vir_explain.specs.declared.unexplained.Unexplained.TheVariants.{TooLong}

-- the text of one visit
pub told_one : (v : Visit) → visit_text v ≡ visits_text (v ∷ [])
told_one v = sym (append-nil (visit_text v))

-- visits, and one more
pub told_last : (vs : List Visit) (v : Visit) → visits_text vs ++ visit_text v ≡ visits_text (vs ++ v ∷ [])
told_last vs v = ap (λ xs. visits_text vs ++ xs) (told_one v) ∙ sym (flat_map-append visit_text vs (v ∷ []))

-- behind what was appended, a call appends more
pub appends_more : {T E : Type 0} (result : Result T E) (start before after added end whole : List ℕ)
    → before ≡ start ++ added → Appends result before after end → added ++ end ≡ whole
    → Appends result start after whole
appends_more (Ok done) start before after added end whole one more is =
    more ∙ ap (λ xs. xs ++ end) one ∙ append_assoc start added end ∙ ap (λ xs. start ++ xs) is
appends_more (Err error) start before after added end whole one more is = begins_before start before after added one
    more

-- behind what was appended, a text with more is too long, and so it is with all of it
pub too_long_more : {T : Type 0} (result : Result T Unexplained) (start before added end whole : List ℕ)
    → before ≡ start ++ added → added ++ end ≡ whole
    → IfErr result (λ why. why ≡ TooLong → IsTooLong (before ++ end))
    → IfErr result (λ why. why ≡ TooLong → IsTooLong (start ++ whole))
too_long_more result start before added end whole one is long =
    subst (λ (text : List ℕ). IfErr result (λ why. why ≡ TooLong → IsTooLong text))
    (ap (λ xs. xs ++ end) one ∙ append_assoc start added end ∙ ap (λ xs. start ++ xs) is) long

-- two calls one behind another
pub appended_both : (start before after one other : List ℕ) → before ≡ start ++ one → after ≡ before ++ other
    → after ≡ start ++ (one ++ other)
appended_both start before after one other first second =
    second ∙ ap (λ xs. xs ++ other) first ∙ append_assoc start one other

-- the visits so far, and that of a composition with the split that is its meaning, are its visits
pub told_composition : (n : ℕ) (t : Tree) (p : List Entry) (a : Set) (us : List Visit) (s : Split)
    → visits n t p a ≡ us ++ visit_of n t a p ∷ [] → score_of_term t ≡ None → s ≡ mean t a (restrict a p)
    → visits_text us ++ visit_text (record { place = n; term = t; domain = a; scores = None; split = s })
    ≡ visits_text (visits n t p a)
told_composition n t p a us s shape none is =
    let unscored : None ≡ option_map (scores_by a (restrict a p)) (score_of_term t) =
    ap (option_map (scores_by a (restrict a p))) (sym none) in
    (λ i. visits_text us ++ visit_text (record {
      place = n;
      term = t;
      domain = a;
      scores = unscored i;
      split = is i;
    }))
    ∙ told_last us (visit_of n t a p) ∙ ap visits_text (sym shape)
