-- The texts of judgements, and of the reasons against one.
use Rattle.std.specs.Prelude.{ℕ, List, [], ◌∷◌, ◌++◌, codes, decimal}
use Rattle.std.specs.List.{flat_map}
use Rattle.vir_term.specs.Text.{term_text}
use Rattle.vir_rules.specs.Claims.{Claim, of, disj}
use Rattle.vir_rules.specs.Premises.{row_of}
use Rattle.vir_rules.specs.Props.{prop_text}
use Rattle.vir_rules.specs.Reasons.{Reason}

-- a claim: a property and its term, or two terms that are disjoint
abbrev pub claim_text : Claim → List ℕ
claim_text (of prop term) = prop_text prop ++ codes " of " ++ term_text term
claim_text (disj left right) = codes "disj of " ++ term_text left ++ codes " and " ++ term_text right

-- a reason, on a line of its own: the rule, the number of the premise, and the premise
abbrev pub reason_line : Reason → List ℕ
reason_line reason = codes "- " ++ (row_of reason.rule).name ++ codes " " ++ decimal reason.number ++ codes " "
    ++ claim_text reason.premise ++ codes "\n"

-- the reasons against a claim, each on its line; or the line that says that no rule fits
abbrev pub reasons_text : List Reason → List ℕ
reasons_text [] = codes "- no rule\n"
reasons_text (first ∷ rest) = flat_map reason_line (first ∷ rest)
