-- What a report tells.
use Rattle.std.proofs.Common.{◌≡◌, ℕ, List, [], ◌∷◌, ◌++◌, OnOk, subst, Result, Ok, Err, ap, ◌∙◌, append_assoc}
use Rattle.std.proofs.lemmas.List.Elements.{All-weaker}
use Rattle.std.specs.List.{flat_map}
use Rattle.vir_profile.specs.declared.soc_file.Name.{Name}
use Rattle.vir_profile.specs.Profiles.{Votes}
use Rattle.vir_profile.specs.SocFiles.{File}
use Rattle.vir_rules.specs.Claims.{of}
use Rattle.vir_term.specs.Appending.{Appends}
use Rattle.vir_term.specs.Props.{all_props}
use Rattle.vir_term.specs.Tree.{Tree}
use Rattle.vir_course.specs.Proved.{IsHeld, IsUnderived}
use Rattle.vir_course.specs.Reports.{Finding, Found, Reported, count_text, finding_text, found_text, head_text, holds}
use Rattle.vir_course.specs.Reports.{name_line, profile_lines, rule_line, underived}
use Rattle.vir_rules.specs.Reasons.{Reason}
use Rattle.vir_rules.specs.RuleTrees.{RuleTree}
use Rattle.vir_term.specs.Limits.{IsInRange}
use Rattle.vir_counting.specs.Findings.{IsFinding, IsReport, IsSo, TellsOf}
use Rattle.vir_course.proofs.HeldLemmas.{held_by}
use Rattle.vir_course.proofs.TellingLemmas.{tells_one}

-- the three parts of what stands before the result
pub head_of_parts : {E : Type 0} (term : Tree) (file : File) (votes : Votes) (names : List Name)
    (start named sized text : List ℕ) (answer : Result (Unit {0}) E) → votes ≡ file.profile → names ≡ file.names → named
    ≡ start ++ rule_line term
    → sized ≡ named ++ profile_lines votes → OnOk answer (text ≡ sized ++ flat_map name_line names)
    → OnOk answer (text ≡ start ++ head_text term file)
head_of_parts term file votes names start named sized text (Err e) profile_is names_are one two three = tt
head_of_parts term file votes names start named sized text (Ok done) profile_is names_are one two three =
    let profile = profile_lines file.profile in
    let lines = flat_map name_line file.names in
    let here : sized ≡ start ++ rule_line term ++ profile = two ∙ ap (λ (v : Votes). named ++ profile_lines v)
    profile_is ∙ ap (λ xs. xs ++ profile) one in
    three ∙ ap (λ (ns : List Name). sized ++ flat_map name_line ns) names_are ∙ ap (λ xs. xs ++ lines)
    (here ∙ append_assoc start (rule_line term) profile) ∙ append_assoc start (rule_line term ++ profile) lines

-- what is written of one property
pub tells_found : {E : Type 0} (term : Tree) (f : Found) (old new : List ℕ) (answer : Result (Unit {0}) E) → IsSo term f
    → Appends answer old new (finding_text f.prop f.finding) → OnOk answer (TellsOf term (f.prop ∷ []) old new)
tells_found term f old new answer so is =
    tells_one (λ (g : Found). g.prop) IsSo (λ (g : Found). finding_text g.prop g.finding) term f old new answer so is

-- behind its head and its count, what is told of each property makes a report
pub report_of_parts : (term : Tree) (file : File) (start head counted text : List ℕ) → start ≡ [] → head ≡ start
    ++ head_text term file → counted ≡ head ++ count_text term file.profile → TellsOf term all_props counted
    text → IsReport term file text
report_of_parts term file start head counted text none one two tells =
    record {
      found = tells.told;
      in_order = tells.in_order;
      are_so = tells.are_so;
      text_is = tells.text_is ∙ ap (λ xs. xs ++ found_text tells.told)
          (two ∙ ap (λ xs. xs ++ count_text term file.profile) (one ∙ ap (λ xs. xs ++ head_text term file) none));
    }

-- ---- what it says is so
held_found : (term : Tree) (f : Found) → IsInRange term → IsSo term f → (derivation : RuleTree) → f.finding
    ≡ holds derivation → IsHeld term f.prop derivation
held_found term f range so derivation is = held_by term f.prop derivation range
    (subst (λ (x : Finding). IsFinding (of f.prop term) x) is so)

unheld_found : (term : Tree) (f : Found) → IsSo term f → (reasons : List Reason) → f.finding ≡ underived reasons
    → IsUnderived term f.prop reasons
unheld_found term f so reasons is =
    let parts : IsFinding (of f.prop term) (underived reasons) = subst (λ (x : Finding). IsFinding (of f.prop term) x)
    is so in
    record { none = parts.0; why = parts.1 }

pub reported_of : (term : Tree) (file : File) (text : List ℕ) → IsInRange term → IsReport term file text
    → Reported term file text
reported_of term file text range r =
    record {
      found = r.found;
      in_order = r.in_order;
      held = All-weaker (IsSo term) (λ (f : Found). (derivation : RuleTree) → f.finding ≡ holds derivation
          → IsHeld term f.prop derivation) (λ f one. held_found term f range one) r.found r.are_so;
      underived = All-weaker (IsSo term) (λ (f : Found). (reasons : List Reason) → f.finding ≡ underived reasons
          → IsUnderived term f.prop reasons) (λ f one. unheld_found term f one) r.found r.are_so;
      text_is = r.text_is;
    }
