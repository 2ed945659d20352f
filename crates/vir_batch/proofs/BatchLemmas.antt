-- Profiles one after another, and the text of all.
use Rattle.std.proofs.Common.{◌≡◌, ℕ, suc, ◌+◌, ◌<◌, ◌≤◌, true, List, [], ◌∷◌, ◌++◌, length, take, drop, get_or}
use Rattle.std.proofs.Common.{slice_get, Option, None, Some, Result, Ok, Err, refl, sym, ap, subst, ◌∙◌, arith}
use Rattle.std.proofs.Common.{drop-cons}
use Rattle.std.specs.List.{flat_map}
use Rattle.std.proofs.lemmas.List.{take-append-drop, take_all, take_more}
use Rattle.std.proofs.lemmas.Option.{get_or_from_slice_get, slice_get-get_or}
use Rattle.vir_course.specs.Courses.{Course, gives, stops}
use Rattle.vir_course.specs.Wordings.{Tells, Wording, exactly}
use Rattle.vir_course.specs.declared.answer.Answer.{Answer}
use Rattle.vir_course.specs.declared.stop.Stop.{Stop}
use Rattle.vir_course.specs.declared.stop.Stop.TheVariants as stop
use Rattle.vir_files.specs.Contents.{Contents}
use Rattle.vir_files.specs.Performs.{Performs}
use Rattle.vir_files.proofs.CallLemmas.{performs_nothing, performs_works}
use Rattle.vir_files.proofs.ThenLemmas.{IsFrom, performs_makes, performs_stops, performs_wanting}
use Rattle.vir_machine.specs.Runs.{BenchView, served_by}
use Rattle.vir_machine.specs.Uses.{all_served, first_unserved}
use Rattle.vir_outside.specs.Shelf.{ShelfView}
use Rattle.vir_term.specs.declared.leaf.Leaf.{Leaf}
use Rattle.vir_term.specs.declared.leaf.LeafKind.{LeafKind}
use Rattle.vir_term.specs.Text.{leaf_text}
use Rattle.vir_term.specs.Tree.{Tree}
use Rattle.vir_batch.specs.BatchTexts.{Said, batch_text, last_line, line_of}
use Rattle.vir_batch.specs.Batches.{all_counted, batch_course, batch_unless, profile_counted, served_course}
use Rattle.vir_batch.specs.Stages.{AreLinesOf, IsLineAdded, IsOneMore}
use Rattle.vir_batch.specs.declared.lines.Lines.{Lines}
use Rattle.vir_batch.proofs.CountedLemmas.{served_from}
use Rattle.vir_batch.proofs.TurnLemmas.{performs_more, performs_no_more}

-- ---- the first of the names
-- The first names are done, with their lines; so far a shelf, a bench and a rule have come.
pub record AreDone {S : Type 0} (term : Tree) (names : List (List ℕ)) (seen : S → ShelfView) (before now : S)
    (old bench : BenchView) (i : ℕ) (rule : Tree) (lines : Lines) : Type 0 where
  pub same_rule : rule ≡ term
  pub served : served_by bench ≡ served_by old
  pub profiles : lines.profiles ≡ i
  pub few : lines.refused ≤ lines.profiles
  pub performs : Performs (λ contents. all_counted contents 2 term (take i names)) (AreLinesOf term) seen before now old
      bench (Ok lines)

-- no name is done
pub none_done : {S : Type 0} (term : Tree) (names : List (List ℕ)) (seen : S → ShelfView) (shelf : S)
    (bench : BenchView) (lines : Lines) → lines.text.items ≡ [] → lines.profiles ≡ 0 → lines.refused ≡ 0
    → AreDone term names seen shelf shelf bench bench 0 term lines
none_done term names seen shelf bench lines text profiles refused =
    record {
      same_rule = refl;
      served = refl;
      profiles = profiles;
      few = omega arith;
      performs =
          performs_works (gives []) (AreLinesOf term) seen shelf bench bench (Ok lines)
          (record {
            runs = [];
            follows =
                record {
                  all_made = refl;
                  value = [];
                  end_is = refl;
                  sees = record { text = text; profiles = profiles; refused = refused };
                };
            bench = refl;
          });
    }

module _ {S : Type 0} (term : Tree) (names : List (List ℕ)) (seen : S → ShelfView) (before now : S)
    (old bench : BenchView) (i : ℕ) (rule : Tree) (lines : Lines)
    (done : AreDone term names seen before now old bench i rule lines) where
  -- all names are
  pub all_done : length names ≤ i → Performs (λ contents. all_counted contents 2 term names) (AreLinesOf term) seen
      before now old bench (Ok lines)
  all_done past =
      subst (λ (ns : List (List ℕ)). Performs (λ contents. all_counted contents 2 term ns) (AreLinesOf term) seen before
      now old bench (Ok lines)) (take_all i names past) done.performs

  -- the bench serves the rule still
  pub served_still : all_served (served_by old) term ≡ true → all_served (served_by bench) rule ≡ true
  served_still all =
      ap (λ kinds. all_served kinds rule) done.served ∙ ap (all_served (served_by old)) done.same_rule ∙ all

  module _ (name : List ℕ) (inside : i < length names) (is_name : slice_get names i ≡ Some name)
      (after : S) (bench_new : BenchView) (lines_new : Lines) where
    abbrev place : ℕ
    place = 2 + length (take i names)

    abbrev Turn : Result (Unit {0}) Stop → Type 0
    Turn answer = (at : ℕ) → Performs (λ contents. profile_counted contents at rule name)
        (λ one (u : Unit {0}). IsLineAdded rule one lines lines_new) seen now after bench bench_new answer

    -- the turn of this name, by the rule that there was
    turn_of : (answer : Result (Unit {0}) Stop) → Turn answer
        → Performs (λ contents. profile_counted contents place term name)
        (λ one (u : Unit {0}). IsLineAdded term one lines lines_new) seen now after bench bench_new answer
    turn_of answer turn =
        subst (λ (t : Tree). Performs (λ contents. profile_counted contents place t name)
        (λ one (u : Unit {0}). IsLineAdded t one lines lines_new) seen now after bench bench_new answer) done.same_rule
        (turn place)

    here : get_or names i [] ≡ name
    here = get_or_from_slice_get names i name [] is_name

    -- one name more is done
    pub one_done : Turn (Ok tt) → (rule_new : Tree) → rule_new ≡ rule → served_by bench_new ≡ served_by bench
        → IsOneMore lines lines_new → AreDone term names seen before after old bench_new (i + 1) rule_new lines_new
    one_done turn rule_new same_rule served more =
        let front : take i names ++ name ∷ [] ≡ take (i + 1) names =
        ap (λ n. take i names ++ n ∷ []) (sym here) ∙ sym (take_more names i [] inside) in
        let so_far = done.profiles in
        let one_more = more.profiles in
        record {
          same_rule = same_rule ∙ done.same_rule;
          served = served ∙ done.served;
          profiles = omega arith;
          few = more.few;
          performs =
              subst (λ (ns : List (List ℕ)). Performs (λ contents. all_counted contents 2 term ns) (AreLinesOf term)
              seen before after old bench_new (Ok lines_new)) front
              (performs_more term (take i names) seen before now after old bench bench_new lines done.performs name
              lines_new (turn_of (Ok tt) turn));
        }

    -- it stops all
    pub stopped : (reason : Stop) → Turn (Err reason)
        → Performs (λ contents. all_counted contents 2 term names) (AreLinesOf term) seen before after old bench_new
        (Err reason)
    stopped reason turn =
        let back : take i names ++ name ∷ drop (suc i) names ≡ names =
        ap (λ n. take i names ++ n ∷ drop (suc i) names) (sym here)
        ∙ ap (λ ns. take i names ++ ns) (sym (drop-cons names i [] inside)) ∙ take-append-drop i names in
        subst (λ (ns : List (List ℕ)). Performs (λ contents. all_counted contents 2 term ns) (AreLinesOf term) seen
        before after old bench_new (Err reason)) back
        (performs_no_more term (take i names) seen before now after old bench bench_new lines done.performs
        (AreLinesOf term) name (drop (suc i) names) lines_new reason (turn_of (Err reason) turn))

-- a name stands at each place below the number of names
pub some_name : (names : List (List ℕ)) (i : ℕ) → i < length names → None ≡ slice_get names i → ⊥
some_name names i inside none = let never = none ∙ slice_get-get_or names i [] inside in cc

-- ---- the text
module _ {S : Type 0} (term : Tree) (names : List (List ℕ)) (seen : S → ShelfView) (before after : S)
    (old new : BenchView) where
  abbrev wording_of : List Said → Wording
  wording_of said = exactly (batch_text term said)

  pub text_stops : (reason : Stop) → Performs (λ contents. all_counted contents 2 term names) (AreLinesOf term) seen
      before after old new (Err reason)
      → Performs (λ contents. served_course contents term names) Tells seen before after old new (Err reason)
  text_stops reason r =
      performs_stops (λ contents. all_counted contents 2 term names) (AreLinesOf term) Tells seen before after old new
      (λ contents said. gives (wording_of said)) reason r

  module _ (lines : Lines) (r : Performs (λ contents. all_counted contents 2 term names) (AreLinesOf term) seen before
      after old new (Ok lines)) where
    pub text_wanting : Performs (λ contents. served_course contents term names) Tells seen before after old new
        (Err stop.Memory)
    text_wanting =
        performs_wanting (λ contents. all_counted contents 2 term names) (AreLinesOf term) Tells seen before after old
        new wording_of lines r

    pub text_told : (answer : Answer) (bytes : List ℕ) → Tells (exactly bytes) answer
        → bytes ≡ lines.text.items ++ last_line lines.profiles lines.refused
        → Performs (λ contents. served_course contents term names) Tells seen before after old new (Ok answer)
    text_told answer bytes told is =
        performs_makes (λ contents. all_counted contents 2 term names) (AreLinesOf term) Tells seen before after old new
        wording_of lines r answer
        (λ said are. subst (λ (text : List ℕ). Tells (exactly text) answer) (is ∙ text_is said are) told)
      where
        text_is : (said : List Said) → AreLinesOf term said lines
            → lines.text.items ++ last_line lines.profiles lines.refused ≡ batch_text term said
        text_is said are =
            ap (λ text. text ++ last_line lines.profiles lines.refused) are.text
            ∙ ap (λ n. flat_map (line_of term) said ++ last_line n lines.refused) are.profiles
            ∙ ap (λ n. flat_map (line_of term) said ++ last_line (length said) n) are.refused

-- ---- with the bench
module _ {S : Type 0} (term : Tree) (names : List (List ℕ)) (seen : S → ShelfView) (before : S) (old : BenchView) where
  abbrev kinds : List (List LeafKind)
  kinds = served_by old

  pub batch_served : (after : S) (new : BenchView) (compiled : Tree) (answer : Result Answer Stop)
      → first_unserved kinds term ≡ None → compiled ≡ term
      → Performs (λ contents. served_course contents compiled names) Tells seen before after old new answer
      → Performs (λ contents. batch_course kinds contents term names) Tells seen before after old new answer
  batch_served after new compiled answer none same r =
      let course : (λ (contents : Contents). served_course contents compiled names)
      ≡ (λ contents. batch_course kinds contents term names) =
      ap (λ (t : Tree). (λ (contents : Contents). served_course contents t names)) same
      ∙ ap (λ (o : Option Leaf). (λ (contents : Contents). batch_unless o contents term names)) (sym none) in
      subst (λ (c : Contents → Course Wording). Performs c Tells seen before after old new answer) course r

  pub batch_unserved : (leaf : Leaf) (text : List ℕ) → first_unserved kinds term ≡ Some leaf → text ≡ leaf_text leaf
      → Performs (λ contents. batch_course kinds contents term names) Tells seen before before old old
      (Err (stop.NoCounter text))
  batch_unserved leaf text some is =
      let course : (λ (contents : Contents). batch_unless (Some leaf) contents term names)
      ≡ (λ contents. batch_course kinds contents term names) =
      ap (λ (o : Option Leaf). (λ (contents : Contents). batch_unless o contents term names)) (sym some) in
      subst (λ (c : Contents → Course Wording). Performs c Tells seen before before old old (Err (stop.NoCounter text)))
      course
      (performs_works (stops (stop.NoCounter (leaf_text leaf))) Tells seen before old old (Err (stop.NoCounter text))
      (record {
        runs = [];
        follows = record { all_made = refl; end_is = ap (λ t. Err (stop.NoCounter t)) (sym is) };
        bench = refl;
      }))

  -- where memory is wanting before anything is done
  pub batch_wanting : Performs (λ contents. batch_course kinds contents term names) Tells seen before before old old
      (Err stop.Memory)
  batch_wanting = performs_nothing (λ contents. batch_course kinds contents term names) Tells seen before old

-- the course of a batch goes by the contents from place 2 on
pub batch_from : (kinds : List (List LeafKind)) (term : Tree) (names : List (List ℕ))
    → IsFrom 2 (λ contents. batch_course kinds contents term names)
batch_from kinds term names = by (first_unserved kinds term)
  where
    by : (o : Option Leaf) → IsFrom 2 (λ contents. batch_unless o contents term names)
    by None = served_from term names
    by (Some leaf) = λ c d same. refl
