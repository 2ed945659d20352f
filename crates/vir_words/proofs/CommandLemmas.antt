-- What a command holds is within its limits.
use Rattle.std.proofs.Common.{◌≡◌, ℕ, ◌≤◌, Bool, true, false, List, [], ◌∷◌, codes, length, cond, Option, None, Some}
use Rattle.std.proofs.Common.{◌<◌, Result, Ok, Err, String, refl, sym, subst, arith}
use Rattle.std.specs.List.{AllByRecursion}
use Rattle.std.specs.Option.{IfSome, option_map}
use Rattle.std.specs.Result.{IfOk}
use Rattle.std.specs.Str.{bytes_eq}
use Rattle.vir_term.specs.declared.leaf.Leaf.{Leaf}
use Rattle.vir_term.specs.declared.prop.Prop.{Prop}
use Rattle.vir_term.specs.declared.prop.Prop.TheVariants.{Dli, Imono, Dimono, Dmono, Mono, Neut}
use Rattle.vir_term.specs.Limits.{IsCount, IsLeafInRange, IsWithinLimits}
use Rattle.vir_term.specs.Tree.{leaf}
use Rattle.vir_rules.specs.Named.{IsPropInRange}
use Rattle.vir_mean.specs.declared.elimination.Elimination.{Elimination}
use Rattle.vir_positional.specs.WeightLists.{are_weights}
use Rattle.vir_refute.specs.Violations.{is_on_lifts}
use Rattle.vir_words.specs.Command.{Command, IsForOneProfile, IsInRange, batch, check, command_in, command_of}
use Rattle.vir_words.specs.Command.{command_of_five, command_of_one, command_of_three, command_of_two, command_seen}
use Rattle.vir_words.specs.Command.{count, drill, drill_of, drill_words, is_on_one, listing, position, position_of}
use Rattle.vir_words.specs.Command.{prove, prove_of, refute, refute_of, refute_pair, refute_pair_of, report}
use Rattle.vir_words.specs.Command.{simplify, explain, pairs}
use Rattle.vir_words.specs.Command.{synth, synth_of, synth_words}
use Rattle.vir_words.specs.WordLeaves.{default_leaves, leaf_of, leaves_of}
use Rattle.vir_words.specs.WordLists.{comma, list_of, semicolon}
use Rattle.vir_words.specs.WordNumbers.{number_within, plain_number}
use Rattle.vir_words.specs.WordProps.{prop_of, props_of}
use Rattle.vir_words.specs.WordWeights.{elimination_of, if_weights, weights_of}
use Rattle.vir_words.specs.declared.command.Command.{Command as Borrowed}
use Rattle.vir_words.proofs.LeafLemmas.{leaf_is_within}
use Rattle.vir_words.proofs.ListLemmas.{list_is}
use Rattle.vir_words.proofs.PropLemmas.{word_is_in_range}
use Rattle.vir_words.proofs.WordLemmas.{number_is_within}

-- ---- what each kind of word is like

ArePropsInRange : List Prop → Type 0
ArePropsInRange props = AllByRecursion IsPropInRange props × (1 ≤ length props) × (length props ≤ 32)

AreLeavesInRange : List Leaf → Type 0
AreLeavesInRange leaves =
    AllByRecursion (λ l. IsWithinLimits (leaf l)) leaves × (1 ≤ length leaves) × (length leaves ≤ 64)

props_are : (word : List ℕ) (props : List Prop) → props_of word ≡ Some props → ArePropsInRange props
unfolding props_of ArePropsInRange
props_are word props e = list_is prop_of IsPropInRange word_is_in_range comma 32 word props e

leaves_are : (word : List ℕ) (leaves : List Leaf) → leaves_of word ≡ Some leaves → AreLeavesInRange leaves
unfolding leaves_of AreLeavesInRange
leaves_are word leaves e =
    list_is leaf_of (λ l. IsWithinLimits (leaf l)) leaf_is_within semicolon 64 word leaves e

if_weights_are : (o : Option (List ℕ)) (list : List ℕ) → if_weights o ≡ Some list → are_weights list ≡ true
if_weights_are None list e = absurd (cc)
if_weights_are (Some found) list e = by_test (are_weights found) refl e
  where
    by_test : (b : Bool) → are_weights found ≡ b → cond b (Some found) None ≡ Some list → are_weights list ≡ true
    by_test true is same = let one : found ≡ list = cc in subst (λ xs. are_weights xs ≡ true) one is
    by_test false is same = absurd (cc)

weights_are : (word list : List ℕ) → weights_of word ≡ Some list → are_weights list ≡ true
unfolding weights_of
weights_are word list e = if_weights_are (list_of comma 1024 (plain_number 1000000) word) list e

-- a module is a term within the limits where its number and its order are
one_leaf : (l : Leaf) → IsLeafInRange l → IsWithinLimits (leaf l)
one_leaf l is = record { small = omega arith; flat = omega arith; in_range = is }

all_within : (leaves : List Leaf) → AllByRecursion IsLeafInRange leaves
    → AllByRecursion (λ l. IsWithinLimits (leaf l)) leaves
all_within [] all = tt
all_within (l ∷ rest) all = (one_leaf l all.0, all_within rest all.1)

first_one : IsCount 1
first_one = record { some = omega arith; few = omega arith }

first_two : IsCount 2
first_two = record { some = omega arith; few = omega arith }

-- those of an eliminator have neither a number nor an order
defaults_in_range : AllByRecursion IsLeafInRange default_leaves
unfolding default_leaves
defaults_in_range = (
  tt,
  (
    tt,
    (
      (first_one, refl),
      (
        (first_two, refl),
        (
          (first_one, refl),
          (
            (first_two, refl),
            (
              tt,
              (
                tt,
                (
                  tt,
                  (
                    tt,
                    (
                      tt,
                      (
                        tt,
                        (
                          tt,
                          (
                            tt,
                            (
                              tt,
                              (
                                tt,
                                (
                                  tt,
                                  (
                                    tt,
                                    (
                                      tt,
                                      (
                                        tt,
                                        (
                                          tt,
                                          (
                                            tt,
                                            (
                                              tt,
                                              (
                                                tt,
                                                (
                                                  tt,
                                                  (
                                                    tt,
                                                    (
                                                      tt,
                                                      tt,
                                                    ),
                                                  ),
                                                ),
                                              ),
                                            ),
                                          ),
                                        ),
                                      ),
                                    ),
                                  ),
                                ),
                              ),
                            ),
                          ),
                        ),
                      ),
                    ),
                  ),
                ),
              ),
            ),
          ),
        ),
      ),
    ),
  ),
)

defaults_are : AreLeavesInRange default_leaves
unfolding default_leaves AreLeavesInRange
defaults_are = (all_within default_leaves defaults_in_range, omega arith, omega arith)

-- ---- commands

chosen : (b : Bool) (first behind : Option Command) (c : Command) → (first ≡ Some c → IsInRange c)
    → (behind ≡ Some c → IsInRange c) → cond b first behind ≡ Some c → IsInRange c
chosen true first behind c here there e = here e
chosen false first behind c here there e = there e

nothing : (c : Command) → (let none : Option Command = None in none ≡ Some c) → IsInRange c
nothing c e = absurd (cc)

just : (d c : Command) → IsInRange d → Some d ≡ Some c → IsInRange c
just d c is e = let same : d ≡ c = cc in subst IsInRange same is

prove_in_range : (rule : List ℕ) (o : Option Prop) (c : Command) → ((p : Prop) → o ≡ Some p → IsPropInRange p)
    → prove_of rule o ≡ Some c → IsInRange c
prove_in_range rule None c is e = nothing c e
prove_in_range rule (Some p) c is e = just (prove rule p) c (is p refl) e

synth_in_range : (o : Option ℕ) (p : Option (List Prop)) (l : Option (List Leaf)) (c : Command)
    → ((size : ℕ) → o ≡ Some size → (1 ≤ size) × (size ≤ 15))
    → ((props : List Prop) → p ≡ Some props → ArePropsInRange props)
    → ((leaves : List Leaf) → l ≡ Some leaves → AreLeavesInRange leaves)
    → synth_of o p l ≡ Some c → IsInRange c
unfolding ArePropsInRange AreLeavesInRange
synth_in_range None p l c sizes props leaves e = nothing c e
synth_in_range (Some size) None l c sizes props leaves e = nothing c e
synth_in_range (Some size) (Some list) None c sizes props leaves e = nothing c e
synth_in_range (Some size) (Some list) (Some modules) c sizes props leaves e =
    let sized = sizes size refl in
    let wanted = props list refl in
    let filled = leaves modules refl in
    just (synth size list modules) c
    (record {
      sized = sized.0;
      small = sized.1;
      wanted = wanted.1;
      few_wanted = wanted.2;
      each_prop = wanted.0;
      filled = filled.1;
      few_leaves = filled.2;
      each_leaf = filled.0;
    }) e

synth_words_in_range : (size props : List ℕ) (l : Option (List Leaf)) (c : Command)
    → ((leaves : List Leaf) → l ≡ Some leaves → AreLeavesInRange leaves)
    → synth_words size props l ≡ Some c → IsInRange c
synth_words_in_range size props l c leaves e =
    synth_in_range (number_within 1 15 size) (props_of props) l c (λ n is. number_is_within 1 15 size n is)
    (λ list is. props_are props list is) leaves e

drill_in_range : (o p q : Option ℕ) (c : Command)
    → ((lines : ℕ) → p ≡ Some lines → (1 ≤ lines) × (lines ≤ 100000))
    → ((alternatives : ℕ) → q ≡ Some alternatives → (1 ≤ alternatives) × (alternatives ≤ 128))
    → drill_of o p q ≡ Some c → IsInRange c
drill_in_range None p q c lines alternatives e = nothing c e
drill_in_range (Some seed) None q c lines alternatives e = nothing c e
drill_in_range (Some seed) (Some n) None c lines alternatives e = nothing c e
drill_in_range (Some seed) (Some n) (Some m) c lines alternatives e =
    let few = alternatives m refl in just (drill seed n m) c ((lines n refl).1, few.0, few.1) e

position_in_range : (o : Option (List ℕ)) (k : Option Elimination) (profile : List ℕ) (c : Command)
    → ((list : List ℕ) → o ≡ Some list → are_weights list ≡ true) → position_of o k profile ≡ Some c → IsInRange c
position_in_range None k profile c weights e = nothing c e
position_in_range (Some list) None profile c weights e = nothing c e
position_in_range (Some list) (Some kind) profile c weights e =
    just (position list kind profile) c (weights list refl) e

-- a property of one election is neither neutrality nor one on lifts
on_one : (p : Prop) → is_on_one p ≡ true → IsPropInRange p → IsForOneProfile p
on_one Neut is range = absurd (cc)
on_one Dli is range = absurd (cc)
on_one Imono is range = absurd (cc)
on_one Dimono is range = absurd (cc)
on_one Dmono is range = absurd (cc)
on_one Mono is range = absurd (cc)
on_one p is range = record { not_on_lifts = refl; not_neutrality = λ e. absurd (cc); in_range = range }

refute_in_range : (rule : List ℕ) (o : Option Prop) (profile : List ℕ) (c : Command)
    → ((p : Prop) → o ≡ Some p → IsPropInRange p) → refute_of rule o profile ≡ Some c → IsInRange c
refute_in_range rule None profile c is e = nothing c e
refute_in_range rule (Some p) profile c is e = by_test (is_on_one p) refl e
  where
    by_test : (b : Bool) → is_on_one p ≡ b → cond b (Some (refute rule p profile)) None ≡ Some c → IsInRange c
    by_test true one same = just (refute rule p profile) c (on_one p one (is p refl)) same
    by_test false one same = nothing c same

refute_pair_in_range : (rule : List ℕ) (o : Option Prop) (first second : List ℕ) (k : Option ℕ) (c : Command)
    → ((lifted : ℕ) → k ≡ Some lifted → (1 ≤ lifted) × (lifted ≤ 1024))
    → refute_pair_of rule o first second k ≡ Some c → IsInRange c
refute_pair_in_range rule None first second k c lifted e = nothing c e
refute_pair_in_range rule (Some p) first second None c lifted e = nothing c e
refute_pair_in_range rule (Some p) first second (Some n) c lifted e = by_test (is_on_lifts p) refl e
  where
    by_test : (b : Bool) → is_on_lifts p ≡ b → cond b (Some (refute_pair rule p first second n)) None ≡ Some c
        → IsInRange c
    by_test true on same =
        let within = lifted n refl in
        just (refute_pair rule p first second n) c
        (record { on_lifts = on; numbered = within.0; small = within.1 }) same
    by_test false on same = nothing c same

-- ---- by the number of words

one_in_range : (name first : List ℕ) (c : Command) → command_of_one name first ≡ Some c → IsInRange c
one_in_range name first c e =
    chosen (bytes_eq name (codes "check")) (Some (check first)) _ c (λ is. just (check first) c tt is)
    (λ others. chosen (bytes_eq name (codes "listing")) (Some (listing first)) _ c
    (λ is. just (listing first) c tt is)
    (λ more. chosen (bytes_eq name (codes "simplify")) (Some (simplify first)) _ c
    (λ is. just (simplify first) c tt is)
    (λ last. chosen (bytes_eq name (codes "pairs")) (Some (pairs first)) None c
    (λ is. just (pairs first) c tt is) (λ is. nothing c is) last) more) others) e

two_in_range : (name first second : List ℕ) (c : Command) → command_of_two name first second ≡ Some c → IsInRange c
two_in_range name first second c e =
    chosen (bytes_eq name (codes "count")) (Some (count first second)) _ c (λ is. just (count first second) c tt is)
    (λ others. chosen (bytes_eq name (codes "report")) (Some (report first second)) _ c
    (λ is. just (report first second) c tt is)
    (λ more. chosen (bytes_eq name (codes "prove")) (prove_of first (prop_of second)) _ c
    (λ is. prove_in_range first (prop_of second) c (λ p word. word_is_in_range second p word) is)
    (λ rest. chosen (bytes_eq name (codes "synth")) (synth_words first second (Some default_leaves)) _ c
    (λ is. synth_words_in_range first second (Some default_leaves) c (λ leaves same. defaults leaves same) is)
    (λ further. chosen (bytes_eq name (codes "batch")) (Some (batch first second)) _ c
    (λ is. just (batch first second) c tt is)
    (λ last. chosen (bytes_eq name (codes "explain")) (Some (explain first second)) None c
    (λ is. just (explain first second) c tt is) (λ is. nothing c is) last) further) rest) more) others) e
  where
    defaults : (leaves : List Leaf) → Some default_leaves ≡ Some leaves → AreLeavesInRange leaves
    defaults leaves same = let one : default_leaves ≡ leaves = cc in subst AreLeavesInRange one defaults_are

three_in_range : (name first second third : List ℕ) (c : Command)
    → command_of_three name first second third ≡ Some c → IsInRange c
three_in_range name first second third c e =
    chosen (bytes_eq name (codes "synth")) (synth_words first second (leaves_of third)) _ c
    (λ is. synth_words_in_range first second (leaves_of third) c (λ leaves word. leaves_are third leaves word) is)
    (λ others. chosen (bytes_eq name (codes "drill")) (drill_words first second third) _ c
    (λ is. drill_in_range (number_within 0 18446744073709551615 first) (number_within 1 100000 second)
    (number_within 1 128 third) c (λ n word. number_is_within 1 100000 second n word)
    (λ n word. number_is_within 1 128 third n word) is)
    (λ more. chosen (bytes_eq name (codes "position"))
    (position_of (weights_of first) (elimination_of second) third) _ c
    (λ is. position_in_range (weights_of first) (elimination_of second) third c
    (λ list word. weights_are first list word) is)
    (λ last. chosen (bytes_eq name (codes "refute")) (refute_of first (prop_of second) third) None c
    (λ is. refute_in_range first (prop_of second) third c (λ p word. word_is_in_range second p word) is)
    (λ is. nothing c is) last) more) others) e

five_in_range : (name first second third fourth fifth : List ℕ) (c : Command)
    → command_of_five name first second third fourth fifth ≡ Some c → IsInRange c
five_in_range name first second third fourth fifth c e =
    chosen (bytes_eq name (codes "refute"))
    (refute_pair_of first (prop_of second) third fourth (number_within 1 1024 fifth)) None c
    (λ is. refute_pair_in_range first (prop_of second) third fourth (number_within 1 1024 fifth) c
    (λ n word. number_is_within 1 1024 fifth n word) is)
    (λ is. nothing c is) e

pub in_range : (words : List (List ℕ)) (c : Command) → command_of words ≡ Some c → IsInRange c
in_range [] c e = nothing c e
in_range (name ∷ []) c e = nothing c e
in_range (name ∷ first ∷ []) c e = one_in_range name first c e
in_range (name ∷ first ∷ second ∷ []) c e = two_in_range name first second c e
in_range (name ∷ first ∷ second ∷ third ∷ []) c e = three_in_range name first second third c e
in_range (name ∷ first ∷ second ∷ third ∷ fourth ∷ []) c e = nothing c e
in_range (name ∷ first ∷ second ∷ third ∷ fourth ∷ fifth ∷ []) c e =
    five_in_range name first second third fourth fifth c e
in_range (name ∷ first ∷ second ∷ third ∷ fourth ∷ fifth ∷ sixth ∷ rest) c e = nothing c e

-- ---- what the code reads

pub if_in_range : (command : Option Borrowed) (words : List (List ℕ))
    → option_map command_seen command ≡ command_of words → IfSome command (λ c. IsInRange (command_seen c))
if_in_range None words told = tt
if_in_range (Some c) words told = in_range words (command_seen c) (sym told)

pub told_in_range : {E : Type 0} (r : Result (Option Borrowed) E) (words : List (List ℕ))
    → IfOk r (λ command. option_map command_seen command ≡ command_of words)
    → IfOk r (λ command. IfSome command (λ c. IsInRange (command_seen c)))
told_in_range (Ok command) words told = if_in_range command words told
told_in_range (Err e) words told = tt

pub too_few : {Z : Type 0} (words : List (String Z)) → length words < 2 → None ≡ command_in words
too_few [] few = refl
too_few (name ∷ []) few = refl
too_few (name ∷ first ∷ rest) few = absurd (omega arith)

pub too_many : {Z : Type 0} (words : List (String Z)) → 7 ≤ length words → None ≡ command_in words
too_many [] many = refl
too_many (name ∷ []) many = refl
too_many (name ∷ first ∷ []) many = absurd (omega arith)
too_many (name ∷ first ∷ second ∷ []) many = absurd (omega arith)
too_many (name ∷ first ∷ second ∷ third ∷ []) many = absurd (omega arith)
too_many (name ∷ first ∷ second ∷ third ∷ fourth ∷ []) many = refl
too_many (name ∷ first ∷ second ∷ third ∷ fourth ∷ fifth ∷ []) many = absurd (omega arith)
too_many (name ∷ first ∷ second ∷ third ∷ fourth ∷ fifth ∷ sixth ∷ rest) many = refl

-- no command has four words behind its name
pub five_words : {Z : Type 0} (words : List (String Z)) → length words ≡ 5 → None ≡ command_in words
five_words [] five = refl
five_words (name ∷ []) five = refl
five_words (name ∷ first ∷ []) five = absurd (omega arith)
five_words (name ∷ first ∷ second ∷ []) five = absurd (omega arith)
five_words (name ∷ first ∷ second ∷ third ∷ []) five = absurd (omega arith)
five_words (name ∷ first ∷ second ∷ third ∷ fourth ∷ []) five = refl
five_words (name ∷ first ∷ second ∷ third ∷ fourth ∷ fifth ∷ rest) five = absurd (omega arith)
