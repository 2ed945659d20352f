-- The command line.
use Rattle.std.specs.Prelude.{ℕ, ◌≡◌, ◌≢◌, ◌≤◌, Bool, true, false, List, [], ◌∷◌, length, None, Some, codes, map}
use Rattle.std.specs.Prelude.{◌&&◌, ◌||◌, string_bytes, not, is_some, if◌then◌else◌}
use Rattle.std.specs.List.{AllByRecursion}
use Rattle.std.specs.Str.{bytes_eq}
use Rattle.std.specs.declared.option.Option.{Option}
use Rattle.std.specs.declared.string.String.{String}
use Rattle.vir_term.specs.declared.leaf.Leaf.{Leaf}
use Rattle.vir_term.specs.declared.prop.Prop.{Prop}
use Rattle.vir_term.specs.declared.prop.Prop.TheVariants.{Neut}
use Rattle.vir_term.specs.Limits.{IsWithinLimits}
use Rattle.vir_term.specs.Tree.{leaf}
use Rattle.vir_rules.specs.Named.{IsPropInRange}
use Rattle.vir_mean.specs.declared.elimination.Elimination.{Elimination}
use Rattle.vir_positional.specs.WeightLists.{are_weights}
use Rattle.vir_refute.specs.Violations.{is_on_lifts}
use Rattle.vir_words.specs.WordLeaves.{default_leaves, leaves_of}
use Rattle.vir_words.specs.WordNumbers.{number_within}
use Rattle.vir_words.specs.WordProps.{prop_of, props_of}
use Rattle.vir_words.specs.WordWeights.{elimination_of, weights_of}
use Rattle.vir_words.specs.declared.command.Command.{Command as Borrowed}
use Rattle.vir_words.specs.declared.command.Command.TheVariants.{Batch, Check, Drill, OnProfile, OnRule}
use Rattle.vir_words.specs.declared.command.Command.TheVariants.{OnRuleAndProfile, RefutePair, Synth}
use Rattle.vir_words.specs.declared.command.ProfileWork.{ProfileWork}
use Rattle.vir_words.specs.declared.command.ProfileWork.TheVariants.{Pairs, Position}
use Rattle.vir_words.specs.declared.command.RuleProfileWork.{RuleProfileWork}
use Rattle.vir_words.specs.declared.command.RuleProfileWork.TheVariants.{Count, Explain, Refute, Report}
use Rattle.vir_words.specs.declared.command.RuleWork.{RuleWork}
use Rattle.vir_words.specs.declared.command.RuleWork.TheVariants.{Listing, Prove, Simplify}

-- a command: files by their names, and what is done with what they say
pub data Command : Type 0 where
  -- searches for a rule of at most this size that has these properties and is composed of these modules
  synth : ℕ → List Prop → List Leaf → Command
  -- counts a generated profile with the rules of drill, by its seed, its number of lines and its number of alternatives
  drill : ℕ → ℕ → ℕ → Command
  -- works on a rule
  on_rule : List ℕ → RuleWork → Command
  -- works on a profile
  on_profile : List ℕ → ProfileWork → Command
  -- works on a rule and a profile
  on_rule_and_profile : List ℕ → List ℕ → RuleProfileWork → Command
  -- checks a certificate
  check : List ℕ → Command
  -- judges whether two profiles, the second of which is said to lift this alternative, show that a rule lacks a
  -- property
  refute_pair : List ℕ → Prop → List ℕ → List ℕ → ℕ → Command
  -- counts the profiles that a manifest names with a rule
  batch : List ℕ → List ℕ → Command

-- ---- works on known files

-- prints the counting code of a rule
abbrev pub listing : List ℕ → Command
listing rule = on_rule rule Listing

-- proves a property of a rule
abbrev pub prove : List ℕ → Prop → Command
prove rule prop = on_rule rule (Prove prop)

-- shortens a rule
abbrev pub simplify : List ℕ → Command
simplify rule = on_rule rule Simplify

-- eliminates by the positional score of these weights on a profile
abbrev pub position : List ℕ → Elimination → List ℕ → Command
position weights kind profile = on_profile profile (Position weights kind)

-- tells how many voters put one alternative before another on a profile
abbrev pub pairs : List ℕ → Command
pairs profile = on_profile profile Pairs

-- counts a profile with a rule
abbrev pub count : List ℕ → List ℕ → Command
count rule profile = on_rule_and_profile rule profile Count

-- reports on a rule and a profile
abbrev pub report : List ℕ → List ℕ → Command
report rule profile = on_rule_and_profile rule profile Report

-- tells how a rule comes to its result on a profile
abbrev pub explain : List ℕ → List ℕ → Command
explain rule profile = on_rule_and_profile rule profile Explain

-- judges whether a profile shows that a rule lacks a property
abbrev pub refute : List ℕ → Prop → List ℕ → Command
refute rule prop profile = on_rule_and_profile rule profile (Refute prop)

-- ---- the words of each command

-- a proof of this property, where it is there
abbrev pub prove_of : List ℕ → Option Prop → Option Command
prove_of rule (Some prop) = Some (prove rule prop)
prove_of rule None = None

-- a search for these, where each is there
abbrev pub synth_of : Option ℕ → Option (List Prop) → Option (List Leaf) → Option Command
synth_of (Some size) (Some props) (Some leaves) = Some (synth size props leaves)
synth_of (Some size) (Some props) None = None
synth_of (Some size) None leaves = None
synth_of None props leaves = None

-- a search of these modules for what these words are
abbrev pub synth_words : List ℕ → List ℕ → Option (List Leaf) → Option Command
synth_words size props leaves = synth_of (number_within 1 15 size) (props_of props) leaves

-- drill with these numbers, where each is there
abbrev pub drill_of : Option ℕ → Option ℕ → Option ℕ → Option Command
drill_of (Some seed) (Some lines) (Some alternatives) = Some (drill seed lines alternatives)
drill_of (Some seed) (Some lines) None = None
drill_of (Some seed) None alternatives = None
drill_of None lines alternatives = None

-- drill with the numbers that these words are, where each is one of its range
abbrev pub drill_words : List ℕ → List ℕ → List ℕ → Option Command
drill_words seed lines alternatives =
    drill_of (number_within 0 18446744073709551615 seed) (number_within 1 100000 lines)
    (number_within 1 128 alternatives)

-- an eliminator by these weights, where each is there
abbrev pub position_of : Option (List ℕ) → Option Elimination → List ℕ → Option Command
position_of (Some weights) (Some kind) profile = Some (position weights kind profile)
position_of (Some weights) None profile = None
position_of None kind profile = None

-- whether a property is of one election: neither neutrality nor one on lifts
abbrev pub is_on_one : Prop → Bool
is_on_one Neut = false
is_on_one prop = not (is_on_lifts prop)

-- a judgement on one profile, where the property is there and is of one election
abbrev pub refute_of : List ℕ → Option Prop → List ℕ → Option Command
refute_of rule (Some prop) profile = if is_on_one prop then Some (refute rule prop profile) else None
refute_of rule None profile = None

-- a judgement on two profiles, where the property and the alternative are there and the property is on lifts
abbrev pub refute_pair_of : List ℕ → Option Prop → List ℕ → List ℕ → Option ℕ → Option Command
refute_pair_of rule (Some prop) first second (Some lifted) =
    if is_on_lifts prop then Some (refute_pair rule prop first second lifted) else None
refute_pair_of rule (Some prop) first second None = None
refute_pair_of rule None first second lifted = None

-- ---- commands by the number of their words

-- the command of this name on one word, where there is one
abbrev pub command_of_one : List ℕ → List ℕ → Option Command
command_of_one name first =
    if bytes_eq name (codes "check") then Some (check first)
    else (if bytes_eq name (codes "listing") then Some (listing first)
    else (if bytes_eq name (codes "simplify") then Some (simplify first)
    else (if bytes_eq name (codes "pairs") then Some (pairs first) else None)))

-- the command of this name on two words
abbrev pub command_of_two : List ℕ → List ℕ → List ℕ → Option Command
command_of_two name first second =
    if bytes_eq name (codes "count") then Some (count first second)
    else (if bytes_eq name (codes "report") then Some (report first second)
    else (if bytes_eq name (codes "prove") then prove_of first (prop_of second)
    else (if bytes_eq name (codes "synth") then synth_words first second (Some default_leaves)
    else (if bytes_eq name (codes "batch") then Some (batch first second)
    else (if bytes_eq name (codes "explain") then Some (explain first second) else None)))))

-- the command of this name on three words
abbrev pub command_of_three : List ℕ → List ℕ → List ℕ → List ℕ → Option Command
command_of_three name first second third =
    if bytes_eq name (codes "synth") then synth_words first second (leaves_of third)
    else (if bytes_eq name (codes "drill") then drill_words first second third
    else (if bytes_eq name (codes "position") then position_of (weights_of first) (elimination_of second) third
    else (if bytes_eq name (codes "refute") then refute_of first (prop_of second) third else None)))

-- the command of this name on five words, where there is one
abbrev pub command_of_five : List ℕ → List ℕ → List ℕ → List ℕ → List ℕ → List ℕ → Option Command
command_of_five name first second third fourth fifth =
    if bytes_eq name (codes "refute")
    then refute_pair_of first (prop_of second) third fourth (number_within 1 1024 fifth) else None

-- the command that words are, by their bytes, where they are one
abbrev pub command_of : List (List ℕ) → Option Command
command_of [] = None
command_of (name ∷ []) = None
command_of (name ∷ first ∷ []) = command_of_one name first
command_of (name ∷ first ∷ second ∷ []) = command_of_two name first second
command_of (name ∷ first ∷ second ∷ third ∷ []) = command_of_three name first second third
command_of (name ∷ first ∷ second ∷ third ∷ fourth ∷ []) = None
command_of (name ∷ first ∷ second ∷ third ∷ fourth ∷ fifth ∷ []) =
    command_of_five name first second third fourth fifth
command_of (name ∷ first ∷ second ∷ third ∷ fourth ∷ fifth ∷ sixth ∷ rest) = None

-- the command that words of the code are
abbrev pub command_in : {Z : Type 0} → List (String Z) → Option Command
command_in words = command_of (map string_bytes words)

-- ---- words that take memory to be read

-- whether a word is a size that a search may have
abbrev pub is_size : List ℕ → Bool
is_size word = is_some (number_within 1 15 word)

-- whether a word is the name of an eliminator
abbrev pub is_kind : List ℕ → Bool
is_kind word = is_some (elimination_of word)

-- Whether words, by their bytes, may be a command with words that are kept in lists, as far as that is told without a
-- look at a list: a search of a size in range, or a positional score with an eliminator. No other words take memory.
abbrev pub is_listed : List (List ℕ) → Bool
is_listed [] = false
is_listed (name ∷ []) = false
is_listed (name ∷ first ∷ []) = false
is_listed (name ∷ first ∷ second ∷ []) = bytes_eq name (codes "synth") && is_size first
is_listed (name ∷ first ∷ second ∷ third ∷ []) =
    (bytes_eq name (codes "synth") && is_size first) || (bytes_eq name (codes "position") && is_kind second)
is_listed (name ∷ first ∷ second ∷ third ∷ fourth ∷ rest) = false

-- the same of words of the code
abbrev pub are_listed : {Z : Type 0} → List (String Z) → Bool
are_listed words = is_listed (map string_bytes words)

-- a command of the code, which borrows its names
abbrev pub command_seen : Borrowed → Command
command_seen (Synth size props leaves) = synth size props.items leaves.items
command_seen (Drill seed lines alternatives) = drill seed lines alternatives
command_seen (OnRule rule work) = on_rule rule.now work
command_seen (OnProfile profile work) = on_profile profile.now work
command_seen (OnRuleAndProfile rule profile work) = on_rule_and_profile rule.now profile.now work
command_seen (Check certificate) = check certificate.now
command_seen (RefutePair rule prop first second lifted) = refute_pair rule.now prop first.now second.now lifted
command_seen (Batch rule manifest) = batch rule.now manifest.now

-- ---- what a command is given

-- A search is of 1 to 15 modules and compositions, for 1 to 32 properties, and of 1 to 64 modules.
pub record IsSearchable (size : ℕ) (props : List Prop) (leaves : List Leaf) : Type 0 where
  pub sized : 1 ≤ size
  pub small : size ≤ 15
  pub wanted : 1 ≤ length props
  pub few_wanted : length props ≤ 32
  pub each_prop : AllByRecursion IsPropInRange props
  pub filled : 1 ≤ length leaves
  pub few_leaves : length leaves ≤ 64
  pub each_leaf : AllByRecursion (λ l. IsWithinLimits (leaf l)) leaves

-- One profile is for a property in range that is neither on lifts nor neutrality.
pub record IsForOneProfile (prop : Prop) : Type 0 where
  pub not_on_lifts : is_on_lifts prop ≡ false
  pub not_neutrality : prop ≢ Neut
  pub in_range : IsPropInRange prop

-- Two profiles are for a property on lifts, with an alternative from 1 to 1,024.
pub record IsForTwoProfiles (prop : Prop) (lifted : ℕ) : Type 0 where
  pub on_lifts : is_on_lifts prop ≡ true
  pub numbered : 1 ≤ lifted
  pub small : lifted ≤ 1024

-- What is done with a rule is given a property in range.
abbrev pub IsRuleWork : RuleWork → Type 0
IsRuleWork Listing = Unit {0}
IsRuleWork (Prove prop) = IsPropInRange prop
IsRuleWork Simplify = Unit {0}

-- What is done with a profile is given weights.
abbrev pub IsProfileWork : ProfileWork → Type 0
IsProfileWork (Position weights kind) = are_weights weights ≡ true
IsProfileWork Pairs = Unit {0}

-- What is done with a rule and a profile is given a property that one profile is for.
abbrev pub IsRuleProfileWork : RuleProfileWork → Type 0
IsRuleProfileWork Count = Unit {0}
IsRuleProfileWork Report = Unit {0}
IsRuleProfileWork Explain = Unit {0}
IsRuleProfileWork (Refute prop) = IsForOneProfile prop

-- The numbers of a command are within its limits, and so are its properties and modules.
abbrev pub IsInRange : Command → Type 0
IsInRange (synth size props leaves) = IsSearchable size props leaves
IsInRange (drill seed lines alternatives) = (lines ≤ 100000) × (1 ≤ alternatives) × (alternatives ≤ 128)
IsInRange (on_rule rule work) = IsRuleWork work
IsInRange (on_profile profile work) = IsProfileWork work
IsInRange (on_rule_and_profile rule profile work) = IsRuleProfileWork work
IsInRange (check certificate) = Unit {0}
IsInRange (refute_pair rule prop first second lifted) = IsForTwoProfiles prop lifted
IsInRange (batch rule manifest) = Unit {0}
