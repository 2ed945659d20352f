-- What files say, as the code has it.
-- (The program's promises don't stand on this file.)
use Rattle.std.specs.Prelude.{◌≡◌, ℕ, List}
use Rattle.std.specs.declared.alloc.Global.{Global}
use Rattle.std.specs.declared.vec.Vec.{Vec}
use Rattle.vir_files.specs.Readings.{RuleProfile, RuleTwoProfiles, rule_profile, rule_two_profiles}
use Rattle.vir_files.specs.declared.three_files.RuleAndTwoProfiles.{RuleAndTwoProfiles}
use Rattle.vir_files.specs.declared.two_files.RuleAndProfile.{RuleAndProfile}
use Rattle.vir_term.specs.Tree.{tree}

-- A text is this.
abbrev pub SeesText : List ℕ → Vec ℕ Global → Type 0
SeesText bytes text = bytes ≡ text.items

-- A rule and a profile are these.
abbrev pub SeesRuleProfile : RuleProfile → RuleAndProfile → Type 0
SeesRuleProfile said both = said ≡ rule_profile (tree both.rule) both.file

-- A rule and two profiles are these.
abbrev pub SeesRuleTwoProfiles : RuleTwoProfiles → RuleAndTwoProfiles → Type 0
SeesRuleTwoProfiles said all = said ≡ rule_two_profiles (rule_profile (tree all.rule) all.first) all.second
