-- The readings of the forms of words that name files, by the contents. Files are numbered in the order in which they
-- are asked for.
use Rattle.std.specs.Prelude.{ℕ, List}
use Rattle.vir_cert.specs.Certs.{Cert}
use Rattle.vir_course.specs.Courses.{Course, and_then, gives}
use Rattle.vir_files.specs.Contents.{Contents}
use Rattle.vir_files.specs.Files.{certificates, profiles, read_as, rules}
use Rattle.vir_profile.specs.SocFiles.{File}
use Rattle.vir_term.specs.Tree.{Tree}

-- a rule file
abbrev pub rule_at : Contents → ℕ → List ℕ → Course Tree
rule_at contents place name = read_as rules name (contents place name)

-- a certificate
abbrev pub certificate_at : Contents → ℕ → List ℕ → Course Cert
certificate_at contents place name = read_as certificates name (contents place name)

-- a profile
abbrev pub profile_at : Contents → ℕ → List ℕ → Course File
profile_at contents place name = read_as profiles name (contents place name)

-- what a rule file and a profile say
pub record RuleProfile : Type 0 where
  pub term : Tree
  pub file : File

abbrev pub rule_profile : Tree → File → RuleProfile
rule_profile term file = record { term = term; file = file }

-- a rule file, and a profile once that is accepted
abbrev pub rule_and_profile_of : Contents → List ℕ → List ℕ → Course RuleProfile
rule_and_profile_of contents rule profile =
    and_then (rule_at contents 0 rule) (λ term. and_then (profile_at contents 1 profile)
    (λ file. gives (rule_profile term file)))

-- what a rule file and two profiles say
pub record RuleTwoProfiles : Type 0 where
  pub term : Tree
  pub first : File
  pub second : File

abbrev pub rule_two_profiles : RuleProfile → File → RuleTwoProfiles
rule_two_profiles both file = record { term = both.term; first = both.file; second = file }

-- a rule file and a profile, and another profile once these are accepted
abbrev pub rule_and_two_profiles_of : Contents → List ℕ → List ℕ → List ℕ → Course RuleTwoProfiles
rule_and_two_profiles_of contents rule first second =
    and_then (rule_and_profile_of contents rule first) (λ both. and_then (profile_at contents 2 second)
    (λ file. gives (rule_two_profiles both file)))
