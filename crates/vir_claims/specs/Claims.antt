-- The courses of the commands that say something of a rule, and run it on no bench.
use Rattle.std.specs.Prelude.{ℕ, List}
use Rattle.vir_cert.specs.Certs.{Cert}
use Rattle.vir_code.specs.Code.{code_of}
use Rattle.vir_code.specs.Listing.{listing_text}
use Rattle.vir_course.specs.Courses.{Course, gives}
use Rattle.vir_course.specs.Wordings.{Wording, case_against, exactly, first_with, proof_of, simple_of, verdict_on}
use Rattle.vir_refute.specs.Cases.{Case}
use Rattle.vir_term.specs.declared.leaf.Leaf.{Leaf}
use Rattle.vir_term.specs.declared.prop.Prop.{Prop}
use Rattle.vir_term.specs.Tree.{Tree}

-- `listing`: the code that the rule is compiled to
abbrev pub listing_course : Tree → Course Wording
listing_course term = gives (exactly (listing_text (code_of term)))

-- `prove`: a certificate of a property of the rule, or why the property isn't derived
abbrev pub prove_course : Tree → Prop → Course Wording
prove_course term prop = gives (proof_of term prop)

-- `check`: that the certificate is accepted, or its first bad node
abbrev pub check_course : Cert → Course Wording
check_course cert = gives (verdict_on cert)

-- `synth`: the first rule up to a size that is composed of these modules and has these properties, or that there is
-- none
abbrev pub synth_course : ℕ → List Prop → List Leaf → Course Wording
synth_course size props modules = gives (first_with size props modules)

-- `refute`: that the case violates the property of the rule, or why it doesn't
abbrev pub refute_course : Tree → Prop → Case → Course Wording
refute_course term prop case = gives (case_against term prop case)

-- `simplify`: what the rule is simplified to, and the steps
abbrev pub simplify_course : Tree → Course Wording
simplify_course term = gives (simple_of term)
