-- What follows of a call with told files, status by status.
use Rattle.std.specs.Prelude.{◌≡◌, ◌⊎◌, Bool, IsTrue, ℕ, List, [], ◌∷◌, None, Some, IsSome, Result, Ok, Err}
use Rattle.std.specs.declared.option.Option.{Option}
use Rattle.std.specs.Io.KnownBytes.{Appends}
use Rattle.vir_batch.specs.Kinds.{manifests}
use Rattle.vir_cert.specs.Certs.{Cert}
use Rattle.vir_course.specs.Courses.{Course}
use Rattle.vir_course.specs.Wordings.{IsWorded, Reply, Wording, prints}
use Rattle.vir_course.specs.declared.stop.Stop.{Stop}
use Rattle.vir_course.specs.declared.stop.Stop.TheVariants.{ProfileRefused, TextRefused}
use Rattle.vir_files.specs.Contents.{AreContents, Contents}
use Rattle.vir_files.specs.Files.{certificates, judge, profiles, rules}
use Rattle.vir_files.specs.Performs.{begun}
use Rattle.vir_machine.specs.Uses.{first_unserved}
use Rattle.vir_outside.specs.Faults.{Rose}
use Rattle.vir_outside.specs.Shelf.{Files, ShelfView, content_of}
use Rattle.vir_outside.specs.Sink.{SinkView}
use Rattle.vir_profile.specs.SocFiles.{File}
use Rattle.vir_read.specs.declared.text_fault.TextFault.{TextFault}
use Rattle.vir_rules.specs.Claims.{of}
use Rattle.vir_rules.specs.Derivations.{Valid}
use Rattle.vir_soc.specs.declared.fault.SocFault.{SocFault}
use Rattle.vir_term.specs.declared.leaf.Leaf.{Leaf}
use Rattle.vir_term.specs.declared.leaf.LeafKind.{LeafKind}
use Rattle.vir_term.specs.Tree.{Tree}
use Rattle.vir_top.specs.CommandCourses.{command_course}
use Rattle.vir_top.specs.Delivery.{reply_status, stop_status}
use Rattle.vir_words.specs.Command.{Command}

-- the contents that a shelf with these files has
abbrev pub told_contents : Files → Contents
told_contents all place name = content_of all name

-- ---- what told files say under a name
abbrev pub SaysRule : Files → List ℕ → Tree → Type 0
SaysRule all name term = judge rules (content_of all name) ≡ Ok term

abbrev pub SaysProfile : Files → List ℕ → File → Type 0
SaysProfile all name file = judge profiles (content_of all name) ≡ Ok file

abbrev pub SaysCert : Files → List ℕ → Cert → Type 0
SaysCert all name cert = judge certificates (content_of all name) ≡ Ok cert

-- The rule file has a fault.
abbrev pub RefusesRule : Files → List ℕ → Type 0
RefusesRule all name = (fault : TextFault) × (judge rules (content_of all name) ≡ Err (TextRefused fault))

-- The profile has a fault.
abbrev pub RefusesProfile : Files → List ℕ → Type 0
RefusesProfile all name = (fault : SocFault) × (judge profiles (content_of all name) ≡ Err (ProfileRefused fault))

-- There is no file of this name.
abbrev pub IsMissing : Files → List ℕ → Type 0
IsMissing all name = content_of all name ≡ None

-- The file is a manifest of these names.
abbrev pub SaysManifest : Files → List ℕ → List (List ℕ) → Type 0
SaysManifest all name names = judge manifests (content_of all name) ≡ Ok names

-- The manifest has a fault.
abbrev pub RefusesManifest : Files → List ℕ → Type 0
RefusesManifest all name = (fault : TextFault) × (judge manifests (content_of all name) ≡ Err (TextRefused fault))

-- There is a file of each of these names.
abbrev pub AreThere : Files → List (List ℕ) → Type 0
AreThere all [] = Unit {0}
AreThere all (name ∷ names) = IsSome (content_of all name) × AreThere all names

-- The file is a certificate with a valid derivation of what it claims.
pub record HasValidCert (all : Files) (name : List ℕ) : Type 0 where
  pub cert : Cert
  pub is_cert : SaysCert all name cert
  pub valid : Valid cert.derivation (of cert.prop cert.term)

-- The file is a certificate, and its derivation isn't valid.
pub record HasInvalidCert (all : Files) (name : List ℕ) : Type 0 where
  pub cert : Cert
  pub is_cert : SaysCert all name cert
  pub not_valid : Valid cert.derivation (of cert.prop cert.term) → ⊥

-- The files are a rule and a profile, and the bench serves each module of the rule.
pub record Accepts (kinds : List (List LeafKind)) (all : Files) (rule profile : List ℕ) : Type 0 where
  pub term : Tree
  pub is_rule : SaysRule all rule term
  pub file : File
  pub is_profile : SaysProfile all profile file
  pub is_served : first_unserved kinds term ≡ None

-- The files are a rule and a profile, and the bench doesn't serve this module of the rule.
pub record LacksCounter (kinds : List (List LeafKind)) (all : Files) (rule profile : List ℕ) : Type 0 where
  pub term : Tree
  pub is_rule : SaysRule all rule term
  pub file : File
  pub is_profile : SaysProfile all profile file
  pub unserved : Leaf
  pub is_unserved : first_unserved kinds term ≡ Some unserved

-- ---- status 0, and the others
-- With status 0 a text is appended, that which the course of some contents ends with; and what it affirms is so.
pub record Printed (course : Contents → Course Wording) (files : Option Files) (old new : Option (List ℕ)) : Type 0
  where
    pub contents : Contents
    pub are_contents : AreContents files contents
    pub wording : Wording
    pub end_is : (course contents).end ≡ Ok wording
    pub bytes : List ℕ
    pub worded : IsWorded wording (prints bytes)
    pub appended : Appends old new bytes

-- A reply that is worded so has this status: 0 where it is a text, and what that affirms is so; 1 where it is a denial,
-- and that is so.
pub record HasStatus (wording : Wording) (status : ℕ) : Type 0 where
  pub reply : Reply
  pub worded : IsWorded wording reply
  pub status_is : status ≡ reply_status reply

-- how many faults a shelf and an output have counted
pub record FaultCounts : Type 0 where
  pub shelf : ℕ
  pub out : ℕ

-- those of a shelf and an output that are seen so
abbrev pub faults_of : ShelfView → SinkView → FaultCounts
faults_of shelf out = record { shelf = shelf.faults; out = out.faults }

-- those that there were before the last file was selected, and before the output was written
abbrev pub faults_before : ShelfView → ShelfView → SinkView → FaultCounts
faults_before old new out = record { shelf = begun old new; out = out.faults }

-- The status that the end of a course asks for comes, or memory was wanting; or it is 5 and the shelf's count rose at
-- the last file, or, where there was a text to write, 6 and the output's count rose. So none depends on another sink.
abbrev pub IsDue : Result Wording Stop → ℕ → FaultCounts → FaultCounts → Type 0
IsDue (Ok wording) status before after =
    (HasStatus wording status ⊎ (status ≡ 7))
    ⊎ (((status ≡ 5) × Rose before.shelf after.shelf) ⊎ ((status ≡ 6) × Rose before.out after.out))
IsDue (Err reason) status before after =
    ((status ≡ stop_status reason) ⊎ (status ≡ 7)) ⊎ ((status ≡ 5) × Rose before.shelf after.shelf)

-- The status is due of a command with these files, on a bench that serves these kinds.
abbrev pub IsDueOfCommand : List (List LeafKind) → Files → Command → ℕ → FaultCounts → FaultCounts → Type 0
IsDueOfCommand kinds all command status before after =
    IsDue (command_course kinds command (told_contents all)).end status before after

-- It is, and no count rose.
pub record IsDueWithoutFault (kinds : List (List LeafKind)) (all : Files) (command : Command) (status : ℕ) : Type 0
  where
    pub before : FaultCounts
    pub after : FaultCounts
    pub no_fault : Rose before.shelf after.shelf ⊎ Rose before.out after.out → ⊥
    pub due : IsDueOfCommand kinds all command status before after

-- The status of words that are no command; where they are kept in lists, memory may have been wanting.
abbrev pub IsUsageDue : Bool → ℕ → Type 0
IsUsageDue listed status = (status ≡ 2) ⊎ (IsTrue listed × (status ≡ 7))
