-- What can stand under a name.
use Rattle.std.proofs.Common.{◌≡◌, ℕ, ◌+◌, ◌<◌, Bool, true, false, List, [], length, replicate, Option, None}
use Rattle.std.proofs.Common.{Some, IsSome, nat_lt, refl, sym, ap, ◌∙◌, arith, if◌then◌else◌}
use Rattle.std.proofs.lemmas.Bool.Decides.{nat_tests}
use Rattle.std.proofs.lemmas.List.{length-replicate}
use Rattle.vir_files.specs.Contents.{AreContents, CanBe, Contents}
use Rattle.vir_outside.specs.Shelf.{Files, IsContent, IsLonger, Lacks, content_of}

-- a text of more bytes than a number
longer_than : (n : ℕ) → (bytes : List ℕ) × (n < length bytes)
longer_than n = (replicate (n + 1) 0, omega (arith, length-replicate (n + 1) (let z : ℕ = 0 in z)))

-- something can
pub some_content : (files : Option Files) (name : List ℕ) → (content : Option (List ℕ)) × CanBe files name content
some_content None name = (Some [], cc)
some_content (Some all) name = (content_of all name, refl)

-- what is read can
pub content_can : (files : Option Files) (name bytes : List ℕ) → IsContent files name bytes
    → CanBe files name (Some bytes)
content_can None name bytes is = cc
content_can (Some all) name bytes is = sym (is cc)

-- a longer file can, where one is met
pub longer_can : (files : Option Files) (name : List ℕ) (limit : ℕ) → IsLonger files name limit → (bytes : List ℕ)
    × (limit < length bytes) × CanBe files name (Some bytes)
longer_can None name limit longer = let long = longer_than limit in (long.0, long.1, cc)
longer_can (Some all) name limit longer = let (bytes, content, above) = longer cc in (bytes, above, sym content)

-- no file can, where it is missing
pub none_can : (files : Option Files) (name : List ℕ) → Lacks files name → CanBe files name None
none_can None name lacks = absurd (let told = lacks.0 in cc)
none_can (Some all) name lacks = sym lacks.1

-- ---- contents by their places
-- these at their places, where files aren't told
abbrev pub by_places : Option Files → (ℕ → Option (List ℕ)) → Contents
by_places None at = λ place name. at place
by_places (Some all) at = λ place name. content_of all name

pub are_by_places : (files : Option Files) (at : ℕ → Option (List ℕ))
    → ((place : ℕ) → (name : List ℕ) × CanBe files name (at place)) → AreContents files (by_places files at)
are_by_places None at can = λ place name. (can place).1
are_by_places (Some all) at can = λ place name. refl

pub at_place : (files : Option Files) (at : ℕ → Option (List ℕ)) (place : ℕ) (name : List ℕ)
    → CanBe files name (at place) → at place ≡ by_places files at place name
at_place None at place name can = refl
at_place (Some all) at place name can = can

-- ---- a further one
-- these at places before this one, and from there on another one, where files aren't told
abbrev pub extended : Option Files → Contents → ℕ → Option (List ℕ) → Contents
extended None before place content = λ at name. if nat_lt at place then before at name else content
extended (Some all) before place content = before

some_by : (b : Bool) (o p : Option (List ℕ)) → IsSome o → IsSome p → IsSome (if b then o else p)
some_by true o p is_o is_p = is_o
some_by false o p is_o is_p = is_p

pub are_extended : (files : Option Files) (before : Contents) (place : ℕ) (name : List ℕ) (content : Option (List ℕ))
    → AreContents files before → CanBe files name content → AreContents files (extended files before place content)
are_extended None before place name content are can =
    λ at other. some_by (nat_lt at place) (before at other) content (are at other) can
are_extended (Some all) before place name content are can = are

below : (at place : ℕ) → at < place → true ≡ nat_lt at place
below at place is = grind (arith, nat_tests)

not_below : (place : ℕ) → false ≡ nat_lt place place
not_below place = grind (arith, nat_tests)

pub extended_before : (files : Option Files) (before : Contents) (place : ℕ) (content : Option (List ℕ)) (at : ℕ)
    (name : List ℕ) → at < place → before at name ≡ extended files before place content at name
extended_before None before place content at name is =
    ap (λ b. if b then before at name else content) (below at place is)
extended_before (Some all) before place content at name is = refl

pub extended_at : (files : Option Files) (before : Contents) (place : ℕ) (name : List ℕ) (content : Option (List ℕ))
    → AreContents files before → CanBe files name content → content ≡ extended files before place content place name
extended_at None before place name content are can =
    ap (λ b. if b then before place name else content) (not_below place)
extended_at (Some all) before place name content are can = can ∙ sym (are place name)
