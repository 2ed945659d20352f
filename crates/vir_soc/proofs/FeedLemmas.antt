-- Pieces, and the size limit.
use Rattle.std.proofs.Common.{◌≡◌, ℕ, ◌+◌, ◌-◌, true, false, List, [], ◌++◌, length, take, Result, Ok, Err, nat_lt}
use Rattle.std.proofs.Common.{nat_le, ap, sym, ◌∙◌, refl, arith, append-nil, zero-add, inl, inr}
use Rattle.std.proofs.lemmas.Bool.{cases_lt}
use Rattle.std.proofs.lemmas.Bool.Decides.{nat_tests}
use Rattle.std.proofs.lemmas.List.{take_all, take-append-le, length-append}
use Rattle.std.proofs.Math.Seq.{take-append-add}
use Rattle.vir_soc.specs.declared.fault.SocFault.{SocFault}
use Rattle.vir_soc.specs.declared.kind.SocKind.TheVariants.{FileTooLong}
use Rattle.vir_soc.specs.Checks.{◌>>=◌, at_line, refuse, fault_of}
use Rattle.vir_soc.specs.Lines.{lines, last_line}
use Rattle.vir_soc.specs.Content.{Content, nothing}
use Rattle.vir_soc.specs.Limits.{profile_size_limit}
use Rattle.vir_soc.specs.Soc.{settled, settled_content}
use Rattle.vir_soc.specs.Reader.Pieces.{after_texts, ended, unended, Progress, Reading, reads, feeds}
use Rattle.vir_soc.specs.Reader.Stands.{standing}
use Rattle.vir_soc.proofs.CutLemmas.{length-lines, ended_lines-is, last_line-is}
use Rattle.vir_soc.proofs.LineLemmas.{kinds_from-first, reads_append, reads_nothing}

take_over : (n : ℕ) (xs ys : List ℕ) → take n (xs ++ ys) ≡ take n xs ++ take (n - length xs) ys
take_over n xs ys =
    elim (cases_lt (length xs) n) [
      | inl lt ↦ (
          let e : n ≡ length xs + (n - length xs) = omega arith in
          ap (λ k. take k (xs ++ ys)) e ∙ take-append-add xs ys (n - length xs)
          ∙ ap (λ zs. zs ++ take (n - length xs) ys) (sym (take_all n xs (omega arith))))
      | inr le ↦ (
          let e : n - length xs ≡ 0 = omega arith in
          take-append-le n xs ys le ∙ sym (append-nil (take n xs)) ∙ ap (λ k. take n xs ++ take k ys) (sym e))
    ]

-- a test of the size, and then the state
abbrev sized : ℕ → Progress → Result Reading SocFault
sized size p = at_line p.line (refuse (nat_lt profile_size_limit size) FileTooLong) >>= λ _.
    Ok (record { progress = p; size = size })

over_or_not : (size : ℕ) (p : Progress) (ys : List ℕ) → (reads p (take (profile_size_limit - size) ys)
    >>= sized (size + length ys)) ≡ (sized size p >>= λ r. feeds r ys)
over_or_not size p ys =
    elim (cases_lt profile_size_limit size) [
      | inl lt ↦ (
          let e : profile_size_limit - size ≡ 0 = omega arith in
          let t : nat_lt profile_size_limit size ≡ true = grind (arith, nat_tests) in
          let u : nat_lt profile_size_limit (size + length ys) ≡ true = grind (arith, nat_tests) in
          rw (e, reads_nothing p, t, u) refl)
      | inr le ↦ (
          let t : nat_lt profile_size_limit size ≡ false = grind (arith, nat_tests) in
          rw t refl)
    ]

then_piece : (r : Result Progress SocFault) (size : ℕ) (ys : List ℕ)
    → ((r >>= λ q. reads q (take (profile_size_limit - size) ys)) >>= sized (size + length ys))
    ≡ ((r >>= sized size) >>= λ q. feeds q ys)
then_piece (Err f) size ys = refl
then_piece (Ok p) size ys = over_or_not size p ys

-- feeding in pieces is feeding
pub feeds_append : (r : Reading) (xs ys : List ℕ) → feeds r (xs ++ ys) ≡ (feeds r xs >>= λ q. feeds q ys)
feeds_append r xs ys =
    let room = profile_size_limit - r.size in
    let e : profile_size_limit - r.size - length xs ≡ profile_size_limit - (r.size + length xs) = omega arith in
    let n : r.size + length (xs ++ ys) ≡ r.size + length xs + length ys = omega (arith, length-append xs ys) in
    rw (
      take_over room xs ys,
      e,
      n,
      reads_append r.progress (take room xs)
          (take (profile_size_limit - (r.size + length xs)) ys),
    ) (then_piece (reads r.progress (take room xs))
    (r.size + length xs) ys)

-- ---- from the start

abbrev pub start : Reading
start = record { progress = record { content = nothing; line = 1; begun = [] }; size = 0 }

abbrev put : ℕ → List ℕ → Content → Result Progress SocFault
put line begun content = Ok (record { content = content; line = line; begun = begun })

-- a file that is too long, of which some lines say this
past : (r : Result Content SocFault) (line : ℕ) (begun : List ℕ) (size : ℕ) (f : Content → Reading)
    → nat_lt profile_size_limit size ≡ true → ((r >>= λ _. at_line {A = Content} line (Err FileTooLong)) >>= λ s.
    Ok (f s)) ≡ ((r >>= put line begun) >>= sized size)
past (Err e) line begun size f t = refl
past (Ok s) line begun size f t = rw t refl

within : (r : Result Content SocFault) (line : ℕ) (begun : List ℕ) (size : ℕ) → nat_lt profile_size_limit size ≡ false
    → (r >>= λ s. Ok (record { progress = record { content = s; line = line; begun = begun }; size = size }))
    ≡ ((r >>= put line begun) >>= sized size)
within (Err e) line begun size t = refl
within (Ok s) line begun size t = rw t refl

-- the bytes so far are the first piece
pub standing_is : (bytes : List ℕ) → standing bytes ≡ feeds start bytes
standing_is bytes =
    let w = take profile_size_limit bytes in
    let z = zero-add (length bytes) in
    elim (cases_lt profile_size_limit (length bytes)) [
      | inl lt ↦ (
          let s : nat_le (length bytes) profile_size_limit ≡ false = grind (arith, nat_tests) in
          let t : nat_lt profile_size_limit (length bytes) ≡ true = grind (arith, nat_tests) in
          rw (s, z, ended_lines-is w, length-lines w, ← kinds_from-first (ended [] w))
          (past (after_texts nothing 1 (ended [] w)) (1 + length (ended [] w)) (unended [] w) (length bytes)
          (λ content.
          record {
            progress = record { content = content; line = length (lines bytes); begun = last_line bytes };
            size = length bytes;
          }) t))
      | inr le ↦ (
          let s : nat_le (length bytes) profile_size_limit ≡ true = grind (arith, nat_tests) in
          let t : nat_lt profile_size_limit (length bytes) ≡ false = grind (arith, nat_tests) in
          let e : take profile_size_limit bytes ≡ bytes = take_all profile_size_limit bytes le in
          rw (
            s,
            z,
            e,
            ended_lines-is bytes,
            last_line-is bytes,
            length-lines bytes,
            ← kinds_from-first
                (ended [] bytes),
          ) (within (after_texts nothing 1 (ended [] bytes)) (1 + length (ended [] bytes))
          (unended [] bytes) (length bytes) t))
    ]

-- where the rules lead from further bytes
pub standing_append : (xs ys : List ℕ) → standing (xs ++ ys) ≡ (standing xs >>= λ r. feeds r ys)
standing_append xs ys = standing_is (xs ++ ys) ∙ feeds_append start xs ys ∙ ap (λ s. s >>= λ r. feeds r ys)
    (sym (standing_is xs))

pub standing_start : standing [] ≡ Ok start
standing_start = standing_is [] ∙ ap (λ r. r >>= sized 0) (reads_nothing start.progress)

-- a fault is settled where no reader stands
pub settled_is : (bytes : List ℕ) → settled bytes ≡ fault_of (standing bytes)
settled_is bytes = of (settled_content bytes)
    (λ content. record {
      progress = record { content = content; line = length (lines bytes); begun = last_line bytes };
      size = length bytes;
    }) where
      of : (r : Result Content SocFault) (f : Content → Reading) → fault_of r ≡ fault_of (r >>= λ s. Ok (f s))
      of (Ok s) f = refl
      of (Err e) f = refl
