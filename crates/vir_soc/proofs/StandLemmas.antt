-- What a reader stands for.
use Rattle.std.proofs.Common.{◌≡◌, ℕ, ◌+◌, true, false, List, [], ◌∷◌, ◌++◌, length, take, Result, Ok, Err, Some, None}
use Rattle.std.proofs.Common.{nat_le, ap, sym, ◌∙◌, refl, arith, inl, inr}
use Rattle.std.proofs.lemmas.Bool.{cases_lt}
use Rattle.std.proofs.lemmas.Bool.Decides.{nat_tests}
use Rattle.vir_profile.specs.SocFiles.{File}
use Rattle.vir_soc.specs.declared.fault.SocFault.{SocFault}
use Rattle.vir_soc.specs.declared.fault.SocError.{SocError}
use Rattle.vir_soc.specs.declared.fault.SocError.TheVariants.{Fault, Memory}
use Rattle.vir_soc.specs.declared.kind.SocKind.TheVariants.{FileTooLong}
use Rattle.vir_soc.specs.Reader.Answers.{Fails, Shows, fault_in}
use Rattle.vir_soc.specs.Checks.{◌>>=◌, at_line, fault_of}
use Rattle.vir_soc.specs.Lines.{lines, last_line}
use Rattle.vir_soc.specs.Content.{Content, nothing}
use Rattle.vir_soc.specs.Soc.{after_lines, ended_content, settled, settled_content, soc, complete_file}
use Rattle.vir_soc.specs.Limits.{profile_size_limit}
use Rattle.vir_soc.specs.Reader.Pieces.{after_text, after_texts, closed, ended, kinds_from, unended, feeds, Reading}
use Rattle.vir_soc.specs.Reader.Stands.{kept, standing, stands}
use Rattle.vir_soc.proofs.CutLemmas.{lines-parts, length-lines, ended_lines-is, last_line-is}
use Rattle.vir_soc.proofs.LineLemmas.{after_texts_append, kinds_from-first}
use Rattle.vir_soc.proofs.FeedLemmas.{start, standing_start, standing_append, settled_is}

pub stands_start : stands [] ≡ Ok start
unfolding stands
stands_start = ap kept standing_start

-- ---- the whole file as its ended lines, and the last one

last_step : (content : Content) (n : ℕ) (text : List ℕ) → (after_texts content n (text ∷ []) >>= λ s. complete_file s n)
    ≡ closed content n text
unfolding after_lines after_text kinds_from
last_step content n text = elim (at_line n (after_text content n text)) as
    (λ r. ((r >>= λ s. Ok s) >>= λ s. complete_file s n) ≡ (r >>= λ s. complete_file s n)) [
      | Ok s ↦ refl
      | Err f
          ↦ refl
    ]

then_last : (r : Result Content SocFault) (n : ℕ) (text : List ℕ) → ((r >>= λ s. after_texts s n (text ∷ [])) >>= λ s.
    complete_file s n) ≡ (r >>= λ s. closed s n text)
then_last (Ok s) n text = last_step s n text
then_last (Err f) n text = refl

too_long_anyway : (r : Result Content SocFault) (line : ℕ) (f : Content → Result File SocFault)
    → (r >>= λ _. at_line {A = File} line (Err FileTooLong))
    ≡ ((r >>= λ _. at_line {A = Content} line (Err FileTooLong)) >>= f)
too_long_anyway (Ok s) line f = refl
too_long_anyway (Err e) line f = refl

pub soc_is : (bytes : List ℕ) → soc bytes ≡ (settled_content bytes >>= λ content. closed content (length (lines bytes))
    (last_line bytes))
soc_is bytes =
    elim (cases_lt profile_size_limit (length bytes)) [
      | inl lt ↦ (
          let s : nat_le (length bytes) profile_size_limit ≡ false = grind (arith, nat_tests) in
          let w = take profile_size_limit bytes in
          rw s (too_long_anyway (ended_content w) (length (lines w)) (λ content. closed content (length (lines bytes))
          (last_line bytes))))
      | inr le ↦ (
          let s : nat_le (length bytes) profile_size_limit ≡ true = grind (arith, nat_tests) in
          let e = ended [] bytes in
          let u = unended [] bytes in
          rw (
            s,
            ended_lines-is bytes,
            last_line-is bytes,
            length-lines bytes,
            lines-parts bytes,
            ← kinds_from-first e,
            ← kinds_from-first (e ++ u ∷ []),
            after_texts_append nothing 1 e (u ∷ []),
          )
          (then_last (after_texts nothing 1 e) (1 + length e) u))
    ]

-- ---- states

was_ok : (r : Result Reading SocFault) (at : Reading) → kept r ≡ Ok at → r ≡ Ok at
was_ok (Ok x) at e = cc
was_ok (Err f) at e = absurd cc

was_err : (r : Result Reading SocFault) (stop : SocError) → kept r ≡ Err stop → (f : SocFault) × (r ≡ Err f)
    × (stop ≡ Fault f)
was_err (Ok x) stop e = absurd cc
was_err (Err f) stop e = (f, refl, cc)

abbrev put : ℕ → List ℕ → ℕ → Content → Result Reading SocFault
put line begun size content =
    Ok (record { progress = record { content = content; line = line; begun = begun }; size = size })

closed_at : (x : Result Content SocFault) (line : ℕ) (begun : List ℕ) (size : ℕ) (r : Reading)
    → (x >>= put line begun size) ≡ Ok r → (x >>= λ content. closed content line begun) ≡ closed r.progress.content
    r.progress.line r.progress.begun
closed_at (Ok s) line begun size r e =
    let first : Reading = record { progress = record { content = s; line = line; begun = begun }; size = size } in
    let q : first ≡ r = cc in
    ap (λ (z : Reading). closed z.progress.content z.progress.line z.progress.begun) q
closed_at (Err f) line begun size r e = absurd cc

refused_at : (x : Result Content SocFault) (line : ℕ) (begun : List ℕ) (size : ℕ) (f : SocFault)
    → (x >>= put line begun size) ≡ Err f → (x >>= λ content. closed content line begun) ≡ Err f
refused_at (Ok s) line begun size f e = absurd cc
refused_at (Err g) line begun size f e = cc

module _ (v : Result Reading SocError) (bytes : List ℕ) (s : v ≡ stands bytes) where
  stood : (r : Reading) → v ≡ Ok r → standing bytes ≡ Ok r
  unfolding stands
  stood r e = was_ok (standing bytes) r (sym s ∙ e)

  module _ (piece : List ℕ) where
    fed : (r : Reading) → v ≡ Ok r → standing (bytes ++ piece) ≡ feeds r piece
    fed r e = standing_append bytes piece ∙ ap (λ x. x >>= λ q. feeds q piece) (stood r e)

    pub fed_ok : (r next : Reading) → v ≡ Ok r → feeds r piece ≡ Ok next → (Ok next ≡ stands (bytes ++ piece))
        × (settled (bytes ++ piece) ≡ None)
    unfolding stands
    fed_ok r next e h = (sym (ap kept (fed r e ∙ h)), settled_is (bytes ++ piece) ∙ ap fault_of (fed r e ∙ h))

    pub fed_err : (r : Reading) (stop : SocError) → v ≡ Ok r → Fails (fault_in stop) (feeds r piece)
        → Shows stop (settled (bytes ++ piece))
    fed_err r (Fault f) e h = settled_is (bytes ++ piece) ∙ ap fault_of (fed r e ∙ h)
    fed_err r Memory e h = tt

    pub fed_again : (stop : SocError) → v ≡ Err stop → Shows stop (settled (bytes ++ piece))
    unfolding stands
    fed_again stop e =
        let w = was_err (standing bytes) stop (sym s ∙ e) in
        rw w.2 (settled_is (bytes ++ piece) ∙ ap fault_of (standing_append bytes piece
        ∙ ap (λ x. x >>= λ q. feeds q piece) w.1))

  pub closes : (r : Reading) → v ≡ Ok r → soc bytes ≡ closed r.progress.content r.progress.line r.progress.begun
  closes r e = soc_is bytes ∙ closed_at (settled_content bytes) (length (lines bytes)) (last_line bytes) (length bytes)
      r (stood r e)

  pub refuses : (stop : SocError) → v ≡ Err stop → Fails (fault_in stop) (soc bytes)
  unfolding stands
  refuses stop e =
      let w = was_err (standing bytes) stop (sym s ∙ e) in
      rw w.2 (soc_is bytes ∙ refused_at (settled_content bytes) (length (lines bytes)) (last_line bytes) (length bytes)
      w.0 w.1)

-- ---- what is settled stays

stays : (bytes more : List ℕ) (f : SocFault) → settled bytes ≡ Some f → standing (bytes ++ more) ≡ Err f
stays bytes more f s = standing_append bytes more ∙ ap (λ x. x >>= λ q. feeds q more)
    (of (standing bytes) (sym (settled_is bytes) ∙ s)) where
      of : (r : Result Reading SocFault) → fault_of r ≡ Some f → r ≡ Err f
      of (Ok x) e = absurd cc
      of (Err g) e = cc

pub fault_stays : (bytes more : List ℕ) (f : SocFault) → settled bytes ≡ Some f → soc (bytes ++ more) ≡ Err f
fault_stays bytes more f s =
    let all = bytes ++ more in
    soc_is all ∙ refused_at (settled_content all) (length (lines all)) (last_line all) (length all) f
    (stays bytes more f s)
