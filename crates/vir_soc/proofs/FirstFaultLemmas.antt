-- The line of a fault is the first that has one.
use Rattle.std.proofs.Common.{◌≡◌, ℕ, suc, ◌+◌, ◌-◌, ◌<◌, ◌≤◌, List, [], ◌∷◌, ◌++◌, length, Option, Some, None, Result}
use Rattle.std.proofs.Common.{Ok, Err, refl, ap, sym, ◌∙◌, arith}
use Rattle.std.specs.Prelude.{count_by}
use Rattle.std.proofs.lemmas.Bool.{le-leb}
use Rattle.std.proofs.lemmas.List.{length-take-le}
use Rattle.std.proofs.lemmas.List.Splits.{length-slice_split}
use Rattle.vir_profile.specs.SocFiles.{is_line_feed}
use Rattle.vir_soc.specs.declared.fault.SocFault.{SocFault}
use Rattle.vir_soc.specs.declared.kind.SocKind.{SocKind}
use Rattle.vir_soc.specs.Checks.{◌>>=◌, at_line, fault_of}
use Rattle.vir_soc.specs.LineKinds.{LineKind, kinds_of}
use Rattle.vir_soc.specs.Lines.{ended_lines, lines}
use Rattle.vir_soc.specs.Content.{Content, nothing}
use Rattle.vir_soc.specs.Soc.{after_line, after_lines, ended_content, settled, soc}
use Rattle.vir_soc.specs.Limits.{profile_size_limit}
use Rattle.vir_soc.proofs.LineLemmas.{kinds_from-first, length-kinds_from}
use Rattle.vir_soc.proofs.StandLemmas.{fault_stays}

pub line_is : {A : Type 0} (n : ℕ) (r : Result A SocKind) (f : SocFault) → at_line n r ≡ Err f → f.line ≡ n
line_is n (Ok x) f h = absurd cc
line_is n (Err k) f h =
    let first : SocFault = record { line = n; kind = k } in
    let e : first ≡ f = cc in
    ap (λ (g : SocFault). g.line) (sym e)

-- a fault of some lines stands at one of them
pub fault_within : (content : Content) (n : ℕ) (kinds : List LineKind) (f : SocFault) → after_lines content n kinds
    ≡ Err f → (n ≤ f.line) × (f.line < n + length kinds)
unfolding after_lines
fault_within content n [] f h = absurd cc
fault_within content n (kind ∷ kinds) f h = of (at_line n (after_line content n kind))
    (λ g e. line_is n (after_line content n kind) g e) (λ s e. fault_within s (n + 1) kinds f e) h where
      of : (r : Result Content SocFault) → ((g : SocFault) → r ≡ Err g → g.line ≡ n)
          → ((s : Content) → after_lines s (n + 1) kinds ≡ Err f → (n + 1 ≤ f.line) × (f.line < n + 1 + length kinds))
          → (r >>= λ s. after_lines s (n + 1) kinds) ≡ Err f → (n ≤ f.line) × (f.line < n + suc (length kinds))
      of (Ok s) here later e =
          let q = later s e in
          let l = q.0 in
          let u = q.1 in
          (omega arith, omega arith)
      of (Err g) here later e = let l = here f e in (omega arith, omega arith)

length-kinds_of : (texts : List (List ℕ)) → length (kinds_of texts) ≡ length texts
length-kinds_of texts = ap length (sym (kinds_from-first texts)) ∙ length-kinds_from 1 texts

length-ended_lines : (bytes : List ℕ) → length (ended_lines bytes) ≡ count_by is_line_feed bytes
length-ended_lines bytes =
    let n = length-slice_split is_line_feed bytes in
    let k = length-take-le (length (lines bytes) - 1) (lines bytes) (omega arith) in
    omega arith

was_err : (r : Result Content SocFault) (f : SocFault) → fault_of r ≡ Some f → r ≡ Err f
was_err (Ok s) f h = absurd cc
was_err (Err g) f h = cc

-- a fault that the bytes settle stands at a line that they end
settled_line : (bytes : List ℕ) (f : SocFault) → length bytes ≤ profile_size_limit → settled bytes ≡ Some f
    → f.line ≤ count_by is_line_feed bytes
settled_line bytes f fits h =
    let t = le-leb (length bytes) profile_size_limit fits in
    let e : ended_content bytes ≡ Err f = was_err (ended_content bytes) f (rw t at h) in
    let within = fault_within nothing 1 (kinds_of (ended_lines bytes)) f e in
    let last = within.1 in
    let n = length-kinds_of (ended_lines bytes) in
    let m = length-ended_lines bytes in
    omega arith

pub lines_before_are_fine : (front back : List ℕ) (f : SocFault) → soc (front ++ back) ≡ Err f
    → length front ≤ profile_size_limit → count_by is_line_feed front < f.line → settled front ≡ None
lines_before_are_fine front back f h fits before = of (settled front) refl where
  of : (o : Option SocFault) → settled front ≡ o → o ≡ None
  of None e = refl
  of (Some g) e =
      let same : Err g ≡ Err f = sym (fault_stays front back g e) ∙ h in
      let is : g ≡ f = cc same in
      let line = settled_line front g fits e in
      let at : g.line ≡ f.line = ap (λ (k : SocFault). k.line) is in
      absurd (omega arith)
