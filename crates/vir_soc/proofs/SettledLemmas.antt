-- A fault of a line is settled as soon as that line is ended.
use Rattle.std.proofs.Common.{◌≡◌, ◌≢◌, ℕ, ◌+◌, ◌-◌, ◌≤◌, Bool, true, false, not, List, [], ◌++◌, length, take, Option}
use Rattle.std.proofs.Common.{Some, None, Result, Ok, Err, nat_eq, nat_lt, refl, ap, sym, ◌∙◌, arith, inl, inr}
use Rattle.std.specs.Prelude.{◌⊎◌, count_by}
use Rattle.std.specs.Option.{ok_or}
use Rattle.std.proofs.lemmas.List.{length-append}
use Rattle.std.proofs.lemmas.List.Splits.{length-slice_split}
use Rattle.vir_profile.specs.Profiles.{total_weight}
use Rattle.vir_profile.specs.SocFiles.{File, is_line_feed}
use Rattle.vir_soc.specs.declared.fault.SocFault.{SocFault}
use Rattle.vir_soc.specs.declared.kind.SocKind.{SocKind}
use Rattle.vir_soc.specs.declared.kind.SocKind.TheVariants as kinds
use Rattle.vir_soc.specs.declared.stated.Stated.{Stated}
use Rattle.vir_soc.specs.Checks.{◌>>=◌, at_line, fault_of, refuse}
use Rattle.vir_soc.specs.Lines.{last_line, lines}
use Rattle.vir_soc.specs.Names.{names_up_to}
use Rattle.vir_soc.specs.Reader.Pieces.{Progress, Reading, after_text, after_texts, closed, ended, feeds, kinds_from}
use Rattle.vir_soc.specs.Reader.Pieces.{reads, unended}
use Rattle.vir_soc.specs.Content.{Content}
use Rattle.vir_soc.specs.Soc.{agrees, settled, settled_content, soc, complete_file}
use Rattle.vir_soc.specs.Limits.{profile_size_limit}
use Rattle.vir_soc.specs.Reader.Stands.{standing}
use Rattle.vir_soc.proofs.CutLemmas.{length-lines}
use Rattle.vir_soc.proofs.FeedLemmas.{standing_append}
use Rattle.vir_soc.proofs.FirstFaultLemmas.{fault_within, line_is}
use Rattle.vir_soc.proofs.LineLemmas.{ended_append}
use Rattle.vir_soc.proofs.StandLemmas.{fault_stays, soc_is}

-- the first step failed, or it went well and what followed failed
data Stopped {A B E : Type 0} (r : Result A E) (f : A → Result B E) (e : E) : Type 0 where
  first : r ≡ Err e → Stopped r f e
  later : (x : A) → r ≡ Ok x → f x ≡ Err e → Stopped r f e

stopped : {A B E : Type 0} (r : Result A E) (f : A → Result B E) (e : E) → (r >>= f) ≡ Err e → Stopped r f e
stopped (Ok x) f e h = later x refl h
stopped (Err g) f e h = first cc

-- ---- the end of a file

-- the fault stands at this line at least, or is one of the end of a file
abbrev IsLate : ℕ → SocFault → Type 0
IsLate n f = (n ≤ f.line) ⊎ ((f.kind ≡ kinds.VotersDiffer) ⊎ (f.kind ≡ kinds.OrdersDiffer))

here : {A : Type 0} (n : ℕ) (r : Result A SocKind) (f : SocFault) → at_line n r ≡ Err f → IsLate n f
here n r f h = let e = line_is n r f h in inl (omega arith)

kind_is : (stated : Option Stated) (n : ℕ) (kind : SocKind) (f : SocFault) → agrees stated n kind ≡ Err f → f.kind
    ≡ kind
kind_is None n kind f h = absurd cc
kind_is (Some stated) n kind f h = of (nat_eq stated.value n) h where
  of : (b : Bool) → at_line stated.line (refuse (not b) kind) ≡ Err f → f.kind ≡ kind
  of true e = absurd cc
  of false e =
      let first : SocFault = record { line = stated.line; kind = kind } in
      let is : first ≡ f = cc in
      ap (λ (g : SocFault). g.kind) (sym is)

complete_file_late : (content : Content) (last : ℕ) (f : SocFault) → complete_file content last ≡ Err f → IsLate last f
unfolding complete_file
complete_file_late content last f h =
    let put : ℕ → Result File SocFault = λ m.
    Ok (record {
      profile = record { alternatives = m; lines = content.votes };
      names = names_up_to m content.names;
    }) in
    let orders : ℕ → Result File SocFault = λ m. agrees content.orders (length content.votes) kinds.OrdersDiffer
    >>= λ _. put m in
    let voters : ℕ → Result File SocFault = λ m. agrees content.voters (total_weight content.votes) kinds.VotersDiffer
    >>= λ _. orders m in
    elim (stopped (at_line last (ok_or content.alternatives kinds.NoAlternativeCount)) voters f h) [
      | first e ↦ here last (ok_or content.alternatives kinds.NoAlternativeCount) f e
      | later m _ g ↦ elim (stopped (agrees content.voters (total_weight content.votes) kinds.VotersDiffer)
          (λ _. orders m) f g) [
            | first e ↦ inr (inl (kind_is content.voters (total_weight content.votes) kinds.VotersDiffer f e))
            | later _ _ k ↦ elim (stopped (agrees content.orders (length content.votes) kinds.OrdersDiffer) (λ _. put m)
                f
                k) [
                  | first e ↦ inr (inr (kind_is content.orders (length content.votes) kinds.OrdersDiffer f e))
                  | later _ _ l ↦ absurd cc
                ]
          ]
    ]

closed_late : (content : Content) (last : ℕ) (text : List ℕ) (f : SocFault) → closed content last text ≡ Err f
    → IsLate last f
closed_late content last text f h =
    elim (stopped (at_line last (after_text content last text)) (λ s. complete_file s last) f h) [
      | first e ↦ here last (after_text content last text) f e
      | later s _ g ↦ complete_file_late s last f g
    ]

-- ---- further bytes

abbrev gone_on : Progress → List ℕ → Content → Result Progress SocFault
gone_on p bytes content =
    Ok (record { content = content; line = p.line + length (ended p.begun bytes); begun = unended p.begun bytes })

reads_late : (p : Progress) (bytes : List ℕ) (f : SocFault) → reads p bytes ≡ Err f → p.line ≤ f.line
reads_late p bytes f h =
    elim (stopped (after_texts p.content p.line (ended p.begun bytes)) (gone_on p bytes) f h) [
      | first e ↦ (fault_within p.content p.line (kinds_from p.line (ended p.begun bytes)) f e).0
      | later _ _ g ↦ absurd cc
    ]

reads_on : (p q : Progress) (bytes : List ℕ) → reads p bytes ≡ Ok q → p.line ≤ q.line
reads_on p q bytes h = of (after_texts p.content p.line (ended p.begun bytes)) h where
  of : (r : Result Content SocFault) → (r >>= gone_on p bytes) ≡ Ok q → p.line ≤ q.line
  of (Ok s) e =
      let next : Progress = record {
        content = s;
        line = p.line + length (ended p.begun bytes);
        begun = unended p.begun bytes;
      } in
      let is : next ≡ q = cc in
      let l = ap (λ (z : Progress). z.line) is in
      omega arith
  of (Err g) e = absurd cc

feeds_late : (r : Reading) (piece : List ℕ) (f : SocFault) → feeds r piece ≡ Err f → r.progress.line ≤ f.line
feeds_late r piece f h =
    let start = take (profile_size_limit - r.size) piece in
    let over = refuse (nat_lt profile_size_limit (r.size + length piece)) kinds.FileTooLong in
    let put : Progress → Result Reading SocFault = λ p. Ok (record { progress = p; size = r.size + length piece }) in
    elim (stopped (reads r.progress start) (λ p. at_line p.line over >>= λ _. put p) f h) [
      | first e ↦ reads_late r.progress start f e
      | later p on g ↦ elim (stopped (at_line p.line over) (λ _. put p) f g) [
        | first e ↦ (
            let l = line_is p.line over f e in
            let m = reads_on r.progress p start on in
            omega arith)
        | later _ _ k ↦ absurd cc
      ]
    ]

-- ---- a file

more_lines : (front back : List ℕ) → length (lines front) ≤ length (lines (front ++ back))
more_lines front back =
    let a = length-lines front in
    let b = length-lines (front ++ back) in
    let c = ap length (ended_append [] front back) in
    let d = length-append (ended [] front) (ended (unended [] front) back) in
    omega arith

-- where the bytes in front settle no fault, that of the file stands behind their lines
behind : (front back : List ℕ) (f : SocFault) → settled front ≡ None → soc (front ++ back) ≡ Err f
    → IsLate (length (lines front)) f
behind front back f none h =
    let all = front ++ back in
    elim (stopped (settled_content all) (λ content. closed content (length (lines all)) (last_line all)) f
    (sym (soc_is all) ∙ h)) [
      | first e ↦ inl (by_pieces (settled_content front) none refl e)
      | later content _ g ↦ later_still (closed_late content (length (lines all)) (last_line all) f g)
    ] where
      by_pieces : (r : Result Content SocFault) → fault_of r ≡ None → settled_content front ≡ r
          → settled_content (front ++ back) ≡ Err f → length (lines front) ≤ f.line
      by_pieces (Err g) n s e = absurd cc
      by_pieces (Ok content) n s e =
          let r : Reading =
          record {
            progress = record { content = content; line = length (lines front); begun = last_line front };
            size = length front;
          } in
          let at : standing front ≡ Ok r = rw s refl in
          let failed : standing (front ++ back) ≡ Err f = rw e refl in
          feeds_late r back f (sym (standing_append front back ∙ ap (λ x. x >>= λ q. feeds q back) at) ∙ failed)

      later_still : IsLate (length (lines (front ++ back))) f → IsLate (length (lines front)) f
      later_still (inl l) = let m = more_lines front back in inl (omega arith)
      later_still (inr k) = inr k

pub settled_with_its_line : (front back : List ℕ) (f : SocFault) → soc (front ++ back) ≡ Err f
    → f.line ≤ count_by is_line_feed front → f.kind ≢ kinds.VotersDiffer → f.kind ≢ kinds.OrdersDiffer → settled front
    ≡ Some f
settled_with_its_line front back f h ended no_voters no_orders = of (settled front) refl where
  of : (o : Option SocFault) → settled front ≡ o → o ≡ Some f
  of None e = elim (behind front back f e h) [
    | inl l ↦ (let n = length-slice_split is_line_feed front in absurd (omega arith))
    | inr k ↦ elim k [ inl v ↦ absurd (no_voters v) | inr v ↦ absurd (no_orders v) ]
  ]
  of (Some g) e =
      let same : Err g ≡ Err f = sym (fault_stays front back g e) ∙ h in
      let is : g ≡ f = cc same in
      ap (λ k. Some k) is
