-- What holds of what the lines of an accepted file say.
use Rattle.std.proofs.Common.{◌≡◌, ℕ, true, false, cond, not, List, length, take, Option, Some, None, Result, Ok, Err}
use Rattle.std.proofs.Common.{nat_eq, nat_le, subst, arith, refl}
use Rattle.std.specs.Option.{IfSome, ok_or}
use Rattle.std.proofs.lemmas.Bool.Decides.{nat_tests}
use Rattle.vir_profile.specs.Profiles.{total_weight}
use Rattle.vir_profile.specs.SocFiles.{File}
use Rattle.vir_soc.specs.declared.fault.SocFault.{SocFault}
use Rattle.vir_soc.specs.declared.kind.SocKind.{SocKind}
use Rattle.vir_soc.specs.declared.kind.SocKind.TheVariants as kinds
use Rattle.vir_soc.specs.declared.stated.Stated.{Stated}
use Rattle.vir_soc.specs.Checks.{◌>>=◌, at_line, refuse}
use Rattle.vir_soc.specs.Lines.{lines}
use Rattle.vir_soc.specs.Names.{names_up_to}
use Rattle.vir_soc.specs.Content.{Content}
use Rattle.vir_soc.specs.Soc.{agrees, ended_content, file_of, content_of_lines, soc, too_long, complete_file}
use Rattle.vir_soc.specs.Limits.{profile_size_limit}
use Rattle.vir_soc.proofs.ChainLemmas.{bound, passed, went_well, was_some}

-- the content of some lines, where the file is this one
pub record Makes (content : Content) (file : File) : Type 0 where
  pub alternatives : content.alternatives ≡ Some file.profile.alternatives
  pub voters : IfSome content.voters (λ stated. stated.value ≡ total_weight file.profile.lines)
  pub orders : IfSome content.orders (λ stated. stated.value ≡ length file.profile.lines)
  pub names : file.names ≡ names_up_to file.profile.alternatives content.names
  pub votes : content.votes ≡ file.profile.lines

agreed : (stated : Option Stated) (n : ℕ) (kind : SocKind) (x : Unit {0}) → agrees stated n kind ≡ Ok x
    → IfSome stated (λ t. t.value ≡ n)
agreed None n kind x h = tt
agreed (Some stated) n kind x h = grind (
  arith,
  nat_tests,
  passed (not (nat_eq stated.value n)) kind x
      (went_well stated.line (refuse (not (nat_eq stated.value n)) kind) x h),
)

complete_file-ok : (content : Content) (last : ℕ) (file : File) → complete_file content last ≡ Ok file
    → Makes content file
unfolding complete_file
complete_file-ok content last file h =
    let put : ℕ → Result File SocFault = λ m.
    Ok (record {
      profile = record { alternatives = m; lines = content.votes };
      names = names_up_to m content.names;
    }) in
    let a = bound (at_line last (ok_or content.alternatives kinds.NoAlternativeCount))
    (λ m. agrees content.voters (total_weight content.votes) kinds.VotersDiffer >>= λ _. agrees content.orders
    (length content.votes) kinds.OrdersDiffer >>= λ _. put m) file h in
    let b = bound (agrees content.voters (total_weight content.votes) kinds.VotersDiffer)
    (λ _. agrees content.orders (length content.votes) kinds.OrdersDiffer >>= λ _. put a.0) file a.2 in
    let d = bound (agrees content.orders (length content.votes) kinds.OrdersDiffer) (λ _. put a.0) file b.2 in
    let f : record {
      profile = record { alternatives = a.0; lines = content.votes };
      names = names_up_to a.0 content.names;
    } ≡ file = cc d.2 in
    let m = was_some content.alternatives kinds.NoAlternativeCount a.0
    (went_well last (ok_or content.alternatives kinds.NoAlternativeCount) a.0 a.1) in
    subst (Makes content) f (record {
      alternatives = m;
      voters = agreed content.voters (total_weight content.votes) kinds.VotersDiffer b.0 b.1;
      orders = agreed content.orders (length content.votes) kinds.OrdersDiffer d.0 d.1;
      names = refl;
      votes = refl;
    })

too_long-err : (r : Result Content SocFault) (line : ℕ) (file : File)
    → (r >>= λ _. at_line {A = File} line (Err kinds.FileTooLong)) ≡ Ok file → ⊥
too_long-err (Ok s) line file h = cc
too_long-err (Err e) line file h = cc

-- its lines have no fault, and make it
pub soc-ok : (bytes : List ℕ) (file : File) → soc bytes ≡ Ok file → (content : Content)
    × (content_of_lines (lines bytes) ≡ Ok content) × Makes content file
soc-ok bytes file h =
    elim (nat_le (length bytes) profile_size_limit) as (λ b. cond b (file_of (lines bytes))
    (too_long (take profile_size_limit bytes)) ≡ Ok file → (content : Content)
    × (content_of_lines (lines bytes) ≡ Ok content) × Makes content file) [
      | true ↦ λ e.
          let a = bound (content_of_lines (lines bytes)) (λ content. complete_file content (length (lines bytes))) file
          e in
          (a.0, a.1, complete_file-ok a.0 (length (lines bytes)) file a.2)
      | false ↦ λ e. absurd (too_long-err (ended_content (take profile_size_limit bytes))
          (length (lines (take profile_size_limit bytes))) file e)
    ] h
