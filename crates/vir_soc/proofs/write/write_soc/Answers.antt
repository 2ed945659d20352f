use Rattle.std.proofs.Common.{◌≡◌, ◌≤◌, List, ℕ, length, refl, subst, sym, Ok}
use Rattle.vir_profile.specs.Profiles.{IsProfile}
use Rattle.vir_profile.specs.SocFiles.{AreNames, File}
use Rattle.vir_soc.specs.Limits.{profile_size_limit}
use Rattle.vir_soc.specs.Soc.{soc}
use Rattle.vir_soc.specs.SocText.{soc_text}
use Rattle.vir_soc.proofs.RoundTripLemmas.{soc-soc_text}
use Rattle.vir_soc.proofs.write.write_soc.Goals as goal

-- what is the text of a file is read as that file
reads_back : (file : File) (text : List ℕ) → IsProfile file.profile → AreNames file.profile.alternatives file.names
    → text ≡ soc_text file → length text ≤ profile_size_limit → soc text ≡ Ok file
reads_back file text p n e =
    let P : List ℕ → Type 0 = λ t. length t ≤ profile_size_limit → soc t ≡ Ok file in
    subst P (sym e) (soc-soc_text file p n)

pub returns-clause-text : goal.returns-clause-text
returns-clause-text c = rw (
  c.in_ok-push_lines.ensures,
  c.in_ok-push_names.ensures,
  c.in_ok-push_counts.ensures,
  c.new-out.ensures.items,
  c.entries.ensures.lines,
  c.profile-2.ensures,
  c.names.ensures.names,
  c.profile.ensures,
)
    refl

pub returns-clause-read_back : goal.returns-clause-read_back
returns-clause-read_back c = reads_back c.args.file.now c.push_lines.new.out.items (subst IsProfile c.profile-2.ensures
    c.entries.ensures.limits) c.names.ensures.known (returns-clause-text c)
