-- A line that has begun, and the bytes that end it.
use Rattle.std.proofs.Common.{◌≡◌, ℕ, false, List, [], ◌∷◌, ◌++◌, ap, ◌∙◌, refl}
use Rattle.std.specs.List.{before_first, list_any}
use Rattle.std.proofs.lemmas.List.Folds.{list_any-append}
use Rattle.vir_profile.specs.SocFiles.{is_line_feed}
use Rattle.vir_soc.specs.declared.fault.SocError.{SocError}
use Rattle.vir_soc.specs.Reader.Answers.{Fails, fault_in}
use Rattle.vir_soc.specs.Reader.Pieces.{Progress, end_line}
use Rattle.vir_soc.proofs.CleanLemmas.{before_at}

-- a line whose beginning was taken out, and put in front of its end and a line feed
pub record IsWhole (p : Progress) (left line end : List ℕ) : Type 0 where
  pub begun : List ℕ
  pub taken : begun ≡ p.begun
  pub first : list_any is_line_feed begun ≡ false
  pub nothing : left ≡ []
  pub last : list_any is_line_feed end ≡ false
  pub joined : line ≡ (begun ++ end) ++ 10 ∷ []

-- it is the line that ends
pub end_line-whole : (p : Progress) (left line end : List ℕ) → IsWhole p left line end
    → end_line p end ≡ end_line (record p { begun = left }) (before_first is_line_feed line)
end_line-whole p left line end w =
    let one_line : list_any is_line_feed (w.begun ++ end) ≡ false =
    list_any-append is_line_feed w.begun end ∙ rw (w.first, w.last) refl in
    let before = ap (before_first is_line_feed) w.joined
    ∙ before_at is_line_feed (w.begun ++ end) 10 [] one_line refl in
    rw (w.nothing, before, w.taken) refl

-- and its fault is that of the line
pub end_line-whole_fails : (p : Progress) (left line end : List ℕ) (e : SocError) → IsWhole p left line end
    → Fails (fault_in e) (end_line (record p { begun = left }) (before_first is_line_feed line))
    → Fails (fault_in e) (end_line p end)
end_line-whole_fails p left line end e w h = rw (end_line-whole p left line end w) h
