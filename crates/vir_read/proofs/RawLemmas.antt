-- What each kind of `Raw` is.
use Rattle.std.proofs.Common.{◌≡◌, ℕ, List, ap, sym, ◌∙◌}
use Rattle.vir_read.specs.declared.raw.Raw.{Raw, fold-roll-Raw}
use Rattle.vir_read.specs.declared.raw.Raw.TheVariants.{rolls-List, rolls-Number, rolls-Word}
use Rattle.vir_read.specs.declared.raw.Raw.TheOpen as open_raw
use Rattle.vir_read.specs.declared.raw.Raw as raw
use Rattle.vir_read.specs.declared.raw.RawList.{RawList}
use Rattle.vir_read.specs.RawTrees.{RawTree, bracket, gathered, list_step, listed, number, raw_step, raw_tree, word}

pub raw_tree-list : (start : ℕ) (members : RawList) → raw_tree (raw.List start members)
    ≡ bracket start (gathered (listed members))
raw_tree-list start members = ap raw_tree (sym (rolls-List start members)) ∙ fold-roll-Raw RawTree (List RawTree)
    raw_step list_step (open_raw.List start members)

pub raw_tree-number : (start end : ℕ) → raw_tree (raw.Number start end) ≡ number start end
raw_tree-number start end = ap raw_tree (sym (rolls-Number start end)) ∙ fold-roll-Raw RawTree (List RawTree) raw_step
    list_step (open_raw.Number start end)

pub raw_tree-word : (start end : ℕ) (parts : RawList) → raw_tree (raw.Word start end parts)
    ≡ word start end (gathered (listed parts))
raw_tree-word start end parts = ap raw_tree (sym (rolls-Word start end parts)) ∙ fold-roll-Raw RawTree (List RawTree)
    raw_step list_step (open_raw.Word start end parts)
