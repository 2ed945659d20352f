use Rattle.std.proofs.Common.{sym, ap, ◌∙◌}
use Rattle.std.specs.Cmp.Lexicographic.{same_text}
use Rattle.std.proofs.lemmas.Cmp.{nat_list_eq_equiv}
use Rattle.vir_altset.specs.Words.{set_of, word_count, words_of}
use Rattle.vir_altset.specs.WordsBack.{words_of-set_of}
use Rattle.vir_altset.proofs.alt_set.AltSet.equals.Goals as goal

pub returns : goal.returns
returns c = (
  λ t. sym c.self.view_is ∙ ap (set_of word_count) (same_text c.self.inside.words c.other.inside.words
      (sym t ∙ c.eq.ensures)) ∙ c.other.view_is,
  λ e. c.eq.ensures ∙ rw (sym (words_of-set_of word_count c.self.inside.words c.self.invariant)
      ∙ ap (words_of word_count 0) (c.self.view_is ∙ e ∙ sym c.other.view_is) ∙ words_of-set_of word_count
      c.other.inside.words c.other.invariant) (nat_list_eq_equiv.refl c.other.inside.words),
)
