use Rattle.std.proofs.Common.{◌≡◌, ◌⊎◌, sym, ◌∙◌, ap, subst, inl, inr}
use Rattle.vir_term.specs.Tree.{Tree, End, exactly, at_most, tree, rev, seq, par, loop}
use Rattle.vir_rules.specs.Forms.{form_seen}
use Rattle.vir_derive.specs.Heads.{are_opposed}
use Rattle.vir_derive.specs.PropsTree.{IsPropsTreeOf}
use Rattle.vir_derive.proofs.TreeLemmas.{rev_or_loop, seq_or_par}
use Rattle.vir_derive.proofs.props_tree.PropsTree.+of.Goals as goal

pub returns-in_ok-part-in-Rev : goal.returns-in_ok-part-in-Rev
returns-in_ok-part-in-Rev t c =
    let m : Tree = tree c.deref-in-Rev.result.now in
    let part : rev (tree c.in-Rev.part.value) ≡ rev m = ap (λ x. rev (tree x)) (sym c.deref-in-Rev.ensures) in
    let body : (k : End) → loop k (tree c.in-Rev.part.value) ≡ loop k m = λ k. ap (λ x. loop k (tree x))
    (sym c.deref-in-Rev.ensures) in
    let e : (tree c.args.term.now ≡ rev m) ⊎ ((k : End) × (tree c.args.term.now ≡ loop k m)) = elim c.in-Rev.is [
      | inl is ↦ inl (ap tree is ∙ part)
      | inr further ↦ elim further [
        | inl is ↦ inr (exactly is.0, ap tree is.1 ∙ body (exactly is.0))
        | inr is ↦ inr (at_most is.0, ap tree is.1 ∙ body (at_most is.0))
      ]
    ] in
    rev_or_loop c.join_one.result (tree c.args.term.now) m (form_seen c.of-in-Rev-2.result) c.in_ok-part-in-Rev.part
    c.of-in-Rev-2.ensures e c.join_one.ensures c.in_ok-part-in-Rev.ensures

pub returns-in_ok-second-in-Seq : goal.returns-in_ok-second-in-Seq
returns-in_ok-second-in-Seq t c =
    let m : Tree = tree c.in-Seq.first.value in
    let n : Tree = tree c.in-Seq.second.value in
    let e : (tree c.args.term.now ≡ seq m n) ⊎ (tree c.args.term.now ≡ par m n) = elim c.in-Seq.is [
      | inl is ↦ inl (ap tree is)
      | inr is ↦ inr (ap tree is)
    ] in
    let o : c.are_opposed-opposed.result ≡ are_opposed m n =
    c.are_opposed-opposed.ensures.opposed ∙ ap (λ x. are_opposed (tree x) (tree c.deref-in-Seq.result.now))
    c.deref.ensures ∙ ap (λ x. are_opposed m (tree x)) c.deref-in-Seq.ensures in
    seq_or_par c.join_two.result (tree c.args.term.now) m n (form_seen c.of-in-Seq-2.result) c.in_ok-first-in-Seq.first
    c.in_ok-second-in-Seq.second c.are_opposed-opposed.result
    c.of-in-Seq-2.ensures e o c.join_two.ensures (subst (λ x. IsPropsTreeOf c.in_ok-first-in-Seq.first (tree x))
    c.deref-in-Seq-2.ensures c.in_ok-first-in-Seq.ensures)
    (subst (λ x. IsPropsTreeOf c.in_ok-second-in-Seq.second (tree x)) c.deref-in-Seq-3.ensures
    c.in_ok-second-in-Seq.ensures)
