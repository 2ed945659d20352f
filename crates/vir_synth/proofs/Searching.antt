-- What is offered for one size more.
use Rattle.std.proofs.Common.{◌≡◌, ℕ, zero, suc, ◌+◌, ◌-◌, ◌<◌, ◌≤◌, List, [], ◌∷◌, ◌++◌, map, length, get_or, None}
use Rattle.std.proofs.Common.{IfOk, refl, sym, ◌∙◌, ap, subst, append_assoc, arith}
use Rattle.std.specs.List.{find, All, Contains}
use Rattle.std.proofs.lemmas.List.{append-nil}
use Rattle.std.proofs.lemmas.List.Elements.{All-nil, All-get_or}
use Rattle.std.specs.Prelude.{Vec}
use Rattle.std.specs.declared.alloc.Global.{Global}
use Rattle.std.specs.declared.result.Result.{Result}
use Rattle.std.specs.declared.result.Result.TheVariants.{Ok, Err}
use Rattle.vir_term.specs.declared.leaf.Leaf.{Leaf}
use Rattle.vir_term.specs.Tree.{Tree, leaf, rev, seq, par, loop, exactly}
use Rattle.vir_synth.specs.declared.form.Joint.{Joint}
use Rattle.vir_synth.specs.declared.table.Found.{Found}
use Rattle.vir_synth.specs.declared.table.Table.{Table}
use Rattle.vir_synth.specs.Terms.{joins, splits, compositions, next_terms}
use Rattle.vir_synth.specs.Tables.{of_two, terms_of, IsSigned, HoldsFirsts, Adds}
use Rattle.vir_synth.specs.Searches.{kept_at, all_kept, AreSigned, IsKept}
use Rattle.vir_synth.proofs.Tabling.{adds_both}

-- the kept terms of a size that there is
pub kept_place : (sizes : List (Vec Found Global)) (i : ℕ) (founds : Vec Found Global) → i < length sizes → founds
    ≡ get_or sizes i founds → kept_at sizes (suc i) ≡ terms_of founds.items
kept_place [] i founds l e = absurd (omega arith)
kept_place (x ∷ sizes) zero founds l e = let s : x ≡ founds = sym e in ap (λ v. terms_of v.items) s
kept_place (x ∷ sizes) (suc i) founds l e = kept_place sizes i founds (omega arith) e

kept_of_size : (sizes : List (Vec Found Global)) (n i : ℕ) (founds : Vec Found Global) → n ≡ suc i → i < length sizes
    → founds ≡ get_or sizes i founds → kept_at sizes n ≡ terms_of founds.items
kept_of_size sizes n i founds s l e = subst (λ k. kept_at sizes k ≡ terms_of founds.items) (sym s)
    (kept_place sizes i founds l e)

pub splits_next : (op : Tree → Tree → Tree) (at : ℕ → List Tree) (left n r : ℕ) → n - left ≡ suc r → n - (left + 1) ≡ r
    → joins op (at left) (at (n - left)) ++ splits op at (left + 1) (n - (left + 1)) ≡ splits op at left (n - left)
unfolding splits
splits_next op at left n r e f =
    let g : left + 1 ≡ suc left = omega arith in
    subst (λ k. joins op (at left) (at k) ++ splits op at (left + 1) (n - (left + 1)) ≡ splits op at left k) (sym e)
    (subst (λ k. joins op (at left) (at (suc r)) ++ splits op at (left + 1) k ≡ splits op at left (suc r)) (sym f)
    (subst (λ k. joins op (at left) (at (suc r)) ++ splits op at k r ≡ splits op at left (suc r)) (sym g) refl))

-- What was offered of the compositions of two terms, before those whose first part is of this size.
abbrev pub IsOffered : List ℕ → Joint → List (Vec Found Global) → ℕ → Table → Table → Type 0
IsOffered numbers form sizes left old new =
    (done : List Tree) × (done ++ splits (of_two form) (kept_at sizes) left (length sizes - left) ≡ splits (of_two form)
    (kept_at sizes) 1 (length sizes - 1)) × Adds numbers done old new

pub offered_more : (numbers : List ℕ) (form : Joint) (sizes : List (Vec Found Global)) (left : ℕ)
    (first second : Vec Found Global) (a b c : Table) → 1 ≤ left → left < length sizes →
    first ≡ get_or sizes (left - 1) first → second ≡ get_or sizes (length sizes - left - 1) second
    → IsOffered numbers form sizes left a b → Adds numbers (joins (of_two form) (terms_of first.items)
    (terms_of second.items)) b c → IsOffered numbers form sizes (left + 1) a c
offered_more numbers form sizes left first second a b c l k e f (done, is, adds) more =
    let op : Tree → Tree → Tree = of_two form in
    let n : ℕ = length sizes in
    let xs : List Tree = joins op (terms_of first.items) (terms_of second.items) in
    let firsts : kept_at sizes left ≡ terms_of first.items = kept_of_size sizes left (left - 1) first (omega arith)
    (omega arith) e in
    let seconds : kept_at sizes (n - left) ≡ terms_of second.items = kept_of_size sizes (n - left) (n - left - 1) second
    (omega arith) (omega arith) f in
    let same : joins op (kept_at sizes left) (kept_at sizes (n - left)) ≡ xs =
    ap (λ ts. joins op ts (kept_at sizes (n - left))) firsts ∙ ap (joins op (terms_of first.items)) seconds in
    let rest : List Tree = splits op (kept_at sizes) (left + 1) (n - (left + 1)) in
    let next : xs ++ rest ≡ splits op (kept_at sizes) left (n - left) = ap (λ ts. ts ++ rest) (sym same)
    ∙ splits_next op (kept_at sizes) left n (n - left - 1) (omega arith) (omega arith) in (
      done ++ xs,
      append_assoc done xs rest ∙ (ap (λ ts. done ++ ts) next ∙ is),
      adds_both numbers done xs a b c adds
          more,
    )

pub splits-zero : (op : Tree → Tree → Tree) (at : ℕ → List Tree) (left r : ℕ) → r ≡ 0 → splits op at left r ≡ []
unfolding splits
splits-zero op at left r e = subst (λ k. splits op at left k ≡ []) (sym e) refl

pub offered_all : (numbers : List ℕ) (form : Joint) (sizes : List (Vec Found Global)) (left : ℕ) (a b : Table)
    → length sizes ≤ left → IsOffered numbers form sizes left a b
    → Adds numbers (splits (of_two form) (kept_at sizes) 1 (length sizes - 1)) a b
offered_all numbers form sizes left a b l (done, is, adds) =
    let none : splits (of_two form) (kept_at sizes) left (length sizes - left) ≡ [] = splits-zero (of_two form)
    (kept_at sizes) left (length sizes - left) (omega arith) in
    subst (λ ts. Adds numbers ts a b) (sym (append-nil done) ∙ (ap (λ ts. done ++ ts) (sym none) ∙ is)) adds

pub ok_then : {A E : Type 0} (P Q : Type 0) (r : Result A E) → IfOk r (λ _. P) → (P → Q) → IfOk r (λ _. Q)
ok_then P Q (Ok x) h f = f h
ok_then P Q (Err e) h f = tt

pub compositions_offered : (numbers : List ℕ) (sizes : List (Vec Found Global)) (last : Vec Found Global)
    (a b c d e : Table) → 1 ≤ length sizes → last ≡ get_or sizes (length sizes - 1) last →
    Adds numbers (map rev (terms_of last.items)) a b → Adds numbers (map (loop (exactly 1)) (terms_of last.items)) b c
    → Adds numbers (splits seq (kept_at sizes) 1 (length sizes - 1)) c d
    → Adds numbers (splits par (kept_at sizes) 1 (length sizes - 1)) d e →
    Adds numbers (compositions (kept_at sizes) (length sizes)) a e
compositions_offered numbers sizes last a b c d e l is revs loops seqs pars =
    let n : ℕ = length sizes in
    let same : kept_at sizes n ≡ terms_of last.items = kept_of_size sizes n (n - 1) last (omega arith) (omega arith) is
    in
    let rs : List Tree = map rev (kept_at sizes n) in
    let ls : List Tree = map (loop (exactly 1)) (kept_at sizes n) in
    let ss : List Tree = splits seq (kept_at sizes) 1 (n - 1) in
    let ps : List Tree = splits par (kept_at sizes) 1 (n - 1) in
    let revs' : Adds numbers rs a b = subst (λ ts. Adds numbers (map rev ts) a b) (sym same) revs in
    let loops' : Adds numbers ls b c = subst (λ ts. Adds numbers (map (loop (exactly 1)) ts) b c) (sym same) loops in
    adds_both numbers (rs ++ ls ++ ss) ps a d e (adds_both numbers (rs ++ ls) ss a c d
    (adds_both numbers rs ls a b c revs' loops') seqs) pars

-- a table of a new size
pub starts : (numbers : List ℕ) (leaves : List Leaf) (table : Table) (sizes : List (Vec Found Global))
    → IsKept numbers leaves table.seen sizes → table.found.items ≡ [] → HoldsFirsts numbers (all_kept sizes) [] table
starts numbers leaves table sizes h e = record {
  known = λ s seen.
      (let k = h.known s seen
      in (
        k.0,
        subst (λ ts. Contains ts k.0) (sym (ap (λ fs. all_kept sizes ++ terms_of fs) e
            ∙ append-nil (all_kept sizes))) k.1,
        k.2,
      ));
  signed = subst (All (IsSigned numbers)) (sym e) (All-nil (IsSigned numbers));
  serves = λ p respects none. subst (λ fs. None ≡ find p (terms_of fs)) (sym e) refl;
}

pub next_of_none : (leaves : List Leaf) (at : ℕ → List Tree) (n : ℕ) → n ≡ 0 → next_terms leaves at n ≡ map leaf leaves
next_of_none leaves at n e = subst (λ k. next_terms leaves at k ≡ map leaf leaves) (sym e) refl

pub next_of_some : (leaves : List Leaf) (at : ℕ → List Tree) (n : ℕ) → 1 ≤ n → next_terms leaves at n
    ≡ compositions at n
next_of_some leaves at zero l = absurd (omega arith)
next_of_some leaves at (suc n) l = refl

pub next_held : (numbers : List ℕ) (leaves : List Leaf) (sizes : List (Vec Found Global)) (xs : List Tree)
    (old new : Table) → next_terms leaves (kept_at sizes) (length sizes) ≡ xs → IsKept numbers leaves old.seen sizes
    → old.found.items ≡ [] → Adds numbers xs old new →
    HoldsFirsts numbers (all_kept sizes) (next_terms leaves (kept_at sizes) (length sizes)) new
next_held numbers leaves sizes xs old new e h none adds = subst (λ ts. HoldsFirsts numbers (all_kept sizes) ts new)
    (sym e)
    (adds (all_kept sizes) [] (starts numbers leaves old sizes h none))

-- the kept terms of a size are signed
pub signed_in : (numbers : List ℕ) (sizes : List (Vec Found Global)) (i : ℕ) (founds : Vec Found Global)
    (xs : List Found) → i < length sizes → founds ≡ get_or sizes i founds → xs ≡ founds.items → AreSigned numbers sizes
    → All (IsSigned numbers) xs
signed_in numbers sizes i founds xs l e f h =
    subst (All (IsSigned numbers)) (sym f) (subst (λ v. All (IsSigned numbers) v.items) (sym e)
    (All-get_or (λ v. All (IsSigned numbers) v.items) sizes i founds l h))
