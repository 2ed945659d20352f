-- The definitions are read one after the other.
use Rattle.std.proofs.Common.{◌≡◌, ℕ, zero, suc, ◌+◌, ◌-◌, ◌<◌, ◌≤◌, List, [], ◌∷◌, length, drop, Ok, refl, sym, ◌∙◌}
use Rattle.std.proofs.Common.{ap, arith}
use Rattle.std.proofs.lemmas.List.{drop_all, length-drop}
use Rattle.vir_read.specs.declared.token.Token.{Token}
use Rattle.vir_read.specs.Faults.{OrFault, ◌>>=◌}
use Rattle.vir_book.specs.Books.{Entry, Written, definition_of, with_definition, entries_of}

entries_of-none : (most : ℕ) (text : List ℕ) (before : List Entry) → entries_of most text before [] ≡ Ok before
entries_of-none zero text before = refl
entries_of-none (suc most) text before = refl

entries_of-some : (most : ℕ) (text : List ℕ) (before : List Entry) (tokens : List Token) → 0 < length tokens →
    entries_of (suc most) text before tokens ≡ (definition_of text tokens >>= λ d. with_definition text before d.0
    >>= λ after. entries_of most text after d.1)
entries_of-some most text before [] h = absurd (omega arith)
entries_of-some most text before (t ∷ rest) h = refl

module _ (text : List ℕ) (list : List Token) (counter at : ℕ) (before : List Entry) (whole : OrFault (List Entry))
    (inside : counter < length list) (same : entries_of (length list - counter) text before (drop at list) ≡ whole)
  where
    abbrev left : ℕ
    left = length list - (counter + 1)

    opened : whole ≡ entries_of (suc left) text before (drop at list)
    opened = sym same ∙ (let e : length list - counter ≡ suc left = omega arith
        in ap (λ n. entries_of n text before (drop at list)) e)

    pub stops : length list ≤ at → whole ≡ Ok before
    stops h = opened ∙ ap (entries_of (suc left) text before) (drop_all at list h)

    pub goes : at < length list → whole ≡ (definition_of text (drop at list) >>= λ d. with_definition text before d.0
        >>= λ after. entries_of left text after d.1)
    goes h = opened ∙ entries_of-some left text before (drop at list) (let e = length-drop at list in omega arith)

    pub reads : (d : Written) (rest : List Token) → at < length list
        → definition_of text (drop at list) ≡ Ok (d, rest) →
        whole ≡ (with_definition text before d >>= λ after. entries_of left text after rest)
    reads d rest h e = goes h ∙ ap (λ r. r >>= λ d. with_definition text before d.0 >>= λ after. entries_of left text
        after d.1) e

    pub adds : (d : Written) (rest : List Token) (after : List Entry) → at < length list
        → definition_of text (drop at list) ≡ Ok (d, rest) → with_definition text before d ≡ Ok after →
        whole ≡ entries_of left text after rest
    adds d rest after h e k = reads d rest h e ∙ ap (λ r. r >>= λ after. entries_of left text after rest) k
