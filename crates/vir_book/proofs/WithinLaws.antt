-- The terms that a rule file defines are within the limits.
use Rattle.std.proofs.Common.{◌≡◌, ℕ, zero, suc, List, [], ◌∷◌, ◌++◌, length, Ok, nat_lt, subst}
use Rattle.vir_term.specs.Limits.{IsWithinLimits}
use Rattle.vir_term.specs.Tree.{Tree}
use Rattle.vir_read.proofs.LimitLemmas.{bind_ok, guard_else, ok_ok, term_of_within}
use Rattle.vir_read.specs.Arguments.{is_known, span}
use Rattle.vir_read.specs.declared.token.Token.{Token}
use Rattle.vir_read.specs.Faults.{◌>>=◌}
use Rattle.vir_read.specs.Tokens.{tokens_of}
use Rattle.vir_read.specs.Typing.{term_of}
use Rattle.vir_book.specs.Books.{AllWithinLimits, Entry, Written, book_of, definition_of, entries_of, entry, filled}
use Rattle.vir_book.specs.Books.{last_term, lookup, new_term, rule_of, rule_file_limit, with_definition}
use Rattle.vir_book.proofs.BookLemmas.{lookup_within, within-append}

-- behind such terms a definition gives one
definition_within : (text : List ℕ) (before after : List Entry) (d : Written) → AllWithinLimits before
    → with_definition text before d ≡ Ok after → AllWithinLimits after
definition_within text before after d within e =
    let name = span text d.name.start d.name.end in
    let b = bind_ok (new_term text before name d) (λ t. Ok (before ++ entry name t ∷ [])) after e in
    let term = guard_else (is_known (lookup before) name) _ (term_of text (lookup before) d.name.start d.tree) b.0 b.1
    in
    let one : IsWithinLimits b.0 = term_of_within text (lookup before) (lookup_within before within) d.name.start d.tree
    b.0 term.1 in
    subst AllWithinLimits (ok_ok (before ++ entry name b.0 ∷ []) after b.2) (within-append before (entry name b.0)
    within one)

entries_within : (most : ℕ) (text : List ℕ) (before after : List Entry) (tokens : List Token) → AllWithinLimits before
    → entries_of most text before tokens ≡ Ok after → AllWithinLimits after
entries_within zero text before after tokens within e = subst AllWithinLimits (ok_ok before after e) within
entries_within (suc most) text before after [] within e = subst AllWithinLimits (ok_ok before after e) within
entries_within (suc most) text before after (t ∷ rest) within e =
    let d = bind_ok (definition_of text (t ∷ rest)) (λ d. with_definition text before d.0 >>= λ more.
    entries_of most text more d.1) after e in
    let more = bind_ok (with_definition text before d.0.0) (λ more. entries_of most text more d.0.1) after d.2 in
    entries_within most text more.0 after d.0.1 (definition_within text before more.0 d.0.0 within more.1) more.2

filled_same : (list after : List Entry) → filled list ≡ Ok after → list ≡ after
filled_same [] after e = cc
filled_same (x ∷ rest) after e = ok_ok (x ∷ rest) after e

book_within : (text : List ℕ) (list : List Entry) → book_of text ≡ Ok list → AllWithinLimits list
book_within text list e =
    let whole = guard_else (nat_lt rule_file_limit (length text)) _ (tokens_of text >>= λ tokens.
    entries_of (length tokens) text [] tokens >>= filled) list e in
    let tokens = bind_ok (tokens_of text) (λ tokens. entries_of (length tokens) text [] tokens >>= filled) list whole.1
    in
    let entries = bind_ok (entries_of (length tokens.0) text [] tokens.0) filled list tokens.2 in
    subst AllWithinLimits (filled_same entries.0 list entries.2) (entries_within (length tokens.0) text [] entries.0
    tokens.0 tt entries.1)

last_term_within : (list : List Entry) (t : Tree) → AllWithinLimits list → last_term list ≡ Ok t → IsWithinLimits t
last_term_within [] t within e = cc
last_term_within (x ∷ []) t within e = subst IsWithinLimits (ok_ok x.term t e) within.0
last_term_within (x ∷ next ∷ rest) t within e = last_term_within (next ∷ rest) t within.1 e

-- so is the one that is defined last
pub rule_within : (text : List ℕ) (t : Tree) → rule_of text ≡ Ok t → IsWithinLimits t
rule_within text t e =
    let b = bind_ok (book_of text) last_term t e in
    last_term_within b.0 t (book_within text b.0 b.1) b.2
