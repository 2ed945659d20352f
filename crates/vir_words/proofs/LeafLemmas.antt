-- Modules as words.
use Rattle.std.proofs.Common.{◌≡◌, ℕ, ◌≤◌, Bool, true, false, List, [], ◌∷◌, codes, length, cond, Option, None, Some}
use Rattle.std.proofs.Common.{Result, Ok, Err, refl, sym, ◌∙◌, ap, subst, arith}
use Rattle.std.specs.Cmp.Lexicographic.{bytes_decides}
use Rattle.std.specs.Result.{IfOk}
use Rattle.std.specs.Str.{bytes_eq}
use Rattle.vir_term.specs.declared.leaf.Leaf.{Leaf}
use Rattle.vir_term.specs.Limits.{IsWithinLimits}
use Rattle.vir_term.specs.Text.{leaf_text}
use Rattle.vir_term.specs.Tree.{Tree, leaf, rev, seq, par, loop}
use Rattle.vir_read.specs.declared.text_fault.TextFault.{TextFault}
use Rattle.vir_read.specs.Faults.{OrFault, ◌>>=◌}
use Rattle.vir_book.specs.Books.{Entry, book_of, entry, last_term, rule_of}
use Rattle.vir_book.proofs.RoundTrip.{book_of-definition}
use Rattle.vir_book.proofs.WithinLaws.{rule_within}
use Rattle.vir_words.specs.WordLeaves.{leaf_of, leaf_read, printed_leaf, rule_file}

-- ---- words are printed modules

by_test : (b : Bool) (l m : Leaf) (word : List ℕ) → (b ≡ true → leaf_text m ≡ word) → cond b (Some m) None ≡ Some l
    → (leaf_text l ≡ word) × (m ≡ l)
by_test true l m word told e =
    let same : m ≡ l = cc in (subst (λ n. leaf_text n ≡ word) same (told refl), same)
by_test false l m word told e = absurd (cc)

printed : (word : List ℕ) (t : Tree) (l : Leaf) → printed_leaf word t ≡ Some l → (leaf_text l ≡ word) × (t ≡ leaf l)
printed word (leaf m) l e =
    let found = by_test (bytes_eq (leaf_text m) word) l m word (bytes_decides (leaf_text m) word).0 e in
    (found.0, ap leaf found.1)
printed word (rev part) l e = absurd (cc)
printed word (seq first second) l e = absurd (cc)
printed word (par first second) l e = absurd (cc)
printed word (loop end body) l e = absurd (cc)

read : (word : List ℕ) (o : OrFault Tree) (l : Leaf) → leaf_read word o ≡ Some l
    → (leaf_text l ≡ word) × (o ≡ Ok (leaf l))
read word (Ok t) l e = let found = printed word t l e in (found.0, ap Ok found.1)
read word (Err fault) l e = absurd (cc)

pub leaf_is_printed : (word : List ℕ) (l : Leaf) → leaf_of word ≡ Some l → leaf_text l ≡ word
unfolding leaf_of
leaf_is_printed word l e = (read word (rule_of (rule_file word)) l e).0

pub leaf_is_within : (word : List ℕ) (l : Leaf) → leaf_of word ≡ Some l → IsWithinLimits (leaf l)
unfolding leaf_of
leaf_is_within word l e = rule_within (rule_file word) (leaf l) (read word (rule_of (rule_file word)) l e).1

-- ---- printed modules are words

short : length (codes "r") ≤ 20000
short = omega arith

pub printed_is_leaf : (l : Leaf) → IsWithinLimits (leaf l) → leaf_of (leaf_text l) ≡ Some l
unfolding leaf_of
printed_is_leaf l within =
    let book : book_of (rule_file (leaf_text l)) ≡ Ok (entry (codes "r") (leaf l) ∷ []) = book_of-definition (codes "r")
    (leaf l) refl refl short within in
    ap (λ b. leaf_read (leaf_text l) (b >>= last_term)) book
    ∙ ap (λ b. cond b (Some l) None) ((bytes_decides (leaf_text l) (leaf_text l)).1 refl)

-- ---- what a reader finds

-- a rule that was read
pub leaf_found : {E : Type 0} (word text : List ℕ) (entries : List Entry) (t : Tree) (r : Result (Option Leaf) E)
    → text ≡ rule_file word → book_of text ≡ Ok entries → last_term entries ≡ Ok t
    → IfOk r (λ found. found ≡ printed_leaf word t) → IfOk r (λ found. found ≡ leaf_of word)
unfolding leaf_of
leaf_found word text entries t (Err e) same book last told = tt
leaf_found word text entries t (Ok found) same book last told =
    let rule : rule_of (rule_file word) ≡ Ok t = subst (λ bytes. rule_of bytes ≡ Ok t) same
    (ap (λ b. b >>= last_term) book ∙ last) in
    told ∙ sym (ap (leaf_read word) rule)

-- a fault
pub leaf_missing : (word text : List ℕ) (fault : TextFault) → text ≡ rule_file word → book_of text ≡ Err fault
    → None ≡ leaf_of word
unfolding leaf_of
leaf_missing word text fault same refused =
    let rule : book_of (rule_file word) ≡ Err fault = subst (λ bytes. book_of bytes ≡ Err fault) same refused in
    sym (ap (λ b. leaf_read word (b >>= last_term)) rule)
