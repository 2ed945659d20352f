-- Tokens that are read, and those that are left.
use Rattle.std.proofs.Common.{◌≡◌, ℕ, ◌≤◌, List, [], ◌∷◌, ◌++◌, length, drop, Option, Some, None, Ok, Err}
use Rattle.std.proofs.Common.{option_to_list, refl, ap, ◌∙◌, append_assoc, append-nil}
use Rattle.std.proofs.lemmas.List.{drop_all}
use Rattle.vir_read.specs.declared.token.Token.{Token}
use Rattle.vir_read.specs.Faults.{OrFault}
use Rattle.vir_read.specs.Tokens.{tokens_from}
use Rattle.vir_read.specs.Steps.{with_found}

-- these tokens, and then those
abbrev pub with_tokens : List Token → OrFault (List Token) → OrFault (List Token)
with_tokens front (Ok rest) = Ok (front ++ rest)
with_tokens front (Err e) = Err e

pub with_tokens-none : (rest : OrFault (List Token)) → with_tokens [] rest ≡ rest
with_tokens-none (Ok rest) = refl
with_tokens-none (Err e) = refl

pub with_tokens-found : (front : List Token) (found : Option Token) (rest : OrFault (List Token)) →
    with_tokens (front ++ option_to_list found) rest ≡ with_tokens front (with_found found rest)
with_tokens-found front None (Ok rest) = ap Ok (append_assoc front [] rest)
with_tokens-found front (Some t) (Ok rest) = ap Ok (append_assoc front (t ∷ []) rest)
with_tokens-found front None (Err e) = refl
with_tokens-found front (Some t) (Err e) = refl

-- at the end nothing is left
pub with_tokens-end : (front : List Token) (at : ℕ) (text : List ℕ) → length text ≤ at
    → with_tokens front (tokens_from 0 at (drop at text)) ≡ Ok front
unfolding tokens_from
with_tokens-end front at text h =
    ap (λ bytes. with_tokens front (tokens_from 0 at bytes)) (drop_all at text h) ∙ ap Ok (append-nil front)
