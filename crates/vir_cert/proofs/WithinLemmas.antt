-- A derivation of at most some nesting.
use Rattle.std.proofs.Common.{◌≡◌, ℕ, zero, suc, ◌+◌, ◌-◌, ◌<◌, true, List, length, drop, Ok, Err, ap, ◌∙◌}
use Rattle.std.proofs.Common.{arith}
use Rattle.std.proofs.lemmas.List.{drop-drop}
use Rattle.vir_read.specs.declared.token.Token.{Token}
use Rattle.vir_read.specs.declared.text_fault.TextError.{TextError}
use Rattle.vir_read.specs.declared.text_fault.TextKind.TheVariants.{TooDeep}
use Rattle.vir_read.specs.Faults.{Fails, ◌>>=◌, fault}
use Rattle.vir_rules.specs.RuleTrees.{RuleTree, node, gathered}
use Rattle.vir_cert.specs.Derivations.{PlacedRule, Reads, behind_rule, children, derivation_within, name_of, opens}
use Rattle.vir_read.proofs.TypingLemmas.{fails_on}

-- a rule behind whose name a parenthesis opens
pub behind-opened : (text : List ℕ) (inside : Reads) (rule : ℕ) (list : List Token) (from : ℕ)
    → opens text (drop from list) ≡ true →
    behind_rule text inside rule (drop from list)
    ≡ (children text inside (length (drop (from + 1) list)) (drop (from + 1) list) >>= λ found.
    Ok (node rule (gathered found.0), found.1))
behind-opened text inside rule list from e =
    rw e (ap (λ tokens. children text inside (length tokens) tokens >>= λ found.
    Ok (node rule (gathered found.0), found.1)) (drop-drop 1 from list))

module _ (text : List ℕ) (last : ℕ) where
  pub within-fails : (room : ℕ) (tokens : List Token) (e : TextError) → Fails e (name_of text last tokens)
      → Fails e (derivation_within text last room tokens)
  unfolding derivation_within
  within-fails zero tokens e h = fails_on {B = RuleTree × List Token} e (name_of text last tokens)
      (λ found. Err (fault TooDeep found.0.at)) h
  within-fails (suc room) tokens e h =
      fails_on {B = RuleTree × List Token} e (name_of text last tokens)
      (λ found. behind_rule text (derivation_within text last room) found.0.rule found.1) h

  pub within-no_room : (room : ℕ) (tokens rest : List Token) (found : PlacedRule) → room ≡ 0 → name_of text last tokens
      ≡ Ok (found, rest) →
      derivation_within text last room tokens ≡ Err (fault TooDeep found.at)
  unfolding derivation_within
  within-no_room zero tokens rest found h e = ap (λ r. r >>= λ found. Err (fault TooDeep found.0.at)) e
  within-no_room (suc room) tokens rest found h e = absurd (omega arith)

  pub within-room : (room : ℕ) (tokens rest : List Token) (found : PlacedRule) → 0 < room → name_of text last tokens
      ≡ Ok (found, rest) →
      derivation_within text last room tokens ≡ behind_rule text (derivation_within text last (room - 1)) found.rule
      rest
  unfolding derivation_within
  within-room zero tokens rest found h e = absurd (omega arith)
  within-room (suc room) tokens rest found h e =
      let n : room ≡ suc room - 1 = omega arith in
      ap (λ r. r >>= λ found. behind_rule text (derivation_within text last room) found.0.rule found.1) e
      ∙ ap (λ n. behind_rule text (derivation_within text last n) found.rule rest) n
