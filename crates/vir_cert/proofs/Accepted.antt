-- What is read is a certificate: within the limits, of rules that there are.
use Rattle.std.proofs.Common.{◌≡◌, ℕ, zero, suc, ◌≤◌, Bool, true, false, List, [], ◌∷◌, length, drop}
use Rattle.std.proofs.Common.{Option, Some, None, Ok, nat_le, nat_lt, if◌then◌else◌, refl, ap, subst}
use Rattle.std.proofs.Common.{arith}
use Rattle.std.specs.Prelude.{codes}
use Rattle.std.proofs.lemmas.Bool.Decides.{nat_tests}
use Rattle.vir_term.specs.declared.prop.Prop.{Prop}
use Rattle.vir_term.specs.Limits.{IsCount, IsWithinLimits}
use Rattle.vir_term.specs.Tree.{Tree}
use Rattle.vir_read.specs.declared.token.Token.{Token}
use Rattle.vir_read.specs.declared.symbol.Symbol.TheVariants.{Word, CloseParenthesis}
use Rattle.vir_read.specs.Faults.{◌>>=◌}
use Rattle.vir_read.specs.Tokens.{tokens_of}
use Rattle.vir_read.specs.RawTrees.{RawTree, RawTrees, word, number, bracket, none as no_raws, more as more_raws}
use Rattle.vir_read.specs.Grammar.{Read, symbol_of, unexpected, tree_of, separator_of, goes_on}
use Rattle.vir_read.specs.Arguments.{AreWithinLimits, span, count_of}
use Rattle.vir_read.specs.Typing.{term_of, first_place}
use Rattle.vir_read.proofs.LimitLemmas.{bind_ok, ok_ok, guard_else, count_of_ok, term_of_within}
use Rattle.vir_rules.specs.declared.rule_id.TheConstants.RuleId.{COUNT}
use Rattle.vir_rules.specs.declared.prop_name.Counted.{Counted}
use Rattle.vir_rules.specs.declared.prop_name.Counted.TheVariants as counted'
use Rattle.vir_rules.specs.declared.prop_name.PropName.{PropName}
use Rattle.vir_rules.specs.declared.prop_name.PropName.TheVariants.{Alone, WithNumber}
use Rattle.vir_rules.specs.Named.{IsPropInRange, counted_prop, prop_named, rule_named}
use Rattle.vir_rules.specs.RuleTrees.{IsRule, AreRules, AllAreRules, RuleTree, RuleTrees, node, none, more, gathered}
use Rattle.vir_rules.specs.RuleTrees.{nesting, nesting_of_all}
use Rattle.vir_rules.proofs.ByName.{named_within}
use Rattle.vir_rules.proofs.PropTexts.{named_alone}
use Rattle.vir_read.specs.declared.tree_reader.Separator.{Separator}
use Rattle.vir_read.specs.declared.tree_reader.Separator.TheVariants as separator
use Rattle.vir_cert.specs.Derivations.{PlacedRule, Reads, up_to, known_rule, name_of}
use Rattle.vir_cert.specs.Derivations.{children, opens, behind_rule, derivation_within, derivation_of}
use Rattle.vir_cert.specs.Properties.{prop_alone, prop_of_number, prop_then, prop_of}
use Rattle.vir_cert.specs.declared.version.Version.{Version}
use Rattle.vir_cert.specs.declared.version.Version.TheVariants.{One, Two}
use Rattle.vir_cert.specs.Versions.{known_prop, known_words, knows, last_rule}
use Rattle.vir_cert.specs.Certs.{Cert, no_names, header_of, label_of, term_part, prop_part, derivation_part, end_of}
use Rattle.vir_cert.specs.Certs.{parts_of, cert_of}
use Rattle.vir_cert.specs.Texts.{IsCert}

-- ---- derivations

unexpected_ok : {A : Type 0} (text : List ℕ) (tokens : List Token) (x : A × List Token) → unexpected {A = A} text tokens
    ≡ Ok x → ⊥
unexpected_ok text [] x h = cc
unexpected_ok text (t ∷ rest) x h = cc

at_most : (rule last : ℕ) → nat_le rule last ≡ true → rule ≤ last
at_most rule last h = grind (arith, nat_tests)

module _ (text : List ℕ) (last : ℕ) where
  up_to_ok : (w : List ℕ) (found : Option ℕ) (rule : ℕ) → rule_named w ≡ found → up_to last found ≡ Some rule
      → IsRule last rule
  up_to_ok w None rule e h = cc
  up_to_ok w (Some r) rule e h = split (nat_le r last) refl h where
    split : (b : Bool) → nat_le r last ≡ b → (if b then Some r else None) ≡ Some rule → IsRule last rule
    split true fits is =
        let same : r ≡ rule = cc in
        (omega (arith, (named_within w r e).0, same), omega (arith, at_most r last fits, same))
    split false fits is = cc

  known_rule_ok : (w : List ℕ) (at : ℕ) (rest : List Token) (found : Option ℕ) (x : PlacedRule × List Token)
      → up_to last (rule_named w) ≡ found → known_rule at rest found ≡ Ok x → IsRule last x.0.rule
  known_rule_ok w at rest None x e h = cc
  known_rule_ok w at rest (Some rule) x e h =
      let same : rule ≡ x.0.rule = ap (λ (y : PlacedRule × List Token). y.0.rule)
      (ok_ok (record { rule = rule; at = at }, rest) x h) in
      subst (IsRule last) same (up_to_ok w (rule_named w) rule refl e)

  name_ok : (tokens : List Token) (x : PlacedRule × List Token) → name_of text last tokens ≡ Ok x → IsRule last x.0.rule
  name_ok tokens x h =
      let w = bind_ok (symbol_of text Word tokens) _ x h in
      let name = span text w.0.0.start w.0.0.end in
      known_rule_ok name w.0.0.start w.0.1 (up_to last (rule_named name)) x refl w.2

  -- a derivation of such rules, of at most this nesting
  abbrev IsGood : ℕ → RuleTree → Type 0
  IsGood room d = AreRules last d × (nesting d ≤ room)

  abbrev AreGood : ℕ → RuleTrees → Type 0
  AreGood room trees = AllAreRules last trees × (nesting_of_all trees ≤ room)

  -- what is so read is such
  abbrev ReadsGood : ℕ → Reads → Type 0
  ReadsGood room reads = (tokens : List Token) (x : RuleTree × List Token) → reads tokens ≡ Ok x → IsGood room x.0

  good_one : (room : ℕ) (d : RuleTree) → IsGood room d → AreGood room (gathered (d ∷ []))
  good_one room d g = ((g.0, tt), omega (arith, g.1))

  good_more : (room : ℕ) (d : RuleTree) (trees : List RuleTree) → IsGood room d → AreGood room (gathered trees)
      → AreGood room (gathered (d ∷ trees))
  good_more room d trees g k = ((g.0, k.0), omega (arith, g.1, k.1))

  goes_on_ok : (room : ℕ) (first : RuleTree) (further : List Token → Read (List RuleTree)) (rest : List Token)
      (s : Separator) (x : List RuleTree × List Token) →
      IsGood room first → ((y : List RuleTree × List Token) → further rest ≡ Ok y → AreGood room (gathered y.0))
      → goes_on first further rest s ≡ Ok x → AreGood room (gathered x.0)
  goes_on_ok room first further rest separator.Comma x g k h =
      let b = bind_ok (further rest) (λ others. Ok (first ∷ others.0, others.1)) x h in
      let same : first ∷ b.0.0 ≡ x.0 = ap (λ (y : List RuleTree × List Token). y.0) (ok_ok (first ∷ b.0.0, b.0.1) x b.2)
      in
      subst (λ trees. AreGood room (gathered trees)) same (good_more room first b.0.0 g (k b.0 b.1))
  goes_on_ok room first further rest separator.Close x g k h =
      let same : first ∷ [] ≡ x.0 = ap (λ (y : List RuleTree × List Token). y.0) (ok_ok (first ∷ [], rest) x h) in
      subst (λ trees. AreGood room (gathered trees)) same (good_one room first g)

  children_ok : (room : ℕ) (reads : Reads) → ReadsGood room reads → (most : ℕ) (tokens : List Token) (x : List RuleTree
      × List Token) → children text reads most tokens ≡ Ok x → AreGood room (gathered x.0)
  children_ok room reads good zero tokens x h = absurd (unexpected_ok text tokens x h)
  children_ok room reads good (suc most) tokens x h =
      let b = bind_ok (reads tokens) (λ first. separator_of text CloseParenthesis first.1 >>= λ s.
      goes_on first.0 (children text reads most) s.1 s.0) x h in
      let others = children text reads most in
      let s = bind_ok (separator_of text CloseParenthesis b.0.1) (λ s. goes_on b.0.0 others s.1 s.0) x b.2 in
      goes_on_ok room b.0.0 (children text reads most) s.0.1 s.0.0 x (good tokens b.0 b.1)
      (λ y k. children_ok room reads good most s.0.1 y k) s.2

  behind_then_ok : (room : ℕ) (reads : Reads) (rule : ℕ) (tokens : List Token) (x : RuleTree × List Token) (b : Bool)
      → ReadsGood room reads → IsRule last rule →
      (if b then (children text reads (length (drop 1 tokens)) (drop 1 tokens) >>= λ found.
      Ok (node rule (gathered found.0), found.1)) else Ok (node rule none, tokens)) ≡ Ok x → IsGood (suc room) x.0
  behind_then_ok room reads rule tokens x true good is h =
      let b = bind_ok (children text reads (length (drop 1 tokens)) (drop 1 tokens))
      (λ found. Ok (node rule (gathered found.0), found.1)) x h in
      let k = children_ok room reads good (length (drop 1 tokens)) (drop 1 tokens) b.0 b.1 in
      let same : node rule (gathered b.0.0) ≡ x.0 = ap (λ (y : RuleTree × List Token). y.0)
      (ok_ok (node rule (gathered b.0.0), b.0.1) x b.2) in
      let g : IsGood (suc room) (node rule (gathered b.0.0)) = ((is, k.0), omega (arith, k.1)) in
      subst (IsGood (suc room)) same g
  behind_then_ok room reads rule tokens x false good is h =
      let same : node rule none ≡ x.0 = ap (λ (y : RuleTree × List Token). y.0) (ok_ok (node rule none, tokens) x h) in
      let g : IsGood (suc room) (node rule none) = ((is, tt), omega arith) in
      subst (IsGood (suc room)) same g

  derivation_ok : (room : ℕ) → ReadsGood room (derivation_within text last room)
  unfolding derivation_within
  derivation_ok zero tokens x h =
      let b = bind_ok {B = RuleTree × List Token} (name_of text last tokens) _ x h in
      cc
  derivation_ok (suc room) tokens x h =
      let b = bind_ok (name_of text last tokens) (λ found. behind_rule text (derivation_within text last room)
      found.0.rule found.1) x h in
      behind_then_ok room (derivation_within text last room) b.0.0.rule b.0.1 x (opens text b.0.1) (derivation_ok room)
      (name_ok tokens b.0 b.1) b.2

-- ---- properties

counted_in_range : (c : Counted) (k : ℕ) → IsCount k → IsPropInRange (counted_prop c k)
counted_in_range counted'.Defers k h = h
counted_in_range counted'.Rejects k h = h
counted_in_range counted'.Elim k h = h

alone_ok : (at : ℕ) (q p : Prop) (parts : RawTrees) → IsPropInRange q → prop_alone at q parts ≡ Ok p → IsPropInRange p
alone_ok at q p no_raws r h = subst IsPropInRange (ok_ok q p h) r
alone_ok at q p (more_raws _ _) r h = cc

counted_ok : (text : List ℕ) (at : ℕ) (c : Counted) (parts : RawTrees) (p : Prop) → prop_of_number text at c parts
    ≡ Ok p → IsPropInRange p
counted_ok text at c no_raws p h = cc
counted_ok text at c (more_raws k no_raws) p h =
    let b = bind_ok (count_of text k) (λ k. Ok (counted_prop c k)) p h in
    subst IsPropInRange (ok_ok (counted_prop c b.0) p b.2) (counted_in_range c b.0 (count_of_ok text k b.0 b.1))
counted_ok text at c (more_raws k (more_raws _ _)) p h = cc

some_of : {A : Type 0} (b : Bool) (m n : A) → (if b then Some m else None) ≡ Some n → Some m ≡ Some n
some_of true m n h = h
some_of false m n h = cc

known_ok : (version : Version) (found : Option PropName) (n : PropName) → known_prop version found ≡ Some n → found
    ≡ Some n
known_ok version None n h = cc
known_ok version (Some m) n h = some_of (knows version m) m n h

prop_then_ok : (version : Version) (text w : List ℕ) (at : ℕ) (parts : RawTrees) (found : Option PropName) (p : Prop)
    → known_prop version (prop_named w) ≡ found → prop_then text at parts found ≡ Ok p → IsPropInRange p
prop_then_ok version text w at parts None p e h = cc
prop_then_ok version text w at parts (Some (Alone q)) p e h = alone_ok at q p parts
    (named_alone w q (known_ok version (prop_named w) (Alone q) e)).1 h
prop_then_ok version text w at parts (Some (WithNumber c)) p e h = counted_ok text at c parts p h

pub prop_ok : (version : Version) (text : List ℕ) (raw : RawTree) (p : Prop) → prop_of version text raw ≡ Ok p
    → IsPropInRange p
prop_ok version text (word start end parts) p h = prop_then_ok version text (span text start end) start parts
    (known_prop version (prop_named (span text start end))) p refl h
prop_ok version text (number start end) p h = cc
prop_ok version text (bracket start members) p h = cc

-- ---- certificates

nobody : AreWithinLimits no_names
nobody name t h = cc

term_part_ok : (version : Version) (text : List ℕ) (tokens : List Token) (x : Tree × List Token)
    → term_part version text tokens ≡ Ok x → IsWithinLimits x.0
term_part_ok version text tokens x h =
    let l = bind_ok (label_of text (codes "term") tokens) _ x h in
    let t = bind_ok (tree_of text l.0.1) _ x l.2 in
    let u = bind_ok (known_words version text t.0.0) _ x t.2 in
    let k = bind_ok (term_of text no_names (first_place t.0.0) t.0.0) (λ term. Ok (term, t.0.1)) x u.2 in
    let same : k.0 ≡ x.0 = ap (λ (y : Tree × List Token). y.0) (ok_ok (k.0, t.0.1) x k.2) in
    subst IsWithinLimits same (term_of_within text no_names nobody (first_place t.0.0) t.0.0 k.0 k.1)

prop_part_ok : (version : Version) (text : List ℕ) (tokens : List Token) (x : Prop × List Token)
    → prop_part version text tokens ≡ Ok x → IsPropInRange x.0
prop_part_ok version text tokens x h =
    let l = bind_ok (label_of text (codes "property") tokens) _ x h in
    let t = bind_ok (tree_of text l.0.1) _ x l.2 in
    let k = bind_ok (prop_of version text t.0.0) (λ p. Ok (p, t.0.1)) x t.2 in
    let same : k.0 ≡ x.0 = ap (λ (y : Prop × List Token). y.0) (ok_ok (k.0, t.0.1) x k.2) in
    subst IsPropInRange same (prop_ok version text t.0.0 k.0 k.1)

last_within : (version : Version) → last_rule version ≤ COUNT
last_within One = omega arith
last_within Two = omega arith

mutual
  more_rules : (last : ℕ) (d : RuleTree) → last ≤ COUNT → AreRules last d → AreRules COUNT d
  more_rules last (node rule children) h r = ((r.0.0, omega (arith, r.0.1)), all_more_rules last children h r.1)

  all_more_rules : (last : ℕ) (ds : RuleTrees) → last ≤ COUNT → AllAreRules last ds → AllAreRules COUNT ds
  all_more_rules last none h r = tt
  all_more_rules last (more first rest) h r = (more_rules last first h r.0, all_more_rules last rest h r.1)

derivation_part_ok : (version : Version) (text : List ℕ) (tokens : List Token) (x : RuleTree × List Token)
    → derivation_part version text tokens ≡ Ok x → AreRules COUNT x.0 × (nesting x.0 ≤ 256)
derivation_part_ok version text tokens x h =
    let l = bind_ok (label_of text (codes "derivation") tokens) (λ label. derivation_of text (last_rule version)
    label.1) x h in
    let k = derivation_ok text (last_rule version) 256 l.0.1 x l.2 in
    (more_rules (last_rule version) x.0 (last_within version) k.0, k.1)

parts_ok : (text : List ℕ) (tokens : List Token) (c : Cert) → parts_of text tokens ≡ Ok c → IsCert c
parts_ok text tokens c h =
    let b = bind_ok (header_of text tokens) _ c h in
    let t = bind_ok (term_part b.0.0 text b.0.1) _ c b.2 in
    let p = bind_ok (prop_part b.0.0 text t.0.1) _ c t.2 in
    let d = bind_ok (derivation_part b.0.0 text p.0.1) _ c p.2 in
    let e = bind_ok (end_of d.0.1) (λ end. Ok (record { term = t.0.0; prop = p.0.0; derivation = d.0.0 })) c d.2 in
    let same = ok_ok (record { term = t.0.0; prop = p.0.0; derivation = d.0.0 }) c e.2 in
    let k = derivation_part_ok b.0.0 text p.0.1 d.0 d.1 in
    let is : IsCert (record { term = t.0.0; prop = p.0.0; derivation = d.0.0 }) = record {
      term = term_part_ok b.0.0 text b.0.1 t.0 t.1;
      prop = prop_part_ok b.0.0 text t.0.1 p.0 p.1;
      rules = k.0;
      flat = k.1;
    } in
    subst IsCert same is

pub accepted_is_cert : (text : List ℕ) (c : Cert) → cert_of text ≡ Ok c → IsCert c
accepted_is_cert text c h =
    let g = guard_else (nat_lt 16777216 (length text)) _ (tokens_of text >>= parts_of text) c h in
    let t = bind_ok (tokens_of text) (parts_of text) c g.1 in
    parts_ok text t.0 c t.2
