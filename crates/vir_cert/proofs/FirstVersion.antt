-- What the reader of one version accepted is read as the same certificate.
use Rattle.std.proofs.Common.{◌≡◌, ℕ, Bool, true, false, ◌&&◌, not, List, [], ◌∷◌, length, Option, Some, None, Ok, Err}
use Rattle.std.proofs.Common.{nat_lt, if◌then◌else◌, refl, sym, ◌∙◌, ap}
use Rattle.std.specs.Prelude.{codes, ⊤}
use Rattle.vir_term.specs.declared.prop.Prop.{Prop}
use Rattle.vir_term.specs.Tree.{Tree}
use Rattle.vir_read.specs.declared.token.Token.{Token}
use Rattle.vir_read.specs.declared.text_fault.TextFault.{TextFault}
use Rattle.vir_read.specs.declared.text_fault.TextKind.TheVariants.{TextTooLong, BadHeader}
use Rattle.vir_read.specs.Faults.{OrFault, ◌>>=◌, fault}
use Rattle.vir_read.specs.Tokens.{tokens_of}
use Rattle.vir_read.specs.RawTrees.{RawTree, word, number, bracket}
use Rattle.vir_read.specs.Grammar.{Read, tree_of}
use Rattle.vir_read.specs.Arguments.{span}
use Rattle.vir_read.specs.Typing.{first_place, check_size}
use Rattle.vir_read.proofs.LimitLemmas.{bind_ok}
use Rattle.vir_rules.specs.declared.prop_name.PropName.{PropName}
use Rattle.vir_rules.specs.Named.{prop_named}
use Rattle.vir_cert.specs.declared.version.Version.{Version}
use Rattle.vir_cert.specs.declared.version.Version.TheVariants.{One, Two}
use Rattle.vir_cert.specs.Versions.{is_new_name, known_prop}
use Rattle.vir_cert.specs.Properties.{prop_of, prop_then}
use Rattle.vir_cert.specs.Certs.{Cert, is_written, header_of, label_of, no_names, term_part, prop_part, derivation_part}
use Rattle.vir_cert.specs.Certs.{parts_of, cert_of}
use Rattle.vir_cert.specs.FirstReader.{first_typed, first_header_of, first_term_part, without_new, first_prop_of}
use Rattle.vir_cert.specs.FirstReader.{first_prop_part, first_derivation_part, first_parts_of, first_cert_of}
use Rattle.vir_cert.proofs.Alike.{accepted_alike}

header_by : (a b c : Bool) (rest : List Token) (x : ⊤ × List Token)
    → (let p : Read ⊤ = Ok (tt, rest) in (if a && b then p else Err (fault BadHeader 0)) ≡ Ok x) →
    (let p : Read Version = Ok (One, rest) in let q : Read Version = Ok (Two, rest)
    in (if a then (if b then p else (if c then q else Err (fault BadHeader 0))) else Err (fault BadHeader 0))
    ≡ Ok (One, x.1))
header_by true true c rest x h = ap (λ r. r >>= λ (y : ⊤ × List Token). Ok (One, y.1)) h
header_by true false c rest x h = cc
header_by false b c rest x h = cc

header_same : (text : List ℕ) (tokens : List Token) (x : ⊤ × List Token) → first_header_of text tokens ≡ Ok x
    → header_of text tokens ≡ Ok (One, x.1)
header_same text [] x h = cc
header_same text (name ∷ []) x h = cc
header_same text (name ∷ version ∷ rest) x h =
    header_by (is_written text name (codes "virage-certificate")) (is_written text version (codes "1"))
    (is_written text version (codes "2")) rest x h

nobody : (name : List ℕ) → no_names name ≡ None
nobody name = refl

term_same : (text : List ℕ) (tokens : List Token) (x : Tree × List Token) → first_term_part text tokens ≡ Ok x
    → term_part One text tokens ≡ Ok x
term_same text tokens x h =
    let l = bind_ok (label_of text (codes "term") tokens) _ x h in
    let t = bind_ok (tree_of text l.0.1) _ x l.2 in
    let k = bind_ok (first_typed text no_names t.0.0 1 >>= check_size (first_place t.0.0)) (λ term. Ok (term, t.0.1)) x
    t.2
    in
    let s = bind_ok (first_typed text no_names t.0.0 1) (check_size (first_place t.0.0)) k.0 k.1 in
    let a = accepted_alike text no_names nobody t.0.0 1 s.0 s.1 in
    rw (l.1, t.1, a.0, a.1, s.2) k.2

known_same : (found : Option PropName) → without_new found ≡ known_prop One found
known_same None = refl
known_same (Some name) = split (is_new_name name) where
  split : (b : Bool) → (if b then None else Some name) ≡ (if not b then Some name else None)
  split true = refl
  split false = refl

prop_of_same : (text : List ℕ) (raw : RawTree) → first_prop_of text raw ≡ prop_of One text raw
prop_of_same text (word start end parts) = ap (prop_then text start parts)
    (known_same (prop_named (span text start end)))
prop_of_same text (number start end) = refl
prop_of_same text (bracket start members) = refl

prop_same : (text : List ℕ) (tokens : List Token) (x : Prop × List Token) → first_prop_part text tokens ≡ Ok x
    → prop_part One text tokens ≡ Ok x
prop_same text tokens x h =
    let l = bind_ok (label_of text (codes "property") tokens) _ x h in
    let t = bind_ok (tree_of text l.0.1) _ x l.2 in
    let k = bind_ok (first_prop_of text t.0.0) (λ p. Ok (p, t.0.1)) x t.2 in
    let p : prop_of One text t.0.0 ≡ Ok k.0 = sym (prop_of_same text t.0.0) ∙ k.1 in
    rw (l.1, t.1, p) k.2

parts_same : (text : List ℕ) (tokens : List Token) (c : Cert) → first_parts_of text tokens ≡ Ok c → parts_of text tokens
    ≡ Ok c
parts_same text tokens c h =
    let b = bind_ok (first_header_of text tokens) _ c h in
    let t = bind_ok (first_term_part text b.0.1) _ c b.2 in
    let p = bind_ok (first_prop_part text t.0.1) _ c t.2 in
    let d = bind_ok (first_derivation_part text p.0.1) _ c p.2 in
    let derivation : derivation_part One text p.0.1 ≡ Ok d.0 = d.1 in
    rw (header_same text tokens b.0 b.1, term_same text b.0.1 t.0 t.1, prop_same text t.0.1 p.0 p.1, derivation) d.2

whole_same : (long : Bool) (e : TextFault) (r s : OrFault Cert) (c : Cert) → (r ≡ Ok c → s ≡ Ok c)
    → (if long then Err e else r) ≡ Ok c → (if long then Err e else s) ≡ Ok c
whole_same true e r s c f h = h
whole_same false e r s c f h = f h

pub first_is_read : (text : List ℕ) (c : Cert) → first_cert_of text ≡ Ok c → cert_of text ≡ Ok c
first_is_read text c h = whole_same (nat_lt 16777216 (length text)) (fault TextTooLong 16777216) (tokens_of text
    >>= first_parts_of text) (tokens_of text >>= parts_of text) c inside h where
      inside : (tokens_of text >>= first_parts_of text) ≡ Ok c → (tokens_of text >>= parts_of text) ≡ Ok c
      inside h = let t = bind_ok (tokens_of text) (first_parts_of text) c h in ap (λ r. r >>= parts_of text) t.1
          ∙ parts_same text t.0 c t.2
