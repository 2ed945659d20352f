-- A printed property is read as itself.
use Rattle.std.proofs.Common.{◌≡◌, true, false, ℕ, ◌+◌, ◌≤◌, List, [], ◌∷◌, ◌++◌, Option, Some, Ok, refl, ◌∙◌, ap}
use Rattle.std.proofs.Common.{arith}
use Rattle.std.specs.Prelude.{codes, ⊤}
use Rattle.vir_term.specs.declared.prop.Prop.{Prop}
use Rattle.vir_term.specs.declared.prop.Prop.TheVariants.{Ne, Ea, El, Defers, Rejects, Elim, Nb, Decr, Dli, Imono}
use Rattle.vir_term.specs.declared.prop.Prop.TheVariants.{Dimono, Dmono, Mono, Cc, Dcc, Cprog, Ccomp, Neut}
use Rattle.vir_term.specs.Limits.{IsCount}
use Rattle.vir_read.specs.declared.token.Token.{Token}
use Rattle.vir_read.specs.Faults.{◌>>=◌}
use Rattle.vir_read.specs.RawTrees.{RawTree, RawTrees, none, more}
use Rattle.vir_read.specs.Grammar.{tree_of, unclosed_limit}
use Rattle.vir_read.specs.Spelling.{IsWord, IsNumber}
use Rattle.vir_read.specs.Pieces.{Piece, name, digits, SayAll, OpensNothing, pieces_of}
use Rattle.vir_read.proofs.RoundTripTrees.{readable-word, readable-number, readable-of}
use Rattle.vir_read.proofs.RoundTripTokens.{AreApart, pieces_text, apart-of, apart-number}
use Rattle.vir_read.proofs.RoundTripTyping.{count_of-number}
use Rattle.vir_rules.specs.declared.prop_name.Counted.{Counted}
use Rattle.vir_rules.specs.declared.prop_name.Counted.TheVariants as counted'
use Rattle.vir_rules.specs.declared.prop_name.PropName.{PropName}
use Rattle.vir_rules.specs.declared.prop_name.PropName.TheVariants.{Alone, WithNumber}
use Rattle.vir_rules.specs.Named.{IsPropInRange, counted_prop, prop_named}
use Rattle.vir_rules.specs.Props.{prop_text}
use Rattle.vir_cert.specs.declared.version.Version.{Version}
use Rattle.vir_cert.specs.declared.version.Version.TheVariants.{One, Two}
use Rattle.vir_cert.specs.Versions.{is_new_prop, known_prop, knows}
use Rattle.vir_cert.specs.Certs.{no_names}
use Rattle.vir_cert.specs.Properties.{prop_of, prop_then}

abbrev pub prop_pieces : Prop → List Piece
prop_pieces Ne = name (codes "ne") ∷ []
prop_pieces Ea = name (codes "ea") ∷ []
prop_pieces El = name (codes "el") ∷ []
prop_pieces (Defers k) = pieces_of (codes "defers") (digits k ∷ [])
prop_pieces (Rejects k) = pieces_of (codes "rejects") (digits k ∷ [])
prop_pieces (Elim k) = pieces_of (codes "elim") (digits k ∷ [])
prop_pieces Nb = name (codes "nb") ∷ []
prop_pieces Decr = name (codes "decr") ∷ []
prop_pieces Dli = name (codes "dli") ∷ []
prop_pieces Imono = name (codes "imono") ∷ []
prop_pieces Dimono = name (codes "dimono") ∷ []
prop_pieces Dmono = name (codes "dmono") ∷ []
prop_pieces Mono = name (codes "mono") ∷ []
prop_pieces Cc = name (codes "cc") ∷ []
prop_pieces Dcc = name (codes "dcc") ∷ []
prop_pieces Cprog = name (codes "cprog") ∷ []
prop_pieces Ccomp = name (codes "ccomp") ∷ []
prop_pieces Neut = name (codes "neut") ∷ []

pub text-prop : (p : Prop) → prop_text p ≡ pieces_text (prop_pieces p)
text-prop Ne = refl
text-prop Ea = refl
text-prop El = refl
text-prop (Defers k) = refl
text-prop (Rejects k) = refl
text-prop (Elim k) = refl
text-prop Nb = refl
text-prop Decr = refl
text-prop Dli = refl
text-prop Imono = refl
text-prop Dimono = refl
text-prop Dmono = refl
text-prop Mono = refl
text-prop Cc = refl
text-prop Dcc = refl
text-prop Cprog = refl
text-prop Ccomp = refl
text-prop Neut = refl

pub apart-prop : (p : Prop) → IsPropInRange p → AreApart (prop_pieces p)
apart-prop Ne r = ((refl, refl), tt, tt)
apart-prop Ea r = ((refl, refl), tt, tt)
apart-prop El r = ((refl, refl), tt, tt)
apart-prop (Defers k) r = apart-of (codes "defers") (digits k ∷ []) (refl, refl) (apart-number k r.few)
apart-prop (Rejects k) r = apart-of (codes "rejects") (digits k ∷ []) (refl, refl) (apart-number k r.few)
apart-prop (Elim k) r = apart-of (codes "elim") (digits k ∷ []) (refl, refl) (apart-number k r.few)
apart-prop Nb r = ((refl, refl), tt, tt)
apart-prop Decr r = ((refl, refl), tt, tt)
apart-prop Dli r = ((refl, refl), tt, tt)
apart-prop Imono r = ((refl, refl), tt, tt)
apart-prop Dimono r = ((refl, refl), tt, tt)
apart-prop Dmono r = ((refl, refl), tt, tt)
apart-prop Mono r = ((refl, refl), tt, tt)
apart-prop Cc r = ((refl, refl), tt, tt)
apart-prop Dcc r = ((refl, refl), tt, tt)
apart-prop Cprog r = ((refl, refl), tt, tt)
apart-prop Ccomp r = ((refl, refl), tt, tt)
apart-prop Neut r = ((refl, refl), tt, tt)

-- ---- versions

-- a version has a property
abbrev pub PropFits : Version → Prop → Type 0
PropFits One p = is_new_prop p ≡ false
PropFits Two p = ⊤

knows_alone : (version : Version) (p : Prop) → PropFits version p → knows version (Alone p) ≡ true
knows_alone One p f = rw f refl
knows_alone Two p f = refl

knows_counted : (version : Version) (c : Counted) → knows version (WithNumber c) ≡ true
knows_counted One c = refl
knows_counted Two c = refl

known_some : (version : Version) (found : Option PropName) (n : PropName) → found ≡ Some n → knows version n ≡ true
    → known_prop version found ≡ Some n
known_some version found n e k = ap (known_prop version) e ∙ rw k refl

module _ (version : Version) (text : List ℕ) where
  -- these tokens begin a tree that stands for this property, and those are behind it
  pub record IsPropRead (p : Prop) (tokens rest : List Token) : Type 0 where
    pub raw : RawTree
    pub read : tree_of text tokens ≡ Ok (raw, rest)
    pub meant : prop_of version text raw ≡ Ok p

  prop-word : (w : List ℕ) (parts : RawTrees) (raw : RawTree) (is : IsWord text w parts raw) → prop_of version text raw
      ≡ prop_then text is.start parts (known_prop version (prop_named w))
  prop-word w parts raw is = ap (prop_of version text) is.shape
      ∙ ap (λ n. prop_then text is.start parts (known_prop version (prop_named n))) is.written

  read-alone : (w : List ℕ) (p : Prop) → prop_named w ≡ Some (Alone p) → knows version (Alone p) ≡ true
      → (tokens : List Token) → SayAll text (name w ∷ []) tokens → (rest : List Token) → OpensNothing text rest →
      IsPropRead p (tokens ++ rest) rest
  read-alone w p named known tokens says rest opens_nothing =
      let found = readable-word text w 0 unclosed_limit tokens (omega arith) says rest opens_nothing in
      record {
        raw = found.0;
        read = found.2;
        meant = prop-word w none found.0 found.1
            ∙ ap (prop_then text found.1.start none) (known_some version (prop_named w) (Alone p) named known);
      }

  read-counted : (w : List ℕ) (c : Counted) (k : ℕ) → prop_named w ≡ Some (WithNumber c) → knows version (WithNumber c)
      ≡ true → IsCount k → (tokens : List Token) → SayAll text (pieces_of w (digits k ∷ [])) tokens →
      (rest : List Token) → OpensNothing text rest → IsPropRead (counted_prop c k) (tokens ++ rest) rest
  read-counted w c k named known is tokens says rest opens_nothing =
      let enough : 0 + 1 ≤ unclosed_limit = omega arith in
      let found = readable-of text w (digits k ∷ []) 0 (IsNumber text k) (readable-number text k 0) unclosed_limit
      tokens enough says rest opens_nothing in
      record {
        raw = found.0;
        read = found.2;
        meant =
            prop-word w (more found.1.0 none) found.0 found.1.1
            ∙ ap (prop_then text found.1.1.start (more found.1.0 none)) (known_some version (prop_named w)
            (WithNumber c) named known)
            ∙ ap (λ r. r >>= λ k. Ok (counted_prop c k)) (count_of-number text no_names found.1.0 k found.1.2 is);
      }

  pub read-prop : (p : Prop) → IsPropInRange p → PropFits version p → (tokens : List Token)
      → SayAll text (prop_pieces p) tokens → (rest : List Token) → OpensNothing text rest
      → IsPropRead p (tokens ++ rest) rest
  read-prop Ne r f = read-alone (codes "ne") Ne refl (knows_alone version Ne f)
  read-prop Ea r f = read-alone (codes "ea") Ea refl (knows_alone version Ea f)
  read-prop El r f = read-alone (codes "el") El refl (knows_alone version El f)
  read-prop (Defers k) r f = read-counted (codes "defers") counted'.Defers k refl
      (knows_counted version counted'.Defers) r
  read-prop (Rejects k) r f = read-counted (codes "rejects") counted'.Rejects k refl
      (knows_counted version counted'.Rejects) r
  read-prop (Elim k) r f = read-counted (codes "elim") counted'.Elim k refl (knows_counted version counted'.Elim) r
  read-prop Nb r f = read-alone (codes "nb") Nb refl (knows_alone version Nb f)
  read-prop Decr r f = read-alone (codes "decr") Decr refl (knows_alone version Decr f)
  read-prop Dli r f = read-alone (codes "dli") Dli refl (knows_alone version Dli f)
  read-prop Imono r f = read-alone (codes "imono") Imono refl (knows_alone version Imono f)
  read-prop Dimono r f = read-alone (codes "dimono") Dimono refl (knows_alone version Dimono f)
  read-prop Dmono r f = read-alone (codes "dmono") Dmono refl (knows_alone version Dmono f)
  read-prop Mono r f = read-alone (codes "mono") Mono refl (knows_alone version Mono f)
  read-prop Cc r f = read-alone (codes "cc") Cc refl (knows_alone version Cc f)
  read-prop Dcc r f = read-alone (codes "dcc") Dcc refl (knows_alone version Dcc f)
  read-prop Cprog r f = read-alone (codes "cprog") Cprog refl (knows_alone version Cprog f)
  read-prop Ccomp r f = read-alone (codes "ccomp") Ccomp refl (knows_alone version Ccomp f)
  read-prop Neut r f = read-alone (codes "neut") Neut refl (knows_alone version Neut f)
