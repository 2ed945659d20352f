-- The name of an alternative in an accepted file is the last one that metadata gives it.
use Rattle.std.proofs.Common.{◌≡◌, ℕ, suc, ◌+◌, ◌<◌, Bool, true, false, cond, ◌&&◌, not, List, [], ◌∷◌, ◌++◌, length}
use Rattle.std.proofs.Common.{filter, map, Option, Some, None, Ok, nat_eq, nat_le, nat_lt, Less, Equal, Greater, refl}
use Rattle.std.proofs.Common.{ap, subst, sym, ◌∙◌, arith}
use Rattle.std.specs.List.{flat_map, last_or}
use Rattle.std.specs.Map.{lookup}
use Rattle.std.specs.Ordering.{match_ordering}
use Rattle.std.specs.Option.{ok_or}
use Rattle.std.proofs.lemmas.Bool.Decides.{nat_tests}
use Rattle.vir_profile.specs.declared.soc_file.Name.{Name}
use Rattle.vir_profile.specs.SocFiles.{File, name_of}
use Rattle.vir_soc.specs.declared.key.Key.{Key}
use Rattle.vir_soc.specs.declared.key.Key.TheVariants.{DataType, Alternatives, Voters, Orders, NameOf, Other}
use Rattle.vir_soc.specs.declared.kind.SocKind.TheVariants as kinds
use Rattle.vir_soc.specs.Accepted.{Metadatum, is_name_key, last_name, metadata_in, names_given, not_empty}
use Rattle.vir_soc.specs.Checks.{◌>>=◌, at_line, refuse}
use Rattle.vir_soc.specs.LineKinds.{LineKind, ballots, kinds_of, metadata, skipped}
use Rattle.vir_soc.specs.Lines.{lines}
use Rattle.vir_soc.specs.Metadata.{after_key, alternatives_stated, is_soc, number_stated}
use Rattle.vir_soc.specs.Names.{is_name, name_given, names_up_to, with_name}
use Rattle.vir_soc.specs.Reader.Given.{AreGiven}
use Rattle.vir_soc.specs.Content.{Content, nothing}
use Rattle.vir_soc.specs.Soc.{after_line, after_lines, soc}
use Rattle.vir_soc.specs.Votes.{with_votes}
use Rattle.vir_soc.proofs.ChainLemmas.{bound, went_well}
use Rattle.vir_soc.proofs.FileLemmas.{soc-ok}
use Rattle.vir_soc.proofs.NameLemmas.{AreGiven-with_name, Given}

-- ---- look-ups

-- what is given to x
abbrev text_at : ℕ → Given → Option (List ℕ)
text_at x given = lookup (nat_eq x) given

abbrev no_name : Option (List ℕ)
no_name = None

-- any text
abbrev Any : List ℕ → Type 0
Any text = Unit {0}

name_of-apart : (x : ℕ) (n : Name) (ns : List Name) → nat_eq n.number x ≡ false → name_of x (n ∷ ns) ≡ name_of x ns
name_of-apart x n ns h = rw h refl

module _ (x i : ℕ) (text : List ℕ) where
  -- this text where x is i, and else what it was before
  abbrev changed : Option (List ℕ) → Option (List ℕ)
  changed before = cond (nat_eq x i) (Some text) before

  placed : (below same : Bool) (e : ℕ × List ℕ) (es : Given) → nat_lt i e.0 ≡ below → nat_eq i e.0 ≡ same
      → text_at x (with_name i text es) ≡ changed (text_at x es)
      → text_at x (match_ordering (cond below Less (cond same Equal Greater)) ((i, text) ∷ e ∷ es) ((e.0, text) ∷ es)
      (e ∷ with_name i text es)) ≡ changed (text_at x (e ∷ es))
  placed true same e es b s r = refl
  placed false true e es b s r =
      let is : e.0 ≡ i = grind (arith, nat_tests) in
      rw is (elim (nat_eq x i) as (λ c. cond c (Some text) (text_at x es)
      ≡ cond c (Some text) (cond c (Some e.1) (text_at x es))) [ true ↦ refl | false ↦ refl ])
  placed false false e es b s r = behind (nat_eq x e.0) (nat_eq x i) refl refl where
    behind : (p q : Bool) → nat_eq x e.0 ≡ p → nat_eq x i ≡ q → cond p (Some e.1) (text_at x (with_name i text es))
        ≡ cond q (Some text) (cond p (Some e.1) (text_at x es))
    behind true true k l = absurd (grind (arith, nat_tests))
    behind true false k l = refl
    behind false q k l = r ∙ ap (λ c. cond c (Some text) (text_at x es)) l

  text_at-with_name : (es : Given) → text_at x (with_name i text es) ≡ changed (text_at x es)
  text_at-with_name [] = refl
  text_at-with_name (e ∷ es) = placed (nat_lt i e.0) (nat_eq i e.0) e es refl refl (text_at-with_name es)

module _ (x m : ℕ) where
  -- the name of x, where it is one of m alternatives
  abbrev within : Option (List ℕ) → Option (List ℕ)
  within name = cond (nat_le x m) name None

  -- a lesser number is that of no name
  unnamed : (low : ℕ) (es : Given) → x < low → AreGiven Any low es → name_of x (names_up_to m es) ≡ None
  unnamed low [] l h = refl
  unnamed low (e ∷ es) l h =
      let first = h.0 in
      let apart : nat_eq e.0 x ≡ false = grind (arith, nat_tests) in
      let rest = unnamed (suc e.0) es (omega arith) h.2 in
      elim (is_name m e) as
      (λ b. name_of x (map name_given (cond b (e ∷ filter (is_name m) es) (filter (is_name m) es))) ≡ None) [
        | true ↦ name_of-apart x (name_given e) (names_up_to m es) apart ∙ rest
        | false ↦ rest
      ]

  named : (few some same : Bool) (e : ℕ × List ℕ) (es : Given) → nat_le e.0 m ≡ few → nat_lt 0 (length e.1) ≡ some
      → nat_eq x e.0 ≡ same → AreGiven Any (suc e.0) es → name_of x (names_up_to m es)
      ≡ within (not_empty (text_at x es))
      → name_of x (map name_given (cond (few && some) (e ∷ filter (is_name m) es) (filter (is_name m) es)))
      ≡ within (not_empty (cond same (Some e.1) (text_at x es)))
  named true true true e es f s k h r =
      let here : nat_eq e.0 x ≡ true = grind (arith, nat_tests) in
      let t : nat_le x m ≡ true = grind (arith, nat_tests) in
      let l : nat_eq (length e.1) 0 ≡ false = grind (arith, nat_tests) in
      rw (here, t, l) refl
  named true false true e es f s k h r =
      let below : x < suc e.0 = grind (arith, nat_tests) in
      let l : nat_eq (length e.1) 0 ≡ true = grind (arith, nat_tests) in
      unnamed (suc e.0) es below h ∙ rw l (elim (nat_le x m) as (λ b. no_name ≡ cond b no_name no_name)
      [ true ↦ refl | false ↦ refl ])
  named false some true e es f s k h r =
      let below : x < suc e.0 = grind (arith, nat_tests) in
      let t : nat_le x m ≡ false = grind (arith, nat_tests) in
      unnamed (suc e.0) es below h ∙ rw t refl
  named true true false e es f s k h r = let apart : nat_eq e.0 x ≡ false = grind (arith, nat_tests)
      in name_of-apart x (name_given e) (names_up_to m es) apart ∙ r
  named true false false e es f s k h r = r
  named false some false e es f s k h r = r

  name_of-up_to : (low : ℕ) (es : Given) → AreGiven Any low es → name_of x (names_up_to m es)
      ≡ within (not_empty (text_at x es))
  name_of-up_to low [] h = elim (nat_le x m) as (λ b. no_name ≡ cond b no_name no_name) [ true ↦ refl | false ↦ refl ]
  name_of-up_to low (e ∷ es) h = named (nat_le e.0 m) (nat_lt 0 (length e.1)) (nat_eq x e.0) e es refl refl refl h.2
      (name_of-up_to (suc e.0) es h.2)

-- ---- lines

-- texts in order, of which that of x is this one
record Names (x : ℕ) (text : Option (List ℕ)) (given : Given) : Type 0 where
  pub order : AreGiven Any 0 given
  pub is : text_at x given ≡ text

-- the names of x that a line gives
abbrev given_in : ℕ → LineKind → List (List ℕ)
given_in x kind = names_given x (metadata_in kind)

module _ (x : ℕ) where
  names_then : (before : Option (List ℕ)) (facts more : List Metadatum) → last_or before (names_given x (facts ++ more))
      ≡ last_or (last_or before (names_given x facts)) (names_given x more)
  names_then before [] more = refl
  names_then before (d ∷ facts) more = elim (is_name_key x d.key) as
      (λ b.
      last_or before
      (map (λ (e : Metadatum). e.value) (cond b (d ∷ filter (λ (e : Metadatum). is_name_key x e.key) (facts ++ more))
      (filter (λ (e : Metadatum). is_name_key x e.key) (facts ++ more))))
      ≡ last_or
      (last_or before
      (map (λ (e : Metadatum). e.value) (cond b (d ∷ filter (λ (e : Metadatum). is_name_key x e.key) facts)
      (filter (λ (e : Metadatum). is_name_key x e.key) facts)))) (names_given x more)) [
        | true ↦ names_then (Some d.value) facts more
        | false ↦ names_then before facts more
      ]

  key_names : (content new : Content) (n : ℕ) (key : Key) (value : List ℕ) (before : Option (List ℕ))
      → after_key content n key value ≡ Ok new → Names x before content.names
      → Names x (last_or before (given_in x (metadata key value))) new.names
  key_names content new n DataType value before h s =
      let a = bound (refuse (not (is_soc value)) kinds.WrongType) (λ _. Ok content) new h in
      let e : content ≡ new = cc a.2 in
      subst (λ (t : Content). Names x before t.names) e s
  key_names content new n Alternatives value before h s =
      let a = bound (alternatives_stated content.alternatives value)
      (λ m. Ok (record content { alternatives = Some m })) new h in
      let e : record content { alternatives = Some a.0 } ≡ new = cc a.2 in
      subst (λ (t : Content). Names x before t.names) e s
  key_names content new n Voters value before h s =
      let a = bound (number_stated content.voters n value) (λ stated. Ok (record content { voters = Some stated })) new
      h in
      let e : record content { voters = Some a.0 } ≡ new = cc a.2 in
      subst (λ (t : Content). Names x before t.names) e s
  key_names content new n Orders value before h s =
      let a = bound (number_stated content.orders n value) (λ stated. Ok (record content { orders = Some stated })) new
      h in
      let e : record content { orders = Some a.0 } ≡ new = cc a.2 in
      subst (λ (t : Content). Names x before t.names) e s
  key_names content new n (NameOf i) value before h s =
      let e : record content { names = with_name i value content.names } ≡ new = cc in
      subst (λ (t : Content). Names x (last_or before (given_in x (metadata (NameOf i) value))) t.names) e (record {
        order = AreGiven-with_name Any i value tt 0 content.names (omega arith) s.order;
        is = text_at-with_name x i value content.names ∙ ap (changed x i value) s.is ∙ given (nat_eq x i);
      }) where
        given : (same : Bool) → cond same (Some value) before
            ≡ last_or before (map (λ (f : Metadatum). f.value) (cond same (record { key = NameOf i; value = value }
            ∷ []) []))
        given true = refl
        given false = refl
  key_names content new n Other value before h s =
      let e : content ≡ new = cc in
      subst (λ (t : Content). Names x before t.names) e s

  line_names : (content new : Content) (n : ℕ) (kind : LineKind) (before : Option (List ℕ)) → after_line content n kind
      ≡ Ok new → Names x before content.names → Names x (last_or before (given_in x kind)) new.names
  line_names content new n skipped before h s =
      let e : content ≡ new = cc in
      subst (λ (t : Content). Names x before t.names) e s
  line_names content new n (metadata key value) before h s = key_names content new n key value before h s
  line_names content new n (ballots text) before h s =
      let a = bound (ok_or content.alternatives kinds.NoAlternativeCount) (λ m. with_votes m content.votes text
      >>= λ votes. Ok (record content { votes = votes })) new h in
      let b = bound (with_votes a.0 content.votes text) (λ votes. Ok (record content { votes = votes })) new a.2 in
      let e : record content { votes = b.0 } ≡ new = cc b.2 in
      subst (λ (t : Content). Names x before t.names) e s

  lines_names : (content new : Content) (n : ℕ) (kinds : List LineKind) (before : Option (List ℕ))
      → after_lines content n kinds ≡ Ok new → Names x before content.names
      → Names x (last_or before (names_given x (flat_map metadata_in kinds))) new.names
  unfolding after_lines
  lines_names content new n [] before h s =
      let e : content ≡ new = cc in
      subst (λ (t : Content). Names x before t.names) e s
  lines_names content new n (kind ∷ kinds) before h s =
      let a = bound (at_line n (after_line content n kind)) (λ t. after_lines t (n + 1) kinds) new h in
      let line = line_names content a.0 n kind before (went_well n (after_line content n kind) a.0 a.1) s in
      let later = lines_names a.0 new (n + 1) kinds (last_or before (given_in x kind)) a.2 line in
      subst (λ o. Names x o new.names) (sym (names_then before (metadata_in kind) (flat_map metadata_in kinds))) later

pub names_are_the_last_given : (bytes : List ℕ) (file : File) (i : ℕ) → soc bytes ≡ Ok file → name_of i file.names
    ≡ cond (nat_le i file.profile.alternatives) (last_name i bytes) None
names_are_the_last_given bytes file i h =
    let a = soc-ok bytes file h in
    let names = lines_names i nothing a.0 1 (kinds_of (lines bytes)) None a.1 (record { order = tt; is = refl }) in
    ap (name_of i) a.2.names ∙ name_of-up_to i file.profile.alternatives 0 a.0.names names.order
    ∙ ap (λ text. within i file.profile.alternatives (not_empty text)) names.is
