-- The counts that metadata of an accepted file states are those of its profile.
use Rattle.std.proofs.Common.{◌≡◌, ℕ, ◌+◌, false, not, List, [], ◌∷◌, length, Option, Some, None, Ok, nat_eq, nat_lt}
use Rattle.std.proofs.Common.{refl, subst, sym, ap, ◌∙◌, arith}
use Rattle.std.specs.Prelude.{All}
use Rattle.std.specs.List.{flat_map}
use Rattle.std.specs.Option.{IfSome, ok_or, option_map, unwrap_or}
use Rattle.std.proofs.lemmas.Bool.Decides.{nat_tests}
use Rattle.std.proofs.lemmas.List.Elements.{All-append, All-nil, All-cons}
use Rattle.vir_altset.specs.Sets.{limit}
use Rattle.vir_profile.specs.Profiles.{voters_limit, Votes, total_weight}
use Rattle.vir_profile.specs.SocFiles.{File}
use Rattle.vir_soc.specs.declared.key.Key.{Key}
use Rattle.vir_soc.specs.declared.key.Key.TheVariants.{DataType, Alternatives, Voters, Orders, NameOf, Other}
use Rattle.vir_soc.specs.declared.kind.SocKind.TheVariants as kinds
use Rattle.vir_soc.specs.declared.stated.Stated.{Stated}
use Rattle.vir_soc.specs.Accepted.{IsTrueOf, Metadatum, metadata_in, metadata_lines}
use Rattle.vir_soc.specs.Checks.{◌>>=◌, at_line, refuse}
use Rattle.vir_soc.specs.LineKinds.{LineKind, ballots, kinds_of, metadata, skipped}
use Rattle.vir_soc.specs.Lines.{lines}
use Rattle.vir_soc.specs.Metadata.{after_key, alternatives_stated, differs, is_soc, number_stated}
use Rattle.vir_soc.specs.Names.{with_name}
use Rattle.vir_soc.specs.Numbers.{number}
use Rattle.vir_soc.specs.Content.{Content, nothing}
use Rattle.vir_soc.specs.Soc.{after_line, after_lines, soc}
use Rattle.vir_soc.specs.Votes.{with_votes}
use Rattle.vir_soc.proofs.ChainLemmas.{bound, passed, was_some, went_well}
use Rattle.vir_soc.proofs.FileLemmas.{soc-ok}

-- ---- a value

same_as : (earlier : Option ℕ) (n : ℕ) → differs earlier n ≡ false → IfSome earlier (λ e. e ≡ n)
same_as None n h = tt
same_as (Some e) n h = grind (arith, nat_tests)

alternatives_are : (earlier : Option ℕ) (value : List ℕ) (m : ℕ) → alternatives_stated earlier value ≡ Ok m
    → (number value ≡ Some m) × IfSome earlier (λ e. e ≡ m)
alternatives_are earlier value m h =
    let a = bound (ok_or (number value) kinds.BadNumber) _ m h in
    let b = bound (refuse (nat_eq a.0 0) kinds.BadNumber) _ m a.2 in
    let c = bound (refuse (nat_lt limit a.0) kinds.TooManyAlternatives) _ m b.2 in
    let d = bound (refuse (differs earlier a.0) kinds.CountDiffers) _ m c.2 in
    let e : a.0 ≡ m = cc d.2 in (
      was_some (number value) kinds.BadNumber m (rw (← e) a.1),
      same_as earlier m
          (rw (← e) (passed (differs earlier a.0) kinds.CountDiffers d.0 d.1)),
    )

kept_first : (earlier : Option Stated) (n line : ℕ) (t : Stated) → differs (option_map (λ e. e.value) earlier) n ≡ false
    → unwrap_or earlier (record { value = n; line = line }) ≡ t → (n ≡ t.value) × IfSome earlier (λ e. e ≡ t)
kept_first None n line t d e = (ap (λ (u : Stated). u.value) e, tt)
kept_first (Some u) n line t d e =
    let same : u.value ≡ n = same_as (Some u.value) n d in
    (sym same ∙ ap (λ (v : Stated). v.value) e, e)

number_is : (earlier : Option Stated) (line : ℕ) (value : List ℕ) (t : Stated) → number_stated earlier line value ≡ Ok t
    → (number value ≡ Some t.value) × IfSome earlier (λ e. e ≡ t)
number_is earlier line value t h =
    let a = bound (ok_or (number value) kinds.BadNumber) _ t h in
    let b = bound (refuse (nat_lt voters_limit a.0) kinds.BadNumber) _ t a.2 in
    let d = bound (refuse (differs (option_map (λ (e : Stated). e.value) earlier) a.0) kinds.CountDiffers) _ t b.2 in
    let e : unwrap_or earlier (record { value = a.0; line = line }) ≡ t = cc d.2 in
    let k = kept_first earlier a.0 line t (passed (differs (option_map (λ (e : Stated). e.value) earlier) a.0)
    kinds.CountDiffers d.0 d.1) e in
    (was_some (number value) kinds.BadNumber a.0 a.1 ∙ ap (λ n. Some n) k.0, k.1)

-- ---- lines

-- what some lines say is nothing else than what this profile is
record Agrees (votes : Votes) (content : Content) : Type 0 where
  pub alternatives : IfSome content.alternatives (λ m. m ≡ votes.alternatives)
  pub voters : IfSome content.voters (λ t. t.value ≡ total_weight votes.lines)
  pub orders : IfSome content.orders (λ t. t.value ≡ length votes.lines)

-- a count that stays
stays : {A : Type 0} (P : A → Type 0) (earlier : Option A) (now : A) → IfSome earlier (λ e. e ≡ now) → P now
    → IfSome earlier P
stays P None now h p = tt
stays P (Some e) now h p = subst P (sym h) p

abbrev TellsTruth : Votes → Metadatum → Type 0
TellsTruth votes d = IsTrueOf votes d.key d.value

module _ (votes : Votes) where
  one : (key : Key) (value : List ℕ) → IsTrueOf votes key value → All (TellsTruth votes)
      (metadata_in (metadata key value))
  one key value h = All-cons (TellsTruth votes) (record { key = key; value = value }) [] h (All-nil (TellsTruth votes))

  key_agrees : (content new : Content) (n : ℕ) (key : Key) (value : List ℕ) → after_key content n key value ≡ Ok new
      → Agrees votes new → Agrees votes content × IsTrueOf votes key value
  key_agrees content new n DataType value h a =
      let b = bound (refuse (not (is_soc value)) kinds.WrongType) (λ _. Ok content) new h in
      let e : content ≡ new = cc b.2 in
      let t = passed (not (is_soc value)) kinds.WrongType b.0 b.1 in
      (subst (Agrees votes) (sym e) a, grind (arith, nat_tests))
  key_agrees content new n Alternatives value h a =
      let b = bound (alternatives_stated content.alternatives value)
      (λ m. Ok (record content { alternatives = Some m })) new h in
      let e : record content { alternatives = Some b.0 } ≡ new = cc b.2 in
      let now = subst (Agrees votes) (sym e) a in
      let is = alternatives_are content.alternatives value b.0 b.1 in (
        record {
          alternatives = stays (λ m. m ≡ votes.alternatives) content.alternatives b.0 is.1 now.alternatives;
          voters = now.voters;
          orders = now.orders;
        },
        is.0 ∙ ap (λ m. Some m) now.alternatives,
      )
  key_agrees content new n Voters value h a =
      let b = bound (number_stated content.voters n value) (λ stated. Ok (record content { voters = Some stated })) new
      h in
      let e : record content { voters = Some b.0 } ≡ new = cc b.2 in
      let now = subst (Agrees votes) (sym e) a in
      let is = number_is content.voters n value b.0 b.1 in (
        record {
          alternatives = now.alternatives;
          voters = stays (λ (t : Stated). t.value ≡ total_weight votes.lines) content.voters b.0 is.1 now.voters;
          orders
              = now.orders;
        },
        is.0 ∙ ap (λ m. Some m) now.voters,
      )
  key_agrees content new n Orders value h a =
      let b = bound (number_stated content.orders n value) (λ stated. Ok (record content { orders = Some stated })) new
      h in
      let e : record content { orders = Some b.0 } ≡ new = cc b.2 in
      let now = subst (Agrees votes) (sym e) a in
      let is = number_is content.orders n value b.0 b.1 in (
        record {
          alternatives = now.alternatives;
          voters = now.voters;
          orders = stays (λ (t : Stated). t.value ≡ length votes.lines) content.orders b.0 is.1 now.orders;
        },
        is.0
            ∙ ap (λ m. Some m) now.orders,
      )
  key_agrees content new n (NameOf i) value h a =
      let e : record content { names = with_name i value content.names } ≡ new = cc in
      let now = subst (Agrees votes) (sym e) a in
      (record { alternatives = now.alternatives; voters = now.voters; orders = now.orders }, tt)
  key_agrees content new n Other value h a =
      let e : content ≡ new = cc in
      (subst (Agrees votes) (sym e) a, tt)

  line_agrees : (content new : Content) (n : ℕ) (kind : LineKind) → after_line content n kind ≡ Ok new
      → Agrees votes new → Agrees votes content × All (TellsTruth votes) (metadata_in kind)
  line_agrees content new n skipped h a =
      let e : content ≡ new = cc in
      (subst (Agrees votes) (sym e) a, All-nil (TellsTruth votes))
  line_agrees content new n (metadata key value) h a =
      let k = key_agrees content new n key value h a in
      (k.0, one key value k.1)
  line_agrees content new n (ballots text) h a =
      let b = bound (ok_or content.alternatives kinds.NoAlternativeCount) (λ m. with_votes m content.votes text
      >>= λ vs. Ok (record content { votes = vs })) new h in
      let d = bound (with_votes b.0 content.votes text) (λ vs. Ok (record content { votes = vs })) new b.2 in
      let e : record content { votes = d.0 } ≡ new = cc d.2 in
      let now = subst (Agrees votes) (sym e) a in
      (record { alternatives = now.alternatives; voters = now.voters; orders = now.orders }, All-nil (TellsTruth votes))

  lines_agree : (content new : Content) (n : ℕ) (kinds : List LineKind) → after_lines content n kinds ≡ Ok new
      → Agrees votes new → Agrees votes content × All (TellsTruth votes) (flat_map metadata_in kinds)
  unfolding after_lines
  lines_agree content new n [] h a =
      let e : content ≡ new = cc in
      (subst (Agrees votes) (sym e) a, All-nil (TellsTruth votes))
  lines_agree content new n (kind ∷ kinds) h a =
      let b = bound (at_line n (after_line content n kind)) (λ s. after_lines s (n + 1) kinds) new h in
      let later = lines_agree b.0 new (n + 1) kinds b.2 a in
      let line = line_agrees content b.0 n kind (went_well n (after_line content n kind) b.0 b.1) later.0 in
      (line.0, All-append (TellsTruth votes) (metadata_in kind) (flat_map metadata_in kinds) line.1 later.1)

pub counts_agree : (bytes : List ℕ) (file : File) → soc bytes ≡ Ok file → All (TellsTruth file.profile)
    (metadata_lines bytes)
counts_agree bytes file h =
    let a = soc-ok bytes file h in
    let made = a.2 in
    let end : Agrees file.profile a.0 = record {
      alternatives = rw made.alternatives refl;
      voters = made.voters;
      orders = made.orders;
    } in
    (lines_agree file.profile nothing a.0 1 (kinds_of (lines bytes)) a.1 end).1
