-- Members of a list that are read, and those that are left.
use Rattle.std.proofs.Common.{◌≡◌, ℕ, suc, ◌+◌, ◌-◌, ◌<◌, ◌≤◌, List, [], ◌∷◌, ◌++◌, length, drop, Ok, ap, sym, ◌∙◌}
use Rattle.std.proofs.Common.{arith}
use Rattle.vir_read.specs.declared.token.Token.{Token}
use Rattle.vir_read.specs.declared.symbol.Symbol.{Symbol}
use Rattle.vir_read.specs.declared.text_fault.TextError.{TextError}
use Rattle.vir_read.specs.declared.text_fault.TextError.TheVariants.{Fault, Memory}
use Rattle.vir_read.specs.declared.tree_reader.Separator.TheVariants as separator
use Rattle.vir_read.specs.Faults.{Fails, ◌>>=◌}
use Rattle.vir_read.specs.Grammar.{Read, unexpected, members, goes_on, separator_of}
use Rattle.vir_read.proofs.ListedLemmas.{with_front, with_front-more}
use Rattle.vir_read.proofs.TypingLemmas.{fails_on, fails_as}

fails-front : {A : Type 0} (e : TextError) (front : List A) (r : Read (List A)) → Fails e r
    → Fails e (with_front front r)
fails-front Memory front r h = tt
fails-front (Fault x) front r h = ap (with_front front) h

-- one turn: these are read, and so many may be read further
module _ {A : Type 0} (text : List ℕ) (close : Symbol) (tree : List Token → Read A) (list : List Token)
    (whole : Read (List A)) (front : List A) (i at : ℕ)
    (turn : i < length list) (is : with_front front (members text close tree (length list - i) (drop at list)) ≡ whole)
  where
    further : List Token → Read (List A)
    further tokens = members text close tree (length list - (i + 1)) tokens

    here : whole ≡ with_front front (tree (drop at list) >>= λ first. separator_of text close first.1
        >>= λ s. goes_on first.0 (members text close tree (length list - (i + 1))) s.1 s.0)
    here =
        let e : length list - i ≡ suc (length list - (i + 1)) = omega arith in
        sym is ∙ ap (λ n. with_front front (members text close tree n (drop at list))) e

    pub member_fails : (e : TextError) → Fails e (tree (drop at list)) → Fails e whole
    member_fails e h = fails_as e _ whole here
        (fails-front e front _ (fails_on e (tree (drop at list)) (λ first. separator_of text close first.1
        >>= λ s. goes_on first.0 (members text close tree (length list - (i + 1))) s.1 s.0) h))

    module _ (first : A) (rest : List Token) (read : tree (drop at list) ≡ Ok (first, rest)) where
      behind : whole ≡ with_front front (separator_of text close rest
          >>= λ s. goes_on first (members text close tree (length list - (i + 1))) s.1 s.0)
      behind = here ∙ ap (λ r. with_front front (r >>= λ first. separator_of text close first.1
          >>= λ s. goes_on first.0 (members text close tree (length list - (i + 1))) s.1 s.0)) read

      pub separator_fails : (e : TextError) → Fails e (separator_of text close rest) → Fails e whole
      separator_fails e h = fails_as e _ whole behind (fails-front e front _ (fails_on e (separator_of text close rest)
          (λ s. goes_on first (members text close tree (length list - (i + 1))) s.1 s.0) h))

      pub closes : (left : List Token) → separator_of text close rest ≡ Ok (separator.Close, left) → whole
          ≡ Ok (front ++ first ∷ [], left)
      closes left e =
          behind ∙ ap (λ r. with_front front (r >>= λ s. goes_on first (members text close tree (length list - (i + 1)))
          s.1 s.0)) e

      pub continues : (left : List Token) → separator_of text close rest ≡ Ok (separator.Comma, left) →
          with_front (front ++ first ∷ []) (members text close tree (length list - (i + 1)) left) ≡ whole
      continues left e =
          with_front-more front first (members text close tree (length list - (i + 1)) left)
          ∙ sym
          (behind
          ∙ ap (λ r. with_front front (r >>= λ s. goes_on first (members text close tree (length list - (i + 1))) s.1
          s.0)) e)

-- where no more may be read, something is missing
pub none_left : {A : Type 0} (text : List ℕ) (close : Symbol) (tree : List Token → Read A) (list : List Token)
    (whole : Read (List A)) (front : List A)
    (i at : ℕ) → length list ≤ i → with_front front (members text close tree (length list - i) (drop at list)) ≡ whole →
    (e : TextError) → Fails e (unexpected {A = List A} text (drop at list)) → Fails e whole
none_left text close tree list whole front i at past is e h =
    let n : length list - i ≡ 0 = omega arith in
    fails_as e _ whole (sym is ∙ ap (λ n. with_front front (members text close tree n (drop at list))) n)
    (fails-front e front (unexpected text (drop at list)) h)
