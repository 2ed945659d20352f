-- Having one signature is kept by compositions.
use Rattle.std.proofs.Common.{◌≡◌, ℕ, Bool, true, Option, refl}
use Rattle.vir_term.specs.declared.leaf.Leaf.{Leaf}
use Rattle.vir_term.specs.Tree.{Tree, rev, seq, par, loop, exactly}
use Rattle.vir_derive.specs.Heads.{head, opposed}
use Rattle.vir_derive.proofs.Closing.{alike}
use Rattle.vir_synth.specs.Alike.{HaveOneSignature, Composes}

opposed_same : (a b c d : Option Leaf) → a ≡ b → c ≡ d → opposed a c ≡ opposed b d
opposed_same a b c d e f = rw (e, f) refl

module _ (numbers : ℕ → Bool) (one : numbers 1 ≡ true) (two : numbers 2 ≡ true) where
  Same : Tree → Tree → Type 0
  Same = HaveOneSignature numbers

  pub composes : Composes (HaveOneSignature numbers)
  composes = record {
    itself = λ t. record { alike = λ q w. ((λ d. d), (λ d. d)); head_same = refl };
    revised = λ t u s. record {
      alike = alike numbers one two (rev t) (rev u)
          (record {
            form_same = refl;
            first_alike = λ _. s.alike;
            second_alike = λ _. s.alike;
            opposed_same = λ _. opposed_same (head t) (head u) (head t) (head u) s.head_same s.head_same;
          });
      head_same = s.head_same;
    };
    looped = λ t u s. record {
      alike = alike numbers one two (loop (exactly 1) t) (loop (exactly 1) u)
          (record {
            form_same = refl;
            first_alike = λ _. s.alike;
            second_alike = λ _. s.alike;
            opposed_same = λ _. opposed_same (head t) (head u) (head t) (head u) s.head_same s.head_same;
          });
      head_same = refl;
    };
    sequenced = λ t t' u u' s r. record {
      alike = alike numbers one two (seq t u) (seq t' u')
          (record {
            form_same = refl;
            first_alike = λ _. s.alike;
            second_alike = λ _. r.alike;
            opposed_same = λ _. opposed_same (head t) (head t') (head u) (head u') s.head_same r.head_same;
          });
      head_same = s.head_same;
    };
    paralleled = λ t t' u u' s r. record {
      alike = alike numbers one two (par t u) (par t' u')
          (record {
            form_same = refl;
            first_alike = λ _. s.alike;
            second_alike = λ _. r.alike;
            opposed_same = λ _. opposed_same (head t) (head t') (head u) (head u') s.head_same r.head_same;
          });
      head_same = refl;
    };
  }
