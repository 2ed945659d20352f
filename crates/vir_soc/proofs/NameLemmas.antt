-- Names by ascending number.
use Rattle.std.proofs.Common.{◌≡◌, ℕ, suc, ◌≤◌, Bool, true, false, cond, ◌&&◌, List, [], ◌∷◌, length, nat_eq, nat_lt}
use Rattle.std.proofs.Common.{nat_le, map, filter, Less, Equal, Greater, refl, arith}
use Rattle.std.proofs.lemmas.Bool.Decides.{nat_tests}
use Rattle.std.specs.Ordering.{match_ordering}
use Rattle.vir_profile.specs.declared.soc_file.Name.{Name}
use Rattle.vir_profile.specs.SocFiles.{AreNamesAbove}
use Rattle.vir_soc.specs.Names.{is_name, name_given, names_up_to, with_name}
use Rattle.vir_soc.specs.Reader.Given.{AreGiven, MayBeName}

abbrev pub Given : Type 0
Given = List (ℕ × List ℕ)

-- a text given to i stands where i is in order
module _ (P : List ℕ → Type 0) (i : ℕ) (text : List ℕ) (p : P text) where
  placed : (below same : Bool) (low : ℕ) (e : ℕ × List ℕ) (es : Given) → nat_lt i e.0 ≡ below → nat_eq i e.0 ≡ same
      → low ≤ i → AreGiven P low (e ∷ es) → (suc e.0 ≤ i → AreGiven P (suc e.0) (with_name i text es))
      → AreGiven P low (match_ordering (cond below Less (cond same Equal Greater)) ((i, text) ∷ e ∷ es) ((e.0, text)
      ∷ es) (e ∷ with_name i text es))
  placed true same low e es b s l h r = (l, p, (grind (arith, nat_tests), h.1, h.2))
  placed false true low e es b s l h r = (h.0, p, h.2)
  placed false false low e es b s l h r = (h.0, h.1, r (grind (arith, nat_tests)))

  pub AreGiven-with_name : (low : ℕ) (es : Given) → low ≤ i → AreGiven P low es → AreGiven P low (with_name i text es)
  AreGiven-with_name low [] l h = (l, p, tt)
  AreGiven-with_name low (e ∷ es) l h = placed (nat_lt i e.0) (nat_eq i e.0) low e es refl refl l h
      (λ b. AreGiven-with_name (suc e.0) es b h.2)

AreNamesAbove-lower : (low high m : ℕ) (ns : List Name) → low ≤ high → AreNamesAbove high m ns → AreNamesAbove low m ns
AreNamesAbove-lower low high m [] l h = tt
AreNamesAbove-lower low high m (n ∷ ns) l h = (omega (arith, h.0), h.1, h.2, h.3)

-- the texts that are not empty are names
module _ (m : ℕ) where
  kept : (few some : Bool) (low : ℕ) (e : ℕ × List ℕ) (es : Given) → nat_le e.0 m ≡ few → nat_lt 0 (length e.1) ≡ some
      → AreGiven MayBeName (suc low) (e ∷ es) → AreNamesAbove e.0 m (names_up_to m es)
      → AreNamesAbove low m (map name_given (cond (few && some) (e ∷ filter (is_name m) es) (filter (is_name m) es)))
  kept true true low e es f s h r = (omega (arith, h.0), grind (arith, nat_tests), h.1 (grind (arith, nat_tests)), r)
  kept true false low e es f s h r = AreNamesAbove-lower low e.0 m (names_up_to m es) (omega (arith, h.0)) r
  kept false some low e es f s h r = AreNamesAbove-lower low e.0 m (names_up_to m es) (omega (arith, h.0)) r

  pub AreNamesAbove-up_to : (low : ℕ) (es : Given) → AreGiven MayBeName (suc low) es
      → AreNamesAbove low m (names_up_to m es)
  AreNamesAbove-up_to low [] h = tt
  AreNamesAbove-up_to low (e ∷ es) h = kept (nat_le e.0 m) (nat_lt 0 (length e.1)) low e es refl refl h
      (AreNamesAbove-up_to e.0 es h.2)
