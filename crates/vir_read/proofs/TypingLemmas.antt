-- Laws of numbers, members, scores and arguments.
use Rattle.std.proofs.Common.{◌≡◌, ℕ, ◌+◌, ◌-◌, ◌*◌, ◌<◌, ◌≤◌, min, suc, Bool, true, false, ◌&&◌, List, [], ◌∷◌, ◌++◌}
use Rattle.std.proofs.Common.{length, get_or, drop, Option, Some, None, Result, Ok, Err, nat_le, nat_eq, refl, sym, ap}
use Rattle.std.proofs.Common.{subst, ◌∙◌, arith, add-one, drop-cons, append_assoc, append-nil, slice_get, zero}
use Rattle.std.proofs.Common.{if◌then◌else◌}
use Rattle.std.specs.List.{list_any}
use Rattle.std.specs.Prelude.{is_err, is_ok}
use Rattle.std.proofs.lemmas.Bool.Decides.{nat_tests}
use Rattle.vir_term.specs.declared.score.Score.{Score}
use Rattle.vir_term.specs.declared.fixed_order.OrderFault.TheVariants.{OutOfRange, Repeated}
use Rattle.vir_term.specs.Limits.{count_limit}
use Rattle.vir_term.specs.Orders.{member_limit, order_fault_after}
use Rattle.vir_term.specs.Tree.{Tree, size}
use Rattle.vir_read.specs.declared.text_fault.TextKind.TheVariants.{WrongCountOfArguments}
use Rattle.vir_read.specs.declared.text_fault.TextFault.{TextFault}
use Rattle.vir_read.specs.declared.text_fault.TextError.{TextError}
use Rattle.vir_read.specs.declared.text_fault.TextError.TheVariants as error
use Rattle.vir_read.specs.declared.built_in.Pair.{Pair}
use Rattle.vir_read.specs.declared.built_in.Pair.TheVariants as pair
use Rattle.vir_read.specs.Faults.{OrFault, ◌>>=◌, fault, Fails, Gives}
use Rattle.vir_read.specs.RawTrees.{RawTree, gathered, list_of}
use Rattle.vir_read.specs.Arguments.{Names, value_after, ranged, as_score, with_member, with_members}
use Rattle.vir_read.specs.Typing.{arguments_of, pair_tree}
use Rattle.vir_read.proofs.DropLemmas.{drop_here}

pub value_cut : (ds : List ℕ) (a b : ℕ) → min a (count_limit + 1) ≡ min b (count_limit + 1) → min (value_after a ds)
    (count_limit + 1) ≡ min (value_after b ds) (count_limit + 1)
value_cut [] a b h = h
value_cut (d ∷ ds) a b h = value_cut ds (a * 10 + (d - 48)) (b * 10 + (d - 48)) (omega arith)

pub value_step : (ds : List ℕ) (i n m x d : ℕ) → i < length ds → m ≡ min (n * 10 + x) (count_limit + 1) → x
    ≡ get_or ds i d - 48 →
    min (value_after m (drop (i + 1) ds)) (count_limit + 1) ≡ min (value_after n (drop i ds)) (count_limit + 1)
value_step ds i n m x d h e k =
    let j : min m (count_limit + 1) ≡ min (n * 10 + x) (count_limit + 1) = omega arith in
    value_cut (drop (i + 1) ds) m (n * 10 + x) j
    ∙ ap (λ y. min (value_after (n * 10 + y) (drop (i + 1) ds)) (count_limit + 1)) k
    ∙ ap (λ y. min (value_after (n * 10 + (get_or ds i d - 48)) (drop y ds)) (count_limit + 1)) (add-one i)
    ∙ ap (λ xs. min (value_after n xs) (count_limit + 1)) (sym (drop-cons ds i d h))

in_reach : (x : ℕ) → 1 ≤ x → x ≤ member_limit → (nat_le 1 x && nat_le x member_limit) ≡ true
in_reach x a b = grind (arith, nat_tests)

true_false : true ≡ false → ⊥
true_false e = cc

some_none : {A : Type 0} (x : A) → Some x ≡ None → ⊥
some_none x h = cc

branch : {X : Type 0} (p q : Bool) (x y : X) (u v : Option X) → (if p then (if q then Some x else u) else Some y) ≡ None
    → (u ≡ None → v ≡ None) →
    (if p then (if q then Some x else v) else Some y) ≡ None
branch true true x y u v h k = absurd (some_none x h)
branch true false x y u v h k = k h
branch false q x y u v h k = absurd (some_none y h)

pub order_more : (seen xs : List ℕ) (n : ℕ) → 1 ≤ n → n ≤ member_limit → list_any (λ y. nat_eq y n) (seen ++ xs) ≡ false
    →
    order_fault_after seen xs ≡ None → order_fault_after seen (xs ++ n ∷ []) ≡ None
order_more seen [] n a b e h = let k : list_any (λ y. nat_eq y n) seen ≡ false =
    ap (λ xs. list_any (λ y. nat_eq y n) xs) (sym (append-nil seen)) ∙ e in
    rw (in_reach n a b, k) refl
order_more seen (x ∷ xs) n a b e h =
    branch (nat_le 1 x && nat_le x member_limit) (list_any (λ y. nat_eq y x) seen) Repeated OutOfRange
    (order_fault_after (seen ++ x ∷ []) xs) (order_fault_after (seen ++ x ∷ []) (xs ++ n ∷ [])) h
    (order_more (seen ++ x ∷ []) xs n a b (ap (λ ys. list_any (λ y. nat_eq y n) ys) (append_assoc seen (x ∷ []) xs)
    ∙ e))

ok_ok : (x y : ℕ) → (let a : OrFault ℕ = Ok x in a ≡ Ok y) → x ≡ y
ok_ok x y h = cc

err_ok : (x : TextFault) (y : ℕ) → Err x ≡ Ok y → ⊥
err_ok x y h = cc

in_range : (b : Bool) (n m : ℕ) (f : TextFault) → (let a : OrFault ℕ = if b then Ok n else Err f in a ≡ Ok m)
    → (b ≡ true) × (n ≡ m)
in_range true n m f h = (refl, ok_ok n m h)
in_range false n m f h = absurd (err_ok f m h)

within : (most n : ℕ) → (nat_le 1 n && nat_le n most) ≡ true → (1 ≤ n) × (n ≤ most)
within most n h = grind (arith, nat_tests)

pub ranged_ok : (most start v n : ℕ) → ranged most start v ≡ Ok n → (1 ≤ n) × (n ≤ most)
ranged_ok most start v n h = let k = in_range (nat_le 1 v && nat_le v most) v n _ h in let w = within most v k.0
    in let e : v ≡ n = k.1 in (omega arith, omega arith)

pub member_step : (text seen : List ℕ) (ms : List RawTree) (i : ℕ) (s : RawTree) → slice_get ms i ≡ Some s →
    with_members text seen (drop i ms) ≡ (with_member text seen s >>= λ x. with_members text x (drop (i + 1) ms))
member_step text seen ms i s h = ap (with_members text seen) (drop_here ms i s h)

pub not_gone : {A : Type 0} (xs : List A) (i : ℕ) → slice_get xs i ≡ None → i < length xs → ⊥
not_gone [] i h k = omega arith
not_gone (y ∷ ys) zero h k = cc
not_gone (y ∷ ys) (suc i) h k = not_gone ys i h (omega arith)

pub fails_on : {A B : Type 0} (e : TextError) (r : OrFault A) (f : A → OrFault B) → Fails e r → Fails e (r >>= f)
fails_on error.Memory r f h = tt
fails_on (error.Fault x) r f h = ap (λ q. q >>= f) h

pub fails_fault : {A : Type 0} (e : TextError) (x : TextFault) (r : OrFault A) → e ≡ error.Fault x → r ≡ Err x
    → Fails e r
fails_fault e x r h k = let P : TextError → Type 0 = λ e. Fails e r in subst P (sym h) k

pub gives_as : {X Y : Type 0} (view : X → Y) (q : Result X TextError) (r s : OrFault Y) → s ≡ r → Gives view q r
    → Gives view q s
gives_as view (Ok x) r s h k = h ∙ k
gives_as view (Err error.Memory) r s h k = tt
gives_as view (Err (error.Fault x)) r s h k = h ∙ k

pub grown : {A : Type 0} {V E : Type 0} (r : Result V E) (x a b : A) → is_err r ≡ false → x ≡ (if is_ok r then a else b)
    → x ≡ a
grown (Ok v) x a b e h = h
grown (Err v) x a b e h = absurd (true_false e)

pub fails_as : {A : Type 0} (e : TextError) (r s : OrFault A) → s ≡ r → Fails e r → Fails e s
fails_as error.Memory r s h k = tt
fails_as (error.Fault x) r s h k = h ∙ k

pub no_parts : (start : ℕ) (ss : List RawTree) (known : Bool) (s : Score) → 0 < length ss → as_score start (gathered ss)
    known (Some s) ≡ Err (fault WrongCountOfArguments start)
no_parts start [] known s h = absurd (omega arith)
no_parts start (x ∷ xs) known s h = refl

pub some_parts : (start : ℕ) (ss : List RawTree) (known : Bool) (s : Score) → length ss ≡ 0
    → as_score start (gathered ss) known (Some s) ≡ Ok s
some_parts start [] known s h = refl
some_parts start (x ∷ xs) known s h = absurd (omega arith)

pub list_of-gathered : (ss : List RawTree) → list_of (gathered ss) ≡ ss
list_of-gathered [] = refl
list_of-gathered (s ∷ ss) = ap (λ xs. s ∷ xs) (list_of-gathered ss)

pub one_of : (ss : List RawTree) (s : RawTree) → length ss ≡ 1 → slice_get ss 0 ≡ Some s → ss ≡ s ∷ []
one_of [] s h k = cc
one_of (x ∷ []) s h k = cc
one_of (x ∷ y ∷ ys) s h k = absurd (omega arith)

pub two_of : (ss : List RawTree) (s t : RawTree) → length ss ≡ 2 → slice_get ss 0 ≡ Some s → slice_get ss 1 ≡ Some t
    → ss ≡ s ∷ t ∷ []
two_of [] s t h k j = cc
two_of (x ∷ []) s t h k j = absurd (omega arith)
two_of (x ∷ y ∷ []) s t h k j = cc
two_of (x ∷ y ∷ z ∷ ys) s t h k j = absurd (omega arith)

pub pair_size : (q : Pair) (x y : Tree) → size (pair_tree q x y) ≡ 1 + size x + size y
pair_size pair.Seq x y = refl
pair_size pair.Par x y = refl

pub length_arguments_of : (text : List ℕ) (names : Names) (ss : List RawTree)
    → length (arguments_of text names (gathered ss)) ≡ length ss
length_arguments_of text names [] = refl
length_arguments_of text names (s ∷ ss) = ap suc (length_arguments_of text names ss)
