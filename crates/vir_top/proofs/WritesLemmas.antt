-- A text that is written piece by piece.
use Rattle.std.proofs.Common.{ℕ, ◌≤◌, List, [], ◌∷◌, ◌++◌, Option, Result, Ok, Err, sym, ap, ◌∙◌, append_assoc, arith}
use Rattle.std.proofs.Common.{inl, inr, length-append}
use Rattle.std.specs.Io.KnownBytes.{Appends}
use Rattle.vir_course.specs.declared.stop.Stop.{Stop}
use Rattle.vir_outside.specs.Faults.{Rose}
use Rattle.vir_outside.specs.Shelf.{Request, to_read, to_select, to_write}
use Rattle.vir_outside.specs.Sink.{AppendsPrefix, AreSome, HandsSome, SinkView, Writes}
use Rattle.vir_outside.proofs.Texts.{appends_more}
use Rattle.vir_top.specs.Delivery.{AppendsLine, stop_line}

-- a count that rose from a later one has risen
later_rose : (before mid now : ℕ) → before ≤ mid → Rose mid now → Rose before now
later_rose before mid now later rose = omega arith

-- a prefix of a text is one of the longer text
prefix_stays : (old new : Option (List ℕ)) (text piece : List ℕ) → AppendsPrefix old new text → AppendsPrefix old new
    (text ++ piece)
prefix_stays old new text piece (front, back, parts, some, appended) = (
  front,
  back ++ piece,
  ap (λ (xs : List ℕ). xs ++ piece) parts ∙ append_assoc front back piece,
  omega (arith, length-append back piece),
  appended,
)

-- behind a whole text, a prefix of a piece makes a prefix of both
prefix_more : (old mid new : Option (List ℕ)) (text piece : List ℕ) → Appends old mid text → AppendsPrefix mid new piece
    → AppendsPrefix old new (text ++ piece)
prefix_more old mid new text piece first (front, back, parts, some, appended) = (
  text ++ front,
  back,
  ap (λ (xs : List ℕ). text ++ xs) parts ∙ sym (append_assoc text front back),
  some,
  appends_more old
      mid new text front first appended,
)

-- writes of pieces that aren't empty, and then more of them
some_more : (more calls : List Request) → AreSome more → AreSome calls → AreSome (more ++ calls)
some_more [] calls first next = next
some_more (to_write handed taken ∷ more) calls first next = (first.0, some_more more calls first.1 next)
some_more (to_select name faults ∷ more) calls first next = absurd first
some_more (to_read n ∷ more) calls first next = absurd first

handed_more : (old mid new : List Request) → HandsSome old mid → HandsSome mid new → HandsSome old new
handed_more old mid new first next = (
  next.0 ++ first.0,
  next.1 ∙ ap (λ (rs : List Request). next.0 ++ rs) first.1 ∙ sym (append_assoc next.0 first.0 old),
  some_more next.0 first.0 next.2 first.2,
)

-- a further piece behind a text that was written whole
pub writes_more : {E : Type 0} (old mid new : SinkView) (text piece : List ℕ) (answer : Result (Unit {0}) E)
    (done : Unit {0}) → (let r : Result (Unit {0}) E = Ok done in Writes old mid text r) → Writes mid new piece answer
    → Writes old new (text ++ piece) answer
writes_more old mid new text piece (Ok done) start w next =
    let early : old.faults ≤ mid.faults = w.later in
    let late : mid.faults ≤ new.faults = next.later in
    record {
      later = omega arith;
      handed = handed_more old.asked mid.asked new.asked w.handed next.handed;
      whole = appends_more old.written mid.written new.written text piece w.whole next.whole;
      failed = tt;
    }
writes_more old mid new text piece (Err e) start w next =
    let early : old.faults ≤ mid.faults = w.later in
    let late : mid.faults ≤ new.faults = next.later in
    record {
      later = omega arith;
      handed = handed_more old.asked mid.asked new.asked w.handed next.handed;
      whole = tt;
      failed = (
        later_rose old.faults mid.faults new.faults early next.failed.0,
        prefix_more old.written mid.written new.written text piece w.whole next.failed.1,
      );
    }

-- and behind one that wasn't
pub writes_less : {E : Type 0} (old new : SinkView) (text piece : List ℕ) (e : E)
    → (let r : Result (Unit {0}) E = Err e in Writes old new text r)
    → (let r : Result (Unit {0}) E = Err e in Writes old new (text ++ piece) r)
writes_less old new text piece e w =
    record {
      later = w.later;
      handed = w.handed;
      whole = tt;
      failed = (w.failed.0, prefix_stays old.written new.written text piece w.failed.1);
    }

-- whatever is answered, a line is written or a prefix of it is
pub writes_line : {E : Type 0} (old new : SinkView) (reason : Stop) (answer : Result (Unit {0}) E)
    → Writes old new (stop_line reason) answer → AppendsLine old new reason
writes_line old new reason (Ok done) w = record { later = w.later; handed = w.handed; appended = inl w.whole }
writes_line old new reason (Err e) w = record { later = w.later; handed = w.handed; appended = inr w.failed }
