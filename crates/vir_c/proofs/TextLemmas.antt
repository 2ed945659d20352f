-- What sinks in memory hold, once an answer is delivered to them.
use Rattle.std.proofs.Common.{◌≡◌, ◌⊎◌, ◌++◌, ℕ, List, [], Result, Ok, Err, inl, inr, ap, sym, subst, ◌∙◌}
use Rattle.std.proofs.Common.{◌<◌, IfOk, OnOk, Some}
use Rattle.std.specs.Io.KnownBytes.{Appends}
use Rattle.vir_course.specs.Wordings.{reply_of}
use Rattle.vir_course.specs.declared.answer.Answer.{Answer}
use Rattle.vir_course.specs.declared.stop.Stop.{Stop}
use Rattle.vir_course.specs.declared.stop.Stop.TheVariants.{WriteFault}
use Rattle.vir_outside.specs.Memory.{SinkState, sink_seen}
use Rattle.vir_outside.specs.Faults.{Rose}
use Rattle.vir_outside.specs.Sink.{AppendsPrefix}
use Rattle.vir_top.specs.Delivery.{AppendsLine, Delivers, reply_bytes, stop_line}
use Rattle.vir_c.specs.Answered.{AreTexts, IsFront}
use Rattle.vir_c.specs.declared.calling.Called.{Called}
use Rattle.vir_c.specs.declared.pieces.Unread.{Unread}
use Rattle.vir_c.proofs.DueLemmas.{none_rose}

-- what an empty sink holds behind a text, or a prefix of it
whole_of : (old new text : List ℕ) → old ≡ [] → Appends (Some old) (Some new) text → new ≡ text
whole_of old new text none whole = subst (λ (bs : List ℕ). new ≡ bs ++ text) none whole

front_of : (old new text : List ℕ) → old ≡ [] → AppendsPrefix (Some old) (Some new) text → IsFront new text
front_of old new text none (front, back, parts, some, appended) =
    (back, subst (λ (xs : List ℕ). text ≡ xs ++ back) (sym (whole_of old new front none appended)) parts, some)

line_of : (old new : SinkState) (reason : Stop) → old.bytes ≡ [] → AppendsLine (sink_seen old) (sink_seen new) reason
    → (new.bytes ≡ stop_line reason) ⊎ IsFront new.bytes (stop_line reason)
line_of old new reason none line = by line.appended
  where
    by : Appends (Some old.bytes) (Some new.bytes) (stop_line reason)
        ⊎ (Rose old.faults new.faults × AppendsPrefix (Some old.bytes) (Some new.bytes) (stop_line reason))
        → (new.bytes ≡ stop_line reason) ⊎ IsFront new.bytes (stop_line reason)
    by (inl whole) = inl (whole_of old.bytes new.bytes (stop_line reason) none whole)
    by (inr (rose, prefix)) = inr (front_of old.bytes new.bytes (stop_line reason) none prefix)

-- where the sink counted no fault, the line is whole
whole_line : (old new : SinkState) (reason : Stop) → old.bytes ≡ [] → new.faults ≡ 0
    → AppendsLine (sink_seen old) (sink_seen new) reason → new.bytes ≡ stop_line reason
whole_line old new reason none zero line = by line.appended
  where
    by : Appends (Some old.bytes) (Some new.bytes) (stop_line reason)
        ⊎ (Rose old.faults new.faults × AppendsPrefix (Some old.bytes) (Some new.bytes) (stop_line reason))
        → new.bytes ≡ stop_line reason
    by (inl whole) = whole_of old.bytes new.bytes (stop_line reason) none whole
    by (inr (rose, prefix)) = absurd (none_rose old.faults (subst (Rose old.faults) zero rose))

-- the two texts are what two empty sinks hold behind the answer, where no line alone was cut off
pub are_texts : (given : Result Answer Stop) (status : ℕ) (old new err_old err_new : SinkState) → old.bytes ≡ []
    → old.faults ≡ 0 → err_old.bytes ≡ [] → (new.faults ≡ 0 → err_new.faults ≡ 0)
    → Delivers given status (λ (s : SinkState). sink_seen s) old new (λ (s : SinkState). sink_seen s) err_old err_new
    → AreTexts given status new.bytes err_new.bytes
are_texts (Ok answer) status old new err_old err_new none zero err_none kept (inl w) =
    inl (record {
      status_is = w.status_is;
      out_is = whole_of old.bytes new.bytes (reply_bytes (reply_of answer)) none w.whole;
      err_is = ap (λ (s : SinkState). s.bytes) w.no_line ∙ err_none;
    })
are_texts (Ok answer) status old new err_old err_new none zero err_none kept (inr b) =
    inr (record {
      status_is = b.status_is;
      out_is = front_of old.bytes new.bytes _ none b.prefix;
      err_is = line_of err_old err_new WriteFault err_none b.line;
    })
are_texts (Err reason) status old new err_old err_new none zero err_none kept told =
    record {
      status_is = told.status_is;
      out_is = ap (λ (s : SinkState). s.bytes) told.nothing ∙ none;
      err_is =
          whole_line err_old err_new reason err_none (kept (ap (λ (s : SinkState). s.faults) told.nothing ∙ zero))
          told.line;
    }

-- what is answered where the call's status and texts are kept
pub kept_answer : (Answers : ℕ → List ℕ → List ℕ → Type 0) (status : ℕ) (out err : SinkState)
    (result : Result Called Unread)
    → IfOk result (λ called. called ≡ record { status = status; out = out; err = err })
    → OnOk result (out.faults ≡ 0 → err.faults ≡ 0)
    → ((out.faults ≡ 0 → err.faults ≡ 0) → Answers status out.bytes err.bytes)
    → IfOk result (λ called. Answers called.status called.out.bytes called.err.bytes)
kept_answer Answers status out err (Ok called) is kept answers =
    subst (λ (c : Called). Answers c.status c.out.bytes c.err.bytes) (sym is) (answers kept)
kept_answer Answers status out err (Err reason) is kept answers = tt
