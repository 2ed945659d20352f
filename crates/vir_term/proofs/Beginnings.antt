-- Texts that begin with others.
use Rattle.std.proofs.Common.{◌≡◌, ℕ, List, [], ◌++◌, if◌then◌else◌, Result, Ok, Err, sym, ap, ◌∙◌}
use Rattle.std.proofs.Common.{append-nil, append_assoc}
use Rattle.std.specs.Result.{is_ok}
use Rattle.vir_term.specs.Appending.{Appends, Begins}

-- a text begins with itself
pub begins_itself : (before after : List ℕ) → after ≡ before → Begins before after
begins_itself before after same = record { more = []; is = same ∙ sym (append-nil before) }

-- what is appended to leaves the beginning
pub begins_before : (before between after added : List ℕ) → between ≡ before ++ added → Begins between after
    → Begins before after
begins_before before between after added one later = record {
  more = added ++ later.more;
  is = later.is ∙ ap (λ xs. xs ++ later.more) one ∙ append_assoc before added later.more;
}

-- and appending more leaves it
pub begins_after : (before between after added : List ℕ) → Begins before between → after ≡ between ++ added
    → Begins before after
begins_after before between after added begun one = record {
  more = begun.more ++ added;
  is = one ∙ ap (λ xs. xs ++ added) begun.is ∙ append_assoc before begun.more added;
}

-- what the last of some appending calls has done, where with its end all is appended
pub appends_last : {T E : Type 0} (result : Result T E) (before between after added end : List ℕ)
    → after ≡ (if is_ok result then between ++ end else between) → between ++ end ≡ before ++ added
    → Begins before between → Appends result before after added
appends_last (Ok done) before between after added end is whole begun = is ∙ whole
appends_last (Err error) before between after added end is whole begun =
    record { more = begun.more; is = is ∙ begun.is }

-- what a call has done that ran out of memory, where what stood there is the beginning still
pub appends_error : {T E : Type 0} (result : Result T E) (error : E) (before after added : List ℕ)
    → result ≡ Err error → Begins before after → Appends result before after added
appends_error (Ok done) error before after added is begun = absurd cc
appends_error (Err other) error before after added is begun = begun

-- what is needed where memory runs out behind some calls that appended
pub ruleset beginnings = (begins_itself, begins_before)
