-- The content of lines.
use Rattle.std.specs.Prelude.{ℕ, List, [], Option, None}
use Rattle.vir_profile.specs.declared.ballot.Entry.{Entry}
use Rattle.vir_soc.specs.declared.stated.Stated.{Stated}

-- the content of some lines: the counts that metadata states, what it gives as names, and the votes
pub record Content : Type 0 where
  pub alternatives : Option ℕ
  pub voters : Option Stated
  pub orders : Option Stated
  pub names : List (ℕ × List ℕ)
  pub votes : List Entry

-- the content of no lines
abbrev pub nothing : Content
nothing = record { alternatives = None; voters = None; orders = None; names = []; votes = [] }
