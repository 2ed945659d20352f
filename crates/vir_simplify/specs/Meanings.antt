-- When two terms have the same meaning.
use Rattle.std.specs.Prelude.{◌≡◌, List}
use Rattle.vir_altset.specs.Sets.{Set}
use Rattle.vir_profile.specs.declared.ballot.Entry.{Entry}
use Rattle.vir_profile.specs.Profiles.{IsProfileOn}
use Rattle.vir_term.specs.Tree.{Tree}
use Rattle.vir_mean.specs.Meaning.{mean}

-- Of each set, and by each profile on it, the two terms give the same split.
abbrev pub MeanTheSame : Tree → Tree → Type 0
MeanTheSame one other = (a : Set) (p : List Entry) → IsProfileOn a p → mean one a p ≡ mean other a p
