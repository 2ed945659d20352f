-- The kinds of modules that each counter serves.
use Rattle.std.specs.Prelude.{ℕ, ◌+◌, Bool, false, ◌||◌, nat_eq, List, [], ◌∷◌}
use Rattle.vir_term.specs.declared.score.Score.{Score}
use Rattle.vir_term.specs.declared.score.Score.TheVariants as score
use Rattle.vir_term.specs.declared.leaf.LeafKind.{LeafKind}
use Rattle.vir_term.specs.declared.leaf.LeafKind.TheVariants as kind

-- scores by numbers: no two have the same
abbrev pub score_number : Score → ℕ
score_number score.Plurality = 0
score_number score.Borda = 1
score_number score.Copeland = 2
score_number score.Minimax = 3
score_number score.Condorcet = 4

-- kinds by numbers: no two have the same
abbrev pub kind_number : LeafKind → ℕ
kind_number kind.Elect = 0
kind_number kind.Defer = 1
kind_number kind.PassFirst = 2
kind_number kind.DropFirst = 3
kind_number kind.Plurality = 4
kind_number (kind.Max s) = 10 + score_number s
kind_number (kind.Min s) = 20 + score_number s
kind_number (kind.Below s) = 30 + score_number s
kind_number (kind.Upto s) = 40 + score_number s

-- whether a kind is in a list
abbrev pub has_kind : List LeafKind → LeafKind → Bool
has_kind [] sought = false
has_kind (kind ∷ rest) sought = nat_eq (kind_number kind) (kind_number sought) || has_kind rest sought

-- the modules that elect all and that defer all
abbrev pub fixed_kinds : List LeafKind
fixed_kinds = kind.Elect ∷ kind.Defer ∷ []

-- the modules of a fixed order
abbrev pub order_kinds : List LeafKind
order_kinds = kind.PassFirst ∷ kind.DropFirst ∷ []

-- the module that elects by first places
abbrev pub plurality_kinds : List LeafKind
plurality_kinds = kind.Plurality ∷ []

-- the eliminators of a score
abbrev pub eliminator_kinds : Score → List LeafKind
eliminator_kinds s = kind.Max s ∷ kind.Min s ∷ kind.Below s ∷ kind.Upto s ∷ []
