-- The term that a tree stands for, or its first fault in preorder.
use Rattle.std.specs.Prelude.{ℕ, ◌+◌, ◌==◌, List, [], ◌∷◌, length, Option, Some, None, Ok, Err, if◌then◌else◌, nat_le}
use Rattle.vir_term.specs.declared.score.Score.{Score}
use Rattle.vir_term.specs.declared.leaf.Leaf.{Leaf}
use Rattle.vir_term.specs.declared.leaf.Leaf.TheVariants as leaf'
use Rattle.vir_term.specs.Tree.{Tree, leaf, rev, seq, par, loop, End, exactly, at_most, nesting, size}
use Rattle.vir_term.specs.Limits.{nesting_limit, size_limit}
use Rattle.vir_read.specs.declared.text_fault.TextKind.TheVariants.{UnknownName, WrongCountOfArguments, WrongSort}
use Rattle.vir_read.specs.declared.text_fault.TextKind.TheVariants.{TooDeep, TooLarge}
use Rattle.vir_read.specs.declared.built_in.BuiltIn.{BuiltIn}
use Rattle.vir_read.specs.declared.built_in.BuiltIn.TheVariants as word'
use Rattle.vir_read.specs.declared.built_in.Plain.{Plain}
use Rattle.vir_read.specs.declared.built_in.Plain.TheVariants as plain
use Rattle.vir_read.specs.declared.built_in.Ordered.{Ordered}
use Rattle.vir_read.specs.declared.built_in.Ordered.TheVariants as ordered
use Rattle.vir_read.specs.declared.built_in.Eliminator.{Eliminator}
use Rattle.vir_read.specs.declared.built_in.Eliminator.TheVariants as eliminator
use Rattle.vir_read.specs.declared.built_in.Pair.{Pair}
use Rattle.vir_read.specs.declared.built_in.Pair.TheVariants as pair
use Rattle.vir_read.specs.declared.built_in.LoopEnd.{LoopEnd}
use Rattle.vir_read.specs.declared.built_in.LoopEnd.TheVariants as loop_end
use Rattle.vir_read.specs.Faults.{OrFault, ◌>>=◌, fault}
use Rattle.vir_read.specs.RawTrees.{RawTree, RawTrees, word, number, bracket, none, more}
use Rattle.vir_read.specs.BuiltIns.{built_in_named, takes, is_only_score}
use Rattle.vir_read.specs.Arguments.{Names, span, count_of, order_of, score_argument}

-- an argument: its tree, and the term that it is at each level of nesting
pub record Argument : Type 0 where
  pub tree : RawTree
  pub term : ℕ → OrFault Tree

abbrev pub plain_leaf : Plain → Leaf
plain_leaf plain.Elect = leaf'.Elect
plain_leaf plain.Defer = leaf'.Defer
plain_leaf plain.Plurality = leaf'.Plurality

abbrev pub ordered_leaf : Ordered → ℕ → List ℕ → Leaf
ordered_leaf ordered.Pass k order = leaf'.PassFirst k order
ordered_leaf ordered.Drop k order = leaf'.DropFirst k order

abbrev pub eliminator_leaf : Eliminator → Score → Leaf
eliminator_leaf eliminator.Max s = leaf'.Max s
eliminator_leaf eliminator.Min s = leaf'.Min s
eliminator_leaf eliminator.Below s = leaf'.Below s
eliminator_leaf eliminator.Upto s = leaf'.Upto s

abbrev pub pair_tree : Pair → Tree → Tree → Tree
pair_tree pair.Seq first second = seq first second
pair_tree pair.Par first second = par first second

abbrev pub end_of : LoopEnd → ℕ → End
end_of loop_end.Exactly k = exactly k
end_of loop_end.AtMost k = at_most k

-- The arguments are judged from left to right, each whole before the next. A term among them stands a level below.
abbrev pub composition_of : List ℕ → Names → ℕ → ℕ → BuiltIn → List Argument → OrFault Tree
composition_of text names at level (word'.Plain m) [] = Ok (leaf (plain_leaf m))
composition_of text names at level (word'.Ordered m) (k ∷ []) = count_of text k.tree >>= λ k.
    Ok (leaf (ordered_leaf m k []))
composition_of text names at level (word'.Ordered m) (k ∷ o ∷ []) =
    count_of text k.tree >>= λ k. order_of text o.tree >>= λ order. Ok (leaf (ordered_leaf m k order))
composition_of text names at level (word'.Eliminator m) (s ∷ []) = score_argument text names s.tree >>= λ s.
    Ok (leaf (eliminator_leaf m s))
composition_of text names at level word'.Rev (m ∷ []) = m.term (level + 1) >>= λ m. Ok (rev m)
composition_of text names at level (word'.Pair composition) (m ∷ n ∷ []) =
    m.term (level + 1) >>= λ first. n.term (level + 1) >>= λ second. Ok (pair_tree composition first second)
composition_of text names at level (word'.Loop end) (k ∷ m ∷ []) = count_of text k.tree >>= λ k. m.term (level + 1)
    >>= λ body. Ok (loop (end_of end k) body)
composition_of text names at level _ _ = Err (fault WrongCountOfArguments at)

-- A built-in word: first it must be no score, then have as many arguments as it takes, then be not too deep.
abbrev pub built_in_term : List ℕ → Names → ℕ → ℕ → BuiltIn → List Argument → OrFault Tree
built_in_term text names at level w arguments =
    if is_only_score w then Err (fault WrongSort at)
    else (if takes w (length arguments)
    then (if nat_le level nesting_limit then composition_of text names at level w arguments else Err (fault TooDeep at))
    else Err (fault WrongCountOfArguments at))

-- A defined name stands for its term, and takes no arguments. Its own nesting counts.
abbrev pub defined_term : ℕ → ℕ → ℕ → Option Tree → OrFault Tree
defined_term at level n None = Err (fault UnknownName at)
defined_term at level n (Some t) =
    if n == 0
    then (if nat_le (level + nesting t) (nesting_limit + 1) then Ok t else Err (fault TooDeep at))
    else Err (fault WrongCountOfArguments at)

abbrev pub word_term : List ℕ → Names → ℕ → ℕ → List ℕ → List Argument → Option BuiltIn → OrFault Tree
word_term text names at level name arguments (Some w) = built_in_term text names at level w arguments
word_term text names at level name arguments None = defined_term at level (length arguments) (names name)

-- Where a term is wanted, at a level of nesting, from 1 on.
abbrev mutual
  pub term_at : List ℕ → Names → RawTree → ℕ → OrFault Tree
  term_at text names (number start end) level = Err (fault WrongSort start)
  term_at text names (bracket start members) level = Err (fault WrongSort start)
  term_at text names (word start end parts) level =
      word_term text names start level (span text start end) (arguments_of text names parts)
      (built_in_named (span text start end))

  pub arguments_of : List ℕ → Names → RawTrees → List Argument
  arguments_of text names none = []
  arguments_of text names (more t rest) = record { tree = t; term = λ level. term_at text names t level }
      ∷ arguments_of text names rest

-- a term that isn't too large
abbrev pub check_size : ℕ → Tree → OrFault Tree
check_size at t = if nat_le (size t) size_limit then Ok t else Err (fault TooLarge at)

-- The term of a whole tree, or its first fault; last that it is too large, at this place.
abbrev pub term_of : List ℕ → Names → ℕ → RawTree → OrFault Tree
term_of text names at t = term_at text names t 1 >>= check_size at

-- where a tree begins
abbrev pub first_place : RawTree → ℕ
first_place (word start end parts) = start
first_place (number start end) = start
first_place (bracket start members) = start
