-- What a bench is seen as, which of its counters serves a module, and how numbers of calls rise.
use Rattle.std.specs.Prelude.{ℕ, suc, Bool, if◌then◌else◌, List, [], ◌∷◌, map}
use Rattle.std.specs.List.{list_any}
use Rattle.vir_term.specs.declared.leaf.LeafKind.{LeafKind}
use Rattle.vir_counter.specs.Kinds.{has_kind}
use Rattle.vir_counter.specs.Calls.{risen}

-- a counter as its kinds and its number of calls
pub record CounterView : Type 0 where
  pub kinds : List LeafKind
  pub calls : ℕ

-- a list of counters, each as its kinds and its number of calls
abbrev pub views : {B : Type 0} → (B → List LeafKind) → (B → ℕ) → List B → List CounterView
views kinds made counters = map (λ counter. record { kinds = kinds counter; calls = made counter }) counters

-- the kinds that each counter serves
abbrev pub kinds_of : List CounterView → List (List LeafKind)
kinds_of counters = map (λ counter. counter.kinds) counters

-- the number of calls of each counter
abbrev pub calls_of : List CounterView → List ℕ
calls_of counters = map (λ counter. counter.calls) counters

-- whether some counter serves a kind
abbrev pub is_served : List (List LeafKind) → LeafKind → Bool
is_served served kind = list_any (λ kinds. has_kind kinds kind) served

-- the index of the first counter that serves a kind, or the number of counters where none does
abbrev pub first_serving : List (List LeafKind) → LeafKind → ℕ
first_serving [] kind = 0
first_serving (kinds ∷ rest) kind = if has_kind kinds kind then 0 else suc (first_serving rest kind)

-- the calls of each counter have risen by f of its index, where the first of these has index n
abbrev pub raised_from : ℕ → (ℕ → ℕ) → List CounterView → List CounterView
raised_from n f [] = []
raised_from n f (counter ∷ rest) = record { kinds = counter.kinds; calls = risen counter.calls (f n) }
    ∷ raised_from (suc n) f rest

-- the calls of each counter have risen by f of its index
abbrev pub raised : (ℕ → ℕ) → List CounterView → List CounterView
raised f counters = raised_from 0 f counters
