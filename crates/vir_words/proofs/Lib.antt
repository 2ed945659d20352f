pub mod WordLemmas
pub mod ListLemmas
pub mod PropLemmas
pub mod LeafLemmas
pub mod CommandLemmas
