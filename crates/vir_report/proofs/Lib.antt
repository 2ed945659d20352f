pub mod SpacedLemmas
pub mod ChildrenLemmas
pub mod LineLemmas
