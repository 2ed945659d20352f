pub mod DueLemmas
pub mod PieceLemmas
pub mod TextLemmas
