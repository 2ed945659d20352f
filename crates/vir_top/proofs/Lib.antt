pub mod WritesLemmas
pub mod AnswerLemmas
pub mod StatusLemmas
pub mod HeadlineLemmas
pub mod ServedLemmas
pub mod DueLemmas
pub mod PairLemmas
pub mod BatchDueLemmas
