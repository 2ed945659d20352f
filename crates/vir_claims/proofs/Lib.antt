pub mod AnswerLemmas
pub mod ComposedTerms
pub mod FoundLemmas
