pub mod ElectionLines
pub mod GainLemmas
pub mod LiftedPlaces
pub mod NamedScores
pub mod SplitLaws
pub mod WeighedLines
pub mod WeightLaws
