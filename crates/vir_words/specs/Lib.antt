pub mod Command
pub mod WordNumbers
pub mod WordLists
pub mod WordProps
pub mod WordLeaves
pub mod WordWeights
