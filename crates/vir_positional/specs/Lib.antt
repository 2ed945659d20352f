pub mod WeightLists
pub mod Weights
pub mod Positional
pub mod Gains
pub use Rattle.vir_profile.specs.SocFiles
pub use Rattle.vir_mean.specs.Eliminators
pub use Rattle.vir_mean.specs.Lifts
