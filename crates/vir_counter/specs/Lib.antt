pub mod Calls
pub mod Kinds
pub mod PositionalKinds
pub mod Twos
pub use Rattle.vir_altset.specs.Sets
pub use Rattle.vir_profile.specs.SocFiles
pub use Rattle.vir_mean.specs.Modules
