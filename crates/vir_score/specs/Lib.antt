pub use Rattle.vir_altset.specs.Sets
pub use Rattle.vir_profile.specs.SocFiles
pub use Rattle.vir_mean.specs.Eliminators
pub use Rattle.vir_mean.specs.Members
pub use Rattle.vir_mean.specs.Numbers
pub use Rattle.vir_mean.specs.Scores
