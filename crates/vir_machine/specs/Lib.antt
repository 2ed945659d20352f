pub mod Bench
pub mod Uses
pub mod Asked
pub mod Runs
pub use Rattle.vir_counter.specs.Calls
pub use Rattle.vir_counter.specs.Kinds
pub use Rattle.vir_mean.specs.Meaning
