pub mod Additions
pub mod Marks
pub mod Pairs
pub mod Places
pub mod Table
pub use Rattle.vir_profile.specs.SocFiles
