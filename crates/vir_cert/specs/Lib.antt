pub mod Untils
pub mod Versions
pub mod Derivations
pub mod Properties
pub mod Certs
pub mod Texts
pub mod Seen
pub mod FirstReader
