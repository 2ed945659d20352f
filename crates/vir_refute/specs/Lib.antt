pub mod Cases
pub mod Violations
pub mod Judged
pub mod ReasonNames
