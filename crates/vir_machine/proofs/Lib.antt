pub mod Raised
pub mod Turns
pub mod Asked
pub mod Served
pub mod Parts
pub mod Steps
