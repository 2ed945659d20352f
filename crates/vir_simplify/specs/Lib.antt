pub mod Names
pub mod Equations
pub mod Meanings
pub mod Places
pub mod Steps
pub mod Workings
