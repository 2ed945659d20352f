pub mod Code
pub mod Depth
pub mod Valid
pub mod Listing
pub mod Places
pub mod Heights
