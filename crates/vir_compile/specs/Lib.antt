pub mod Endings
pub mod Exec
pub mod StepsLeft
pub mod Calls
pub mod Laws
