pub mod Books
pub mod Entries
pub mod Listing
pub mod Printed
