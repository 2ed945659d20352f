pub mod Cells
pub mod ReadFiles
