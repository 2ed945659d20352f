pub mod Findings
pub mod Counting
pub mod Drill
pub mod DrillResults
pub mod Pairs
pub use Rattle.vir_course.specs.Courses
pub use Rattle.vir_course.specs.Wordings
pub use Rattle.vir_course.specs.Works
