pub mod Claims
pub mod Holdings
pub use Rattle.vir_course.specs.Courses
pub use Rattle.vir_course.specs.Wordings
