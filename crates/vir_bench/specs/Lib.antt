pub mod FullBench
pub mod Exits
pub use Rattle.vir_top.specs.Calls
pub use Rattle.vir_top.specs.CommandCourses
pub use Rattle.vir_top.specs.Delivery
pub use Rattle.vir_top.specs.Headline
pub use Rattle.vir_top.specs.Printed
