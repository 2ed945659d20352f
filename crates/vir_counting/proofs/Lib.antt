pub mod RunLemmas
pub mod WorkLemmas
pub mod ReportLemmas
pub mod DrillLemmas
pub mod DrillRunLemmas
