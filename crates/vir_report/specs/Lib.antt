pub mod ResultText
pub mod ClaimTexts
pub use Rattle.vir_rules.specs.Texts
pub use Rattle.vir_rules.specs.Props
