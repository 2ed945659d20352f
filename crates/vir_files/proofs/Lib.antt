pub mod RuleLemmas
pub mod CertificateLemmas
pub mod TextLemmas
pub mod FedLemmas
pub mod ContentLemmas
pub mod PerformLemmas
pub mod CallLemmas
pub mod ThenLemmas
