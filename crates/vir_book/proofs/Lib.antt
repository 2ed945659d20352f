pub mod BookLemmas
pub mod PropLemmas
pub mod LookupLemmas
pub mod RoundTrip
pub mod StepLemmas
pub mod ShorterLemmas
pub mod FuelLemmas
pub mod WithinLaws
