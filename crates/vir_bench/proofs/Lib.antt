pub mod FullBenchLemmas
