pub mod DrawLemmas
pub mod WorkloadLemmas
pub mod FitLemmas
