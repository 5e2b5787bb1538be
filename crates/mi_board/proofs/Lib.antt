pub mod ActorLemmas
pub mod BoardLemmas
pub mod CrowdLemmas
pub mod FloorLemmas
pub mod FoundLemmas
pub mod MarkLemmas
pub mod RetiredLemmas
pub mod StepLemmas
