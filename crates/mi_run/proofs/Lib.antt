pub mod NumberLemmas
pub mod CrewLemmas
pub mod GatherLemmas
pub mod TendLemmas
pub mod HeadlineLemmas
