pub mod CoverLemmas
pub mod ApartLemmas
pub mod PigeonholeLemmas
pub mod ChoiceLemmas
