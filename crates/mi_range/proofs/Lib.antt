pub mod NextLemmas
pub mod OthersLemmas
pub mod PassedLemmas
pub mod ReadingLemmas
pub mod ScanLemmas
pub mod SectionLemmas
pub mod TakeLemmas
