pub mod ListLemmas
pub mod OrderLemmas
pub mod SearchLemmas
pub mod TestLemmas
