pub mod ClusterLemmas
pub mod DigitLemmas
pub mod KeyLemmas
pub mod FitLemmas
