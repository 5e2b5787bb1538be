pub mod HistoryLemmas
pub mod PermutationLemmas
pub mod PivotLemmas
pub mod PrefixLemmas
pub mod SortingLemmas
pub mod LiveLemmas
