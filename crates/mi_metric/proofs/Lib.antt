pub mod SpentLemmas
