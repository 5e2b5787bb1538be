pub mod SteppingLemmas
pub mod DeleteLemmas
pub mod InsertLemmas
pub mod FinishLemmas
pub mod OthersLemmas
