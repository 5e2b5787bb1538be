pub mod QueryLemmas
pub mod ViewLemmas
