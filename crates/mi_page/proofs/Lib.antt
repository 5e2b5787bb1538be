pub mod HalfLemmas
pub mod NodeLemmas
pub mod OrderLemmas
pub mod PlaceLemmas
pub mod RouteLemmas
pub mod ShownLemmas
pub mod LawLemmas
