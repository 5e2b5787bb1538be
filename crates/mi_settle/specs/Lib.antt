pub mod Turns
pub mod Moving
pub mod Working
pub mod Splitters
pub mod Entries
pub mod Settling
pub mod Outcomes
pub mod Headlines
