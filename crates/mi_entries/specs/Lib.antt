pub mod Deaths
pub mod Actors
pub mod Records
pub mod Entries
pub mod Marks
pub mod Splits
