pub mod Caring
pub mod Claims
pub mod Inserts
pub mod Jobs
pub mod Wanting
