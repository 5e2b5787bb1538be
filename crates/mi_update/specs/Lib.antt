pub mod Deleting
pub mod Endings
pub mod Inserting
pub mod Stepping
