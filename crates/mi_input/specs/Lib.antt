pub mod Faults
pub mod Numbers
pub mod Records
pub mod Schedules
pub mod Scripts
pub mod Settings
pub mod Vectors
