pub mod Forests
pub mod Changes
pub mod Paths
