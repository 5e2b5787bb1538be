pub mod Shown
pub mod Clusters
pub mod Entries
pub mod Keys
pub mod Ranges
