pub mod Configuration
pub mod History
pub mod Permutations
pub mod Prefixes
pub mod Scripts
pub mod Sorting
pub mod Space
pub mod Vectors
