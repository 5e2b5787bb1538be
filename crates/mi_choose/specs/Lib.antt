pub mod Covering
pub mod Farthest
pub mod Nearest
