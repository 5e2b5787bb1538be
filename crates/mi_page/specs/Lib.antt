pub mod Entries
pub mod Keys
pub mod Nodes
pub mod Pages
pub mod Routes
