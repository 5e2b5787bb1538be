pub mod Actors
pub mod Boards
pub mod Floors
pub mod Kept
pub mod Marks
