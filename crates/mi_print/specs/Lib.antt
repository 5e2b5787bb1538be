pub mod Meaning
pub mod Render
pub mod Summary
