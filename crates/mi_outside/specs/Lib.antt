pub mod Contents
pub mod Folders
pub mod Kept
pub mod Outside
pub mod States
