pub mod Legal
pub mod Right
pub mod Want
pub mod Work
