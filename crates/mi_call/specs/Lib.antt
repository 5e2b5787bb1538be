pub mod Calls
pub mod Inputs
pub mod Loading
pub mod Meaning
pub mod Statuses
pub mod Choosing
pub mod Making
pub mod Commands
