pub mod Nearing
pub mod Order
pub mod Taking
pub mod Walking
pub mod Querying
