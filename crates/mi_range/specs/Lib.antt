pub mod Ranging
pub mod Taking
pub mod Opening
pub mod Leaves
pub mod Querying
