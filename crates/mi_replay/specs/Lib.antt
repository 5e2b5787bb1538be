pub mod InOrder
pub mod Operations
pub mod Outcomes
pub mod Rounds
pub mod Seats
pub mod Spending
pub mod Tables
