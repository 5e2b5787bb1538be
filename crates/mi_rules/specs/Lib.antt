pub mod Answers
pub mod Passing
pub mod Spans
pub mod Standing
