pub mod EndLemmas
pub mod GainedLemmas
pub mod ReplyLemmas
pub mod StepLemmas
