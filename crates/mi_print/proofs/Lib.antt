pub mod CutLemmas
pub mod EventLemmas
pub mod LineLemmas
pub mod LoopLemmas
pub mod MeaningLemmas
pub mod NumberLemmas
pub mod ReplyLemmas
pub mod RunLemmas
