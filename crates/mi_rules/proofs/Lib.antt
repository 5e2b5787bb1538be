pub mod AnswerLemmas
pub mod BoundLemmas
pub mod CandidateLemmas
pub mod RuleLemmas
pub mod StandingLemmas
pub mod BelowLemmas
