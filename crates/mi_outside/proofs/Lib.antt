pub mod ContentsLemmas
pub mod KeptLemmas
pub mod SendingLemmas
