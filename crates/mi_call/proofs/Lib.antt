pub mod CallLemmas
pub mod ChooseLemmas
pub mod LoadingLemmas
pub mod MakeLemmas
pub mod MeaningLemmas
pub mod ScriptsLemmas
