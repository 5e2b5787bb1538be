pub mod BeginLemmas
pub mod ScriptLemmas
pub mod SessionLemmas
