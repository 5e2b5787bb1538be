pub mod MeasuringLemmas
pub mod OrderingLemmas
