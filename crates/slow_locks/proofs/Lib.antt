pub mod Harmonies
pub mod WaitLemmas
