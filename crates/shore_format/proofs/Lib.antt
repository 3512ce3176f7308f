pub mod FrontLemmas
pub mod VolumeLemmas
pub mod PairLemmas
