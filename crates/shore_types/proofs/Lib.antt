pub mod Equalities
pub mod PairLemmas
pub mod RunLemmas
