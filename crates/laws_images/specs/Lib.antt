pub mod Moments
pub mod StandsFor
pub mod StandsBehind
pub mod StandsBeside
pub mod MomentsBehind
