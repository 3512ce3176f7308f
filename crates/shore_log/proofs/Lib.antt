pub mod ForceLemmas
pub mod CutLemmas
pub mod TextLemmas
pub mod MoveLemmas
pub mod FrameTexts
