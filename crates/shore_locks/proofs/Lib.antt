mod Alone
pub mod AtOnce
pub mod Answered
pub mod Buckets
mod Cached
pub mod ExclusiveKeys
pub mod Exclusives
mod Firsts
mod Lasts
mod Quiets
pub mod LawLemmas
pub mod Outcomes
pub mod Tables
pub mod Tellings
pub mod Unawaited
mod Inventories
pub use Rattle.shore_nodes.proofs.Counts
pub use Rattle.shore_nodes.proofs.Entering
pub use Rattle.shore_nodes.proofs.Fits
pub use Rattle.shore_nodes.proofs.Keys
pub use Rattle.shore_nodes.proofs.Members
pub use Rattle.shore_nodes.proofs.Others
pub use Rattle.shore_nodes.proofs.Passes
pub mod Blocked
