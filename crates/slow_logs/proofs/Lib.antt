pub mod LawfulScans
pub mod AfterCommit
pub mod AfterPrepare
pub mod AfterOthers
