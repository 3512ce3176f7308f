pub mod LoggedHeaps
pub mod HeapRecoveries
