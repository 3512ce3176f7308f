pub mod InTurns
pub mod Lives
pub mod WorkedTurns
