mod DoubtsThere
mod Losers
pub mod StageSteps
mod StolenPage
mod TwoCheckpoints
mod Worked
pub mod CanStore
pub mod CheckpointCrashes
pub mod CheckpointLogging
pub mod CheckpointedFixed
pub mod CheckpointedRuns
pub mod CheckpointedStays
pub mod Checkpointing
pub mod EventEntries
pub mod EventRecords
pub mod Events
pub mod Fixed
pub mod FormatsBehind
pub mod KeptBehind
pub mod KeptRooms
pub mod LockBounds
pub mod LockPlaces
pub mod LoggedIds
pub mod ManagerLogs
pub mod MovedAnchors
pub mod NotedStates
pub mod OpenedBehind
pub mod Opens
pub mod OwedRooms
pub mod PlainWorks
pub mod Prefixes
pub mod Redoing
pub mod RoomyEnds
pub mod RoomyMeant
pub mod Running
pub mod Runs
pub mod SlotCounts
pub mod SoundStores
pub mod SplitWorks
pub mod StateLosers
pub mod StaySteps
pub mod TableBounds
pub mod Undecided
pub mod UnderWay
pub mod Undoing
