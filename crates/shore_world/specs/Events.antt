-- The events that are served as yet.
use Rattle.shore_types.specs.declared.ids.PageId.{PageId}
use Rattle.shore_disk.specs.declared.device.Disk as disk
use Rattle.shore_log.specs.declared.tail.Tail as tail
use Rattle.shore_model.specs.Calls.{IsServed}
use Rattle.shore_core.specs.declared.core_calls.Core.{Core}
use Rattle.shore_core.specs.Replies.{Reads, ReadsWaiting, forced_at}
use Rattle.shore_world.specs.declared.event.Event.{Event}
use Rattle.shore_world.specs.declared.event.Event.TheVariants as event

-- a call that is served, and every other event
abbrev pub IsServedEvent : Event → Type 0
IsServedEvent (event.Call session call) = IsServed call
IsServedEvent (event.Resume session) = Unit {0}
IsServedEvent (event.GiveUp session) = Unit {0}
IsServedEvent (event.Ask ticket) = Unit {0}
IsServedEvent event.ForceStage = Unit {0}
IsServedEvent event.ForceOpen = Unit {0}
IsServedEvent event.FlushStep = Unit {0}
IsServedEvent event.CheckpointStep = Unit {0}
IsServedEvent event.CutTrail = Unit {0}

-- an event that owns memory
abbrev pub IsCall : Event → Type 0
IsCall (event.Call session call) = Unit {0}
IsCall (event.Resume session) = ⊥
IsCall (event.GiveUp session) = ⊥
IsCall (event.Ask ticket) = ⊥
IsCall event.ForceStage = ⊥
IsCall event.ForceOpen = ⊥
IsCall event.FlushStep = ⊥
IsCall event.CheckpointStep = ⊥
IsCall event.CutTrail = ⊥

-- an event that is no step of a force or of a checkpoint: it calls the volume at most, and an ask and a cut of the trail no device
abbrev pub IsOfPages : Event → Type 0
IsOfPages (event.Call session call) = Unit {0}
IsOfPages (event.Resume session) = Unit {0}
IsOfPages (event.GiveUp session) = Unit {0}
IsOfPages (event.Ask ticket) = Unit {0}
IsOfPages event.ForceStage = ⊥
IsOfPages event.ForceOpen = ⊥
IsOfPages event.FlushStep = Unit {0}
IsOfPages event.CheckpointStep = ⊥
IsOfPages event.CutTrail = Unit {0}

-- a step of a force: it calls the log device at most
abbrev pub IsOfForce : Event → Type 0
IsOfForce (event.Call session call) = ⊥
IsOfForce (event.Resume session) = ⊥
IsOfForce (event.GiveUp session) = ⊥
IsOfForce (event.Ask ticket) = ⊥
IsOfForce event.ForceStage = Unit {0}
IsOfForce event.ForceOpen = Unit {0}
IsOfForce event.FlushStep = ⊥
IsOfForce event.CheckpointStep = ⊥
IsOfForce event.CutTrail = ⊥

-- a step of a checkpoint: it calls the log device at most, and that at the move of the anchor alone
abbrev pub IsOfCheckpoint : Event → Type 0
IsOfCheckpoint (event.Call session call) = ⊥
IsOfCheckpoint (event.Resume session) = ⊥
IsOfCheckpoint (event.GiveUp session) = ⊥
IsOfCheckpoint (event.Ask ticket) = ⊥
IsOfCheckpoint event.ForceStage = ⊥
IsOfCheckpoint event.ForceOpen = ⊥
IsOfCheckpoint event.FlushStep = ⊥
IsOfCheckpoint event.CheckpointStep = Unit {0}
IsOfCheckpoint event.CutTrail = ⊥

-- an event that neither makes a call nor goes on with one: a wait that is to be taken back, an ask, a cut of the trail, or a step of a force, of the flush or of a checkpoint
abbrev pub IsNoCall : Event → Type 0
IsNoCall (event.Call session call) = ⊥
IsNoCall (event.Resume session) = ⊥
IsNoCall (event.GiveUp session) = Unit {0}
IsNoCall (event.Ask ticket) = Unit {0}
IsNoCall event.ForceStage = Unit {0}
IsNoCall event.ForceOpen = Unit {0}
IsNoCall event.FlushStep = Unit {0}
IsNoCall event.CheckpointStep = Unit {0}
IsNoCall event.CutTrail = Unit {0}

-- the pages of the volume that an event of a core may read: going on with a call may read what the call may
abbrev pub ReadBy : {T V : Type 0} {G : tail.Ghosts T} {H : disk.Ghosts V} → Core T V G H → Event → PageId → Type 0
ReadBy core (event.Call session call) page = Reads call page
ReadBy core (event.Resume session) page = ReadsWaiting core session page
ReadBy core (event.GiveUp session) page = ⊥
ReadBy core (event.Ask ticket) page = ⊥
ReadBy core event.ForceStage page = ⊥
ReadBy core event.ForceOpen page = ⊥
ReadBy core event.FlushStep page = ⊥
ReadBy core event.CheckpointStep page = ⊥
ReadBy core event.CutTrail page = ⊥

-- When an event of a core has to need the force that it asks for: a call when it says so, and every other event as it begins.
abbrev pub force_needed_at : {T V : Type 0} {G : tail.Ghosts T} {H : disk.Ghosts V} → Event → Core T V G H → Core T V G H → Core T V G H
force_needed_at (event.Call session call) old new = forced_at call old new
force_needed_at (event.Resume session) old new = old
force_needed_at (event.GiveUp session) old new = old
force_needed_at (event.Ask ticket) old new = old
force_needed_at event.ForceStage old new = old
force_needed_at event.ForceOpen old new = old
force_needed_at event.FlushStep old new = old
force_needed_at event.CheckpointStep old new = old
force_needed_at event.CutTrail old new = old
