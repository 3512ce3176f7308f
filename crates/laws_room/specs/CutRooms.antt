-- The room of a log whose front is cut off. All is counted of the whole log: what its records cost, and what they may cost. A cut frees as much of the stream
-- as the records that it cuts off cost: so much more may be logged. Counted from the cut on, both are so much less.
use Rattle.std.specs.Prelude.{◌+◌, ◌-◌, ℕ}
use Rattle.laws_room.specs.LogRooms.{LogRoom}

-- records of this cost are cut off
abbrev pub cut_room : ℕ → LogRoom → LogRoom
cut_room freed room = record room { stream_bytes = room.stream_bytes + freed }

-- the room counted from the cut on: what is kept costs, and what the stream has
abbrev pub kept_room : ℕ → LogRoom → LogRoom
kept_room cut room = record room { kept = room.kept - cut; stream_bytes = room.stream_bytes - cut }
