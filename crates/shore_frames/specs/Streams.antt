-- What is read of a stream from a place on: its bytes, its frames as a list of their places, and their records.
use Rattle.std.specs.Prelude.{◌≡◌, ℕ, ◌+◌, List, [], ◌∷◌, length}
use Rattle.shore_types.specs.declared.layout.TheConstants.{FRAME_SHARE}
use Rattle.shore_disk.specs.Device.{DeviceHistory, seen}
use Rattle.shore_model.specs.declared.log_records.LogRecord.{LogRecord}
use Rattle.shore_logrec.specs.Text.{texts}
use Rattle.shore_frames.specs.declared.reading.FrameAt.{FrameAt}
use Rattle.shore_frames.specs.declared.reading.Stream.{Stream}
use Rattle.shore_frames.specs.declared.view.View.{View}
use Rattle.shore_frames.specs.Frames.{AreGroups, joined, text}
use Rattle.shore_frames.specs.Places.{from_place, stream_of}

-- what is read of a device in a view
abbrev pub view_of : View → DeviceHistory → List ℕ
view_of view h = from_place view.place (stream_of (seen h))

-- the frames of these groups, with the numbers of their first records and their places
abbrev pub index_of : ℕ → ℕ → List (List LogRecord) → List FrameAt
index_of first place [] = []
index_of first place (g ∷ gs) = (record { first = first; place = place }) ∷ index_of (first + length g) (place + (FRAME_SHARE + length (texts g))) gs

-- What was read are these groups, from a tail at a place on: their records, their frames, and the place behind them.
pub record IsStreamOf (tail place : ℕ) (groups : List (List LogRecord)) (s : Stream) : Type 0 where
  pub are : AreGroups tail groups
  pub records : s.records.items ≡ joined groups
  pub frames : s.frames.items ≡ index_of tail place groups
  pub end : s.end ≡ place + length (text tail groups)
