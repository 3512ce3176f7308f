use Rattle.std.proofs.Common.{◌≡◌, ◌-◌, ◌+◌, ◌<◌, ◌≤◌, List, IsTrue, length}
use Rattle.shore_disk.specs.Device.{size, seen}
use Rattle.shore_model.specs.declared.log_records.LogRecord.{LogRecord}
use Rattle.shore_frames.specs.Places.{from_place, stream_of}
use Rattle.shore_frames.specs.Streams.{IsStreamOf}
use Rattle.shore_frames.proofs.StreamLemmas.{IsRead}
use Rattle.shore_frames.proofs.reading.read_stream.Given as goal

abbrev pub invariant-loop-frames : goal.invariant-loop-frames
invariant-loop-frames g l = record {
  inside : l.at < l.stream_bytes;
  same : IsTrue (g.D.Disk.is_honest l.initial.device) → g.D.Disk.history l.device ≡ g.D.Disk.history l.initial.device;
  honest : g.D.Disk.is_honest l.device ≡ g.D.Disk.is_honest l.initial.device;
  size : size (g.D.Disk.history l.device) ≡ size (g.D.Disk.history l.initial.device);
  few : length l.records.items ≤ l.at;
  count : g.D.Disk.faults l.device ≡ g.D.Disk.faults l.initial.device;
  read : (gs : List (List LogRecord)) × IsStreamOf l.tail l.place gs (record { records = l.records; frames = l.frames; end = l.place + l.at })
      × (IsTrue (g.D.Disk.is_honest l.initial.device) → IsRead l.tail (from_place l.place (stream_of (seen (g.D.Disk.history l.initial.device)))) gs (l.tail + length l.records.items) l.at);
}

abbrev pub decreases-loop-frames : goal.decreases-loop-frames
decreases-loop-frames g l = l.stream_bytes - l.at
