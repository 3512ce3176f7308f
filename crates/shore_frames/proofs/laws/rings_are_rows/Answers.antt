use Rattle.shore_frames.proofs.RingReads.{read_further}
use Rattle.shore_frames.specs.Rings.{written_at}
use Rattle.shore_frames.proofs.Turns.{whole_stream, from_further, is_written, seen_earlier}
use Rattle.std.proofs.Common.{◌+◌, arith}
use Rattle.shore_frames.proofs.laws.rings_are_rows.Goals as goal

pub returns-clause-first : goal.returns-clause-first
returns-clause-first c stream = whole_stream stream

pub returns-clause-turned : goal.returns-clause-turned
returns-clause-turned c stream place more some le = from_further stream place more some le

pub returns-clause-written : goal.returns-clause-written
returns-clause-written c stream bytes place behind some le one =
    seen_earlier stream bytes (written_at (place + behind) bytes stream) place behind some le (is_written stream bytes (place + behind) some (omega arith))

pub returns-clause-read : goal.returns-clause-read
returns-clause-read c stream place behind n some fits = read_further stream place behind n some fits
