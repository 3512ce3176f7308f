-- The stream of a log as a ring. Places rise for ever; place p stands at byte p modulo the stream's length. What is read from a place on is the
-- stream once around: so everything that is said of frames in a row holds of a ring as well.
use Rattle.std.specs.Prelude.{ℕ, ◌+◌, ◌%◌, List, ◌++◌, length, take, drop}
use Rattle.shore_types.specs.declared.layout.TheConstants.{LOG_FRONT_BYTES}

-- bytes from the k-th on, and then those before it
abbrev pub turned_by : ℕ → List ℕ → List ℕ
turned_by k bytes = drop k bytes ++ take k bytes

-- the stream from a place on, once around
abbrev pub from_place : ℕ → List ℕ → List ℕ
from_place place stream = turned_by (place % length stream) stream

-- the stream of an image of the device
abbrev pub stream_of : List ℕ → List ℕ
stream_of image = drop LOG_FRONT_BYTES image

-- the byte of the device at which a place stands, where the stream has so many bytes
abbrev pub byte_of : ℕ → ℕ → ℕ
byte_of stream_bytes place = LOG_FRONT_BYTES + place % stream_bytes
