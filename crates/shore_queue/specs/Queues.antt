-- What was sent is what was received, and then what the queue holds. One pass at most may send, and it has the list of what was sent; so for what was received. Any other pass may know the first of what was sent.
use Rattle.std.specs.Prelude.{◌≡◌, ◌<◌, ◌+◌, ℕ, Bool, true, List, [], ◌∷◌, ◌++◌, length}
use mathlib.Core.Option.{some}
use lib.ListN.{get_elem?}
use Rattle.shore_model.specs.declared.log_records.LogRecord.{LogRecord}
use Rattle.shore_log.specs.declared.tail.PlainTail.{PlainTail}
use Rattle.shore_log.specs.PlainTails.{first_of, waiting_in}
use Rattle.shore_queue.specs.declared.queue.Ends.{Ends}

abbrev pub ends : Bool → Bool → List LogRecord → List LogRecord → Ends
ends sends receives sent got = record { sends = sends; receives = receives; sent = sent; got = got }

-- the records of log buffers, one behind another
abbrev pub records_in : List PlainTail → List LogRecord
records_in [] = []
records_in (t ∷ ts) = waiting_in t ++ records_in ts

-- none is empty, and their numbers follow each other, the first of them this one
abbrev pub AreInTurn : ℕ → List PlainTail → Type 0
AreInTurn n [] = Unit {0}
AreInTurn n (t ∷ ts) = (first_of t ≡ n) × (0 < length (waiting_in t)) × AreInTurn (n + length (waiting_in t)) ts

-- What a pass with this number knows of who sends and who receives, and of what they did.
pub record Knows (sender receiver : ℕ) (sent got : List LogRecord) (pass : ℕ) (v : Ends) : Type 0 where
  pub sends : v.sends ≡ true → (pass ≡ sender) × (v.sent ≡ sent)
  pub receives : v.receives ≡ true → (pass ≡ receiver) × (v.got ≡ got)
  -- what it knows to be sent, perhaps from long ago
  pub knows : (rest : List LogRecord) × (sent ≡ v.sent ++ rest)

pub record Relays (first : ℕ) (items : List PlainTail) (views : List Ends) : Type 0 where
  pub sender : ℕ
  pub receiver : ℕ
  pub sent : List LogRecord
  pub got : List LogRecord
  pub parts : sent ≡ got ++ records_in items
  pub turn : AreInTurn (first + length got) items
  pub each : (pass : ℕ) (v : Ends) → get_elem? views pass ≡ some v → Knows sender receiver sent got pass v
