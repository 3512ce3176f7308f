-- What transactions under way see of the records in place, under their locks. All of it is said of one record id at a time, and of
-- locks only what they let a transaction read and write. It is what makes strict two-phase locking over a tree of granules
-- serializable. This project's own.
use Rattle.std.specs.Prelude.{◌≡◌, ◌⊎◌, ℕ, List, [], ◌∷◌, None, IsSome}
use Rattle.std.specs.FinMap.{get}
use Rattle.shore_types.specs.declared.ids.Rid.{Rid}
use Rattle.shore_model.specs.declared.calls.Exchange.{Exchange}
use Rattle.shore_model.specs.declared.holds.Hold.{Hold}
use Rattle.shore_model.specs.Alone.{MayReplyAll, start}
use Rattle.shore_model.specs.Locks.{Harmony, MayRead, MayWrite}
use Rattle.shore_model.specs.Records.{Records, WriteSet, overlay}

-- the list has the element
abbrev pub IsAmong : {A : Type 0} → A → List A → Type 0
IsAmong x [] = ⊥
IsAmong x (y ∷ ys) = (y ≡ x) ⊎ IsAmong x ys

-- both maps have the same at each id of which P holds
abbrev pub AgreeWhere : (Rid → Type 0) → Records → Records → Type 0
AgreeWhere P R S = (id : Rid) → P id → get S id ≡ get R id

-- The replies stay right: a transaction that runs alone may have them on every map that agrees with the serial records at each id that
-- the transaction may read. By harmony no other transaction changes anything there, so its commit leaves them right. What the calls have
-- read need not be listed for this.
abbrev pub StayRight : ℕ → List Hold → ℕ → Records → List Exchange → Type 0
StayRight most held t now es = (S : Records) → AgreeWhere (MayRead held t) now S → MayReplyAll most S start es

-- How a transaction that has written W sees the records in place, R: at each id that it may read they are the serial records overlaid
-- by W. It holds a lock to write on each id of its write set.
pub record Sees (held : List Hold) (now R : Records) (t : ℕ) (W : WriteSet) : Type 0 where
  pub view : (id : Rid) → MayRead held t id → get R id ≡ get (overlay now W) id
  pub locked : (id : Rid) → IsSome (get W id) → MayWrite held t id

-- How the records in place, R, stand to the serial records under the locks of the transactions ts, each with its write set: the locks
-- are in harmony, each of ts sees its own writes over the serial records, and an id that none of them has written is serial.
pub record Stand (held : List Hold) (now R : Records) (ts : List ℕ) (writes : ℕ → WriteSet) : Type 0 where
  pub harmony : Harmony held
  pub each : (t : ℕ) → IsAmong t ts → Sees held now R t (writes t)
  pub others : (id : Rid) → ((t : ℕ) → IsAmong t ts → get (writes t) id ≡ None) → get R id ≡ get now id
