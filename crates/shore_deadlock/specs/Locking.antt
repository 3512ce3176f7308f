-- A lock that is taken along a path, waited for, and what becomes of the cycles that its wait closes.
use Rattle.std.specs.Prelude.{◌≡◌, ◌⊎◌, ◌++◌, ℕ, List, [], ◌∷◌, true, false, Some, Any, Contains, Result, Ok, Err, filter, not, is_some, length, ◌&&◌, ◌==◌}
use Rattle.shore_types.specs.declared.faults.Fault.{Fault}
use Rattle.shore_types.specs.declared.faults.Fault.TheVariants.{Memory}
use Rattle.shore_types.specs.declared.locking.Granule.{Granule}
use Rattle.shore_types.specs.declared.locking.Mode.{Mode}
use Rattle.shore_model.specs.declared.requests.Request.{Request}
use Rattle.shore_model.specs.Requests.{HasNoCycle}
use Rattle.shore_locks.specs.Grants.{cancelled, granted, withdrawn}
use Rattle.shore_locks.specs.Orderly.{IsOrderly}
use Rattle.shore_locks.specs.Tables.{Table, is_waiting, waiting_request}
use Rattle.shore_path.specs.Acquires.{NoneWeaker}
use Rattle.shore_path.specs.Rooted.{AreRooted}
use Rattle.shore_path.specs.Walks.{acquired}
use Rattle.shore_path.specs.declared.answers.Acquired.{Acquired}
use Rattle.shore_path.specs.declared.answers.Acquired.TheVariants as acquire
use Rattle.shore_path.specs.declared.answers.OnConflict.TheVariants.{Wait}
use Rattle.shore_deadlock.specs.declared.locking.Locked.{Locked}
use Rattle.shore_deadlock.specs.declared.locking.Locked.TheVariants as locked
use Rattle.shore_cycles.specs.declared.victims.Victim.{Victim}
use Rattle.shore_cycles.specs.Blockers.{is_victim}
use Rattle.shore_cycles.specs.Cycles.{AreVictims, IsOnNoCycle, after_victims}

-- the acquire comes to this answer and these requests
abbrev pub Acquires : Table → ℕ → Granule → Mode → Result Acquired Fault → List Request → Type 0
Acquires table t target mode answer new = acquired Wait table t target mode ≡ record { answer = answer; requests = new }

-- an acquire of a transaction that did not wait has let it wait, and left the table so
pub record IsLetWait (before : Table) (t : ℕ) (target : Granule) (mode : Mode) (now : Table) : Type 0 where
  pub orderly : IsOrderly before.requests
  pub quiet : is_waiting t before.requests ≡ false
  pub limit : now.limit ≡ before.limit
  pub granule : Granule
  pub acquires : Acquires before t target mode (Ok (acquire.Waiting granule)) now.requests

-- the cycles that pass a transaction are broken by these victims
pub record IsBroken (rs : List Request) (t : ℕ) (vs : List Victim) (new : List Request) : Type 0 where
  pub victims : AreVictims rs t vs
  pub after : new ≡ after_victims vs rs
  pub broken : IsOnNoCycle new t

-- the acquire waits, and the cycles that pass the transaction then are broken
pub record IsRound (table : Table) (t : ℕ) (target : Granule) (mode : Mode) (vs : List Victim) (new : List Request) : Type 0 where
  pub granule : Granule
  pub waiting : List Request
  pub acquires : Acquires table t target mode (Ok (acquire.Waiting granule)) waiting
  pub broken : IsBroken waiting t vs new

-- .. so that the transaction waits no more, and is none of the victims: it may go on
pub record IsLetThrough (table : Table) (t : ℕ) (target : Granule) (mode : Mode) (vs : List Victim) (new : List Request) : Type 0 where
  pub round : IsRound table t target mode vs new
  pub spared : is_victim vs t ≡ false
  pub quiet : is_waiting t new ≡ false

-- .. or so that it waits on, or is a victim itself
abbrev pub AnswersBroken : Locked → ℕ → List Victim → List Request → Type 0
AnswersBroken locked.Done t vs new = ⊥
AnswersBroken (locked.Waiting g) t vs new = (is_victim vs t ≡ false) × ((r : Request) × (waiting_request t new ≡ Some r) × (r.granule ≡ g))
AnswersBroken locked.Deadlock t vs new = is_victim vs t ≡ true

-- an allocation failed when the acquire waited, which it does no more then
abbrev pub RanOut : Table → ℕ → Granule → Mode → List Request → Type 0
RanOut table t target mode new =
    (g : Granule) × (waiting : List Request) × Acquires table t target mode (Ok (acquire.Waiting g)) waiting × (new ≡ cancelled t waiting)

-- what is answered at the end, with the victims of the last round and the requests that are left
abbrev pub Ends : Table → ℕ → Granule → Mode → Result Locked Fault → List Victim → List Request → Type 0
Ends table t target mode (Ok locked.Done) vs new = Acquires table t target mode (Ok acquire.Done) new × (vs ≡ [])
Ends table t target mode (Ok (locked.Waiting g)) vs new = IsRound table t target mode vs new × AnswersBroken (locked.Waiting g) t vs new
Ends table t target mode (Ok locked.Deadlock) vs new = IsRound table t target mode vs new × AnswersBroken locked.Deadlock t vs new
Ends table t target mode (Err fault) vs new = (Acquires table t target mode (Err fault) new ⊎ ((fault ≡ Memory) × RanOut table t target mode new)) × (vs ≡ [])

-- rounds, each of which let the transaction through, and all their victims
abbrev pub AreRounds : Table → ℕ → Granule → Mode → List (List Victim) → List Victim → List Request → Type 0
AreRounds table t target mode [] all new = (table.requests ≡ new) × (all ≡ [])
AreRounds table t target mode (vs ∷ rounds) all new =
    (mid : List Request) × (later : List Victim) × IsLetThrough table t target mode vs mid
    × AreRounds (record { limit = table.limit; requests = mid }) t target mode rounds later new × (all ≡ vs ++ later)

-- what a lock comes to: rounds, and an end
pub record Settles (old new : Table) (t : ℕ) (target : Granule) (mode : Mode) (answer : Result Locked Fault) (victims : List Victim) : Type 0 where
  pub rounds : List (List Victim)
  pub before : List Victim
  pub mid : List Request
  pub last : List Victim
  pub go : AreRounds old t target mode rounds before mid
  pub ends : Ends (record { limit = old.limit; requests = mid }) t target mode answer last new.requests
  pub told : victims ≡ before ++ last
  pub limit : new.limit ≡ old.limit

-- what a transaction's lock keeps: no cycle is closed; nobody's lock becomes weaker; each request keeps its intentions; and of the others nobody
-- begins to wait
pub record Keeps (t : ℕ) (old new : List Request) : Type 0 where
  pub free : HasNoCycle old → HasNoCycle new
  pub none_weaker : NoneWeaker old new
  pub rooted : AreRooted old → AreRooted new
  pub others : (u : ℕ) → (u ≡ t → ⊥) → is_waiting u old ≡ false → is_waiting u new ≡ false

-- a request stays as it was or, if it waited, holds what it wanted: it was granted
abbrev pub StaysOrIsGranted : List Request → Request → Type 0
StaysOrIsGranted new r = Contains new r ⊎ ((is_some r.wanted ≡ true) × Contains new (granted r))

-- a request stood there before, or it waited and holds what it wanted, or it is a victim's and wants no more than it holds
abbrev pub CameFrom : List Victim → List Request → Request → Type 0
CameFrom vs old r =
    Contains old r ⊎ (Any (λ q. (is_some q.wanted ≡ true) × (r ≡ granted q)) old ⊎ ((is_victim vs r.txn ≡ true) × Any (λ q. r ≡ withdrawn q) old))

-- no request of others is weakened, only granted: each but those of victims stays or is granted, and none comes from elsewhere
pub record OnlyGrantsOthers (t : ℕ) (vs : List Victim) (old new : List Request) : Type 0 where
  pub stays : (r : Request) → Contains old r → (r.txn ≡ t → ⊥) → is_victim vs r.txn ≡ false → StaysOrIsGranted new r
  pub comes : (r : Request) → Contains new r → (r.txn ≡ t → ⊥) → CameFrom vs old r

-- how many requests of others wait
abbrev pub others_waiting : ℕ → List Request → ℕ
others_waiting t rs = length (filter (λ r. not (r.txn == t) && is_some r.wanted) rs)
