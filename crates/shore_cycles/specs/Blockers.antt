-- Whom a transaction waits for, as a search of the waits-for graph needs it: those that refuse its request, and those that wait ahead.
use Rattle.std.specs.Prelude.{◌≡◌, ◌==◌, ◌++◌, ℕ, List, [], ◌∷◌, Bool, false, cond, Option, None, Some, All}
use Rattle.std.specs.List.{list_any}
use Rattle.shore_model.specs.declared.requests.Request.{Request}
use Rattle.shore_locks.specs.Tables.{holders_at, waiters_at, waiting_request}
use Rattle.shore_locks.specs.Grants.{refuses}
use Rattle.shore_cycles.specs.declared.victims.Victim.{Victim}

-- the transaction is one of the victims
abbrev pub is_victim : List Victim → ℕ → Bool
is_victim victims t = list_any (λ v. v.txn == t) victims

-- none of the transactions is a victim
abbrev pub AreNoVictims : List Victim → List ℕ → Type 0
AreNoVictims victims ts = All (λ t. is_victim victims t ≡ false) ts

-- the transaction is in the list
abbrev pub is_among : List ℕ → ℕ → Bool
is_among ts t = list_any (λ u. u == t) ts

-- whose requests refuse the waiter
abbrev pub refusing : Request → List Request → List ℕ
refusing w [] = []
refusing w (other ∷ others) = cond (refuses w other) (other.txn ∷ refusing w others) (refusing w others)

-- whose come before the waiter's in a queue
abbrev pub ahead : Request → List Request → List ℕ
ahead w [] = []
ahead w (q ∷ queue) = cond (q.txn == w.txn) [] (q.txn ∷ ahead w queue)

-- whom a waiting request is stopped by
abbrev pub stoppers : List Request → Option Request → List ℕ
stoppers rs None = []
stoppers rs (Some w) = refusing w (holders_at w.granule rs) ++ refusing w (waiters_at w.granule rs) ++ ahead w (waiters_at w.granule rs)

-- .. and so whom a transaction is
abbrev pub blockers : ℕ → List Request → List ℕ
blockers t rs = stoppers rs (waiting_request t rs)
