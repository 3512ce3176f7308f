-- Rounds of a lock one after another, and its end.
use Rattle.std.proofs.Common.{◌≡◌, ◌<◌, ◌≤◌, ◌++◌, inr, ℕ, List, [], ◌∷◌, true, false, Option, None, Some, refl, ap, sym, subst, ◌∙◌, append_assoc, arith}
use Rattle.std.specs.Prelude.{Result, Ok, Err, IfOk, IfErr, IfSome, IfNone}
use Rattle.std.proofs.lemmas.List.{append-nil}
use Rattle.shore_types.specs.declared.faults.Fault.{Fault}
use Rattle.shore_types.specs.declared.faults.Fault.TheVariants as fault
use Rattle.shore_types.specs.declared.locking.Granule.{Granule}
use Rattle.shore_types.specs.declared.locking.Mode.{Mode}
use Rattle.shore_model.specs.declared.requests.Request.{Request}
use Rattle.shore_model.specs.Requests.{HasNoCycle}
use Rattle.shore_locks.specs.Grants.{cancelled}
use Rattle.shore_locks.specs.Orderly.{IsOrderly}
use Rattle.shore_locks.specs.Tables.{Table, is_waiting}
use Rattle.shore_path.specs.Walks.{HasOutcome, acquired}
use Rattle.shore_path.specs.declared.answers.Acquired.{Acquired}
use Rattle.shore_path.specs.declared.answers.Acquired.TheVariants as acquire
use Rattle.shore_path.specs.declared.answers.OnConflict.TheVariants.{Wait}
use Rattle.shore_deadlock.specs.declared.locking.Locked.{Locked}
use Rattle.shore_deadlock.specs.declared.locking.Locked.TheVariants as locked
use Rattle.shore_cycles.specs.declared.victims.Victim.{Victim}
use Rattle.shore_cycles.specs.Blockers.{is_victim}
use Rattle.shore_cycles.specs.Cycles.{IsOnEachCycle}
use Rattle.shore_deadlock.specs.Locking.{Acquires, AnswersBroken, AreRounds, Ends, IsBroken, IsLetThrough, IsRound, Keeps, Settles, others_waiting}
use Rattle.shore_deadlock.proofs.Lockings.{IsGentle, fewer_broken, keeps_broken, keeps_cancelled}

-- the rounds that went so far
pub record Gone (old : Table) (t : ℕ) (target : Granule) (mode : Mode) (all : List Victim) (now : Table) : Type 0 where
  pub rounds : List (List Victim)
  pub go : AreRounds old t target mode rounds all now.requests
  pub limit : now.limit ≡ old.limit

pub none_gone : (table : Table) (t : ℕ) (target : Granule) (mode : Mode) → Gone table t target mode [] table
none_gone table t target mode = record { rounds = []; go = (refl, refl); limit = refl }

round_more : (limit t : ℕ) (target : Granule) (mode : Mode) (rounds : List (List Victim)) (rs : List Request) (all : List Victim) (mid : List Request) (vs : List Victim) (new : List Request)
    → AreRounds (record { limit = limit; requests = rs }) t target mode rounds all mid → IsLetThrough (record { limit = limit; requests = mid }) t target mode vs new
    → AreRounds (record { limit = limit; requests = rs }) t target mode (rounds ++ vs ∷ []) (all ++ vs) new
round_more limit t target mode [] rs all mid vs new go through = (
  new,
  [],
  subst (λ xs. IsLetThrough (record { limit = limit; requests = xs }) t target mode vs new) (sym go.0) through,
  (refl, refl),
  ap (λ xs. xs ++ vs) go.1 ∙ sym (append-nil vs),
)
round_more limit t target mode (ws ∷ rounds) rs all mid vs new go through = (
  go.0,
  go.1 ++ vs,
  go.2,
  round_more limit t target mode rounds go.0 go.1 mid vs new go.3 through,
  ap (λ xs. xs ++ vs) go.4 ∙ append_assoc ws go.1 vs,
)

pub gone_on : (old : Table) (t : ℕ) (target : Granule) (mode : Mode) (all : List Victim) (now : Table) (vs : List Victim) (new : Table) (told : List Victim) → Gone old t target mode all now
    → new.limit ≡ now.limit → IsLetThrough now t target mode vs new.requests → told ≡ all ++ vs → Gone old t target mode told new
gone_on old t target mode all now vs new told gone limit through is =
    subst (λ xs. Gone old t target mode xs new) (sym is)
    (record {
      rounds = gone.rounds ++ vs ∷ [];
      go = round_more old.limit t target mode gone.rounds old.requests all now.requests vs new.requests gone.go
          (subst (λ n. IsLetThrough (record { limit = n; requests = now.requests }) t target mode vs new.requests) gone.limit through);
      limit = limit ∙ gone.limit;
    })

pub settled : (old : Table) (t : ℕ) (target : Granule) (mode : Mode) (all : List Victim) (now : Table) (answer : Result Locked Fault) (vs : List Victim) (new : Table) (told : List Victim)
    → Gone old t target mode all now → new.limit ≡ now.limit → Ends now t target mode answer vs new.requests → told ≡ all ++ vs → Settles old new t target mode answer told
settled old t target mode all now answer vs new told gone limit ends is = record {
  rounds = gone.rounds;
  before = all;
  mid = now.requests;
  last = vs;
  go = gone.go;
  ends = subst (λ n. Ends (record { limit = n; requests = now.requests }) t target mode answer vs new.requests) gone.limit ends;
  told = is;
  limit = limit ∙ gone.limit;
}

-- ---- a round

-- what an acquire came to
pub acquires_so : (table : Table) (t : ℕ) (target : Granule) (mode : Mode) (result answer : Result Acquired Fault) (new : Table) → result ≡ answer
    → HasOutcome table (acquired Wait table t target mode) result new → Acquires table t target mode answer new.requests
acquires_so table t target mode result answer new is comes =
    λ i. record { answer = (sym comes.0 ∙ is) i; requests = (ap (λ (x : Table). x.requests) (sym comes.1)) i }

-- what the end of a wait says, and what goes on after it
abbrev pub Ended : Option (Result Locked Fault) → ℕ → List Request → List Request → List Victim → List Victim → Type 0
Ended res t mid new told now =
    IfSome res (λ answer. IfOk answer (λ locked. (vs : List Victim) × IsBroken mid t vs new × AnswersBroken locked t vs new × (now ≡ told ++ vs)))

abbrev pub Refused : Option (Result Locked Fault) → ℕ → List Request → List Request → List Victim → List Victim → Type 0
Refused res t mid new told now = IfSome res (λ answer. IfErr answer (λ f. (f ≡ fault.Memory) × (new ≡ cancelled t mid) × (now ≡ told)))

abbrev pub Through : Option (Result Locked Fault) → ℕ → List Request → List Request → List Victim → List Victim → Type 0
Through res t mid new told now = IfNone res ((vs : List Victim) × IsBroken mid t vs new × (is_victim vs t ≡ false) × (is_waiting t new ≡ false) × (now ≡ told ++ vs))

module _ (table : Table) (t : ℕ) (target : Granule) (mode : Mode) (g : Granule) (mid new : List Request) (told now : List Victim) (acquires : Acquires table t target mode (Ok (acquire.Waiting g)) mid) where
  round_of : (vs : List Victim) → IsBroken mid t vs new → IsRound table t target mode vs new
  round_of vs broken = record { granule = g; waiting = mid; acquires = acquires; broken = broken }

  pub ends_of : (res : Option (Result Locked Fault)) → Ended res t mid new told now → Refused res t mid new told now
      → IfSome res (λ answer. (vs : List Victim) × Ends table t target mode answer vs new × (now ≡ told ++ vs))
  ends_of None ended refused = tt
  ends_of (Some (Ok locked.Done)) ended refused = absurd ended.2
  ends_of (Some (Ok (locked.Waiting h))) ended refused = (ended.0, (round_of ended.0 ended.1, ended.2), ended.3)
  ends_of (Some (Ok locked.Deadlock)) ended refused = (ended.0, (round_of ended.0 ended.1, ended.2), ended.3)
  ends_of (Some (Err f)) ended refused = ([], (inr (refused.0, (g, mid, acquires, refused.1)), refl), refused.2 ∙ sym (append-nil told))

  pub through_of : (res : Option (Result Locked Fault)) → Through res t mid new told now → IfNone res ((vs : List Victim) × IsLetThrough table t target mode vs new × (now ≡ told ++ vs))
  through_of None through = (through.0, record { round = round_of through.0 through.1; spared = through.2; quiet = through.3 }, through.4)
  through_of (Some answer) through = tt

pub keeps_round : (t : ℕ) (old mid new : List Request) (told now : List Victim) (res : Option (Result Locked Fault)) → IsOrderly mid → IsGentle t old mid → (HasNoCycle old → IsOnEachCycle mid t)
    → Ended res t mid new told now → Refused res t mid new told now → Through res t mid new told now → Keeps t old new
keeps_round t old mid new told now None orderly gentle each ended refused through = keeps_broken t old mid through.0 new orderly gentle each through.1
keeps_round t old mid new told now (Some (Ok a)) orderly gentle each ended refused through = keeps_broken t old mid ended.0 new orderly gentle each ended.1
keeps_round t old mid new told now (Some (Err f)) orderly gentle each ended refused through = keeps_cancelled t old mid new orderly gentle each refused.1

pub fewer_round : (t : ℕ) (old mid new : List Request) (told now : List Victim) (res : Option (Result Locked Fault)) → IsOrderly mid → is_waiting t mid ≡ true → others_waiting t mid ≤ others_waiting t old
    → Through res t mid new told now → IfNone res (others_waiting t new < others_waiting t old)
fewer_round t old mid new told now None orderly busy less through = let fewer = fewer_broken t mid through.0 new orderly busy through.3 through.2 through.1 in omega (arith, fewer, less)
fewer_round t old mid new told now (Some a) orderly busy less through = tt
