-- What follows from an acquire that has let a transaction wait, or that ended at once.
use Rattle.std.proofs.Common.{◌≡◌, ℕ, List, [], None, Some, true, false, refl, ap, sym, subst, ◌∙◌, reverse}
use Rattle.std.specs.Prelude.{Result, Ok, Err, is_some}
use Rattle.shore_types.specs.declared.faults.Fault.{Fault}
use Rattle.shore_types.specs.declared.faults.Fault.TheVariants as fault
use Rattle.shore_types.specs.declared.locking.Granule.{Granule}
use Rattle.shore_types.specs.declared.locking.Mode.{Mode}
use Rattle.shore_types.specs.Locking.{level_of}
use Rattle.shore_model.specs.Locks.{path}
use Rattle.shore_model.specs.Modes.{is_allowed}
use Rattle.shore_model.specs.Requests.{HasNoCycle}
use Rattle.shore_locks.specs.Orderly.{IsOrderly}
use Rattle.shore_locks.specs.Tables.{Table, is_waiting}
use Rattle.shore_path.specs.Acquires.{NoneWeaker, OthersOnlyGranted}
use Rattle.shore_path.specs.Rooted.{AreRooted}
use Rattle.shore_path.specs.Walks.{HasOutcome, Outcome, acquired, walk}
use Rattle.shore_path.specs.declared.answers.Acquired.{Acquired}
use Rattle.shore_path.specs.declared.answers.Acquired.TheVariants as acquire
use Rattle.shore_path.specs.declared.answers.OnConflict.TheVariants.{Wait}
use Rattle.shore_path.proofs.Acquiring.{told_none_weaker, told_others, told_rooted, told_waiting}
use Rattle.shore_deadlock.specs.declared.locking.Locked.{Locked}
use Rattle.shore_cycles.specs.declared.victims.Victim.{Victim}
use Rattle.shore_cycles.specs.Cycles.{IsOnEachCycle}
use Rattle.shore_deadlock.specs.Locking.{Ends, IsLetWait, Keeps, OnlyGrantsOthers, Settles}
use Rattle.shore_deadlock.proofs.AcquireLemmas.{allowed_case}
use Rattle.shore_deadlock.proofs.Lockings.{IsGentle, acquire_each, acquire_free, gentle_acquire, keeps_of}
use Rattle.shore_deadlock.proofs.Rounds.{Ended, Gone, Refused, Through, acquires_so, ends_of, gone_on, keeps_round, none_gone, settled, through_of}
use Rattle.shore_deadlock.proofs.SparedRounds.{settled_grants}

-- ---- at once

module _ (old : Table) (t : ℕ) (target : Granule) (mode : Mode) (result : Result Acquired Fault) (new : Table) (orderly : IsOrderly old.requests) (quiet : is_waiting t old.requests ≡ false)
    (comes : HasOutcome old (acquired Wait old t target mode) result new) where
  pub lets_wait : (g : Granule) → result ≡ Ok (acquire.Waiting g) → IsLetWait old t target mode new
  lets_wait g waits = record {
    orderly = orderly;
    quiet = quiet;
    limit = ap (λ (x : Table). x.limit) comes.1;
    granule = g;
    acquires = acquires_so old t target mode result (Ok (acquire.Waiting g)) new waits comes;
  }

  pub others_at_once : (answer : Result Locked Fault) (told : List Victim) → told ≡ [] → Ends old t target mode answer [] new.requests → OnlyGrantsOthers t told old.requests new.requests
  others_at_once answer told none ends =
      settled_grants old new t target mode answer told orderly quiet
      (settled old t target mode [] old answer [] new told (none_gone old t target mode) (ap (λ (x : Table). x.limit) comes.1) ends none)

  pub keeps_at_once : ((g : Granule) → result ≡ Ok (acquire.Waiting g) → ⊥) → NoneWeaker old.requests new.requests → (AreRooted old.requests → AreRooted new.requests)
      → OthersOnlyGranted old.requests new.requests t → Keeps t old.requests new.requests
  keeps_at_once never weaker rooted others =
      keeps_of t old.requests new.requests (gentle_acquire t old.requests new.requests weaker rooted others)
      (acquire_free t target mode old new result orderly quiet comes never)

-- ---- waiting

module _ (before : Table) (t : ℕ) (target : Granule) (mode : Mode) (mid : Table) (waits : IsLetWait before t target mode mid) where
  comes_to : HasOutcome before (acquired Wait before t target mode) (Ok (acquire.Waiting waits.granule)) mid
  comes_to = (
    sym (ap (λ (o : Outcome). o.answer) waits.acquires),
    λ i. record { limit = waits.limit i; requests = (ap (λ (o : Outcome). o.requests) (sym waits.acquires)) i },
  )

  -- a mode that may not be asked for is not waited for
  abbrev walked : Outcome
  walked = walk Wait t target mode before.limit (reverse (path target)) before.requests

  came_by_walk : HasOutcome before walked (Ok (acquire.Waiting waits.granule)) mid
  came_by_walk =
      allowed_case (λ out. HasOutcome before out (Ok (acquire.Waiting waits.granule)) mid → HasOutcome before walked (Ok (acquire.Waiting waits.granule)) mid)
      (is_allowed (level_of target) mode) walked (record { answer = Err fault.BadMode; requests = before.requests })
      (λ same. same) (λ comes. absurd (no_refusal waits.granule comes.0)) comes_to
    where
      no_refusal : (g : Granule) → Ok (acquire.Waiting g) ≡ Err fault.BadMode → ⊥
      no_refusal g is = cc

  pub waits_then : is_waiting t mid.requests ≡ true
  waits_then =
      ap is_some (told_waiting Wait t target mode before mid (Ok (acquire.Waiting waits.granule)) waits.orderly waits.quiet came_by_walk waits.granule refl).2.waits

  gentle_wait : IsGentle t before.requests mid.requests
  gentle_wait =
      let asked = Ok (acquire.Waiting waits.granule) in
      gentle_acquire t before.requests mid.requests
      (told_none_weaker Wait t target mode before mid asked waits.orderly waits.quiet came_by_walk)
      (told_rooted Wait t target mode before mid asked waits.orderly waits.quiet came_by_walk)
      (told_others Wait t target mode before mid asked waits.orderly waits.quiet came_by_walk)

  each_wait : HasNoCycle before.requests → IsOnEachCycle mid.requests t
  each_wait = acquire_each t target mode before mid (Ok (acquire.Waiting waits.granule)) waits.orderly waits.quiet comes_to

  module _ (orderly : IsOrderly mid.requests) (new : Table) (limit : new.limit ≡ mid.limit) (told now : List Victim) (none : told ≡ []) where
    -- the wait is broken, and that is all
    pub first_settles : (answer : Result Locked Fault) → Ended (Some answer) t mid.requests new.requests told now → Refused (Some answer) t mid.requests new.requests told now
        → Settles before new t target mode answer now
    first_settles answer ended refused =
        let ends = ends_of before t target mode waits.granule mid.requests new.requests told now waits.acquires (Some answer) ended refused in
        settled before t target mode told before answer ends.0 new now
        (subst (λ vs. Gone before t target mode vs before) (sym none) (none_gone before t target mode)) (limit ∙ waits.limit) ends.1 ends.2

    pub first_keeps : (answer : Result Locked Fault) → Ended (Some answer) t mid.requests new.requests told now → Refused (Some answer) t mid.requests new.requests told now
        → Keeps t before.requests new.requests
    first_keeps answer ended refused = keeps_round t before.requests mid.requests new.requests told now (Some answer) orderly gentle_wait each_wait ended refused tt

    -- .. or it lets the transaction through
    pub first_gone : Through None t mid.requests new.requests told now → Gone before t target mode now new
    first_gone through =
        let round = through_of before t target mode waits.granule mid.requests new.requests told now waits.acquires None through in
        gone_on before t target mode told before round.0 new now
        (subst (λ vs. Gone before t target mode vs before) (sym none) (none_gone before t target mode)) (limit ∙ waits.limit) round.1 round.2

    pub first_round_keeps : Through None t mid.requests new.requests told now → Keeps t before.requests new.requests
    first_round_keeps through = keeps_round t before.requests mid.requests new.requests told now None orderly gentle_wait each_wait tt tt through
