-- What all rounds of a lock and its end leave of the requests of others.
use Rattle.std.proofs.Common.{◌≡◌, ◌++◌, inl, inr, ⊎_elim, ℕ, List, [], ◌∷◌, true, false, refl, ap, sym, subst, reverse}
use Rattle.std.specs.Prelude.{◌==◌, Result, Ok, Err, is_some}
use Rattle.shore_types.specs.declared.faults.Fault.{Fault}
use Rattle.shore_types.specs.declared.faults.Fault.TheVariants as fault
use Rattle.shore_types.specs.declared.locking.Granule.{Granule}
use Rattle.shore_types.specs.declared.locking.Mode.{Mode}
use Rattle.shore_types.specs.Locking.{level_of}
use Rattle.shore_model.specs.declared.requests.Request.{Request}
use Rattle.shore_model.specs.Locks.{path}
use Rattle.shore_model.specs.Modes.{is_allowed}
use Rattle.shore_locks.specs.Grants.{cancelled, granted, withdrawn}
use Rattle.shore_locks.specs.Orderly.{IsOrderly}
use Rattle.shore_locks.specs.Tables.{Table, is_waiting}
use Rattle.shore_locks.proofs.Members.{Contains-In, In-Contains, In-left, In-right, either}
use Rattle.shore_locks.proofs.Fits.{Fit, any_of, found_any}
use Rattle.shore_locks.proofs.Outcomes.{any_from}
use Rattle.shore_locks.proofs.Tables.{fit_of}
use Rattle.shore_path.specs.declared.answers.Acquired.{Acquired}
use Rattle.shore_path.specs.declared.answers.OnConflict.TheVariants.{Wait}
use Rattle.shore_path.specs.Walks.{Outcome, acquired}
use Rattle.shore_path.proofs.Kept.{fit_after}
use Rattle.shore_path.proofs.Walking.{walk_on}
use Rattle.shore_deadlock.specs.declared.locking.Locked.{Locked}
use Rattle.shore_deadlock.specs.declared.locking.Locked.TheVariants as locked
use Rattle.shore_cycles.specs.declared.victims.Victim.{Victim}
use Rattle.shore_cycles.specs.Blockers.{is_victim}
use Rattle.shore_cycles.specs.Cycles.{after_victims}
use Rattle.shore_deadlock.specs.Locking.{Acquires, AreRounds, Ends, IsRound, OnlyGrantsOthers, Settles}
use Rattle.shore_deadlock.proofs.AcquireLemmas.{allowed_case}
use Rattle.shore_cycles.proofs.Edges.{clash}
use Rattle.shore_deadlock.proofs.Sparing.{AreAmong, Spares, spares_acquired, spares_cancelled, spares_more, spares_on, spares_self, spares_victims}

fit_acquired : (table : Table) (t : ℕ) (target : Granule) (mode : Mode) → Fit table.requests → is_waiting t table.requests ≡ false → Fit (acquired Wait table t target mode).requests
fit_acquired table t target mode fit quiet =
    allowed_case (λ out. Fit out.requests) (is_allowed (level_of target) mode)
    (walk_on Wait t target mode table.limit (reverse (path target)) table.requests) (record { answer = Err fault.BadMode; requests = table.requests })
    (fit_after Wait t target mode table.limit (reverse (path target)) table.requests fit quiet) fit

among_left : (vs ws : List Victim) → AreAmong vs (vs ++ ws)
among_left vs ws u spared =
    ⊎_elim
    (λ one. absurd (let f = found_any (λ (v : Victim). v.txn == u) vs one in clash (any_of (λ (v : Victim). v.txn == u) (vs ++ ws) f.0 (In-left vs ws f.0 f.1) f.2) spared))
    (λ no. no)
    (either (is_victim vs u))

among_right : (vs ws : List Victim) → AreAmong ws (vs ++ ws)
among_right vs ws u spared =
    ⊎_elim
    (λ one. absurd (let f = found_any (λ (v : Victim). v.txn == u) ws one in clash (any_of (λ (v : Victim). v.txn == u) (vs ++ ws) f.0 (In-right vs ws f.0 f.1) f.2) spared))
    (λ no. no)
    (either (is_victim ws u))

-- one thing after another, with the victims of both
spares_both : (t : ℕ) (vs ws all : List Victim) (a b d : List Request) → all ≡ vs ++ ws → Spares t vs a b → Spares t ws b d → Spares t all a d
spares_both t vs ws all a b d is g h =
    subst (λ xs. Spares t xs a d) (sym is)
    (spares_on t (vs ++ ws) a b d (spares_more t vs (vs ++ ws) a b (among_left vs ws) g) (spares_more t ws (vs ++ ws) b d (among_right vs ws) h))

module _ (table : Table) (t : ℕ) (target : Granule) (mode : Mode) (fit : Fit table.requests) (quiet : is_waiting t table.requests ≡ false) where
  spares_asked : (vs : List Victim) (answer : Result Acquired Fault) (new : List Request) → Acquires table t target mode answer new → Fit new × Spares t vs table.requests new
  spares_asked vs answer new is =
      let left : (acquired Wait table t target mode).requests ≡ new = ap (λ (o : Outcome). o.requests) is in
      (subst Fit left (fit_acquired table t target mode fit quiet), subst (Spares t vs table.requests) left (spares_acquired Wait table t target mode vs fit quiet))

  spares_round : (vs : List Victim) (new : List Request) → IsRound table t target mode vs new → Fit new × Spares t vs table.requests new
  spares_round vs new round =
      let first = spares_asked vs _ round.waiting round.acquires in
      let rest = spares_victims t vs round.waiting first.0 in
      let both = spares_on t vs table.requests round.waiting (after_victims vs round.waiting) first.1 rest.1 in
      (subst Fit (sym round.broken.after) rest.0, subst (Spares t vs table.requests) (sym round.broken.after) both)

  spares_end : (answer : Result Locked Fault) (vs : List Victim) (new : List Request) → Ends table t target mode answer vs new → Spares t vs table.requests new
  spares_end (Ok locked.Done) vs new ends = (spares_asked vs _ new ends.0).1
  spares_end (Ok (locked.Waiting g)) vs new ends = (spares_round vs new ends.0).1
  spares_end (Ok locked.Deadlock) vs new ends = (spares_round vs new ends.0).1
  spares_end (Err fault) vs new ends =
      ⊎_elim
      (λ refused. (spares_asked vs _ new refused).1)
      (λ ran_out.
      let out = ran_out.1 in
      let first = spares_asked vs _ out.1 out.2 in
      let last = spares_cancelled t t vs out.1 (inl refl) first.0 in
      subst (Spares t vs table.requests) (sym out.3) (spares_on t vs table.requests out.1 (cancelled t out.1) first.1 last.1))
      ends.0

spares_rounds : (limit t : ℕ) (target : Granule) (mode : Mode) (rounds : List (List Victim)) (rs : List Request) (all : List Victim) (new : List Request)
    → AreRounds (record { limit = limit; requests = rs }) t target mode rounds all new → Fit rs → is_waiting t rs ≡ false → Fit new × (is_waiting t new ≡ false) × Spares t all rs new
spares_rounds limit t target mode [] rs all new go fit quiet =
    (subst Fit go.0 fit, subst (λ xs. is_waiting t xs ≡ false) go.0 quiet, subst (Spares t all rs) go.0 (spares_self t all rs))
spares_rounds limit t target mode (vs ∷ rounds) rs all new go fit quiet =
    let one = spares_round (record { limit = limit; requests = rs }) t target mode fit quiet vs go.0 go.2.round in
    let more = spares_rounds limit t target mode rounds go.0 go.1 new go.3 one.0 go.2.quiet in
    (more.0, more.1, spares_both t vs go.1 all rs go.0 new go.4 one.1 more.2)

only_grants_of : (t : ℕ) (vs : List Victim) (old new : List Request) → Spares t vs old new → OnlyGrantsOthers t vs old new
only_grants_of t vs old new spares = record {
  stays = λ r there other spared.
      ⊎_elim (λ stood. inl (In-Contains new r stood)) (λ was. inr (was.0, In-Contains new (granted r) was.1)) (spares.stays r (Contains-In old r there) other spared);
  comes = λ r there other.
      ⊎_elim (λ stood. inl (In-Contains old r stood))
      (λ rest. inr (⊎_elim
      (λ was. inl (any_from (λ q. (is_some q.wanted ≡ true) × (r ≡ granted q)) old was.0 was.1 (was.2, was.3)))
      (λ taken. inr (taken.0, any_from (λ q. r ≡ withdrawn q) old taken.1.0 taken.1.1 taken.1.2)) rest))
      (spares.comes r (Contains-In new r there) other);
}

pub settled_grants : (old new : Table) (t : ℕ) (target : Granule) (mode : Mode) (answer : Result Locked Fault) (victims : List Victim) → IsOrderly old.requests → is_waiting t old.requests ≡ false
    → Settles old new t target mode answer victims → OnlyGrantsOthers t victims old.requests new.requests
settled_grants old new t target mode answer victims orderly quiet settles =
    let gone = spares_rounds old.limit t target mode settles.rounds old.requests settles.before settles.mid settles.go (fit_of old.requests orderly) quiet in
    only_grants_of t victims old.requests new.requests
    (spares_both t settles.before settles.last victims old.requests settles.mid new.requests settles.told gone.2
    (spares_end (record { limit = old.limit; requests = settles.mid }) t target mode gone.0 gone.1 answer settles.last new.requests settles.ends))
