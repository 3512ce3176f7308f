-- What a round of a lock keeps, and that it has a waiter less.
use Rattle.std.proofs.Common.{◌≡◌, ◌<◌, ◌≤◌, ◌-◌, ◌++◌, ◌⊎◌, ⊎_elim, ℕ, List, [], ◌∷◌, true, false, Option, None, ap, sym, subst, ◌∙◌, length, take, drop, arith}
use Rattle.std.specs.Prelude.{◌==◌, Result, Ok, Err, is_some}
use Rattle.std.proofs.lemmas.Bool.Decides.{Decides-eqb}
use Rattle.std.proofs.lemmas.List.{drop_at, length-append, take_all}
use Rattle.shore_types.specs.declared.faults.Fault.{Fault}
use Rattle.shore_types.specs.declared.locking.Granule.{Granule}
use Rattle.shore_types.specs.declared.locking.Mode.{Mode}
use Rattle.shore_model.specs.declared.requests.Request.{Request}
use Rattle.shore_model.specs.Requests.{HasNoCycle, IsCycle}
use Rattle.shore_locks.specs.Grants.{cancelled, granted}
use Rattle.shore_locks.specs.Orderly.{IsOrderly}
use Rattle.shore_locks.specs.Tables.{Table, is_waiting}
use Rattle.shore_locks.proofs.Entering.{none_waits}
use Rattle.shore_locks.proofs.Fits.{found_any, wants_nothing}
use Rattle.shore_locks.proofs.Members.{Contains-In, In-All}
use Rattle.shore_locks.proofs.Outcomes.{nobody_wants, quiet_after_cancel}
use Rattle.shore_locks.proofs.Tables.{fit_of, orderly_cancelled}
use Rattle.shore_path.specs.Acquires.{NoneWeaker, OthersOnlyGranted}
use Rattle.shore_path.specs.Rooted.{AreRooted}
use Rattle.shore_path.specs.Walks.{HasOutcome, acquired}
use Rattle.shore_path.specs.declared.answers.Acquired.{Acquired}
use Rattle.shore_path.specs.declared.answers.Acquired.TheVariants as acquire
use Rattle.shore_path.specs.declared.answers.OnConflict.TheVariants.{Wait}
use Rattle.shore_path.proofs.Freeing.{rooted_cancelled, weaker_cancelled}
use Rattle.shore_path.proofs.Intentions.{are_rooted, rooted_of}
use Rattle.shore_cycles.specs.declared.victims.Victim.{Victim}
use Rattle.shore_cycles.specs.Blockers.{is_victim}
use Rattle.shore_cycles.specs.Cycles.{AreVictims, IsOnEachCycle, IsOnNoCycleWithout, after_victims}
use Rattle.shore_deadlock.specs.Locking.{IsBroken, Keeps, others_waiting}
use Rattle.shore_deadlock.proofs.AcquireLemmas.{acquire_closes}
use Rattle.shore_deadlock.proofs.Counting.{count_acquired, count_victims}
use Rattle.shore_cycles.proofs.Edges.{clash}
use Rattle.shore_cycles.proofs.Steps.{cancelled_adds_none, cancelled_keeps_quiet}
use Rattle.shore_cycles.proofs.VictimLemmas.{after_adds_none, none_left, victim_quiet}
use Rattle.shore_cycles.proofs.Walks.{cycle_as, member_waits}
use Rattle.shore_cycles.proofs.Steps.{quiet_waits_not}

-- ---- victims that are told behind others

pub rest_of : (xs ys : List Victim) (n k : ℕ) → n ≡ length xs → k ≡ length (xs ++ ys) → take (k - n) (drop n (xs ++ ys)) ≡ ys
rest_of xs ys n k is all =
    let long = length-append xs ys in
    ap (take (k - n)) (drop_at xs ys n (sym is)) ∙ take_all (k - n) ys (omega (arith, is, all, long))

pub broken_of : (rs : List Request) (t : ℕ) (vs : List Victim) (new : List Request) → IsOrderly rs → AreVictims rs t vs → IsOnNoCycleWithout vs rs t → new ≡ after_victims vs rs → IsBroken rs t vs new
broken_of rs t vs new orderly are all after = record {
  victims = are;
  after = after;
  broken = λ cycle closed. none_left rs t vs orderly all cycle (subst (λ xs. IsCycle xs cycle) after closed);
}

-- ---- what is kept, beside cycles

pub record IsGentle (t : ℕ) (old new : List Request) : Type 0 where
  pub none_weaker : NoneWeaker old new
  pub rooted : AreRooted old → AreRooted new
  pub others : (u : ℕ) → (u ≡ t → ⊥) → is_waiting u old ≡ false → is_waiting u new ≡ false

gentle_on : (t : ℕ) (a b d : List Request) → IsGentle t a b → IsGentle t b d → IsGentle t a d
gentle_on t a b d g h = record {
  none_weaker = λ u k m e. h.none_weaker u k m (g.none_weaker u k m e);
  rooted = λ r. h.rooted (g.rooted r);
  others = λ u other quiet. h.others u other (g.others u other quiet);
}

pub gentle_cancel : (t v : ℕ) (rs : List Request) → IsOrderly rs → IsGentle t rs (cancelled v rs)
gentle_cancel t v rs orderly = record {
  none_weaker = weaker_cancelled v rs orderly;
  rooted = λ rooted. are_rooted (cancelled v rs) (rooted_cancelled v rs orderly (rooted_of rs orderly.one_each rooted));
  others = λ u other quiet. cancelled_keeps_quiet rs v u orderly.one_each quiet;
}

pub gentle_victims : (t : ℕ) (vs : List Victim) (rs : List Request) → IsOrderly rs → IsGentle t rs (after_victims vs rs)
gentle_victims t [] rs orderly = record { none_weaker = λ u k m e. e; rooted = λ r. r; others = λ u other quiet. quiet }
gentle_victims t (v ∷ vs) rs orderly =
    gentle_on t rs (cancelled v.txn rs) (after_victims vs (cancelled v.txn rs)) (gentle_cancel t v.txn rs orderly) (gentle_victims t vs (cancelled v.txn rs) (orderly_cancelled v.txn rs orderly))

granted_idle : (o : Option Mode) → o ≡ None → is_some o ≡ true → ⊥
granted_idle o none some = wants_nothing o none some

some_granted : (rs : List Request) (q : Request) → Rattle.std.specs.Prelude.Any (λ x. q ≡ granted x) rs → q.wanted ≡ None
some_granted rs q h = ap (λ (x : Request). x.wanted) h.4

pub gentle_acquire : (t : ℕ) (old new : List Request) → NoneWeaker old new → (AreRooted old → AreRooted new) → OthersOnlyGranted old new t → IsGentle t old new
gentle_acquire t old new weaker rooted others = record {
  none_weaker = weaker;
  rooted = rooted;
  others = λ u other quiet.
      nobody_wants u new (λ q there by wants.
      ⊎_elim
      (λ own. other (sym by ∙ own))
      (λ rest. ⊎_elim
      (λ stood. none_waits u old quiet q (Contains-In old q stood) by wants)
      (λ granted. granted_idle q.wanted (some_granted old q granted) wants) rest)
      (In-All (λ r. (r.txn ≡ t) ⊎ (Rattle.std.specs.Prelude.Contains old r ⊎ Rattle.std.specs.Prelude.Any (λ q. r ≡ granted q) old)) new q others there));
}

-- ---- cycles

module _ (t : ℕ) (target : Granule) (mode : Mode) (old new : Table) (result : Result Acquired Fault) (orderly : IsOrderly old.requests) (quiet : is_waiting t old.requests ≡ false)
    (asked : HasOutcome old (acquired Wait old t target mode) result new) where
  left : new.requests ≡ (acquired Wait old t target mode).requests
  left = ap (λ (x : Table). x.requests) asked.1

  -- an acquire that does not wait closes no cycle
  pub acquire_free : ((g : Granule) → result ≡ Ok (acquire.Waiting g) → ⊥) → HasNoCycle old.requests → HasNoCycle new.requests
  acquire_free never none =
      let closes = acquire_closes Wait old t target mode (fit_of old.requests orderly) quiet none in
      subst HasNoCycle (sym left) (closes.free (λ g is. never g (asked.0 ∙ is)))

  -- .. and if it waits each cycle passes the transaction
  pub acquire_each : HasNoCycle old.requests → IsOnEachCycle new.requests t
  acquire_each none = subst (λ xs. IsOnEachCycle xs t) (sym left) (acquire_closes Wait old t target mode (fit_of old.requests orderly) quiet none).each

  pub acquire_count : others_waiting t new.requests ≤ others_waiting t old.requests
  acquire_count = subst (λ xs. others_waiting t xs ≤ others_waiting t old.requests) (sym left) (count_acquired Wait old t target mode (fit_of old.requests orderly) quiet)

pub keeps_of : (t : ℕ) (old new : List Request) → IsGentle t old new → (HasNoCycle old → HasNoCycle new) → Keeps t old new
keeps_of t old new gentle free = record { free = free; none_weaker = gentle.none_weaker; rooted = gentle.rooted; others = gentle.others }

pub keeps_on : (t : ℕ) (a b d : List Request) → Keeps t a b → Keeps t b d → Keeps t a d
keeps_on t a b d g h = record {
  free = λ none. h.free (g.free none);
  none_weaker = λ u k m e. h.none_weaker u k m (g.none_weaker u k m e);
  rooted = λ r. h.rooted (g.rooted r);
  others = λ u other quiet. h.others u other (g.others u other quiet);
}

-- what breaks a wait keeps
pub keeps_broken : (t : ℕ) (old mid : List Request) (vs : List Victim) (new : List Request) → IsOrderly mid → IsGentle t old mid → (HasNoCycle old → IsOnEachCycle mid t) → IsBroken mid t vs new → Keeps t old new
keeps_broken t old mid vs new orderly gentle each broken =
    keeps_of t old new
    (gentle_on t old mid new gentle (subst (IsGentle t mid) (sym broken.after) (gentle_victims t vs mid orderly)))
    (λ none cycle closed.
    broken.broken cycle closed
    (each none cycle (cycle_as new mid cycle (λ a b in_a in_b h. after_adds_none vs mid orderly a b (subst (λ xs. Rattle.shore_model.specs.Requests.WaitsFor xs a b) broken.after h)) closed)))

pub keeps_cancelled : (t : ℕ) (old mid new : List Request) → IsOrderly mid → IsGentle t old mid → (HasNoCycle old → IsOnEachCycle mid t) → new ≡ cancelled t mid → Keeps t old new
keeps_cancelled t old mid new orderly gentle each is =
    subst (Keeps t old) (sym is)
    (keeps_of t old (cancelled t mid) (gentle_on t old mid (cancelled t mid) gentle (gentle_cancel t t mid orderly))
    (λ none cycle closed.
    let member = Contains-In cycle t (each none cycle (cycle_as (cancelled t mid) mid cycle (λ a b in_a in_b h. cancelled_adds_none mid t a b orderly h) closed)) in
    let next = member_waits (cancelled t mid) cycle t closed member in
    quiet_waits_not t (cancelled t mid) (quiet_after_cancel t mid orderly) next.0 next.1))

-- a transaction that is let through has a waiter less beside it
pub fewer_broken : (t : ℕ) (mid : List Request) (vs : List Victim) (new : List Request) → IsOrderly mid → is_waiting t mid ≡ true → is_waiting t new ≡ false → is_victim vs t ≡ false → IsBroken mid t vs new
    → others_waiting t new < others_waiting t mid
fewer_broken t mid [] new orderly busy quiet spared broken = absurd (clash busy (subst (λ xs. is_waiting t xs ≡ false) broken.after quiet))
fewer_broken t mid (v ∷ vs) new orderly busy quiet spared broken =
    let less = count_victims t (v ∷ vs) mid orderly broken.victims spared in
    subst (λ xs. others_waiting t xs < others_waiting t mid) (sym broken.after) (omega (arith, less))

-- a victim waits no more
pub broken_quiet : (t : ℕ) (mid : List Request) (vs : List Victim) (new : List Request) → IsOrderly mid → IsBroken mid t vs new → is_victim vs t ≡ true → is_waiting t new ≡ false
broken_quiet t mid vs new orderly broken own =
    let f = found_any (λ (v : Victim). v.txn == t) vs own in
    let quiet = victim_quiet vs mid f.0 orderly f.1 in
    subst (λ xs. is_waiting t xs ≡ false) (sym broken.after) (subst (λ u. is_waiting u (after_victims vs mid) ≡ false) ((Decides-eqb f.0.txn t).0 f.2) quiet)
