-- Requests, seen as the locks of sessions.
use Rattle.std.proofs.Common.{◌≡◌, ◌≢◌, ◌<◌, ◌⊎◌, inl, inr, ⊎_elim, ℕ, List, [], ◌∷◌, true, false, Option, None, Some, refl, ap, sym, subst, ◌∙◌, arith}
use Rattle.std.specs.Prelude.{IsTrue, Contains, Any, All, ◌==◌, not}
use Rattle.std.specs.List.{cons_option}
use Rattle.std.proofs.lemmas.Bool.Decides.{Decides-eqb}
use Rattle.std.proofs.lemmas.List.Elements.{All-cons, All-contains, All-filter, All-head, All-map, All-nil, All-tail, All-weaker}
use Rattle.shore_types.specs.declared.locking.Granule.{Granule}
use Rattle.shore_types.specs.declared.locking.Mode.{Mode}
use Rattle.shore_types.specs.declared.locking.Granule.TheVariants.{Record, Store}
use Rattle.shore_types.specs.declared.locking.Mode.TheVariants.{EX, SH, UD}
use Rattle.shore_model.specs.declared.calls.Answer.{Answer}
use Rattle.shore_model.specs.declared.calls.Call.{Call}
use Rattle.shore_model.specs.declared.calls.Call.TheVariants as call
use Rattle.shore_model.specs.declared.holds.Hold.{Hold}
use Rattle.shore_model.specs.declared.requests.Request.{Request}
use Rattle.shore_model.specs.Locks.{HoldsAtLeast, ancestors}
use Rattle.shore_model.specs.Modes.{covers}
use Rattle.shore_model.specs.Requests.{held_by_all, hold_in, hold_of, requests_by}
use Rattle.shore_locks.specs.Grants.{granted, is_enough, released}
use Rattle.shore_locks.specs.Laws.{of_others, owners}
use Rattle.shore_locks.specs.Orderly.{IsOrderly}
use Rattle.shore_locks.specs.Tables.{mode_held}
use Rattle.shore_locks.proofs.LawLemmas.{released_own}
use Rattle.shore_locks.proofs.Members.{All-In, In, In-filter}
use Rattle.shore_locks.proofs.Tables.{orderly_given_up}
use Rattle.shore_locks.proofs.Outcomes.{any_from}
use Rattle.shore_path.specs.Acquires.{IsReached, OthersOnlyGranted}
use Rattle.shore_path.specs.Rooted.{AreRooted}
use Rattle.shore_path.specs.Walks.{is_covered}
use Rattle.shore_path.proofs.Freeing.{rooted_released, weaker_released}
use Rattle.shore_path.proofs.Harmonies.{harmony_of}
use Rattle.shore_path.proofs.Intentions.{are_rooted, rooted_of, well_rooted}
use Rattle.shore_path.proofs.Holding.{enough_of, holder_from_lock, holder_of, holding, lock_from_holder}
use Rattle.laws_lives.proofs.EndedLocks.{any_held}
use Rattle.laws_lives.specs.GranuleLocks.{HasLock, HasLocksFor}
use Rattle.laws_lives.specs.SessionSteps.{KeepsLocks, MoveLocks, StepsTo}
use Rattle.laws_lives.specs.Sessions.{Sessions, locks_moved, txns_of, without_locks}
use Rattle.laws_lives.specs.Views.{IsAmong}
use Rattle.laws_locks.specs.CallLocks.{Asked, lock_asked_by, asked_for}

-- what a transaction holds by requests of which none of its own becomes weaker
keeps_locks : (rs new : List Request) (t : ℕ) → IsOrderly rs → ((g : Granule) (m : Mode) → IsTrue (is_enough m (mode_held t g rs)) → IsTrue (is_enough m (mode_held t g new)))
    → KeepsLocks (held_by_all rs) (held_by_all new) t
keeps_locks rs new t orderly none m g h = lock_from_holder t g m new (holder_of t g m new (none g m (enough_of t g m rs orderly.one_each (holder_from_lock t g m rs h))))

first_in : {Y : Type 0} (ys : List Y) (y : Y) (o : Option Y) → o ≡ Some y → In y (cons_option o ys)
first_in ys y None e = cc
first_in ys y (Some z) e = let same : z ≡ y = cc in inl same

later_in : {Y : Type 0} (ys : List Y) (y : Y) (o : Option Y) → In y ys → In y (cons_option o ys)
later_in ys y None h = h
later_in ys y (Some z) h = inr h

lock_in : (rs : List Request) (r : Request) (h : Hold) → In r rs → hold_of r ≡ Some h → In h (held_by_all rs)
lock_in [] r h i e = absurd i
lock_in (x ∷ rs) r h i e = ⊎_elim (λ same. first_in (held_by_all rs) h (hold_of x) (ap hold_of same ∙ e)) (λ later. later_in (held_by_all rs) h (hold_of x) (lock_in rs r h later e)) i

covering : (mode : Mode) (held : Option Mode) → IsTrue (is_covered mode held) → (k : Mode) × (held ≡ Some k) × IsTrue (covers k mode)
covering mode None e = cc
covering mode (Some k) e = (k, refl, e)

pub locked_of : (rs : List Request) (t : ℕ) (g : Granule) (mode : Mode) → IsReached rs t g mode → HasLock (held_by_all rs) t g mode
locked_of rs t g mode (inl h) = inl (lock_from_holder t g mode rs (holder_of t g mode rs h))
locked_of rs t g mode (inr h) =
    let above : Granule = h.1 in
    let k = covering mode (mode_held t above rs) h.4 in
    let r = holding t above k.0 rs k.1 in
    let lock : Hold = record { txn = r.0.txn; granule = r.0.granule; mode = k.0 } in
    inr (any_from (λ (l : Hold). (l.txn ≡ t) × Contains (ancestors g) l.granule × IsTrue (covers l.mode mode)) (held_by_all rs) lock
    (lock_in rs r.0 lock r.1 (ap (hold_in r.0) r.4)) (r.2, subst (Contains (ancestors g)) (sym r.3) (h.0, h.2, h.3), k.2))

-- ---- whose requests they are

-- what holds of each owner, by the list of owners
all_owned : (P : ℕ → Type 0) (rs : List Request) → All (λ k. P k.0) (owners rs) → All (λ r. P r.txn) rs
all_owned P [] all = All-nil (λ r. P r.txn)
all_owned P (r ∷ rs) all =
    All-cons (λ q. P q.txn) r rs (All-head (λ k. P k.0) (r.txn, r.granule) (owners rs) all) (all_owned P rs (All-tail (λ k. P k.0) (r.txn, r.granule) (owners rs) all))

same_owners : (P : ℕ → Type 0) (rs new : List Request) → owners new ≡ owners rs → All (λ r. P r.txn) rs → All (λ r. P r.txn) new
same_owners P rs new same all =
    all_owned P new (subst (All (λ (k : ℕ × Granule). P k.0)) (sym same) (All-map (λ (k : ℕ × Granule). P k.0) (λ (r : Request). (r.txn, r.granule)) rs all))

-- each lock is one of a request
all_held : (P : ℕ → Type 0) (rs : List Request) → All (λ r. P r.txn) rs → All (λ h. P h.txn) (held_by_all rs)
all_held P [] all = All-nil (λ h. P h.txn)
all_held P (r ∷ rs) all = with_own r.held (all_held P rs (All-tail (λ q. P q.txn) r rs all))
  where
    with_own : (o : Option Mode) → All (λ h. P h.txn) (held_by_all rs) → All (λ h. P h.txn) (cons_option (hold_in r o) (held_by_all rs))
    with_own None rest = rest
    with_own (Some mode) rest = All-cons (λ h. P h.txn) (record { txn = r.txn; granule = r.granule; mode = mode }) (held_by_all rs) (All-head (λ q. P q.txn) r rs all) rest

not_of : (t : ℕ) (rs : List Request) → All (λ r. r.txn ≢ t) (of_others t rs)
not_of t rs = All-In (λ r. r.txn ≢ t) (of_others t rs) (λ r there same.
    let other : not (r.txn == t) ≡ true = (In-filter (λ q. not (q.txn == t)) rs r there).1 in
    let own : not (r.txn == t) ≡ false = ap not ((Decides-eqb r.txn t).1 same) in
    let clash : true ≡ false = sym other ∙ own in
    cc)

below_others : (t n : ℕ) (rs : List Request) → All (λ r. r.txn < n) rs → All (λ r. r.txn < n) (of_others t rs)
below_others t n rs all = All-filter (λ r. not (r.txn == t)) (λ r. r.txn < n) rs all

pub gone_of : (rs : List Request) (t : ℕ) → IsOrderly rs → All (λ h. h.txn ≢ t) (held_by_all (released t rs))
gone_of rs t orderly = all_held (λ u. u ≢ t) (released t rs) (same_owners (λ u. u ≢ t) (of_others t rs) (released t rs) (released_own rs t orderly.one_each) (not_of t rs))

pub numbers_of : (rs new : List Request) (t n : ℕ) → All (λ r. r.txn < n) rs → t < n → OthersOnlyGranted rs new t → All (λ r. r.txn < n) new
numbers_of rs new t n below low others = All-weaker (λ r. (r.txn ≡ t) ⊎ (Contains rs r ⊎ Any (λ q. r ≡ granted q) rs)) (λ r. r.txn < n) (λ r from. one r from) new others
  where
    one : (r : Request) → (r.txn ≡ t) ⊎ (Contains rs r ⊎ Any (λ q. r ≡ granted q) rs) → r.txn < n
    one r (inl own) = omega (arith, own, low)
    one r (inr (inl there)) = All-contains (λ q. q.txn < n) rs r below there
    one r (inr (inr made)) = subst (λ (x : Request). x.txn < n) (sym made.4) (All-contains (λ q. q.txn < n) rs made.1 below (made.0, made.2, made.3))

-- ---- events of the sessions

pub moves_of : (s : Sessions) (rs new : List Request) → s.held ≡ held_by_all rs → IsOrderly rs → IsOrderly new → AreRooted new
    → ((t : ℕ) → IsAmong t (txns_of s.active) → (g : Granule) (m : Mode) → IsTrue (is_enough m (mode_held t g rs)) → IsTrue (is_enough m (mode_held t g new)))
    → All (λ r. r.txn < s.next_txn) new → StepsTo s (MoveLocks (held_by_all new)) (locks_moved s (held_by_all new))
moves_of s rs new held orderly later rooted none below = (
  harmony_of (held_by_all new) later.together (well_rooted new rooted),
  λ t among. subst (λ (l : List Hold). KeepsLocks l (held_by_all new) t) (sym held) (keeps_locks rs new t orderly (none t among)),
  all_held (λ u. u < s.next_txn) new below,
  refl,
)

pub released_orderly : (rs : List Request) (t : ℕ) → IsOrderly rs → IsOrderly (released t rs)
released_orderly rs t orderly = orderly_given_up (requests_by t rs) rs orderly

pub released_rooted : (rs : List Request) (t : ℕ) → IsOrderly rs → AreRooted rs → AreRooted (released t rs)
released_rooted rs t orderly rooted = are_rooted (released t rs) (rooted_released t rs orderly (rooted_of rs orderly.one_each rooted))

pub released_below : (rs : List Request) (t n : ℕ) → IsOrderly rs → All (λ r. r.txn < n) rs → All (λ r. r.txn < n) (released t rs)
released_below rs t n orderly below = same_owners (λ u. u < n) (of_others t rs) (released t rs) (released_own rs t orderly.one_each) (below_others t n rs below)

-- behind the end of a transaction, whose locks are gone already
pub released_moves : (s : Sessions) (rs : List Request) (t : ℕ) → s.held ≡ without_locks t (held_by_all rs) → IsOrderly rs → AreRooted rs → All (λ r. r.txn < s.next_txn) rs
    → (IsAmong t (txns_of s.active) → ⊥) → StepsTo s (MoveLocks (held_by_all (released t rs))) (locks_moved s (held_by_all (released t rs)))
released_moves s rs t held orderly rooted below idle =
    let from_all = moves_of (locks_moved s (held_by_all rs)) rs (released t rs) refl orderly (released_orderly rs t orderly) (released_rooted rs t orderly rooted)
    (λ u among g m enough. weaker_released t rs orderly u g m (λ same. idle (subst (λ (x : ℕ). IsAmong x (txns_of s.active)) same among)) enough) (released_below rs t s.next_txn orderly below) in
    (from_all.0, λ u among m g has. from_all.1 u among m g (any_held t (held_by_all rs) _ (subst (λ (l : List Hold). HoldsAtLeast l u m g) held has)), from_all.2, refl)

-- ---- the locks of calls

asked_lock : (rs : List Request) (t : ℕ) (g : Granule) (mode : Mode) (lock : Asked) → asked_for g mode ≡ Some lock → HasLock (held_by_all rs) t lock.granule lock.mode → HasLock (held_by_all rs) t g mode
asked_lock rs t g mode lock is has =
    let same : lock ≡ record { granule = g; mode = mode } = cc in
    subst (λ (l : Asked). HasLock (held_by_all rs) t l.granule l.mode) same has

pub served_by : (rs : List Request) (t : ℕ) (c : Call) (answer : Answer) (lock : Asked) → lock_asked_by c ≡ Some lock → ((store : ℕ) (bytes : List ℕ) → c ≢ call.Insert store bytes)
    → HasLock (held_by_all rs) t lock.granule lock.mode → HasLocksFor (held_by_all rs) t c answer
served_by rs t (call.Get id) answer lock is other has = asked_lock rs t (Record id) SH lock is has
served_by rs t (call.GetForUpdate id) answer lock is other has = asked_lock rs t (Record id) UD lock is has
served_by rs t (call.Insert store bytes) answer lock is other has = absurd (other store bytes refl)
served_by rs t (call.Update id bytes) answer lock is other has = asked_lock rs t (Record id) EX lock is has
served_by rs t (call.Delete id) answer lock is other has = asked_lock rs t (Record id) EX lock is has
served_by rs t (call.Scan store) answer lock is other has = asked_lock rs t (Store store) SH lock is has
served_by rs t (call.Lock g mode) answer lock is other has = asked_lock rs t g mode lock is has
served_by rs t (call.TryLock g mode) answer lock is other has = asked_lock rs t g mode lock is has
served_by rs t call.Begin answer lock is other has = tt
served_by rs t call.Savepoint answer lock is other has = tt
served_by rs t (call.BackTo index) answer lock is other has = tt
served_by rs t call.Commit answer lock is other has = tt
served_by rs t call.Abort answer lock is other has = tt
served_by rs t (call.Prepare global) answer lock is other has = tt
served_by rs t (call.Resolve global outcome) answer lock is other has = tt
served_by rs t call.InDoubt answer lock is other has = tt
