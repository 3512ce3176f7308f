-- The intentions of requests, as the model says them and as the proofs use them.
use Rattle.std.proofs.Common.{◌≡◌, inl, inr, ⊎_elim, ℕ, List, [], ◌∷◌, Option, None, Some, true, refl, subst}
use Rattle.std.specs.Prelude.{IfSome}
use Rattle.std.specs.List.{AllByRecursion}
use Rattle.shore_types.specs.declared.locking.Granule.{Granule}
use Rattle.shore_types.specs.declared.locking.Mode.{Mode}
use Rattle.shore_model.specs.declared.holds.Hold.{Hold}
use Rattle.shore_model.specs.declared.requests.Request.{Request}
use Rattle.shore_model.specs.Locks.{HoldsAtLeast, IsRooted, WellRooted, ancestors}
use Rattle.shore_model.specs.Modes.{parent_mode}
use Rattle.shore_model.specs.Requests.{AreRequests, held_by_all, hold_in, hold_of}
use Rattle.shore_locks.specs.Grants.{is_enough}
use Rattle.shore_locks.specs.Tables.{mode_held}
use Rattle.shore_locks.proofs.Members.{In, All-In, In-All}
use Rattle.shore_path.specs.Rooted.{AreRooted, IsRootedRequest}
use Rattle.shore_path.proofs.Holding.{In-filter_map, enough_of, holder_from_lock, holder_of, lock_from_holder}
use Rattle.shore_path.proofs.Kept.{Each}
use Rattle.shore_path.proofs.Moving.{Rooted}

lock : Request → Mode → Hold
lock r m = record { txn = r.txn; granule = r.granule; mode = m }

to_above : (rs : List Request) → AreRequests rs → (t : ℕ) (m : Mode) (gs : List Granule) → AllByRecursion (HoldsAtLeast (held_by_all rs) t (parent_mode m)) gs
    → (a : Granule) → In a gs → is_enough (parent_mode m) (mode_held t a rs) ≡ true
to_above rs one t m [] all a h = absurd h
to_above rs one t m (g ∷ gs) all a h =
    ⊎_elim (λ e. subst (λ k. is_enough (parent_mode m) (mode_held t k rs) ≡ true) e (enough_of t g (parent_mode m) rs one (holder_from_lock t g (parent_mode m) rs all.0)))
    (λ t'. to_above rs one t m gs all.1 a t') h

from_above : (rs : List Request) (t : ℕ) (m : Mode) (gs : List Granule) → ((a : Granule) → In a gs → is_enough (parent_mode m) (mode_held t a rs) ≡ true)
    → AllByRecursion (HoldsAtLeast (held_by_all rs) t (parent_mode m)) gs
from_above rs t m [] each = tt
from_above rs t m (g ∷ gs) each =
    (lock_from_holder t g (parent_mode m) rs (holder_of t g (parent_mode m) rs (each g (inl refl))), from_above rs t m gs (λ a h. each a (inr h)))

has_lock : (r : Request) (o : Option Mode) (m : Mode) (Q : Hold → Type 0) → o ≡ Some m → IfSome (hold_in r o) Q → Q (lock r m)
unfolding lock
has_lock r None m Q e h = cc
has_lock r (Some k) m Q e h = let same : k ≡ m = cc in subst (λ x. Q (record { txn = r.txn; granule = r.granule; mode = x })) same h

give_lock : (r : Request) (o : Option Mode) (Q : Hold → Type 0) → ((m : Mode) → o ≡ Some m → Q (lock r m)) → IfSome (hold_in r o) Q
unfolding lock
give_lock r None Q each = tt
give_lock r (Some m) Q each = each m refl

pub rooted_of : (rs : List Request) → AreRequests rs → AreRooted rs → Rooted Each rs
unfolding lock
rooted_of rs one all r h p m has =
    let its = In-All (IsRootedRequest rs) rs r all h in
    to_above rs one r.txn m (ancestors r.granule)
    (⊎_elim (λ held. has_lock r r.held m (IsRooted (held_by_all rs)) held its.0) (λ wanted. has_lock r r.wanted m (IsRooted (held_by_all rs)) wanted its.1) has)

pub are_rooted : (rs : List Request) → Rooted Each rs → AreRooted rs
unfolding lock
are_rooted rs rooted =
    All-In (IsRootedRequest rs) rs (λ r h. (
      give_lock r r.held (IsRooted (held_by_all rs)) (λ m is. from_above rs r.txn m (ancestors r.granule) (rooted r h tt m (inl is))),
      give_lock r r.wanted (IsRooted (held_by_all rs)) (λ m is. from_above rs r.txn m (ancestors r.granule) (rooted r h tt m (inr is))),
    ))

-- .. and as locks
in_lock : (o : Option Hold) (h : Hold) (Q : Hold → Type 0) → o ≡ Some h → IfSome o Q → Q h
in_lock None h Q e q = cc
in_lock (Some k) h Q e q = let same : k ≡ h = cc in subst Q same q

pub well_rooted : (rs : List Request) → AreRooted rs → WellRooted (held_by_all rs)
well_rooted rs all =
    All-In (IsRooted (held_by_all rs)) (held_by_all rs) (λ h i.
    let r = In-filter_map hold_of rs h i in
    in_lock (hold_of r.0) h (IsRooted (held_by_all rs)) r.2 (In-All (IsRootedRequest rs) rs r.0 all r.1).0)
