-- What the answers of a table say.
use Rattle.std.proofs.Common.{ap, ◌≡◌, ◌⊎◌, inl, inr, ⊎_elim, ℕ, List, Bool, true, false, Option, None, Some, refl, sym, subst}
use Rattle.std.specs.Prelude.{cond, is_some, Any, Contains}
use Rattle.shore_types.specs.declared.locking.Granule.{Granule}
use Rattle.shore_types.specs.declared.locking.Mode.{Mode}
use Rattle.shore_model.specs.declared.requests.Request.{Request}
use Rattle.shore_model.specs.Requests.{AreRequests, WaitsFor, placed_last}
use Rattle.shore_locks.specs.declared.answers.Requested.{Requested}
use Rattle.shore_locks.specs.declared.answers.Requested.TheVariants.{Granted, Waiting, Full}
use Rattle.shore_locks.specs.declared.answers.Tried.{Tried}
use Rattle.shore_locks.specs.declared.answers.Tried.TheVariants.{Blocked, Granted as TryGranted, Full as TryFull}
use Rattle.shore_nodes.specs.Tables.{Table, is_waiting, mode_held}
use Rattle.shore_locks.specs.Grants.{after_grant, asking, blocked_by, granted, is_enough, is_full, obstacle, passed, put}
use Rattle.shore_locks.specs.Laws.{BlockedByOneInTheWay, GrantedIsHeld, OnlyGrants, RefusedChangesNothing, StaysQuiet, WaitsForSomebody}
use Rattle.shore_nodes.proofs.Entering.{AreRequests-put, In-put, none_waits}
use Rattle.shore_nodes.proofs.Fits.{wants_nothing}
use Rattle.shore_nodes.proofs.Members.{All-In, In-Contains}
use Rattle.shore_locks.proofs.Outcomes.{any_from, held_after_grant, nobody_wants, grant_pass_only_grants, waits_for_obstacle}

pub only_grants : (rs : List Request) (g : Granule) → AreRequests rs → OnlyGrants rs (passed g rs)
only_grants rs g one =
    All-In (λ r. Contains rs r ⊎ Any (λ q. r ≡ granted q) rs) (passed g rs)
    (λ r h. ⊎_elim (λ stood. inl (In-Contains rs r stood)) (λ was. inr (any_from (λ q. r ≡ granted q) rs was.0 was.1 was.2)) (grant_pass_only_grants g rs one r h))

-- the cases of an answer, and of the requests after it
abbrev answered : Bool → Bool → Bool → Requested
answered enough full stopped = cond enough Granted (cond full Full (cond stopped Waiting Granted))

abbrev tried : Bool → Bool → Option Request → Tried
tried enough full o = cond enough TryGranted (cond full TryFull (blocked_by o))

abbrev among : {A : Type 0} → Bool → Bool → Bool → A → A → A → A
among enough full stopped same waits grants = cond enough same (cond full same (cond stopped waits grants))

blocks : (enough full : Bool) (o : Option Request) (u : ℕ) → tried enough full o ≡ Blocked u → (q : Request) × (o ≡ Some q) × (q.txn ≡ u)
blocks true full o u e = cc
blocks false true o u e = cc
blocks false false None u e = cc
blocks false false (Some q) u e = (q, refl, cc)

pub blocked_waits : (table : Table) (t : ℕ) (g : Granule) (mode : Mode) → BlockedByOneInTheWay table t g mode
blocked_waits table t g mode u e =
    let b = blocks (is_enough mode (mode_held t g table.requests)) (is_full table t g) (obstacle (asking t g mode table.requests) table.requests) u e in
    subst (WaitsFor (placed_last (asking t g mode table.requests) table.requests) t) b.2 (waits_for_obstacle t g mode table.requests b.0 b.1)

waiting_when : (enough full : Bool) (o : Option Request) → answered enough full (is_some o) ≡ Waiting → (enough ≡ false) × (full ≡ false) × (q : Request) × (o ≡ Some q)
waiting_when true full o e = cc
waiting_when false true o e = cc
waiting_when false false None e = cc
waiting_when false false (Some q) e = (refl, refl, q, refl)

stopped_among : {A : Type 0} (enough full : Bool) (o : Option Request) (q : Request) (same waits grants : A) → enough ≡ false → full ≡ false → o ≡ Some q → among enough full (is_some o) same waits grants ≡ waits
stopped_among true full o q same waits grants e f is = cc
stopped_among false true o q same waits grants e f is = cc
stopped_among false false None q same waits grants e f is = cc
stopped_among false false (Some r) q same waits grants e f is = refl

pub waiting_waits : (table : Table) (t : ℕ) (g : Granule) (mode : Mode) → WaitsForSomebody table t g mode
waiting_waits table t g mode e =
    let rs = table.requests in
    let w = waiting_when (is_enough mode (mode_held t g table.requests)) (is_full table t g) (obstacle (asking t g mode table.requests) table.requests) e in
    let now = stopped_among (is_enough mode (mode_held t g table.requests)) (is_full table t g) (obstacle (asking t g mode table.requests) table.requests) w.2
    table.requests (placed_last (asking t g mode table.requests) table.requests) (after_grant t g mode table.requests) w.0 w.1 w.3 in
    (w.2.txn, subst (λ xs. WaitsFor xs t w.2.txn) (sym now) (waits_for_obstacle t g mode table.requests w.2 w.3))

held_among : (P : List Request → Bool) (enough full : Bool) (o : Option Request) (same waits grants : List Request) → P same ≡ enough → P grants ≡ true → answered enough full (is_some o) ≡ Granted → P (among enough full (is_some o) same waits grants) ≡ true
held_among P true full o same waits grants e f is = e
held_among P false true o same waits grants e f is = cc
held_among P false false None same waits grants e f is = f
held_among P false false (Some q) same waits grants e f is = cc

try_held_among : (P : List Request → Bool) (enough full : Bool) (o : Option Request) (same grants : List Request) → P same ≡ enough → P grants ≡ true → tried enough full o ≡ TryGranted → P (among enough full (is_some o) same same grants) ≡ true
try_held_among P true full o same grants e f is = e
try_held_among P false true o same grants e f is = cc
try_held_among P false false None same grants e f is = f
try_held_among P false false (Some q) same grants e f is = cc

pub granted_held : (table : Table) (t : ℕ) (g : Granule) (mode : Mode) → AreRequests table.requests → GrantedIsHeld table t g mode
granted_held table t g mode one = (
  λ e. held_among (λ rs. is_enough mode (mode_held t g rs)) (is_enough mode (mode_held t g table.requests)) (is_full table t g) (obstacle (asking t g mode table.requests) table.requests)
      table.requests (placed_last (asking t g mode table.requests) table.requests) (after_grant t g mode table.requests) refl (held_after_grant t g mode table.requests one) e,
  λ e. try_held_among (λ rs. is_enough mode (mode_held t g rs)) (is_enough mode (mode_held t g table.requests)) (is_full table t g) (obstacle (asking t g mode table.requests) table.requests)
      table.requests (after_grant t g mode table.requests) refl (held_after_grant t g mode table.requests one) e,
)

full_among : {A : Type 0} (enough full : Bool) (o : Option Request) (same waits grants : A) → answered enough full (is_some o) ≡ Full → among enough full (is_some o) same waits grants ≡ same
full_among true full o same waits grants e = cc
full_among false true o same waits grants e = refl
full_among false false None same waits grants e = cc
full_among false false (Some q) same waits grants e = cc

try_full_among : {A : Type 0} (enough full : Bool) (o : Option Request) (same grants : A) → tried enough full o ≡ TryFull → among enough full (is_some o) same same grants ≡ same
try_full_among true full o same grants e = cc
try_full_among false true o same grants e = refl
try_full_among false false None same grants e = cc
try_full_among false false (Some q) same grants e = cc

try_blocked_among : {A : Type 0} (enough full : Bool) (o : Option Request) (same grants : A) (u : ℕ) → tried enough full o ≡ Blocked u → among enough full (is_some o) same same grants ≡ same
try_blocked_among true full o same grants u e = cc
try_blocked_among false true o same grants u e = cc
try_blocked_among false false None same grants u e = cc
try_blocked_among false false (Some q) same grants u e = refl

pub refused_unchanged : (table : Table) (t : ℕ) (g : Granule) (mode : Mode) → RefusedChangesNothing table t g mode
refused_unchanged table t g mode = (
  λ e. full_among (is_enough mode (mode_held t g table.requests)) (is_full table t g) (obstacle (asking t g mode table.requests) table.requests)
      table.requests (placed_last (asking t g mode table.requests) table.requests) (after_grant t g mode table.requests) e,
  λ e. try_full_among (is_enough mode (mode_held t g table.requests)) (is_full table t g) (obstacle (asking t g mode table.requests) table.requests)
      table.requests (after_grant t g mode table.requests) e,
  λ u e. try_blocked_among (is_enough mode (mode_held t g table.requests)) (is_full table t g) (obstacle (asking t g mode table.requests) table.requests)
      table.requests (after_grant t g mode table.requests) u e,
)

-- a transaction that did not wait does not wait once it is granted, at once
after_grant_quiet : (t : ℕ) (g : Granule) (mode : Mode) (rs : List Request) → AreRequests rs → is_waiting t rs ≡ false → is_waiting t (after_grant t g mode rs) ≡ false
after_grant_quiet t g mode rs one quiet =
    let ones = AreRequests-put (granted (asking t g mode rs)) rs one in
    nobody_wants t (after_grant t g mode rs) (λ q h by wants. ⊎_elim
    (λ stood. ⊎_elim
    (λ new. wants_nothing q.wanted (ap (λ (x : Request). x.wanted) new) wants)
    (λ old. none_waits t rs quiet q old.0 by wants)
    (In-put (granted (asking t g mode rs)) rs q stood))
    (λ was. wants_nothing q.wanted (ap (λ (x : Request). x.wanted) was.2) wants)
    (grant_pass_only_grants g (put (granted (asking t g mode rs)) rs) ones q h))

quiet_among : (P : List Request → Bool) (enough full : Bool) (o : Option Request) (same waits grants : List Request) → P same ≡ false → P grants ≡ false → (answered enough full (is_some o) ≡ Waiting → ⊥) → P (among enough full (is_some o) same waits grants) ≡ false
quiet_among P true full o same waits grants e f never = e
quiet_among P false true o same waits grants e f never = e
quiet_among P false false None same waits grants e f never = f
quiet_among P false false (Some q) same waits grants e f never = absurd (never refl)

try_quiet_among : (P : List Request → Bool) (enough full : Bool) (o : Option Request) (same grants : List Request) → P same ≡ false → P grants ≡ false → P (among enough full (is_some o) same same grants) ≡ false
try_quiet_among P true full o same grants e f = e
try_quiet_among P false true o same grants e f = e
try_quiet_among P false false None same grants e f = f
try_quiet_among P false false (Some q) same grants e f = e

pub stays_quiet : (table : Table) (t : ℕ) (g : Granule) (mode : Mode) → AreRequests table.requests → is_waiting t table.requests ≡ false → StaysQuiet table t g mode
stays_quiet table t g mode one quiet = (
  λ never. quiet_among (is_waiting t) (is_enough mode (mode_held t g table.requests)) (is_full table t g) (obstacle (asking t g mode table.requests) table.requests)
      table.requests (placed_last (asking t g mode table.requests) table.requests) (after_grant t g mode table.requests) quiet (after_grant_quiet t g mode table.requests one quiet) never,
  try_quiet_among (is_waiting t) (is_enough mode (mode_held t g table.requests)) (is_full table t g) (obstacle (asking t g mode table.requests) table.requests)
      table.requests (after_grant t g mode table.requests) quiet (after_grant_quiet t g mode table.requests one quiet),
)
