-- Laws of waits and of cycles.
use Rattle.std.proofs.Common.{◌≡◌, ⊎_elim, ℕ, List, Bool, true, false, Option, None, Some, refl}
use Rattle.std.specs.Prelude.{cond, is_some}
use Rattle.shore_types.specs.declared.locking.Granule.{Granule}
use Rattle.shore_types.specs.declared.locking.Mode.{Mode}
use Rattle.shore_model.specs.declared.requests.Request.{Request}
use Rattle.shore_model.specs.Requests.{HasNoCycle, WaitsFor, placed_last}
use Rattle.shore_locks.specs.declared.answers.Requested.TheVariants.{Waiting, Granted, Full}
use Rattle.shore_locks.specs.Laws.{of_others}
use Rattle.shore_locks.specs.Orderly.{IsOrderly}
use Rattle.shore_locks.specs.Tables.{Table, is_waiting, mode_held}
use Rattle.shore_locks.specs.Grants.{after_grant, after_request, after_try, answer_to, asking, cancelled, granted, is_enough, is_full, obstacle, put, released}
use Rattle.shore_locks.proofs.Members.{In-Contains}
use Rattle.shore_locks.proofs.Entering.{Fit-put, In-put, none_waits}
use Rattle.shore_locks.proofs.Tables.{fit_of}
use Rattle.shore_cycles.specs.Cycles.{IsOnEachCycle}
use Rattle.shore_cycles.proofs.Edges.{edge_of}
use Rattle.shore_cycles.proofs.Changes.{others-placed, others-put, pass_adds_none, waiter_wants}
use Rattle.shore_cycles.proofs.Walks.{cycle_apart, free_of_fewer, member_or_not, member_waits}
use Rattle.shore_cycles.proofs.Steps.{cancelled_adds_none, released_adds_none}
use Rattle.shore_locks.proofs.Fits.{Fit, wants_nothing}

pub cancel_keeps_free : (rs : List Request) (t : ℕ) → IsOrderly rs → HasNoCycle rs → HasNoCycle (cancelled t rs)
cancel_keeps_free rs t orderly free = free_of_fewer rs (cancelled t rs) (λ a b h. cancelled_adds_none rs t a b orderly h) free

pub release_keeps_free : (rs : List Request) (t : ℕ) → IsOrderly rs → HasNoCycle rs → HasNoCycle (released t rs)
release_keeps_free rs t orderly free = free_of_fewer rs (released t rs) (λ a b h. released_adds_none rs t a b orderly h) free

-- if the requests of others stay, each new cycle passes the transaction
on_each_new : (t : ℕ) (rs new : List Request) → of_others t new ≡ of_others t rs → HasNoCycle rs → IsOnEachCycle new t
on_each_new t rs new same free cycle closed =
    ⊎_elim (λ member. In-Contains cycle t member) (λ out. absurd (free cycle (cycle_apart t new rs same cycle out closed))) (member_or_not t cycle)

-- .. and if it waits for nobody there is none
free_of_quiet : (t : ℕ) (rs new : List Request) → of_others t new ≡ of_others t rs → ((u : ℕ) → WaitsFor new t u → ⊥) → HasNoCycle rs → HasNoCycle new
free_of_quiet t rs new same never free cycle closed =
    ⊎_elim (λ member. let on = member_waits new cycle t closed member in never on.0 on.1) (λ out. free cycle (cycle_apart t new rs same cycle out closed)) (member_or_not t cycle)

module _ (t : ℕ) (g : Granule) (mode : Mode) (rs : List Request) (fit : Fit rs) (quiet : is_waiting t rs ≡ false) (free : HasNoCycle rs) where
  abbrev asked : Request
  asked = asking t g mode rs

  -- who is granted at once waits for nobody
  put_waits_not : (u : ℕ) → WaitsFor (put (granted asked) rs) t u → ⊥
  put_waits_not u h =
      let e = edge_of (put (granted asked) rs) t u h in
      let wants = waiter_wants (put (granted asked) rs) t u e in
      ⊎_elim
      (λ same. wants_nothing e.waiter.wanted (λ i. (same i).wanted) wants)
      (λ stood. none_waits t rs quiet e.waiter stood.0 e.by wants)
      (In-put (granted asked) rs e.waiter e.waiter_in)

  pub free_granted : obstacle asked rs ≡ None → HasNoCycle (after_grant t g mode rs)
  free_granted none =
      free_of_fewer (put (granted asked) rs) (after_grant t g mode rs)
      (λ a b h. pass_adds_none g (put (granted asked) rs) (Fit-put t g mode rs fit none) a b h)
      (free_of_quiet t rs (put (granted asked) rs) (others-put t (granted asked) rs refl) put_waits_not free)

  pub on_each_placed : IsOnEachCycle (placed_last asked rs) t
  on_each_placed = on_each_new t rs (placed_last asked rs) (others-placed t asked rs refl) free

-- by the cases of an answer
among_answered : (P : List Request → Type 0) (enough full : Bool) (o : Option Request) (same waits grants : List Request) → P same → (o ≡ None → P grants)
    → (cond enough Granted (cond full Full (cond (is_some o) Waiting Granted)) ≡ Waiting → P waits) → P (cond enough same (cond full same (cond (is_some o) waits grants)))
among_answered P true full o same waits grants p q r = p
among_answered P false true o same waits grants p q r = p
among_answered P false false None same waits grants p q r = q refl
among_answered P false false (Some x) same waits grants p q r = r refl

pub answered_keeps_free : (table : Table) (t : ℕ) (g : Granule) (mode : Mode) → IsOrderly table.requests → is_waiting t table.requests ≡ false → HasNoCycle table.requests
    → (answer_to table t g mode ≡ Waiting → ⊥) → HasNoCycle (after_request table t g mode)
answered_keeps_free table t g mode orderly quiet free never =
    among_answered HasNoCycle (is_enough mode (mode_held t g table.requests)) (is_full table t g) (obstacle (asking t g mode table.requests) table.requests)
    table.requests (placed_last (asking t g mode table.requests) table.requests) (after_grant t g mode table.requests)
    free (free_granted t g mode table.requests (fit_of table.requests orderly) quiet free) (λ waits. absurd (never waits))

pub asker_on_each : (table : Table) (t : ℕ) (g : Granule) (mode : Mode) → IsOrderly table.requests → is_waiting t table.requests ≡ false → HasNoCycle table.requests
    → IsOnEachCycle (after_request table t g mode) t
asker_on_each table t g mode orderly quiet free =
    among_answered (λ rs. IsOnEachCycle rs t) (is_enough mode (mode_held t g table.requests)) (is_full table t g) (obstacle (asking t g mode table.requests) table.requests)
    table.requests (placed_last (asking t g mode table.requests) table.requests) (after_grant t g mode table.requests)
    (λ cycle closed. absurd (free cycle closed)) (λ none cycle closed. absurd (free_granted t g mode table.requests (fit_of table.requests orderly) quiet free none cycle closed))
    (λ waits. on_each_placed t g mode table.requests (fit_of table.requests orderly) quiet free)

among_tried : (P : List Request → Type 0) (enough full : Bool) (o : Option Request) (same grants : List Request) → P same → (o ≡ None → P grants) → P (cond enough same (cond full same (cond (is_some o) same grants)))
among_tried P true full o same grants p q = p
among_tried P false true o same grants p q = p
among_tried P false false None same grants p q = q refl
among_tried P false false (Some x) same grants p q = p

pub try_keeps_free : (table : Table) (t : ℕ) (g : Granule) (mode : Mode) → IsOrderly table.requests → is_waiting t table.requests ≡ false → HasNoCycle table.requests
    → HasNoCycle (after_try table t g mode)
try_keeps_free table t g mode orderly quiet free =
    among_tried HasNoCycle (is_enough mode (mode_held t g table.requests)) (is_full table t g) (obstacle (asking t g mode table.requests) table.requests)
    table.requests (after_grant t g mode table.requests) free (free_granted t g mode table.requests (fit_of table.requests orderly) quiet free)
