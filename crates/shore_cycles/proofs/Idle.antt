-- New waiters hold nothing, so they refuse nobody.
use Rattle.std.proofs.Common.{◌≡◌, ◌++◌, ⊎_elim, List, [], ◌∷◌, Bool, true, false, Option, None, Some, refl, ap, ◌∙◌}
use Rattle.std.specs.Prelude.{filter, is_some, not, ◌&&◌, ◌==◌}
use Rattle.shore_types.specs.declared.locking.Granule.{Granule}
use Rattle.shore_types.specs.declared.locking.Mode.{Mode}
use Rattle.shore_model.specs.declared.requests.Request.{Request}
use Rattle.shore_model.specs.declared.requests.Group.TheVariants.{Conversions, NewWaiters}
use Rattle.shore_model.specs.Requests.{is_in_group, requests_at}
use Rattle.shore_locks.specs.Grants.{is_refused, refuses}
use Rattle.shore_locks.specs.Tables.{waiters_at}
use Rattle.shore_locks.proofs.Members.{either, filter-no, filter-yes}
use Rattle.shore_cycles.specs.Blockers.{refusing}

refuses_none : (asked held wanted : Option Mode) → (not (is_some held) && is_some wanted) ≡ true → is_refused asked held ≡ false
refuses_none None None wanted e = refl
refuses_none (Some a) None wanted e = refl
refuses_none asked (Some h) wanted e = cc

is_mild : (same bars : Bool) → bars ≡ false → (not same && bars) ≡ false
is_mild true bars e = refl
is_mild false bars e = e

refusing_step : (w x : Request) (xs : List Request) → refuses w x ≡ false → refusing w (x ∷ xs) ≡ refusing w xs
refusing_step w x xs e = rw e refl

new_refuse_none : (w : Request) (queue : List Request) → refusing w (filter (is_in_group NewWaiters) queue) ≡ []
new_refuse_none w [] = refl
new_refuse_none w (x ∷ queue) =
    ⊎_elim
    (λ new.
    ap (refusing w) (filter-yes (is_in_group NewWaiters) x queue new)
    ∙ refusing_step w x (filter (is_in_group NewWaiters) queue) (is_mild (x.txn == w.txn) (is_refused w.wanted x.held) (refuses_none w.wanted x.held x.wanted new))
    ∙ new_refuse_none w queue)
    (λ other. ap (refusing w) (filter-no (is_in_group NewWaiters) x queue other) ∙ new_refuse_none w queue)
    (either (is_in_group NewWaiters x))

-- if nobody converts, no waiter refuses
pub none_refuse : (w : Request) (g : Granule) (rs : List Request) → filter (is_in_group Conversions) (requests_at g rs) ≡ [] → refusing w (waiters_at g rs) ≡ []
none_refuse w g rs none = ap (λ xs. refusing w (xs ++ filter (is_in_group NewWaiters) (requests_at g rs))) none ∙ new_refuse_none w (requests_at g rs)
