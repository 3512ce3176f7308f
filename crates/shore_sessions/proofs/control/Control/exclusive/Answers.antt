use Rattle.std.proofs.Common.{◌==◌, ℕ, List, map, sym, ap, subst, ◌∙◌}
use Rattle.std.specs.Prelude.{◌&&◌, filter}
use Rattle.std.specs.FinMap.{from_entries, keys}
use Rattle.shore_types.specs.Locking.{granule_cmp}
use Rattle.shore_types.specs.declared.locking.Granule.{Granule}
use Rattle.shore_model.specs.declared.holds.Hold.{Hold}
use Rattle.shore_model.specs.Modes.{is_write}
use Rattle.shore_model.specs.Requests.{AreRequests, held_by_all}
use Rattle.shore_locks.specs.Tables.{Table}
use Rattle.shore_locks.proofs.ExclusiveKeys.{exclusive_keys}
use Rattle.shore_sessions.specs.Controls.{locks_in}
use Rattle.shore_sessions.proofs.Answered.{ok_both}
use Rattle.shore_sessions.proofs.control.Control.exclusive.Goals as goal

-- the granules that a transaction holds in EX
abbrev in_ex : ℕ → List Hold → List Granule
in_ex t held = keys (from_entries {R = granule_cmp} (map (λ h. (h.granule, h.txn)) (filter (λ h. (h.txn == t) && is_write h.mode) held)))

pub returns-clause-listed : goal.returns-clause-listed
returns-clause-listed c = ok_both c.exclusive.result
    (λ granules held rise s a was locks own.
    let rs = (locks_in c.args.self.now).requests in
    let one : AreRequests rs = subst (λ (t : Table). AreRequests t.requests) was.locks locks.orderly.one_each in
    exclusive_keys c.args.txn rs granules one held rise
    ∙ ap (λ t. in_ex t (held_by_all rs)) (sym own)
    ∙ ap (in_ex a.txn) (sym (locks.held ∙ ap (λ (t : Table). held_by_all t.requests) was.locks)))
    c.exclusive.ensures.held c.exclusive.ensures.order
