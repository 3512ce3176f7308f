use Rattle.std.proofs.Common.{◌+◌, ◌≡◌, ℕ, inl, inr, Result, false, true, refl, sym, ap, subst, ◌∙◌, length, arith}
use Rattle.shore_log.specs.Settled.{cut_of_log, records_of_log}
use Rattle.shore_analysis.proofs.Padding.{length_padded}
use Rattle.shore_restart.proofs.Frames.{last_is}
use Rattle.shore_heap.specs.Heaps.{geometry_of, history_of}
use Rattle.laws_lives.specs.Recovery.{after_force}
use Rattle.shore_restart.specs.declared.errors.RestartError.{RestartError}
use Rattle.shore_restart.specs.Standing.{RestartMoves, log_seen}
use Rattle.shore_restart.proofs.Causes.{device_alone, err_to, force_runs, none_above}
use Rattle.shore_restart.proofs.Coming.{came_fetched, came_forced, came_here, fetch_moves, force_stops}
use Rattle.shore_restart.proofs.PageErrors.{err_with}
use Rattle.shore_restart.proofs.HeldPages.{fetch_alone, fetch_forced, fetch_seen, held_behind, held_other, stable_short}
use Rattle.shore_restart.specs.Held.{FetchesHeld, IsHeld}
use Rattle.shore_restart.proofs.QuietLogs.{quiet_beside, quiet_err, quiet_of}
use Rattle.shore_restart.proofs.Undoing.{on_ok}
use Rattle.shore_restart.proofs.turns.bring.Goals as goal

pub returns-then-not-needs_force-clause-moves : goal.returns-then-not-needs_force-clause-moves
returns-then-not-needs_force-clause-moves g c log_front front anchor disk s ready =
    let log = c.args.log.now in
    let heap = c.args.heap.now in
    let durable = ready.at_rest.durable in
    let told = c.number-durable.ensures ∙ c.durable.ensures in
    fetch_moves log_front front anchor log heap s c.fetch-fetched.result log heap c.fetch-fetched.new.heap s (came_here log_front front anchor log heap s disk ready)
    (c.fetch-fetched.ensures.fetches front disk s ready.stands (omega (arith, durable, told))) c.fetch-fetched.ensures.volume.geometry refl refl

pub returns-then-not-needs_force-clause-device : goal.returns-then-not-needs_force-clause-device
returns-then-not-needs_force-clause-device g c log_front front anchor disk s ready =
    let no : c.needs_force.result ≡ false = c.if-not-needs_force.true in
    let records = last_is log_front anchor c.args.log.now s ready.at_rest in
    let found = c.last-last.ensures in
    device_alone c.fetch-fetched.result c.number-durable.result (length s.log) (λ force. let yes : c.needs_force.result ≡ true = c.needs_force.ensures.1 force in let clash : true ≡ false = sym yes ∙ no in cc)
    (c.fetch-fetched.ensures.device front disk s ready.stands (omega (arith, records, found)))

pub returns-in_err-force-clause-moves : goal.returns-in_err-force-clause-moves
returns-in_err-force-clause-moves g c log_front front anchor disk s ready =
    let log = c.args.log.now in
    let heap = c.args.heap.now in
    let mid = c.fetch-fetched.new.heap in
    let durable = ready.at_rest.durable in
    let told = c.number-durable.ensures ∙ c.durable.ensures in
    let needed = c.needs_force.ensures.0 c.if-not-needs_force.false in
    let f = c.fetch-fetched.ensures.fetches front disk s ready.stands (omega (arith, durable, told)) in
    let came = came_fetched log_front front anchor log heap s log heap mid s c.fetch-fetched.result (came_here log_front front anchor log heap s disk ready) f
    (force_runs c.fetch-fetched.result needed.0 needed.1) c.fetch-fetched.ensures.volume.geometry in
    let e = c.in_err-force.field-0.0 in
    subst (λ (result : Result (Unit {0}) RestartError). RestartMoves result log_front front anchor log c.force.new.log heap mid s (λ later. (later.log ≡ s.log) × (later.in_place ≡ s.in_place)))
    (sym (err_with c.from_residual.result e c.from_residual.ensures.1))
    (force_stops log_front front anchor log heap s e e log c.force.new.log mid f.later (λ later. (later.log ≡ s.log) × (later.in_place ≡ s.in_place)) came
    (c.in_err-force.ensures.forces log_front anchor f.later came.ready.at_rest came.ready.redone (geometry_of heap) front (history_of mid) f.work.left))

pub returns-clause-moves : goal.returns-clause-moves
returns-clause-moves g c log_front front anchor disk s ready =
    let log = c.args.log.now in
    let heap = c.args.heap.now in
    let mid = c.fetch-fetched.new.heap in
    let durable = ready.at_rest.durable in
    let told = c.number-durable.ensures ∙ c.durable.ensures in
    let needed = c.needs_force.ensures.0 c.if-not-needs_force.false in
    let f = c.fetch-fetched.ensures.fetches front disk s ready.stands (omega (arith, durable, told)) in
    let came = came_fetched log_front front anchor log heap s log heap mid s c.fetch-fetched.result (came_here log_front front anchor log heap s disk ready) f
    (force_runs c.fetch-fetched.result needed.0 needed.1) c.fetch-fetched.ensures.volume.geometry in
    let forces = c.in_ok-force.ensures.forces log_front anchor f.later came.ready.at_rest came.ready.redone (geometry_of heap) front (history_of mid) f.work.left in
    let forced = came_forced log_front front anchor log heap s log c.force.new.log mid f.later came forces in
    let all = forces.done.0 in
    let records : length f.later.log ≡ cut_of_log c.args.log.now + length (records_of_log c.args.log.now) = ap length f.same.log ∙ sym (last_is log_front anchor c.args.log.now s ready.at_rest) in
    let found = c.last-last.ensures in
    fetch_moves log_front front anchor log heap s c.fetch.result c.force.new.log mid c.fetch.new.heap (after_force f.later forces.durable) forced
    (c.fetch.ensures.fetches front forced.disk (after_force f.later forces.durable) forced.ready.stands (omega (arith, all, records, found))) c.fetch.ensures.volume.geometry f.same.log f.same.in_place

pub returns-clause-device : goal.returns-clause-device
returns-clause-device g c log_front front anchor disk s ready =
    let log = c.args.log.now in
    let heap = c.args.heap.now in
    let mid = c.fetch-fetched.new.heap in
    let durable = ready.at_rest.durable in
    let told = c.number-durable.ensures ∙ c.durable.ensures in
    let needed = c.needs_force.ensures.0 c.if-not-needs_force.false in
    let f = c.fetch-fetched.ensures.fetches front disk s ready.stands (omega (arith, durable, told)) in
    let came = came_fetched log_front front anchor log heap s log heap mid s c.fetch-fetched.result (came_here log_front front anchor log heap s disk ready) f
    (force_runs c.fetch-fetched.result needed.0 needed.1) c.fetch-fetched.ensures.volume.geometry in
    let records : length f.later.log ≡ cut_of_log c.args.log.now + length (records_of_log c.args.log.now) = ap length f.same.log ∙ sym (last_is log_front anchor c.args.log.now s ready.at_rest) in
    let found = c.last-last.ensures in
    none_above c.fetch.result c.last-last.result (length f.later.log) (omega (arith, records, found))
    (c.fetch.ensures.device front came.disk f.later came.ready.stands (omega (arith, records, found)))

pub returns-then-not-needs_force-clause-any_pages : goal.returns-then-not-needs_force-clause-any_pages
returns-then-not-needs_force-clause-any_pages g c front first disk done held =
    let log = c.args.log.now in
    let heap = c.args.heap.now in
    let n = length (log_seen log) in
    let mid = c.fetch-fetched.new.heap in
    let long = length_padded (cut_of_log log) (records_of_log log) in
    let found : c.last-last.result ≡ n = c.last-last.ensures ∙ sym long in
    let short = stable_short log in
    let told = c.number-durable.ensures ∙ c.durable.ensures in
    let fetched = subst (λ (last : ℕ). FetchesHeld c.fetch-fetched.result (λ p. p ≡ c.args.page) front first disk heap mid done last c.number-durable.result) found
    (c.fetch-fetched.ensures.any_pages front first disk done (subst (λ (last : ℕ). IsHeld front first disk heap done last) (sym found) held) (omega (arith, found, long, short, told))) in
    let no : c.needs_force.result ≡ false = c.if-not-needs_force.true in
    fetch_alone front first disk heap mid done n c.number-durable.result c.fetch-fetched.result (λ force. let yes : c.needs_force.result ≡ true = c.needs_force.ensures.1 force in let clash : true ≡ false = sym yes ∙ no in cc) fetched

pub returns-in_err-force-clause-any_pages : goal.returns-in_err-force-clause-any_pages
returns-in_err-force-clause-any_pages g c front first disk done held =
    let n = length (log_seen c.args.log.now) in
    held_other front first disk c.args.heap.now c.fetch-fetched.new.heap n done n c.from_residual.result c.in_err-force.field-0.0 c.from_residual.ensures.1 (λ f page. elim c.in_err-force.ensures.refused [
      | inl memory ↦ let clash = sym memory ∙ page in cc
      | inr (inl device) ↦ let clash = sym device ∙ page in cc
      | inr (inr full) ↦ let clash = sym full ∙ page in cc
    ])

pub returns-clause-any_pages : goal.returns-clause-any_pages
returns-clause-any_pages g c front first disk done held =
    let log = c.args.log.now in
    let heap = c.args.heap.now in
    let n = length (log_seen log) in
    let mid = c.fetch-fetched.new.heap in
    let long = length_padded (cut_of_log log) (records_of_log log) in
    let found : c.last-last.result ≡ n = c.last-last.ensures ∙ sym long in
    let short = stable_short log in
    let told = c.number-durable.ensures ∙ c.durable.ensures in
    let fetched = subst (λ (last : ℕ). FetchesHeld c.fetch-fetched.result (λ p. p ≡ c.args.page) front first disk heap mid done last c.number-durable.result) found
    (c.fetch-fetched.ensures.any_pages front first disk done (subst (λ (last : ℕ). IsHeld front first disk heap done last) (sym found) held) (omega (arith, found, long, short, told))) in
    let needed = c.needs_force.ensures.0 c.if-not-needs_force.false in
    let s = fetch_forced front first disk heap mid done n c.number-durable.result c.fetch-fetched.result needed.0 needed.1 fetched in
    let again = subst (λ (last : ℕ). FetchesHeld c.fetch.result (λ p. p ≡ c.args.page) front first s.left mid c.fetch.new.heap done last last) found
    (c.fetch.ensures.any_pages front first s.left done (subst (λ (last : ℕ). IsHeld front first s.left mid done last) (sym found) s.held) (omega arith)) in
    held_behind front first disk heap mid n done n s c.fetch.result c.fetch.new.heap done n c.fetch-fetched.ensures.volume.geometry
    (fetch_seen front first s.left mid c.fetch.new.heap done n c.fetch.result again)

pub returns-then-not-needs_force-clause-log_device : goal.returns-then-not-needs_force-clause-log_device
returns-then-not-needs_force-clause-log_device g c log_front quiet =
    quiet_beside log_front c.args.log.now c.args.log.now c.fetch-fetched.result (err_to c.fetch-fetched.result c.fetch-fetched.ensures.others (λ error others. others.2)) quiet (omega arith)

pub returns-in_err-force-clause-log_device : goal.returns-in_err-force-clause-log_device
returns-in_err-force-clause-log_device g c log_front quiet =
    quiet_err log_front c.args.log.now c.args.log.now c.force.new.log (omega arith) c.from_residual.result c.in_err-force.field-0.0 c.from_residual.ensures.1 (c.in_err-force.ensures.log_device log_front quiet)

pub returns-clause-log_device : goal.returns-clause-log_device
returns-clause-log_device g c log_front quiet =
    let on = quiet_of log_front c.args.log.now c.force.new.log c.in_ok-force.field-0 (c.in_ok-force.ensures.log_device log_front quiet) in
    quiet_beside log_front c.args.log.now c.force.new.log c.fetch.result (err_to c.fetch.result c.fetch.ensures.others (λ error others. others.2)) on.0 on.1

pub returns-then-not-needs_force-clause-unstaged : goal.returns-then-not-needs_force-clause-unstaged
returns-then-not-needs_force-clause-unstaged g c = on_ok c.fetch-fetched.result (λ none. none)

pub returns-clause-unstaged : goal.returns-clause-unstaged
returns-clause-unstaged g c = on_ok c.fetch.result (λ none. (c.in_ok-force.ensures.forced none).0)
