use Rattle.std.proofs.Common.{◌≡◌, inl, inr, Ok, Err, None, Some, IsSomeAnd, false, length, refl, sym, ap, subst, ◌∙◌}
use Rattle.shore_types.specs.declared.faults.Fault.TheVariants as fault
use Rattle.shore_types.specs.declared.locking.Granule.TheVariants.{Record}
use Rattle.shore_types.specs.declared.locking.Mode.TheVariants.{EX}
use Rattle.shore_types.specs.Layout.{HasSlot}
use Rattle.shore_model.specs.declared.calls.Call.TheVariants as call
use Rattle.shore_locks.specs.Tables.{Table, is_waiting}
use Rattle.shore_path.specs.Acquires.{IsReached}
use Rattle.shore_path.specs.declared.answers.Acquired.TheVariants as acquire
use Rattle.shore_path.specs.declared.answers.OnConflict.TheVariants.{Refuse}
use Rattle.shore_path.specs.Intending.{CoversRecords, IntendsToWrite}
use Rattle.shore_path.specs.Walks.{acquired}
use Rattle.shore_page.specs.Room.{Fits}
use Rattle.shore_page.specs.Slots.{image_at_slot}
use Rattle.shore_heap.specs.Heaps as heaps
use Rattle.shore_heap.specs.Heaps.{frame_of}
use Rattle.shore_txn.specs.Transactions.{IsSeatIn}
use Rattle.laws_calls.specs.StateChanges.{MayChange, after_refusal}
use Rattle.laws_calls.specs.CallSteps.{behind_place, place_outcome, with_requests}
use Rattle.shore_sessions.specs.Controls.{locks_in, txns_in}
use Rattle.shore_sessions.specs.Standing.{HasControl, changed}
use Rattle.shore_core.specs.Callers.{IsOfCaller}
use Rattle.shore_core.specs.Cores.{IsSafe, geometry_of, locks_of}
use Rattle.shore_core.specs.Replies.{IsServedBehind, can_lock}
use Rattle.shore_core.proofs.Coming.{comes_then}
use Rattle.shore_core.proofs.Placing.{found_place, insert_unlogged, no_place_fault, served_behind_place, tried_here}
use Rattle.shore_core.proofs.Refusing.{map_some}
use Rattle.shore_core.proofs.Safe.{comes_locked, locks_keep, never_waits, place_reached, safe_behind_place}
use Rattle.shore_core.proofs.Taking.{served_as}
use Rattle.shore_core.proofs.Serving.{as_aside, call_then, locks_call_nothing, no_call_then, refused_as, refused_then}
use Rattle.shore_types.specs.declared.layout.Geometry.{Geometry}
use Rattle.shore_core.proofs.core_calls.Core.insert.Goals as goal

pub returns-in_err-place-clause-served : goal.returns-in_err-place-clause-served
returns-in_err-place-clause-served g c running front disk before s plain is safe over a of number =
    let old = c.args.self.now in
    served_as old c.find_place.new.self front before s plain a (call.Insert c.args.store c.args.bytes) c.from_residual.result _ c.from_residual.ensures.1
    (no_place_fault (geometry_of old) s safe.roomy.pages a c.args.store c.args.bytes (ap length c.as_slice.ensures) (locks_of old) c.args.txn is.beside.parts.stands.locks number _ (c.in_err-place.ensures.found running front disk before s plain is safe over))
    (c.in_err-place.ensures.stays front disk before s plain is safe over)

pub lock_place-requires-clause-quiet : goal.lock_place-requires-clause-quiet
lock_place-requires-clause-quiet g c = subst (λ l. is_waiting c.args.txn (locks_in l).requests ≡ false) (sym c.in_ok-place.ensures.reads.control) c.requires.quiet

pub lock_place-requires-clause-lockable : goal.lock_place-requires-clause-lockable
lock_place-requires-clause-lockable g c = subst (λ l. can_lock (locks_in l).requests c.args.txn c.in_ok-place.place) (sym c.in_ok-place.ensures.reads.control) c.in_ok-place.ensures.lockable

pub lock_place-requires-clause-covered : goal.lock_place-requires-clause-covered
lock_place-requires-clause-covered g c sure =
    subst (λ l. CoversRecords (locks_in l).requests c.args.txn c.in_ok-place.place.page.store) (sym c.in_ok-place.ensures.reads.control)
    (subst (CoversRecords (locks_of c.args.self.now).requests c.args.txn) (sym c.in_ok-place.ensures.of_store)
    (subst (λ (l : Table). CoversRecords l.requests c.args.txn c.args.store) c.locks.ensures (c.way_to_write-way.ensures.covered.0 sure)))

pub lock_place-requires-clause-intended : goal.lock_place-requires-clause-intended
lock_place-requires-clause-intended g c sure =
    subst (λ l. IntendsToWrite (locks_in l).requests c.args.txn c.in_ok-place.place.page.store) (sym c.in_ok-place.ensures.reads.control)
    (subst (IntendsToWrite (locks_of c.args.self.now).requests c.args.txn) (sym c.in_ok-place.ensures.of_store)
    (subst (λ (l : Table). IntendsToWrite l.requests c.args.txn c.args.store) c.locks.ensures (c.way_to_write-way.ensures.intended.0 sure)))

pub returns-in_err-lock_place-clause-served : goal.returns-in_err-lock_place-clause-served
returns-in_err-lock_place-clause-served g c running front disk before s plain is safe over a of number =
    let old = c.args.self.now in
    let mid = c.find_place.new.self in
    let new = c.lock_place.new.self in
    let id = c.in_ok-place.place in
    let comes = c.in_ok-place.ensures.stays front disk before s plain is safe over in
    let of_place = found_place (geometry_of old) s safe.roomy.pages a c.args.store c.args.bytes (ap length c.as_slice.ensures) (locks_of old) c.args.txn is.beside.parts.stands.locks number id (c.in_ok-place.ensures.found running front disk before s plain is safe over) in
    let same = c.lock_place.ensures.only in
    let full = c.in_err-lock_place.ensures.refused in
    let answer : (place_outcome s a id).answer ≡ Err fault.LockTableFull =
    tried_here s a id (locks_of mid) c.args.txn comes.is_in.beside.parts.stands.locks number ∙ c.in_err-lock_place.ensures.answer ∙ ap Err full in
    let stands = λ (has : HasControl mid.control s). subst (λ t. HasControl new.control (with_requests s (acquired Refuse s.locks t (Record id) EX).requests)) (sym number) (c.lock_place.ensures.stands s has) in
    served_behind_place old new front before s plain a c.args.store c.args.bytes id c.from_residual-in_err-lock_place.result _ c.from_residual-in_err-lock_place.ensures.1
    (subst (λ f. IsServedBehind (geometry_of old) s a (call.Insert c.args.store c.args.bytes) (Err f) (after_refusal f (behind_place s a id))) (sym full) (inr (inr (inl (refl, (id, of_place, answer, refl))))))
    (comes_locked mid new same front before s plain (place_outcome s a id).requests stands comes)

pub change-requires-clause-there : goal.change-requires-clause-there
change-requires-clause-there g c =
    subst (λ it. HasSlot it c.in_ok-place.place) (sym (ap (λ h. heaps.geometry_of h) c.in_ok-lock_place.ensures.only.heap ∙ c.in_ok-place.ensures.reads.volume.geometry)) c.in_ok-place.ensures.there

pub change-requires-clause-found : goal.change-requires-clause-found
change-requires-clause-found g c =
    let id = c.in_ok-place.place in
    let len = ap length c.as_slice.ensures in
    subst (λ h. IsSomeAnd (frame_of h id.page) (λ f. (image_at_slot f.page.slots id.slot ≡ None) × Fits (heaps.geometry_of h).version f.page.slots id.slot (length c.args.bytes))) (sym c.in_ok-lock_place.ensures.only.heap)
    (subst (λ (it : Geometry). IsSomeAnd (frame_of c.find_place.new.self.heap id.page) (λ f. (image_at_slot f.page.slots id.slot ≡ None) × Fits it.version f.page.slots id.slot (length c.args.bytes))) (sym c.in_ok-place.ensures.reads.volume.geometry)
    (map_some _ _ (frame_of c.find_place.new.self.heap id.page) (λ f h. (h.empty, subst (Fits (geometry_of c.args.self.now).version f.page.slots id.slot) len h.fits)) c.in_ok-place.ensures.framed))

pub change-requires-clause-seated : goal.change-requires-clause-seated
change-requires-clause-seated g c = subst (IsSeatIn c.args.seat.now) (sym (c.in_ok-lock_place.ensures.only.txns ∙ ap txns_in c.in_ok-place.ensures.reads.control)) c.requires.seated

pub change-requires-clause-own : goal.change-requires-clause-own
change-requires-clause-own g c = subst (IsOfCaller c.args.seat.now) (sym (c.in_ok-lock_place.ensures.only.txns ∙ ap txns_in c.in_ok-place.ensures.reads.control)) c.requires.own

pub returns-in_err-change-clause-served : goal.returns-in_err-change-clause-served
returns-in_err-change-clause-served g c running front disk before s plain is safe over a of number =
    let old = c.args.self.now in
    let mid = c.find_place.new.self in
    let locked = c.lock_place.new.self in
    let id = c.in_ok-place.place in
    let comes = c.in_ok-place.ensures.stays front disk before s plain is safe over in
    let reads = c.in_ok-place.ensures.reads in
    let of_place = found_place (geometry_of old) s safe.roomy.pages a c.args.store c.args.bytes (ap length c.as_slice.ensures) (locks_of old) c.args.txn is.beside.parts.stands.locks number id (c.in_ok-place.ensures.found running front disk before s plain is safe over) in
    let same = c.lock_place.ensures.only in
    let done : (place_outcome s a id).answer ≡ Ok acquire.Done = tried_here s a id (locks_of mid) c.args.txn comes.is_in.beside.parts.stands.locks number ∙ c.in_ok-lock_place.ensures.answer in
    let stands = λ (has : HasControl mid.control s). subst (λ t. HasControl locked.control (with_requests s (acquired Refuse s.locks t (Record id) EX).requests)) (sym number) (c.lock_place.ensures.stands s has) in
    let there = comes_locked mid locked same front before s plain (place_outcome s a id).requests stands comes in
    let quiet = subst (λ (l : Table). is_waiting a.txn l.requests ≡ false) (sym is.beside.parts.stands.locks) (subst (λ t. is_waiting t (locks_of old).requests ≡ false) (sym number) c.requires.quiet) in
    let safe_there = subst (λ it. IsSafe it (behind_place s a id)) (sym ((locks_keep mid locked same).volume.geometry ∙ reads.volume.geometry)) (safe_behind_place (geometry_of old) s safe a of.0 quiet id c.in_ok-place.ensures.there (never_waits _ (Ok tt) done)) in
    let reached = subst (λ (l : Table). IsReached l.requests a.txn (Record id) EX) (stands comes.is_in.beside.parts.stands).locks (place_reached (geometry_of old) s safe a of.0 quiet id done) in
    let h = c.in_err-change.ensures.changed (same.failed ∙ reads.failed ∙ running) front there.left before (behind_place s a id) there.after there.is_in safe_there there.over a of reached in
    served_behind_place old c.change.new.self front before s plain a c.args.store c.args.bytes id c.from_residual-in_err-change.result _ c.from_residual-in_err-change.ensures.1
    (insert_unlogged (geometry_of old) s a c.args.store c.args.bytes id (of_place, done) _ h.0)
    (comes_then locked c.change.new.self front before (behind_place s a id) (behind_place s a id) plain there h.1)

pub returns-clause-served : goal.returns-clause-served
returns-clause-served g c running front disk before s plain is safe over a of number =
    let old = c.args.self.now in
    let mid = c.find_place.new.self in
    let locked = c.lock_place.new.self in
    let id = c.in_ok-place.place in
    let comes = c.in_ok-place.ensures.stays front disk before s plain is safe over in
    let reads = c.in_ok-place.ensures.reads in
    let of_place = found_place (geometry_of old) s safe.roomy.pages a c.args.store c.args.bytes (ap length c.as_slice.ensures) (locks_of old) c.args.txn is.beside.parts.stands.locks number id (c.in_ok-place.ensures.found running front disk before s plain is safe over) in
    let same = c.lock_place.ensures.only in
    let done : (place_outcome s a id).answer ≡ Ok acquire.Done = tried_here s a id (locks_of mid) c.args.txn comes.is_in.beside.parts.stands.locks number ∙ c.in_ok-lock_place.ensures.answer in
    let stands = λ (has : HasControl mid.control s). subst (λ t. HasControl locked.control (with_requests s (acquired Refuse s.locks t (Record id) EX).requests)) (sym number) (c.lock_place.ensures.stands s has) in
    let there = comes_locked mid locked same front before s plain (place_outcome s a id).requests stands comes in
    let quiet = subst (λ (l : Table). is_waiting a.txn l.requests ≡ false) (sym is.beside.parts.stands.locks) (subst (λ t. is_waiting t (locks_of old).requests ≡ false) (sym number) c.requires.quiet) in
    let safe_there = subst (λ it. IsSafe it (behind_place s a id)) (sym ((locks_keep mid locked same).volume.geometry ∙ reads.volume.geometry)) (safe_behind_place (geometry_of old) s safe a of.0 quiet id c.in_ok-place.ensures.there (never_waits _ (Ok tt) done)) in
    let reached = subst (λ (l : Table). IsReached l.requests a.txn (Record id) EX) (stands comes.is_in.beside.parts.stands).locks (place_reached (geometry_of old) s safe a of.0 quiet id done) in
    let h = c.in_ok-change.ensures.changed (same.failed ∙ reads.failed ∙ running) front there.left before (behind_place s a id) there.after there.is_in safe_there there.over a of reached in
    let later = changed (behind_place s a id) a id (Some c.args.bytes) h.0 in
    record {
      later = later;
      serves = (id, (of_place, done), refl, (h.0, subst (λ (it : Geometry). MayChange it.version (behind_place s a id) id (Some c.args.bytes) h.0) ((locks_keep mid locked same).volume.geometry ∙ reads.volume.geometry) h.1, refl));
      comes = comes_then locked c.change.new.self front before (behind_place s a id) later plain there h.2;
    }

pub returns-in_err-place-clause-serves : goal.returns-in_err-place-clause-serves
returns-in_err-place-clause-serves g c = refused_as _ _ _ _ _ _ c.from_residual.ensures.1 c.in_err-place.ensures.serves c.in_err-place.ensures.reads.failed

pub returns-in_err-lock_place-clause-serves : goal.returns-in_err-lock_place-clause-serves
returns-in_err-lock_place-clause-serves g c =
    refused_then _ _ _ _ c.find_place.new.self _ _ _ _ c.from_residual-in_err-lock_place.ensures.1 c.in_ok-place.ensures.serves c.in_ok-place.ensures.reads.failed
    (locks_call_nothing _ _ c.lock_place.ensures.only) (as_aside _ _ c.in_err-lock_place.ensures.refused tt)

pub returns-in_err-change-clause-serves : goal.returns-in_err-change-clause-serves
returns-in_err-change-clause-serves g c =
    refused_then _ _ _ _ c.find_place.new.self _ _ _ _ c.from_residual-in_err-change.ensures.1 c.in_ok-place.ensures.serves c.in_ok-place.ensures.reads.failed
    (no_call_then c.find_place.new.self c.lock_place.new.self _ (locks_call_nothing _ _ c.lock_place.ensures.only) c.change.ensures.no_call)
    (elim c.in_err-change.ensures.refused [ inl memory ↦ as_aside _ _ memory tt | inr full ↦ as_aside _ _ full tt ])

pub returns-clause-serves : goal.returns-clause-serves
returns-clause-serves g c =
    call_then _ _ _ _ c.find_place.new.self _ _ _ c.in_ok-place.ensures.serves c.in_ok-place.ensures.reads.failed
    (no_call_then c.find_place.new.self c.lock_place.new.self _ (locks_call_nothing _ _ c.lock_place.ensures.only) c.change.ensures.no_call)
    tt refl
