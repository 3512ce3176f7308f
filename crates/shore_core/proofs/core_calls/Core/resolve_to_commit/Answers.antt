use Rattle.std.proofs.Common.{is_some, ◌≡◌, ◌+◌, ◌<◌, ◌≤◌, ◌++◌, ◌∷◌, [], List, take, length, length-append, Err, inl, inr, refl, sym, ap, subst, ◌∙◌, arith, map}
use Rattle.std.proofs.lemmas.List.{take_more}
use Rattle.shore_types.specs.declared.faults.Fault.TheVariants as fault
use Rattle.shore_types.specs.declared.ids.PageId.{PageId}
use Rattle.shore_types.specs.declared.layout.TheConstants.{LAST_OPENED}
use Rattle.shore_model.specs.declared.calls.Call.TheVariants as call
use Rattle.shore_model.specs.declared.calls.Outcome.TheVariants as outcome
use Rattle.shore_model.specs.declared.log_records.LogRecord.{LogRecord}
use Rattle.shore_model.specs.declared.log_records.Payload.TheVariants.{Commit}
use Rattle.shore_model.specs.declared.step.Step.TheVariants.{Waits}
use Rattle.shore_model.specs.declared.step.Wait.TheVariants.{Durable}
use Rattle.shore_model.specs.Logs.{previous_of}
use Rattle.shore_model.proofs.LogSteps.{take-whole}
use Rattle.shore_pool.proofs.Same.{pages_on, pages_stay}
use Rattle.shore_heap.specs.Heaps.{Shows, frame_at, frame_of}
use Rattle.laws_lives.specs.Sessions.{without_txn}
use Rattle.laws_lives.specs.Views.{IsAmong}
use Rattle.laws_calls.specs.Resolves.{resolve_committed}
use Rattle.laws_calls.specs.States.{State, page_slots}
use Rattle.shore_txn.specs.ActiveTxns.{HasMore, OneLeaves}
use Rattle.shore_txn.specs.Transactions.{IsSeatIn, kept_in, room_in, undos_in}
use Rattle.shore_txn.specs.Transactions as table
use Rattle.shore_txn.specs.Txns.{as_session_txn, last_of}
use Rattle.shore_txn.specs.UndoEntries.{claims_on}
use Rattle.shore_txn.specs.declared.txn.Txn.{Txn}
use Rattle.shore_txn.specs.declared.undo.UndoEntry.{UndoEntry}
use Rattle.shore_sessions.specs.Controls.{txns_in}
use Rattle.shore_sessions.specs.Standing.{IsAt, IsLogged}
use Rattle.shore_sessions.specs.declared.control.Control.{Control}
use Rattle.shore_core.specs.Stores.{append_to}
use Rattle.shore_core.proofs.Works.{noted_without}
use Rattle.shore_core.specs.Cores.{control_of, durable_of, first_of, geometry_of, has_failed, txns_of, waiting_of}
use Rattle.shore_core.specs.Parts.{HasParts}
use Rattle.shore_core.proofs.Prepared.{can_decide, rolling_on}
use Rattle.shore_core.proofs.Changed.{same_geometry}
use Rattle.shore_core.proofs.Coming.{comes_appended, pages_same}
use Rattle.shore_core.proofs.Decided.{names_apart, resolve_refused, resolve_steps}
use Rattle.shore_core.proofs.Leaving.{comes_lacking, earlier_left, reserved_left}
use Rattle.shore_core.proofs.Releasing.{ShowsLeft, all_released, framed_as, none_released, released_more, stays_fit}
use Rattle.shore_core.proofs.Tables.{each_among, next_is, parts_logged}
use Rattle.shore_core.proofs.Taking.{replied_as}
use Rattle.shore_core.proofs.Serving.{as_aside, call_alone, call_still, device_alone, refused_still}
use Rattle.shore_core.proofs.Keeping.{both}
use Rattle.shore_types.specs.declared.layout.Geometry.{Geometry}
use Rattle.shore_pool.specs.Pages.{SamePages}
use Rattle.shore_heap.specs.Contents.{FitIn}
use Rattle.shore_page.specs.Slots.{settled}
use Rattle.shore_page.specs.Text as texts
use Rattle.shore_core.proofs.core_calls.Core.resolve_to_commit.Goals as goal

pub returns-then-not-is_in_doubt-clause-replied : goal.returns-then-not-is_in_doubt-clause-replied
returns-then-not-is_in_doubt-clause-replied g c ready front disk before s store is safe over waits_not may to =
    let own = c.txn-own.result.now in
    let rolls = rolling_on s own c.args.global (sym c.is_in_doubt.ensures ∙ c.if-not-is_in_doubt.true) (to own c.txn-own.ensures.among c.txn-own.ensures.number) in
    resolve_refused c.args.self.now front disk before s store c.args.seat.now.session c.args.global outcome.Commit is over (is.beside.parts.failed_is ∙ ready) waits_not (Err fault.MustAbort) fault.MustAbort refl
    (inr (inr (refl, may, refl, (as_session_txn own, rolls)))) refl

pub loop-change-init : goal.loop-change-init
loop-change-init g c =
    let at = frame_at c.args.self.now.heap in
    (refl, refl, refl, refl, refl, λ k. refl, λ disk. pages_stay (geometry_of c.args.self.now).version at at disk (λ k. refl), λ K stay front disk S fit shows. none_released (λ p. is_some (frame_of c.args.self.now.heap p)) K stay S c.args.self.now.heap front disk shows, λ k. refl)

pub loop-change-preserved : goal.loop-change-preserved
loop-change-preserved g c =
    let inv = c.loop-change.invariant in
    let items = c.deref-change-items.result.now in
    let i = c.loop-change.change-index in
    let e = c.change-item.result in
    let initial = c.args.self.now.heap in
    let mid = c.loop-change.self.heap in
    let new = c.release.new.self in
    let longer : take (i + 1) items ≡ take i items ++ e ∷ [] =
    take_more items i e c.loop-change-test.true ∙ ap (λ (e : UndoEntry). take i items ++ e ∷ []) (sym c.change-item.is) in
    let geometry = same_geometry mid initial inv.4 in
    let was = framed_as initial mid e.id.page inv.4 inv.5 in
    let held = framed_as initial new e.id.page (c.release.ensures.device ∙ inv.4) (λ k. c.release.ensures.held k ∙ inv.5 k) in (
      inv.0,
      inv.1,
      inv.2,
      inv.3,
      c.release.ensures.device ∙ inv.4,
      λ k. c.release.ensures.held k ∙ inv.5 k,
      λ disk. pages_on (geometry_of c.args.self.now).version (frame_at initial) (frame_at mid) (frame_at new) disk disk disk (inv.6 disk) (subst (λ (it : Geometry). SamePages it.version (frame_at mid) disk (frame_at new) disk) geometry (c.release.ensures.same disk)),
      λ K stay front disk S fit shows. released_more (λ p. is_some (frame_of initial p)) K stay S (geometry_of c.args.self.now).version mid new front disk (take i items) (take (i + 1) items) e longer fit was held
          (λ L T. c.release.ensures.shows L front disk T) (λ L M T shows none others fit. c.release.ensures.told L M front disk T shows none others (subst (λ (it : Geometry). FitIn it.version (M e.id.page) (map settled (texts.images_of (T e.id.page)))) (sym geometry) fit)) (inv.7 K stay front disk S fit shows),
      λ k. c.release.ensures.dirt k ∙ inv.8 k,
    )

pub invariant_of-self : goal.invariant_of-self
invariant_of-self g c =
    let old = c.args.self.now in
    let txns = sym c.reserve_wait.ensures.txns in
    let next = first_of old + length (waiting_of old) in
    record {
      some_number = old.some_number;
      forced = old.forced;
      numbers = subst (λ x. next + (room_in x).reserved ≤ LAST_OPENED) txns old.numbers;
      earlier = subst (λ x. (t : Txn) → IsAmong t (table.txns_in x) → last_of t < next) txns old.earlier;
    }

pub returns-in_err-reserve_wait-clause-replied : goal.returns-in_err-reserve_wait-clause-replied
returns-in_err-reserve_wait-clause-replied g c ready front disk before s store is safe over waits_not may to =
    replied_as c.args.self.now _ front before s store c.args.seat.now.session (call.Resolve c.args.global outcome.Commit) c.from_residual.result fault.Memory c.from_residual.ensures.1 (inl (refl, refl))
    (inr (comes_lacking c.args.self.now _ front disk before s store refl refl refl refl refl c.reserve_wait.ensures.txns (c.reserve_wait.ensures.stands s is.beside.parts.stands) is over))

pub push-requires-clause-previous : goal.push-requires-clause-previous
push-requires-clause-previous g c =
    let earlier = c.args.self.now.earlier c.txn-own.result.now c.txn-own.ensures.among in
    omega (arith, c.last.ensures, earlier)

pub invariant_of-self-in-Err-1 : goal.invariant_of-self-in-Err-1
invariant_of-self-in-Err-1 g c =
    let old = c.args.self.now in
    let txns = sym c.reserve_wait.ensures.txns in
    let next : first_of old + length (waiting_of old) ≡ g.T.Tail.first c.push.new.self + length (g.T.Tail.records c.push.new.self) =
    ap (λ n. n + length (waiting_of old)) (sym c.in-Err.ensures.first) ∙ ap (λ (l : List LogRecord). g.T.Tail.first c.push.new.self + length l) (sym c.in-Err.ensures.none_added) in
    record {
      some_number = subst (λ n. 1 ≤ n) next old.some_number;
      forced = subst (λ n. old.durable < n) next old.forced;
      numbers = subst (λ n. n + (room_in (txns_in c.reserve_wait.new.self)).reserved ≤ LAST_OPENED) next (subst (λ x. first_of old + length (waiting_of old) + (room_in x).reserved ≤ LAST_OPENED) txns old.numbers);
      earlier = subst (λ n. (t : Txn) → IsAmong t (table.txns_in (txns_in c.reserve_wait.new.self)) → last_of t < n) next
          (subst (λ x. (t : Txn) → IsAmong t (table.txns_in x) → last_of t < first_of old + length (waiting_of old)) txns old.earlier);
    }

pub returns-in-Err-clause-replied : goal.returns-in-Err-clause-replied
returns-in-Err-clause-replied g c ready front disk before s store is safe over waits_not may to =
    replied_as c.args.self.now _ front before s store c.args.seat.now.session (call.Resolve c.args.global outcome.Commit) (Err c.in-Err.fault) fault.Memory c.in-Err.ensures.refused (inl (refl, refl))
    (inr (comes_lacking c.args.self.now _ front disk before s store refl c.in-Err.ensures.first c.in-Err.ensures.none_added refl refl c.reserve_wait.ensures.txns
    (c.reserve_wait.ensures.stands s is.beside.parts.stands) is over))

pub resolve-changes-requires-clause-seated : goal.resolve-changes-requires-clause-seated
resolve-changes-requires-clause-seated g c = subst (IsSeatIn c.args.seat.now) (sym c.reserve_wait.ensures.txns) c.requires.seated

pub invariant_of-self-2 : goal.invariant_of-self-2
invariant_of-self-2 g c =
    let old = c.args.self.now in
    let new = txns_in c.resolve-changes.new.self in
    let left = subst (λ x. OneLeaves c.args.seat.now.txn c.resolve-changes.result.items (table.txns_in x) (table.txns_in new)) c.reserve_wait.ensures.txns c.resolve-changes.ensures.left in
    let r : LogRecord = record { txn = c.id.result; previous = c.last.result; payload = Commit } in
    let next : first_of old + length (waiting_of old) + 1 ≡ g.T.Tail.first c.push.new.self + length (g.T.Tail.records c.push.new.self) =
    let long = length-append (waiting_of old) (r ∷ []) in let more = ap length c.in-Ok.ensures.added in omega (arith, long, more, c.in-Ok.ensures.first) in
    let reserved = reserved_left (txns_of old) new left in
    record {
      some_number = omega (arith, next);
      forced = omega (arith, next, old.forced);
      numbers = omega (arith, next, old.numbers, reserved);
      earlier = subst (λ n. (t : Txn) → IsAmong t (table.txns_in new) → last_of t < n) next (earlier_left (txns_of old) new left (first_of old + length (waiting_of old)) old.earlier);
    }

pub returns-clause-replied : goal.returns-clause-replied
returns-clause-replied g c ready front disk before s store is safe over waits_not may to =
    let old = c.args.self.now in
    let new = c.loop-change.self in
    let resolve = c.resolve-changes.ensures in
    let inv = c.loop-change.invariant in
    let t = c.txn-own.result.now in
    let a = as_session_txn t in
    let es = c.resolve-changes.result.items in
    let session = c.args.seat.now.session in
    let global = c.args.global in
    let was = is.beside.parts.stands in
    let mid = c.reserve_wait.ensures.stands s was in
    let can = can_decide s t global (sym c.is_in_doubt.ensures ∙ c.if-not-is_in_doubt.false) (to t c.txn-own.ensures.among c.txn-own.ensures.number) in
    let at : IsAt c.args.seat.now s a = (can.0, c.txn-own.ensures.number) in
    let works = is.beside.parts.failed_is ∙ ready in
    let number = c.in-Ok.ensures.number ∙ sym (next_is (control_of old) (waiting_of old) (durable_of old) (has_failed old) before s is.beside.parts (first_of old) is.beside.first 0) in
    let later : State = resolve_committed s session a global in
    let stands = resolve.stands s a mid at can may (names_apart (geometry_of old) s safe) number in
    let r : LogRecord = record { txn = a.txn; previous = previous_of a.txn s.log; payload = Commit } in
    let last = each_among (IsLogged s.log) (table.txns_in (txns_of old)) was.txns.each t c.txn-own.ensures.among in
    let added : g.T.Tail.records c.push.new.self ≡ waiting_of old ++ r ∷ [] =
    c.in-Ok.ensures.added ∙ ap (λ n. waiting_of old ++ record { txn = n; previous = c.last.result; payload = Commit } ∷ []) c.id.ensures.number
    ∙ ap (λ n. waiting_of old ++ record { txn = a.txn; previous = n; payload = Commit } ∷ []) (c.last.ensures ∙ last.last) in
    let parts = subst (λ l. HasParts c.resolve-changes.new.self l (durable_of old) (has_failed old) before later) (sym added)
    (parts_logged (control_of old) c.resolve-changes.new.self (waiting_of old) (durable_of old) (has_failed old) before s later r is.beside.parts stands refl refl refl) in
    let out : undos_in (txns_in c.resolve-changes.new.self) ≡ without_txn a.txn (undos_in (txns_of old)) = sym stands.txns.active ∙ ap (without_txn a.txn) was.txns.active in
    let more : (p : PageId) → HasMore (claims_on p es) (kept_in (txns_in c.resolve-changes.new.self) p) (kept_in (txns_of old) p) =
    λ p. subst (λ x. HasMore (claims_on p es) (kept_in (txns_in c.resolve-changes.new.self) p) (kept_in x p)) c.reserve_wait.ensures.txns (resolve.claims p) in
    let undone = resolve.undone s a mid at in
    let older = table.txns_in (txns_of old) in
    let those = table.txns_in (txns_in c.resolve-changes.new.self) in
    let all : take c.loop-change.change-index c.deref-change-items.result.now ≡ es = take-whole c.deref-change-items.result.now c.loop-change.change-index c.loop-change-test.false ∙ c.deref-change-items.ensures.value in
    let fit = stays_fit (geometry_of c.args.self.now).version s a es older those undone safe.roomy.pages can.0 was.txns.active out more in
    let left = subst (ShowsLeft (λ p. is_some (frame_of old.heap p)) (kept_in (txns_of old)) (kept_in (txns_in c.resolve-changes.new.self)) (page_slots s) new.heap front disk) all
    (inv.7 (kept_in (txns_of old)) (kept_in (txns_in c.resolve-changes.new.self)) front disk (page_slots s) fit (is.pages works)) in
    let shows = all_released (geometry_of c.args.self.now).version s a es older those undone safe.roomy.pages can.0 was.txns.active out more new.heap (λ p. is_some (frame_of old.heap p)) front disk left in
    let pages = noted_without old.heap disk store r (over.pages works) over.kept.recoverable over.kept.redone refl in
    record {
      later = later;
      replies = resolve_steps (geometry_of old) s session global outcome.Commit (Waits (Durable c.in-Ok.number)) later works waits_not (inr (may, (a, can, ap Durable number, refl)));
      comes = comes_appended new front disk before s later store r over.kept refl refl
          (record {
            beside = record { first = ap g.T.Tail.first inv.0 ∙ c.push.ensures.first ∙ is.beside.first; parts = same_parts inv.0 inv.1 inv.2 inv.3 parts };
            pages = λ runs. subst (λ (x : Control). Shows (kept_in (txns_in x)) new.heap front disk (page_slots later)) (sym inv.1) shows;
          })
          (λ runs. pages_same old.heap new.heap disk (append_to store r) (inv.6 disk) inv.8 (same_geometry new.heap old.heap inv.4) pages);
    }
  where
    same_parts : {later : State} {before : List LogRecord} → c.loop-change.self.tail ≡ c.push.new.self → c.loop-change.self.control ≡ c.resolve-changes.new.self
        → c.loop-change.self.durable ≡ c.args.self.now.durable → c.loop-change.self.failed ≡ c.args.self.now.failed
        → HasParts c.resolve-changes.new.self (g.T.Tail.records c.push.new.self) (durable_of c.args.self.now) (has_failed c.args.self.now) before later
        → HasParts c.loop-change.self.control (waiting_of c.loop-change.self) c.loop-change.self.durable c.loop-change.self.failed before later
    same_parts {later = later} {before = before} tail control durable failed has =
        subst (λ f. HasParts c.loop-change.self.control (waiting_of c.loop-change.self) c.loop-change.self.durable f before later) (sym failed)
        (subst (λ d. HasParts c.loop-change.self.control (waiting_of c.loop-change.self) d c.args.self.now.failed before later) (sym durable)
        (subst (λ x. HasParts x (waiting_of c.loop-change.self) c.args.self.now.durable c.args.self.now.failed before later) (sym control)
        (subst (λ tl. HasParts c.resolve-changes.new.self (g.T.Tail.records tl) c.args.self.now.durable c.args.self.now.failed before later) (sym tail) has)))

pub returns-then-not-is_in_doubt-clause-serves : goal.returns-then-not-is_in_doubt-clause-serves
returns-then-not-is_in_doubt-clause-serves g c = call_still _ _ _ _ _ refl refl refl refl tt tt

pub returns-in_err-reserve_wait-clause-serves : goal.returns-in_err-reserve_wait-clause-serves
returns-in_err-reserve_wait-clause-serves g c = refused_still _ _ _ _ _ fault.Memory c.from_residual.ensures.1 refl refl refl refl tt

pub returns-in-Err-clause-serves : goal.returns-in-Err-clause-serves
returns-in-Err-clause-serves g c = call_still _ _ _ _ _ refl refl (both c.in-Err.ensures.first c.in-Err.ensures.told) refl (as_aside _ _ c.in-Err.ensures.refused tt) tt

pub returns-clause-serves : goal.returns-clause-serves
returns-clause-serves g c =
    let inv = c.loop-change.invariant in
    call_alone _ _ _ _ _ (device_alone _ _ inv.4 inv.2 (ap (λ t. (g.T.Tail.first t, g.T.Tail.told t)) inv.0 ∙ both c.push.ensures.first c.push.ensures.told) inv.3) tt refl
