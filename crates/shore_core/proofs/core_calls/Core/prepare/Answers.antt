use Rattle.std.proofs.Common.{◌≡◌, ◌+◌, ◌<◌, ◌≤◌, ◌++◌, ◌∷◌, [], All, List, ℕ, Err, IsErrAnd, inl, inr, length, length-append, refl, sym, ap, subst, ◌∙◌, arith}
use Rattle.shore_types.specs.declared.faults.Fault.{Fault}
use Rattle.shore_types.specs.declared.faults.Fault.TheVariants as fault
use Rattle.shore_types.specs.declared.layout.TheConstants.{ENDING_COST, LAST_OPENED}
use Rattle.shore_types.specs.declared.locking.Granule.{Granule}
use Rattle.shore_model.specs.declared.calls.Call.TheVariants as call
use Rattle.shore_model.specs.declared.log_records.LogRecord.{LogRecord}
use Rattle.shore_model.specs.declared.log_records.Payload.TheVariants.{Prepare}
use Rattle.shore_model.specs.declared.step.Step.TheVariants.{Waits}
use Rattle.shore_model.specs.declared.step.Wait.TheVariants.{Durable}
use Rattle.shore_model.specs.Logs.{previous_of}
use Rattle.shore_logrec.specs.Text.{GranuleFits, cost_of}
use Rattle.laws_lives.specs.Views.{IsAmong}
use Rattle.laws_calls.specs.Prepares.{granules_in_ex, prepared, IsGlobalId}
use Rattle.laws_calls.specs.States.{HasRoomFor, State}
use Rattle.shore_txn.specs.Transactions.{AtSeat, IsSeatIn, kept_in, room_in}
use Rattle.shore_txn.specs.Transactions as table
use Rattle.shore_txn.specs.Txns.{as_session_txn, last_of, state_of}
use Rattle.shore_txn.specs.declared.txn.Txn.{Txn}
use Rattle.shore_txn.specs.declared.txn_state.TxnState.TheVariants as state
use Rattle.shore_txn.specs.declared.transactions.Transactions.{Transactions}
use Rattle.shore_sessions.specs.Controls.{txns_in}
use Rattle.shore_sessions.specs.Standing.{HasControl, IsLogged}
use Rattle.shore_core.specs.Cores.{control_of, durable_of, first_of, geometry_of, has_failed, txns_of, waiting_of}
use Rattle.shore_core.proofs.Coming.{comes_same}
use Rattle.shore_core.proofs.Decided.{comes_logged}
use Rattle.shore_core.proofs.Leaving.{comes_lacking}
use Rattle.shore_core.proofs.Opening.{inner_prepare, replied_not_open}
use Rattle.shore_core.proofs.Prepared.{earlier_prepared, prepare_refused, prepare_steps}
use Rattle.shore_core.proofs.Serving.{as_aside, call_still, not_open_aside, refused_still}
use Rattle.shore_core.proofs.Tables.{each_among, has_no_room, has_room, next_is}
use Rattle.shore_core.proofs.Taking.{replied_as, true_false}
use Rattle.shore_core.proofs.Keeping.{both}
use Rattle.shore_types.specs.Versions.{global_limit-most}
use Rattle.shore_types.specs.declared.layout.Geometry.{Geometry}
use Rattle.shore_core.proofs.core_calls.Core.prepare.Goals as goal

pub prepare_cost-cost-requires-clause-global : goal.prepare_cost-cost-requires-clause-global
prepare_cost-cost-requires-clause-global g c =
    omega (arith, c.in_ok-check_global.ensures.is.1, ap (λ (xs : List ℕ). length xs) c.as_slice-2.ensures, global_limit-most c.geometry.result.now.version)

pub returns-in_err-own-clause-replied : goal.returns-in_err-own-clause-replied
returns-in_err-own-clause-replied g c running front disk before s store is safe over idle =
    replied_not_open c.args.self.now front disk before s store c.args.seat.now.session (call.Prepare c.args.global) c.from_residual.result c.in_err-own.field-0.0 is over (inner_prepare c.args.global)
    (is.beside.parts.failed_is ∙ running) idle c.from_residual.ensures.1 (c.in_err-own.ensures.not_open s is.beside.parts.stands)

pub returns-in_err-check_global-clause-replied : goal.returns-in_err-check_global-clause-replied
returns-in_err-check_global-clause-replied g c running front disk before s store is safe over idle =
    let bad = c.in_err-check_global.ensures.bad in
    prepare_refused c.args.self.now front before s store c.args.seat.now.session (as_session_txn c.in_ok-own.own.now) c.args.global (is.beside.parts.failed_is ∙ running) idle
    (c.in_ok-own.ensures.of_session s is.beside.parts.stands) c.in_ok-own.ensures.whole disk is over c.from_residual-in_err-check_global.result fault.BadGlobalId
    (subst (λ (x : Fault). IsErrAnd c.from_residual-in_err-check_global.result (λ e. e ≡ x)) bad.0 c.from_residual-in_err-check_global.ensures.1) (inl (refl, subst (λ (it : Geometry). IsGlobalId it.version c.args.global → ⊥) c.geometry.ensures bad.1)) refl

pub returns-then-uses-clause-replied : goal.returns-then-uses-clause-replied
returns-then-uses-clause-replied g c running front disk before s store is safe over idle =
    let works = is.beside.parts.failed_is ∙ running in
    prepare_refused c.args.self.now front before s store c.args.seat.now.session (as_session_txn c.in_ok-own.own.now) c.args.global works idle
    (c.in_ok-own.ensures.of_session s is.beside.parts.stands) c.in_ok-own.ensures.whole disk is over (Err fault.GlobalIdInUse) fault.GlobalIdInUse refl
    (inr (inl (refl, subst (λ (it : Geometry). IsGlobalId it.version c.args.global) c.geometry.ensures c.in_ok-check_global.ensures.is, λ unused. c.uses.ensures.used c.if-uses.true s is.beside.parts.stands works unused))) refl

pub returns-in_err-granules-clause-replied : goal.returns-in_err-granules-clause-replied
returns-in_err-granules-clause-replied g c running front disk before s store is safe over idle =
    replied_as c.args.self.now c.args.self.now front before s store c.args.seat.now.session (call.Prepare c.args.global) c.from_residual-in_err-granules.result fault.Memory c.from_residual-in_err-granules.ensures.1 (inl (refl, refl))
    (inr (comes_same c.args.self.now front disk before s store is over))

pub returns-then-not-admits-clause-replied : goal.returns-then-not-admits-clause-replied
returns-then-not-admits-clause-replied g c running front disk before s store is safe over idle =
    let old = c.args.self.now in
    let works = is.beside.parts.failed_is ∙ running in
    let stands = is.beside.parts.stands in
    let a = as_session_txn c.in_ok-own.own.now in
    let listed = c.in_ok-granules.ensures.listed s a stands safe.after.sessions.locks (sym c.id-txn.ensures.number) in
    let cost : c.prepare_cost-cost.result ≡ cost_of (Prepare c.args.global (granules_in_ex s a)) =
    c.prepare_cost-cost.ensures.cost c.args.global c.in_ok-granules.granules (ap (λ (xs : List ℕ). length xs) (sym c.as_slice-2.ensures)) (ap (λ (gs : List Granule). length gs) (sym c.as_slice-3.ensures)) ∙ ap (λ (gs : List Granule). cost_of (Prepare c.args.global gs)) listed in
    prepare_refused old front before s store c.args.seat.now.session a c.args.global works idle
    (c.in_ok-own.ensures.of_session s stands) c.in_ok-own.ensures.whole disk is over (Err fault.LogFull) fault.LogFull refl
    (inr (inr (
      refl,
      subst (λ (it : Geometry). IsGlobalId it.version c.args.global) c.geometry.ensures c.in_ok-check_global.ensures.is,
      c.uses.ensures.unused c.if-uses.false s stands works,
      λ may. has_no_room (control_of old) (waiting_of old) (durable_of old) (has_failed old) before s is.beside.parts (first_of old) is.beside.first (c.prepare_cost-cost.result + ENDING_COST)
          (λ h. true_false (sym (c.admits.ensures.1 h) ∙ c.if-not-admits.true)) (subst (λ n. HasRoomFor s (n + ENDING_COST)) (sym cost) may),
    ))) refl

pub returns-in_err-kept-clause-replied : goal.returns-in_err-kept-clause-replied
returns-in_err-kept-clause-replied g c running front disk before s store is safe over idle =
    replied_as c.args.self.now c.args.self.now front before s store c.args.seat.now.session (call.Prepare c.args.global) c.from_residual-in_err-kept.result fault.Memory c.from_residual-in_err-kept.ensures.1 (inl (refl, refl))
    (inr (comes_same c.args.self.now front disk before s store is over))

pub returns-in_err-asked-clause-replied : goal.returns-in_err-asked-clause-replied
returns-in_err-asked-clause-replied g c running front disk before s store is safe over idle =
    replied_as c.args.self.now c.args.self.now front before s store c.args.seat.now.session (call.Prepare c.args.global) c.from_residual-in_err-asked.result fault.Memory c.from_residual-in_err-asked.ensures.1 (inl (refl, refl))
    (inr (comes_same c.args.self.now front disk before s store is over))

pub invariant_of-self : goal.invariant_of-self
invariant_of-self g c =
    let old = c.args.self.now in
    let txns = sym c.reserve_wait.ensures.txns in
    let next = first_of old + length (waiting_of old) in
    record {
      some_number = old.some_number;
      forced = old.forced;
      numbers = subst (λ x. next + (room_in x).reserved ≤ LAST_OPENED) txns old.numbers;
      earlier = subst (λ x. (t : Txn) → IsAmong t (table.txns_in x) → last_of t < next) txns old.earlier;
    }

pub returns-in_err-reserve_wait-clause-replied : goal.returns-in_err-reserve_wait-clause-replied
returns-in_err-reserve_wait-clause-replied g c running front disk before s store is safe over idle =
    replied_as c.args.self.now _ front before s store c.args.seat.now.session (call.Prepare c.args.global) c.from_residual-in_err-reserve_wait.result fault.Memory c.from_residual-in_err-reserve_wait.ensures.1 (inl (refl, refl))
    (inr (comes_lacking c.args.self.now _ front disk before s store refl refl refl refl refl c.reserve_wait.ensures.txns (c.reserve_wait.ensures.stands s is.beside.parts.stands) is over))

pub push-requires-clause-text : goal.push-requires-clause-text
push-requires-clause-text g c =
    let earlier = c.args.self.now.earlier c.in_ok-own.own.now c.in_ok-own.ensures.some.0 in
    record {
      owner = omega (arith, c.id-txn.ensures.some);
      txn_fits = omega (arith, c.id-txn.ensures.below);
      previous_fits = omega (arith, c.last-previous.ensures, earlier, c.args.self.now.numbers);
      payload_fits = record {
        some = c.in_ok-check_global.ensures.is.0;
        short = omega (arith, c.in_ok-check_global.ensures.is.1, global_limit-most c.geometry.result.now.version);
        few = c.in_ok-granules.ensures.few;
        granules_fit = subst (All GranuleFits) c.as_slice.ensures c.granules_fit.ensures;
        rising = c.in_ok-granules.ensures.order;
      };
    }

pub push-requires-clause-previous : goal.push-requires-clause-previous
push-requires-clause-previous g c =
    let earlier = c.args.self.now.earlier c.in_ok-own.own.now c.in_ok-own.ensures.some.0 in
    omega (arith, c.last-previous.ensures, earlier)

pub invariant_of-self-in-Err-1 : goal.invariant_of-self-in-Err-1
invariant_of-self-in-Err-1 g c =
    let old = c.args.self.now in
    let txns = sym c.reserve_wait.ensures.txns in
    let next : first_of old + length (waiting_of old) ≡ g.T.Tail.first c.push.new.self + length (g.T.Tail.records c.push.new.self) =
    ap (λ n. n + length (waiting_of old)) (sym c.in-Err.ensures.first) ∙ ap (λ (l : List LogRecord). g.T.Tail.first c.push.new.self + length l) (sym c.in-Err.ensures.none_added) in
    record {
      some_number = subst (λ n. 1 ≤ n) next old.some_number;
      forced = subst (λ n. old.durable < n) next old.forced;
      numbers = subst (λ n. n + (room_in (txns_in c.reserve_wait.new.self)).reserved ≤ LAST_OPENED) next (subst (λ x. first_of old + length (waiting_of old) + (room_in x).reserved ≤ LAST_OPENED) txns old.numbers);
      earlier = subst (λ n. (t : Txn) → IsAmong t (table.txns_in (txns_in c.reserve_wait.new.self)) → last_of t < n) next
          (subst (λ x. (t : Txn) → IsAmong t (table.txns_in x) → last_of t < first_of old + length (waiting_of old)) txns old.earlier);
    }

pub returns-in-Err-clause-replied : goal.returns-in-Err-clause-replied
returns-in-Err-clause-replied g c running front disk before s store is safe over idle =
    replied_as c.args.self.now _ front before s store c.args.seat.now.session (call.Prepare c.args.global) (Err c.in-Err.fault) fault.Memory c.in-Err.ensures.refused (inl (refl, refl))
    (inr (comes_lacking c.args.self.now _ front disk before s store refl c.in-Err.ensures.first c.in-Err.ensures.none_added refl refl c.reserve_wait.ensures.txns
    (c.reserve_wait.ensures.stands s is.beside.parts.stands) is over))

pub prepare-requires-clause-seated : goal.prepare-requires-clause-seated
prepare-requires-clause-seated g c = subst (IsSeatIn c.args.seat.now) (sym c.reserve_wait.ensures.txns) c.requires.seated

pub prepare-requires-clause-active : goal.prepare-requires-clause-active
prepare-requires-clause-active g c = subst (λ (x : Transactions). AtSeat c.args.seat.now x (λ t. state_of t ≡ state.Active)) (sym c.reserve_wait.ensures.txns) c.in_ok-own.ensures.open

pub prepare-requires-clause-room : goal.prepare-requires-clause-room
prepare-requires-clause-room g c =
    let admits = c.if-not-admits.ensures.0 refl in
    subst (λ (x : Transactions). (room_in x).kept + (room_in x).reserved + c.prepare_cost-cost.result + ENDING_COST ≤ (room_in x).stream_bytes) (sym c.reserve_wait.ensures.txns) (omega (arith, admits.1))

pub prepare-requires-clause-copy : goal.prepare-requires-clause-copy
prepare-requires-clause-copy g c = c.in_ok-asked.ensures ∙ sym c.in_ok-kept.ensures

pub invariant_of-self-2 : goal.invariant_of-self-2
invariant_of-self-2 g c =
    let old = c.args.self.now in
    let mid = txns_in c.reserve_wait.new.self in
    let new = txns_in c.prepare.new.self in
    let now = first_of old + length (waiting_of old) in
    let more = ap length c.in-Ok.ensures.added ∙ length-append (waiting_of old) (_ ∷ []) in
    let risen : g.T.Tail.first c.push.new.self + length (g.T.Tail.records c.push.new.self) ≡ now + 1 = omega (arith, more, c.in-Ok.ensures.first) in
    let admits = c.if-not-admits.ensures.0 refl in
    let reserved : (room_in mid).reserved ≡ (room_in (txns_of old)).reserved = ap (λ (x : Transactions). (room_in x).reserved) c.reserve_wait.ensures.txns in
    let earlier = subst (λ x. (t : Txn) → IsAmong t (table.txns_in x) → last_of t < now) (sym c.reserve_wait.ensures.txns) old.earlier in
    record {
      some_number = omega (arith, risen, old.some_number);
      forced = omega (arith, risen, old.forced);
      numbers = omega (arith, risen, c.prepare.ensures.reserved, reserved, admits.0, admits.1, (txns_of old).room.short);
      earlier = λ t m. omega (arith, risen, earlier_prepared mid new now earlier c.prepare.ensures.noted c.in-Ok.ensures.number t m);
    }

pub returns-clause-replied : goal.returns-clause-replied
returns-clause-replied g c running front disk before s store is safe over idle =
    let old = c.args.self.now in
    let works = is.beside.parts.failed_is ∙ running in
    let stands = is.beside.parts.stands in
    let own = c.in_ok-own.own.now in
    let a = as_session_txn own in
    let of = c.in_ok-own.ensures.of_session s stands in
    let session = c.args.seat.now.session in
    let global = c.args.global in
    let granules = c.in_ok-granules.granules in
    let listed : granules ≡ granules_in_ex s a = c.in_ok-granules.ensures.listed s a stands safe.after.sessions.locks (sym c.id-txn.ensures.number) in
    let number = c.in-Ok.ensures.number ∙ sym (next_is (control_of old) (waiting_of old) (durable_of old) (has_failed old) before s is.beside.parts (first_of old) is.beside.first 0) in
    let cost : c.prepare_cost-cost.result ≡ cost_of (Prepare global granules) = c.prepare_cost-cost.ensures.cost global granules (ap (λ (xs : List ℕ). length xs) (sym c.as_slice-2.ensures)) (ap (λ (gs : List Granule). length gs) (sym c.as_slice-3.ensures)) in
    let cost_kept : c.prepare_cost-cost.result ≡ cost_of (Prepare c.in_ok-kept.kept granules) = cost ∙ ap (λ (it : List ℕ). cost_of (Prepare it granules)) (sym c.in_ok-kept.ensures) in
    let later : State = prepared s a global (granules_in_ex s a) in
    let has : HasControl c.prepare.new.self later =
    subst (λ (gs : List Granule). HasControl c.prepare.new.self (prepared s a global gs)) listed
    (subst (λ (it : List ℕ). HasControl c.prepare.new.self (prepared s a it granules)) c.in_ok-kept.ensures
    (c.prepare.ensures.stands s a granules (c.reserve_wait.ensures.stands s stands) of c.in_ok-own.ensures.some.1 number cost_kept)) in
    let r : LogRecord = record { txn = a.txn; previous = previous_of a.txn s.log; payload = Prepare global (granules_in_ex s a) } in
    let last = each_among (IsLogged s.log) (table.txns_in (txns_of old)) stands.txns.each own c.in_ok-own.ensures.some.0 in
    let added : g.T.Tail.records c.push.new.self ≡ waiting_of old ++ r ∷ [] =
    c.in-Ok.ensures.added ∙ ap (λ n. waiting_of old ++ record { txn = n; previous = c.last-previous.result; payload = Prepare global granules } ∷ []) c.id-txn.ensures.number
    ∙ ap (λ n. waiting_of old ++ record { txn = a.txn; previous = n; payload = Prepare global granules } ∷ []) (c.last-previous.ensures ∙ last.last)
    ∙ ap (λ (gs : List Granule). waiting_of old ++ record { txn = a.txn; previous = previous_of a.txn s.log; payload = Prepare global gs } ∷ []) listed in
    let room =
    has_room (control_of old) (waiting_of old) (durable_of old) (has_failed old) before s is.beside.parts (first_of old) is.beside.first (c.prepare_cost-cost.result + ENDING_COST) (c.if-not-admits.ensures.0 refl) in
    record {
      later = later;
      replies = prepare_steps (geometry_of old) s session a global works idle of c.in_ok-own.ensures.whole (Waits (Durable c.in-Ok.number)) later (
        subst (λ (it : Geometry). IsGlobalId it.version c.args.global) c.geometry.ensures c.in_ok-check_global.ensures.is,
        c.uses.ensures.unused c.if-uses.false s stands works,
        subst (λ n. HasRoomFor s (n + ENDING_COST)) (cost ∙ ap (λ (gs : List Granule). cost_of (Prepare global gs)) listed) room,
        ap Durable number,
        refl,
      );
      comes = comes_logged old _ front disk before s later store is over refl c.in-Ok.ensures.first refl refl
          (λ p. c.prepare.ensures.claims p ∙ ap (λ (x : Transactions). kept_in x p) c.reserve_wait.ensures.txns) (λ p. refl) r added refl has refl refl refl;
    }

pub returns-in_err-own-clause-serves : goal.returns-in_err-own-clause-serves
returns-in_err-own-clause-serves g c = refused_still _ _ _ _ _ _ c.from_residual.ensures.1 refl refl refl refl (not_open_aside _ c.in_err-own.ensures.refused)

pub returns-in_err-check_global-clause-serves : goal.returns-in_err-check_global-clause-serves
returns-in_err-check_global-clause-serves g c = refused_still _ _ _ _ _ _ c.from_residual-in_err-check_global.ensures.1 refl refl refl refl (as_aside _ _ c.in_err-check_global.ensures.bad.0 tt)

pub returns-then-uses-clause-serves : goal.returns-then-uses-clause-serves
returns-then-uses-clause-serves g c = call_still _ _ _ _ _ refl refl refl refl tt tt

pub returns-in_err-granules-clause-serves : goal.returns-in_err-granules-clause-serves
returns-in_err-granules-clause-serves g c = refused_still _ _ _ _ _ fault.Memory c.from_residual-in_err-granules.ensures.1 refl refl refl refl tt

pub returns-then-not-admits-clause-serves : goal.returns-then-not-admits-clause-serves
returns-then-not-admits-clause-serves g c = call_still _ _ _ _ _ refl refl refl refl tt tt

pub returns-in_err-kept-clause-serves : goal.returns-in_err-kept-clause-serves
returns-in_err-kept-clause-serves g c = refused_still _ _ _ _ _ fault.Memory c.from_residual-in_err-kept.ensures.1 refl refl refl refl tt

pub returns-in_err-asked-clause-serves : goal.returns-in_err-asked-clause-serves
returns-in_err-asked-clause-serves g c = refused_still _ _ _ _ _ fault.Memory c.from_residual-in_err-asked.ensures.1 refl refl refl refl tt

pub returns-in_err-reserve_wait-clause-serves : goal.returns-in_err-reserve_wait-clause-serves
returns-in_err-reserve_wait-clause-serves g c = refused_still _ _ _ _ _ fault.Memory c.from_residual-in_err-reserve_wait.ensures.1 refl refl refl refl tt

pub returns-in-Err-clause-serves : goal.returns-in-Err-clause-serves
returns-in-Err-clause-serves g c = call_still _ _ _ _ _ refl refl (both c.in-Err.ensures.first c.in-Err.ensures.told) refl (as_aside _ _ c.in-Err.ensures.refused tt) tt

pub returns-clause-serves : goal.returns-clause-serves
returns-clause-serves g c = call_still _ _ _ _ _ refl refl (both c.in-Ok.ensures.first c.in-Ok.ensures.told) refl tt refl
