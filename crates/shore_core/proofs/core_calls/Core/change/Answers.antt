use Rattle.std.proofs.Common.{◌≡◌, IsSomeAnd, inl, inr, ◌+◌, ◌++◌, ◌∷◌, [], length, length-append, refl, sym, ap, subst, ◌∙◌, arith}
use Rattle.std.specs.FinMap.{get}
use Rattle.shore_dwrite.specs.Volumes.{page_number}
use Rattle.shore_types.specs.Images.{Image, image_len}
use Rattle.shore_types.specs.declared.locking.Granule.TheVariants.{Record}
use Rattle.shore_types.specs.declared.locking.Mode.TheVariants.{EX}
use Rattle.shore_model.specs.declared.log_records.LogRecord.{LogRecord}
use Rattle.shore_model.specs.declared.log_records.Payload.TheVariants.{Change}
use Rattle.shore_model.specs.Logs.{previous_of}
use Rattle.shore_logrec.specs.Text as text
use Rattle.shore_logrec.specs.Text.{cost_of}
use Rattle.shore_locks.specs.Tables.{Table}
use Rattle.shore_path.specs.Acquires.{IsReached}
use Rattle.shore_page.specs.Room.{Fits}
use Rattle.shore_page.specs.Slots.{image_at_slot, with_image}
use Rattle.shore_heap.specs.Contents.{with_slots}
use Rattle.shore_heap.specs.Heaps.{Shows, frame_of}
use Rattle.laws_room.specs.LogRooms.{compensation_cost}
use Rattle.laws_room.proofs.Costs.{compensation_bytes}
use Rattle.laws_lives.specs.Sessions.{SessionTxn}
use Rattle.laws_lives.specs.Views.{IsAmong}
use Rattle.laws_calls.specs.States.{HasRoomFor, page_slots}
use Rattle.laws_heaps.specs.LoggedHeaps.{IsMade}
use Rattle.shore_core.proofs.Works.{noted_image}
use Rattle.shore_txn.specs.Transactions.{kept_in, room_in}
use Rattle.shore_txn.specs.Txns.{as_session_txn}
use Rattle.shore_txn.proofs.OneOfMany.{once_same}
use Rattle.shore_sessions.specs.Controls.{txns_in}
use Rattle.shore_sessions.specs.Standing.{IsLogged, changed}
use Rattle.shore_core.specs.Cores.{control_of, durable_of, first_of, geometry_of, has_failed, txns_of, waiting_of}
use Rattle.shore_core.specs.Parts.{HasParts}
use Rattle.shore_core.proofs.Changed.{changes_none, claim_told, costs_are, earlier_changed, earlier_same, grown, grows, held_still, image_short, len_short, pages_changed, same_geometry, second_and, some_is}
use Rattle.shore_core.proofs.Coming.{comes_appended, comes_same, over_as, pages_told}
use Rattle.shore_core.proofs.Safe.{alone_in}
use Rattle.shore_core.proofs.Tables.{each_among, has_no_room, has_room, next_is, parts_logged, parts_moved, some_and}
use Rattle.shore_core.proofs.Taking.{framed_is, image_shown, true_false}
use Rattle.shore_core.proofs.Serving.{device_alone, nothing_called}
use Rattle.shore_sessions.proofs.ControlSteps.{own_number}
use Rattle.shore_core.proofs.Keeping.{both}
use Rattle.shore_types.specs.Versions.{record_limit-most}
use Rattle.shore_core.proofs.core_calls.Core.change.Goals as goal

pub returns-then-not-admits-clause-changed : goal.returns-then-not-admits-clause-changed
returns-then-not-admits-clause-changed g c running front disk before s store is safe over a of locked =
    let old = c.args.self.now in
    let id = c.args.id in
    let works = is.beside.parts.failed_is ∙ running in
    let shows = is.pages works in
    let slots = framed_is (geometry_of c.args.self.now).version (λ l. (image_at_slot l id.slot ≡ c.args.before) × Fits (geometry_of c.args.self.now).version l id.slot (image_len c.args.after)) (frame_of old.heap id.page) (disk (page_number (geometry_of old) id.page)) id.page (kept_in (txns_of old) id.page) (page_slots s id.page)
    (shows.pages id.page c.requires.there.0) c.requires.found in
    let found : get s.sessions.records id ≡ c.args.before = sym (image_shown (geometry_of c.args.self.now).version s.sessions.records s.sessions.active s.counts safe.roomy.pages id) ∙ slots.0 in
    let cost = costs_are s.sessions.records id c.args.before c.args.after c.change_cost-logged.result c.compensation_cost-undo.result
    (c.change_cost-logged.ensures.cost id c.args.before c.args.after (sym c.len_of.ensures) (sym c.len_of-2.ensures)) (c.compensation_cost-undo.ensures.cost id c.args.before 0 (sym c.len_of-3.ensures)) found in (
      inr (
        refl,
        subst (λ n. ¬ HasRoomFor s n) cost (has_no_room old.control (waiting_of old) (durable_of old) (has_failed old) before s is.beside.parts (first_of old) is.beside.first (c.change_cost-logged.result + c.compensation_cost-undo.result)
            (λ h. true_false (sym (c.admits.ensures.1 h) ∙ c.if-not-admits.true))),
      ),
      comes_same old front disk before s store is over,
    )

pub invariant_of-self : goal.invariant_of-self
invariant_of-self g c =
    let old = c.args.self.now in
    record {
      some_number = old.some_number;
      forced = old.forced;
      numbers = omega (arith, ap (λ r. r.reserved) c.reserve_entry.ensures.room, old.numbers);
      earlier = earlier_same (txns_of old) (txns_in c.reserve_entry.new.self) _ old.earlier c.reserve_entry.ensures.same;
    }

pub returns-in_err-reserve_entry-clause-changed : goal.returns-in_err-reserve_entry-clause-changed
returns-in_err-reserve_entry-clause-changed g c running front disk before s store is safe over a of locked =
    let old = c.args.self.now in
    let new = c.reserve_entry.new.self in
    changes_none (geometry_of c.args.self.now).version _ front before s store a c.args.id c.args.after c.from_residual.result c.from_residual.ensures.1
    (comes_same _ front disk before s store (record {
      beside = record {
        first = is.beside.first;
        parts = parts_moved old.control new (waiting_of old) (durable_of old) (has_failed old) before s s is.beside.parts (c.reserve_entry.ensures.stands s is.beside.parts.stands) refl refl refl;
      };
      pages = λ works. pages_told old.heap (txns_of old) (txns_in c.reserve_entry.new.self) front disk (page_slots s) c.reserve_entry.ensures.claims (is.pages works);
    }) (over_as old _ disk s s store refl refl refl refl over))

pub change_cost-logged-requires-clause-after : goal.change_cost-logged-requires-clause-after
change_cost-logged-requires-clause-after g c =
    len_short c.args.after c.len_of-2.result c.len_of-2.ensures
    (omega (arith, (some_and _ (frame_of c.args.self.now.heap c.args.id.page) c.requires.found).2.1.most, record_limit-most (geometry_of c.args.self.now).version))

pub push-requires-clause-text : goal.push-requires-clause-text
push-requires-clause-text g c =
    let old = c.args.self.now in
    subst (λ (r : LogRecord). text.Fits r) (sym c.change_record-record.ensures) record {
      owner = c.id-txn.ensures.some;
      txn_fits = omega (arith, c.id-txn.ensures.below);
      previous_fits = omega (arith, c.last-previous.ensures, old.earlier c.txn-own.result.now c.txn-own.ensures.among, old.numbers);
      payload_fits = record {
        rid = record { store = omega arith; page = omega arith; slot = omega (arith, c.requires.there.1) };
        old = image_short c.args.before c.requires.before;
        new = image_short c.args.after (omega (arith, (some_and _ (frame_of old.heap c.args.id.page) c.requires.found).2.1.most, record_limit-most (geometry_of c.args.self.now).version));
        some = c.requires.some;
      };
    }

pub push-requires-clause-previous : goal.push-requires-clause-previous
push-requires-clause-previous g c = omega (arith, ap (λ (r : LogRecord). r.previous) c.change_record-record.ensures, c.last-previous.ensures, c.args.self.now.earlier c.txn-own.result.now c.txn-own.ensures.among)

pub invariant_of-self-in-Err-1 : goal.invariant_of-self-in-Err-1
invariant_of-self-in-Err-1 g c =
    let old = c.args.self.now in
    let same = ap length c.in-Err.ensures.none_added in
    let first = c.push.ensures.first in
    record {
      some_number = omega (arith, same, first, old.some_number);
      forced = omega (arith, same, first, old.forced);
      numbers = omega (arith, same, first, ap (λ r. r.reserved) c.reserve_entry.ensures.room, old.numbers);
      earlier = λ t m. omega (arith, same, first, earlier_same (txns_of old) (txns_in c.reserve_entry.new.self) _ old.earlier c.reserve_entry.ensures.same t m);
    }

pub returns-in-Err-clause-changed : goal.returns-in-Err-clause-changed
returns-in-Err-clause-changed g c running front disk before s store is safe over a of locked =
    let old = c.args.self.now in (
      inl c.in-Err.ensures.refused,
      comes_same _ front disk before s store (record {
        beside = record {
          first = c.push.ensures.first ∙ is.beside.first;
          parts = subst (λ l. HasParts c.reserve_entry.new.self l (durable_of old) (has_failed old) before s) (sym c.in-Err.ensures.none_added)
              (parts_moved old.control c.reserve_entry.new.self (waiting_of old) (durable_of old) (has_failed old) before s s is.beside.parts (c.reserve_entry.ensures.stands s is.beside.parts.stands) refl refl refl);
        };
        pages = λ works. pages_told old.heap (txns_of old) (txns_in c.reserve_entry.new.self) front disk (page_slots s) c.reserve_entry.ensures.claims (is.pages works);
      }) (over_as old _ disk s s store refl refl refl refl over),
    )

pub change-requires-clause-fits : goal.change-requires-clause-fits
change-requires-clause-fits g c =
    let id = c.args.id in
    let image = c.args.after in
    let payload : c.change_record-record.result.payload ≡ Change id c.args.before image = ap (λ (r : LogRecord). r.payload) c.change_record-record.ensures in
    subst (λ (i : Image). IsSomeAnd (frame_of c.args.self.now.heap id.page) (λ f. Fits (geometry_of c.args.self.now).version f.page.slots id.slot (image_len i))) (sym (c.after_of.ensures id c.args.before image payload))
    (second_and (λ f. image_at_slot f.page.slots id.slot ≡ c.args.before) (λ f. Fits (geometry_of c.args.self.now).version f.page.slots id.slot (image_len image)) (frame_of c.args.self.now.heap id.page) c.requires.found)

pub note_change-requires-clause-short : goal.note_change-requires-clause-short
note_change-requires-clause-short g c =
    let payload : c.change_record-record.result.payload ≡ Change c.args.id c.args.before c.args.after = ap (λ (r : LogRecord). r.payload) c.change_record-record.ensures in
    omega (arith, ap image_len (c.before_of.ensures c.args.id c.args.before c.args.after payload), c.requires.before)

pub note_change-requires-clause-cost : goal.note_change-requires-clause-cost
note_change-requires-clause-cost g c =
    let payload : c.change_record-record.result.payload ≡ Change c.args.id c.args.before c.args.after = ap (λ (r : LogRecord). r.payload) c.change_record-record.ensures in
    c.compensation_cost-undo.ensures.cost c.args.id c.args.before 0 (sym c.len_of-3.ensures) ∙ sym (compensation_bytes c.args.id c.args.before 0)
    ∙ ap compensation_cost (sym (c.before_of.ensures c.args.id c.args.before c.args.after payload))

pub invariant_of-self-2 : goal.invariant_of-self-2
invariant_of-self-2 g c =
    let old = c.args.self.now in
    let mid = c.reserve_entry.new.self in
    let now = g.T.Tail.first old.tail + length (g.T.Tail.records old.tail) in
    let next = g.T.Tail.first c.push.new.self + length (g.T.Tail.records c.push.new.self) in
    let more : length (g.T.Tail.records c.push.new.self) ≡ length (g.T.Tail.records old.tail) + 1 = ap length c.in-Ok.ensures.added ∙ length-append (g.T.Tail.records old.tail) (_ ∷ []) in
    let risen : next ≡ now + 1 = omega (arith, more, c.push.ensures.first) in
    let admitted = c.if-not-admits.ensures.0 refl in
    record {
      some_number = omega (arith, risen, old.some_number);
      forced = omega (arith, risen, old.forced);
      numbers = omega (arith, risen, admitted.0, admitted.1, c.note_change.ensures.reserved, ap (λ r. r.reserved) c.reserve_entry.ensures.room, (room_in (txns_of old)).short);
      earlier = λ t m. omega (arith, risen, earlier_changed (txns_in mid) (txns_in c.note_change.new.self) now (earlier_same (txns_of old) (txns_in mid) now old.earlier c.reserve_entry.ensures.same) c.note_change.ensures.noted c.in-Ok.ensures.number t m);
    }

pub returns-clause-changed : goal.returns-clause-changed
returns-clause-changed g c running front disk before s store is safe over a of locked =
    let old = c.args.self.now in
    let id = c.args.id in
    let mid = c.reserve_entry.new.self in
    let new = c.note_change.new.self in
    let image = c.args.after in
    let works = is.beside.parts.failed_is ∙ running in
    let shows = is.pages works in
    let slots = framed_is (geometry_of c.args.self.now).version (λ l. (image_at_slot l id.slot ≡ c.args.before) × Fits (geometry_of c.args.self.now).version l id.slot (image_len image)) (frame_of old.heap id.page) (disk (page_number (geometry_of old) id.page)) id.page (kept_in (txns_of old) id.page) (page_slots s id.page)
    (shows.pages id.page c.requires.there.0) c.requires.found in
    let found : get s.sessions.records id ≡ c.args.before = sym (image_shown (geometry_of c.args.self.now).version s.sessions.records s.sessions.active s.counts safe.roomy.pages id) ∙ slots.0 in
    let payload : c.change_record-record.result.payload ≡ Change id c.args.before image = ap (λ (r : LogRecord). r.payload) c.change_record-record.ensures in
    let given : c.before_of.result ≡ c.args.before = c.before_of.ensures id c.args.before image payload in
    let before_is = given ∙ sym found in
    let logged = c.change_cost-logged.ensures.cost id c.args.before image (sym c.len_of.ensures) (sym c.len_of-2.ensures) in
    let cost = costs_are s.sessions.records id c.args.before image c.change_cost-logged.result c.compensation_cost-undo.result logged (c.compensation_cost-undo.ensures.cost id c.args.before 0 (sym c.len_of-3.ensures)) found in
    let own = c.txn-own.result.now in
    let stands = is.beside.parts.stands in
    let at_seat = own_number (control_of old) c.args.seat.now c.requires.seated c.requires.own s stands a of in
    let own_is : as_session_txn own ≡ a =
    once_same (λ (b : SessionTxn). b.txn) _ (txns_of old).numbers (as_session_txn own) a c.txn-own.ensures.there (subst (IsAmong a) stands.txns.active of.0.0) (c.txn-own.ensures.number ∙ sym at_seat) in
    let txn_is : c.id-txn.result ≡ a.txn = c.id-txn.ensures.number ∙ ap (λ (b : SessionTxn). b.txn) own_is in
    let previous_is : c.last-previous.result ≡ previous_of a.txn s.log =
    c.last-previous.ensures ∙ (each_among (IsLogged s.log) _ stands.txns.each own c.txn-own.ensures.among).last ∙ ap (λ (b : SessionTxn). previous_of b.txn s.log) own_is in
    let r : LogRecord = record { txn = a.txn; previous = previous_of a.txn s.log; payload = Change id (get s.sessions.records id) image } in
    let r_is : record { txn = c.id-txn.result; previous = c.last-previous.result; payload = Change id c.args.before image } ≡ r =
    ap (λ n. record { txn = n; previous = c.last-previous.result; payload = Change id c.args.before image }) txn_is
    ∙ ap (λ n. record { txn = a.txn; previous = n; payload = Change id c.args.before image }) previous_is
    ∙ ap (λ (b : Image). record { txn = a.txn; previous = previous_of a.txn s.log; payload = Change id b image }) (sym found) in
    let number : c.in-Ok.lsn ≡ 1 + length s.log = c.in-Ok.ensures.number ∙ sym (next_is old.control (waiting_of old) (durable_of old) (has_failed old) before s is.beside.parts (first_of old) is.beside.first 0) in
    let alone = alone_in (geometry_of old) s safe a.txn id (subst (λ (t : Table). IsReached t.requests a.txn (Record id) EX) (sym stands.locks) locked) in
    let later = changed s a id image (grown s.counts id) in
    let has = c.note_change.ensures.stands (geometry_of c.args.self.now).version s a image (grown s.counts id) (c.reserve_entry.ensures.stands s stands) (of.0.0, at_seat) number before_is
    (logged ∙ ap (λ (b : Image). cost_of (Change id b image)) (sym given)) safe.roomy.pages alone (c.claim-claim.ensures (kept_in (txns_of old)) front disk (page_slots s) shows) in
    let parts = parts_logged old.control new (waiting_of old) (durable_of old) (has_failed old) before s later r is.beside.parts has refl refl refl in
    let image_is = c.after_of.ensures id c.args.before image payload in
    let made = subst (λ (i : Image). Shows (kept_in (txns_of old)) c.change.new.self front disk (with_slots (page_slots s) id.page (λ l. with_image l id.slot i))) image_is (c.change.ensures.shows (kept_in (txns_of old)) front disk (page_slots s) shows) in
    let held = held_still _ c.change.new.self old.heap id.page c.change.ensures.device c.change.ensures.held c.requires.found in
    let told = claim_told (geometry_of c.args.self.now).version c.change.new.self (txns_of old) (txns_in new) id.page front disk (page_slots later) held (λ p other. c.note_change.ensures.elsewhere p other ∙ c.reserve_entry.ensures.claims p)
    (pages_changed (geometry_of c.args.self.now).version c.change.new.self (kept_in (txns_of old)) front disk s a id image (grown s.counts id) safe.roomy.pages of.0.0 alone slots.1 (grows s.counts id) made) in
    let number_is : c.in-Ok.lsn ≡ length store.store.log + 1 = omega (arith, number, ap length over.kept.stored.log) in
    let frames = subst (λ n. IsMade old.heap c.change.new.self n id image) number_is (subst (λ (i : Image). IsMade old.heap c.change.new.self c.in-Ok.lsn id i) image_is c.change.ensures.frames) in (
      grown s.counts id,
      record {
        fits = slots.1;
        logs = subst (HasRoomFor s) cost (has_room old.control (waiting_of old) (durable_of old) (has_failed old) before s is.beside.parts (first_of old) is.beside.first (c.change_cost-logged.result + c.compensation_cost-undo.result) (c.if-not-admits.ensures.0 refl));
        grows = grows s.counts id;
      },
      comes_appended _ front disk before s later store r over.kept refl refl (record {
        beside = record {
          first = c.push.ensures.first ∙ is.beside.first;
          parts = subst (λ l. HasParts new l (durable_of old) (has_failed old) before later) (sym (c.in-Ok.ensures.added ∙ ap (λ x. waiting_of old ++ x ∷ []) (c.change_record-record.ensures ∙ r_is))) parts;
        };
        pages = λ w. told;
      }) (λ w. noted_image old.heap c.change.new.self disk store r id image (over.pages works) over.kept.recoverable over.kept.redone refl c.requires.there.0
          (some_is _ (frame_of old.heap id.page) c.requires.found) frames (same_geometry c.change.new.self old.heap c.change.ensures.device)),
    )

pub returns-clause-no_call : goal.returns-clause-no_call
returns-clause-no_call g c = device_alone _ _ c.change.ensures.device refl (both c.push.ensures.first c.push.ensures.told) refl

pub returns-in-Err-clause-no_call : goal.returns-in-Err-clause-no_call
returns-in-Err-clause-no_call g c = nothing_called _ _ refl refl (both c.push.ensures.first c.push.ensures.told) refl
