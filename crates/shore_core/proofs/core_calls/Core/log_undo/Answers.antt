use Rattle.std.proofs.Common.{◌≡◌, IsSomeAnd, IsTrue, is_some, inl, inr, false, ◌+◌, ◌++◌, ◌∷◌, [], length, length-append, refl, sym, ap, subst, ◌∙◌, arith, ℕ, List}
use Rattle.shore_dwrite.specs.Volumes.{page_number}
use Rattle.shore_types.specs.Images.{Image, image_len}
use Rattle.shore_types.specs.Layout.{HasPage}
use Rattle.shore_types.specs.declared.ids.Rid.{Rid}
use Rattle.shore_model.specs.declared.log_records.LogRecord.{LogRecord}
use Rattle.shore_model.specs.declared.log_records.Payload.TheVariants.{Compensation}
use Rattle.shore_model.specs.Logs.{previous_of}
use Rattle.shore_page.specs.Room.{Fits, lowered}
use Rattle.shore_page.specs.Slots.{with_change, with_image}
use Rattle.shore_heap.specs.Contents.{with_slots}
use Rattle.shore_heap.specs.Heaps.{Shows, frame_at, frame_of}
use Rattle.laws_room.specs.Entries.{claim_before}
use Rattle.laws_lives.specs.Logged.{next_to_undo}
use Rattle.laws_lives.specs.Views.{IsAmong}
use Rattle.laws_calls.specs.Rollbacks.{put_back}
use Rattle.laws_calls.specs.States.{page_slots}
use Rattle.laws_heaps.specs.LoggedHeaps.{IsMade}
use Rattle.shore_core.specs.Stores.{append_to}
use Rattle.shore_core.proofs.Works.{noted_image}
use Rattle.shore_txn.specs.Transactions.{kept_in}
use Rattle.shore_txn.specs.TxnStates.{is_in_doubt}
use Rattle.shore_txn.specs.Txns.{state_of}
use Rattle.shore_txn.specs.UndoEntries.{image_of}
use Rattle.shore_txn.proofs.Seats.{seat_becomes}
use Rattle.shore_sessions.specs.Controls.{txns_in}
use Rattle.shore_sessions.specs.Standing.{HasControl, IsLogged}
use Rattle.shore_core.specs.Cores.{durable_of, first_of, geometry_of, has_failed, txns_of, waiting_of}
use Rattle.shore_core.specs.Parts.{HasParts}
use Rattle.shore_core.proofs.Changed.{claim_told, held_still, same_geometry, some_is}
use Rattle.shore_core.proofs.Coming.{comes_appended, pages_same}
use Rattle.shore_core.proofs.Rewinding.{rewinds_changed}
use Rattle.shore_core.proofs.Leaving.{comes_lacking}
use Rattle.shore_core.proofs.Tables.{each_among, next_is, parts_logged, some_and}
use Rattle.shore_core.proofs.Undoing.{earlier_undone, next_cost, next_earlier, next_image, next_record, next_some, next_text, next_undone, pages_undone, slot_there}
use Rattle.shore_core.proofs.Serving.{device_alone, nothing_called}
use Rattle.shore_core.proofs.Callers.{at_becomes}
use Rattle.shore_core.proofs.Keeping.{both}
use Rattle.shore_types.specs.declared.layout.Geometry.{Geometry}
use Rattle.shore_pool.specs.Pages.{SamePages}
use Rattle.shore_core.proofs.core_calls.Core.log_undo.Goals as goal

pub push-requires-clause-text : goal.push-requires-clause-text
push-requires-clause-text g c =
    let old = c.args.self.now in
    let next = c.requires.next in
    let fits = some_and _ (frame_of old.heap c.args.undo.id.page) c.requires.fits in
    next_text (txns_of old) c.args.seat.now.txn c.args.undo.id c.args.undo.bytes c.args.undo.cost c.args.undo.logged next
    (record { store = omega arith; page = omega arith; slot = omega (arith, fits.2.there) })
    (omega (arith, old.earlier next.own next.among, old.numbers))

pub push-requires-clause-previous : goal.push-requires-clause-previous
push-requires-clause-previous g c = next_earlier (txns_of c.args.self.now) c.args.seat.now.txn c.args.undo.id c.args.undo.bytes c.args.undo.cost c.args.undo.logged c.requires.next _ c.args.self.now.earlier

pub invariant_of-self : goal.invariant_of-self
invariant_of-self g c =
    let old = c.args.self.now in
    let same = ap length c.in-Err.ensures.none_added in
    let first = c.push.ensures.first in
    record {
      some_number = omega (arith, same, first, old.some_number);
      forced = omega (arith, same, first, old.forced);
      numbers = omega (arith, same, first, old.numbers);
      earlier = λ t m. omega (arith, same, first, old.earlier t m);
    }

pub returns-in-Err-clause-put_back : goal.returns-in-Err-clause-put_back
returns-in-Err-clause-put_back g c running front disk before s store is safe over a kept e of images = (
  inl c.in-Err.ensures.refused,
  inr (comes_lacking c.args.self.now _ front disk before s store refl c.push.ensures.first c.in-Err.ensures.none_added refl refl refl is.beside.parts.stands is over),
)

pub note_compensation-undone-requires-clause-some : goal.note_compensation-undone-requires-clause-some
note_compensation-undone-requires-clause-some g c a among is none =
    next_some (txns_of c.args.self.now) c.args.seat.now.txn c.args.undo.id c.args.undo.bytes c.args.undo.cost c.args.undo.logged c.requires.next a among is none

pub note_compensation-undone-requires-clause-cost : goal.note_compensation-undone-requires-clause-cost
note_compensation-undone-requires-clause-cost g c a kept e among is images =
    next_cost (txns_of c.args.self.now) c.args.seat.now.txn c.args.undo.id c.args.undo.bytes c.args.undo.cost c.args.undo.logged c.requires.next a kept e among is images

pub change-requires-clause-there : goal.change-requires-clause-there
change-requires-clause-there g c =
    let same = next_undone (txns_of c.args.self.now) c.args.seat.now.txn c.args.undo.id c.args.undo.bytes c.args.undo.cost c.args.undo.logged c.requires.next (txns_in c.note_compensation-undone.new.self) _ _ _ c.note_compensation-undone.ensures.undone in
    subst (λ (r : Rid). HasPage (geometry_of c.args.self.now) r.page) (c.requires.next.id_is ∙ ap (λ (x : Rid × Image). x.0) same) c.requires.there

pub change-requires-clause-fits : goal.change-requires-clause-fits
change-requires-clause-fits g c =
    let same = next_undone (txns_of c.args.self.now) c.args.seat.now.txn c.args.undo.id c.args.undo.bytes c.args.undo.cost c.args.undo.logged c.requires.next (txns_in c.note_compensation-undone.new.self) _ _ _ c.note_compensation-undone.ensures.undone in
    subst (λ (i : Image). IsSomeAnd (frame_of c.args.self.now.heap c.note_compensation-undone.result.id.page) (λ f. Fits (geometry_of c.args.self.now).version f.page.slots c.note_compensation-undone.result.id.slot (image_len i))) (sym c.bytes_of.ensures)
    (subst (λ (x : Rid × Image). IsSomeAnd (frame_of c.args.self.now.heap x.0.page) (λ f. Fits (geometry_of c.args.self.now).version f.page.slots x.0.slot (image_len x.1))) same
    (subst (λ n. IsSomeAnd (frame_of c.args.self.now.heap c.requires.next.entry.id.page) (λ f. Fits (geometry_of c.args.self.now).version f.page.slots c.requires.next.entry.id.slot n)) c.requires.next.bytes_is
    (subst (λ (r : Rid). IsSomeAnd (frame_of c.args.self.now.heap r.page) (λ f. Fits (geometry_of c.args.self.now).version f.page.slots r.slot c.args.undo.bytes)) c.requires.next.id_is c.requires.fits)))

pub release_to-requires-clause-there : goal.release_to-requires-clause-there
release_to-requires-clause-there g c =
    let same = next_undone (txns_of c.args.self.now) c.args.seat.now.txn c.args.undo.id c.args.undo.bytes c.args.undo.cost c.args.undo.logged c.requires.next (txns_in c.note_compensation-undone.new.self) _ _ _ c.note_compensation-undone.ensures.undone in
    subst (λ it. HasPage it c.note_compensation-undone.result.id.page) (sym (same_geometry c.change.new.self c.args.self.now.heap c.change.ensures.device))
    (subst (λ (r : Rid). HasPage (geometry_of c.args.self.now) r.page) (c.requires.next.id_is ∙ ap (λ (x : Rid × Image). x.0) same) c.requires.there)

pub release_to-requires-clause-slot : goal.release_to-requires-clause-slot
release_to-requires-clause-slot g c =
    let old = c.args.self.now.heap in
    let undone = c.note_compensation-undone.result in
    let same = next_undone (txns_of c.args.self.now) c.args.seat.now.txn c.args.undo.id c.args.undo.bytes c.args.undo.cost c.args.undo.logged c.requires.next (txns_in c.note_compensation-undone.new.self) _ _ _ c.note_compensation-undone.ensures.undone in
    let at = ap (λ it. frame_at c.change.new.self (page_number it undone.id.page)) (same_geometry c.change.new.self old c.change.ensures.device) ∙ c.change.ensures.frames.0 in
    slot_there c.in-Ok.lsn undone.id.slot _ (frame_of old undone.id.page) (frame_of c.change.new.self undone.id.page) at
    (subst (λ (r : Rid). IsTrue (is_some (frame_of old r.page))) (c.requires.next.id_is ∙ ap (λ (x : Rid × Image). x.0) same) (some_is _ (frame_of old c.args.undo.id.page) c.requires.fits))

pub invariant_of-self-2 : goal.invariant_of-self-2
invariant_of-self-2 g c =
    let old = c.args.self.now in
    let now = g.T.Tail.first old.tail + length (g.T.Tail.records old.tail) in
    let next = g.T.Tail.first c.push.new.self + length (g.T.Tail.records c.push.new.self) in
    let more : length (g.T.Tail.records c.push.new.self) ≡ length (g.T.Tail.records old.tail) + 1 = ap length c.in-Ok.ensures.added ∙ length-append (g.T.Tail.records old.tail) (_ ∷ []) in
    let risen : next ≡ now + 1 = omega (arith, more, c.push.ensures.first) in
    record {
      some_number = omega (arith, risen, old.some_number);
      forced = omega (arith, risen, old.forced);
      numbers = omega (arith, risen, c.note_compensation-undone.ensures.reserved, c.requires.next.cost_is, old.numbers);
      earlier = λ t m. omega (arith, risen, earlier_undone (txns_of old) (txns_in c.note_compensation-undone.new.self) now old.earlier c.note_compensation-undone.ensures.undone c.in-Ok.ensures.number t m);
    }

pub returns-clause-put_back : goal.returns-clause-put_back
returns-clause-put_back g c running front disk before s store is safe over a kept e of images =
    let old = c.args.self.now in
    let undone = c.note_compensation-undone.result in
    let new = c.note_compensation-undone.new.self in
    let works = is.beside.parts.failed_is ∙ running in
    let stands = is.beside.parts.stands in
    let next = c.requires.next in
    let among = subst (IsAmong a) stands.txns.active of.0 in
    let entry_is = next_image (txns_of old) c.args.seat.now.txn c.args.undo.id c.args.undo.bytes c.args.undo.cost c.args.undo.logged next a kept e among of.1 images in
    let same : image_of undone ≡ e = sym (next_undone (txns_of old) c.args.seat.now.txn c.args.undo.id c.args.undo.bytes c.args.undo.cost c.args.undo.logged next (txns_in new) _ _ _ c.note_compensation-undone.ensures.undone) ∙ entry_is in
    let id_is : c.args.undo.id ≡ e.0 = next.id_is ∙ ap (λ (x : Rid × Image). x.0) entry_is in
    let its : a.undo.images ≡ kept ++ image_of undone ∷ [] = images ∙ ap (λ (x : Rid × Image). kept ++ x ∷ []) (sym same) in
    let number : c.in-Ok.lsn ≡ 1 + length s.log = c.in-Ok.ensures.number ∙ sym (next_is old.control (waiting_of old) (durable_of old) (has_failed old) before s is.beside.parts (first_of old) is.beside.first 0) in
    let later = put_back s a kept (e ∷ []) c.args.rollback in
    let r : LogRecord = record { txn = a.txn; previous = previous_of a.txn s.log; payload = Compensation e.0 e.1 (next_to_undo a.txn s.log) } in
    let r_is : c.args.undo.logged ≡ r = next_record (txns_of old) c.args.seat.now.txn c.args.undo.id c.args.undo.bytes c.args.undo.cost c.args.undo.logged next s.log a kept e (each_among (IsLogged s.log) _ stands.txns.each next.own next.among) among of.1 images in
    let has : HasControl new later = subst (λ (x : Rid × Image). HasControl new (put_back s a kept (x ∷ []) c.args.rollback)) same (c.note_compensation-undone.ensures.stands s a kept stands of its number) in
    let parts = parts_logged old.control new (waiting_of old) (durable_of old) (has_failed old) before s later r is.beside.parts has refl refl refl in
    let there : HasPage (geometry_of old) e.0.page = subst (λ (x : Rid). HasPage (geometry_of old) x.page) id_is c.requires.there in
    let K = kept_in (txns_of old) in
    let image_is = c.bytes_of.ensures in
    let claim_is = c.from.ensures ∙ c.note_compensation-undone.ensures.claim s a kept stands of its in
    let made = c.change.ensures.shows K front disk (page_slots s) (is.pages works) in
    let lowered_there = c.release_to.ensures.shows K front disk _ made in
    let shown = subst (λ n. Shows K c.release_to.new.self front disk (with_slots (with_slots (page_slots s) undone.id.page (λ l. with_image l undone.id.slot undone.before)) undone.id.page (λ l. with_change (lowered n) l undone.id.slot))) claim_is
    (subst (λ (i : Image). Shows K c.release_to.new.self front disk (with_slots (with_slots (page_slots s) undone.id.page (λ l. with_image l undone.id.slot i)) undone.id.page (λ l. with_change (lowered c.from.result) l undone.id.slot))) image_is lowered_there) in
    let at_e = subst (λ (x : Rid × Image). Shows K c.release_to.new.self front disk (with_slots (with_slots (page_slots s) x.0.page (λ l. with_image l x.0.slot x.1)) x.0.page (λ l. with_change (lowered (claim_before kept x)) l x.0.slot))) same shown in
    let pages = pages_undone (geometry_of c.args.self.now).version c.release_to.new.self K front disk s a kept e c.args.rollback safe.roomy.pages of.0 images at_e in
    let held = held_still _ c.release_to.new.self old.heap c.args.undo.id.page (c.release_to.ensures.device ∙ c.change.ensures.device) (λ k. c.release_to.ensures.held k ∙ c.change.ensures.held k) c.requires.fits in
    let told = claim_told (geometry_of c.args.self.now).version c.release_to.new.self (txns_of old) (txns_in new) undone.id.page front disk (page_slots later)
    (subst (λ (x : Rid). IsTrue (is_some (frame_of c.release_to.new.self x.page))) (id_is ∙ sym (ap (λ (x : Rid × Image). x.0) same)) held) c.note_compensation-undone.ensures.elsewhere pages in
    let number_is : c.in-Ok.lsn ≡ length store.store.log + 1 = omega (arith, number, ap length over.kept.stored.log) in
    let frames = subst (λ (x : Rid × Image). IsMade old.heap c.change.new.self (length store.store.log + 1) x.0 x.1) same
    (subst (λ n. IsMade old.heap c.change.new.self n undone.id undone.before) number_is (subst (λ (i : Image). IsMade old.heap c.change.new.self c.in-Ok.lsn undone.id i) image_is c.change.ensures.frames)) in
    let held_before = subst (λ (x : Rid). IsTrue (is_some (frame_of old.heap x.page))) id_is (some_is _ (frame_of old.heap c.args.undo.id.page) c.requires.fits) in (
      subst (λ it. HasPage it e.0.page) (sym (same_geometry c.release_to.new.self old.heap (c.release_to.ensures.device ∙ c.change.ensures.device))) there,
      comes_appended _ front disk before s later store r over.kept refl refl (record {
        beside = record {
          first = c.push.ensures.first ∙ is.beside.first;
          parts = subst (λ l. HasParts new l (durable_of old) (has_failed old) before later) (sym (c.in-Ok.ensures.added ∙ ap (λ x. waiting_of old ++ x ∷ []) r_is)) parts;
        };
        pages = λ w. told;
      })
          (λ w. pages_same c.change.new.self c.release_to.new.self disk (append_to store r) (c.release_to.ensures.same disk) c.release_to.ensures.dirt (same_geometry c.release_to.new.self c.change.new.self c.release_to.ensures.device)
          (noted_image old.heap c.change.new.self disk store r e.0 e.1 (over.pages works) over.kept.recoverable over.kept.redone refl there held_before frames (same_geometry c.change.new.self old.heap c.change.ensures.device))),
    )

pub returns-clause-rewinds : goal.returns-clause-rewinds
returns-clause-rewinds g c =
    let old = c.args.self.now in
    rewinds_changed old _ c.change.new.self c.note_compensation-undone.result.id.page c.in-Ok.lsn c.note_compensation-undone.result.id.slot _ c.change.ensures.frames.0 c.change.ensures.frames.1
    (same_geometry c.release_to.new.self old.heap (c.release_to.ensures.device ∙ c.change.ensures.device)) (omega (arith, c.in-Ok.ensures.number, old.forced))
    c.change.ensures.untouched c.release_to.ensures.untouched
    (subst (λ (it : Geometry). (disk : ℕ → List ℕ) → SamePages it.version (frame_at c.change.new.self) disk (frame_at c.release_to.new.self) disk) (same_geometry c.change.new.self old.heap c.change.ensures.device) c.release_to.ensures.same)

pub returns-clause-longer : goal.returns-clause-longer
returns-clause-longer g c =
    let old = c.args.self.now in
    let more : length (g.T.Tail.records c.push.new.self) ≡ length (g.T.Tail.records old.tail) + 1 = ap length c.in-Ok.ensures.added ∙ length-append (g.T.Tail.records old.tail) (_ ∷ []) in
    omega (arith, more, c.push.ensures.first)

pub returns-in-Err-clause-longer : goal.returns-in-Err-clause-longer
returns-in-Err-clause-longer g c =
    let same = ap length c.in-Err.ensures.none_added in
    omega (arith, same, c.push.ensures.first)

pub returns-clause-seated : goal.returns-clause-seated
returns-clause-seated g c =
    seat_becomes (txns_of c.args.self.now) (txns_in c.note_compensation-undone.new.self) c.args.seat.now (λ before after becomes. becomes.txn) c.note_compensation-undone.ensures.undone c.requires.seated

pub returns-clause-unprepared : goal.returns-clause-unprepared
returns-clause-unprepared g c =
    let one = c.note_compensation-undone.ensures.undone in
    at_becomes (txns_of c.args.self.now) (txns_in c.note_compensation-undone.new.self) c.args.seat.now one one.becomes.txn (λ t. is_in_doubt (state_of t) ≡ false) (ap is_in_doubt one.becomes.state)

pub returns-clause-no_call : goal.returns-clause-no_call
returns-clause-no_call g c = device_alone _ _ (c.release_to.ensures.device ∙ c.change.ensures.device) refl (both c.push.ensures.first c.push.ensures.told) refl

pub returns-in-Err-clause-no_call : goal.returns-in-Err-clause-no_call
returns-in-Err-clause-no_call g c = nothing_called _ _ refl refl (both c.push.ensures.first c.push.ensures.told) refl
