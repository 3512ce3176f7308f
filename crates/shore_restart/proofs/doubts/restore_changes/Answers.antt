use Rattle.std.proofs.Common.{◌≡◌, ◌≤◌, ◌+◌, ℕ, List, Some, true, false, inl, inr, refl, sym, ap, subst, ◌∙◌, length, map, max, reverse, take_all, arith}
use Rattle.std.specs.Prelude.{slice_get, unwrap_or}
use Rattle.std.specs.BTreeMap.{get, is_at}
use Rattle.std.specs.Map.{lookup}
use Rattle.std.proofs.lemmas.Bool.{cases_lt}
use Rattle.std.proofs.lemmas.Option.{slice_get_read}
use Rattle.shore_types.specs.Ids.{rid_cmp}
use Rattle.shore_types.specs.Images.{Image, image_len}
use Rattle.shore_types.specs.declared.ids.Rid.{Rid}
use Rattle.shore_types.specs.declared.layout.TheConstants.{LONGEST_FRAME, MAX_RECORD_BYTES}
use Rattle.shore_model.specs.declared.unanswered_changes.UnansweredChange.{UnansweredChange}
use Rattle.shore_model.specs.Logs.{unanswered}
use Rattle.laws_room.specs.LogRooms.{compensation_cost, compensation_costs}
use Rattle.laws_room.proofs.Costs.{compensation_bytes}
use Rattle.shore_txn.specs.Transactions.{room_in, txns_in}
use Rattle.shore_restart.specs.Room.{HasSums}
use Rattle.shore_restart.proofs.ChangesBack.{as_many_numbers, becomes_all, becomes_more, changes_to_undo, claims_short, claims_then, costs_most, costs_then, images_to_undo, never_unread, numbered_at, reads_as, seat_kept, short_before, some_short, starts_at, told_images}
use Rattle.shore_restart.proofs.ChangesBack.{told_behind}
use Rattle.shore_analysis.specs.Padded.{padded}
use Rattle.shore_restart.proofs.KeptReads.{fit_padded}
use Rattle.shore_restart.proofs.doubts.restore_changes.Goals as goal

pub loop-number-init : goal.loop-number-init
loop-number-init c = record {
  seated = c.requires.seated;
  so_far = starts_at c.args.seat.now c.args.txns.now c.requires.seated c.requires.none;
  claims = λ id. ap (λ (es : List (Rid × ℕ)). unwrap_or (lookup (is_at (rid_cmp id)) es) 0) c.new-claims.ensures.empty;
  short = λ id. let none = ap (λ (es : List (Rid × ℕ)). unwrap_or (lookup (is_at (rid_cmp id)) es) 0) c.new-claims.ensures.empty in omega (arith, none);
  next = refl;
  room = record { stream = refl; kept_is = refl; reserved_is = omega arith };
  holds = c.requires.frame;
}

pub returns-in_default-clause-refused : goal.returns-in_default-clause-refused
returns-in_default-clause-refused c =
    let log = (padded c.args.cut c.args.kept.now) in
    let t = c.args.seat.now.txn in
    let i = c.loop-number.number-index in
    let n = c.number-item.result in
    let xs = c.deref-number-items.result.now in
    let here : slice_get (reverse (map (λ (x : UnansweredChange). x.number) (unanswered t log))) i ≡ Some n =
    subst (λ (ns : List ℕ). slice_get ns i ≡ Some n) (c.deref-number-items.ensures.value ∙ told_behind c.args.cut c.args.kept.now t c.requires.some c.in_ok-to_be_undone_behind.field-0.items c.args.newest (c.in_ok-to_be_undone_behind.ensures.all c.requires.meant.0 t c.requires.some c.requires.meant.1 c.requires.whole) c.requires.newest)
    (slice_get_read xs (length xs) i n refl c.loop-number-test.true c.number-item.is) in
    let its = numbered_at log t i n here in
    absurd (never_unread log n its.change its.logged its.number c.in_default.ensures.none)

pub compensation_cost-undo-requires : goal.compensation_cost-undo-requires
compensation_cost-undo-requires c x is =
    some_short c.in-Some.before.now (short_before (padded c.args.cut c.args.kept.now) c.number-item.result c.in-Some.id c.in-Some.before.now (fit_padded c.args.cut c.args.kept.now c.requires.fit) c.in-Some.ensures.some) c.len_of.result c.len_of.ensures x is

pub returns-then-not-holds-clause-refused : goal.returns-then-not-holds-clause-refused
returns-then-not-holds-clause-refused c =
    let log = (padded c.args.cut c.args.kept.now) in
    let t = c.args.seat.now.txn in
    let i = c.loop-number.number-index in
    let n = c.number-item.result in
    let xs = c.deref-number-items.result.now in
    let here : slice_get (reverse (map (λ (x : UnansweredChange). x.number) (unanswered t log))) i ≡ Some n =
    subst (λ (ns : List ℕ). slice_get ns i ≡ Some n) (c.deref-number-items.ensures.value ∙ told_behind c.args.cut c.args.kept.now t c.requires.some c.in_ok-to_be_undone_behind.field-0.items c.args.newest (c.in_ok-to_be_undone_behind.ensures.all c.requires.meant.0 t c.requires.some c.requires.meant.1 c.requires.whole) c.requires.newest)
    (slice_get_read xs (length xs) i n refl c.loop-number-test.true c.number-item.is) in
    let its = numbered_at log t i n here in
    let reads = reads_as log n c.in-Some.id c.in-Some.before.now its.change its.logged its.number c.in-Some.ensures.some in
    let so = c.loop-number.invariant in
    let cost : c.compensation_cost-undo.result ≡ compensation_cost its.change.before =
    c.compensation_cost-undo.ensures.cost c.in-Some.id c.in-Some.before.now 0 (sym c.len_of.ensures) ∙ sym (compensation_bytes c.in-Some.id c.in-Some.before.now 0) ∙ ap compensation_cost reads.before_is in
    let most = costs_most log t i its.change its.at in
    let stream = so.room.stream in
    let kept = so.room.kept_is in
    let reserved = so.room.reserved_is in
    let room = room_in c.loop-number.txns in
    elim (cases_lt room.stream_bytes (room.kept + room.reserved + c.compensation_cost-undo.result + LONGEST_FRAME)) [
      | inl less ↦ inr (refl, omega (arith, less, cost, most, stream, kept, reserved))
      | inr fits ↦ let yes : c.holds.result ≡ true = c.holds.ensures.1 fits in let clash : true ≡ false = sym yes ∙ c.if-not-holds.true in cc
    ]

pub overflow_cast-entry : goal.overflow_cast-entry
overflow_cast-entry c =
    let is = c.claim_after.ensures in
    let bytes = c.bytes_in.ensures in
    let short = short_before (padded c.args.cut c.args.kept.now) c.number-item.result c.in-Some.id c.in-Some.before.now (fit_padded c.args.cut c.args.kept.now c.requires.fit) c.in-Some.ensures.some in
    let before = c.loop-number.invariant.short c.in-Some.id in
    omega (arith, is, bytes, short, before)

pub restore_change-requires-clause-short : goal.restore_change-requires-clause-short
restore_change-requires-clause-short c =
    subst (λ (image : Image). image_len image ≤ MAX_RECORD_BYTES) (sym c.in_ok-copy_of.ensures)
    (short_before (padded c.args.cut c.args.kept.now) c.number-item.result c.in-Some.id c.in-Some.before.now (fit_padded c.args.cut c.args.kept.now c.requires.fit) c.in-Some.ensures.some)

pub loop-number-preserved : goal.loop-number-preserved
loop-number-preserved c =
    let log = (padded c.args.cut c.args.kept.now) in
    let t = c.args.seat.now.txn in
    let i = c.loop-number.number-index in
    let n = c.number-item.result in
    let xs = c.deref-number-items.result.now in
    let here : slice_get (reverse (map (λ (x : UnansweredChange). x.number) (unanswered t log))) i ≡ Some n =
    subst (λ (ns : List ℕ). slice_get ns i ≡ Some n) (c.deref-number-items.ensures.value ∙ told_behind c.args.cut c.args.kept.now t c.requires.some c.in_ok-to_be_undone_behind.field-0.items c.args.newest (c.in_ok-to_be_undone_behind.ensures.all c.requires.meant.0 t c.requires.some c.requires.meant.1 c.requires.whole) c.requires.newest)
    (slice_get_read xs (length xs) i n refl c.loop-number-test.true c.number-item.is) in
    let its = numbered_at log t i n here in
    let id = c.in-Some.id in
    let before = c.in-Some.before.now in
    let reads = reads_as log n id before its.change its.logged its.number c.in-Some.ensures.some in
    let short = short_before log n id before (fit_padded c.args.cut c.args.kept.now c.requires.fit) c.in-Some.ensures.some in
    let so = c.loop-number.invariant in
    let copy = c.in_ok-copy_of.ensures in
    let claim : c.claim_after.result ≡ max (image_len before) (unwrap_or (get rid_cmp c.loop-number.claims id) 0) = c.claim_after.ensures ∙ ap (λ (b : ℕ). max b (unwrap_or (get rid_cmp c.loop-number.claims id) 0)) c.bytes_in.ensures in
    let kept_claim : c.from.result ≡ max (image_len before) (unwrap_or (get rid_cmp c.loop-number.claims id) 0) = c.from.ensures ∙ claim in
    let cost : c.compensation_cost-undo.result ≡ compensation_cost its.change.before =
    c.compensation_cost-undo.ensures.cost id before 0 (sym c.len_of.ensures) ∙ sym (compensation_bytes id before 0) ∙ ap compensation_cost reads.before_is in
    let more = costs_then log t i its.change its.at in
    let fits = c.holds.ensures.0 c.if-not-holds.false in
    let stream = c.restore_change.ensures.stream in
    let kept = c.restore_change.ensures.kept in
    let reserved = c.in_ok-restore_change.ensures.reserved in
    record {
      seated = seat_kept c.args.seat.now t _ c.loop-number.txns c.restore_change.new.self c.in_ok-restore_change.ensures.noted (λ x y after. after.txn) so.seated;
      so_far = becomes_more log t i its.change its.at (txns_in c.args.txns.now) (txns_in c.loop-number.txns) (txns_in c.restore_change.new.self) c.transactions_are_apart.ensures.numbers so.so_far c.in_ok-restore_change.ensures.noted
          (λ j. record { number = sym its.number j; id = reads.id_is j; before = (copy ∙ reads.before_is) j })
          (claim ∙ (λ j. max (ap image_len (sym copy) j) (so.claims id j)));
      claims = claims_then log t i its.change its.at id before reads (get rid_cmp c.loop-number.claims) (get rid_cmp c.insert.new.self) c.from.result so.claims kept_claim c.in_ok-insert.ensures.updates.0;
      short = claims_short id (get rid_cmp c.loop-number.claims) (get rid_cmp c.insert.new.self) c.from.result (let was = so.short id in omega (arith, kept_claim, short, was)) so.short c.in_ok-insert.ensures.updates.0;
      next = c.restore_change.ensures.next ∙ so.next;
      room = record {
        stream = stream ∙ so.room.stream;
        kept_is = kept ∙ so.room.kept_is;
        reserved_is = let was = so.room.reserved_is in omega (arith, reserved, was, cost, more);
      };
      holds = omega (arith, fits, stream, kept, reserved);
    }

pub returns-clause-back : goal.returns-clause-back
returns-clause-back c =
    let log = (padded c.args.cut c.args.kept.now) in
    let t = c.args.seat.now.txn in
    let end = c.loop-number-test.false in
    let long = ap length (c.deref-number-items.ensures.value ∙ told_behind c.args.cut c.args.kept.now t c.requires.some c.in_ok-to_be_undone_behind.field-0.items c.args.newest (c.in_ok-to_be_undone_behind.ensures.all c.requires.meant.0 t c.requires.some c.requires.meant.1 c.requires.whole) c.requires.newest) in
    let many = as_many_numbers log t in
    becomes_all log t c.loop-number.number-index (txns_in c.args.txns.now) (txns_in c.loop-number.txns) (omega (arith, end, long, many)) c.loop-number.invariant.so_far

pub returns-clause-room : goal.returns-clause-room
returns-clause-room c =
    let log = (padded c.args.cut c.args.kept.now) in
    let t = c.args.seat.now.txn in
    let i = c.loop-number.number-index in
    let end = c.loop-number-test.false in
    let long = ap length (c.deref-number-items.ensures.value ∙ told_behind c.args.cut c.args.kept.now t c.requires.some c.in_ok-to_be_undone_behind.field-0.items c.args.newest (c.in_ok-to_be_undone_behind.ensures.all c.requires.meant.0 t c.requires.some c.requires.meant.1 c.requires.whole) c.requires.newest) in
    let many = as_many_numbers log t in
    let room = room_in c.args.txns.now in
    subst (λ (images : List (Rid × Image)). HasSums room.stream_bytes room.kept (room.reserved + compensation_costs images) (room_in c.loop-number.txns))
    (ap told_images (take_all i (changes_to_undo log t) (omega (arith, end, long, many))) ∙ images_to_undo log t) c.loop-number.invariant.room
