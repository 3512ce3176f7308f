use Rattle.std.proofs.Common.{◌≡◌, ◌<◌, ◌+◌, ◌-◌, ℕ, Some, inl, inr, refl, sym, ap, subst, ◌∙◌, length, map, drop, arith}
use Rattle.std.specs.Prelude.{slice_get}
use Rattle.std.proofs.lemmas.Option.{slice_get_read}
use Rattle.shore_dwrite.proofs.Moves.{if_err}
use Rattle.shore_model.specs.Logs.{HasNumbers}
use Rattle.laws_lives.specs.Doubts.{LoggedDoubt}
use Rattle.laws_lives.specs.Views.{IsAmong}
use Rattle.laws_lives.proofs.Lists.{recursion-at}
use Rattle.shore_txn.specs.Transactions.{txns_in}
use Rattle.shore_txn.specs.declared.log_room.LogRoom.{LogRoom}
use Rattle.shore_restart.specs.Doubts.{owed_in, reserved_told}
use Rattle.shore_restart.specs.GivenBack.{AreGivenBack}
use Rattle.shore_restart.proofs.DoubtsBack.{back_more, later_apart, nothing_owed, number_in, owed_from, owed_more, owed_most, starts_empty}
use Rattle.shore_restart.proofs.DoubtsNamed.{as_many, doubt_among, doubt_of_entry, doubts_once, entry_doubts, entry_runs, number_of_one}
use Rattle.shore_analysis.specs.Padded.{padded}
use Rattle.shore_analysis.specs.Doubts.{doubts_left}
use Rattle.shore_restart.proofs.doubts.txns_of.Goals as goal

pub loop-index-init : goal.loop-index-init
loop-index-init c =
    let log = (padded c.args.cut c.args.kept.now) in
    let es = c.args.doubts.now in
    let long = as_many c.requires.meant.0 c.args.cut c.args.kept.now c.requires.meant.1 es c.requires.doubts in
    let room = c.new-txns.ensures.room in
    let owed : owed_from log (length es) ≡ 0 = nothing_owed log (length es) (omega (arith, long)) in
    let frame = c.requires.frame in
    record {
      within = omega arith;
      back = starts_empty log (length es) (txns_in c.new-txns.result) (omega (arith, long)) c.new-txns.ensures.none;
      next = c.new-txns.ensures.next ∙ c.next.view_is;
      room = record {
        stream = ap (λ (r : LogRoom). r.stream_bytes) room;
        kept_is = ap (λ (r : LogRoom). r.kept) room;
        reserved_is = ap (λ (r : LogRoom). r.reserved) room ∙ c.requires.unreserved ∙ sym owed;
      };
      holds = omega (arith, owed, frame);
    }

pub restore_txn-requires-clause-doubt : goal.restore_txn-requires-clause-doubt
restore_txn-requires-clause-doubt c =
    let es = c.args.doubts.now in
    let j = c.loop-index.index - 1 in
    let e = c.index-doubts-index.result in
    let within : j < length es = omega (arith, c.loop-index.invariant.within, c.loop-index-test.true) in
    let here : slice_get es j ≡ Some e = slice_get_read es (length es) j e refl within c.index-doubts-index.is in
    entry_doubts c.requires.meant.0 c.args.cut c.args.kept.now c.requires.meant.1 es c.requires.doubts j e here

pub restore_txn-requires-clause-runs : goal.restore_txn-requires-clause-runs
restore_txn-requires-clause-runs c =
    let es = c.args.doubts.now in
    let j = c.loop-index.index - 1 in
    let e = c.index-doubts-index.result in
    let within : j < length es = omega (arith, c.loop-index.invariant.within, c.loop-index-test.true) in
    let here : slice_get es j ≡ Some e = slice_get_read es (length es) j e refl within c.index-doubts-index.is in
    entry_runs c.requires.meant.0 c.args.cut c.args.kept.now c.requires.meant.1 es c.requires.doubts j e here

pub restore_txn-requires-clause-numbers : goal.restore_txn-requires-clause-numbers
restore_txn-requires-clause-numbers c =
    let es = c.args.doubts.now in
    let j = c.loop-index.index - 1 in
    let e = c.index-doubts-index.result in
    let within : j < length es = omega (arith, c.loop-index.invariant.within, c.loop-index-test.true) in
    recursion-at (HasNumbers (padded c.args.cut c.args.kept.now)) es j e c.requires.doubts.numbers (slice_get_read es (length es) j e refl within c.index-doubts-index.is)

pub restore_txn-requires-clause-below : goal.restore_txn-requires-clause-below
restore_txn-requires-clause-below c =
    let g = c.requires.meant.0 in
    let log = (padded c.args.cut c.args.kept.now) in
    let es = c.args.doubts.now in
    let j = c.loop-index.index - 1 in
    let e = c.index-doubts-index.result in
    let within : j < length es = omega (arith, c.loop-index.invariant.within, c.loop-index-test.true) in
    let here : slice_get es j ≡ Some e = slice_get_read es (length es) j e refl within c.index-doubts-index.is in
    let doubts = entry_doubts g c.args.cut c.args.kept.now c.requires.meant.1 es c.requires.doubts j e here in
    let less = (number_of_one g c.args.cut c.args.kept.now c.requires.meant.1 e.txn doubts (entry_runs g c.args.cut c.args.kept.now c.requires.meant.1 es c.requires.doubts j e here)).below c.args.next c.requires.next in
    let next = c.loop-index.invariant.next in
    omega (arith, less, next)

pub restore_txn-requires-clause-new : goal.restore_txn-requires-clause-new
restore_txn-requires-clause-new c t among same =
    let g = c.requires.meant.0 in
    let log = (padded c.args.cut c.args.kept.now) in
    let es = c.args.doubts.now in
    let ds = doubts_left log in
    let j = c.loop-index.index - 1 in
    let e = c.index-doubts-index.result in
    let within : j < length es = omega (arith, c.loop-index.invariant.within, c.loop-index-test.true) in
    let here : slice_get es j ≡ Some e = slice_get_read es (length es) j e refl within c.index-doubts-index.is in
    let its = doubt_of_entry g c.args.cut c.args.kept.now c.requires.meant.1 es c.requires.doubts j e here in
    let place : c.loop-index.index ≡ j + 1 = omega (arith, c.loop-index-test.true) in
    let back = subst (λ (k : ℕ). AreGivenBack log (drop k ds) (txns_in c.loop-index.txns)) place c.loop-index.invariant.back in
    later_apart ds j its.doubt (doubts_once g c.args.cut c.args.kept.now c.requires.meant.1) its.at
    (subst (λ (n : ℕ). IsAmong n (map (λ (x : LoggedDoubt). x.txn) (drop (j + 1) ds))) (same ∙ sym its.txn) (number_in log (drop (j + 1) ds) (txns_in c.loop-index.txns) back t among))

pub loop-index-preserved : goal.loop-index-preserved
loop-index-preserved c =
    let g = c.requires.meant.0 in
    let log = (padded c.args.cut c.args.kept.now) in
    let es = c.args.doubts.now in
    let ds = doubts_left log in
    let so = c.loop-index.invariant in
    let j = c.loop-index.index - 1 in
    let e = c.index-doubts-index.result in
    let within : j < length es = omega (arith, so.within, c.loop-index-test.true) in
    let here : slice_get es j ≡ Some e = slice_get_read es (length es) j e refl within c.index-doubts-index.is in
    let its = doubt_of_entry g c.args.cut c.args.kept.now c.requires.meant.1 es c.requires.doubts j e here in
    let place : c.loop-index.index ≡ j + 1 = omega (arith, c.loop-index-test.true) in
    let back = subst (λ (k : ℕ). AreGivenBack log (drop k ds) (txns_in c.loop-index.txns)) place so.back in
    let (d, t, among, same, given, is) = c.in_ok-restore_txn.ensures.back in
    let own = ap (λ (u : ℕ). owed_in log u) its.txn in
    let more = owed_more log j its.doubt its.at in
    let there = ap (owed_from log) place in
    let room = c.in_ok-restore_txn.ensures.room in
    let holds = c.in_ok-restore_txn.ensures.holds in
    let stream = room.stream in
    let kept = room.kept_is in
    let reserved = room.reserved_is in
    let stream_was = so.room.stream in
    let kept_was = so.room.kept_is in
    let reserved_was = so.room.reserved_is in
    record {
      within = omega (arith, within);
      back = back_more log ds j its.doubt d t (txns_in c.loop-index.txns) (txns_in c.restore_txn.new.txns) (doubts_once g c.args.cut c.args.kept.now c.requires.meant.1) its.at
          (doubt_among g c.args.cut c.args.kept.now c.requires.meant.1 es c.requires.doubts j e here) among (same ∙ sym its.txn) given is back;
      next = c.restore_txn.ensures.next ∙ so.next;
      room = record {
        stream = stream ∙ stream_was;
        kept_is = kept ∙ kept_was;
        reserved_is = omega (arith, reserved, reserved_was, own, more, there);
      };
      holds = omega (arith, holds, stream, kept, reserved, stream_was, kept_was, reserved_was, own, more, there);
    }

pub returns-in_err-restore_txn-clause-refused : goal.returns-in_err-restore_txn-clause-refused
returns-in_err-restore_txn-clause-refused c =
    let g = c.requires.meant.0 in
    let log = (padded c.args.cut c.args.kept.now) in
    let es = c.args.doubts.now in
    let so = c.loop-index.invariant in
    let j = c.loop-index.index - 1 in
    let e = c.index-doubts-index.result in
    let within : j < length es = omega (arith, so.within, c.loop-index-test.true) in
    let here : slice_get es j ≡ Some e = slice_get_read es (length es) j e refl within c.index-doubts-index.is in
    let its = doubt_of_entry g c.args.cut c.args.kept.now c.requires.meant.1 es c.requires.doubts j e here in
    let place : c.loop-index.index ≡ j + 1 = omega (arith, c.loop-index-test.true) in
    let own = ap (λ (u : ℕ). owed_in log u) its.txn in
    let more = owed_more log j its.doubt its.at in
    let most = owed_most log j in
    let there = ap (owed_from log) place in
    let stream_was = so.room.stream in
    let kept_was = so.room.kept_is in
    let reserved_was = so.room.reserved_is in
    if_err c.from_residual.result c.from_residual.ensures.1 (λ error same. elim c.in_err-restore_txn.ensures.refused [
      | inl memory ↦ inl (same ∙ memory)
      | inr full ↦ inr (same ∙ full.0, (let less = full.1 in omega (arith, less, stream_was, kept_was, reserved_was, own, more, most, there)))
    ])

pub returns-clause-back : goal.returns-clause-back
returns-clause-back c =
    let none : c.loop-index.index ≡ 0 = omega (arith, c.loop-index-test.false) in
    subst (λ (k : ℕ). AreGivenBack (padded c.args.cut c.args.kept.now) (drop k (doubts_left (padded c.args.cut c.args.kept.now))) (txns_in c.loop-index.txns)) none c.loop-index.invariant.back

pub returns-clause-next : goal.returns-clause-next
returns-clause-next c = c.loop-index.invariant.next

pub returns-clause-room : goal.returns-clause-room
returns-clause-room c =
    let none : c.loop-index.index ≡ 0 = omega (arith, c.loop-index-test.false) in
    let so = c.loop-index.invariant.room in
    record { stream = so.stream; kept_is = so.kept_is; reserved_is = so.reserved_is ∙ ap (owed_from (padded c.args.cut c.args.kept.now)) none }

pub returns-clause-holds : goal.returns-clause-holds
returns-clause-holds c =
    let none : c.loop-index.index ≡ 0 = omega (arith, c.loop-index-test.false) in
    let holds = c.loop-index.invariant.holds in
    let all : owed_from (padded c.args.cut c.args.kept.now) c.loop-index.index ≡ reserved_told (padded c.args.cut c.args.kept.now) = ap (owed_from (padded c.args.cut c.args.kept.now)) none in
    omega (arith, holds, all)
