-- Replies to calls of a transaction, as events of the sessions with their room.
use Rattle.std.proofs.Common.{◌≡◌, ◌⊎◌, inl, inr, ◌+◌, ℕ, List, [], cond, Some, None, Ok, refl, sym, ap, length, arith}
use Rattle.std.proofs.lemmas.List.{length-map}
use Rattle.std.specs.Prelude.{◌==◌, IsSome}
use Rattle.std.specs.FinMap.{get}
use Rattle.shore_types.specs.Images.{Image}
use Rattle.shore_types.specs.Layout.{HasPage}
use Rattle.shore_types.specs.declared.ids.Rid.{Rid}
use Rattle.shore_types.specs.declared.layout.Geometry.{Geometry}
use Rattle.shore_types.specs.declared.locking.Granule.{Granule}
use Rattle.shore_types.specs.declared.locking.Mode.{Mode}
use Rattle.shore_model.specs.declared.calls.Answer.{Answer}
use Rattle.shore_model.specs.declared.calls.Answer.TheVariants.{Inserted}
use Rattle.shore_model.specs.declared.calls.Call.{Call}
use Rattle.shore_model.specs.declared.calls.Call.TheVariants as call
use Rattle.shore_model.specs.declared.log_records.LogRecord.{LogRecord}
use Rattle.shore_model.specs.declared.log_records.Payload.TheVariants as payload
use Rattle.shore_model.specs.Alone.{IsRight}
use Rattle.shore_model.specs.Logs.{previous_of}
use Rattle.laws_room.proofs.Costs.{change_bytes}
use Rattle.laws_room.specs.Claims.{SlotCounts}
use Rattle.laws_room.specs.Events.{EventFits}
use Rattle.laws_room.specs.LogRooms.{EventAdmits, change_cost, changed_room, undone_rooms}
use Rattle.laws_lives.proofs.Lists.{length-push}
use Rattle.laws_lives.specs.Logged.{and_compensations, and_record}
use Rattle.laws_lives.specs.RepliesInPlace.{Permit}
use Rattle.laws_lives.specs.SessionSteps.{GiveReply, IsInnerCall, IsOwn}
use Rattle.laws_lives.specs.Sessions.{SessionTxn, with_undo, reply_given}
use Rattle.laws_lives.specs.UndoLists.{MayGiveReply, UndoList, images_since, undo_after}
use Rattle.laws_calls.proofs.Links.{Goes, HasRoomAfter, Writes, same_room, ended_with}
use Rattle.laws_calls.proofs.Rooms.{cost_pushed}
use Rattle.laws_calls.specs.StateChanges.{MayChange, answered}
use Rattle.laws_calls.specs.States.{State, cost_of_log, log_room}
use Rattle.laws_calls.proofs.Sessions.{reply_seats}

pub as_many : (t : ℕ) (undo : UndoList) (xs : List SessionTxn) → length (with_undo t undo xs) ≡ length xs
as_many t undo xs = length-map xs (λ (a : SessionTxn). cond (a.txn == t) (record { session = a.session; txn = a.txn; undo = undo }) a)

module _ (g : Geometry) (s : State) (a : SessionTxn) where
  -- what an answer takes of slots and log
  pub record Takes (c : Call) (answer : Answer) (counts : SlotCounts) : Type 0 where
    pub fits : EventFits g.version s.sessions s.counts (GiveReply a c (Ok answer)) counts
    pub admits : EventAdmits s.sessions (GiveReply a c (Ok answer)) (log_room s)
    pub room : HasRoomAfter s (GiveReply a c (Ok answer)) (answered s a c answer counts)
    pub writes : Writes g s (answered s a c answer counts)

  pub get_takes : (id : Rid) (answer : Answer) → Takes (call.Get id) answer s.counts
  get_takes id answer = record { fits = refl; admits = tt; room = same_room s (answered s a (call.Get id) answer s.counts) (GiveReply a (call.Get id) (Ok answer)) refl refl refl; writes = inl (refl, refl) }

  pub get_for_update_takes : (id : Rid) (answer : Answer) → Takes (call.GetForUpdate id) answer s.counts
  get_for_update_takes id answer = record {
    fits = refl;
    admits = tt;
    room = same_room s (answered s a (call.GetForUpdate id) answer s.counts) (GiveReply a (call.GetForUpdate id) (Ok answer)) refl refl refl;
    writes = inl (refl, refl);
  }

  pub scan_takes : (store : ℕ) (answer : Answer) → Takes (call.Scan store) answer s.counts
  scan_takes store answer = record { fits = refl; admits = tt; room = same_room s (answered s a (call.Scan store) answer s.counts) (GiveReply a (call.Scan store) (Ok answer)) refl refl refl; writes = inl (refl, refl) }

  pub lock_takes : (at : Granule) (mode : Mode) (answer : Answer) → Takes (call.Lock at mode) answer s.counts
  lock_takes at mode answer = record { fits = refl; admits = tt; room = same_room s (answered s a (call.Lock at mode) answer s.counts) (GiveReply a (call.Lock at mode) (Ok answer)) refl refl refl; writes = inl (refl, refl) }

  pub try_lock_takes : (at : Granule) (mode : Mode) (answer : Answer) → Takes (call.TryLock at mode) answer s.counts
  try_lock_takes at mode answer = record {
    fits = refl;
    admits = tt;
    room = same_room s (answered s a (call.TryLock at mode) answer s.counts) (GiveReply a (call.TryLock at mode) (Ok answer)) refl refl refl;
    writes = inl (refl, refl);
  }

  pub savepoint_takes : (answer : Answer) → Takes call.Savepoint answer s.counts
  savepoint_takes answer = record { fits = refl; admits = tt; room = same_room s (answered s a call.Savepoint answer s.counts) (GiveReply a call.Savepoint (Ok answer)) refl refl refl; writes = inl (refl, refl) }

  -- a way back, once no image since its savepoint is left
  pub back_takes : (n : ℕ) (answer : Answer) → images_since a.undo n ≡ [] → Takes (call.BackTo n) answer s.counts
  back_takes n answer none =
      let same : and_compensations a.txn s.log (images_since a.undo n) ≡ s.log = ap (and_compensations a.txn s.log) none in
      record {
        fits = refl;
        admits = tt;
        room = record {
          room = log_room s;
          after = ap (λ (es : List (Rid × Image)). undone_rooms es (log_room s)) (sym none);
          kept = ap cost_of_log (sym same);
          stream = refl;
          last = ap length (sym same);
        };
        writes = inl (same, refl);
      }

  change_costs : (id : Rid) (image : Image)
      → cost_of_log s.log + change_cost (get s.sessions.records id) image ≡ cost_of_log (and_record a.txn s.log (payload.Change id (get s.sessions.records id) image))
  change_costs id image =
      let r : LogRecord = record { txn = a.txn; previous = previous_of a.txn s.log; payload = payload.Change id (get s.sessions.records id) image } in
      let cost = cost_pushed s.log r in
      let change = change_bytes id (get s.sessions.records id) image in
      omega arith

  module _ (id : Rid) (counts : SlotCounts) (inside : HasPage g id.page ⊎ IsSome (get s.sessions.records id)) where
    pub insert_takes : (store : ℕ) (bytes : List ℕ) → MayChange g.version s id (Some bytes) counts → Takes (call.Insert store bytes) (Inserted id) counts
    insert_takes store bytes may = record {
      fits = (may.fits, may.grows);
      admits = may.logs;
      room = record { room = changed_room (get s.sessions.records id) (Some bytes) (log_room s); after = refl; kept = change_costs id (Some bytes); stream = refl; last = sym (length-push s.log _) };
      writes = inr (inr (inl (record { txn = a.txn; id = id; image = Some bytes; log = refl; inside = inside; fits = may.fits; grows = may.grows })));
    }

    pub update_takes : (bytes : List ℕ) (answer : Answer) → MayChange g.version s id (Some bytes) counts → Takes (call.Update id bytes) answer counts
    update_takes bytes answer may = record {
      fits = (may.fits, may.grows);
      admits = may.logs;
      room = record { room = changed_room (get s.sessions.records id) (Some bytes) (log_room s); after = refl; kept = change_costs id (Some bytes); stream = refl; last = sym (length-push s.log _) };
      writes = inr (inr (inl (record { txn = a.txn; id = id; image = Some bytes; log = refl; inside = inside; fits = may.fits; grows = may.grows })));
    }

    pub delete_takes : (answer : Answer) → MayChange g.version s id None counts → Takes (call.Delete id) answer counts
    delete_takes answer may = record {
      fits = (may.fits, may.grows);
      admits = may.logs;
      room = record { room = changed_room (get s.sessions.records id) None (log_room s); after = refl; kept = change_costs id None; stream = refl; last = sym (length-push s.log _) };
      writes = inr (inr (inl (record { txn = a.txn; id = id; image = None; log = refl; inside = inside; fits = may.fits; grows = may.grows })));
    }

  -- an answer that its locks permit, that is right on the records in place, and that has its room
  pub reply_goes : IsOwn s.sessions a → (c : Call) → IsInnerCall c → (answer : Answer) (counts : SlotCounts) → Permit s.sessions.held a.txn c answer
      → IsRight s.sessions.records (length a.undo.marks) c answer → MayGiveReply a.undo c (Ok answer) → Takes c answer counts → Goes g s (GiveReply a c (Ok answer)) (answered s a c answer counts)
  reply_goes own c inner answer counts permit right may takes = record {
    moves = (own, inner, (permit, right), may, reply_seats s.sessions a c (Ok answer) inner (permit, right) (reply_given s.sessions a c (Ok answer)) refl);
    log = refl;
    durable = refl;
    stream = refl;
    waiting = refl;
    failed = refl;
    fits = takes.fits;
    admits = takes.admits;
    room = takes.room;
    writes = takes.writes;
    few = λ few.
        let undo = undo_after s.sessions.records a.undo c (Ok answer) in
        let same = as_many a.txn undo s.sessions.active in
        let ended = ap length (ended_with a.txn undo s.sessions.active s.sessions.resolving) in
        omega (arith, few, same, ended);
    numbers = λ most. most;
  }
