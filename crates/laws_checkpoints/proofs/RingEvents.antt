-- Each event of the sessions is one of the steps of a ring's room, or none; and what the records of a checkpoint cost.
use Rattle.std.proofs.Common.{◌≡◌, ◌⊎◌, inl, inr, ⊎_elim, ◌<◌, ◌≤◌, ◌+◌, ◌-◌, ℕ, zero, suc, List, [], ◌∷◌, ◌++◌, true, Ok, Err, Some, None, refl, sym, ap, subst, ◌∙◌, length, drop, arith}
use Rattle.std.specs.Prelude.{◌*◌}
use Rattle.std.specs.FinMap.{get}
use Rattle.shore_types.specs.Images.{Image}
use Rattle.shore_types.specs.declared.ids.Rid.{Rid}
use Rattle.shore_types.specs.declared.layout.TheConstants.{ENDING_COST}
use Rattle.shore_model.specs.declared.calls.Answer.{Answer}
use Rattle.shore_model.specs.declared.calls.Answer.TheVariants.{Inserted}
use Rattle.shore_model.specs.declared.calls.Call.{Call}
use Rattle.shore_model.specs.declared.calls.Call.TheVariants as call
use Rattle.shore_model.specs.declared.log_records.DirtyPage.{DirtyPage}
use Rattle.shore_model.specs.declared.log_records.LogTxn.{LogTxn}
use Rattle.shore_model.specs.declared.log_records.Payload.TheVariants.{Anchor, CheckpointEnd}
use Rattle.shore_logrec.specs.Text.{cost_of}
use Rattle.shore_logrec.proofs.TextLengths.{length-checkpoint_text}
use Rattle.laws_lives.specs.SessionSteps.{AnswerAbort, AnswerInDoubt, AnswerPrepare, AnswerResolve, AppendCommit, AppendPrepare, AppendResolve, AppendRollback, Ask, BeginTxn, Doom, EndRollback, GiveReply, MoveLocks, PutBack, RefuseCall, SessionEvent, StepsTo}
use Rattle.laws_lives.specs.Sessions.{PreparedTxn, SessionTxn, Sessions}
use Rattle.laws_lives.specs.UndoLists.{images_since, mark_of}
use Rattle.laws_lives.specs.Views.{IsAmong}
use Rattle.laws_room.specs.LogRooms.{Admits, AnswerAdmits, EventAdmits, HasLogRoom, LogRoom, RoomAfter, answered_room, change_cost, changed_room, compensation_cost, compensation_costs, ended_room, left_room, owed, owed_by_all, prepare_cost, undone_rooms}
use Rattle.laws_checkpoints.specs.RingRooms.{ANCHOR_COST, AdmitsCalls, HasRingRoom, LogCalls, PayRecords, RingLeadsTo, RingRoom, RingStep, end_cost}
use Rattle.laws_checkpoints.proofs.RingRooms.{ring_step}

-- ---- sums

costs_in : (es : List (Rid × Image)) (n : ℕ) → compensation_costs (drop n es) ≤ compensation_costs es
costs_in es zero = omega arith
costs_in [] (suc n) = omega arith
costs_in (e ∷ es) (suc n) = let rest = costs_in es n in omega arith

last_cost : (kept : List (Rid × Image)) (e : Rid × Image) → compensation_cost e.1 ≤ compensation_costs (kept ++ e ∷ [])
last_cost [] e = omega arith
last_cost (k ∷ kept) e = let rest = last_cost kept e in omega arith

owed_in : (a : SessionTxn) (undos : List SessionTxn) → IsAmong a undos → owed a ≤ owed_by_all undos
owed_in a [] = λ h. absurd h
owed_in a (x ∷ undos) = λ h. ⊎_elim (λ here. let same = ap owed here in omega arith) (λ later. let rest = owed_in a undos later in omega arith) h

one_prepared : (p : PreparedTxn) (ps : List PreparedTxn) → IsAmong p ps → 0 < length ps
one_prepared p [] = λ h. absurd h
one_prepared p (q ∷ ps) = λ h. omega arith

each_costs : (es : List (Rid × Image)) → length es ≤ compensation_costs es
each_costs [] = omega arith
each_costs (e ∷ es) = let rest = each_costs es in omega arith

-- a room by its numbers
fields : (room : LogRoom) (k k' r r' n n' : ℕ) → k ≡ k' → r ≡ r' → n ≡ n' → record room { kept = k; reserved = r; last_lsn = n } ≡ record room { kept = k'; reserved = r'; last_lsn = n' }
fields room k k' r r' n n' p q s = cc

-- the room once these are undone
undone_is : (es : List (Rid × Image)) (room : LogRoom)
    → undone_rooms es room ≡ record room { kept = room.kept + compensation_costs es; reserved = room.reserved - compensation_costs es; last_lsn = room.last_lsn + length es }
undone_is [] room = fields room room.kept (room.kept + 0) room.reserved (room.reserved - 0) room.last_lsn (room.last_lsn + 0) (omega arith) (omega arith) (omega arith)
undone_is (e ∷ es) room = ap (λ (x : LogRoom). record x { kept = x.kept + compensation_cost e.1; reserved = x.reserved - compensation_cost e.1; last_lsn = x.last_lsn + 1 }) (undone_is es room)
    ∙ fields room (room.kept + compensation_costs es + compensation_cost e.1) (room.kept + (compensation_cost e.1 + compensation_costs es))
    (room.reserved - compensation_costs es - compensation_cost e.1) (room.reserved - (compensation_cost e.1 + compensation_costs es))
    (room.last_lsn + length es + 1) (room.last_lsn + suc (length es)) (omega arith) (omega arith) (omega arith)

-- ---- events

-- the room goes on by a step, or stays
abbrev pub GoesByStep : RingRoom → LogRoom → Type 0
GoesByStep r later = (later ≡ r.room) ⊎ ((step : RingStep) × RingLeadsTo r step (record r { room = later }))

module _ (r : RingRoom) (later : LogRoom) where
  by_calls : (cost more records : ℕ) → AdmitsCalls r.room cost more records
      → later ≡ record r.room { kept = r.room.kept + cost; reserved = r.room.reserved + more; last_lsn = r.room.last_lsn + records } → GoesByStep r later
  by_calls cost more records admits is = inr (LogCalls cost more records, (admits, ap (λ (x : LogRoom). record r { room = x }) is))

  by_pay : (cost freed records : ℕ) → cost ≤ freed → freed ≤ r.room.reserved → records ≤ cost
      → later ≡ record r.room { kept = r.room.kept + cost; reserved = r.room.reserved - freed; last_lsn = r.room.last_lsn + records } → GoesByStep r later
  by_pay cost freed records le within each is = inr (PayRecords cost freed records, (le, within, each, ap (λ (x : LogRoom). record r { room = x }) is))

  -- a record that is asked for, and what it reserves
  by_one : (cost more : ℕ) → 0 < cost → Admits r.room (cost + more) → later ≡ record r.room { kept = r.room.kept + cost; reserved = r.room.reserved + more; last_lsn = r.room.last_lsn + 1 } → GoesByStep r later
  by_one cost more some admits is = let few = admits.0 in let fits = admits.1 in by_calls cost more 1 (record { numbers = omega arith; fits = omega arith; each = omega arith }) is

module _ (s : Sessions) (r : RingRoom) (h : HasLogRoom 0 (length s.prepared) s.active r.room) (later : LogRoom) where
  reserved_is : r.room.reserved ≡ owed_by_all s.active + ENDING_COST * length s.prepared
  reserved_is = h.sum

  -- these Compensations, and with them as much more
  by_undo : (a : SessionTxn) → IsAmong a s.active → (es : List (Rid × Image)) → compensation_costs es ≤ compensation_costs a.undo.images → later ≡ undone_rooms es r.room → GoesByStep r later
  by_undo a m es le is =
      let owes = owed_in a s.active m in
      let sum = reserved_is in
      by_pay r later (compensation_costs es) (compensation_costs es) (length es) (omega arith) (omega arith) (each_costs es) (is ∙ undone_is es r.room)

  -- .. and an ending
  by_rollback : (a : SessionTxn) → IsAmong a s.active → later ≡ ended_room ENDING_COST (undone_rooms a.undo.images r.room) → GoesByStep r later
  by_rollback a m is =
      let es = a.undo.images in
      let owes = owed_in a s.active m in
      let sum = reserved_is in
      let each = each_costs es in
      by_pay r later (compensation_costs es + ENDING_COST) (compensation_costs es + ENDING_COST) (length es + 1) (omega arith) (omega arith) (omega arith)
      (is ∙ ap (λ (x : LogRoom). ended_room ENDING_COST x) (undone_is es r.room)
      ∙ fields r.room (r.room.kept + compensation_costs es + ENDING_COST) (r.room.kept + (compensation_costs es + ENDING_COST))
      (r.room.reserved - compensation_costs es - ENDING_COST) (r.room.reserved - (compensation_costs es + ENDING_COST))
      (r.room.last_lsn + length es + 1) (r.room.last_lsn + (length es + 1)) (omega arith) (omega arith) (omega arith))

  by_leave : (a : SessionTxn) → IsAmong a s.active → later ≡ left_room ENDING_COST (undone_rooms a.undo.images r.room) → GoesByStep r later
  by_leave a m is =
      let es = a.undo.images in
      let owes = owed_in a s.active m in
      let sum = reserved_is in
      by_pay r later (compensation_costs es) (compensation_costs es + ENDING_COST) (length es) (omega arith) (omega arith) (each_costs es)
      (is ∙ ap (λ (x : LogRoom). left_room ENDING_COST x) (undone_is es r.room)
      ∙ fields r.room (r.room.kept + compensation_costs es) (r.room.kept + compensation_costs es)
      (r.room.reserved - compensation_costs es - ENDING_COST) (r.room.reserved - (compensation_costs es + ENDING_COST))
      (r.room.last_lsn + length es) (r.room.last_lsn + length es) refl (omega arith) refl)

  by_change : (id : Rid) (image : Image) → Admits r.room (change_cost (get s.records id) image + compensation_cost (get s.records id)) → later ≡ changed_room (get s.records id) image r.room → GoesByStep r later
  by_change id image admits is = by_one r later (change_cost (get s.records id) image) (compensation_cost (get s.records id)) (omega arith) admits is

  by_insert : (a : SessionTxn) (store : ℕ) (bytes : List ℕ) (answer : Answer) → AnswerAdmits s.records (call.Insert store bytes) answer r.room
      → later ≡ answered_room s.records a (call.Insert store bytes) answer r.room → GoesByStep r later
  by_insert a store bytes (Inserted id) admits is = by_change id (Some bytes) admits is
  by_insert a store bytes _ admits is = inl is

  by_answer : (a : SessionTxn) → IsAmong a s.active → (c : Call) (answer : Answer) → AnswerAdmits s.records c answer r.room → later ≡ answered_room s.records a c answer r.room → GoesByStep r later
  by_answer a m (call.Insert store bytes) answer admits is = by_insert a store bytes answer admits is
  by_answer a m (call.Update id bytes) answer admits is = by_change id (Some bytes) admits is
  by_answer a m (call.Delete id) answer admits is = by_change id None admits is
  by_answer a m (call.BackTo n) answer admits is = by_undo a m (images_since a.undo n) (costs_in a.undo.images (mark_of a.undo n)) is
  by_answer a m _ answer admits is = inl is

  pub by_event : (e : SessionEvent) (new : Sessions) → StepsTo s e new → EventAdmits s e r.room → RoomAfter s e r.room later → GoesByStep r later
  by_event (MoveLocks held) new moves admits is = inl is
  by_event (BeginTxn session) new moves admits is =
      let few = admits.0 in
      let fits = admits.1 in
      by_calls r later 0 ENDING_COST 0 (record { numbers = omega arith; fits = omega arith; each = omega arith })
      (is ∙ fields r.room r.room.kept (r.room.kept + 0) (r.room.reserved + ENDING_COST) (r.room.reserved + ENDING_COST) r.room.last_lsn (r.room.last_lsn + 0) (omega arith) refl (omega arith))
  by_event (GiveReply a c (Ok answer)) new moves admits is = by_answer a moves.0.0 c answer admits is
  by_event (GiveReply a c (Err fault)) new moves admits is = inl is
  by_event (AppendCommit a ticket) new moves admits is =
      let owes = owed_in a s.active moves.0.0 in
      let sum = reserved_is in
      by_pay r later ENDING_COST (owed a) 1 (omega arith) (omega arith) (omega arith) is
  by_event (PutBack a kept e b) new moves admits is =
      let owes = owed_in a s.active moves.0.0 in
      let sum = reserved_is in
      let one = last_cost kept e in
      let images = ap compensation_costs moves.1 in
      by_pay r later (compensation_cost e.1) (compensation_cost e.1) 1 (omega arith) (omega arith) (omega arith) is
  by_event (Doom a) new moves admits is = inl is
  by_event (AnswerAbort a) new moves admits is = ⊎_elim (by_rollback a moves.0.0) (by_leave a moves.0.0) is
  by_event (Ask ticket durable) new moves admits is = inl is
  by_event (RefuseCall session t c fault) new moves admits is = inl is
  by_event (AppendPrepare a global granules) new moves admits is = by_one r later (prepare_cost global granules) ENDING_COST (omega arith) admits is
  by_event (AnswerPrepare session t global) new moves admits is = inl is
  by_event (AppendResolve a global) new moves admits is =
      let owes = owed_in a s.active moves.0 in
      let some = one_prepared record { txn = a.txn; global = global; answered = true } s.prepared moves.2 in
      let sum = reserved_is in
      by_pay r later ENDING_COST (owed a + ENDING_COST) 1 (omega arith) (omega arith) (omega arith) is
  by_event (AppendRollback a global) new moves admits is =
      let owes = owed_in a s.active moves.0 in
      let sum = reserved_is in
      by_pay r later ENDING_COST ENDING_COST 1 (omega arith) (omega arith) (omega arith) is
  by_event (EndRollback a) new moves admits is = by_rollback a moves.0.0 is
  by_event (AnswerResolve session b) new moves admits is = inl is
  by_event (AnswerInDoubt session t pairs) new moves admits is = inl is

  pub event_ring : (e : SessionEvent) (new : Sessions) → HasRingRoom r → StepsTo s e new → EventAdmits s e r.room → RoomAfter s e r.room later → HasRingRoom (record r { room = later })
  event_ring e new ring moves admits is = ⊎_elim
      (λ stays. subst (λ x. HasRingRoom (record r { room = x })) (sym stays) ring)
      (λ step. ring_step r step.0 (record r { room = later }) ring step.1)
      (by_event e new moves admits is)

-- ---- what the records of a checkpoint cost

pub end_bytes : (begin next : ℕ) (txns : List LogTxn) (dirty : List DirtyPage) → cost_of (CheckpointEnd begin next txns dirty) ≡ end_cost (length txns) (length dirty)
end_bytes begin next txns dirty = omega (arith, length-checkpoint_text begin next txns dirty)

pub anchor_bytes : (checkpoint tail : ℕ) → cost_of (Anchor checkpoint tail) ≡ ANCHOR_COST
anchor_bytes checkpoint tail = refl
