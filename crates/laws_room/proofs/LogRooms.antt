-- The log keeps room for the undo and the ending of each transaction.
use Rattle.std.proofs.Common.{◌≡◌, ⊎_elim, inl, inr, true, false, cond, ◌+◌, ◌≤◌, ℕ, suc, List, Option, [], ◌∷◌, ◌++◌, drop, take, Some, None, Ok, Err, refl, sym, ap, subst, ◌∙◌, arith}
use Rattle.std.specs.FinMap.{get}
use Rattle.std.proofs.lemmas.List.{append-nil, append_assoc, take-append-drop}
use Rattle.shore_types.specs.declared.ids.Rid.{Rid}
use Rattle.std.specs.Prelude.{◌==◌, ◌*◌, length, map, not}
use Rattle.std.proofs.lemmas.Bool.{eq-eqb, eqb-true}
use Rattle.shore_types.specs.declared.locking.Granule.{Granule}
use Rattle.laws_lives.proofs.Lists.{among_append, length-push, map-push}
use Rattle.laws_lives.proofs.Steps.{answered_txns}
use Rattle.laws_room.specs.LogRooms.{Admits, AnswerAdmits, EventAdmits, HasLogRoom, LogRoom, RoomAfter, Takes, TurnsTake, answered_room, begun_room, change_cost, changed_room, compensation_cost, compensation_costs, ended_room, left_room, owed, owed_by_all, prepare_cost, prepared_room, undone_room, undone_rooms}
use Rattle.shore_model.specs.declared.rollbacks.Rollback.{Rollback}
use Rattle.shore_model.specs.declared.rollbacks.Rollback.TheVariants.{Whole}
use Rattle.laws_lives.specs.SessionSteps.{AnswerAbort, AnswerInDoubt, AnswerPrepare, AnswerResolve, AppendCommit, AppendPrepare, AppendResolve, AppendRollback, Ask, BeginTxn, Doom, EndRollback, GiveReply, MoveLocks, PutBack, RefuseCall, SessionEvent, StepsTo}
use Rattle.laws_lives.specs.Sessions.{EachOnce, PreparedTxn, SessionTxn, Sessions, in_doubt_of, txns_of, with_answered, with_undo, without_prepared, without_txn}
use Rattle.laws_lives.specs.UndoLists.{UndoList, mark_of, marks_kept, nothing_to_undo, undo_after_answer, undo_rolled, with_before_image}
use Rattle.laws_lives.specs.Views.{IsAmong}
use Rattle.shore_types.specs.declared.layout.TheConstants.{ENDING_COST, GREATEST_CHECKPOINT, LONGEST_FRAME}
use Rattle.shore_model.specs.declared.calls.Answer.{Answer}
use Rattle.shore_model.specs.declared.calls.Answer.TheVariants.{Inserted}
use Rattle.shore_model.specs.declared.calls.Call.{Call}
use Rattle.shore_model.specs.declared.calls.Call.TheVariants as call
use Rattle.shore_types.specs.Images.{Image}
use Rattle.laws_lives.proofs.Members.{txns_with}
use Rattle.laws_room.proofs.Lists.{IsSplit, split, with_its}
use Rattle.laws_room.proofs.Undone.{new_among, with_twice, without_with}

costs_append : (xs ys : List (Rid × Image)) → compensation_costs (xs ++ ys) ≡ compensation_costs xs + compensation_costs ys
costs_append [] ys = omega arith
costs_append (x ∷ xs) ys = let h = costs_append xs ys in omega arith

costs_push : (xs : List (Rid × Image)) (e : Rid × Image) → compensation_costs (xs ++ e ∷ []) ≡ compensation_costs xs + compensation_cost e.1
costs_push xs e = let h = costs_append xs (e ∷ []) in omega arith

owed_append : (xs ys : List SessionTxn) → owed_by_all (xs ++ ys) ≡ owed_by_all xs + owed_by_all ys
owed_append [] ys = omega arith
owed_append (x ∷ xs) ys = let h = owed_append xs ys in omega arith

module _ {undos : List SessionTxn} {a : SessionTxn} (s : IsSplit undos a) where
  owed_whole : owed_by_all undos ≡ owed_by_all s.front + (owed a + owed_by_all s.back)
  owed_whole = ap owed_by_all s.whole ∙ owed_append s.front (a ∷ s.back)

  -- one transaction with another undo list
  owed_with : (undo : UndoList)
      → owed_by_all (with_undo a.txn undo undos) + compensation_costs a.undo.images ≡ owed_by_all undos + compensation_costs undo.images
  owed_with undo =
      let new : owed_by_all (with_undo a.txn undo undos) ≡ owed_by_all s.front + (owed (with_its a undo) + owed_by_all s.back) =
      ap owed_by_all (s.with_it undo) ∙ owed_append s.front (with_its a undo ∷ s.back) in
      let old = owed_whole in
      omega arith

  owed_without : owed_by_all (without_txn a.txn undos) + owed a ≡ owed_by_all undos
  owed_without =
      let new : owed_by_all (without_txn a.txn undos) ≡ owed_by_all s.front + owed_by_all s.back = ap owed_by_all s.left_out ∙ owed_append s.front s.back in
      let old = owed_whole in
      omega arith

module _ (spare doubts : ℕ) (undos : List SessionTxn) (room : LogRoom) (h : HasLogRoom spare doubts undos room) where
  pub begun_has : spare ≤ LONGEST_FRAME + GREATEST_CHECKPOINT → (a : SessionTxn) → a.undo.images ≡ [] → Admits room ENDING_COST
      → HasLogRoom spare doubts (a ∷ undos) (begun_room room)
  begun_has within a empty admits =
      let none : compensation_costs a.undo.images ≡ 0 = ap compensation_costs empty in
      let sum = h.sum in
      let fits = admits.1 in
      let few = admits.0 in
      let short = h.short in
      record { sum = omega arith; fits = omega arith; lsns = omega arith; short = omega arith }

  -- a Prepare asks for its record and for an ending more
  pub prepared_has : spare ≤ LONGEST_FRAME + GREATEST_CHECKPOINT → (global : List ℕ) (granules : List Granule)
      → Admits room (prepare_cost global granules + ENDING_COST) → HasLogRoom spare (doubts + 1) undos (prepared_room global granules room)
  prepared_has within global granules admits =
      let sum = h.sum in
      let fits = admits.1 in
      let few = admits.0 in
      let short = h.short in
      record { sum = omega arith; fits = omega arith; lsns = omega arith; short = omega arith }

  module _ (once : EachOnce (txns_of undos)) (a : SessionTxn) (m : IsAmong a undos) where
    s : IsSplit undos a
    s = split undos a once m

    pub changed_has : spare ≤ LONGEST_FRAME + GREATEST_CHECKPOINT → (undo : UndoList) (id : Rid) (before image : Image)
        → undo.images ≡ a.undo.images ++ (id, before) ∷ []
        → Admits room (change_cost before image + compensation_cost before)
        → HasLogRoom spare doubts (with_undo a.txn undo undos) (changed_room before image room)
    changed_has within undo id before image is admits =
        let one : compensation_costs undo.images ≡ compensation_costs a.undo.images + compensation_cost before = ap compensation_costs is
        ∙ costs_push a.undo.images (id, before) in
        let more = owed_with s undo in
        let sum = h.sum in
        let fits = admits.1 in
        let few = admits.0 in
        let short = h.short in
        record { sum = omega arith; fits = omega arith; lsns = omega arith; short = omega arith }

    -- a Compensation uses what was reserved for it
    pub undone_takes : (kept : List (Rid × Image)) (e : Rid × Image) (marks : List ℕ) (rolling : Option Rollback) → a.undo.images ≡ kept ++ e ∷ []
        → Takes spare room (compensation_cost e.1) × HasLogRoom spare doubts (with_undo a.txn record { images = kept; marks = marks; rolling = rolling } undos) (undone_room e.1 room)
    undone_takes kept e marks rolling is =
        let one : compensation_costs a.undo.images ≡ compensation_costs kept + compensation_cost e.1 = ap compensation_costs is ∙ costs_push kept e in
        let less = owed_with s record { images = kept; marks = marks; rolling = rolling } in
        let whole = owed_whole s in
        let sum = h.sum in
        let fits = h.fits in
        let lsns = h.lsns in
        let short = h.short in
        ((omega arith, omega arith, omega arith), record { sum = omega arith; fits = omega arith; lsns = omega arith; short = omega arith })

    -- so does an ending
    pub ended_takes : Takes spare room ENDING_COST × HasLogRoom spare doubts (without_txn a.txn undos) (ended_room (owed a) room) × HasLogRoom spare doubts (without_txn a.txn undos) (left_room (owed a) room)
    ended_takes =
        let less = owed_without s in
        let sum = h.sum in
        let fits = h.fits in
        let lsns = h.lsns in (
          (omega arith, omega arith, omega arith),
          record { sum = omega arith; fits = omega arith; lsns = omega arith; short = omega arith },
          record { sum = omega arith; fits = omega arith; lsns = omega arith; short = omega arith },
        )

    -- so does the Commit of one in doubt
    pub resolved_takes : (d : ℕ) → doubts ≡ suc d → Takes spare room ENDING_COST × HasLogRoom spare d (without_txn a.txn undos) (ended_room (owed a + ENDING_COST) room)
    resolved_takes d is =
        let less = owed_without s in
        let sum = h.sum in
        let fits = h.fits in
        let lsns = h.lsns in
        let short = h.short in
        ((omega arith, omega arith, omega arith), record { sum = omega arith; fits = omega arith; lsns = omega arith; short = omega arith })

    -- and its Rollback decided
    pub rolled_takes : (undo : UndoList) (d : ℕ) → undo.images ≡ a.undo.images → doubts ≡ suc d
        → Takes spare room ENDING_COST × HasLogRoom spare d (with_undo a.txn undo undos) (ended_room ENDING_COST room)
    rolled_takes undo d same is =
        let one : compensation_costs undo.images ≡ compensation_costs a.undo.images = ap compensation_costs same in
        let as_before = owed_with s undo in
        let sum = h.sum in
        let fits = h.fits in
        let lsns = h.lsns in
        let short = h.short in
        ((omega arith, omega arith, omega arith), record { sum = omega arith; fits = omega arith; lsns = omega arith; short = omega arith })

    pub marked_has : (undo : UndoList) → undo.images ≡ a.undo.images → HasLogRoom spare doubts (with_undo a.txn undo undos) room
    marked_has undo same =
        let one : compensation_costs undo.images ≡ compensation_costs a.undo.images = ap compensation_costs same in
        let as_before = owed_with s undo in
        let sum = h.sum in
        record { sum = omega arith; fits = h.fits; lsns = h.lsns; short = h.short }

once_with : (t : ℕ) (undo : UndoList) (undos : List SessionTxn) → EachOnce (txns_of undos) → EachOnce (txns_of (with_undo t undo undos))
once_with t undo undos once = subst EachOnce (sym (txns_with t undo undos)) once

pub turns_take : (spare doubts : ℕ) (undos : List SessionTxn) (room : LogRoom) (turns : List ℕ)
    → EachOnce (txns_of undos) → HasLogRoom spare doubts undos room → TurnsTake spare undos room turns
turns_take spare doubts undos room [] once h = λ a m. (ended_takes spare doubts undos room h once a m).0
turns_take spare doubts undos room (t ∷ turns) once h = λ a kept e marks rolling m txn is.
    let one = undone_takes spare doubts undos room h once a m kept e marks rolling is in (
      one.0,
      subst (λ t. TurnsTake spare (with_undo t record { images = kept; marks = marks; rolling = rolling } undos) (undone_room e.1 room) turns) txn
          (turns_take spare doubts (with_undo a.txn record { images = kept; marks = marks; rolling = rolling } undos) (undone_room e.1 room) turns (once_with a.txn record { images = kept; marks = marks; rolling = rolling } undos once) one.1),
    )

-- ---- those in doubt

not_among : (t : ℕ) (ps : List PreparedTxn) → (IsAmong t (map (λ p. p.txn) ps) → ⊥) → length (without_prepared t ps) ≡ length ps
not_among t [] away = refl
not_among t (p ∷ ps) away =
    elim (t == p.txn) as (λ b. (t == p.txn) ≡ b → length (cond (not b) (p ∷ without_prepared t ps) (without_prepared t ps)) ≡ suc (length ps)) [
      | true ↦ λ e. absurd (away (inl (sym (eqb-true t p.txn e))))
      | false ↦ λ e. ap suc (not_among t ps (λ m. away (inr m)))
    ] refl

pub one_fewer : (p : PreparedTxn) (ps : List PreparedTxn) → EachOnce (map (λ (q : PreparedTxn). q.txn) ps) → IsAmong p ps
    → length ps ≡ suc (length (without_prepared p.txn ps))
one_fewer p [] once m = absurd m
one_fewer p (q ∷ ps) once m =
    elim (p.txn == q.txn) as (λ b. (p.txn == q.txn) ≡ b → suc (length ps) ≡ suc (length (cond (not b) (q ∷ without_prepared p.txn ps) (without_prepared p.txn ps)))) [
      | true ↦ λ e. ap suc (sym (not_among p.txn ps (λ there. once.0 (subst (λ t. IsAmong t (map (λ (q : PreparedTxn). q.txn) ps)) (eqb-true p.txn q.txn e) there))))
      | false ↦ λ e. ap suc (⊎_elim (λ here. absurd (differ (ap (λ (q : PreparedTxn). q.txn) here) e)) (λ later. one_fewer p ps once.1 later) m)
    ] refl
  where
    true_not_false : true ≡ false → ⊥
    true_not_false e = cc

    differ : {u t : ℕ} → u ≡ t → (t == u) ≡ false → ⊥
    differ {u} same e = let h : (u == u) ≡ false = subst (λ t. (t == u) ≡ false) (sym same) e in true_not_false (sym (eq-eqb u u refl) ∙ h)

answered_alike : (t : ℕ) (ps : List PreparedTxn) → length (with_answered t ps) ≡ length ps
answered_alike t [] = refl
answered_alike t (p ∷ ps) = ap suc (answered_alike t ps)

-- ---- events of the sessions

module _ (spare doubts : ℕ) (within : spare ≤ LONGEST_FRAME + GREATEST_CHECKPOINT) where
  undone_has : (undos : List SessionTxn) (room : LogRoom) → HasLogRoom spare doubts undos room → EachOnce (txns_of undos) → (a : SessionTxn) → IsAmong a undos
      → (es kept : List (Rid × Image)) (marks : List ℕ) (rolling : Option Rollback) → a.undo.images ≡ kept ++ es
      → HasLogRoom spare doubts (with_undo a.txn record { images = kept; marks = marks; rolling = rolling } undos) (undone_rooms es room)
  undone_has undos room h once a m [] kept marks rolling is =
      marked_has spare doubts undos room h once a m record { images = kept; marks = marks; rolling = rolling } (sym (is ∙ append-nil kept))
  undone_has undos room h once a m (e ∷ es) kept marks rolling is =
      let one : UndoList = record { images = kept ++ e ∷ []; marks = marks; rolling = rolling } in
      let h1 = undone_has undos room h once a m es (kept ++ e ∷ []) marks rolling (is ∙ sym (append_assoc kept (e ∷ []) es)) in
      subst (λ l. HasLogRoom spare doubts l (undone_room e.1 (undone_rooms es room))) (with_twice a.txn one record { images = kept; marks = marks; rolling = rolling } undos)
      (undone_takes spare doubts (with_undo a.txn one undos) (undone_rooms es room) h1 (once_with a.txn one undos once) (with_its a one) (new_among (split undos a once m) one) kept e marks rolling refl).1

module _ (spare : ℕ) (within : spare ≤ LONGEST_FRAME + GREATEST_CHECKPOINT) (s : Sessions) (room : LogRoom) (h : HasLogRoom spare (length s.prepared) s.active room) (once : EachOnce (txns_of s.active)) (apart : EachOnce (in_doubt_of s)) where
  same_room : {d : ℕ} {undos : List SessionTxn} {new room' : LogRoom} → new ≡ room' → HasLogRoom spare d undos room' → HasLogRoom spare d undos new
  same_room {d} {undos} is h = subst (HasLogRoom spare d undos) (sym is) h

  module _ (a : SessionTxn) (m : IsAmong a s.active) where
    stays : (undo : UndoList) → undo.images ≡ a.undo.images → HasLogRoom spare (length s.prepared) (with_undo a.txn undo s.active) room
    stays undo same = marked_has spare (length s.prepared) s.active room h once a m undo same

    change : (id : Rid) (image : Image) → Admits room (change_cost (get s.records id) image + compensation_cost (get s.records id))
        → HasLogRoom spare (length s.prepared) (with_undo a.txn (with_before_image s.records a.undo id) s.active) (changed_room (get s.records id) image room)
    change id image admits = changed_has spare (length s.prepared) s.active room h once a m within (with_before_image s.records a.undo id) id (get s.records id) image refl admits

    inserted : (store : ℕ) (bytes : List ℕ) (answer : Answer) → AnswerAdmits s.records (call.Insert store bytes) answer room
        → HasLogRoom spare (length s.prepared) (with_undo a.txn (undo_after_answer s.records a.undo (call.Insert store bytes) answer) s.active) (answered_room s.records a (call.Insert store bytes) answer room)
    inserted store bytes (Inserted id) admits = change id (Some bytes) admits
    inserted store bytes _ admits = stays a.undo refl

    answered : (c : Call) (answer : Answer) → AnswerAdmits s.records c answer room
        → HasLogRoom spare (length s.prepared) (with_undo a.txn (undo_after_answer s.records a.undo c answer) s.active) (answered_room s.records a c answer room)
    answered (call.Insert store bytes) answer admits = inserted store bytes answer admits
    answered (call.Update id bytes) answer admits = change id (Some bytes) admits
    answered (call.Delete id) answer admits = change id None admits
    answered (call.BackTo n) answer admits =
        undone_has spare (length s.prepared) within s.active room h once a m (drop (mark_of a.undo n) a.undo.images) (take (mark_of a.undo n) a.undo.images) (take (n + 1) a.undo.marks) None
        (sym (take-append-drop (mark_of a.undo n) a.undo.images))
    answered call.Savepoint answer admits = stays (undo_after_answer s.records a.undo call.Savepoint answer) refl
    answered _ answer admits = stays a.undo refl

    aborted : HasLogRoom spare (length s.prepared) (without_txn a.txn s.active) (ended_room ENDING_COST (undone_rooms a.undo.images room)) × HasLogRoom spare (length s.prepared) (without_txn a.txn s.active) (left_room ENDING_COST (undone_rooms a.undo.images room))
    aborted =
        let h1 = undone_has spare (length s.prepared) within s.active room h once a m a.undo.images [] [] None refl in
        let both =
        (ended_takes spare (length s.prepared) (with_undo a.txn nothing_to_undo s.active) (undone_rooms a.undo.images room) h1 (once_with a.txn nothing_to_undo s.active once) (with_its a nothing_to_undo) (new_among (split s.active a once m) nothing_to_undo)) in (
          subst (λ l. HasLogRoom spare (length s.prepared) l (ended_room ENDING_COST (undone_rooms a.undo.images room))) (without_with a.txn nothing_to_undo s.active) both.1,
          subst (λ l. HasLogRoom spare (length s.prepared) l (left_room ENDING_COST (undone_rooms a.undo.images room))) (without_with a.txn nothing_to_undo s.active) both.2,
        )

  pub event_room : (e : SessionEvent) (new : Sessions) (room' : LogRoom) → StepsTo s e new → EventAdmits s e room → RoomAfter s e room room'
      → HasLogRoom spare (length new.prepared) new.active room'
  event_room (MoveLocks held) new room' moves admits is = subst (λ (n : Sessions). HasLogRoom spare (length n.prepared) n.active room') (sym moves.3) (same_room is h)
  event_room (BeginTxn session) new room' moves admits is = subst (λ (n : Sessions). HasLogRoom spare (length n.prepared) n.active room') (sym moves.1)
      (same_room is (begun_has spare (length s.prepared) s.active room h within record { session = session; txn = s.next_txn; undo = nothing_to_undo } refl admits))
  event_room (GiveReply a c (Ok answer)) new room' moves admits is =
      subst (λ (n : Sessions). HasLogRoom spare (length n.prepared) n.active room') (sym moves.4) (same_room is (answered a moves.0.0 c answer admits))
  event_room (GiveReply a c (Err fault)) new room' moves admits is =
      subst (λ (n : Sessions). HasLogRoom spare (length n.prepared) n.active room') (sym moves.4) (same_room is (stays a moves.0.0 a.undo refl))
  event_room (AppendCommit a ticket) new room' moves admits is =
      subst (λ (n : Sessions). HasLogRoom spare (length n.prepared) n.active room') (sym moves.2) (same_room is (ended_takes spare (length s.prepared) s.active room h once a moves.0.0).1)
  event_room (PutBack a kept e r) new room' moves admits is = subst (λ (n : Sessions). HasLogRoom spare (length n.prepared) n.active room') (sym moves.4)
      (same_room is (undone_takes spare (length s.prepared) s.active room h once a moves.0.0 kept e (marks_kept r a.undo.marks) (Some r) moves.1).1)
  event_room (Doom a) new room' moves admits is = subst (λ (n : Sessions). HasLogRoom spare (length n.prepared) n.active room') (sym moves.1)
      (same_room is (stays a moves.0.0 (undo_rolled a.undo a.undo.images Whole) refl))
  event_room (AnswerAbort a) new room' moves admits is = subst (λ (n : Sessions). HasLogRoom spare (length n.prepared) n.active room') (sym moves.1)
      (⊎_elim (λ ended. same_room ended (aborted a moves.0.0).0) (λ left. same_room left (aborted a moves.0.0).1) is)
  event_room (Ask ticket durable) new room' moves admits is = subst (λ (n : Sessions). HasLogRoom spare (length n.prepared) n.active room') (sym moves) (same_room is h)
  event_room (RefuseCall session t c fault) new room' moves admits is =
      subst (λ (n : Sessions). HasLogRoom spare (length n.prepared) n.active room') (sym moves.2) (same_room is h)
  event_room (AppendPrepare a global granules) new room' moves admits is =
      let more : length (s.prepared ++ record { txn = a.txn; global = global; answered = false } ∷ []) ≡ length s.prepared + 1 = length-push s.prepared record { txn = a.txn; global = global; answered = false } in
      subst (λ (n : Sessions). HasLogRoom spare (length n.prepared) n.active room') (sym moves.4)
      (same_room is (subst (λ d. HasLogRoom spare d s.active (prepared_room global granules room)) (sym more) (prepared_has spare (length s.prepared) s.active room h within global granules admits)))
  event_room (AnswerPrepare session t global) new room' moves admits is =
      subst (λ (n : Sessions). HasLogRoom spare (length n.prepared) n.active room') (sym moves.2)
      (same_room is (subst (λ d. HasLogRoom spare d s.active room) (sym (answered_alike t s.prepared)) h))
  event_room (AppendResolve a global) new room' moves admits is =
      subst (λ (n : Sessions). HasLogRoom spare (length n.prepared) n.active room') (sym moves.3)
      (same_room is (resolved_takes spare (length s.prepared) s.active room h once a moves.0 (length (without_prepared a.txn s.prepared)) (one_fewer record { txn = a.txn; global = global; answered = true } s.prepared apart moves.2)).1)
  event_room (AppendRollback a global) new room' moves admits is =
      subst (λ (n : Sessions). HasLogRoom spare (length n.prepared) n.active room') (sym moves.2)
      (same_room is (rolled_takes spare (length s.prepared) s.active room h once a moves.0 (undo_rolled a.undo a.undo.images Whole) (length (without_prepared a.txn s.prepared)) refl (one_fewer record { txn = a.txn; global = global; answered = true } s.prepared apart moves.1)).1)
  event_room (EndRollback a) new room' moves admits is =
      subst (λ (n : Sessions). HasLogRoom spare (length n.prepared) n.active room') (sym moves.2) (same_room is (aborted a moves.0.0).0)
  event_room (AnswerResolve session r) new room' moves admits is =
      subst (λ (n : Sessions). HasLogRoom spare (length n.prepared) n.active room') (sym moves.2) (same_room is h)
  event_room (AnswerInDoubt session t pairs) new room' moves admits is =
      subst (λ (n : Sessions). HasLogRoom spare (length n.prepared) n.active room') (sym moves.2) (same_room is h)

-- those in doubt are each there once
module _ (s : Sessions) (apart : EachOnce (in_doubt_of s)) where
  push_once : (t : ℕ) (ts : List ℕ) → EachOnce ts → (IsAmong t ts → ⊥) → EachOnce (ts ++ t ∷ [])
  push_once t [] once away = ((λ b. b), tt)
  push_once t (u ∷ ts) once away =
      ((λ b. ⊎_elim (λ there. once.0 there) (λ here. ⊎_elim (λ e. away (inl (sym e))) (λ none. none) here) (among_append u ts (t ∷ []) b)), push_once t ts once.1 (λ m. away (inr m)))

  still : (t u : ℕ) (ps : List PreparedTxn) → IsAmong u (map (λ p. p.txn) (without_prepared t ps)) → IsAmong u (map (λ p. p.txn) ps)
  still t u [] m = m
  still t u (p ∷ ps) m =
      (elim (not (t == p.txn)) as (λ b. IsAmong u (map (λ p. p.txn) (cond b (p ∷ without_prepared t ps) (without_prepared t ps))) → IsAmong u (map (λ p. p.txn) (p ∷ ps))) [
        | true ↦ λ m. ⊎_elim (λ e. inl e) (λ later. inr (still t u ps later)) m
        | false ↦ λ m. inr (still t u ps m)
      ]) m

  without_once : (t : ℕ) (ps : List PreparedTxn) → EachOnce (map (λ (p : PreparedTxn). p.txn) ps) → EachOnce (map (λ (p : PreparedTxn). p.txn) (without_prepared t ps))
  without_once t [] once = once
  without_once t (p ∷ ps) once =
      elim (not (t == p.txn)) as (λ b. EachOnce (map (λ (p : PreparedTxn). p.txn) (cond b (p ∷ without_prepared t ps) (without_prepared t ps)))) [
        | true ↦ ((λ m. once.0 (still t p.txn ps m)), without_once t ps once.1)
        | false ↦ without_once t ps once.1
      ]

  same_once : {new left : Sessions} → new ≡ left → EachOnce (in_doubt_of left) → EachOnce (in_doubt_of new)
  same_once is h = subst (λ (n : Sessions). EachOnce (in_doubt_of n)) (sym is) h

  pub event_once : (e : SessionEvent) (new : Sessions) → StepsTo s e new → EachOnce (in_doubt_of new)
  event_once (MoveLocks held) new moves = same_once moves.3 apart
  event_once (BeginTxn session) new moves = same_once moves.1 apart
  event_once (GiveReply a c reply) new moves = same_once moves.4 apart
  event_once (AppendCommit a ticket) new moves = same_once moves.2 apart
  event_once (PutBack a kept e r) new moves = same_once moves.4 apart
  event_once (Doom a) new moves = same_once moves.1 apart
  event_once (AnswerAbort a) new moves = same_once moves.1 apart
  event_once (Ask ticket durable) new moves = same_once moves apart
  event_once (RefuseCall session t c fault) new moves = same_once moves.2 apart
  event_once (AppendPrepare a global granules) new moves =
      same_once moves.4 (subst EachOnce (sym (map-push (λ (p : PreparedTxn). p.txn) s.prepared record { txn = a.txn; global = global; answered = false })) (push_once a.txn (in_doubt_of s) apart moves.0.2.0))
  event_once (AnswerPrepare session t global) new moves = same_once moves.2 (subst EachOnce (sym (answered_txns t s.prepared)) apart)
  event_once (AppendResolve a global) new moves = same_once moves.3 (without_once a.txn s.prepared apart)
  event_once (AppendRollback a global) new moves = same_once moves.2 (without_once a.txn s.prepared apart)
  event_once (EndRollback a) new moves = same_once moves.2 apart
  event_once (AnswerResolve session r) new moves = same_once moves.2 apart
  event_once (AnswerInDoubt session t pairs) new moves = same_once moves.2 apart
