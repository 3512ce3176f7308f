-- Several images put back, one after another, and the claims after each event of the sessions.
use Rattle.std.proofs.Common.{◌≡◌, inl, inr, ⊎_elim, ◌+◌, ◌<◌, ℕ, List, Option, [], ◌∷◌, ◌++◌, drop, take, Some, None, Ok, Err, true, false, cond, refl, sym, ap, subst, ◌∙◌, arith}
use Rattle.std.specs.Prelude.{◌==◌, not}
use Rattle.std.proofs.lemmas.List.{append-nil, append_assoc, take-append-drop}
use Rattle.shore_types.specs.declared.ids.Rid.{Rid}
use Rattle.shore_model.specs.declared.calls.Answer.{Answer}
use Rattle.shore_model.specs.declared.calls.Answer.TheVariants.{Inserted}
use Rattle.shore_model.specs.declared.calls.Call.{Call}
use Rattle.shore_model.specs.declared.calls.Call.TheVariants as call
use Rattle.shore_model.specs.declared.histories.Entry.{Entry}
use Rattle.shore_model.specs.declared.histories.Opening.{Opening}
use Rattle.shore_model.specs.Locks.{MayWrite}
use Rattle.shore_types.specs.Images.{Image}
use Rattle.shore_types.specs.declared.versions.Version.{Version}
use Rattle.shore_model.specs.Records.{Records, laid_over, put_image}
use Rattle.laws_room.specs.Claims.{Claimed, NoOthers, SlotCounts, befores_in}
use Rattle.laws_room.specs.Events.{AnswerFits, ChangeFitsPage, EventFits}
use Rattle.shore_model.specs.declared.rollbacks.Rollback.{Rollback}
use Rattle.shore_model.specs.declared.rollbacks.Rollback.TheVariants.{Whole}
use Rattle.laws_lives.specs.RepliesInPlace.{Permit}
use Rattle.laws_lives.specs.SessionSteps.{AnswerAbort, AnswerInDoubt, AnswerPrepare, AnswerResolve, AppendCommit, AppendPrepare, AppendResolve, AppendRollback, Ask, BeginTxn, Doom, EndRollback, GiveReply, MoveLocks, PutBack, RefuseCall, SessionEvent, StepsTo}
use Rattle.laws_lives.specs.Sessions.{SessionTxn, Sessions, with_undo, without_txn}
use Rattle.laws_lives.specs.Soundness.{IsSoundAfter}
use Rattle.laws_lives.specs.UndoLists.{UndoList, in_place_after_answer, mark_of, marks_kept, nothing_to_undo, undo_after_answer, undo_rolled, with_before_image}
use Rattle.laws_lives.specs.Views.{IsAmong}
use Rattle.laws_lives.proofs.Views.{read_of_write, writer_excludes}
use Rattle.laws_room.proofs.Leaving.{begun_keeps, empty_or_not, found_at, left_keeps, marked_keeps}
use Rattle.laws_room.proofs.Lists.{IsSplit, split, with_its}
use Rattle.laws_room.proofs.Rooms.{change_keeps, undo_keeps}

pub with_twice : (t : ℕ) (one two : UndoList) (xs : List SessionTxn) → with_undo t two (with_undo t one xs) ≡ with_undo t two xs
with_twice t one two [] = refl
with_twice t one two (x ∷ xs) =
    elim (x.txn == t) as (λ b. (x.txn == t) ≡ b → cond ((cond b (with_its x one) x).txn == t) (with_its (cond b (with_its x one) x) two) (cond b (with_its x one) x) ∷ with_undo t two (with_undo t one xs) ≡ cond b (with_its x two) x ∷ with_undo t two xs) [
      | true ↦ λ e. ap (λ b. cond b (with_its x two) (with_its x one) ∷ with_undo t two (with_undo t one xs)) e
          ∙ ap (λ l. with_its x two ∷ l) (with_twice t one two xs)
      | false ↦ λ e. ap (λ b. cond b (with_its x two) x ∷ with_undo t two (with_undo t one xs)) e ∙ ap (λ l. x ∷ l) (with_twice t one two xs)
    ] refl

pub without_with : (t : ℕ) (undo : UndoList) (xs : List SessionTxn) → without_txn t (with_undo t undo xs) ≡ without_txn t xs
without_with t undo [] = refl
without_with t undo (x ∷ xs) =
    elim (x.txn == t) as (λ b. (x.txn == t) ≡ b → cond (not ((cond b (with_its x undo) x).txn == t)) (cond b (with_its x undo) x ∷ without_txn t (with_undo t undo xs)) (without_txn t (with_undo t undo xs)) ≡ cond (not b) (x ∷ without_txn t xs) (without_txn t xs)) [
      | true ↦ λ e. ap (λ b. cond (not b) (with_its x undo ∷ without_txn t (with_undo t undo xs)) (without_txn t (with_undo t undo xs))) e
          ∙ without_with t undo xs
      | false ↦ λ e. ap (λ b. cond (not b) (x ∷ without_txn t (with_undo t undo xs)) (without_txn t (with_undo t undo xs))) e
          ∙ ap (λ l. x ∷ l) (without_with t undo xs)
    ] refl

among_middle : (front back : List SessionTxn) (a : SessionTxn) → IsAmong a (front ++ a ∷ back)
among_middle [] back a = inl refl
among_middle (x ∷ front) back a = inr (among_middle front back a)

pub new_among : {undos : List SessionTxn} {a : SessionTxn} → IsSplit undos a → (undo : UndoList) → IsAmong (with_its a undo) (with_undo a.txn undo undos)
new_among {undos} {a} s undo = subst (IsAmong (with_its a undo)) (sym (s.with_it undo)) (among_middle s.front s.back (with_its a undo))

module _ (v : Version) (R : Records) (undos : List SessionTxn) (counts : SlotCounts) (k : Claimed v R undos counts) (a : SessionTxn) (m : IsAmong a undos) where
  pub undone_keeps : (es kept : List (Rid × Image)) (marks : List ℕ) (rolling : Option Rollback) → a.undo.images ≡ kept ++ es
      → Claimed v (laid_over R es) (with_undo a.txn record { images = kept; marks = marks; rolling = rolling } undos) counts
  undone_keeps [] kept marks rolling is = marked_keeps v R undos counts k a m record { images = kept; marks = marks; rolling = rolling } (sym (is ∙ append-nil kept))
  undone_keeps (e ∷ es) kept marks rolling is =
      let one : UndoList = record { images = kept ++ e ∷ []; marks = marks; rolling = rolling } in
      let k1 = undone_keeps es (kept ++ e ∷ []) marks rolling (is ∙ sym (append_assoc kept (e ∷ []) es)) in
      subst (λ l. Claimed v (put_image (laid_over R es) e.0 e.1) l counts) (with_twice a.txn one record { images = kept; marks = marks; rolling = rolling } undos)
      (undo_keeps v (laid_over R es) (with_undo a.txn one undos) counts k1 (with_its a one) (new_among (split undos a k.once m) one) kept e marks rolling refl)

-- ---- events of the sessions

module _ {o : Opening} {es : List Entry} {s : Sessions} (after : IsSoundAfter o es s) where
  -- nobody else has changed what a transaction may write
  pub alone : (a : SessionTxn) → IsAmong a s.active → (id : Rid) → MayWrite s.held a.txn id → NoOthers s.active a.txn id
  alone a m id w b there other = ⊎_elim (λ none. none)
      (λ some.
      let v : MayWrite s.held b.txn id = found_at (MayWrite s.held b.txn) id b.undo.images (after.undoes b there).changed some in
      absurd (writer_excludes after.stand a.txn b.txn id (λ e. other (sym e)) w (read_of_write s.held b.txn id v)))
      (empty_or_not (befores_in id b.undo.images))

module _ {v : Version} {o : Opening} {es : List Entry} {s : Sessions} (after : IsSoundAfter o es s) (counts : SlotCounts) (k : Claimed v s.records s.active counts) where
  module _ (a : SessionTxn) (m : IsAmong a s.active) (new : SlotCounts) where
    same_counts : {R : Records} {undos : List SessionTxn} → new ≡ counts → Claimed v R undos counts → Claimed v R undos new
    same_counts {R} {undos} same h = subst (Claimed v R undos) (sym same) h

    change_on : (id : Rid) (image : Image) → MayWrite s.held a.txn id → ChangeFitsPage v s.records s.active counts id image new
        → Claimed v (put_image s.records id image) (with_undo a.txn (with_before_image s.records a.undo id) s.active) new
    change_on id image w h = change_keeps v s.records s.active counts k a m id image (alone after a m id w) h.0 new h.1

    stays_on : (undo : UndoList) → undo.images ≡ a.undo.images → new ≡ counts → Claimed v s.records (with_undo a.txn undo s.active) new
    stays_on undo same is = same_counts is (marked_keeps v s.records s.active counts k a m undo same)

    insert_on : (store : ℕ) (bytes : List ℕ) (answer : Answer) → Permit s.held a.txn (call.Insert store bytes) answer
        → AnswerFits v s counts (call.Insert store bytes) answer new
        → Claimed v (in_place_after_answer s.records a.undo (call.Insert store bytes) answer) (with_undo a.txn (undo_after_answer s.records a.undo (call.Insert store bytes) answer) s.active) new
    insert_on store bytes (Inserted id) w h = change_on id (Some bytes) w h
    insert_on store bytes _ w h = stays_on a.undo refl h

    parts : {A : Type 0} (n : ℕ) (xs : List A) → xs ≡ take n xs ++ drop n xs
    parts n xs = sym (take-append-drop n xs)

    answer_on : (c : Call) (answer : Answer) → Permit s.held a.txn c answer → AnswerFits v s counts c answer new
        → Claimed v (in_place_after_answer s.records a.undo c answer) (with_undo a.txn (undo_after_answer s.records a.undo c answer) s.active) new
    answer_on (call.Insert store bytes) answer w h = insert_on store bytes answer w h
    answer_on (call.Update id bytes) answer w h = change_on id (Some bytes) w h
    answer_on (call.Delete id) answer w h = change_on id None w h
    answer_on (call.BackTo n) answer w h =
        same_counts h (undone_keeps v s.records s.active counts k a m (drop (mark_of a.undo n) a.undo.images) (take (mark_of a.undo n) a.undo.images) (take (n + 1) a.undo.marks) None (parts (mark_of a.undo n) a.undo.images))
    answer_on call.Savepoint answer w h = stays_on (undo_after_answer s.records a.undo call.Savepoint answer) refl h
    answer_on _ answer w h = stays_on a.undo refl h

  all_undone : (a : SessionTxn) → IsAmong a s.active → (counts' : SlotCounts) → counts' ≡ counts
      → Claimed v (laid_over s.records a.undo.images) (without_txn a.txn s.active) counts'
  all_undone a m counts' fits =
      let k1 = undone_keeps v s.records s.active counts k a m a.undo.images [] [] None refl in
      let m1 = new_among (split s.active a k.once m) nothing_to_undo in
      subst (Claimed v (laid_over s.records a.undo.images) (without_txn a.txn s.active)) (sym fits)
      (subst (λ l. Claimed v (laid_over s.records a.undo.images) l counts) (without_with a.txn nothing_to_undo s.active)
      (left_keeps v (laid_over s.records a.undo.images) (with_undo a.txn nothing_to_undo s.active) counts k1 (with_its a nothing_to_undo) m1))

  pub event_claims : (e : SessionEvent) (new : Sessions) (counts' : SlotCounts) → StepsTo s e new → EventFits v s counts e counts'
      → Claimed v new.records new.active counts'
  event_claims (MoveLocks held) new counts' h fits =
      subst (λ (n : Sessions). Claimed v n.records n.active counts') (sym h.3) (subst (Claimed v s.records s.active) (sym fits) k)
  event_claims (BeginTxn session) new counts' h fits =
      subst (λ (n : Sessions). Claimed v n.records n.active counts') (sym h.1)
      (subst (Claimed v s.records (record { session = session; txn = s.next_txn; undo = nothing_to_undo } ∷ s.active)) (sym fits)
      (begun_keeps v s.records s.active counts k record { session = session; txn = s.next_txn; undo = nothing_to_undo } refl (λ m. low (after.below s.next_txn m))))
    where
      low : s.next_txn < s.next_txn → ⊥
      low less = omega arith
  event_claims (GiveReply a c (Ok answer)) new counts' h fits =
      subst (λ (n : Sessions). Claimed v n.records n.active counts') (sym h.4) (answer_on a h.0.0 counts' c answer h.2.0 fits)
  event_claims (GiveReply a c (Err fault)) new counts' h fits =
      subst (λ (n : Sessions). Claimed v n.records n.active counts') (sym h.4) (stays_on a h.0.0 counts' a.undo refl fits)
  event_claims (AppendCommit a ticket) new counts' h fits =
      subst (λ (n : Sessions). Claimed v n.records n.active counts') (sym h.2)
      (subst (Claimed v s.records (without_txn a.txn s.active)) (sym fits) (left_keeps v s.records s.active counts k a h.0.0))
  event_claims (PutBack a kept e r) new counts' h fits =
      subst (λ (n : Sessions). Claimed v n.records n.active counts') (sym h.4)
      (subst (Claimed v (put_image s.records e.0 e.1) (with_undo a.txn (undo_rolled a.undo kept r) s.active)) (sym fits)
      (undo_keeps v s.records s.active counts k a h.0.0 kept e (marks_kept r a.undo.marks) (Some r) h.1))
  event_claims (Doom a) new counts' h fits =
      subst (λ (n : Sessions). Claimed v n.records n.active counts') (sym h.1) (stays_on a h.0.0 counts' (undo_rolled a.undo a.undo.images Whole) refl fits)
  event_claims (AnswerAbort a) new counts' h fits = subst (λ (n : Sessions). Claimed v n.records n.active counts') (sym h.1) (all_undone a h.0.0 counts' fits)
  event_claims (Ask ticket durable) new counts' h fits =
      subst (λ (n : Sessions). Claimed v n.records n.active counts') (sym h) (subst (Claimed v s.records s.active) (sym fits) k)
  event_claims (RefuseCall session t c fault) new counts' h fits =
      subst (λ (n : Sessions). Claimed v n.records n.active counts') (sym h.2) (subst (Claimed v s.records s.active) (sym fits) k)
  event_claims (AppendPrepare a global granules) new counts' h fits =
      subst (λ (n : Sessions). Claimed v n.records n.active counts') (sym h.4) (subst (Claimed v s.records s.active) (sym fits) k)
  event_claims (AnswerPrepare session t global) new counts' h fits =
      subst (λ (n : Sessions). Claimed v n.records n.active counts') (sym h.2) (subst (Claimed v s.records s.active) (sym fits) k)
  event_claims (AppendResolve a global) new counts' h fits =
      subst (λ (n : Sessions). Claimed v n.records n.active counts') (sym h.3)
      (subst (Claimed v s.records (without_txn a.txn s.active)) (sym fits) (left_keeps v s.records s.active counts k a h.0))
  event_claims (AppendRollback a global) new counts' h fits =
      subst (λ (n : Sessions). Claimed v n.records n.active counts') (sym h.2) (stays_on a h.0 counts' (undo_rolled a.undo a.undo.images Whole) refl fits)
  event_claims (EndRollback a) new counts' h fits = subst (λ (n : Sessions). Claimed v n.records n.active counts') (sym h.2) (all_undone a h.0.0 counts' fits)
  event_claims (AnswerResolve session r) new counts' h fits =
      subst (λ (n : Sessions). Claimed v n.records n.active counts') (sym h.2) (subst (Claimed v s.records s.active) (sym fits) k)
  event_claims (AnswerInDoubt session t pairs) new counts' h fits =
      subst (λ (n : Sessions). Claimed v n.records n.active counts') (sym h.2) (subst (Claimed v s.records s.active) (sym fits) k)
