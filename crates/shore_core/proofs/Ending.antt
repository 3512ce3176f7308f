-- The end of an abort, whose images are all put back.
use Rattle.laws_checkpoints.specs.CheckpointedStores.{CheckpointedStore}
use Rattle.std.proofs.Common.{◌≡◌, ◌<◌, ◌++◌, ◌∷◌, [], ℕ, List, Bool, true, false, refl, sym, ap, subst, ◌∙◌}
use Rattle.std.specs.Prelude.{◌==◌, if◌then◌else◌}
use Rattle.std.proofs.lemmas.Bool.{eqb-true}
use Rattle.shore_types.specs.Images.{Image}
use Rattle.shore_types.specs.declared.ids.PageId.{PageId}
use Rattle.shore_types.specs.declared.ids.Rid.{Rid}
use Rattle.shore_types.specs.declared.versions.Version.{Version}
use Rattle.shore_model.specs.declared.log_records.LogRecord.{LogRecord}
use Rattle.shore_model.specs.declared.log_records.Payload.TheVariants.{End}
use Rattle.shore_model.specs.Logs.{previous_of}
use Rattle.shore_disk.specs.declared.device.Disk as disk
use Rattle.shore_log.specs.declared.tail.Tail as tail
use Rattle.shore_heap.specs.declared.heap.Heap.{Heap}
use Rattle.shore_heap.specs.Heaps.{Shows}
use Rattle.shore_heap.proofs.Showing.{shows_same}
use Rattle.shore_locks.specs.Grants.{released}
use Rattle.laws_room.specs.Claims.{Claimed, slots_of}
use Rattle.laws_room.specs.Settling.{let_go}
use Rattle.laws_room.proofs.Leaving.{left_slots}
use Rattle.laws_lives.specs.Logged.{and_record, and_rollback}
use Rattle.laws_lives.specs.SessionSteps.{AnswerAbort, entries_by}
use Rattle.laws_lives.specs.Sessions.{SessionTxn, abort_answered, seated, without_txn}
use Rattle.laws_lives.specs.UndoLists.{rolled_back}
use Rattle.laws_lives.specs.Views.{IsAmong}
use Rattle.laws_calls.specs.CallSteps.{aborted, with_requests}
use Rattle.laws_calls.specs.States.{State, page_slots}
use Rattle.shore_txn.specs.ActiveTxns.{OneLeaves}
use Rattle.shore_txn.specs.Transactions.{kept_in, txns_in, undos_in}
use Rattle.shore_txn.specs.Txns.{as_session_txn, entries_of, last_of, number_of}
use Rattle.shore_txn.specs.UndoEntries.{images_of}
use Rattle.shore_txn.specs.declared.transactions.Transactions.{Transactions}
use Rattle.shore_txn.specs.declared.txn.Txn.{Txn}
use Rattle.shore_txn.specs.declared.undo.UndoEntry.{UndoEntry}
use Rattle.shore_txn.proofs.OneOfMany.{among_more}
use Rattle.shore_sessions.specs.Standing.{HasControl, abort_ended}
use Rattle.shore_core.specs.declared.core_calls.Core.{Core}
use Rattle.shore_core.specs.Stores.{IsHeapOf, append_to}
use Rattle.shore_core.proofs.Works.{noted_without}
use Rattle.shore_core.specs.Cores.{CoreComesTo, IsIn, IsOver, control_of, durable_of, first_of, has_failed, heap_of, txns_of, waiting_of}
use Rattle.shore_core.specs.Parts.{HasParts}
use Rattle.shore_core.proofs.Coming.{comes_appended, comes_same, over_as, pages_told}
use Rattle.shore_core.proofs.Tables.{parts_logged, parts_moved}
use Rattle.shore_core.proofs.Undoing.{own_is}

when_none : {A : Type 0} (n : ℕ) (x y : A) → n ≡ 0 → (if n == 0 then x else y) ≡ x
when_none n x y none = subst (λ (m : ℕ). (if m == 0 then x else y) ≡ x) (sym none) refl

when_some : {A : Type 0} (n : ℕ) (x y : A) → (n ≡ 0 → ⊥) → (if n == 0 then x else y) ≡ y
when_some n x y some = each (n == 0) refl
  where
    each : (b : Bool) → (n == 0) ≡ b → (if b then x else y) ≡ y
    each true is = absurd (some (eqb-true n 0 is))
    each false is = refl

-- ---- the transactions that are left

-- all others are as early as they were
pub earlier_others : (old new : Transactions) {session : ℕ} {changes : List UndoEntry} → OneLeaves session changes (txns_in old) (txns_in new) → (next : ℕ)
    → ((t : Txn) → IsAmong t (txns_in old) → last_of t < next) → (t : Txn) → IsAmong t (txns_in new) → last_of t < next
earlier_others old new left next earlier t m =
    earlier t (subst (IsAmong t) (sym left.was) (among_more t left.one left.newer left.older (subst (IsAmong t) left.is m)))

images_some : (kept : List UndoEntry) (e : UndoEntry) → images_of (kept ++ e ∷ []) ≡ [] → ⊥
images_some [] e none = cc
images_some (x ∷ kept) e none = cc

-- a transaction that has a change left has an image left
pub some_left : (table : Transactions) (t : Txn) → IsAmong (as_session_txn t) (undos_in table) → (a : SessionTxn) → IsAmong a (undos_in table) → a.txn ≡ number_of t
    → (kept : List UndoEntry) (e : UndoEntry) → entries_of t ≡ kept ++ e ∷ [] → a.undo.images ≡ [] → ⊥
some_left table t there a among is kept e entries none =
    images_some kept e (sym (ap images_of entries) ∙ ap (λ (b : SessionTxn). b.undo.images) (sym (own_is table t there a among is)) ∙ none)

-- ---- the state then

module _ (v : Version) (s : State) (a : SessionTxn) (none : a.undo.images ≡ []) where
  -- it has logged nothing
  pub aborted_unlogged : previous_of a.txn s.log ≡ 0 → aborted s a ≡ abort_ended s a false
  aborted_unlogged nothing =
      ap (λ (log : List LogRecord). with_requests (record s { sessions = seated s.sessions (entries_by s.sessions (AnswerAbort a)) (abort_answered s.sessions a); log = log }) (released a.txn s.locks.requests))
      (when_none (previous_of a.txn s.log) s.log _ nothing)

  -- .. or its End goes last
  pub aborted_logged : (previous_of a.txn s.log ≡ 0 → ⊥) → aborted s a ≡ abort_ended s a true
  aborted_logged some =
      ap (λ (log : List LogRecord). with_requests (record s { sessions = seated s.sessions (entries_by s.sessions (AnswerAbort a)) (abort_answered s.sessions a); log = log }) (released a.txn s.locks.requests))
      (ap (and_rollback a.txn s.log) none ∙ when_some (previous_of a.txn s.log) s.log (and_record a.txn s.log End) some)

  -- each page has the slots that it had: nothing could have come back to them
  pub aborted_slots : Claimed v s.sessions.records s.sessions.active s.counts → IsAmong a s.sessions.active → (p : PageId) → page_slots (aborted s a) p ≡ page_slots s p
  aborted_slots claimed m p =
      ap (λ (images : List (Rid × Image)). slots_of (rolled_back s.sessions.records images) (without_txn a.txn s.sessions.active) p (s.counts p)) none
      ∙ left_slots v s.sessions.records s.sessions.active s.counts claimed a m p ∙ ap (λ (images : List (Rid × Image)). let_go p images (page_slots s p)) none

-- ---- the core then

module _ (v : Version) {T V : Type 0} {G : tail.Ghosts T} {H : disk.Ghosts V} (old new : Core T V G H) (front : List ℕ) (disk : ℕ → List ℕ) (before : List LogRecord) (s : State) (store : CheckpointedStore)
    (is : IsIn front disk before old s) (over : IsOver disk old s store) (claimed : Claimed v s.sessions.records s.sessions.active s.counts)
    (a : SessionTxn) (m : IsAmong a s.sessions.active) (none : a.undo.images ≡ [])
    (heap : heap_of new ≡ heap_of old) (first : first_of new ≡ first_of old) (durable : durable_of new ≡ durable_of old) (failed : has_failed new ≡ has_failed old)
    (claims : (p : PageId) → kept_in (txns_of new) p ≡ kept_in (txns_of old) p) where
  pages : s.failed ≡ false → Shows (kept_in (txns_of new)) (heap_of new) front disk (page_slots (aborted s a))
  pages works =
      shows_same (heap_of new) (kept_in (txns_of new)) front disk (page_slots s) (page_slots (aborted s a)) (λ p there. aborted_slots v s a none claimed m p)
      (subst (λ (h : Heap V H). Shows (kept_in (txns_of new)) h front disk (page_slots s)) (sym heap) (pages_told (heap_of old) (txns_of old) (txns_of new) front disk (page_slots s) claims (is.pages works)))

  same_parts : {waiting : List LogRecord} → HasParts (control_of new) waiting (durable_of old) (has_failed old) before (aborted s a) → HasParts (control_of new) waiting (durable_of new) (has_failed new) before (aborted s a)
  same_parts {waiting = waiting} has =
      subst (λ (b : Bool). HasParts (control_of new) waiting (durable_of new) b before (aborted s a)) (sym failed)
      (subst (λ (n : ℕ). HasParts (control_of new) waiting n (has_failed old) before (aborted s a)) (sym durable) has)

  -- it has logged nothing
  pub ended_unlogged : waiting_of new ≡ waiting_of old → previous_of a.txn s.log ≡ 0 → HasControl (control_of new) (abort_ended s a false) → CoreComesTo new front before store (aborted s a)
  ended_unlogged waiting nothing stands =
      let log : (aborted s a).log ≡ s.log = ap (λ (x : State). x.log) (aborted_unlogged v s a none nothing) in
      let has = subst (HasControl (control_of new)) (sym (aborted_unlogged v s a none nothing)) stands in
      let parts = parts_moved (control_of old) (control_of new) (waiting_of old) (durable_of old) (has_failed old) before s (aborted s a) is.beside.parts has log refl refl in
      comes_same new front disk before (aborted s a) store
      (record {
        beside = record { first = first ∙ is.beside.first; parts = subst (λ l. HasParts (control_of new) l (durable_of new) (has_failed new) before (aborted s a)) (sym waiting) (same_parts parts) };
        pages = pages;
      })
      (over_as old new disk s (aborted s a) store heap log refl refl over)

  -- its End was appended
  pub ended_logged : (r : LogRecord) → r ≡ record { txn = a.txn; previous = previous_of a.txn s.log; payload = End } → waiting_of new ≡ waiting_of old ++ r ∷ [] → (previous_of a.txn s.log ≡ 0 → ⊥)
      → HasControl (control_of new) (abort_ended s a true) → CoreComesTo new front before store (aborted s a)
  ended_logged r r_is waiting some stands =
      let own : LogRecord = record { txn = a.txn; previous = previous_of a.txn s.log; payload = End } in
      let log : (aborted s a).log ≡ s.log ++ own ∷ [] = ap (λ (x : State). x.log) (aborted_logged v s a none some) in
      let has = subst (HasControl (control_of new)) (sym (aborted_logged v s a none some)) stands in
      let parts = parts_logged (control_of old) (control_of new) (waiting_of old) (durable_of old) (has_failed old) before s (aborted s a) own is.beside.parts has log refl refl in
      let added : waiting_of new ≡ waiting_of old ++ own ∷ [] = waiting ∙ ap (λ (x : LogRecord). waiting_of old ++ x ∷ []) r_is in
      comes_appended new front disk before s (aborted s a) store own over.kept log refl
      (record {
        beside = record { first = first ∙ is.beside.first; parts = subst (λ l. HasParts (control_of new) l (durable_of new) (has_failed new) before (aborted s a)) (sym added) (same_parts parts) };
        pages = pages;
      })
      (λ works. subst (λ (h : Heap V H). IsHeapOf h disk (append_to store own)) (sym heap)
      (noted_without (heap_of old) disk store own (over.pages works) over.kept.recoverable over.kept.redone refl))
