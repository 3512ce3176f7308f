-- What an abort, and a way back to a savepoint, come to once their steps are made.
use Rattle.laws_checkpoints.specs.CheckpointedStores.{CheckpointedStore}
use Rattle.std.proofs.Common.{◌≡◌, ◌⊎◌, ◌<◌, ◌≤◌, ◌+◌, inl, inr, ℕ, zero, suc, List, [], ◌∷◌, Option, Some, None, Result, Ok, Err, IsErrAnd, length, take, false, refl, sym, ap, subst, ◌∙◌, arith}
use Rattle.std.specs.Prelude.{slice_get, unwrap_or}
use Rattle.std.proofs.Math.Seq.{take-length}
use Rattle.shore_disk.specs.declared.device.Disk as disk
use Rattle.shore_log.specs.declared.tail.Tail as tail
use Rattle.shore_types.specs.Images.{Image}
use Rattle.shore_types.specs.declared.faults.Fault.{Fault}
use Rattle.shore_types.specs.declared.faults.Fault.TheVariants as fault
use Rattle.shore_types.specs.declared.ids.PageId.{PageId}
use Rattle.shore_types.specs.declared.ids.Rid.{Rid}
use Rattle.shore_model.specs.declared.calls.Answer.TheVariants.{WentBack}
use Rattle.shore_model.specs.declared.calls.Call.TheVariants as call
use Rattle.shore_model.specs.declared.log_records.LogRecord.{LogRecord}
use Rattle.laws_room.proofs.Leaving.{marked_slots}
use Rattle.laws_room.specs.Claims.{slots_of}
use Rattle.laws_lives.specs.Logged.{and_compensations}
use Rattle.laws_lives.specs.Sessions.{SessionTxn, with_undo}
use Rattle.laws_lives.specs.UndoLists.{MayRoll, UndoList, images_since, least_kept, mark_of, rolled_back}
use Rattle.shore_model.specs.declared.rollbacks.Rollback.{Rollback}
use Rattle.shore_model.specs.declared.rollbacks.Rollback.TheVariants.{To}
use Rattle.shore_model.specs.declared.step.Step.{Step}
use Rattle.shore_model.specs.declared.step.Step.TheVariants.{Refused}
use Rattle.laws_calls.specs.CallSteps.{CallStep}
use Rattle.laws_calls.specs.Rollbacks.{TakesCall}
use Rattle.laws_calls.specs.StateChanges.{after_refusal, answered}
use Rattle.laws_calls.specs.States.{DoesNotWait, State, page_slots}
use Rattle.shore_txn.specs.ActiveTxns.{OneBecomes}
use Rattle.shore_txn.specs.Transactions.{txns_in}
use Rattle.shore_txn.specs.Txns.{IsBackAt, last_of}
use Rattle.shore_txn.specs.declared.transactions.Transactions.{Transactions}
use Rattle.shore_txn.specs.declared.txn.Txn.{Txn}
use Rattle.shore_txn.proofs.ActiveOthers.{each_becomes}
use Rattle.laws_lives.specs.Views.{IsAmong}
use Rattle.shore_core.specs.declared.core_calls.Core.{Core}
use Rattle.shore_core.specs.Cores.{CoreComesTo, IsSafe, geometry_of}
use Rattle.shore_core.specs.Replies.{Replied}
use Rattle.shore_core.specs.Undoing.{IsDownTo, Unwinds}
use Rattle.shore_core.proofs.Coming.{StaysRefused, comes_then}
use Rattle.shore_model.specs.declared.calls.Call.{Call}
use Rattle.shore_core.specs.Callers.{MayPutBack}
use Rattle.shore_core.proofs.Rolling.{caller, interrupted, unwound_of}

-- ---- savepoints that are there, and those that are not

pub mark_past : (marks : List ℕ) (n : ℕ) → ((mark : ℕ) → slice_get marks n ≡ Some mark → ⊥) → length marks ≤ n
mark_past [] n never = omega arith
mark_past (mark ∷ marks) zero never = absurd (never mark refl)
mark_past (mark ∷ marks) (suc n) never = let rest = mark_past marks n never in omega (arith, rest)

pub mark_inside : (marks : List ℕ) (n mark : ℕ) → slice_get marks n ≡ Some mark → n < length marks
mark_inside [] n mark is = absurd (clash is)
  where
    clash : ◌≡◌ {A = Option ℕ} None (Some mark) → ⊥
    clash e = cc
mark_inside (m ∷ marks) zero mark is = omega arith
mark_inside (m ∷ marks) (suc n) mark is = let rest = mark_inside marks n mark is in omega (arith, rest)

pub mark_is : (undo : UndoList) (n mark : ℕ) → slice_get undo.marks n ≡ Some mark → mark ≡ mark_of undo n
mark_is undo n mark is = sym (ap (λ (o : Option ℕ). unwrap_or o (length undo.images)) is)

-- ---- which way back a transaction may go

pub may_take : (undo : UndoList) (n : ℕ) → TakesCall undo (call.BackTo n) → (undo.rolling ≡ None) ⊎ (undo.rolling ≡ Some (To n))
may_take undo n (inl none) = inl none
may_take undo n (inr (inl abort)) = absurd (clash abort)
  where
    clash : call.BackTo n ≡ call.Abort → ⊥
    clash e = cc
may_take undo n (inr (inr back)) = inr (subst (λ m. undo.rolling ≡ Some (To m)) (sym (one back.0 back.2)) back.1)
  where
    one : (m : ℕ) → call.BackTo n ≡ call.BackTo m → n ≡ m
    one m e = cc

pub takes_back : (undo : UndoList) (n : ℕ) → (undo.rolling ≡ None) ⊎ (undo.rolling ≡ Some (To n)) → TakesCall undo (call.BackTo n)
takes_back undo n (inl none) = inl none
takes_back undo n (inr rolling) = inr (inr (n, rolling, refl))

-- ---- the table, once a transaction is back

pub earlier_back : (table new : Transactions) (number session index : ℕ) → ((t : Txn) → IsAmong t (txns_in table) → last_of t < number)
    → OneBecomes session (IsBackAt index) (txns_in table) (txns_in new) → (t : Txn) → IsAmong t (txns_in new) → last_of t < number
earlier_back table new number session index earlier one =
    each_becomes (λ t. last_of t < number) (λ t. last_of t < number) table.numbers earlier one (λ t other less. less) (λ less. omega (arith, less, one.becomes.last))

-- ---- the state

-- a transaction that is back at a savepoint has nothing left above its mark, so no page and no record of the log is another
module _ (s : State) (a : SessionTxn) (n : ℕ) (none : images_since a.undo n ≡ []) (here : length a.undo.images ≡ mark_of a.undo n) where
  pub back_log : (answered s a (call.BackTo n) WentBack s.counts).log ≡ s.log
  back_log = ap (and_compensations a.txn s.log) none

  pub back_slots : (g : _) → IsSafe g s → IsAmong a s.sessions.active → (p : PageId) → page_slots (answered s a (call.BackTo n) WentBack s.counts) p ≡ page_slots s p
  back_slots g safe mem p =
      let undo : UndoList = record { images = take (mark_of a.undo n) a.undo.images; marks = take (n + 1) a.undo.marks; rolling = None } in
      ap (λ es. slots_of (rolled_back s.sessions.records es) (with_undo a.txn undo s.sessions.active) p (s.counts p)) none
      ∙ marked_slots _ s.sessions.records s.sessions.active s.counts safe.roomy.pages a mem undo (ap (λ m. take m a.undo.images) (sym here) ∙ take-length a.undo.images) p (s.counts p)

pub no_images : (images : List (Rid × Image)) → length images ≡ 0 → images ≡ []
no_images [] none = refl
no_images (e ∷ images) none = absurd (omega arith)

-- ---- replies

module _ {T V : Type 0} {G : tail.Ghosts T} {H : disk.Ghosts V} (old new : Core T V G H) (front : List ℕ) (before : List LogRecord) (s : State) (store : CheckpointedStore) (session : ℕ) (a : SessionTxn)
    (safe : IsSafe (geometry_of old) s) (works : s.failed ≡ false) (idle : DoesNotWait s session) (r : Rollback) (roll : MayRoll a.undo r) (may : MayPutBack s session a r) (least : ℕ) (at : least ≡ least_kept a.undo r) where
  abbrev c : Call
  c = caller (geometry_of old) s safe session a works idle r may

  -- it was interrupted
  pub interrupted_replied : (res : Result Step Fault) (f : Fault) → IsErrAnd res (λ e. e ≡ f) → Unwinds new a r least (Err f) front before s store → Replied session c res old new front before s store
  interrupted_replied (Ok step) f same h = absurd same
  interrupted_replied (Err e) f same (mid, left, down, more, why, stays) = record {
    later = mid;
    replies = subst (λ (x : Fault). CallStep (geometry_of old) s session c (Refused x) (after_refusal x mid)) (sym same)
        (interrupted (geometry_of old) s safe session a works idle r roll may f mid (unwound_of s a r left mid (omega (arith, at, more)) down) why);
    comes = subst (λ (x : Fault). StaysRefused new front before mid store x) (sym same) stays;
  }

  -- all is put back, and then an allocation failed
  pub unended_replied : (mid_core : Core T V G H) (res : Result Step Fault) (f : Fault) → IsErrAnd res (λ e. e ≡ f) → (mid : State) → IsDownTo s a r least mid → (one : CoreComesTo mid_core front before store mid)
      → (f ≡ fault.Memory) → CoreComesTo new front before one.after mid → Replied session c res old new front before s store
  unended_replied mid_core res f same mid down one memory two =
      interrupted_replied res f same (mid, least, down, omega arith, inl memory, inr (comes_then mid_core new front before mid mid store one two))
