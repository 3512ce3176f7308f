-- Savepoints, ways back and aborts: which events of the sessions each is, whether it is answered or interrupted.
use Rattle.std.proofs.Common.{◌≡◌, inl, inr, ◌++◌, ◌∷◌, ◌+◌, ◌<◌, ◌≤◌, ℕ, List, [], None, Ok, Err, refl, sym, ap, subst, ◌∙◌, arith, length, take, take-append-drop}
use Rattle.shore_types.specs.Images.{Image}
use Rattle.shore_types.specs.declared.faults.Fault.{Fault}
use Rattle.shore_types.specs.declared.faults.Fault.TheVariants as fault
use Rattle.shore_types.specs.declared.ids.Rid.{Rid}
use Rattle.shore_types.specs.declared.layout.Geometry.{Geometry}
use Rattle.shore_model.specs.declared.calls.Answer.{Answer}
use Rattle.shore_model.specs.declared.calls.Answer.TheVariants.{Aborted, WentBack}
use Rattle.shore_model.specs.declared.calls.Call.{Call}
use Rattle.shore_model.specs.declared.calls.Call.TheVariants as call
use Rattle.shore_model.specs.declared.histories.Entry.{Entry}
use Rattle.shore_model.specs.declared.histories.Opening.{Opening}
use Rattle.shore_model.specs.declared.histories.Entry.TheVariants.{Exchanged}
use Rattle.shore_model.specs.declared.log_records.LogRecord.{LogRecord}
use Rattle.shore_model.specs.Records.{Records}
use Rattle.laws_lives.proofs.Lists.{take-take}
use Rattle.shore_model.specs.declared.rollbacks.Rollback.{Rollback}
use Rattle.shore_model.specs.declared.rollbacks.Rollback.TheVariants.{To, Whole}
use Rattle.laws_lives.specs.Logged.{and_compensations}
use Rattle.laws_lives.specs.SessionSteps.{GiveReply, PutBack, RefuseCall, SessionEvent, TellsNothing, exchange, IsOwn}
use Rattle.laws_lives.specs.Sessions.{SessionTxn, with_undo}
use Rattle.laws_lives.specs.UndoLists.{MayRoll, UndoList, images_since, mark_of, rolled_back, undo_rolled}
use Rattle.shore_model.specs.declared.step.Step.{Step}
use Rattle.shore_model.specs.declared.step.Step.TheVariants.{Done, Nothing, Refused, Waits}
use Rattle.laws_calls.proofs.Links.{GoesQuietly, IsLeft, IsQuiet, quietly_one, refusal_goes}
use Rattle.laws_calls.proofs.Passing.{refused_left, reply_passes, told_passes}
use Rattle.laws_calls.proofs.RefusalTells.{same_entry}
use Rattle.laws_calls.proofs.ReplyLinks.{back_takes, reply_goes, savepoint_takes}
use Rattle.laws_calls.proofs.RollbackLinks.{all_put_backs, put_backs}
use Rattle.laws_calls.proofs.RollingCalls.{Unwinds, backs_go, interrupts_tell_nothing, mark_of_within, may_go_back, rolls_back, some_or_none}
use Rattle.laws_calls.proofs.Sessions.{its_txn, one_member, own_of, refused_seats}
use Rattle.laws_calls.proofs.Unwinding.{front, front_least, front_whole, its_list, list_twice, may_roll_on, none_since, with_list}
use Rattle.laws_calls.specs.CallHistories.{txn_of}
use Rattle.laws_calls.specs.CallSteps.{aborted}
use Rattle.laws_calls.specs.LockedStates.{IsSessionsState}
use Rattle.laws_calls.specs.Rollbacks.{BackToStep, IsInterrupted, SavepointStep, TakesCall, put_back}
use Rattle.laws_calls.specs.StateChanges.{after_refusal, answered}
use Rattle.laws_calls.specs.States.{DoesNotWait, HasSeat, IsOfSession, State}
use Rattle.laws_calls.proofs.Told.{entries_told}

-- the transaction of a session that does not wait is aborted, and its locks go
pub record Aborts (s : State) (session : ℕ) (new : State) (made : List Entry) : Type 0 where
  pub txn : SessionTxn
  pub of : IsOfSession s session txn
  pub idle : DoesNotWait s session
  pub is : new ≡ aborted s txn
  pub entries : made ≡ Exchanged session (txn_of s.sessions session) (exchange call.Abort (Ok Aborted)) ∷ []

module _ (g : Geometry) (o : Opening) (found : List LogRecord) (es : List Entry) (session : ℕ) (a : SessionTxn) (of : a.session ≡ session) (s : State) (k : IsSessionsState o found es s)
    (mem : HasSeat s.sessions a) (idle : DoesNotWait s session) where
  abbrev Passes : State → List Entry → Type 0
  Passes new made = GoesQuietly g session s new made

  -- its session has no call that waits
  back_is_quiet : (undo : UndoList) (kept : List (Rid × Image)) (e : Rid × Image) (r : Rollback) → IsQuiet s (PutBack (with_list a undo) kept e r)
  back_is_quiet undo kept e r b w m n same its = idle w n (sym same ∙ ap (λ (x : SessionTxn). x.session) (one_member k b a m.0 mem.0 its) ∙ of)

  -- it is its session's with another undo list
  own_rolled : (undo : UndoList) → IsOwn (record s.sessions { active = with_undo a.txn undo s.sessions.active }) (with_list a undo)
  own_rolled undo = let own = own_of k a mem in (its_list a undo s.sessions.active own.0, own.1, own.2)

  -- ---- some images are put back, and then the call is refused

  refused_passes : (r : Rollback) → MayRoll a.undo r → (c : Call) (f : Fault) → TellsNothing f → (mid new : State) → Unwinds g o found es session a of s k mem r mid → new ≡ after_refusal f mid
      → Passes new (Exchanged session (txn_of s.sessions session) (exchange c (Err f)) ∷ [])
  refused_passes r may c f nothing mid new x is =
      let unwound = put_back s a x.kept (x.newest ∷ x.others) r in
      let t = txn_of s.sessions session in
      let its = with_list a (undo_rolled a.undo x.kept r) in
      let e : SessionEvent = RefuseCall session t c f in
      record {
        events = put_backs a x.kept x.newest x.others r (e ∷ []);
        quiet = all_put_backs (IsQuiet s) a back_is_quiet x.kept x.newest x.others r (e ∷ []) (tt, tt);
        mid = unwound;
        goes =
            backs_go g o found es session a of s k mem r may x.kept x.newest x.others x.images x.least (e ∷ []) unwound (Exchanged session t (exchange c (Err f)) ∷ []) (
              unwound,
              [],
              refusal_goes g unwound session t c f
                  (refl, nothing, refused_seats unwound.sessions session t c f),
              (refl, refl),
              refl,
            );
        left = subst (IsLeft session unwound) (sym (is ∙ ap (after_refusal f) x.is)) (refused_left session unwound f);
      }

  interrupted_passes : (r : Rollback) → MayRoll a.undo r → (c : Call) (f : Fault) (new : State) → IsInterrupted s a r f new
      → Passes new (Exchanged session (txn_of s.sessions session) (exchange c (Err f)) ∷ [])
  interrupted_passes r may c f new h =
      some_or_none g o found es session a of s k mem r h.0 h.1 (Passes new (Exchanged session (txn_of s.sessions session) (exchange c (Err f)) ∷ []))
      (λ same.
      subst (λ (n : State). Passes n (Exchanged session (txn_of s.sessions session) (exchange c (Err f)) ∷ [])) (sym (h.3 ∙ ap (after_refusal f) same))
      (told_passes g o found es session s (after_refusal f s) c f nothing (refused_left session s f)))
      (λ x. refused_passes r may c f nothing h.0 new x h.3)
    where
      nothing : TellsNothing f
      nothing = interrupts_tell_nothing h.0 f h.2

  exactly_passes : (c : Call) (f exact : Fault) (new : State) → f ≡ exact → TellsNothing exact → new ≡ s → Passes new (Exchanged session (txn_of s.sessions session) (exchange c (Err f)) ∷ [])
  exactly_passes c f exact new is nothing same = told_passes g o found es session s new c f (subst TellsNothing (sym is) nothing) (inl same)

  -- ---- a savepoint

  pub savepoint_passes : a.undo.rolling ≡ None → (step : Step) (new : State) → SavepointStep s a step new → Passes new (entries_told s session call.Savepoint step)
  savepoint_passes whole (Done answer) new h =
      subst (λ (n : State). Passes n (entries_told s session call.Savepoint (Done answer))) (sym h.2)
      (reply_passes g o found es session a of whole s k mem call.Savepoint tt answer s.counts tt h.1 (savepoint_takes g s a answer))
  savepoint_passes whole (Refused f) new h = exactly_passes call.Savepoint f fault.TooManySavepoints new h.0 tt h.2
  savepoint_passes whole (Waits wait) new h = absurd h
  savepoint_passes whole Nothing new h = absurd h

  -- ---- a way back

  module _ (n : ℕ) (less : n < length a.undo.marks) (takes : TakesCall a.undo (call.BackTo n)) where
    abbrev went_back : State
    went_back = answered s a (call.BackTo n) WentBack s.counts

    abbrev back_entry : Entry
    back_entry = Exchanged a.session a.txn (exchange (call.BackTo n) (Ok WentBack))

    within : mark_of a.undo n ≤ length a.undo.images
    within = mark_of_within g o found es session a of s k mem n less

    -- nothing is to be put back
    back_at_once : images_since a.undo n ≡ [] → Passes went_back (back_entry ∷ [])
    back_at_once none =
        quietly_one g session s (GiveReply a (call.BackTo n) (Ok WentBack)) went_back went_back tt
        (reply_goes g s a (own_of k a mem) (call.BackTo n) tt WentBack s.counts tt (less, refl) (may_go_back a n takes) (back_takes g s a n WentBack none)) (inl refl)

    -- the images since the savepoint come back, and then the call is answered
    module _ (e : Rid × Image) (others : List (Rid × Image)) (since : images_since a.undo n ≡ e ∷ others) where
      abbrev kept : List (Rid × Image)
      kept = front a.undo n less within

      abbrev its_undo : UndoList
      its_undo = undo_rolled a.undo kept (To n)

      abbrev its : SessionTxn
      its = with_list a its_undo

      abbrev unwound : State
      unwound = put_back s a kept (e ∷ others) (To n)

      images : a.undo.images ≡ kept ++ e ∷ others
      images = sym (take-append-drop (mark_of a.undo n) a.undo.images) ∙ ap (λ (xs : List (Rid × Image)). kept ++ xs) since

      none_left : images_since its_undo n ≡ []
      none_left = none_since a.undo n less within

      its_mark : n < length its_undo.marks
      its_mark = let may : MayRoll its_undo (To n) = may_roll_on a.undo kept (To n) (rolls_back a n takes less) in may.0

      abbrev left_by : Records → List SessionTxn → List LogRecord → State
      left_by R xs log = record s { sessions = record s.sessions { records = R; active = xs }; counts = s.counts; log = log }

      abbrev once_back : List (Rid × Image) → List ℕ → UndoList
      once_back xs ms = record { images = xs; marks = ms; rolling = None }

      same_end : answered unwound its (call.BackTo n) WentBack unwound.counts ≡ went_back
      same_end =
          let R = s.sessions.records in
          let xs = s.sessions.active in
          let t = a.txn in
          let marks = take (n + 1) a.undo.marks in
          let records : rolled_back (rolled_back R (e ∷ others)) (images_since its_undo n) ≡ rolled_back R (images_since a.undo n) =
          ap (rolled_back (rolled_back R (e ∷ others))) none_left ∙ ap (rolled_back R) (sym since) in
          let log : and_compensations t (and_compensations t s.log (e ∷ others)) (images_since its_undo n) ≡ and_compensations t s.log (images_since a.undo n) =
          ap (and_compensations t (and_compensations t s.log (e ∷ others))) none_left ∙ ap (and_compensations t s.log) (sym since) in
          let undo : once_back (take (mark_of its_undo n) kept) (take (n + 1) marks) ≡ once_back kept marks =
          ap (λ ys. once_back ys (take (n + 1) marks)) (front_whole a.undo n less within) ∙ ap (once_back kept) (take-take (n + 1) (n + 1) a.undo.marks (omega arith)) in
          let active : with_undo t (once_back (take (mark_of its_undo n) kept) (take (n + 1) marks)) (with_undo t its_undo xs) ≡ with_undo t (once_back kept marks) xs =
          list_twice t its_undo (once_back (take (mark_of its_undo n) kept) (take (n + 1) marks)) xs ∙ ap (λ (u : UndoList). with_undo t u xs) undo in
          ap (λ (x : Records). left_by x (with_undo t (once_back (take (mark_of its_undo n) kept) (take (n + 1) marks)) (with_undo t its_undo xs)) (and_compensations t (and_compensations t s.log (e ∷ others)) (images_since its_undo n))) records
          ∙ ap (λ (x : List SessionTxn). left_by (rolled_back R (images_since a.undo n)) x (and_compensations t (and_compensations t s.log (e ∷ others)) (images_since its_undo n))) active
          ∙ ap (λ (x : List LogRecord). left_by (rolled_back R (images_since a.undo n)) (with_undo t (once_back kept marks) xs) x) log

      back_in_steps : Passes went_back (back_entry ∷ [])
      back_in_steps =
          let reply : SessionEvent = GiveReply its (call.BackTo n) (Ok WentBack) in
          let end = answered unwound its (call.BackTo n) WentBack unwound.counts in
          subst (λ (x : State). Passes x (back_entry ∷ [])) same_end
          (record {
            events = put_backs a kept e others (To n) (reply ∷ []);
            quiet = all_put_backs (IsQuiet s) a back_is_quiet kept e others (To n) (reply ∷ []) (tt, tt);
            mid = end;
            goes =
                backs_go g o found es session a of s k mem (To n) (rolls_back a n takes less) kept e others images (front_least a.undo n less within) (reply ∷ []) end (back_entry ∷ []) (
                  end,
                  [],
                  reply_goes g unwound its (own_rolled its_undo) (call.BackTo n) tt WentBack unwound.counts tt (its_mark, refl) (inr (n, WentBack, refl, refl, refl))
                      (back_takes g unwound its n WentBack none_left),
                  (refl, refl),
                  refl,
                );
            left = inl refl;
          })

    back_answered : Passes went_back (back_entry ∷ [])
    back_answered = by (images_since a.undo n) refl
      where
        by : (xs : List (Rid × Image)) → images_since a.undo n ≡ xs → Passes went_back (back_entry ∷ [])
        by [] none = back_at_once none
        by (e ∷ others) since = back_in_steps e others since

  pub back_passes : (n : ℕ) → TakesCall a.undo (call.BackTo n) → (step : Step) (new : State) → BackToStep s a n step new → Passes new (entries_told s session (call.BackTo n) step)
  back_passes n takes (Done answer) new h =
      subst (λ (x : State). Passes x (entries_told s session (call.BackTo n) (Done answer))) (sym h.2)
      (subst (λ (x : Answer). Passes (answered s a (call.BackTo n) x s.counts) (entries_told s session (call.BackTo n) (Done x))) (sym h.1)
      (subst (λ (e : Entry). Passes (answered s a (call.BackTo n) WentBack s.counts) (e ∷ []))
      (same_entry a.session session a.txn (txn_of s.sessions session) (exchange (call.BackTo n) (Ok WentBack)) of (sym (its_txn s.sessions a session mem.1 of))) (back_answered n h.0 takes)))
  back_passes n takes (Refused f) new (inl h) = exactly_passes (call.BackTo n) f fault.NoSavepoint new h.0 tt h.2
  back_passes n takes (Refused f) new (inr h) = interrupted_passes (To n) (rolls_back a n takes h.0) (call.BackTo n) f new h.1
  back_passes n takes (Waits wait) new h = absurd h
  back_passes n takes Nothing new h = absurd h

  -- ---- an abort

  pub abort_refused_passes : (f : Fault) (new : State) → IsInterrupted s a Whole f new → Passes new (entries_told s session call.Abort (Refused f))
  abort_refused_passes f new h = interrupted_passes Whole tt call.Abort f new h
