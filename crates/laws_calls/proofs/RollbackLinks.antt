-- Rollbacks as events of the sessions: each image is put back by an event of its own, which appends its Compensation. Then the way back or the abort is
-- answered, with no image left, or the call is refused.
use Rattle.std.proofs.Common.{◌≡◌, inl, inr, ◌++◌, ◌∷◌, ◌+◌, ◌≤◌, List, [], Bool, true, false, cond, refl, sym, ap, subst, ◌∙◌, append_assoc, arith, length}
use Rattle.std.specs.Prelude.{◌==◌, IsSome}
use Rattle.std.specs.FinMap.{get}
use Rattle.std.specs.List.{AllByRecursion}
use Rattle.shore_types.specs.Images.{Image}
use Rattle.shore_types.specs.declared.ids.Rid.{Rid}
use Rattle.shore_types.specs.declared.layout.Geometry.{Geometry}
use Rattle.shore_types.specs.declared.layout.TheConstants.{ENDING_COST}
use Rattle.shore_model.specs.declared.histories.Entry.{Entry}
use Rattle.shore_model.specs.declared.log_records.LogRecord.{LogRecord}
use Rattle.shore_model.specs.declared.log_records.Payload.TheVariants as payload
use Rattle.shore_model.specs.Logs.{logged_writes, previous_of}
use Rattle.laws_room.proofs.Costs.{compensation_bytes}
use Rattle.laws_room.specs.LogRooms.{ended_room, left_room, undone_room}
use Rattle.laws_lives.proofs.Lists.{length-push}
use Rattle.laws_lives.proofs.LoggedUndos.{with_compensations}
use Rattle.shore_model.specs.declared.rollbacks.Rollback.{Rollback}
use Rattle.laws_lives.specs.LogTells.{AreLogged}
use Rattle.laws_lives.specs.Logged.{and_compensations, and_record, log_after, next_to_undo}
use Rattle.laws_lives.specs.SessionSteps.{AnswerAbort, PutBack, SessionEvent, IsOwn, entries_by}
use Rattle.laws_lives.specs.Sessions.{SessionTxn, abort_answered, image_put_back, with_undo, in_doubt_of, seated}
use Rattle.laws_lives.specs.UndoLists.{MayRoll, UndoList, least_kept, rolled_back, undo_rolled}
use Rattle.laws_lives.specs.Views.{IsAmong}
use Rattle.laws_calls.proofs.Links.{Goes, GoesBy, HasRoomAfter, Writes, shorter_without, ended_with, ended_without}
use Rattle.laws_calls.proofs.ReplyLinks.{as_many}
use Rattle.laws_calls.proofs.Rooms.{cost_pushed}
use Rattle.laws_calls.proofs.Unwinding.{its_list, list_twice, may_roll_on, rolled_on, same_least, with_list}
use Rattle.laws_calls.specs.Rollbacks.{put_back}
use Rattle.laws_calls.specs.States.{State, cost_of_log, log_room}

-- ---- one image

module _ (g : Geometry) (s : State) (a : SessionTxn) where
  abbrev pub with_one_back : List (Rid × Image) → Rid × Image → Rollback → State
  with_one_back kept e r = record s {
    sessions = image_put_back s.sessions a kept e r;
    log = and_record a.txn s.log (payload.Compensation e.0 e.1 (next_to_undo a.txn s.log));
  }

  pub put_back_goes : IsAmong a s.sessions.active → (IsAmong a.txn (in_doubt_of s.sessions) → ⊥) → (kept : List (Rid × Image)) (e : Rid × Image) (r : Rollback) → a.undo.images ≡ kept ++ e ∷ [] → MayRoll a.undo r
      → least_kept a.undo r ≤ length kept → IsSome (get (logged_writes s.log a.txn) e.0) → Goes g s (PutBack a kept e r) (with_one_back kept e r)
  put_back_goes mem known kept e r is may least logged = record {
    moves = ((mem, known), is, may, least, refl);
    log = refl;
    durable = refl;
    stream = refl;
    waiting = refl;
    failed = refl;
    fits = refl;
    admits = tt;
    room = record {
      room = undone_room e.1 (log_room s);
      after = refl;
      kept = let cost = cost_pushed s.log _ in let bytes = compensation_bytes e.0 e.1 (next_to_undo a.txn s.log) in ap (λ n. cost_of_log s.log + n) bytes ∙ sym cost;
      stream = refl;
      last = sym (length-push s.log _);
    };
    writes = inr (inr (inr (inr (inl (record { txn = a.txn; id = e.0; image = e.1; next = next_to_undo a.txn s.log; log = refl; logged = logged; counts = refl })))));
    few = λ few.
        let undo = undo_rolled a.undo kept r in
        let same = as_many a.txn undo s.sessions.active in
        let ended = ap length (ended_with a.txn undo s.sessions.active s.sessions.resolving) in
        omega (arith, few, same, ended);
    numbers = λ most. most;
  }

-- ---- an abort with no image left

abbrev pub with_abort : State → SessionTxn → State
with_abort s a = record s { sessions = seated s.sessions (entries_by s.sessions (AnswerAbort a)) (abort_answered s.sessions a); log = log_after s.log s.sessions (AnswerAbort a) }

-- nothing is left to put back
abbrev bare : SessionTxn → SessionTxn
bare a = with_list a (record { images = []; marks = a.undo.marks; rolling = a.undo.rolling })

module _ (g : Geometry) (s : State) (a : SessionTxn) where
  abbrev ended_log : Bool → List LogRecord
  ended_log b = cond b s.log (and_record a.txn s.log payload.End)

  abbrev ended : Bool → State
  ended b = record s { sessions = seated s.sessions (entries_by s.sessions (AnswerAbort (bare a))) (abort_answered s.sessions (bare a)); log = ended_log b }

  end_room : (b : Bool) → HasRoomAfter s (AnswerAbort (bare a)) (ended b)
  end_room true = record { room = left_room ENDING_COST (log_room s); after = inr refl; kept = refl; stream = refl; last = refl }
  end_room false = record {
    room = ended_room ENDING_COST (log_room s);
    after = inl refl;
    kept = let cost = cost_pushed s.log _ in sym cost;
    stream = refl;
    last = sym (length-push s.log _);
  }

  end_writes : (b : Bool) → Writes g s (ended b)
  end_writes true = inl (refl, refl)
  end_writes false = inr (inr (inr (inl (record { txn = a.txn; log = refl; counts = refl }))))

  bare_goes : IsOwn s.sessions (bare a) → Goes g s (AnswerAbort (bare a)) (with_abort s (bare a))
  bare_goes own = record {
    moves = (own, refl);
    log = refl;
    durable = refl;
    stream = refl;
    waiting = refl;
    failed = refl;
    fits = refl;
    admits = tt;
    room = end_room (previous_of a.txn s.log == 0);
    writes = end_writes (previous_of a.txn s.log == 0);
    few = λ few.
        let shorter = shorter_without (bare a) s.sessions.active own.0 in
        let same = ap length (ended_without a.txn s.sessions.active s.sessions.resolving own.2.1) in
        omega (arith, few, shorter, same);
    numbers = λ most. most;
  }

  pub abort_goes : IsOwn s.sessions a → a.undo.images ≡ [] → Goes g s (AnswerAbort a) (with_abort s a)
  abort_goes own none =
      subst (λ (b : SessionTxn). IsOwn s.sessions b → Goes g s (AnswerAbort b) (with_abort s b)) same bare_goes own
    where
      same : bare a ≡ a
      same = ap (λ (es : List (Rid × Image)). with_list a (record { images = es; marks = a.undo.marks; rolling = a.undo.rolling })) (sym none)

-- ---- images one after another

-- one of these images, from the last on, and then these events
abbrev pub put_backs : SessionTxn → List (Rid × Image) → Rid × Image → List (Rid × Image) → Rollback → List SessionEvent → List SessionEvent
put_backs a kept e [] r events = PutBack a kept e r ∷ events
put_backs a kept e (f ∷ es) r events = put_backs a (kept ++ e ∷ []) f es r (PutBack (with_list a (undo_rolled a.undo (kept ++ e ∷ []) r)) kept e r ∷ events)

-- what holds of each of them holds of all
pub all_put_backs : (P : SessionEvent → Type 0) (a : SessionTxn) → ((undo : UndoList) (kept : List (Rid × Image)) (e : Rid × Image) (r : Rollback) → P (PutBack (with_list a undo) kept e r))
    → (kept : List (Rid × Image)) (e : Rid × Image) (es : List (Rid × Image)) (r : Rollback) (events : List SessionEvent) → AllByRecursion P events → AllByRecursion P (put_backs a kept e es r events)
all_put_backs P a each kept e [] r events all = (each a.undo kept e r, all)
all_put_backs P a each kept e (f ∷ es) r events all =
    all_put_backs P a each (kept ++ e ∷ []) f es r (PutBack (with_list a (undo_rolled a.undo (kept ++ e ∷ []) r)) kept e r ∷ events)
    (each (undo_rolled a.undo (kept ++ e ∷ []) r) kept e r, all)

pub one_logged : (P : Rid × Image → Type 0) (kept : List (Rid × Image)) (e : Rid × Image) (es : List (Rid × Image)) → AllByRecursion P (kept ++ e ∷ es) → P e
one_logged P [] e es h = h.0
one_logged P (x ∷ kept) e es h = one_logged P kept e es h.1

module _ (g : Geometry) (s : State) (a : SessionTxn) (mem : IsAmong a s.sessions.active) (known : IsAmong a.txn (in_doubt_of s.sessions) → ⊥) (logged : AreLogged s.log a.txn a.undo.images) (r : Rollback) (may : MayRoll a.undo r) where
  -- its undo list has come down to these
  abbrev pub rolled : List (Rid × Image) → SessionTxn
  rolled kept = with_list a (undo_rolled a.undo kept r)

  module _ (kept : List (Rid × Image)) (e : Rid × Image) (es : List (Rid × Image)) (is : a.undo.images ≡ kept ++ e ∷ es) (least : least_kept a.undo r ≤ length kept) where
    -- the images behind it are back
    abbrev behind : List (Rid × Image) → State
    behind fs = put_back s a (kept ++ e ∷ []) fs r

    its_image : (fs : List (Rid × Image)) → IsSome (get (logged_writes (and_compensations a.txn s.log fs) a.txn) e.0)
    its_image fs =
        let all = with_compensations a.txn (kept ++ e ∷ es) a.txn s.log fs (subst (AreLogged s.log a.txn) is logged) in
        one_logged (λ d. IsSome (get (logged_writes (and_compensations a.txn s.log fs) a.txn) d.0)) kept e es all

    same_state : (fs : List (Rid × Image)) → with_one_back g (behind fs) (rolled (kept ++ e ∷ [])) kept e r ≡ put_back s a kept (e ∷ fs) r
    same_state fs =
        ap (λ (xs : List SessionTxn). record s { sessions = record s.sessions { records = rolled_back s.sessions.records (e ∷ fs); active = xs }; log = and_compensations a.txn s.log (e ∷ fs) })
        (list_twice a.txn (undo_rolled a.undo (kept ++ e ∷ []) r) (undo_rolled (undo_rolled a.undo (kept ++ e ∷ []) r) kept r) s.sessions.active
        ∙ ap (λ (undo : UndoList). with_undo a.txn undo s.sessions.active) (rolled_on a.undo (kept ++ e ∷ []) r kept))

    next_goes : (fs : List (Rid × Image)) → Goes g (behind fs) (PutBack (rolled (kept ++ e ∷ [])) kept e r) (put_back s a kept (e ∷ fs) r)
    next_goes fs =
        subst (Goes g (behind fs) (PutBack (rolled (kept ++ e ∷ [])) kept e r)) (same_state fs)
        (put_back_goes g (behind fs) (rolled (kept ++ e ∷ [])) (its_list a (undo_rolled a.undo (kept ++ e ∷ []) r) s.sessions.active mem) known kept e r refl
        (may_roll_on a.undo (kept ++ e ∷ []) r may) (subst (λ n. n ≤ length kept) (sym (same_least a.undo (kept ++ e ∷ []) r may)) least) (its_image fs))

  pub put_backs_go : (kept : List (Rid × Image)) (e : Rid × Image) (es : List (Rid × Image)) → a.undo.images ≡ kept ++ e ∷ es → least_kept a.undo r ≤ length kept
      → (events : List SessionEvent) (new : State) (made : List Entry) → GoesBy g (put_back s a kept (e ∷ es) r) events new made → GoesBy g s (put_backs a kept e es r events) new made
  put_backs_go kept e [] is least events new made h =
      (put_back s a kept (e ∷ []) r, made, put_back_goes g s a mem known kept e r is may least (its_image kept e [] is least []), h, refl)
  put_backs_go kept e (f ∷ es) is least events new made h =
      put_backs_go (kept ++ e ∷ []) f es (is ∙ sym (append_assoc kept (e ∷ []) (f ∷ es))) (let longer = length-push kept e in omega arith)
      (PutBack (rolled (kept ++ e ∷ [])) kept e r ∷ events) new made
      (put_back s a kept (e ∷ f ∷ es) r, made, next_goes kept e (f ∷ es) is least (f ∷ es), h, refl)
