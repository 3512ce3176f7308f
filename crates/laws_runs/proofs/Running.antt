-- Each event of a manager leaves a log that a restart takes.
use Rattle.std.proofs.Common.{◌≡◌, ◌⊎◌, inl, inr, ⊎_elim, ◌++◌, ◌+◌, ◌-◌, ◌<◌, ◌≤◌, ℕ, List, [], ◌∷◌, Option, Some, None, true, refl, sym, ap, subst, ◌∙◌, length, arith}
use Rattle.std.specs.Prelude.{All, IsSome, not}
use Rattle.std.specs.FinMap.{get}
use Rattle.std.specs.List.{AllByRecursion}
use Rattle.std.specs.List.Sorted.{IsStrictlySortedBy}
use Rattle.std.proofs.Math.Seq.{take-length}
use Rattle.std.proofs.lemmas.Bool.{true≢false}
use Rattle.std.proofs.lemmas.List.{append_cancel_left, take-append-le}
use Rattle.std.proofs.lemmas.List.Elements.{All-nil, All-push, recursion_from_All}
use Rattle.shore_types.specs.Images.{Image, image_len}
use Rattle.shore_types.specs.Layout.{HasGranule, HasPage, HasSlot}
use Rattle.shore_types.specs.Locking.{granule_cmp}
use Rattle.shore_types.specs.declared.ids.PageId.{PageId}
use Rattle.shore_types.specs.declared.ids.Rid.{Rid}
use Rattle.shore_types.specs.declared.layout.Geometry.{Geometry}
use Rattle.shore_types.specs.declared.layout.TheConstants.{LAST_TXN, MAX_TRANSACTIONS}
use Rattle.shore_model.specs.declared.histories.Entry.{Entry}
use Rattle.shore_model.specs.declared.histories.Opening.{Opening}
use Rattle.shore_model.specs.declared.log_records.LogRecord.{LogRecord}
use Rattle.shore_types.specs.declared.locking.Granule.{Granule}
use Rattle.shore_model.specs.declared.log_records.Payload.{Payload}
use Rattle.shore_model.specs.declared.log_records.Payload.TheVariants as payload
use Rattle.shore_model.specs.Locks.{WellRooted}
use Rattle.shore_model.specs.Logs.{Answers, Lawful, MayFollow, MaySay, has, id_in, image_in, is_prepare, is_unprepared, previous_of, unanswered}
use Rattle.shore_model.specs.declared.calls.Call.TheVariants as call
use Rattle.shore_model.specs.declared.step.Step.{Step}
use Rattle.shore_model.specs.declared.step.Step.TheVariants.{Waits}
use Rattle.shore_model.specs.declared.step.Wait.{Wait}
use Rattle.shore_cycles.specs.declared.victims.Victim.{Victim}
use Rattle.shore_analysis.specs.Meant.{AreGranules, IsInBounds, IsServedKind, ListsInBounds, granules_in, next_in}
use Rattle.laws_calls.proofs.Comings.{goes_keeps, like_keeps}
use Rattle.laws_calls.proofs.LockWaits.{waits_may_ask}
use Rattle.laws_calls.proofs.PrepareSteps.{prepare_goes, with_prepare}
use Rattle.laws_calls.proofs.SessionInversions.{waits_of}
use Rattle.laws_calls.proofs.SettledComings.{session_event_comes}
use Rattle.laws_calls.proofs.SettledWaits.{call_has_asked}
use Rattle.laws_calls.proofs.LongerLogs.{give_up_further, settled_call_further, settled_resume_further}
use Rattle.laws_calls.proofs.Links.{Changes, ComesBy, Commits, Compensates, Decides, Ends, Goes, GoesBy, IsLike, Writes}
use Rattle.laws_calls.proofs.SessionRooms.{goes_roomy, like_roomy, session_event_roomy}
use Rattle.laws_calls.proofs.SettledStates.{session_event_stays}
use Rattle.laws_calls.proofs.Sessions.{AreSessionsAfter}
use Rattle.laws_calls.proofs.TakenLocks.{sessions_of}
use Rattle.laws_calls.specs.CallHistories.{IsRoomyState}
use Rattle.laws_calls.specs.Events.{Called, Forced, GaveUp, HasFailed, IsStateAfter, ManagerEvent, EventMoves, MovesMaking, Resumed, entries_of, TicketAsked}
use Rattle.laws_calls.specs.CallSteps.{CallStep, InnerStep, ended_among, txn_count}
use Rattle.laws_calls.specs.Prepares.{PrepareStep, granules_in_ex, prepared}
use Rattle.laws_calls.specs.Settling.{Settles}
use Rattle.laws_calls.specs.Shapes.{LockWaitsMayAsk}
use Rattle.laws_calls.specs.States.{HasSeat, State}
use Rattle.laws_lives.proofs.OneMore.{has-this}
use Rattle.laws_lives.proofs.Redo.{slice_get_last}
use Rattle.laws_lives.proofs.WholeLogs.{image_in_place}
use Rattle.laws_lives.proofs.WholeSteps.{event_stays_whole}
use Rattle.laws_lives.specs.WholeLogs.{IsWholeLog}
use Rattle.laws_room.proofs.Pages.{page_or_other}
use Rattle.laws_room.specs.Claims.{Grows, SlotCounts}
use Rattle.laws_lives.specs.Logged.{and_record}
use Rattle.laws_lives.specs.SessionSteps.{AppendPrepare, AreExclusive, SessionEvent, entries_by}
use Rattle.laws_lives.specs.Sessions.{SessionTxn, Sessions, txns_of}
use Rattle.laws_lives.specs.Doubts.{NeedMore, doubts_in}
use Rattle.laws_lives.specs.Undo.{IsLoser}
use Rattle.laws_lives.specs.Views.{IsAmong}
use Rattle.laws_runs.proofs.Opens.{records_inside}
use Rattle.laws_runs.proofs.EventEntries.{PreparesNothing, event_decides_no_prepare}
use Rattle.laws_runs.proofs.EventRecords.{IsNoPrepare, losers_stay, prepares_none}
use Rattle.laws_runs.proofs.LockBounds.{event_keeps_locks, same_bounds}
use Rattle.laws_runs.proofs.LockPlaces.{HoldsInBounds, exclusive_inside, fewer_need, held_have_places, holds_in_bounds}
use Rattle.laws_runs.proofs.Prefixes.{later_roomy, push_roomy, whole_placed, whole_roomy}
use Rattle.laws_runs.proofs.LoggedIds.{logged_inside, logged_slot}
use Rattle.laws_runs.proofs.SlotCounts.{behind_elsewhere, behind_here, behind_within, slot_count-push}
use Rattle.laws_runs.proofs.StateLosers.{state_is_roomy}
use Rattle.laws_runs.specs.RoomyLogs.{AreRoomy, IsRoomyLog}
use Rattle.laws_runs.specs.RoomyStates.{HasLocksInBounds, LeavesRoomyLogs, LeavesRoomyLogsFrom}
use Rattle.laws_runs.specs.SlotCounts.{slot_count, slots_behind}
use Rattle.shore_analysis.specs.Sizes.{HasSizes}
use Rattle.shore_types.specs.Versions.{global_limit, record_limit}
use Rattle.shore_model.specs.declared.unanswered_changes.UnansweredChange.{UnansweredChange}
use Rattle.laws_lives.specs.UndoChains.{IsUndoChain}
use Rattle.laws_lives.proofs.UndoChains.{unanswered_chain}
use Rattle.laws_runs.proofs.Redoing.{all_at}

-- ---- what an event appends

pub last_follows : (log : List LogRecord) (r : LogRecord) → Lawful (log ++ r ∷ []) → MayFollow log r
last_follows log r lawful =
    subst (λ l. MayFollow l r) (take-append-le (length log) log (r ∷ []) (omega arith) ∙ take-length log) (lawful (length log) r (slice_get_last log r))

-- the log goes on by a record that is in bounds, and the slots of pages with it
record AppendsOne (g : Geometry) (log new : List LogRecord) (old counts : SlotCounts) : Type 0 where
  appended : LogRecord
  is : new ≡ log ++ appended ∷ []
  served : IsServedKind appended.payload
  inside : (id : Rid) → id_in appended.payload ≡ Some id → HasSlot g id
  granules : AreGranules g (granules_in appended.payload)
  sizes : HasSizes g.version appended.payload
  grown : (p : PageId) → counts p ≡ slots_behind p (image_in appended.payload) (old p)

-- only an End names a next number
served_names_none : (p : Payload) → IsServedKind p → next_in p ≡ 0
served_names_none (payload.CheckpointEnd begin next txns dirty) served = absurd served
served_names_none _ served = refl

-- .. and lists pages
served_lists_none : (g : Geometry) (p : Payload) → IsServedKind p → ListsInBounds g p
served_lists_none g (payload.CheckpointEnd begin next txns dirty) served = absurd served
served_lists_none g (payload.Change id was image) served = tt
served_lists_none g (payload.Compensation id image undo_next) served = tt
served_lists_none g payload.Commit served = tt
served_lists_none g payload.End served = tt
served_lists_none g (payload.Prepare global granules) served = tt
served_lists_none g payload.RollbackDecided served = tt
served_lists_none g payload.CheckpointBegin served = tt
served_lists_none g (payload.Anchor checkpoint tail) served = tt

-- a record that is no Prepare names no granules
pub names_none : (g : Geometry) → AreGranules g []
unfolding IsStrictlySortedBy
names_none g = record { inside = All-nil (HasGranule g); rise = tt }

grown_behind : (old new : SlotCounts) (id : Rid) (image : Image) → Grows old new id → (p : PageId) → new p ≡ slots_behind p (Some (id, image)) (old p)
grown_behind old new id image h p =
    ⊎_elim
    (λ here. subst (λ q. new q ≡ slots_behind q (Some (id, image)) (old q)) (sym here) (h.here ∙ sym (behind_here (id, image) (old id.page))))
    (λ other. h.others p other ∙ sym (behind_elsewhere p (id, image) (old p) other))
    (page_or_other p id.page)

commit_appends : (g : Geometry) (s new : State) → Commits s new → AppendsOne g s.log new.log s.counts new.counts
commit_appends g s new h = record {
  appended = record { txn = h.txn; previous = previous_of h.txn s.log; payload = payload.Commit };
  is = h.log;
  served = tt;
  inside = λ id e. absurd (nothing id e);
  granules = names_none g;
  sizes = tt;
  grown = λ p. ap (λ (c : SlotCounts). c p) h.counts;
}
  where
    nothing : (id : Rid) → ◌≡◌ {A = Option Rid} None (Some id) → ⊥
    nothing id e = cc

end_appends : (g : Geometry) (s new : State) → Ends s new → AppendsOne g s.log new.log s.counts new.counts
end_appends g s new h = record {
  appended = record { txn = h.txn; previous = previous_of h.txn s.log; payload = payload.End };
  is = h.log;
  served = tt;
  inside = λ id e. absurd (nothing id e);
  granules = names_none g;
  sizes = tt;
  grown = λ p. ap (λ (c : SlotCounts). c p) h.counts;
}
  where
    nothing : (id : Rid) → ◌≡◌ {A = Option Rid} None (Some id) → ⊥
    nothing id e = cc

-- the page of an image that is put back has its slot
compensation_appends : (g : Geometry) (s new : State) (h : Compensates s new) → HasSlot g h.id → h.id.slot < s.counts h.id.page → image_len h.image ≤ record_limit g.version → AppendsOne g s.log new.log s.counts new.counts
compensation_appends g s new h inside slot short = record {
  appended = record { txn = h.txn; previous = previous_of h.txn s.log; payload = payload.Compensation h.id h.image h.next };
  is = h.log;
  served = tt;
  inside = λ q e. subst (HasSlot g) (same q e) inside;
  granules = names_none g;
  sizes = short;
  grown = λ p.
      ap (λ (c : SlotCounts). c p) h.counts
      ∙ sym (behind_within p (h.id, h.image) (s.counts p) (λ here. subst (λ q. h.id.slot < s.counts q) (sym here) slot));
}
  where
    same : (q : Rid) → ◌≡◌ {A = Option Rid} (Some h.id) (Some q) → h.id ≡ q
    same q e = cc

abbrev IsDecision : Payload → Type 0
IsDecision says = ((global : List ℕ) × (granules : List Granule) × (says ≡ payload.Prepare global granules) × IsStrictlySortedBy granule_cmp granules) ⊎ (says ≡ payload.RollbackDecided)

decision_appends : (g : Geometry) (s new : State) (h : Decides s new) → AreGranules g (granules_in h.says) → HasSizes g.version h.says → AppendsOne g s.log new.log s.counts new.counts
decision_appends g s new h names sizes = record {
  appended = record { txn = h.txn; previous = previous_of h.txn s.log; payload = h.says };
  is = h.log;
  served = served h.says h.decides;
  inside = λ id e. absurd (no_id h.says h.decides id e);
  granules = names;
  sizes = sizes;
  grown = λ p. ap (λ (c : SlotCounts). c p) h.counts ∙ sym (same_behind h.says h.decides p);
}
  where
    served : (says : Payload) → IsDecision says → IsServedKind says
    served says (inl prepare) = subst IsServedKind (sym prepare.2) tt
    served says (inr rollback) = subst IsServedKind (sym rollback) tt

    no_image : (says : Payload) → IsDecision says → image_in says ≡ None
    no_image says (inl prepare) = ap image_in prepare.2
    no_image says (inr rollback) = ap image_in rollback

    nothing : (id : Rid) → ◌≡◌ {A = Option Rid} None (Some id) → ⊥
    nothing id e = cc

    no_id : (says : Payload) → IsDecision says → (id : Rid) → id_in says ≡ Some id → ⊥
    no_id says (inl prepare) id e = nothing id (sym (ap id_in prepare.2) ∙ e)
    no_id says (inr rollback) id e = nothing id (sym (ap id_in rollback) ∙ e)

    same_behind : (says : Payload) → IsDecision says → (p : PageId) → slots_behind p (image_in says) (s.counts p) ≡ s.counts p
    same_behind says is p = ap (λ o. slots_behind p o (s.counts p)) (no_image says is)

change_appends : (g : Geometry) (s new : State) (h : Changes g s new) → HasPage g h.id.page → image_len (get s.sessions.records h.id) ≤ record_limit g.version → AppendsOne g s.log new.log s.counts new.counts
change_appends g s new h page was = record {
  appended = record { txn = h.txn; previous = previous_of h.txn s.log; payload = payload.Change h.id (get s.sessions.records h.id) h.image };
  is = h.log;
  served = tt;
  inside = λ q e. subst (HasSlot g) (same q e) (page, h.fits.there);
  granules = names_none g;
  sizes = (was, h.fits.most);
  grown = grown_behind s.counts new.counts h.id h.image h.grows;
}
  where
    same : (q : Rid) → ◌≡◌ {A = Option Rid} (Some h.id) (Some q) → h.id ≡ q
    same q e = cc

-- what events of the sessions keep: all but the lock table, of which they know what is held
pub record LeavesLogs (g : Geometry) (stream_bytes least : ℕ) (s : State) : Type 0 where
  pub as_long : s.stream_bytes ≡ stream_bytes
  pub prefixes : AreRoomy g stream_bytes least s.log
  pub counts : (p : PageId) → s.counts p ≡ slot_count s.log p
  pub whole : IsWholeLog s.log s.sessions
  pub losers : (t : ℕ) → IsLoser s.log t → IsAmong t (txns_of s.sessions.active)
  pub txns : s.sessions.next_txn ≤ LAST_TXN

but_locks : (g : Geometry) (stream_bytes least : ℕ) (s : State) → LeavesRoomyLogsFrom g stream_bytes least s → LeavesLogs g stream_bytes least s
but_locks g stream_bytes least s h = record { as_long = h.as_long; prefixes = h.prefixes; counts = h.counts; whole = h.whole; losers = h.losers; txns = h.txns }

and_locks : (g : Geometry) (stream_bytes least : ℕ) (s : State) → LeavesLogs g stream_bytes least s → HasLocksInBounds g s → LeavesRoomyLogsFrom g stream_bytes least s
and_locks g stream_bytes least s h locks =
    record { as_long = h.as_long; prefixes = h.prefixes; counts = h.counts; whole = h.whole; losers = h.losers; txns = h.txns; locks = locks }

-- while a Prepare comes what is held is in bounds, and so is its global id
abbrev pub HoldsForPrepare : Geometry → State → SessionEvent → Type 0
HoldsForPrepare g s (AppendPrepare a global granules) = HoldsInBounds g s.sessions.held × (length global ≤ global_limit g.version)
HoldsForPrepare g s _ = Unit {0}

-- ---- one event of the sessions

module _ (g : Geometry) (stream_bytes least base : ℕ) (o : Opening) (es : List Entry) (s : State) (k : AreSessionsAfter base o es s.sessions s.log) (h : LeavesLogs g stream_bytes least s) where
  -- the log and the slots stay
  stays_leaving : (new : State) → new.log ≡ s.log → new.counts ≡ s.counts → new.stream_bytes ≡ s.stream_bytes → IsWholeLog new.log new.sessions
      → ((t : ℕ) → IsLoser new.log t → IsAmong t (txns_of new.sessions.active)) → new.sessions.next_txn ≤ LAST_TXN → LeavesLogs g stream_bytes least new
  stays_leaving new log counts stream whole losers txns = record {
    as_long = stream ∙ h.as_long;
    prefixes = subst (AreRoomy g stream_bytes least) (sym log) h.prefixes;
    counts = λ p. ap (λ (c : SlotCounts). c p) counts ∙ h.counts p ∙ ap (λ l. slot_count l p) (sym log);
    whole = whole;
    losers = losers;
    txns = txns;
  }

  -- a record comes
  module _ (new : State) (later : List Entry) (new_sessions : AreSessionsAfter base o later new.sessions new.log) (new_roomy : IsRoomyState g.version new) (few : length new.sessions.active ≤ MAX_TRANSACTIONS)
      (stream : new.stream_bytes ≡ s.stream_bytes) (whole : IsWholeLog new.log new.sessions) (losers : (t : ℕ) → IsLoser new.log t → IsAmong t (txns_of new.sessions.active)) (txns : new.sessions.next_txn ≤ LAST_TXN)
      (places : NeedMore g.max_locks (doubts_in new.log) → ⊥) (names : (one : Decides s new) → AreGranules g (granules_in one.says)) (sizes : (one : Decides s new) → HasSizes g.version one.says) where
    appended_leaving : AppendsOne g s.log new.log s.counts new.counts → LeavesLogs g stream_bytes least new
    appended_leaving one =
        let counts : (p : PageId) → new.counts p ≡ slot_count new.log p =
        λ p. one.grown p ∙ ap (slots_behind p (image_in one.appended.payload)) (h.counts p) ∙ sym (slot_count-push s.log one.appended p)
        ∙ ap (λ l. slot_count l p) (sym one.is) in
        let below : AllByRecursion (λ r. r.txn < new.sessions.next_txn) (s.log ++ one.appended ∷ []) =
        subst (AllByRecursion (λ r. r.txn < new.sessions.next_txn)) one.is new_sessions.logged.below in
        let number = last_below (λ r. r.txn < new.sessions.next_txn) s.log one.appended below in
        let inside : All (IsInBounds g) new.log =
        subst (All (IsInBounds g)) (sym one.is)
        (All-push (IsInBounds g) s.log one.appended (whole_placed g stream_bytes least s.log h.prefixes).inside
        (record { number = omega arith; next = (let none = served_names_none one.appended.payload one.served in omega (arith, none)); lists = served_lists_none g one.appended.payload one.served; sizes = one.sizes; id = one.inside; granules = one.granules })) in
        let roomy = state_is_roomy g base o later new new_sessions new_roomy few whole counts inside losers places in
        record {
          as_long = stream ∙ h.as_long;
          prefixes =
              subst (AreRoomy g stream_bytes least) (sym one.is)
              (push_roomy g stream_bytes least s.log one.appended h.prefixes
              (subst (IsRoomyLog g stream_bytes) one.is (subst (λ n. IsRoomyLog g n new.log) (stream ∙ h.as_long) roomy)));
          counts = counts;
          whole = whole;
          losers = losers;
          txns = txns;
        }
      where
        last_below : (P : LogRecord → Type 0) (rs : List LogRecord) (r : LogRecord) → AllByRecursion P (rs ++ r ∷ []) → P r
        last_below P [] r all = all.0
        last_below P (x ∷ rs) r all = last_below P rs r all.1

    -- a record that stands has a page of the volume
    its_page : (id : Rid) → HasPage g id.page ⊎ IsSome (get s.sessions.records id) → HasPage g id.page
    its_page id (inl page) = page
    its_page id (inr there) = by (get s.sessions.records id) refl there
      where
        by : (x : Option (List ℕ)) → get s.sessions.records id ≡ x → IsSome x → HasPage g id.page
        by None at some = cc
        by (Some bytes) at some =
            (records_inside g s.log s.sessions.records (whole_placed g stream_bytes least s.log h.prefixes) (λ id. sym (image_in_place k.sound k.logged h.whole id)) id bytes at).0.0

    -- .. and is as short as records are
    was_short : (id : Rid) (x : Image) → get s.sessions.records id ≡ x → image_len x ≤ record_limit g.version
    was_short id None at = omega arith
    was_short id (Some bytes) at =
        (records_inside g s.log s.sessions.records (whole_placed g stream_bytes least s.log h.prefixes) (λ id. sym (image_in_place k.sound k.logged h.whole id)) id bytes at).1

    -- an image that is put back was logged as the one before a change
    put_back_short : (one : Compensates s new) → image_len one.image ≤ record_limit g.version
    put_back_short one =
        let r : LogRecord = record { txn = one.txn; previous = previous_of one.txn s.log; payload = payload.Compensation one.id one.image one.next } in
        let may : MaySay s.log one.txn (payload.Compensation one.id one.image one.next) = (last_follows s.log r (subst Lawful one.log whole.lawful)).says in
        by (unanswered one.txn s.log) (unanswered_chain s.log one.txn) one.id one.image one.next may.1
      where
        by : (cs : List UnansweredChange) → IsUndoChain s.log one.txn cs → (id : Rid) (image : Image) (next : ℕ) → Answers cs id image next → image_len image ≤ record_limit g.version
        by [] chain id image next answers = absurd answers
        by (c ∷ cs) chain id image next answers =
            let change = chain.0 in
            let it = all_at (IsInBounds g) s.log (c.number - 1) change.found (whole_placed g stream_bytes least s.log h.prefixes).inside change.here in
            subst (λ (x : Image). image_len x ≤ record_limit g.version) (sym answers.2) (subst (HasSizes g.version) change.says it.sizes).0

    writes_leaving : Writes g s new → LeavesLogs g stream_bytes least new
    writes_leaving (inl same) = stays_leaving new same.0 same.1 stream whole losers txns
    writes_leaving (inr (inl one)) = appended_leaving (commit_appends g s new one)
    writes_leaving (inr (inr (inl one))) = appended_leaving (change_appends g s new one (its_page one.id one.inside) (was_short one.id (get s.sessions.records one.id) refl))
    writes_leaving (inr (inr (inr (inl one)))) = appended_leaving (end_appends g s new one)
    writes_leaving (inr (inr (inr (inr (inr one))))) = appended_leaving (decision_appends g s new one (names one) (sizes one))
    writes_leaving (inr (inr (inr (inr (inl one))))) =
        let inside = recursion_from_All (IsInBounds g) s.log (whole_placed g stream_bytes least s.log h.prefixes).inside in
        appended_leaving (compensation_appends g s new one (logged_inside g one.txn s.log one.id one.logged inside)
        (subst (λ n. one.id.slot < n) (sym (h.counts one.id.page)) (logged_slot g one.txn s.log one.id one.logged)) (put_back_short one))

  -- a Prepare comes while the locks that it names are held; else nobody more is in doubt
  fewer_places : (new : State) (e : SessionEvent) → IsNoPrepare e → Goes g s e new → NeedMore g.max_locks (doubts_in new.log) → ⊥
  fewer_places new e none goes more =
      (whole_roomy g stream_bytes least s.log h.prefixes).locks
      (fewer_need g.max_locks (doubts_in new.log) (doubts_in s.log)
      (λ d m. (prepares_none s.log s.sessions e none).fewer d (subst (λ l. IsAmong d (doubts_in l)) goes.log m)) more)

  places_kept : (new : State) (e : SessionEvent) → HoldsForPrepare g s e → Goes g s e new → NeedMore g.max_locks (doubts_in new.log) → ⊥
  places_kept new (AppendPrepare a global granules) holds goes more =
      let same : new.sessions.held ≡ s.sessions.held = ap (λ (x : Sessions). x.held) goes.moves.4 in
      let tracks = (goes_keeps base o es g s new (AppendPrepare a global granules) k goes).doubts in
      let long = ap length same in
      let few = holds.0.within in
      held_have_places new.log new.sessions tracks (subst WellRooted (sym same) holds.0.rooted) g.max_locks (omega (arith, long, few)) more
  places_kept new e holds goes more = fewer_places new e tt goes more

  -- it names what is held, rising
  prepare_names : (a : SessionTxn) (global : List ℕ) (granules : List Granule) → HoldsInBounds g s.sessions.held → AreExclusive s.sessions.held a.txn granules
      → (says : Payload) → says ≡ payload.Prepare global granules → IsDecision says → AreGranules g (granules_in says)
  prepare_names a global granules holds exclusive says is (inr rollback) = subst (AreGranules g) (sym (ap granules_in rollback)) (names_none g)
  prepare_names a global granules holds exclusive says is (inl prepare) =
      let same : prepare.1 ≡ granules = sym (ap granules_in prepare.2) ∙ ap granules_in is in
      subst (AreGranules g) (sym (ap granules_in is)) (record {
        inside = exclusive_inside g s.sessions.held a.txn granules holds exclusive;
        rise = subst (IsStrictlySortedBy granule_cmp) same prepare.3;
      })

  -- no other event appends one
  no_prepare_made : (new : State) (e : SessionEvent) → IsNoPrepare e → Goes g s e new → Lawful new.log → (one : Decides s new) (global : List ℕ) (granules : List Granule)
      → one.says ≡ payload.Prepare global granules → ⊥
  no_prepare_made new e none goes lawful one global granules is =
      let r : LogRecord = record { txn = one.txn; previous = previous_of one.txn s.log; payload = one.says } in
      let may : MaySay s.log one.txn one.says = (last_follows s.log r (subst Lawful one.log lawful)).says in
      let unprepared : is_unprepared one.txn s.log ≡ true = (subst (MaySay s.log one.txn) is may).0 in
      let now : has is_prepare one.txn new.log ≡ true = ap (has is_prepare one.txn) one.log ∙ has-this s.log r is_prepare (ap is_prepare is) in
      let before : has is_prepare one.txn s.log ≡ true = sym ((prepares_none s.log s.sessions e none).prepares one.txn) ∙ ap (has is_prepare one.txn) (sym goes.log) ∙ now in
      true≢false (sym unprepared ∙ ap not before)

  none_prepared : (new : State) (e : SessionEvent) → IsNoPrepare e → Goes g s e new → Lawful new.log → (one : Decides s new) → IsDecision one.says → AreGranules g (granules_in one.says)
  none_prepared new e none goes lawful one (inr rollback) = subst (AreGranules g) (sym (ap granules_in rollback)) (names_none g)
  none_prepared new e none goes lawful one (inl prepare) = absurd (no_prepare_made new e none goes lawful one prepare.0 prepare.1 prepare.2)

  no_global_id : (new : State) (e : SessionEvent) → IsNoPrepare e → Goes g s e new → Lawful new.log → (one : Decides s new) → IsDecision one.says → HasSizes g.version one.says
  no_global_id new e none goes lawful one (inr rollback) = subst (HasSizes g.version) (sym rollback) tt
  no_global_id new e none goes lawful one (inl prepare) = absurd (no_prepare_made new e none goes lawful one prepare.0 prepare.1 prepare.2)

  same_payload : (p q : LogRecord) → p ∷ [] ≡ q ∷ [] → p.payload ≡ q.payload
  same_payload p q e = cc

  names_kept : (new : State) (e : SessionEvent) → HoldsForPrepare g s e → Goes g s e new → Lawful new.log → (one : Decides s new) → AreGranules g (granules_in one.says)
  names_kept new (AppendPrepare a global granules) holds goes lawful one =
      let same : and_record one.txn s.log one.says ≡ and_record a.txn s.log (payload.Prepare global granules) = sym one.log ∙ goes.log in
      let last = append_cancel_left s.log _ _ same in
      prepare_names a global granules holds.0 goes.moves.3 one.says (same_payload _ _ last) one.decides
  names_kept new e holds goes lawful one = none_prepared new e tt goes lawful one one.decides

  sizes_kept : (new : State) (e : SessionEvent) → HoldsForPrepare g s e → Goes g s e new → Lawful new.log → (one : Decides s new) → HasSizes g.version one.says
  sizes_kept new (AppendPrepare a global granules) holds goes lawful one =
      let same : and_record one.txn s.log one.says ≡ and_record a.txn s.log (payload.Prepare global granules) = sym one.log ∙ goes.log in
      subst (HasSizes g.version) (sym (same_payload _ _ (append_cancel_left s.log _ _ same))) holds.1
  sizes_kept new e holds goes lawful one = no_global_id new e tt goes lawful one one.decides

  goes_leaving : (new : State) (e : SessionEvent) → IsRoomyState g.version s → txn_count s ≤ MAX_TRANSACTIONS → HoldsForPrepare g s e → Goes g s e new → LeavesLogs g stream_bytes least new
  goes_leaving new e roomy few holds goes =
      let whole : IsWholeLog new.log new.sessions =
      subst (λ l. IsWholeLog l new.sessions) (sym goes.log) (event_stays_whole o es s.sessions new.sessions e s.log k.sound k.logged k.doubts h.whole goes.moves) in
      let many = goes.few few in
      writes_leaving new (es ++ entries_by s.sessions e) (goes_keeps base o es g s new e k goes) (goes_roomy base o es g s new e k roomy goes) (omega (arith, many)) goes.stream whole
      (λ t loser. losers_stay s.log s.sessions h.losers new.sessions e goes.moves t (subst (λ l. IsLoser l t) goes.log loser)) (goes.numbers h.txns) (places_kept new e holds goes)
      (names_kept new e holds goes whole.lawful) (sizes_kept new e holds goes whole.lawful) goes.writes

-- ---- events of the sessions one after another

none_held : (g : Geometry) (s : State) (e : SessionEvent) → AllByRecursion PreparesNothing (entries_by s.sessions e) → HoldsForPrepare g s e
none_held g s (AppendPrepare a global granules) none = absurd none.0
none_held g s _ none = tt

by_leaving : (g : Geometry) (stream_bytes least base : ℕ) (o : Opening) (es : List Entry) (s : State) (events : List SessionEvent) (new : State) (made : List Entry) → AreSessionsAfter base o es s.sessions s.log
    → IsRoomyState g.version s → txn_count s ≤ MAX_TRANSACTIONS → LeavesLogs g stream_bytes least s → GoesBy g s events new made → AllByRecursion PreparesNothing made → LeavesLogs g stream_bytes least new
by_leaving g stream_bytes least base o es s [] new made k roomy few h x none = subst (LeavesLogs g stream_bytes least) (sym x.0) h
by_leaving g stream_bytes least base o es s (e ∷ events) new made k roomy few h x none =
    let parts = both (entries_by s.sessions e) x.1 (subst (AllByRecursion PreparesNothing) x.4 none) in
    by_leaving g stream_bytes least base o (es ++ entries_by s.sessions e) x.0 events new x.1 (goes_keeps base o es g s x.0 e k x.2) (goes_roomy base o es g s x.0 e k roomy x.2) (x.2.few few)
    (goes_leaving g stream_bytes least base o es s k h x.0 e roomy few (none_held g s e parts.0) x.2) x.3 parts.1
  where
    both : (xs ys : List Entry) → AllByRecursion PreparesNothing (xs ++ ys) → AllByRecursion PreparesNothing xs × AllByRecursion PreparesNothing ys
    both [] ys all = (tt, all)
    both (x ∷ xs) ys all = let rest = both xs ys all.1 in ((all.0, rest.0), rest.1)

like_leaving : (g : Geometry) (stream_bytes least : ℕ) (s t : State) → IsLike s t → LeavesLogs g stream_bytes least s → LeavesLogs g stream_bytes least t
like_leaving g stream_bytes least s t like h = record {
  as_long = like.stream ∙ h.as_long;
  prefixes = subst (AreRoomy g stream_bytes least) (sym like.log) h.prefixes;
  counts = λ p. ap (λ (c : SlotCounts). c p) like.counts ∙ h.counts p ∙ ap (λ l. slot_count l p) (sym like.log);
  whole = subst (λ l. IsWholeLog l t.sessions) (sym like.log) (subst (λ (x : Sessions). IsWholeLog s.log x) (sym like.sessions) h.whole);
  losers = λ u loser. subst (λ (x : Sessions). IsAmong u (txns_of x.active)) (sym like.sessions) (h.losers u (subst (λ l. IsLoser l u) like.log loser));
  txns = subst (λ (x : Sessions). x.next_txn ≤ LAST_TXN) (sym like.sessions) h.txns;
}

-- ---- events of a manager

-- fewer prefixes are asked once more is durable
pub later_leaving : (g : Geometry) (stream_bytes least : ℕ) (s : State) → least ≤ s.durable → LeavesRoomyLogsFrom g stream_bytes least s → LeavesRoomyLogs g stream_bytes s
later_leaving g stream_bytes least s le h = record {
  as_long = h.as_long;
  prefixes = later_roomy g stream_bytes least s.durable s.log le h.prefixes;
  counts = h.counts;
  whole = h.whole;
  losers = h.losers;
  txns = h.txns;
  locks = h.locks;
}

-- no event makes less durable
durable_rises : (g : Geometry) (s new : State) (e : ManagerEvent) → EventMoves g s e new → s.durable ≤ new.durable
durable_rises g s new (Called session c step) h = let same = (settled_call_further g s session c step new h.1).durable in omega (arith, same)
durable_rises g s new (Resumed session step) h = let same = (settled_resume_further g s session step new h).durable in omega (arith, same)
durable_rises g s new (GaveUp session step) h = let same = (give_up_further s session step new h).durable in omega (arith, same)
durable_rises g s new (Forced n) h = let same = ap (λ (x : State). x.durable) h.2 in let more = h.0 in omega (arith, same, more)
durable_rises g s new HasFailed h = let same = ap (λ (x : State). x.durable) h in omega (arith, same)
durable_rises g s new (TicketAsked ticket answer) h = let same = ap (λ (x : State). x.durable) h.1 in omega (arith, same)

module _ (g : Geometry) (stream_bytes : ℕ) (o : Opening) (found : List LogRecord) where
  module _ (least : ℕ) where
    -- a step that decides no prepare, and leaves the lock table in bounds
    pub comes_leaving : (es : List Entry) (s new : State) (made : List Entry) → IsStateAfter o found es s → IsRoomyState g.version s → LeavesRoomyLogsFrom g stream_bytes least s → ComesBy g s new made
        → AllByRecursion PreparesNothing made → HasLocksInBounds g new → LeavesRoomyLogsFrom g stream_bytes least new
    comes_leaving es s new made k roomy h comes none locks =
        let few : txn_count comes.start ≤ MAX_TRANSACTIONS = subst (λ (n : Sessions). length n.active + length (ended_among n.active n.resolving) ≤ MAX_TRANSACTIONS) (sym comes.before.sessions) k.few in
        and_locks g stream_bytes least new
        (like_leaving g stream_bytes least comes.mid new comes.after
        (by_leaving g stream_bytes least (length found) o es comes.start comes.events comes.mid made
        (like_keeps (length found) o es s comes.start comes.before (sessions_of o found es s k.sessions)) (like_roomy g.version s comes.start comes.before roomy) few
        (like_leaving g stream_bytes least s comes.start comes.before (but_locks g stream_bytes least s h)) comes.goes none)) locks

    -- a prepare that waits: its Prepare is appended, and nothing else happens
    appended_leaving_from : (es : List Entry) (s new : State) → IsStateAfter o found es s → IsRoomyState g.version s → LeavesRoomyLogsFrom g stream_bytes least s
        → (a : SessionTxn) → HasSeat s.sessions a → a.undo.rolling ≡ None → (global : List ℕ) (wait : Wait) → PrepareStep g.version s a global (Waits wait) new → LeavesRoomyLogsFrom g stream_bytes least new
    appended_leaving_from es s new k roomy h a mem whole global wait x =
        let goes = prepare_goes g o found es s k.sessions a mem whole global x.1 x.2 in
        let behind = with_prepare g o found es s k.sessions a mem whole global x.1 in
        let leaves = goes_leaving g stream_bytes least (length found) o es s (sessions_of o found es s k.sessions) (but_locks g stream_bytes least s h) behind
        (AppendPrepare a global (granules_in_ex s a)) roomy k.few (holds_in_bounds g s k.sessions.locks h.locks, x.0.1) goes in
        and_locks g stream_bytes least new
        (subst (LeavesLogs g stream_bytes least) (sym x.4)
        (like_leaving g stream_bytes least behind (prepared s a global (granules_in_ex s a)) (record { sessions = refl; log = refl; counts = refl; stream = refl }) leaves))
        (same_bounds g s new (ap (λ (y : State). y.locks) x.4) h.locks)

    module _ (es : List Entry) (s : State) (k : IsStateAfter o found es s) (roomy : IsRoomyState g.version s) (h : LeavesRoomyLogsFrom g stream_bytes least s) (session : ℕ) (global : List ℕ) (wait : Wait) where
      pub prepare_leaving : (new : State) → CallStep g s session (call.Prepare global) (Waits wait) new → LeavesRoomyLogsFrom g stream_bytes least new
      prepare_leaving new x = let t = waits_of g s new session (call.Prepare global) wait tt x in by t.0 t.1.0 t.2
        where
          by : (a : SessionTxn) → HasSeat s.sessions a → InnerStep g s a (call.Prepare global) (Waits wait) new → LeavesRoomyLogsFrom g stream_bytes least new
          by a mem (inl y) = let clash = y.2 in absurd cc
          by a mem (inr (inl (whole, inl y))) = let clash = y.2 in absurd cc
          by a mem (inr (inl (whole, inr (inl y)))) = absurd y.0
          by a mem (inr (inl (whole, inr (inr (inl y))))) = let clash = y.0 in absurd cc
          by a mem (inr (inl (whole, inr (inr (inr (inl y)))))) = let clash = y.0 in absurd cc
          by a mem (inr (inl (whole, inr (inr (inr (inr y)))))) = appended_leaving_from es s new k roomy h a mem whole y.0 wait y.2
          by a mem (inr (inr (inl y))) = let clash = y.1 in absurd cc
          by a mem (inr (inr (inr y))) = let clash = y.0 in absurd cc

      -- it asks for no lock
      prepared_leaving : (new : State) (first : Step) (mid : State) → CallStep g s session (call.Prepare global) first mid → (rounds : List (List Victim)) → Settles g mid session first rounds (Waits wait) new
          → LeavesRoomyLogsFrom g stream_bytes least new
      prepared_leaving new first mid calls [] x =
          subst (LeavesRoomyLogsFrom g stream_bytes least) (sym x.2) (prepare_leaving mid (subst (λ (y : Step). CallStep g s session (call.Prepare global) y mid) (sym x.1) calls))
      prepared_leaving new first mid calls (vs ∷ rounds) x =
          let asked = call_has_asked g s session (call.Prepare global) x.1 first mid x.4 calls in
          let clash = asked.asked in
          absurd cc

    pub event_leaving_from : (es : List Entry) (s new : State) (e : ManagerEvent) → IsStateAfter o found es s → LockWaitsMayAsk g s → IsRoomyState g.version s → LeavesRoomyLogsFrom g stream_bytes least s
        → EventMoves g s e new → LeavesRoomyLogsFrom g stream_bytes least new
    event_leaving_from es s new (Called session (call.Prepare global) (Waits wait)) k asks roomy h x = prepared_leaving es s k roomy h session global wait new x.1.first x.1.mid x.1.calls x.1.rounds x.1.settles
    event_leaving_from es s new e k asks roomy h x =
        comes_leaving es s new (entries_of s e new) k roomy h (session_event_comes g o found es s k new e x) (event_decides_no_prepare g o found es s k new e tt x) (event_keeps_locks g s new e asks x h.locks)

    pub events_leaving_from : (es : List Entry) (s : State) (events : List ManagerEvent) (last : State) (made : List Entry) → IsStateAfter o found es s → LockWaitsMayAsk g s → IsRoomyState g.version s
        → LeavesRoomyLogsFrom g stream_bytes least s → MovesMaking g s events last made → LeavesRoomyLogsFrom g stream_bytes least last
    events_leaving_from es s [] last made k asks roomy h x = subst (LeavesRoomyLogsFrom g stream_bytes least) (sym x.0) h
    events_leaving_from es s (e ∷ events) last made k asks roomy h x =
        events_leaving_from (es ++ entries_of s e x.0) x.0 events last x.1 (session_event_stays g o found es s x.0 e k x.2) (waits_may_ask g s x.0 (e ∷ []) (x.0, x.2, refl) asks)
        (session_event_roomy g o found es s k roomy x.0 e x.2) (event_leaving_from es s x.0 e k asks roomy h x.2) x.3

  pub event_leaving : (es : List Entry) (s new : State) (e : ManagerEvent) → IsStateAfter o found es s → LockWaitsMayAsk g s → IsRoomyState g.version s → LeavesRoomyLogs g stream_bytes s → EventMoves g s e new
      → LeavesRoomyLogs g stream_bytes new
  event_leaving es s new e k asks roomy h x = later_leaving g stream_bytes s.durable new (durable_rises g s new e x) (event_leaving_from s.durable es s new e k asks roomy h x)

  pub events_leaving : (es : List Entry) (s : State) (events : List ManagerEvent) (last : State) (made : List Entry) → IsStateAfter o found es s → LockWaitsMayAsk g s → IsRoomyState g.version s
      → LeavesRoomyLogs g stream_bytes s → MovesMaking g s events last made → IsRoomyState g.version last × LeavesRoomyLogs g stream_bytes last
  events_leaving es s [] last made k asks roomy h x = (subst (IsRoomyState g.version) (sym x.0) roomy, subst (LeavesRoomyLogs g stream_bytes) (sym x.0) h)
  events_leaving es s (e ∷ events) last made k asks roomy h x =
      events_leaving (es ++ entries_of s e x.0) x.0 events last x.1 (session_event_stays g o found es s x.0 e k x.2) (waits_may_ask g s x.0 (e ∷ []) (x.0, x.2, refl) asks)
      (session_event_roomy g o found es s k roomy x.0 e x.2) (event_leaving es s x.0 e k asks roomy h x.2) x.3
