-- A log that a run leaves, and logs that a restart may not take.
use Rattle.std.proofs.Common.{◌≡◌, inl, inr, ⊎_elim, ◌++◌, ◌+◌, ◌<◌, ◌≤◌, ℕ, suc, List, [], ◌∷◌, true, false, Some, None, refl, sym, ap, subst, ◌∙◌, length, take, take_all, arith}
use Rattle.std.specs.Prelude.{◌*◌, slice_get}
use Rattle.std.specs.FinMap.{empty, get, get-empty}
use Rattle.std.proofs.lemmas.List.Elements.{All-cons, All-nil}
use Rattle.std.proofs.lemmas.List.Sums.{sum_by-cons}
use Rattle.shore_types.specs.Ids.{rid_cmp}
use Rattle.shore_types.specs.Layout.{HasGranule, HasPage, HasStore, LocksInLimits}
use Rattle.shore_model.specs.declared.requests.Request.{Request}
use Rattle.laws_runs.proofs.DoubtsThere.{doubt_there}
use Rattle.shore_types.specs.declared.layout.Geometry.{Geometry}
use Rattle.shore_types.specs.declared.layout.TheConstants.{LONGEST_FRAME, MAX_LOG_BYTES, SLOT_ENTRY_BYTES}
use Rattle.shore_model.specs.declared.histories.Entry.{Entry}
use Rattle.shore_model.specs.declared.log_records.LogRecord.{LogRecord}
use Rattle.shore_model.specs.declared.log_records.Payload.TheVariants.{Change, Commit, Compensation}
use Rattle.shore_model.specs.Logs.{Lawful, first_number, image_of_record, is_over}
use Rattle.shore_logrec.specs.Text.{cost_of}
use Rattle.laws_calls.proofs.SessionOpens.{sessions_after_open}
use Rattle.laws_calls.proofs.SessionInsert.{session_comes_through, session_leaves}
use Rattle.laws_calls.specs.Events.{MovesMaking}
use Rattle.laws_calls.specs.States.{State, cost_of_log}
use Rattle.laws_calls.specs.WorkedRun.{first_id, first_page, one_insert, opened_empty}
use Rattle.shore_page.specs.Room.{HasRoom, HoldsItsImage, claims}
use Rattle.shore_page.specs.Slots.{Slot, settled}
use Rattle.shore_types.specs.Images.{image_len}
use Rattle.shore_types.specs.declared.versions.Version.{Version}
use Rattle.shore_types.specs.Versions.{page_room, record_limit, record_limit-most, slot_limit}
use Rattle.laws_lives.proofs.Numbers.{newest_other}
use Rattle.laws_lives.proofs.Redo.{image_of_record-push}
use Rattle.laws_lives.proofs.Writers.{same_or_not}
use Rattle.laws_lives.specs.Pages.{empty_page}
use Rattle.laws_lives.specs.Sessions.{SessionTxn}
use Rattle.laws_lives.specs.Views.{IsAmong}
use Rattle.laws_lives.specs.Soundness.{opening_with}
use Rattle.laws_lives.specs.Undo.{IsLoser, undo_record}
use Rattle.laws_room.proofs.Costs.{compensation_bytes}
use Rattle.laws_room.proofs.Lists.{length-each}
use Rattle.laws_room.specs.Claims.{each_from, rid_on}
use Rattle.laws_room.specs.LogRooms.{owed_by_all}
use Rattle.laws_runs.proofs.Opens.{format_is_roomy, leaves_none, opens_leaving, opens_roomy, undo_has_log_room}
use Rattle.laws_runs.proofs.Prefixes.{whole_roomy}
use Rattle.laws_runs.proofs.Redoing.{left_have_room}
use Rattle.laws_runs.proofs.Running.{events_leaving_from}
use Rattle.laws_runs.proofs.Undoing.{cost_pushed, undone_roomy}
use Rattle.laws_runs.specs.RoomyLogs.{AreRoomy, IsRoomyLog, IsUndecided}
use Rattle.laws_runs.specs.RoomyStates.{IsOpenedFrom, LeavesRoomyLogsFrom}
use Rattle.laws_runs.specs.SlotCounts.{slots_left}
use Rattle.laws_runs.specs.SoundStores.{MayBeOpened}
use Rattle.laws_runs.specs.WorkedLogs.{committed, inserted, room_taken, second_id, third_id}

-- ---- a log that a run leaves

pub opened_from_none : (g : Geometry) → LocksInLimits g → (stream_bytes : ℕ) → IsOpenedFrom g stream_bytes [] (opened_empty (slot_limit g.version) stream_bytes)
opened_from_none g limits stream_bytes = record {
  slots = refl;
  log = refl;
  as_long = refl;
  records = λ id. get-empty rid_cmp id ∙ sym (leaves_none id);
  prepared = refl;
  active = refl;
  undo_lists = λ a m. absurd m;
  counts = λ p. refl;
  some = omega arith;
  least = λ n some above. omega arith;
  locks = record { limit = let least = limits.0 in omega arith; within = omega arith; inside = All-nil (λ (r : Request). HasGranule g r.granule) };
}

module _ (g : Geometry) (bytes : List ℕ) (store : HasStore g 0) (page : HasPage g first_page) (limits : LocksInLimits g) (short : length bytes ≤ record_limit g.version) where
  -- over a stream that is long enough each of its prefixes is roomy
  pub record HasRun (stream_bytes : ℕ) : Type 0 where
    pub last : State
    pub made : List Entry
    pub moves : MovesMaking g (opened_empty (slot_limit g.version) stream_bytes) (one_insert bytes) last made
    pub there : get last.sessions.records first_id ≡ Some bytes
    pub log : last.log ≡ committed bytes
    pub leaves : LeavesRoomyLogsFrom g stream_bytes 0 last

  pub has_run : (stream_bytes : ℕ) → 96000 + record_limit g.version ≤ stream_bytes → stream_bytes ≤ MAX_LOG_BYTES → HasRun stream_bytes
  has_run stream_bytes long most =
      let h = session_comes_through g stream_bytes bytes store page short long in
      let none = format_is_roomy g stream_bytes (omega arith) most in
      let opened = opened_from_none g limits stream_bytes in
      let roomy = opens_roomy g stream_bytes [] (opened_empty (slot_limit g.version) stream_bytes) opened (whole_roomy g stream_bytes 0 [] none) (λ n r at. absurd (nothing n r at)) in
      let leaves = opens_leaving g stream_bytes [] (opened_empty (slot_limit g.version) stream_bytes) opened 0 none (λ n r at. absurd (nothing n r at)) (λ t loser. let known = loser.known in omega arith) in
      record {
        last = h.0;
        made = h.1;
        moves = h.3;
        there = h.4;
        log = session_leaves g stream_bytes bytes store page short long;
        leaves = events_leaving_from g stream_bytes (opening_with (slot_limit g.version) empty) [] 0 [] (opened_empty (slot_limit g.version) stream_bytes) (one_insert bytes) h.0 h.1 (sessions_after_open (opening_with (slot_limit g.version) empty) [] (opened_empty (slot_limit g.version) stream_bytes) h.2) (λ w m. absurd m) roomy leaves h.3;
      }
    where
      nothing : (n : ℕ) (r : LogRecord) → slice_get [] n ≡ Some r → ⊥
      nothing n r at = cc

  pub run_leaves_roomy : (stream_bytes : ℕ) → 96000 + record_limit g.version ≤ stream_bytes → stream_bytes ≤ MAX_LOG_BYTES
      → (last : State) × (made : List Entry) × MovesMaking g (opened_empty (slot_limit g.version) stream_bytes) (one_insert bytes) last made
      × (get last.sessions.records first_id ≡ Some bytes) × (last.log ≡ committed bytes) × AreRoomy g stream_bytes 0 last.log
  run_leaves_roomy stream_bytes long most = let h = has_run stream_bytes long most in (h.last, h.made, h.moves, h.there, h.log, h.leaves.prefixes)

-- ---- a log with no room in an earlier prefix

no_loser_left : (bytes : List ℕ) (t : ℕ) → IsLoser (committed bytes) t → ⊥
no_loser_left bytes t h = ⊎_elim
    (λ own. true_not_false (subst (λ u. is_over u (committed bytes) ≡ false) (sym own) h.not_over))
    (λ other.
    let one = ap first_number (newest_other (inserted bytes) (record { txn = 1; previous = 1; payload = Commit }) t other) in
    let two = ap first_number (newest_other [] (record { txn = 1; previous = 0; payload = Change first_id None (Some bytes) }) t other) in
    let known = h.known in
    omega (arith, one, two, known))
    (same_or_not 1 t)
  where
    true_not_false : true ≡ false → ⊥
    true_not_false e = cc

none_left : (bytes : List ℕ) (t : ℕ) → IsUndecided (committed bytes) t → ⊥
none_left bytes t (inl loser) = no_loser_left bytes t loser
none_left bytes t (inr doubt) = absurd (doubt_there t (committed bytes) doubt).1

none_owed : (undos : List SessionTxn) → ((a : SessionTxn) → IsAmong a undos → ⊥) → owed_by_all undos ≡ 0
none_owed [] none = refl
none_owed (a ∷ undos) none = absurd (none a (inl refl))

-- The Commit has given away what was reserved before it, so the log may be opened over a stream that has room for it and the longest frame alone.
pub committed_may_be_opened : (g : Geometry) (bytes : List ℕ) → HasStore g 0 → HasPage g first_page → LocksInLimits g → length bytes ≤ record_limit g.version
    → MayBeOpened g (cost_of_log (committed bytes) + LONGEST_FRAME) (committed bytes) (λ p. empty_page)
committed_may_be_opened g bytes store page limits short =
    let h = has_run g bytes store page limits short 200000 (omega (arith, record_limit-most g.version)) (omega arith) in
    let longer : AreRoomy g 200000 0 (committed bytes) = subst (AreRoomy g 200000 0) h.log h.leaves.prefixes in
    let whole = whole_roomy g 200000 0 (committed bytes) longer in
    let none = none_owed whole.placed.undos (λ a m. none_left bytes a.txn (whole.placed.undecided.each a m).0) in
    let fits = whole.room.fits in
    let roomy : IsRoomyLog g (cost_of_log (committed bytes) + LONGEST_FRAME) (committed bytes) =
    record { placed = whole.placed; room = record { sum = omega arith; fits = omega (arith, none); lsns = omega (arith, none); short = omega (arith, fits) }; locks = whole.locks } in
    record {
      lawful = subst Lawful h.log h.leaves.whole.lawful;
      doubts = record { apart = λ d e g h a. absurd a; differ = λ d e a. absurd a };
      roomy = record {
        placed = longer.placed;
        roomy = λ n from. subst (IsRoomyLog g (cost_of_log (committed bytes) + LONGEST_FRAME)) (sym (take_all n (committed bytes) from)) roomy;
      };
      as_of = λ p. record { number = omega arith; within = omega arith; slots = λ i. sym (leaves_none (rid_on p i)) };
    }

-- ---- the stream has no room for the undo

pub no_room_in_stream : (g : Geometry) (stream_bytes : ℕ) (log : List LogRecord) (t : ℕ) → IsLoser log t
    → stream_bytes < cost_of_log log + cost_of (undo_record log t).payload + LONGEST_FRAME → IsRoomyLog g stream_bytes log → ⊥
no_room_in_stream g stream_bytes log t loser less k = let room = (undo_has_log_room g stream_bytes log t k loser).0 in omega arith

pub inserted_loser : (bytes : List ℕ) → IsLoser (inserted bytes) 1
inserted_loser bytes = record { is_one = omega arith; known = omega arith; not_over = refl; not_in_doubt = refl }

pub inserted_too_full : (g : Geometry) (bytes : List ℕ) → IsRoomyLog g (cost_of_log (inserted bytes) + LONGEST_FRAME) (inserted bytes) → ⊥
inserted_too_full g bytes k =
    let undo : undo_record (inserted bytes) 1 ≡ record { txn = 1; previous = 1; payload = Compensation first_id None 0 } = refl in
    let cost = compensation_bytes first_id None 0 in
    let says = ap (λ (r : LogRecord). cost_of r.payload) undo in
    no_room_in_stream g (cost_of_log (inserted bytes) + LONGEST_FRAME) (inserted bytes) 1 (inserted_loser bytes) (omega arith) k

-- .. as none before that Commit had
pub inserted_before_full : (g : Geometry) (bytes : List ℕ) → IsRoomyLog g (cost_of_log (committed bytes) + LONGEST_FRAME) (take 1 (committed bytes)) → ⊥
inserted_before_full g bytes k =
    let undo : undo_record (inserted bytes) 1 ≡ record { txn = 1; previous = 1; payload = Compensation first_id None 0 } = refl in
    let cost = compensation_bytes first_id None 0 in
    let says = ap (λ (r : LogRecord). cost_of r.payload) undo in
    let more = cost_pushed (inserted bytes) (record { txn = 1; previous = 1; payload = Commit }) in
    let commit : cost_of Commit ≡ 34 = refl in
    no_room_in_stream g (cost_of_log (committed bytes) + LONGEST_FRAME) (inserted bytes) 1 (inserted_loser bytes) (omega arith) k

-- ---- a page has none

module _ (v : Version) (old new other : List ℕ) where
  abbrev log : List LogRecord
  log = room_taken old new other

  abbrev delete : LogRecord
  delete = record { txn = 1; previous = 0; payload = Change first_id (Some old) None }

  abbrev first_insert : LogRecord
  first_insert = record { txn = 2; previous = 0; payload = Change second_id None (Some new) }

  abbrev second_insert : LogRecord
  second_insert = record { txn = 2; previous = 2; payload = Change third_id None (Some other) }

  deleted_loser : IsLoser log 1
  deleted_loser = record { is_one = omega arith; known = omega arith; not_over = refl; not_in_doubt = refl }

  abbrev undone : List LogRecord
  undone = log ++ undo_record log 1 ∷ []

  old_back : image_of_record undone first_id ≡ Some old
  old_back = image_of_record-push log (undo_record log 1) first_id

  new_there : image_of_record undone second_id ≡ Some new
  new_there =
      image_of_record-push log (undo_record log 1) second_id ∙ image_of_record-push (delete ∷ first_insert ∷ []) second_insert second_id
      ∙ image_of_record-push (delete ∷ []) first_insert second_id

  other_there : image_of_record undone third_id ≡ Some other
  other_there = image_of_record-push log (undo_record log 1) third_id ∙ image_of_record-push (delete ∷ first_insert ∷ []) second_insert third_id

  abbrev left_at : ℕ → Slot
  left_at i = settled (image_of_record undone (rid_on first_page i))

  claims_cons : (first n : ℕ) → claims (each_from left_at first (suc n)) ≡ (left_at first).claim + claims (each_from left_at (suc first) n)
  claims_cons first n = sum_by-cons (λ (s : Slot). s.claim) (left_at first) (each_from left_at (suc first) n)

  -- what stands there has room
  abbrev standing_at : ℕ → Slot
  standing_at i = settled (image_of_record log (rid_on first_page i))

  pub taken_stands : length new ≤ record_limit v → length other ≤ record_limit v → 3 * SLOT_ENTRY_BYTES + length new + length other ≤ page_room v
      → HasRoom v (slots_left log first_page)
  taken_stands short brief fits =
      let none : image_of_record log first_id ≡ None =
      image_of_record-push (delete ∷ first_insert ∷ []) second_insert first_id ∙ image_of_record-push (delete ∷ []) first_insert first_id
      ∙ image_of_record-push [] delete first_id in
      let one : image_of_record log second_id ≡ Some new =
      image_of_record-push (delete ∷ first_insert ∷ []) second_insert second_id ∙ image_of_record-push (delete ∷ []) first_insert second_id in
      let two : image_of_record log third_id ≡ Some other = image_of_record-push (delete ∷ first_insert ∷ []) second_insert third_id in
      let first = ap image_len none in
      let second = ap image_len one in
      let third = ap image_len two in
      let all = sum_by-cons (λ (s : Slot). s.claim) (standing_at 0) (each_from standing_at 1 2) in
      let later = sum_by-cons (λ (s : Slot). s.claim) (standing_at 1) (each_from standing_at 2 1) in
      let last = sum_by-cons (λ (s : Slot). s.claim) (standing_at 2) [] in
      record {
        room = omega arith;
        each =
            All-cons (HoldsItsImage v) (standing_at 0) (each_from standing_at 1 2) (omega arith, omega arith)
            (All-cons (HoldsItsImage v) (standing_at 1) (each_from standing_at 2 1) (omega arith, omega arith)
            (All-cons (HoldsItsImage v) (standing_at 2) [] (omega arith, omega arith) (All-nil (HoldsItsImage v))));
      }

  pub taken_too_full : (g : Geometry) (stream_bytes : ℕ) → page_room g.version < 3 * SLOT_ENTRY_BYTES + length old + length new + length other
      → IsRoomyLog g stream_bytes log → ⊥
  taken_too_full g stream_bytes much k =
      let slots : HasRoom g.version (each_from left_at 0 3) = left_have_room g undone (undone_roomy g stream_bytes log k 1 deleted_loser).placed first_page in
      let room = slots.room in
      let all = claims_cons 0 2 in
      let two = claims_cons 1 1 in
      let one = claims_cons 2 0 in
      let first = ap image_len old_back in
      let second = ap image_len new_there in
      let third = ap image_len other_there in
      let long = length-each left_at 0 3 in
      omega arith
