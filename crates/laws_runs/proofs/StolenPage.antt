-- A life of two managers, worked by hand: a page is written back with a change that is not decided, the power is lost, and the next restart takes it back.
use Rattle.std.proofs.Common.{◌+◌, ◌≡◌, inl, ⊎_elim, ◌++◌, ◌≤◌, ℕ, List, [], ◌∷◌, Bool, true, false, cond, Some, None, refl, sym, ap, subst, ◌∙◌, length, take, arith}
use Rattle.std.specs.FinMap.{empty, get, get-empty}
use Rattle.std.specs.Ordering.{eq_by_cmp}
use Rattle.shore_types.specs.Ids.{rid_cmp}
use Rattle.shore_types.specs.Layout.{HasGranule, HasPage, HasStore, LocksInLimits}
use Rattle.std.proofs.lemmas.List.Elements.{All-nil}
use Rattle.shore_model.specs.declared.requests.Request.{Request}
use Rattle.shore_types.specs.declared.ids.Rid.{Rid}
use Rattle.shore_types.specs.declared.layout.Geometry.{Geometry}
use Rattle.shore_types.specs.declared.layout.TheConstants.{MAX_LOG_BYTES}
use Rattle.shore_types.specs.Versions.{record_limit, slot_limit}
use Rattle.shore_model.specs.declared.calls.Answer.TheVariants.{Began, Inserted}
use Rattle.shore_model.specs.declared.calls.Call.TheVariants as call
use Rattle.shore_model.specs.declared.log_records.LogRecord.{LogRecord}
use Rattle.shore_model.specs.declared.log_records.Payload.TheVariants.{Change}
use Rattle.shore_model.specs.declared.step.Step.TheVariants.{Done}
use Rattle.std.specs.Prelude.{Contains}
use Rattle.shore_model.specs.declared.holds.Hold.{Hold}
use Rattle.shore_model.specs.Lives.{next_opening}
use Rattle.shore_model.specs.Logs.{first_number, image_of_record, is_over}
use Rattle.laws_calls.proofs.EmptyOpens.{empty_is_opened, none_granted}
use Rattle.laws_calls.proofs.SessionInsert.{session_inserts}
use Rattle.laws_calls.specs.Events.{Called, EventMoves, Forced, ManagerEvent, entries_of}
use Rattle.laws_calls.specs.StateChanges.{with_durable}
use Rattle.laws_calls.specs.States.{State}
use Rattle.laws_calls.specs.WorkedRun.{first_id, first_page, opened_empty}
use Rattle.laws_lives.proofs.Invariant.{redone_whole}
use Rattle.laws_lives.proofs.LifeSteps.{format_opens}
use Rattle.laws_lives.specs.Soundness.{opening_with}
use Rattle.laws_lives.proofs.Numbers.{newest_other}
use Rattle.laws_lives.proofs.Redo.{image_of_record-push}
use Rattle.laws_lives.proofs.Writers.{same_or_not}
use Rattle.laws_lives.specs.Pages.{LoggedPages, empty_page}
use Rattle.laws_lives.specs.Recovery.{AppendRecord, FlushPage, ForceLog, RecoveryEvent, RecoveryState, RedoRecord, after_append, after_flush, after_force, after_redo}
use Rattle.laws_lives.specs.Restarts.{RestartsTo}
use Rattle.laws_lives.specs.Undo.{IsLoser, undo_record}
use Rattle.laws_lives.specs.WorkedRun.{just_opened}
use Rattle.laws_runs.proofs.Opens.{leaves_none}
use Rattle.laws_runs.proofs.SoundStores.{found_sound, format_may_be_opened, restart_sound}
use Rattle.laws_runs.proofs.StaySteps.{come}
use Rattle.laws_runs.proofs.Worked.{inserted_loser, opened_from_none}
use Rattle.laws_runs.specs.SlotCounts.{slot_count}
use Rattle.laws_runs.specs.SoundStores.{IsSoundStore, MayBeOpened, found_state}
use Rattle.laws_runs.specs.Stays.{AreStoredStays, IsStoredUp, Up}
use Rattle.laws_runs.specs.StoredRuns.{IsOpenedOver, Manage, StoredMoves, StoredRun, Tend, span_of_run}
use Rattle.laws_runs.specs.WorkedLogs.{inserted, taken_back}

module _ (g : Geometry) (stream_bytes : ℕ) (bytes : List ℕ) (store : HasStore g 0) (page : HasPage g first_page) (limits : LocksInLimits g) (short : length bytes ≤ record_limit g.version)
    (long : 96000 + record_limit g.version ≤ stream_bytes) (most : stream_bytes ≤ MAX_LOG_BYTES) where
  -- ---- the first manager: its record is forced, and its page written back

  abbrev change : LogRecord
  change = record { txn = 1; previous = 0; payload = Change first_id None (Some bytes) }

  abbrev formatted : RecoveryState
  formatted = found_state [] (λ p. empty_page)

  abbrev with_change : RecoveryState
  with_change = after_append formatted change

  abbrev with_force : RecoveryState
  with_force = after_force with_change 1

  abbrev with_flush : RecoveryState
  with_flush = after_flush with_force first_page

  run : (begun : State) × (done : State) × EventMoves g (opened_empty (slot_limit g.version) stream_bytes) (Called 1 call.Begin (Done (Began 1))) begun
      × EventMoves g begun (Called 1 (call.Insert 0 bytes) (Done (Inserted first_id))) done × (begun.log ≡ []) × (begun.durable ≡ 0) × (done.log ≡ inserted bytes) × (done.durable ≡ 0)
  run = session_inserts g stream_bytes bytes store page short long

  abbrev begins : ManagerEvent
  begins = Called 1 call.Begin (Done (Began 1))

  abbrev inserts : ManagerEvent
  inserts = Called 1 (call.Insert 0 bytes) (Done (Inserted first_id))

  abbrev stolen : StoredRun
  stolen = record {
    restart = [];
    ready = formatted;
    first = opened_empty (slot_limit g.version) stream_bytes;
    events = Manage begins [] ∷ Manage inserts (AppendRecord change ∷ []) ∷ Manage (Forced 1) (ForceLog 1 ∷ []) ∷ Tend (FlushPage first_page ∷ []) ∷ [];
    last = record { state = with_durable 1 run.1; store = with_flush };
    made = entries_of (opened_empty (slot_limit g.version) stream_bytes) begins run.0 ++ (entries_of run.0 inserts run.1 ++ []);
    survive = 1;
    pages = with_flush.volume;
    begin = 0;
  }

  stolen_moves : StoredMoves g (record { state = opened_empty (slot_limit g.version) stream_bytes; store = formatted }) stolen.events stolen.last stolen.made
  stolen_moves =
      let durable = run.7 in
      let one = ap length run.6 in (
        record { state = run.0; store = formatted },
        entries_of run.0 inserts run.1 ++ [],
        (run.2, refl, record { log = sym run.4; durable = sym run.5 }),
        (
          record { state = run.1; store = with_change },
          [],
          (run.3, (tt, with_change, (refl, refl), refl), record { log = sym run.6; durable = sym run.7 }),
          (
            record { state = with_durable 1 run.1; store = with_force },
            [],
            ((omega (arith, durable), omega (arith, one), refl), (tt, with_force, (omega arith, omega arith, refl), refl), record { log = sym run.6; durable = refl }),
            (
              record { state = with_durable 1 run.1; store = with_flush },
              [],
              (refl, (tt, with_flush, (omega arith, refl), refl), record { log = sym run.6; durable = refl }),
              (refl, refl),
              refl,
            ),
            refl,
          ),
          refl,
        ),
        refl,
      )

  opened_over_none : IsOpenedOver (opening_with (slot_limit g.version) empty) formatted (opened_empty (slot_limit g.version) stream_bytes)
  opened_over_none =
      let opened = empty_is_opened (slot_limit g.version) stream_bytes in
      record {
        sessions = record {
          slots = refl;
          records = λ id. get-empty rid_cmp id;
          seats = λ n. refl;
          resolving = refl;
          prepared = refl;
          active = refl;
          undo_lists = λ a m. absurd m;
          locks = opened.on.locks;
          some = omega arith;
          below = tt;
        };
        stored = record { log = refl; durable = refl };
        locks = opened.locks;
        waiting = refl;
        running = refl;
        few = opened.few;
      }

  stolen_up : IsStoredUp g stream_bytes (opening_with (slot_limit g.version) empty) formatted stolen
  stolen_up = record {
    restarts = refl;
    redone = refl;
    no_losers = λ t loser. let known = loser.known in omega arith;
    opens = opened_over_none;
    from = opened_from_none g limits stream_bytes;
    moves = stolen_moves;
    lost = record { least = omega arith; most = omega arith; shows = λ p. inl refl };
    begin = refl;
  }

  -- ---- the restart behind it: redo finds the page as it is, and undo takes the insert back

  abbrev found : RecoveryState
  found = found_state (inserted bytes) with_flush.volume

  left : MayBeOpened g stream_bytes (inserted bytes) with_flush.volume
  left =
      (come g stream_bytes (opening_with (slot_limit g.version) empty) [] (λ p. empty_page) (format_may_be_opened g stream_bytes (omega (arith, long)) most) (format_opens (slot_limit g.version)) (Up stolen ∷ []) (inserted bytes) with_flush.volume
      (stolen_up, (refl, refl))).opened

  abbrev passed : RecoveryState
  passed = after_redo found change

  abbrev undone : RecoveryState
  undone = after_append passed (undo_record (inserted bytes) 1)

  abbrev ended : RecoveryState
  ended = after_append undone (undo_record undone.log 1)

  abbrev ready : RecoveryState
  ready = after_force ended 3

  undone_loser : IsLoser undone.log 1
  undone_loser = record { is_one = omega arith; known = omega arith; not_over = refl; not_in_doubt = refl }

  abbrev works : List RecoveryEvent
  works = RedoRecord ∷ AppendRecord (undo_record (inserted bytes) 1) ∷ AppendRecord (undo_record undone.log 1) ∷ ForceLog 3 ∷ []

  restarts : RestartsTo found works ready
  restarts =
      (tt, passed, refl, ((1, inserted_loser bytes, refl), undone, (refl, refl), ((1, undone_loser, refl), ended, (refl, refl), (tt, ready, (omega arith, omega arith, refl), refl))))

  sound : IsSoundStore g stream_bytes ready
  sound = restart_sound g stream_bytes found works ready (found_sound g stream_bytes (inserted bytes) with_flush.volume left) restarts

  none_left : (t : ℕ) → IsLoser ready.log t → ⊥
  none_left t h = ⊎_elim
      (λ own. true_not_false (subst (λ u. is_over u ready.log ≡ false) (sym own) h.not_over))
      (λ other.
      let three = ap first_number (newest_other undone.log (undo_record undone.log 1) t other) in
      let two = ap first_number (newest_other (inserted bytes) (undo_record (inserted bytes) 1) t other) in
      let one = ap first_number (newest_other [] change t other) in
      let known = h.known in
      omega (arith, three, two, one, known))
      (same_or_not 1 t)
    where
      true_not_false : true ≡ false → ⊥
      true_not_false e = cc

  -- nothing is left of the insert
  leaves_nothing : (id : Rid) → image_of_record ready.log id ≡ None
  leaves_nothing id =
      image_of_record-push undone.log (undo_record undone.log 1) id ∙ image_of_record-push (inserted bytes) (undo_record (inserted bytes) 1) id
      ∙ ap (λ image. cond (eq_by_cmp rid_cmp id first_id) None image) (image_of_record-push [] change id)
      ∙ by (eq_by_cmp rid_cmp id first_id)
    where
      by : (b : Bool) → cond b None (cond b (Some bytes) (image_of_record [] id)) ≡ None
      by true = refl
      by false = leaves_none id

  abbrev first : State
  first = record {
    sessions = record (just_opened (slot_limit g.version) empty) { next_txn = 2 };
    locks = record { limit = 16; requests = [] };
    counts = slot_count ready.log;
    log = ready.log;
    durable = 3;
    stream_bytes = stream_bytes;
    waiting = [];
    failed = false;
  }

  abbrev opened : StoredRun
  opened = record {
    restart = works;
    ready = ready;
    first = first;
    events = [];
    last = record { state = first; store = ready };
    made = [];
    survive = 3;
    pages = ready.volume;
    begin = 0;
  }

  none_held : (h : Hold) → Contains [] h → ⊥
  none_held h in_none = absurd (omega (arith, in_none.1))

  -- the crash kept no decision
  opened_up : IsStoredUp g stream_bytes (next_opening (opening_with (slot_limit g.version) empty) (span_of_run formatted stolen)) found opened
  opened_up = record {
    restarts = restarts;
    redone = refl;
    no_losers = none_left;
    opens = record {
      sessions = record {
        slots = refl;
        records = λ id. get-empty rid_cmp id ∙ sym (redone_whole ready sound.recoverable refl id.page id.slot ∙ leaves_nothing id);
        seats = λ n. refl;
        resolving = refl;
        prepared = refl;
        active = refl;
        undo_lists = λ a m. absurd m;
        locks = record { each = λ h among. absurd (none_held h among); all = λ d g among. absurd among; above = λ d g a among. absurd among };
        some = omega arith;
        below = (omega arith, (omega arith, (omega arith, tt)));
      };
      stored = record { log = refl; durable = refl };
      locks = none_granted first refl refl;
      waiting = refl;
      running = refl;
      few = omega arith;
    };
    from = record {
      slots = refl;
      log = refl;
      as_long = refl;
      records = λ id. get-empty rid_cmp id ∙ sym (leaves_nothing id);
      prepared = refl;
      active = refl;
      undo_lists = λ a m. absurd m;
      counts = λ p. refl;
      some = omega arith;
      least = λ n some above. let one = above.0 in omega (arith, one);
      locks = record { limit = let least = limits.0 in omega arith; within = omega arith; inside = All-nil (λ (r : Request). HasGranule g r.granule) };
    };
    moves = (refl, refl);
    lost = record { least = omega arith; most = omega arith; shows = λ p. inl refl };
    begin = refl;
  }

  pub stolen_page_is_undone : (stolen : StoredRun) × (opened : StoredRun) × (pages : LoggedPages)
      × AreStoredStays g stream_bytes (opening_with (slot_limit g.version) empty) [] (λ p. empty_page) (Up stolen ∷ Up opened ∷ []) (taken_back bytes) pages
      × (take stolen.survive stolen.last.store.log ≡ inserted bytes) × ((stolen.pages first_page).slots 0 ≡ Some bytes)
      × ((id : Rid) → get opened.first.sessions.records id ≡ None)
  stolen_page_is_undone = (stolen, opened, ready.volume, (stolen_up, (opened_up, (refl, refl))), refl, refl, λ id. get-empty rid_cmp id)
