-- Stays of the power one after another are runs of managers, of which the laws of lives speak.
use Rattle.std.proofs.Common.{◌≡◌, ◌++◌, ℕ, List, [], ◌∷◌, refl, sym, ap, subst, ◌∙◌, arith, drop, length, take}
use Rattle.std.specs.List.{filter_map}
use Rattle.std.proofs.Math.Seq.{drop-append_seam}
use Rattle.std.proofs.lemmas.List.{drop-append-le, length-take-le}
use Rattle.std.proofs.lemmas.List.Elements.{filter_map-append}
use Rattle.shore_types.specs.declared.layout.Geometry.{Geometry}
use Rattle.shore_model.specs.declared.histories.Decision.{Decision}
use Rattle.shore_model.specs.declared.histories.Entry.{Entry}
use Rattle.shore_model.specs.declared.histories.Opening.{Opening}
use Rattle.shore_model.specs.declared.log_records.LogRecord.{LogRecord}
use Rattle.shore_model.specs.Lives.{IsLife, Span, next_opening}
use Rattle.laws_lives.proofs.Restarts.{events_restart}
use Rattle.laws_lives.proofs.Openings.{undone_decides_nothing, undone_opening}
use Rattle.laws_lives.proofs.UndoRecords.{undone_grows}
use Rattle.laws_lives.specs.Doubts.{IsOpeningOf}
use Rattle.laws_lives.specs.LogPrefixes.{decision_in, decisions_in}
use Rattle.laws_calls.proofs.Prefixes.{prefix_left, prefix_on}
use Rattle.laws_calls.specs.CallHistories.{IsPrefix}
use Rattle.laws_lives.specs.Pages.{LoggedPages}
use Rattle.laws_lives.specs.Recovery.{IsRecoverable, LosePower, MayCrash, RecoveryEvent, RecoveryState, after_crash}
use Rattle.laws_lives.specs.Restarts.{IsRestartOf, RestartsTo}
use Rattle.laws_lives.specs.Stretches.{MayBeFound, opening_after}
use Rattle.laws_lives.specs.Undo.{IsUndoneTo}
use Rattle.laws_runs.proofs.Fixed.{fixed_on, lists_are_fixed}
use Rattle.laws_runs.proofs.Runs.{found_next, is_a_life, may_be_found, opens_last, opens_next, opens_show}
use Rattle.laws_runs.proofs.SplitWorks.{WorksOn, works_none, works_on, works_then}
use Rattle.laws_runs.specs.StoredRuns.{AreFixed, AreStoredRuns, IsStoredRun, Manage, RunsShow, StoredEvent, StoredMoves, StoredRun, StoredState, Tend, lists_found, span_of_run, spans_of_runs}
use Rattle.laws_runs.specs.RoomyLogs.{AreRoomy}
use Rattle.laws_runs.proofs.SoundStores.{found_may_be_found, found_sound, left_is_found, left_may_be_opened, may_crash, restart_sound, restarts_join}
use Rattle.laws_runs.proofs.UnderWay.{moves_under_way, opens_under_way, under_way_sound}
use Rattle.laws_runs.specs.SoundStores.{IsSoundStore, MayBeOpened, found_state}
use Rattle.laws_runs.specs.Stays.{AreStoredStays, Cut, IsStoredCut, IsStoredUp, StoredCut, StoredStay, Up, runs_of, work_cut_off}

-- what stays come to: runs of managers, and what was left may be opened, over the store that the last run left and restarts that lost power
pub record HaveComeTo (g : Geometry) (stream_bytes : ℕ) (o : Opening) (s : RecoveryState) (runs : List StoredRun) (rs : List LogRecord) (pages : LoggedPages) : Type 0 where
  pub opened : MayBeOpened g stream_bytes rs pages
  pub last : RecoveryState
  pub are : AreStoredRuns g o s runs last
  pub works : List RecoveryEvent
  pub restarts : RestartsTo last works (found_state rs pages)

-- ---- decisions behind restarts that lost power

moves_work_on : (g : Geometry) (m : StoredState) (events : List StoredEvent) (last : StoredState) (made : List Entry) → StoredMoves g m events last made → WorksOn m.store last.store
moves_work_on g m [] last made h = subst (λ (x : StoredState). WorksOn m.store x.store) (sym h.0) (works_none m.store)
moves_work_on g m (Manage e works ∷ events) last made h =
    works_then m.store h.0.store last.store (works_on m.store works h.0.store h.2.1) (moves_work_on g h.0 events last h.1 h.3)
moves_work_on g m (Tend works ∷ events) last made h =
    works_then m.store h.0.store last.store (works_on m.store works h.0.store h.2.1) (moves_work_on g h.0 events last h.1 h.3)

-- records of undo decide nothing
decisions_behind : (found rs : List LogRecord) (turns : List ℕ) → IsUndoneTo found turns rs → (all : List LogRecord) → IsPrefix rs all
    → decisions_in (length rs) all ≡ decisions_in (length found) all
decisions_behind found rs turns undone all on =
    let none = undone_decides_nothing found turns rs undone in
    let later : decisions_in (length rs) (rs ++ on.0) ≡ filter_map decision_in on.0 = ap (filter_map decision_in) (drop-append_seam rs on.0) in
    let before : decisions_in (length found) (rs ++ on.0) ≡ filter_map decision_in on.0 =
    ap (filter_map decision_in) (drop-append-le (length found) rs on.0 none.0) ∙ filter_map-append decision_in (drop (length found) rs) on.0
    ∙ ap (λ ds. ds ++ filter_map decision_in on.0) none.1 in
    subst (λ all. decisions_in (length rs) all ≡ decisions_in (length found) all) (sym on.1) (later ∙ sym before)

module _ (g : Geometry) (stream_bytes : ℕ) where
  -- ---- one stay

  module _ (rs : List LogRecord) (pages : LoggedPages) (may : MayBeOpened g stream_bytes rs pages) (c : StoredCut) (h : IsStoredCut (found_state rs pages) c) where
    reached_sound : IsSoundStore g stream_bytes c.reached
    reached_sound = restart_sound g stream_bytes (found_state rs pages) c.restart c.reached (found_sound g stream_bytes rs pages may) h.restarts

    pub cut_leaves : MayBeOpened g stream_bytes (take c.survive c.reached.log) c.pages
    cut_leaves = left_may_be_opened g stream_bytes c.reached reached_sound c.survive c.pages h.lost

    pub cut_restarts : RestartsTo (found_state rs pages) (work_cut_off c) (found_state (take c.survive c.reached.log) c.pages)
    cut_restarts =
        restarts_join (found_state rs pages) c.restart c.reached (LosePower c.survive c.pages 0 ∷ []) (found_state (take c.survive c.reached.log) c.pages) h.restarts (
          tt,
          after_crash c.reached c.survive c.pages 0,
          (may_crash g stream_bytes c.reached reached_sound c.survive c.pages h.lost, refl),
          left_is_found g stream_bytes c.reached reached_sound c.survive c.pages h.lost,
        )

  module _ (o : Opening) (s : RecoveryState) (f : MayBeFound s) (opening : IsOpeningOf s.log o) (roomy : AreRoomy g stream_bytes s.durable s.log) (before : List RecoveryEvent) (rs : List LogRecord) (pages : LoggedPages)
      (begun : RestartsTo s before (found_state rs pages)) (r : StoredRun) (h : IsStoredUp g stream_bytes o (found_state rs pages) r) where
    restarts : RestartsTo s (before ++ r.restart) r.ready
    restarts = restarts_join s before (found_state rs pages) r.restart r.ready begun h.restarts

    last_sound : IsSoundStore g stream_bytes r.last.store
    last_sound =
        under_way_sound g stream_bytes o s.log r.made r.last
        (moves_under_way g stream_bytes o s.log [] (record { state = r.first; store = r.ready }) r.events r.last r.made
        (opens_under_way g stream_bytes o s f opening roomy (before ++ r.restart) r.ready r.first restarts h.redone h.no_losers h.opens h.from) h.moves)

    pub up_leaves : MayBeOpened g stream_bytes (take r.survive r.last.store.log) r.pages
    up_leaves = left_may_be_opened g stream_bytes r.last.store last_sound r.survive r.pages h.lost

    pub is_run : IsStoredRun g o s (record r { restart = before ++ r.restart })
    is_run = record {
      restarts = restarts;
      redone = h.redone;
      no_losers = h.no_losers;
      opens = h.opens;
      moves = h.moves;
      crash = subst (MayCrash r.last.store r.survive r.pages) (sym h.begin) (may_crash g stream_bytes r.last.store last_sound r.survive r.pages h.lost);
    }

    pub up_is_found : found_state (take r.survive r.last.store.log) r.pages ≡ after_crash r.last.store r.survive r.pages r.begin
    up_is_found =
        left_is_found g stream_bytes r.last.store last_sound r.survive r.pages h.lost
        ∙ ap (after_crash r.last.store r.survive r.pages) (sym h.begin)

    begun_anew : IsRecoverable (found_state rs pages) × IsRestartOf s.log (found_state rs pages)
    begun_anew = events_restart s.log s before (found_state rs pages) f.recoverable (record { turns = []; undone = refl; durable = f.durable }) begun

    -- what the run leaves goes on behind what its own restart found
    left_goes_on : IsPrefix rs (take r.survive r.last.store.log)
    left_goes_on =
        let anew = (events_restart rs (found_state rs pages) r.restart r.ready begun_anew.0 (record { turns = []; undone = refl; durable = omega arith }) h.restarts).1 in
        let grown = undone_grows rs anew.turns r.ready.log anew.undone in
        let worked = moves_work_on g (record { state = r.first; store = r.ready }) r.events r.last r.made h.moves in
        let least = anew.durable in
        let more = worked.durable in
        let survives = h.lost.least in
        prefix_left r.survive rs r.last.store.log (prefix_on rs r.ready.log r.last.store.log grown worked.on) (omega (arith, least, more, survives))

    abbrev with_kept : List Decision → Span
    with_kept ds = record { entries = r.made; kept = ds }

    -- so its decisions are the same from the first restart on as from the last
    pub same_span : span_of_run (found_state rs pages) r ≡ span_of_run s (record r { restart = before ++ r.restart })
    same_span =
        ap with_kept
        (decisions_behind s.log rs begun_anew.1.turns begun_anew.1.undone (take r.survive r.last.store.log) left_goes_on)

  -- ---- any number of them

  pub stays_come : (o : Opening) (s : RecoveryState) → MayBeFound s → IsOpeningOf s.log o → AreRoomy g stream_bytes s.durable s.log → (before : List RecoveryEvent) (rs : List LogRecord)
      (pages : LoggedPages) → RestartsTo s before (found_state rs pages) → MayBeOpened g stream_bytes rs pages → (stays : List StoredStay) (last : List LogRecord) (last_pages : LoggedPages)
      → AreStoredStays g stream_bytes o rs pages stays last last_pages → HaveComeTo g stream_bytes o s (runs_of before stays) last last_pages
  stays_come o s f opening roomy before rs pages begun may [] last last_pages h = record {
    opened = subst (λ rs. MayBeOpened g stream_bytes rs last_pages) (sym h.0) (subst (MayBeOpened g stream_bytes rs) (sym h.1) may);
    last = s;
    are = refl;
    works = before;
    restarts = subst (λ rs. RestartsTo s before (found_state rs last_pages)) (sym h.0) (subst (λ pages. RestartsTo s before (found_state rs pages)) (sym h.1) begun);
  }
  stays_come o s f opening roomy before rs pages begun may (Cut c ∷ stays) last last_pages h =
      stays_come o s f opening roomy (before ++ work_cut_off c) (take c.survive c.reached.log) c.pages
      (restarts_join s before (found_state rs pages) (work_cut_off c) (found_state (take c.survive c.reached.log) c.pages) begun (cut_restarts rs pages may c h.0))
      (cut_leaves rs pages may c h.0) stays last last_pages h.1
  stays_come o s f opening roomy before rs pages begun may (Up r ∷ stays) last last_pages h =
      let whole = record r { restart = before ++ r.restart } in
      let run = is_run o s f opening roomy before rs pages begun r h.0 in
      let left = up_leaves o s f opening roomy before rs pages begun r h.0 in
      let next : AreStoredStays g stream_bytes (next_opening o (span_of_run s whole)) (take r.survive r.last.store.log) r.pages stays last last_pages =
      subst (λ span. AreStoredStays g stream_bytes (next_opening o span) (take r.survive r.last.store.log) r.pages stays last last_pages)
      (same_span o s f opening roomy before rs pages begun r h.0) h.1 in
      let rest =
      stays_come (next_opening o (span_of_run s whole)) (after_crash r.last.store r.survive r.pages r.begin) (found_next g o s f opening whole run) (opens_next g o s f opening whole run)
      (subst (λ n. AreRoomy g stream_bytes n (take r.survive r.last.store.log)) (length-take-le r.survive r.last.store.log h.0.lost.most) left.roomy) []
      (take r.survive r.last.store.log) r.pages (up_is_found o s f opening roomy before rs pages begun r h.0) left stays last last_pages next in
      record { opened = rest.opened; last = rest.last; are = (run, rest.are); works = rest.works; restarts = rest.restarts }

  -- ---- as a life

  module _ (o : Opening) (rs : List LogRecord) (pages : LoggedPages) (may : MayBeOpened g stream_bytes rs pages) (opening : IsOpeningOf rs o) (stays : List StoredStay)
      (last : List LogRecord) (last_pages : LoggedPages) (h : AreStoredStays g stream_bytes o rs pages stays last last_pages) where
    found : MayBeFound (found_state rs pages)
    found = found_may_be_found g stream_bytes rs pages may

    pub come : HaveComeTo g stream_bytes o (found_state rs pages) (runs_of [] stays) last last_pages
    come = stays_come o (found_state rs pages) found opening may.roomy [] rs pages refl may stays last last_pages h

    -- restarts that lost power have appended records of undo, and open as what the last run left
    restarted : IsRestartOf come.last.log (found_state last last_pages)
    restarted =
        let left = may_be_found g o (found_state rs pages) (runs_of [] stays) come.last found opening come.are in
        (events_restart come.last.log come.last come.works (found_state last last_pages) left.recoverable
        (record { turns = []; undone = refl; durable = left.durable }) come.restarts).1

    pub are_a_life : IsLife o (spans_of_runs (found_state rs pages) (runs_of [] stays)) (opening_after o (spans_of_runs (found_state rs pages) (runs_of [] stays)))
    are_a_life = is_a_life g o (found_state rs pages) (runs_of [] stays) come.last found opening come.are

    pub open_as_kept : IsOpeningOf last (opening_after o (spans_of_runs (found_state rs pages) (runs_of [] stays)))
    open_as_kept =
        undone_opening (opening_after o (spans_of_runs (found_state rs pages) (runs_of [] stays))) come.last.log restarted.turns last restarted.undone
        (opens_last g o (found_state rs pages) (runs_of [] stays) come.last found opening come.are)

    pub show_what_was_told : RunsShow o (found_state rs pages) (runs_of [] stays)
    show_what_was_told = opens_show g o (found_state rs pages) (runs_of [] stays) come.last found opening come.are

    pub keep_what_was_found : AreFixed (lists_found (found_state rs pages) (runs_of [] stays)) last
    keep_what_was_found =
        fixed_on (lists_found (found_state rs pages) (runs_of [] stays)) come.last.log last (undone_grows come.last.log restarted.turns last restarted.undone)
        (lists_are_fixed g o (found_state rs pages) (runs_of [] stays) come.last found opening come.are)
