use Rattle.std.proofs.Common.{arith, ◌≡◌, ◌+◌, ◌-◌, ℕ, List, [], ◌∷◌, ◌++◌, Bool, false, true, Result, Ok, Err, refl, sym, ap, subst, ◌∙◌, length}
use Rattle.shore_types.specs.declared.layout.TheConstants.{LOG_FRONT_BYTES}
use Rattle.shore_disk.specs.Device.{size}
use Rattle.shore_dwrite.proofs.Moves.{if_err}
use Rattle.shore_model.specs.declared.log_records.LogRecord.{LogRecord}
use Rattle.shore_log.specs.Settled.{cut_of_log, records_of_log}
use Rattle.shore_analysis.proofs.Padding.{length_padded}
use Rattle.shore_model.specs.Logs.{undo_next_of}
use Rattle.shore_restart.specs.Anchors.{EndsBehind}
use Rattle.shore_restart.proofs.Frames.{last_is}
use Rattle.shore_restart.proofs.WholeLogs.{ends_longer, whole_turn, whole_unanswered}
use Rattle.shore_heap.specs.Heaps.{geometry_of}
use Rattle.laws_lives.specs.Undo.{HasNoLosers, undo_record}
use Rattle.shore_restart.specs.declared.errors.RestartError.{RestartError}
use Rattle.shore_restart.specs.declared.errors.RestartError.TheVariants.{Memory, NoRoom}
use Rattle.shore_restart.specs.Standing.{RestartMoves, log_seen, stream_bytes_of}
use Rattle.shore_restart.proofs.LogTurns.{gone_more, gone_none, if_none, no_some, turn_cannot, turn_fits, turn_kept, turn_lacks_room, turn_later, turn_of, turn_previous, turn_reserved, turn_says, turn_takes, turn_there}
use Rattle.shore_restart.proofs.PageErrors.{err_with}
use Rattle.shore_restart.proofs.Turning.{moves_none, turn_stops, turned}
use Rattle.shore_restart.proofs.HeldPages.{held_err, held_here, held_other, held_wider, one_longer}
use Rattle.shore_restart.specs.AnyPages.{AllFindRoom, FindsNoRoom, IsOnPage, IsUndoneOnPage}
use Rattle.shore_restart.specs.Held.{StaysHeld}
use Rattle.shore_restart.specs.Turns.{TurnsFit, gone_on}
use Rattle.shore_restart.proofs.TurnsFit.{find_more, turns_fit_more}
use Rattle.shore_model.specs.declared.log_records.Payload.{Payload}
use Rattle.shore_restart.proofs.BadNumbers.{undone_behind, undone_within}
use Rattle.shore_restart.proofs.QuietLogs.{quiet_beside, quiet_err, quiet_kept, quiet_of, quiet_other}
use Rattle.shore_restart.proofs.turns.Undo.turn.Goals as goal

-- ---- no turn

pub returns-in_err-logged-clause-moves : goal.returns-in_err-logged-clause-moves
returns-in_err-logged-clause-moves g c log_front front anchor disk s ready =
    subst (λ (result : Result Bool RestartError). RestartMoves result log_front front anchor c.args.log.now c.args.log.now c.args.heap.now c.args.heap.now s (λ later. later.log ≡ gone_on s.log (log_seen c.args.log.now) (log_seen c.args.log.now)))
    (sym (err_with c.from_residual-in_err-logged.result _ c.from_residual-in_err-logged.ensures.1))
    (moves_none log_front front anchor c.args.log.now c.args.heap.now s (Err _) disk (λ later. later.log ≡ gone_on s.log (log_seen c.args.log.now) (log_seen c.args.log.now)) ready (sym (gone_none s.log (log_seen c.args.log.now))))

pub returns-in_err-found-clause-moves : goal.returns-in_err-found-clause-moves
returns-in_err-found-clause-moves g c log_front front anchor disk s ready =
    subst (λ (result : Result Bool RestartError). RestartMoves result log_front front anchor c.args.log.now c.args.log.now c.args.heap.now c.args.heap.now s (λ later. later.log ≡ gone_on s.log (log_seen c.args.log.now) (log_seen c.args.log.now)))
    (sym (err_with c.from_residual.result _ c.from_residual.ensures.1))
    (moves_none log_front front anchor c.args.log.now c.args.heap.now s (Err _) disk (λ later. later.log ≡ gone_on s.log (log_seen c.args.log.now) (log_seen c.args.log.now)) ready (sym (gone_none s.log (log_seen c.args.log.now))))

pub returns-in_default-clause-done : goal.returns-in_default-clause-done
returns-in_default-clause-done g c none_left =
    let log = log_seen c.args.log.now in
    (refl, if_none (HasNoLosers log) c.in_ok-logged.field-0 c.in_default.is (c.in_ok-logged.ensures.none (log_seen c.args.log.now) c.requires.losers))

pub returns-in_default-clause-moves : goal.returns-in_default-clause-moves
returns-in_default-clause-moves g c log_front front anchor disk s ready =
    moves_none log_front front anchor c.args.log.now c.args.heap.now s {A = Bool} (Ok false) disk (λ later. later.log ≡ gone_on s.log (log_seen c.args.log.now) (log_seen c.args.log.now)) ready (sym (gone_none s.log (log_seen c.args.log.now)))

pub returns-in_default-clause-fits : goal.returns-in_default-clause-fits
returns-in_default-clause-fits g c log_front front anchor disk s found ready all = subst (TurnsFit (geometry_of c.args.heap.now).version found) (sym (gone_none s.log (log_seen c.args.log.now))) all

pub returns-in_default-clause-any_fit : goal.returns-in_default-clause-any_fit
returns-in_default-clause-any_fit g c front first disk due long held all =
    subst (AllFindRoom (geometry_of c.args.heap.now) first) (sym (gone_none due (log_seen c.args.log.now))) all

-- ---- no room for one

pub room_with-requires-clause-fit : goal.room_with-requires-clause-fit
room_with-requires-clause-fit g c =
    let cut = cut_of_log c.args.log.now in
    let kept = records_of_log c.args.log.now in
    let log = log_seen c.args.log.now in
    let bytes = stream_bytes_of c.args.log.now in
    let r = c.in-Some.logged in
    let turn = turn_of (geometry_of c.args.heap.now) cut kept bytes c.args.self.now c.requires c.cut_off-cut.result c.cut_off-cut.ensures c.in_ok-found.found.now c.in_ok-found.ensures.found c.in_ok-logged.field-0 r c.in-Some.is
    c.in_ok-logged.ensures.loser c.in_ok-logged.ensures.turn c.in_ok-logged.ensures.undoes in
    turn_fits (geometry_of c.args.heap.now) cut kept bytes c.args.self.now c.requires r turn c.in_ok-found.found.now c.in_ok-found.ensures.found c.in_ok-found.ensures.fit

pub room_with-requires-clause-few : goal.room_with-requires-clause-few
room_with-requires-clause-few g c = let numbers = c.requires.room.leaves.numbers in let last = c.last-last.ensures in omega (arith, numbers, last)

pub returns-in_default-room_with-clause-moves : goal.returns-in_default-room_with-clause-moves
returns-in_default-room_with-clause-moves g c log_front front anchor disk s ready =
    moves_none log_front front anchor c.args.log.now c.args.heap.now s {A = Bool} (Err NoRoom) disk (λ later. later.log ≡ gone_on s.log (log_seen c.args.log.now) (log_seen c.args.log.now)) ready (sym (gone_none s.log (log_seen c.args.log.now)))

pub returns-in_default-room_with-clause-no_room : goal.returns-in_default-room_with-clause-no_room
returns-in_default-room_with-clause-no_room g c is =
    let cut = cut_of_log c.args.log.now in
    let kept = records_of_log c.args.log.now in
    let log = log_seen c.args.log.now in
    let bytes = stream_bytes_of c.args.log.now in
    let r = c.in-Some.logged in
    let turn = turn_of (geometry_of c.args.heap.now) cut kept bytes c.args.self.now c.requires c.cut_off-cut.result c.cut_off-cut.ensures c.in_ok-found.found.now c.in_ok-found.ensures.found c.in_ok-logged.field-0 r c.in-Some.is
    c.in_ok-logged.ensures.loser c.in_ok-logged.ensures.turn c.in_ok-logged.ensures.undoes in
    turn_lacks_room (geometry_of c.args.heap.now) cut kept bytes c.args.self.now c.requires r turn
    (λ leaves. no_some c.room_with.result c.in_default-room_with.is ((c.room_with.ensures.none cut kept bytes c.requires.room c.last-last.ensures (turn_reserved (geometry_of c.args.heap.now) cut kept bytes c.args.self.now c.requires r turn)).1 leaves))

-- ---- the record is appended

pub append-requires-clause-there : goal.append-requires-clause-there
append-requires-clause-there g c =
    let cut = cut_of_log c.args.log.now in
    let kept = records_of_log c.args.log.now in
    let log = log_seen c.args.log.now in
    let bytes = stream_bytes_of c.args.log.now in
    let r = c.in-Some.logged in
    let turn = turn_of (geometry_of c.args.heap.now) cut kept bytes c.args.self.now c.requires c.cut_off-cut.result c.cut_off-cut.ensures c.in_ok-found.found.now c.in_ok-found.ensures.found c.in_ok-logged.field-0 r c.in-Some.is
    c.in_ok-logged.ensures.loser c.in_ok-logged.ensures.turn c.in_ok-logged.ensures.undoes in
    turn_there (geometry_of c.args.heap.now) cut kept bytes c.args.self.now c.requires r turn

pub returns-in_err-append-clause-moves : goal.returns-in_err-append-clause-moves
returns-in_err-append-clause-moves g c log_front front anchor disk s ready =
    let cut = cut_of_log c.args.log.now in
    let kept = records_of_log c.args.log.now in
    let log = log_seen c.args.log.now in
    let bytes = stream_bytes_of c.args.log.now in
    let r = c.in-Some.logged in
    let turn = turn_of (geometry_of c.args.heap.now) cut kept bytes c.args.self.now c.requires c.cut_off-cut.result c.cut_off-cut.ensures c.in_ok-found.found.now c.in_ok-found.ensures.found c.in_ok-logged.field-0 r c.in-Some.is
    c.in_ok-logged.ensures.loser c.in_ok-logged.ensures.turn c.in_ok-logged.ensures.undoes in
    let whole = whole_turn cut kept s.log ready.at_rest.ended ready.at_rest.records r turn in
    let number = ap (λ (n : ℕ). n + 1) (c.last.view_is ∙ c.last-last.ensures ∙ last_is log_front anchor c.args.log.now s ready.at_rest) in
    let e = c.in_err-append.field-0.0 in
    subst (λ (result : Result Bool RestartError). RestartMoves result log_front front anchor c.args.log.now c.append.new.log c.args.heap.now c.append.new.heap s (λ later. later.log ≡ gone_on s.log log (log_seen c.append.new.log)))
    (sym (err_with c.from_residual-in_err-append.result e c.from_residual-in_err-append.ensures.1))
    (turn_stops log_front front anchor c.args.log.now c.args.heap.now s e e c.append.new.log c.append.new.heap (undo_record s.log r.txn) (λ later. later.log ≡ gone_on s.log log (log_seen c.append.new.log))
    (c.in_err-append.ensures.appends log_front front anchor disk s r.txn ready (turn_says (geometry_of c.args.heap.now).version s.log r whole) number))

pub returns-in_err-append-clause-bad : goal.returns-in_err-append-clause-bad
returns-in_err-append-clause-bad g c log_front front anchor disk s ready =
    let cut = cut_of_log c.args.log.now in
    let kept = records_of_log c.args.log.now in
    let log = log_seen c.args.log.now in
    let bytes = stream_bytes_of c.args.log.now in
    let r = c.in-Some.logged in
    let turn = turn_of (geometry_of c.args.heap.now) cut kept bytes c.args.self.now c.requires c.cut_off-cut.result c.cut_off-cut.ensures c.in_ok-found.found.now c.in_ok-found.ensures.found c.in_ok-logged.field-0 r c.in-Some.is
    c.in_ok-logged.ensures.loser c.in_ok-logged.ensures.turn c.in_ok-logged.ensures.undoes in
    if_err c.from_residual-in_err-append.result c.from_residual-in_err-append.ensures.1 (λ error same n is.
    let bad = c.in_err-append.ensures.bad log_front front anchor disk s ready n (sym same ∙ is) in
    let whole = whole_turn cut kept s.log ready.at_rest.ended ready.at_rest.records r turn in
    let left = whole_unanswered cut kept s.log ready.at_rest.ended ready.at_rest.records r.txn turn.loser in
    turn_cannot (geometry_of c.args.heap.now).version s.log r whole n (bad.0 ∙ c.next_change.ensures log r.txn c.requires.losers turn.loser turn.next ∙ sym (ap undo_next_of left)) bad.1)

pub returns-clause-fits : goal.returns-clause-fits
returns-clause-fits g c log_front front anchor disk s found ready all =
    let cut = cut_of_log c.args.log.now in
    let kept = records_of_log c.args.log.now in
    let log = log_seen c.args.log.now in
    let bytes = stream_bytes_of c.args.log.now in
    let r = c.in-Some.logged in
    let turn = turn_of (geometry_of c.args.heap.now) cut kept bytes c.args.self.now c.requires c.cut_off-cut.result c.cut_off-cut.ensures c.in_ok-found.found.now c.in_ok-found.ensures.found c.in_ok-logged.field-0 r c.in-Some.is
    c.in_ok-logged.ensures.loser c.in_ok-logged.ensures.turn c.in_ok-logged.ensures.undoes in
    let whole = whole_turn cut kept s.log ready.at_rest.ended ready.at_rest.records r turn in
    let same_cut = ap (λ t. t.first - 1) (c.take.ensures.frames.tail ∙ c.append.ensures.log.tail) in
    let taken = c.take.ensures.taken ∙ ap (λ (rs : List LogRecord). rs ++ r ∷ []) c.append.ensures.same in
    let grown = turn_later (geometry_of c.args.heap.now) cut kept bytes c.args.self.now c.requires r turn (cut_of_log c.take.new.self) (records_of_log c.take.new.self) same_cut taken in
    let fits = c.in_ok-append.ensures.fits log_front front anchor disk s r.txn ready (turn_says (geometry_of c.args.heap.now).version s.log r whole) in
    subst (TurnsFit (geometry_of c.args.heap.now).version found) (sym (gone_more s.log log (log_seen c.take.new.self) r grown)) (turns_fit_more (geometry_of c.args.heap.now).version found s.log r all fits)

pub returns-in_err-append-clause-device : goal.returns-in_err-append-clause-device
returns-in_err-append-clause-device g c log_front front anchor disk s ready =
    if_err c.from_residual-in_err-append.result c.from_residual-in_err-append.ensures.1 (λ error same f is. c.in_err-append.ensures.device log_front front anchor disk s ready f (sym same ∙ is))

-- ---- .. and taken

pub take-requires-clause-text : goal.take-requires-clause-text
take-requires-clause-text g c =
    let cut = cut_of_log c.args.log.now in
    let kept = records_of_log c.args.log.now in
    let log = log_seen c.args.log.now in
    let bytes = stream_bytes_of c.args.log.now in
    let r = c.in-Some.logged in
    let turn = turn_of (geometry_of c.args.heap.now) cut kept bytes c.args.self.now c.requires c.cut_off-cut.result c.cut_off-cut.ensures c.in_ok-found.found.now c.in_ok-found.ensures.found c.in_ok-logged.field-0 r c.in-Some.is
    c.in_ok-logged.ensures.loser c.in_ok-logged.ensures.turn c.in_ok-logged.ensures.undoes in
    turn_fits (geometry_of c.args.heap.now) cut kept bytes c.args.self.now c.requires r turn c.in_ok-found.found.now c.in_ok-found.ensures.found c.in_ok-found.ensures.fit

pub take-requires-clause-previous : goal.take-requires-clause-previous
take-requires-clause-previous g c =
    let cut = cut_of_log c.args.log.now in
    let kept = records_of_log c.args.log.now in
    let log = log_seen c.args.log.now in
    let bytes = stream_bytes_of c.args.log.now in
    let r = c.in-Some.logged in
    let turn = turn_of (geometry_of c.args.heap.now) cut kept bytes c.args.self.now c.requires c.cut_off-cut.result c.cut_off-cut.ensures c.in_ok-found.found.now c.in_ok-found.ensures.found c.in_ok-logged.field-0 r c.in-Some.is
    c.in_ok-logged.ensures.loser c.in_ok-logged.ensures.turn c.in_ok-logged.ensures.undoes in
    turn_previous (geometry_of c.args.heap.now) cut kept bytes c.args.self.now c.requires r turn (cut_of_log c.append.new.log) (records_of_log c.append.new.log)
    (ap (λ t. t.first - 1) c.append.ensures.log.tail) c.append.ensures.same

pub returns-clause-turn : goal.returns-clause-turn
returns-clause-turn g c more =
    let cut = cut_of_log c.args.log.now in
    let kept = records_of_log c.args.log.now in
    let log = log_seen c.args.log.now in
    let bytes = stream_bytes_of c.args.log.now in
    let r = c.in-Some.logged in
    let turn = turn_of (geometry_of c.args.heap.now) cut kept bytes c.args.self.now c.requires c.cut_off-cut.result c.cut_off-cut.ensures c.in_ok-found.found.now c.in_ok-found.ensures.found c.in_ok-logged.field-0 r c.in-Some.is
    c.in_ok-logged.ensures.loser c.in_ok-logged.ensures.turn c.in_ok-logged.ensures.undoes in
    let same_cut = ap (λ t. t.first - 1) (c.take.ensures.frames.tail ∙ c.append.ensures.log.tail) in
    let taken = c.take.ensures.taken ∙ ap (λ (rs : List LogRecord). rs ++ r ∷ []) c.append.ensures.same in
    let grown = turn_later (geometry_of c.args.heap.now) cut kept bytes c.args.self.now c.requires r turn (cut_of_log c.take.new.self) (records_of_log c.take.new.self) same_cut taken in
    turn_takes (geometry_of c.args.heap.now) cut kept bytes c.args.self.now c.requires r turn (log_seen c.take.new.self) _ grown (c.note_logged.ensures.fewer log c.requires.losers turn.loser turn.is)

pub returns-clause-undo : goal.returns-clause-undo
returns-clause-undo g c =
    let cut = cut_of_log c.args.log.now in
    let kept = records_of_log c.args.log.now in
    let log = log_seen c.args.log.now in
    let bytes = stream_bytes_of c.args.log.now in
    let r = c.in-Some.logged in
    let turn = turn_of (geometry_of c.args.heap.now) cut kept bytes c.args.self.now c.requires c.cut_off-cut.result c.cut_off-cut.ensures c.in_ok-found.found.now c.in_ok-found.ensures.found c.in_ok-logged.field-0 r c.in-Some.is
    c.in_ok-logged.ensures.loser c.in_ok-logged.ensures.turn c.in_ok-logged.ensures.undoes in
    let same_cut = ap (λ t. t.first - 1) (c.take.ensures.frames.tail ∙ c.append.ensures.log.tail) in
    let taken = c.take.ensures.taken ∙ ap (λ (rs : List LogRecord). rs ++ r ∷ []) c.append.ensures.same in
    let grown = turn_later (geometry_of c.args.heap.now) cut kept bytes c.args.self.now c.requires r turn (cut_of_log c.take.new.self) (records_of_log c.take.new.self) same_cut taken in
    turn_kept (geometry_of c.args.heap.now) cut kept bytes c.args.self.now c.requires r turn (geometry_of c.append.new.heap) (cut_of_log c.take.new.self) (records_of_log c.take.new.self)
    (stream_bytes_of c.take.new.self) _ c.append.ensures.volume.geometry same_cut taken
    (ap (λ (device : g.row.L.Denot). size (g.L.Disk.history device) - LOG_FRONT_BYTES) c.take.ensures.device ∙ ap (λ (long : ℕ). long - LOG_FRONT_BYTES) c.append.ensures.log.size)
    (c.note_logged.ensures.losers log c.requires.losers turn.loser turn.is (ap (λ (n : ℕ). n + 1) (c.last.view_is ∙ c.last-last.ensures ∙ sym (length_padded cut kept))))
    (c.in-Some-room_with.ensures.some cut kept bytes c.requires.room c.last-last.ensures (turn_reserved (geometry_of c.args.heap.now) cut kept bytes c.args.self.now c.requires r turn))

pub returns-clause-moves : goal.returns-clause-moves
returns-clause-moves g c log_front front anchor disk s ready =
    let cut = cut_of_log c.args.log.now in
    let kept = records_of_log c.args.log.now in
    let log = log_seen c.args.log.now in
    let bytes = stream_bytes_of c.args.log.now in
    let r = c.in-Some.logged in
    let turn = turn_of (geometry_of c.args.heap.now) cut kept bytes c.args.self.now c.requires c.cut_off-cut.result c.cut_off-cut.ensures c.in_ok-found.found.now c.in_ok-found.ensures.found c.in_ok-logged.field-0 r c.in-Some.is
    c.in_ok-logged.ensures.loser c.in_ok-logged.ensures.turn c.in_ok-logged.ensures.undoes in
    let whole = whole_turn cut kept s.log ready.at_rest.ended ready.at_rest.records r turn in
    let same_cut = ap (λ t. t.first - 1) (c.take.ensures.frames.tail ∙ c.append.ensures.log.tail) in
    let taken = c.take.ensures.taken ∙ ap (λ (rs : List LogRecord). rs ++ r ∷ []) c.append.ensures.same in
    let grown = turn_later (geometry_of c.args.heap.now) cut kept bytes c.args.self.now c.requires r turn (cut_of_log c.take.new.self) (records_of_log c.take.new.self) same_cut taken in
    let rest = ready.at_rest in
    let number = ap (λ (n : ℕ). n + 1) (c.last.view_is ∙ c.last-last.ensures ∙ last_is log_front anchor c.args.log.now s rest) in
    let a = c.in_ok-append.ensures.appends log_front front anchor disk s r.txn ready (turn_says (geometry_of c.args.heap.now).version s.log r whole) number in
    let mine = undo_record s.log r.txn in
    let ends : EndsBehind (cut_of_log c.append.new.log) (a.later.log ++ mine ∷ []) = subst (λ (n : ℕ). EndsBehind n (a.later.log ++ mine ∷ [])) (sym (ap (λ t. t.first - 1) c.append.ensures.log.tail))
    (subst (λ (l : List LogRecord). EndsBehind cut (l ++ mine ∷ [])) (sym a.done.0) (ends_longer cut kept s.log rest.ended rest.records mine turn.loser)) in
    let moved = turned log_front front anchor c.args.log.now c.args.heap.now s c.append.new.log c.take.new.self c.append.new.heap mine a c.take.ensures.frames
    (c.take.ensures.taken ∙ ap (λ (x : LogRecord). records_of_log c.append.new.log ++ x ∷ []) whole.is) (ap (λ (device : g.row.L.Denot). g.L.Disk.history device) c.take.ensures.device)
    c.append.ensures.volume.geometry r.txn whole.loser refl ends in
    record {
      later = moved.later;
      moments = moved.moments;
      path = moved.path;
      done = (
        moved.done.0 ∙ ap (λ (x : LogRecord). s.log ++ x ∷ []) (sym whole.is) ∙ sym (gone_more s.log log (log_seen c.take.new.self) r grown),
        moved.done.1,
        moved.done.2,
      );
      notes = moved.notes;
    }

-- ---- whatever the pages hold

pub returns-in_err-logged-clause-any_pages : goal.returns-in_err-logged-clause-any_pages
returns-in_err-logged-clause-any_pages g c front first disk due long held =
    held_other front first disk c.args.heap.now c.args.heap.now (length due) (gone_on due (log_seen c.args.log.now) (log_seen c.args.log.now)) (length (log_seen c.args.log.now)) c.from_residual-in_err-logged.result Memory
    c.from_residual-in_err-logged.ensures.1 (λ f page. cc)

pub returns-in_default-clause-any_pages : goal.returns-in_default-clause-any_pages
returns-in_default-clause-any_pages g c front first disk due long held =
    let log = log_seen c.args.log.now in
    let n = length due in
    record {
      named = tt;
      stays = subst (λ (done : List LogRecord). StaysHeld front first disk c.args.heap.now c.args.heap.now n done (length log)) (sym (gone_none due log))
          (subst (λ (later : ℕ). StaysHeld front first disk c.args.heap.now c.args.heap.now n due later) long (held_here front first disk c.args.heap.now due n n (omega arith) held));
    }

pub returns-in_default-room_with-clause-any_pages : goal.returns-in_default-room_with-clause-any_pages
returns-in_default-room_with-clause-any_pages g c front first disk due long held = record { named = λ f is. absurd cc; stays = tt }

pub returns-in_err-append-clause-any_pages : goal.returns-in_err-append-clause-any_pages
returns-in_err-append-clause-any_pages g c front first disk due long held =
    let cut = cut_of_log c.args.log.now in
    let kept = records_of_log c.args.log.now in
    let log = log_seen c.args.log.now in
    let bytes = stream_bytes_of c.args.log.now in
    let r = c.in-Some.logged in
    let turn = turn_of (geometry_of c.args.heap.now) cut kept bytes c.args.self.now c.requires c.cut_off-cut.result c.cut_off-cut.ensures c.in_ok-found.found.now c.in_ok-found.ensures.found c.in_ok-logged.field-0 r c.in-Some.is
    c.in_ok-logged.ensures.loser c.in_ok-logged.ensures.turn c.in_ok-logged.ensures.undoes in
    let n = length due in
    let number = ap (λ (n : ℕ). n + 1) (c.last.view_is ∙ c.last-last.ensures ∙ sym (length_padded cut kept) ∙ sym long) in
    held_err front first disk c.args.heap.now c.append.new.heap n (due ++ r ∷ []) (n + 1) (gone_on due log (log_seen c.append.new.log)) (length (log_seen c.append.new.log))
    c.from_residual-in_err-append.result c.in_err-append.field-0.0 c.from_residual-in_err-append.ensures.1
    (held_wider (IsOnPage r) (IsUndoneOnPage log) _ front first disk c.args.heap.now c.append.new.heap n (due ++ r ∷ []) (n + 1) (λ p on. (r.txn, turn.loser, turn.next, subst (λ (x : LogRecord). IsOnPage x p) turn.is on))
    (c.in_err-append.ensures.any_pages front first disk due r r.txn long held refl (turn_says (geometry_of c.args.heap.now).version log r turn) number))

pub returns-clause-any_pages : goal.returns-clause-any_pages
returns-clause-any_pages g c front first disk due long held =
    let cut = cut_of_log c.args.log.now in
    let kept = records_of_log c.args.log.now in
    let log = log_seen c.args.log.now in
    let bytes = stream_bytes_of c.args.log.now in
    let r = c.in-Some.logged in
    let turn = turn_of (geometry_of c.args.heap.now) cut kept bytes c.args.self.now c.requires c.cut_off-cut.result c.cut_off-cut.ensures c.in_ok-found.found.now c.in_ok-found.ensures.found c.in_ok-logged.field-0 r c.in-Some.is
    c.in_ok-logged.ensures.loser c.in_ok-logged.ensures.turn c.in_ok-logged.ensures.undoes in
    let same_cut = ap (λ t. t.first - 1) (c.take.ensures.frames.tail ∙ c.append.ensures.log.tail) in
    let taken = c.take.ensures.taken ∙ ap (λ (rs : List LogRecord). rs ++ r ∷ []) c.append.ensures.same in
    let grown = turn_later (geometry_of c.args.heap.now) cut kept bytes c.args.self.now c.requires r turn (cut_of_log c.take.new.self) (records_of_log c.take.new.self) same_cut taken in
    let n = length due in
    let later = log_seen c.take.new.self in
    let number = ap (λ (n : ℕ). n + 1) (c.last.view_is ∙ c.last-last.ensures ∙ sym (length_padded cut kept) ∙ sym long) in
    let one_more : n + 1 ≡ length later = ap (λ (n : ℕ). n + 1) long ∙ sym (one_longer log later r grown) in
    let stays = (c.in_ok-append.ensures.any_pages front first disk due r r.txn long held refl (turn_says (geometry_of c.args.heap.now).version log r turn) number).stays in
    record {
      named = tt;
      stays = subst (λ (last : ℕ). StaysHeld front first disk c.args.heap.now c.append.new.heap n (gone_on due log later) last) one_more
          (subst (λ (done : List LogRecord). StaysHeld front first disk c.args.heap.now c.append.new.heap n done (n + 1)) (sym (gone_more due log later r grown)) stays);
    }

pub returns-in_err-logged-clause-any_bad : goal.returns-in_err-logged-clause-any_bad
returns-in_err-logged-clause-any_bad g c front first disk due long held = if_err c.from_residual-in_err-logged.result c.from_residual-in_err-logged.ensures.1 (λ error same n is. let clash = sym same ∙ is in absurd cc)

pub returns-in_err-append-clause-any_bad : goal.returns-in_err-append-clause-any_bad
returns-in_err-append-clause-any_bad g c front first disk due long held =
    let cut = cut_of_log c.args.log.now in
    let kept = records_of_log c.args.log.now in
    let log = log_seen c.args.log.now in
    let bytes = stream_bytes_of c.args.log.now in
    let r = c.in-Some.logged in
    let turn = turn_of (geometry_of c.args.heap.now) cut kept bytes c.args.self.now c.requires c.cut_off-cut.result c.cut_off-cut.ensures c.in_ok-found.found.now c.in_ok-found.ensures.found c.in_ok-logged.field-0 r c.in-Some.is
    c.in_ok-logged.ensures.loser c.in_ok-logged.ensures.turn c.in_ok-logged.ensures.undoes in
    if_err c.from_residual-in_err-append.result c.from_residual-in_err-append.ensures.1 (λ error same n is.
    let bad = c.in_err-append.ensures.any_bad front first disk due long held n (sym same ∙ is) in (
      r.txn,
      turn.loser,
      turn.next,
      bad.0 ∙ c.next_change.ensures log r.txn c.requires.losers turn.loser turn.next,
      subst (λ (payload : Payload). FindsNoRoom (geometry_of c.args.heap.now) first due (length log + 1) payload) (ap (λ (x : LogRecord). x.payload) turn.is)
          (subst (λ (n : ℕ). FindsNoRoom (geometry_of c.args.heap.now) first due (n + 1) r.payload) long bad.1),
    ))

pub returns-clause-any_fit : goal.returns-clause-any_fit
returns-clause-any_fit g c front first disk due long held all =
    let cut = cut_of_log c.args.log.now in
    let kept = records_of_log c.args.log.now in
    let log = log_seen c.args.log.now in
    let bytes = stream_bytes_of c.args.log.now in
    let r = c.in-Some.logged in
    let turn = turn_of (geometry_of c.args.heap.now) cut kept bytes c.args.self.now c.requires c.cut_off-cut.result c.cut_off-cut.ensures c.in_ok-found.found.now c.in_ok-found.ensures.found c.in_ok-logged.field-0 r c.in-Some.is
    c.in_ok-logged.ensures.loser c.in_ok-logged.ensures.turn c.in_ok-logged.ensures.undoes in
    let same_cut = ap (λ t. t.first - 1) (c.take.ensures.frames.tail ∙ c.append.ensures.log.tail) in
    let taken = c.take.ensures.taken ∙ ap (λ (rs : List LogRecord). rs ++ r ∷ []) c.append.ensures.same in
    let grown = turn_later (geometry_of c.args.heap.now) cut kept bytes c.args.self.now c.requires r turn (cut_of_log c.take.new.self) (records_of_log c.take.new.self) same_cut taken in
    subst (AllFindRoom (geometry_of c.args.heap.now) first) (sym (gone_more due log (log_seen c.take.new.self) r grown))
    (find_more (geometry_of c.args.heap.now) first due r all (c.in_ok-append.ensures.any_fit front first disk due r.txn long held (turn_says (geometry_of c.args.heap.now).version log r turn)))

pub returns-in_err-logged-clause-log_device : goal.returns-in_err-logged-clause-log_device
returns-in_err-logged-clause-log_device g c log_front quiet =
    quiet_other log_front c.args.log.now c.args.log.now c.args.log.now (omega arith) c.from_residual-in_err-logged.result Memory c.from_residual-in_err-logged.ensures.1 (λ f is. cc) quiet (omega arith)

pub returns-in_default-clause-log_device : goal.returns-in_default-clause-log_device
returns-in_default-clause-log_device g c log_front quiet = quiet_beside log_front {A = Bool} c.args.log.now c.args.log.now (Ok false) tt quiet (omega arith)

pub returns-in_default-room_with-clause-log_device : goal.returns-in_default-room_with-clause-log_device
returns-in_default-room_with-clause-log_device g c log_front quiet = quiet_beside log_front {A = Bool} c.args.log.now c.args.log.now (Err NoRoom) (λ f is. cc) quiet (omega arith)

pub returns-in_err-append-clause-log_device : goal.returns-in_err-append-clause-log_device
returns-in_err-append-clause-log_device g c log_front quiet =
    quiet_err log_front c.args.log.now c.args.log.now c.append.new.log (omega arith) c.from_residual-in_err-append.result c.in_err-append.field-0.0 c.from_residual-in_err-append.ensures.1
    (c.in_err-append.ensures.log_device log_front quiet)

pub returns-clause-log_device : goal.returns-clause-log_device
returns-clause-log_device g c log_front quiet =
    let on = quiet_of log_front c.args.log.now c.append.new.log c.in_ok-append.field-0 (c.in_ok-append.ensures.log_device log_front quiet) in
    let taken = quiet_kept log_front c.append.new.log c.take.new.self c.take.ensures.frames on.0 in
    let more = on.1 in
    let longer = taken.1 in
    quiet_beside log_front {A = Bool} c.args.log.now c.take.new.self (Ok true) tt taken.0 (omega (arith, more, longer))

-- ---- the record that is named

pub returns-in_err-logged-clause-bad_number : goal.returns-in_err-logged-clause-bad_number
returns-in_err-logged-clause-bad_number g c found so_far = if_err c.from_residual-in_err-logged.result c.from_residual-in_err-logged.ensures.1 (λ error same n is. let clash = sym same ∙ is in absurd cc)

pub returns-in_err-append-clause-bad_number : goal.returns-in_err-append-clause-bad_number
returns-in_err-append-clause-bad_number g c found so_far =
    let cut = cut_of_log c.args.log.now in
    let kept = records_of_log c.args.log.now in
    let log = log_seen c.args.log.now in
    let bytes = stream_bytes_of c.args.log.now in
    let r = c.in-Some.logged in
    let turn = turn_of (geometry_of c.args.heap.now) cut kept bytes c.args.self.now c.requires c.cut_off-cut.result c.cut_off-cut.ensures c.in_ok-found.found.now c.in_ok-found.ensures.found c.in_ok-logged.field-0 r c.in-Some.is
    c.in_ok-logged.ensures.loser c.in_ok-logged.ensures.turn c.in_ok-logged.ensures.undoes in
    if_err c.from_residual-in_err-append.result c.from_residual-in_err-append.ensures.1 (λ error same n is.
    let bad = c.in_err-append.ensures.bad_number n (sym same ∙ is) in
    let names = bad.0 ∙ c.next_change.ensures log r.txn c.requires.losers turn.loser turn.next in
    (undone_behind cut kept r turn n names bad.1, (undone_within found log r turn so_far n names bad.1).1))

pub returns-clause-unstaged : goal.returns-clause-unstaged
returns-clause-unstaged g c none = c.take.ensures.frame.1 ∙ c.in_ok-append.ensures.unstaged none
