use Rattle.std.proofs.Common.{arith, ◌≡◌, ◌++◌, ◌∷◌, [], ◌<◌, ◌+◌, ℕ, List, Result, Ok, Err, false, true, refl, sym, ap, subst, ◌∙◌, length}
use Rattle.std.specs.Prelude.{IsSomeAnd}
use Rattle.shore_types.specs.Layout.{HasPage}
use Rattle.shore_types.specs.declared.layout.Geometry.{Geometry}
use Rattle.shore_dwrite.proofs.Moves.{if_err}
use Rattle.shore_model.specs.declared.log_records.LogRecord.{LogRecord}
use Rattle.shore_page.specs.Room.{Fits}
use Rattle.shore_types.specs.Images.{image_len}
use Rattle.laws_runs.specs.SlotCounts.{slots_left}
use Rattle.shore_heap.specs.Heaps.{frame_of, geometry_of}
use Rattle.laws_lives.specs.Recovery.{RecoveryState}
use Rattle.shore_restart.specs.declared.errors.RestartError.{RestartError}
use Rattle.shore_restart.specs.declared.errors.RestartError.TheVariants.{BadRecord}
use Rattle.shore_restart.specs.Standing.{Appends, log_seen}
use Rattle.shore_restart.proofs.Coming.{came_of}
use Rattle.shore_restart.proofs.PageErrors.{err_with}
use Rattle.shore_restart.proofs.Turning.{append_stops, appended, fits_left, fits_whole}
use Rattle.shore_restart.proofs.HeldPages.{finds_none_there, finds_some_there, frame_below, held_changed, held_counted, held_err, held_other, held_up, held_wider, some_then}
use Rattle.shore_restart.proofs.ReadPages.{on_page}
use Rattle.shore_restart.specs.AnyPages.{FindsNoRoom, IsOnPage}
use Rattle.shore_restart.proofs.QuietLogs.{quiet_beside, quiet_err, quiet_of, quiet_then}
use Rattle.shore_restart.proofs.turns.put_back.Goals as goal

pub returns-in_err-bring-clause-appends : goal.returns-in_err-bring-clause-appends
returns-in_err-bring-clause-appends g c log_front front anchor disk s r ready says number =
    let e = c.in_err-bring.field-0.0 in
    subst (λ (result : Result (Unit {0}) RestartError). Appends result log_front front anchor c.args.log.now c.bring.new.log c.args.heap.now c.bring.new.heap s r)
    (sym (err_with c.from_residual.result e c.from_residual.ensures.1))
    (append_stops log_front front anchor c.args.log.now c.args.heap.now s (Err e) e c.bring.new.log c.bring.new.log c.bring.new.heap r (λ (later : RecoveryState). (later.log ≡ s.log) × (later.in_place ≡ s.in_place)) refl (c.in_err-bring.ensures.moves log_front front anchor disk s ready))

pub returns-then-not-fits-clause-appends : goal.returns-then-not-fits-clause-appends
returns-then-not-fits-clause-appends g c log_front front anchor disk s r ready says number =
    append_stops log_front front anchor c.args.log.now c.args.heap.now s {A = Unit {0}} (Ok tt) (BadRecord c.args.undone) c.bring.new.log c.bring.new.log c.bring.new.heap r (λ (later : RecoveryState). (later.log ≡ s.log) × (later.in_place ≡ s.in_place)) refl (c.in_ok-bring.ensures.moves log_front front anchor disk s ready)

pub returns-then-not-fits-clause-bad : goal.returns-then-not-fits-clause-bad
returns-then-not-fits-clause-bad g c log_front front anchor disk s ready n is =
    let mid = c.bring.new.heap in
    let id = c.args.id in
    let m = c.in_ok-bring.ensures.moves log_front front anchor disk s ready in
    let there = subst (λ (g : Geometry). HasPage g id.page) (sym c.bring.ensures.volume.geometry) c.requires.there in (
      cc,
      λ fits.
          let left = subst (λ (log : List LogRecord). Fits (geometry_of mid).version (slots_left log id.page) id.slot (image_len c.args.image.now)) (sym m.done.0.0)
          (subst (λ (g : Geometry). Fits g.version (slots_left s.log id.page) id.slot (image_len c.args.image.now)) (sym c.bring.ensures.volume.geometry) fits) in
          let framed = fits_whole front m.done.1 mid m.later id (image_len c.args.image.now) m.done.2.stands m.done.2.redone there c.in_ok-bring.ensures.held left in
          let yes = c.fits.ensures.framed.1 (subst (λ (b : ℕ). IsSomeAnd (frame_of mid id.page) (λ f. Fits (geometry_of mid).version f.page.slots id.slot b)) (sym c.bytes_in.ensures) framed) in
          let no : c.fits.result ≡ false = c.if-not-fits.true in
          let clash : true ≡ false = sym yes ∙ no in
          cc,
    )

pub returns-clause-fits : goal.returns-clause-fits
returns-clause-fits g c log_front front anchor disk s ready =
    let mid = c.bring.new.heap in
    let id = c.args.id in
    let m = c.in_ok-bring.ensures.moves log_front front anchor disk s ready in
    let there = subst (λ (g : Geometry). HasPage g id.page) (sym c.bring.ensures.volume.geometry) c.requires.there in
    let framed = subst (λ (b : ℕ). IsSomeAnd (frame_of mid id.page) (λ f. Fits (geometry_of mid).version f.page.slots id.slot b)) c.bytes_in.ensures (c.fits.ensures.framed.0 c.if-not-fits.false) in
    subst (λ (g : Geometry). Fits g.version (slots_left s.log id.page) id.slot (image_len c.args.image.now)) c.bring.ensures.volume.geometry
    (subst (λ (log : List LogRecord). Fits (geometry_of mid).version (slots_left log id.page) id.slot (image_len c.args.image.now)) m.done.0.0
    (fits_left front m.done.1 mid m.later id (image_len c.args.image.now) m.done.2.stands m.done.2.redone there framed))

pub returns-in_err-reserve-clause-appends : goal.returns-in_err-reserve-clause-appends
returns-in_err-reserve-clause-appends g c log_front front anchor disk s r ready says number =
    let e = c.in_err-reserve.field-0.0 in
    subst (λ (result : Result (Unit {0}) RestartError). Appends result log_front front anchor c.args.log.now c.reserve.new.log c.args.heap.now c.bring.new.heap s r)
    (sym (err_with c.from_residual-in_err-reserve.result e c.from_residual-in_err-reserve.ensures.1))
    (append_stops log_front front anchor c.args.log.now c.args.heap.now s {A = Unit {0}} (Ok tt) e c.bring.new.log c.reserve.new.log c.bring.new.heap r (λ (later : RecoveryState). (later.log ≡ s.log) × (later.in_place ≡ s.in_place)) c.reserve.ensures.same.1 (c.in_ok-bring.ensures.moves log_front front anchor disk s ready))

pub returns-clause-appends : goal.returns-clause-appends
returns-clause-appends g c log_front front anchor disk s r ready says number =
    let m = c.in_ok-bring.ensures.moves log_front front anchor disk s ready in
    let came = came_of log_front front anchor c.args.log.now c.args.heap.now s {A = Unit {0}} tt c.bring.new.log c.bring.new.heap _ c.bring.ensures.volume.geometry m in
    let same = m.done.0.0 in
    let done = c.put.ensures.appended front m.done.1 m.later r m.done.2.stands m.done.2.redone says (number ∙ ap (λ (log : List LogRecord). length log + 1) (sym same)) in
    appended log_front front anchor c.args.log.now c.args.heap.now s c.bring.new.log c.reserve.new.log c.bring.new.heap c.put.new.heap m.later r m.done.1 came same c.reserve.ensures.same.1 c.put.ensures.history
    (c.reserve.ensures.at_rest log_front anchor m.later m.done.2.at_rest) done.0 done.1 done.2

pub returns-in_err-bring-clause-device : goal.returns-in_err-bring-clause-device
returns-in_err-bring-clause-device g c log_front front anchor disk s ready =
    if_err c.from_residual.result c.from_residual.ensures.1 (λ error same f is. c.in_err-bring.ensures.device log_front front anchor disk s ready f (sym same ∙ is))

pub returns-in_err-bring-clause-any_pages : goal.returns-in_err-bring-clause-any_pages
returns-in_err-bring-clause-any_pages g c front first disk due r long held says number =
    let n = length due in
    held_err front first disk c.args.heap.now c.bring.new.heap n due n (due ++ r ∷ []) (n + 1) c.from_residual.result c.in_err-bring.field-0.0 c.from_residual.ensures.1
    (held_wider (λ p. p ≡ c.args.id.page) (IsOnPage r) _ front first disk c.args.heap.now c.bring.new.heap n due n (λ p is. on_page r (c.args.id, c.args.image.now) p says is)
    (held_counted _ front first disk c.args.heap.now c.bring.new.heap due (length due) (length (log_seen c.args.log.now)) long (c.in_err-bring.ensures.any_pages front first disk due) held))

pub returns-then-not-fits-clause-any_pages : goal.returns-then-not-fits-clause-any_pages
returns-then-not-fits-clause-any_pages g c front first disk due r long held says number = record { named = λ f is. absurd cc; stays = tt }

pub returns-in_err-reserve-clause-any_pages : goal.returns-in_err-reserve-clause-any_pages
returns-in_err-reserve-clause-any_pages g c front first disk due r long held says number =
    let n = length due in
    held_other front first disk c.args.heap.now c.bring.new.heap n (due ++ r ∷ []) (n + 1) c.from_residual-in_err-reserve.result c.in_err-reserve.field-0.0 c.from_residual-in_err-reserve.ensures.1
    (λ f page. let clash = sym c.in_err-reserve.ensures.refused ∙ page in cc)

pub returns-clause-any_pages : goal.returns-clause-any_pages
returns-clause-any_pages g c front first disk due r long held says number =
    let n = length due in
    let mid = c.bring.new.heap in
    let s = (held_counted _ front first disk c.args.heap.now c.bring.new.heap due (length due) (length (log_seen c.args.log.now)) long (c.in_ok-bring.ensures.any_pages front first disk due) held).stays in
    let below = frame_below front first s.left mid due n s.held c.args.id.page c.args.number (omega (arith, number)) c.in_ok-bring.ensures.held in
    record {
      named = tt;
      stays = held_changed front first disk c.args.heap.now mid n due n s c.put.new.heap (due ++ r ∷ []) (n + 1) (omega arith)
          (c.put.ensures.any_pages front first s.left due (n + 1) r (held_up front first s.left mid due n (n + 1) (omega arith) s.held) says number below (omega (arith, number)));
    }

-- ---- the record that is named

pub returns-in_err-bring-clause-any_bad : goal.returns-in_err-bring-clause-any_bad
returns-in_err-bring-clause-any_bad g c front first disk due payload long held says =
    if_err c.from_residual.result c.from_residual.ensures.1 (λ error same n is. absurd (c.in_err-bring.ensures.no_record n (sym same ∙ is)))

pub returns-in_err-reserve-clause-any_bad : goal.returns-in_err-reserve-clause-any_bad
returns-in_err-reserve-clause-any_bad g c front first disk due payload long held says =
    if_err c.from_residual-in_err-reserve.result c.from_residual-in_err-reserve.ensures.1 (λ error same n is. let clash = sym c.in_err-reserve.ensures.refused ∙ sym same ∙ is in absurd cc)

pub returns-then-not-fits-clause-any_bad : goal.returns-then-not-fits-clause-any_bad
returns-then-not-fits-clause-any_bad g c front first disk due payload long held says n is =
    let last = length due in
    let mid = c.bring.new.heap in
    let id = c.args.id in
    let s = (held_counted _ front first disk c.args.heap.now c.bring.new.heap due (length due) (length (log_seen c.args.log.now)) long (c.in_ok-bring.ensures.any_pages front first disk due) held).stays in
    let there = subst (λ (g : Geometry). HasPage g id.page) (sym c.bring.ensures.volume.geometry) c.requires.there in
    let below = frame_below front first s.left mid due last s.held id.page (last + 1) (omega arith) c.in_ok-bring.ensures.held in (
      cc,
      subst (λ (g : Geometry). FindsNoRoom g first due (last + 1) payload) c.bring.ensures.volume.geometry
          (finds_none_there front first s.left mid due last (last + 1) payload id c.args.image.now s.held there says below
          (λ fits.
          let yes = c.fits.ensures.framed.1 (subst (λ (b : ℕ). IsSomeAnd (frame_of mid id.page) (λ f. Fits (geometry_of mid).version f.page.slots id.slot b)) (sym c.bytes_in.ensures) fits) in
          let no : c.fits.result ≡ false = c.if-not-fits.true in
          let clash : true ≡ false = sym yes ∙ no in
          cc)),
    )

pub returns-clause-any_fit : goal.returns-clause-any_fit
returns-clause-any_fit g c front first disk due payload long held says =
    let last = length due in
    let mid = c.bring.new.heap in
    let id = c.args.id in
    let s = (held_counted _ front first disk c.args.heap.now c.bring.new.heap due (length due) (length (log_seen c.args.log.now)) long (c.in_ok-bring.ensures.any_pages front first disk due) held).stays in
    let there = subst (λ (g : Geometry). HasPage g id.page) (sym c.bring.ensures.volume.geometry) c.requires.there in
    let room = subst (λ (b : ℕ). IsSomeAnd (frame_of mid id.page) (λ f. Fits (geometry_of mid).version f.page.slots id.slot b)) c.bytes_in.ensures (c.fits.ensures.framed.0 c.if-not-fits.false) in
    let fits = some_then (λ f. Fits (geometry_of mid).version f.page.slots id.slot (image_len c.args.image.now)) (λ f. f.page.number < last + 1 → Fits (geometry_of mid).version f.page.slots id.slot (image_len c.args.image.now)) (frame_of mid id.page)
    (λ f at low. at) room in
    subst (λ (g : Geometry). FindsNoRoom g first due (last + 1) payload → ⊥) c.bring.ensures.volume.geometry
    (finds_some_there front first s.left mid due last (last + 1) payload id c.args.image.now s.held there says fits)

pub returns-in_err-bring-clause-log_device : goal.returns-in_err-bring-clause-log_device
returns-in_err-bring-clause-log_device g c log_front quiet =
    quiet_err log_front c.args.log.now c.args.log.now c.bring.new.log (omega arith) c.from_residual.result c.in_err-bring.field-0.0 c.from_residual.ensures.1 (c.in_err-bring.ensures.log_device log_front quiet)

pub returns-then-not-fits-clause-log_device : goal.returns-then-not-fits-clause-log_device
returns-then-not-fits-clause-log_device g c log_front quiet =
    let on = quiet_of log_front c.args.log.now c.bring.new.log c.in_ok-bring.field-0 (c.in_ok-bring.ensures.log_device log_front quiet) in
    quiet_beside log_front {A = Unit {0}} c.args.log.now c.bring.new.log (Err (BadRecord c.args.undone)) (λ f is. cc) on.0 on.1

pub returns-in_err-reserve-clause-log_device : goal.returns-in_err-reserve-clause-log_device
returns-in_err-reserve-clause-log_device g c log_front quiet =
    let on = quiet_of log_front c.args.log.now c.bring.new.log c.in_ok-bring.field-0 (c.in_ok-bring.ensures.log_device log_front quiet) in
    quiet_err log_front c.args.log.now c.bring.new.log c.reserve.new.log on.1 c.from_residual-in_err-reserve.result c.in_err-reserve.field-0.0 c.from_residual-in_err-reserve.ensures.1
    (c.in_err-reserve.ensures.log_device log_front on.0)

pub returns-clause-log_device : goal.returns-clause-log_device
returns-clause-log_device g c log_front quiet =
    let on = quiet_of log_front c.args.log.now c.bring.new.log c.in_ok-bring.field-0 (c.in_ok-bring.ensures.log_device log_front quiet) in
    quiet_then log_front c.args.log.now c.bring.new.log c.reserve.new.log on.1 (Ok tt) (c.in_ok-reserve.ensures.log_device log_front on.0)

pub returns-in_err-bring-clause-bad_number : goal.returns-in_err-bring-clause-bad_number
returns-in_err-bring-clause-bad_number g c =
    if_err c.from_residual.result c.from_residual.ensures.1 (λ error same n is. absurd (c.in_err-bring.ensures.no_record n (sym same ∙ is)))

pub returns-in_err-reserve-clause-bad_number : goal.returns-in_err-reserve-clause-bad_number
returns-in_err-reserve-clause-bad_number g c =
    if_err c.from_residual-in_err-reserve.result c.from_residual-in_err-reserve.ensures.1 (λ error same n is. let clash = sym c.in_err-reserve.ensures.refused ∙ sym same ∙ is in absurd cc)
