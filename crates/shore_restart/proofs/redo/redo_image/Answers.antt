use Rattle.std.proofs.Common.{◌≡◌, ◌≤◌, ◌<◌, ◌+◌, ◌++◌, ◌∷◌, [], length, ℕ, List, Bool, Some, Result, inl, inr, true, false, sym, ap, subst, ◌∙◌, arith}
use Rattle.std.specs.Prelude.{IsSomeAnd, slice_get}
use Rattle.std.proofs.lemmas.Bool.{le-ltb, lt-ltb}
use Rattle.shore_page.specs.Room.{Fits}
use Rattle.shore_heap.specs.Heaps.{frame_of, geometry_of}
use Rattle.shore_dwrite.proofs.Moves.{if_err}
use Rattle.shore_model.specs.declared.log_records.LogRecord.{LogRecord}
use Rattle.shore_types.specs.Layout.{HasPage}
use Rattle.shore_types.specs.declared.layout.Geometry.{Geometry}
use Rattle.laws_lives.specs.Pages.{LoggedPages}
use Rattle.shore_restart.specs.declared.errors.RestartError.{RestartError}
use Rattle.shore_restart.specs.declared.errors.RestartError.TheVariants.{BadRecord}
use Rattle.shore_types.specs.Images.{image_len}
use Rattle.shore_restart.specs.AnyPages.{FindsNoRoom, IsOnPage}
use Rattle.shore_restart.specs.Errors.{DoesNotFit}
use Rattle.shore_restart.specs.Standing.{Redoes}
use Rattle.shore_restart.proofs.PageErrors.{err_with}
use Rattle.shore_restart.proofs.ReadPages.{on_page}
use Rattle.shore_restart.proofs.Redoing.{does_not_fit, number_is, passed_behind, redo_stops, redone_behind, stood}
use Rattle.shore_restart.proofs.HeldPages.{fetch_done, fetch_seen, finds_none_there, finds_some_there, held_changed, held_err, held_passed, held_wider, some_then}
use Rattle.shore_restart.proofs.redo.redo_image.Goals as goal

pub returns-in_err-fetch-clause-redone : goal.returns-in_err-fetch-clause-redone
returns-in_err-fetch-clause-redone g c front disk s r stands next says number last durable =
    subst (λ (result : Result Bool RestartError). Redoes result front c.args.heap.now c.fetch.new.heap s)
    (sym (err_with c.from_residual.result c.in_err-fetch.field-0.0 c.from_residual.ensures.1))
    (redo_stops Bool front c.args.heap.now c.fetch.new.heap s _ c.in_err-fetch.field-0.0 (c.in_err-fetch.ensures.fetches front disk s stands (omega (arith, last, durable))))

pub returns-in_err-fetch-clause-device : goal.returns-in_err-fetch-clause-device
returns-in_err-fetch-clause-device g c front disk s stands last durable =
    if_err c.from_residual.result c.from_residual.ensures.1 (λ error same f is. elim (c.in_err-fetch.ensures.device front disk s stands (omega (arith, last)) f (sym same ∙ is)) [
      | inl device ↦ device
      | inr force ↦ let above = force.2 in let within = force.3 in absurd (omega (arith, above, within, last))
    ])

pub returns-then-not-fits-clause-redone : goal.returns-then-not-fits-clause-redone
returns-then-not-fits-clause-redone g c front disk s r stands next says number last durable =
    redo_stops Bool front c.args.heap.now c.fetch.new.heap s _ (BadRecord c.args.number) (c.in_ok-fetch.ensures.fetches front disk s stands (omega (arith, last, durable)))

pub returns-then-found-number-clause-redone : goal.returns-then-found-number-clause-redone
returns-then-found-number-clause-redone g c front disk s r stands next says number last durable =
    let old = c.args.heap.now in
    let mid = c.fetch.new.heap in
    let f = c.in_ok-fetch.ensures.fetches front disk s stands (omega (arith, last, durable)) in
    let is = stood front old mid s f in
    let there = subst (λ (g : Geometry). HasPage g c.args.id.page) (sym c.fetch.ensures.volume.geometry) c.requires in
    let page = number_is front is.0 mid f.later c.args.id.page c.number-found.result is.1 there c.number-found.ensures in
    let found_is : c.found.inside.0 ≡ c.number-found.result = c.found.view_is in
    let number_is_this : c.number.inside.0 ≡ c.args.number = c.number.view_is in
    let ge : c.args.number ≤ c.number-found.result = omega (arith, c.if-found-number.true, found_is, number_is_this) in
    passed_behind front old mid s r f false c.args.id c.args.image.now next says (omega (arith, ge, page, number)) c.fetch.ensures.volume.geometry

pub returns-then-not-fits-clause-bad : goal.returns-then-not-fits-clause-bad
returns-then-not-fits-clause-bad g c front disk s r stands next says number last durable n is =
    let old = c.args.heap.now in
    let mid = c.fetch.new.heap in
    let f = c.in_ok-fetch.ensures.fetches front disk s stands (omega (arith, last, durable)) in
    let stood_there = stood front old mid s f in
    let there = subst (λ (g : Geometry). HasPage g c.args.id.page) (sym c.fetch.ensures.volume.geometry) c.requires in
    let page = number_is front stood_there.0 mid f.later c.args.id.page c.number-found.result stood_there.1 there c.number-found.ensures in
    let found_is : c.found.inside.0 ≡ c.number-found.result = c.found.view_is in
    let number_is_this : c.number.inside.0 ≡ c.args.number = c.number.view_is in
    let lt : c.number-found.result < c.args.number = omega (arith, c.if-found-number.false, found_is, number_is_this) in
    let same : c.args.number ≡ n = cc in
    subst (λ (g : Geometry). DoesNotFit g.version s.log n) c.fetch.ensures.volume.geometry
    (does_not_fit front old mid s r f c.args.id c.args.image.now c.number-found.result n (sym same ∙ number) next says stood_there there c.number-found.ensures (omega (arith, lt, page, number))
    (λ fits.
    let yes = c.fits.ensures.framed.1 (subst (λ (b : ℕ). IsSomeAnd (frame_of mid c.args.id.page) (λ f. Fits (geometry_of mid).version f.page.slots c.args.id.slot b)) (sym c.bytes_in.ensures) fits) in
    let no : c.fits.result ≡ false = c.if-not-fits.true in
    let clash : true ≡ false = sym yes ∙ no in
    cc))

pub returns-clause-redone : goal.returns-clause-redone
returns-clause-redone g c front disk s r stands next says number last durable =
    let old = c.args.heap.now in
    let mid = c.fetch.new.heap in
    let f = c.in_ok-fetch.ensures.fetches front disk s stands (omega (arith, last, durable)) in
    let is = stood front old mid s f in
    let there = subst (λ (g : Geometry). HasPage g c.args.id.page) (sym c.fetch.ensures.volume.geometry) c.requires in
    let page = number_is front is.0 mid f.later c.args.id.page c.number-found.result is.1 there c.number-found.ensures in
    let found_is : c.found.inside.0 ≡ c.number-found.result = c.found.view_is in
    let number_is_this : c.number.inside.0 ≡ c.args.number = c.number.view_is in
    let lt : c.number-found.result < c.args.number = omega (arith, c.if-found-number.false, found_is, number_is_this) in
    let redone = f.same.redone in
    let next_now : slice_get f.later.log f.later.redone ≡ Some r = ap (λ (l : List LogRecord). slice_get l f.later.redone) f.same.log ∙ ap (slice_get s.log) f.same.redone ∙ next in
    let m = c.put.ensures.redone front is.0 f.later r is.1 next_now says (omega (arith, number, redone)) (omega (arith, lt, page, number, redone)) in
    redone_behind front old mid s r f c.put.new.heap true is.0 next m.0 m.1 c.put.ensures.history (c.put.ensures.volume.geometry ∙ c.fetch.ensures.volume.geometry) m.2

pub returns-in_err-fetch-clause-any_pages : goal.returns-in_err-fetch-clause-any_pages
returns-in_err-fetch-clause-any_pages g c front first disk done r held says next low =
    let f = c.in_err-fetch.ensures.any_pages front first disk done held (omega arith) in
    held_err front first disk c.args.heap.now c.fetch.new.heap c.args.last done c.args.last (done ++ r ∷ []) c.args.last c.from_residual.result c.in_err-fetch.field-0.0 c.from_residual.ensures.1
    (held_wider (λ p. p ≡ c.args.id.page) (IsOnPage r) _ front first disk c.args.heap.now c.fetch.new.heap c.args.last done c.args.last (λ p is. on_page r (c.args.id, c.args.image.now) p says is)
    (fetch_seen front first disk c.args.heap.now c.fetch.new.heap done c.args.last _ f))

pub returns-then-found-number-clause-any_pages : goal.returns-then-found-number-clause-any_pages
returns-then-found-number-clause-any_pages g c front first disk done r held says next low =
    let mid = c.fetch.new.heap in
    let s = fetch_done front first disk c.args.heap.now mid done c.args.last c.args.last _ (c.in_ok-fetch.ensures.any_pages front first disk done held (omega arith)) in
    let found_is : c.found.inside.0 ≡ c.number-found.result = c.found.view_is in
    let number_is_this : c.number.inside.0 ≡ c.args.number = c.number.view_is in
    let ge : c.args.number ≤ c.number-found.result = omega (arith, c.if-found-number.true, found_is, number_is_this) in
    let passed = some_then (λ f. c.number-found.result ≡ f.page.number) (λ f. length done + 1 ≤ f.page.number) (frame_of mid c.args.id.page) (λ f at. omega (arith, ge, at, next)) c.number-found.ensures in
    record {
      named = tt;
      stays = held_changed front first disk c.args.heap.now mid c.args.last done c.args.last s mid (done ++ r ∷ []) c.args.last (omega arith)
          (held_passed front first s.left mid done c.args.last r c.args.id c.args.image.now s.held says passed);
    }

pub returns-then-not-fits-clause-any_pages : goal.returns-then-not-fits-clause-any_pages
returns-then-not-fits-clause-any_pages g c front first disk done r held says next low = record { named = λ f is. absurd cc; stays = tt }

pub returns-clause-any_pages : goal.returns-clause-any_pages
returns-clause-any_pages g c front first disk done r held says next low =
    let mid = c.fetch.new.heap in
    let s = fetch_done front first disk c.args.heap.now mid done c.args.last c.args.last _ (c.in_ok-fetch.ensures.any_pages front first disk done held (omega arith)) in
    let found_is : c.found.inside.0 ≡ c.number-found.result = c.found.view_is in
    let number_is_this : c.number.inside.0 ≡ c.args.number = c.number.view_is in
    let lt : c.number-found.result < c.args.number = omega (arith, c.if-found-number.false, found_is, number_is_this) in
    let below = some_then (λ f. c.number-found.result ≡ f.page.number) (λ f. f.page.number < c.args.number) (frame_of mid c.args.id.page) (λ f at. omega (arith, lt, at)) c.number-found.ensures in
    record {
      named = tt;
      stays = held_changed front first disk c.args.heap.now mid c.args.last done c.args.last s c.put.new.heap (done ++ r ∷ []) c.args.last (omega arith)
          (c.put.ensures.any_pages front first s.left done c.args.last r s.held says next below low);
    }

-- ---- the record that is named

pub returns-in_err-fetch-clause-any_bad : goal.returns-in_err-fetch-clause-any_bad
returns-in_err-fetch-clause-any_bad g c front first disk done payload held says =
    if_err c.from_residual.result c.from_residual.ensures.1 (λ error same n is. absurd (c.in_err-fetch.ensures.others.1 n (sym same ∙ is)))

pub returns-then-not-fits-clause-any_bad : goal.returns-then-not-fits-clause-any_bad
returns-then-not-fits-clause-any_bad g c front first disk done payload held says n is =
    let mid = c.fetch.new.heap in
    let s = fetch_done front first disk c.args.heap.now mid done c.args.last c.args.last _ (c.in_ok-fetch.ensures.any_pages front first disk done held (omega arith)) in
    let there = subst (λ (g : Geometry). HasPage g c.args.id.page) (sym c.fetch.ensures.volume.geometry) c.requires in
    let found_is : c.found.inside.0 ≡ c.number-found.result = c.found.view_is in
    let number_is_this : c.number.inside.0 ≡ c.args.number = c.number.view_is in
    let lt : c.number-found.result < c.args.number = omega (arith, c.if-found-number.false, found_is, number_is_this) in
    let same : c.args.number ≡ n = cc in
    let below = some_then (λ f. c.number-found.result ≡ f.page.number) (λ f. f.page.number < n) (frame_of mid c.args.id.page) (λ f at. omega (arith, lt, at, same)) c.number-found.ensures in
    subst (λ (g : Geometry). FindsNoRoom g first done n payload) c.fetch.ensures.volume.geometry
    (finds_none_there front first s.left mid done c.args.last n payload c.args.id c.args.image.now s.held there says below
    (λ fits.
    let yes = c.fits.ensures.framed.1 (subst (λ (b : ℕ). IsSomeAnd (frame_of mid c.args.id.page) (λ f. Fits (geometry_of mid).version f.page.slots c.args.id.slot b)) (sym c.bytes_in.ensures) fits) in
    let no : c.fits.result ≡ false = c.if-not-fits.true in
    let clash : true ≡ false = sym yes ∙ no in
    cc))

pub returns-then-found-number-clause-any_fit : goal.returns-then-found-number-clause-any_fit
returns-then-found-number-clause-any_fit g c front first disk done payload held says =
    let mid = c.fetch.new.heap in
    let s = fetch_done front first disk c.args.heap.now mid done c.args.last c.args.last _ (c.in_ok-fetch.ensures.any_pages front first disk done held (omega arith)) in
    let there = subst (λ (g : Geometry). HasPage g c.args.id.page) (sym c.fetch.ensures.volume.geometry) c.requires in
    let found_is : c.found.inside.0 ≡ c.number-found.result = c.found.view_is in
    let number_is_this : c.number.inside.0 ≡ c.args.number = c.number.view_is in
    let ge : c.args.number ≤ c.number-found.result = omega (arith, c.if-found-number.true, found_is, number_is_this) in
    let fits = some_then (λ f. c.number-found.result ≡ f.page.number) (λ f. f.page.number < c.args.number → Fits (geometry_of mid).version f.page.slots c.args.id.slot (image_len c.args.image.now)) (frame_of mid c.args.id.page)
    (λ f at low. absurd (omega (arith, ge, at, low))) c.number-found.ensures in
    subst (λ (g : Geometry). FindsNoRoom g first done c.args.number payload → ⊥) c.fetch.ensures.volume.geometry
    (finds_some_there front first s.left mid done c.args.last c.args.number payload c.args.id c.args.image.now s.held there says fits)

pub returns-clause-any_fit : goal.returns-clause-any_fit
returns-clause-any_fit g c front first disk done payload held says =
    let mid = c.fetch.new.heap in
    let s = fetch_done front first disk c.args.heap.now mid done c.args.last c.args.last _ (c.in_ok-fetch.ensures.any_pages front first disk done held (omega arith)) in
    let there = subst (λ (g : Geometry). HasPage g c.args.id.page) (sym c.fetch.ensures.volume.geometry) c.requires in
    let room = subst (λ (b : ℕ). IsSomeAnd (frame_of mid c.args.id.page) (λ f. Fits (geometry_of mid).version f.page.slots c.args.id.slot b)) c.bytes_in.ensures (c.fits.ensures.framed.0 c.if-not-fits.false) in
    let fits = some_then (λ f. Fits (geometry_of mid).version f.page.slots c.args.id.slot (image_len c.args.image.now)) (λ f. f.page.number < c.args.number → Fits (geometry_of mid).version f.page.slots c.args.id.slot (image_len c.args.image.now))
    (frame_of mid c.args.id.page) (λ f at low. at) room in
    subst (λ (g : Geometry). FindsNoRoom g first done c.args.number payload → ⊥) c.fetch.ensures.volume.geometry
    (finds_some_there front first s.left mid done c.args.last c.args.number payload c.args.id c.args.image.now s.held there says fits)

pub returns-in_err-fetch-clause-bad_number : goal.returns-in_err-fetch-clause-bad_number
returns-in_err-fetch-clause-bad_number g c =
    if_err c.from_residual.result c.from_residual.ensures.1 (λ error same n is. absurd (c.in_err-fetch.ensures.others.1 n (sym same ∙ is)))

pub returns-then-found-number-clause-missing : goal.returns-then-found-number-clause-missing
returns-then-found-number-clause-missing g c front disk s stands last durable =
    let old = c.args.heap.now in
    let mid = c.fetch.new.heap in
    let f = c.in_ok-fetch.ensures.fetches front disk s stands (omega (arith, last, durable)) in
    let is = stood front old mid s f in
    let there = subst (λ (g : Geometry). HasPage g c.args.id.page) (sym c.fetch.ensures.volume.geometry) c.requires in
    let page = number_is front is.0 mid f.later c.args.id.page c.number-found.result is.1 there c.number-found.ensures in
    let before : (f.later.in_place c.args.id.page).number ≡ (s.in_place c.args.id.page).number = ap (λ (pages : LoggedPages). (pages c.args.id.page).number) f.same.in_place in
    let found_is : c.found.inside.0 ≡ c.number-found.result = c.found.view_is in
    let number_is_this : c.number.inside.0 ≡ c.args.number = c.number.view_is in
    let ge : c.args.number ≤ c.number-found.result = omega (arith, c.if-found-number.true, found_is, number_is_this) in
    sym (le-ltb (s.in_place c.args.id.page).number c.args.number (omega (arith, ge, page, before)))

pub returns-clause-missing : goal.returns-clause-missing
returns-clause-missing g c front disk s stands last durable =
    let old = c.args.heap.now in
    let mid = c.fetch.new.heap in
    let f = c.in_ok-fetch.ensures.fetches front disk s stands (omega (arith, last, durable)) in
    let is = stood front old mid s f in
    let there = subst (λ (g : Geometry). HasPage g c.args.id.page) (sym c.fetch.ensures.volume.geometry) c.requires in
    let page = number_is front is.0 mid f.later c.args.id.page c.number-found.result is.1 there c.number-found.ensures in
    let before : (f.later.in_place c.args.id.page).number ≡ (s.in_place c.args.id.page).number = ap (λ (pages : LoggedPages). (pages c.args.id.page).number) f.same.in_place in
    let found_is : c.found.inside.0 ≡ c.number-found.result = c.found.view_is in
    let number_is_this : c.number.inside.0 ≡ c.args.number = c.number.view_is in
    let lt : c.number-found.result < c.args.number = omega (arith, c.if-found-number.false, found_is, number_is_this) in
    sym (lt-ltb (s.in_place c.args.id.page).number c.args.number (omega (arith, lt, page, before)))
