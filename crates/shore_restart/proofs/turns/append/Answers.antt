use Rattle.std.proofs.Common.{refl, subst, ◌++◌, ◌∷◌, [], ◌+◌, length, arith, sym, ap, ◌∙◌, rules}
use Rattle.shore_heap.specs.Heaps.{geometry_of}
use Rattle.shore_restart.specs.Standing.{log_seen}
use Rattle.std.specs.Prelude.{IsSome}
use Rattle.shore_model.specs.declared.log_records.Payload.{Payload}
use Rattle.shore_model.specs.Logs.{id_in, image_in, unanswered}
use Rattle.laws_lives.specs.Undo.{undo_record}
use Rattle.shore_restart.proofs.Causes.{err_to}
use Rattle.shore_restart.proofs.Turning.{IsNoCompensation, append_without, undo_without}
use Rattle.shore_restart.proofs.HeldPages.{held_beside, held_here, held_of_none}
use Rattle.shore_restart.proofs.RedoneReads.{of_no_image}
use Rattle.shore_restart.proofs.TurnsFit.{image_fits, none_fits}
use Rattle.shore_restart.proofs.Undoing.{ok_then, on_ok}
use Rattle.shore_restart.proofs.turns.append.Goals as goal

pub returns-in-Compensation-clause-appends : goal.returns-in-Compensation-clause-appends
returns-in-Compensation-clause-appends g c log_front front anchor disk s t ready is number =
    c.put_back.ensures.appends log_front front anchor disk s (undo_record s.log t) ready (ap image_in (sym is) ∙ ap image_in c.in-Compensation.is) number

pub returns-in-Compensation-clause-bad : goal.returns-in-Compensation-clause-bad
returns-in-Compensation-clause-bad g c log_front front anchor disk s ready =
    err_to c.put_back.result (c.put_back.ensures.bad log_front front anchor disk s ready) (λ error is n same.
    let b = is n same in (b.0, λ fits. b.1 (fits (c.in-Compensation.id, c.in-Compensation.after) (ap image_in c.in-Compensation.is))))

pub returns-in-Compensation-clause-fits : goal.returns-in-Compensation-clause-fits
returns-in-Compensation-clause-fits g c log_front front anchor disk s t ready is =
    ok_then c.put_back.result (c.put_back.ensures.fits log_front front anchor disk s ready) (image_fits (geometry_of c.args.heap.now).version s.log c.args.payload.now c.in-Compensation.id c.in-Compensation.after (ap image_in c.in-Compensation.is))

pub returns-in-End-clause-fits : goal.returns-in-End-clause-fits
returns-in-End-clause-fits g c log_front front anchor disk s t ready is =
    let none : IsNoCompensation c.args.payload.now = search rules in
    on_ok c.reserve.result (none_fits (geometry_of c.args.heap.now).version s.log c.args.payload.now (ap image_in is ∙ undo_without (unanswered t s.log) c.args.payload.now is none))

pub returns-in-End-clause-appends : goal.returns-in-End-clause-appends
returns-in-End-clause-appends g c log_front front anchor disk s t ready is number =
    let none : IsNoCompensation c.args.payload.now = search rules in
    append_without log_front front anchor c.args.log.now c.args.heap.now s c.reserve.result c.reserve.new.log (undo_record s.log t) disk ready
    (undo_without (unanswered t s.log) c.args.payload.now is none) c.reserve.ensures.same.1 (c.reserve.ensures.at_rest log_front anchor s ready.at_rest)

pub returns-in-Compensation-clause-any_pages : goal.returns-in-Compensation-clause-any_pages
returns-in-Compensation-clause-any_pages g c front first disk due r t long held same is number =
    c.put_back.ensures.any_pages front first disk due r long held (ap image_in same ∙ ap image_in c.in-Compensation.is) number

pub returns-in-Compensation-clause-any_bad : goal.returns-in-Compensation-clause-any_bad
returns-in-Compensation-clause-any_bad g c front first disk due long held = c.put_back.ensures.any_bad front first disk due c.args.payload.now long held (ap image_in c.in-Compensation.is)

pub returns-in-Compensation-clause-any_fit : goal.returns-in-Compensation-clause-any_fit
returns-in-Compensation-clause-any_fit g c front first disk due t long held is = c.put_back.ensures.any_fit front first disk due c.args.payload.now long held (ap image_in c.in-Compensation.is)

pub returns-in-End-clause-any_pages : goal.returns-in-End-clause-any_pages
returns-in-End-clause-any_pages g c front first disk due r t long held same is number =
    let n = length due in
    let heap = c.args.heap.now in
    let none : IsNoCompensation c.args.payload.now = search rules in
    let no_image = ap image_in same ∙ ap image_in is ∙ undo_without (unanswered t (log_seen c.args.log.now)) c.args.payload.now is none in
    held_beside front first disk heap heap n (due ++ r ∷ []) (n + 1) c.reserve.result (err_to c.reserve.result c.reserve.ensures.refused (λ error is f page. let clash = sym is ∙ page in cc))
    (held_here front first disk heap (due ++ r ∷ []) n (n + 1) (omega arith) (held_of_none front first disk heap due n r held no_image))

pub returns-in-End-clause-any_bad : goal.returns-in-End-clause-any_bad
returns-in-End-clause-any_bad g c front first disk due long held = err_to c.reserve.result c.reserve.ensures.refused (λ error is n bad. let clash = sym is ∙ bad in absurd cc)

pub returns-in-End-clause-any_fit : goal.returns-in-End-clause-any_fit
returns-in-End-clause-any_fit g c front first disk due t long held is =
    let none : IsNoCompensation c.args.payload.now = search rules in
    on_ok c.reserve.result (λ x. of_no_image (image_in c.args.payload.now) x.id x.image (ap image_in is ∙ undo_without (unanswered t (log_seen c.args.log.now)) c.args.payload.now is none) x.changes)

pub returns-in-Compensation-clause-log_device : goal.returns-in-Compensation-clause-log_device
returns-in-Compensation-clause-log_device g c log_front quiet = c.put_back.ensures.log_device log_front quiet

pub returns-in-Compensation-clause-bad_number : goal.returns-in-Compensation-clause-bad_number
returns-in-Compensation-clause-bad_number g c =
    err_to c.put_back.result c.put_back.ensures.bad_number (λ error is n same. (is n same, subst (λ (p : Payload). IsSome (id_in p)) (sym c.in-Compensation.is) refl))

pub returns-in-End-clause-log_device : goal.returns-in-End-clause-log_device
returns-in-End-clause-log_device g c log_front quiet = c.reserve.ensures.log_device log_front quiet

pub returns-in-End-clause-bad_number : goal.returns-in-End-clause-bad_number
returns-in-End-clause-bad_number g c = err_to c.reserve.result c.reserve.ensures.refused (λ error is n bad. let clash = sym is ∙ bad in absurd cc)
