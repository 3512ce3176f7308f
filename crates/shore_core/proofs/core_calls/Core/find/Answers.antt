use Rattle.std.proofs.Common.{◌≡◌, ◌⊎◌, inr, Some, sym, ap, subst, ◌∙◌, refl}
use Rattle.shore_dwrite.proofs.Moves.{if_err}
use Rattle.shore_types.specs.declared.faults.Fault.TheVariants as fault
use Rattle.laws_calls.specs.CallSteps.{RefusesRead}
use Rattle.laws_calls.specs.States.{page_slots}
use Rattle.shore_txn.specs.Transactions.{kept_in}
use Rattle.shore_core.specs.Cores.{txns_of, geometry_of}
use Rattle.shore_core.proofs.Coming.{stays_as}
use Rattle.shore_core.proofs.Taking.{image_shown, read_fault}
use Rattle.shore_core.proofs.Serving.{aside_as, nothing_called, serves_as, serves_then}
use Rattle.shore_core.proofs.core_calls.Core.find.Goals as goal

pub returns-in_err-fetch-clause-refused : goal.returns-in_err-fetch-clause-refused
returns-in_err-fetch-clause-refused g c running front disk before s store is safe over =
    let why = c.in_err-fetch.ensures.refused running front disk before s store is safe over in
    if_err c.from_residual.result c.from_residual.ensures.1
    (λ f same. subst (λ f. (f ≡ fault.Memory) ⊎ RefusesRead s c.args.id f) (sym same) (read_fault s c.args.id _ why))

pub returns-in_ok-copied-in-Some-clause-found : goal.returns-in_ok-copied-in-Some-clause-found
returns-in_ok-copied-in-Some-clause-found g c running front disk before s store is safe over =
    let comes = c.in_ok-fetch.ensures.stays front disk before s store is safe over in
    let shows = comes.is_in.pages (is.beside.parts.failed_is ∙ running) in
    sym (image_shown (geometry_of c.args.self.now).version s.sessions.records s.sessions.active s.counts safe.roomy.pages c.args.id) ∙ sym (c.in-Some.ensures.shown (kept_in (txns_of c.fetch.new.self)) front comes.left (page_slots s) shows)
    ∙ ap Some (sym c.in_ok-copied-in-Some.ensures)

pub returns-in-None-clause-refused : goal.returns-in-None-clause-refused
returns-in-None-clause-refused g c running front disk before s store is safe over =
    let comes = c.in_ok-fetch.ensures.stays front disk before s store is safe over in
    let shows = comes.is_in.pages (is.beside.parts.failed_is ∙ running) in
    inr (sym (image_shown (geometry_of c.args.self.now).version s.sessions.records s.sessions.active s.counts safe.roomy.pages c.args.id) ∙ sym (c.in-None.ensures.shown (kept_in (txns_of c.fetch.new.self)) front comes.left (page_slots s) shows))

pub returns-in_err-fetch-clause-stays : goal.returns-in_err-fetch-clause-stays
returns-in_err-fetch-clause-stays g c front disk before s store is safe over =
    stays_as c.fetch.new.self front before s store c.from_residual.result _ c.from_residual.ensures.1 (c.in_err-fetch.ensures.stays front disk before s store is safe over)

pub returns-in_err-copied-in-Some-clause-stays : goal.returns-in_err-copied-in-Some-clause-stays
returns-in_err-copied-in-Some-clause-stays g c front disk before s store is safe over =
    stays_as c.fetch.new.self front before s store c.from_residual-in_err-copied-in-Some.result _ c.from_residual-in_err-copied-in-Some.ensures.1 (inr (c.in_ok-fetch.ensures.stays front disk before s store is safe over))

pub returns-in_ok-copied-in-Some-clause-stays : goal.returns-in_ok-copied-in-Some-clause-stays
returns-in_ok-copied-in-Some-clause-stays g c front disk before s store is safe over = c.in_ok-fetch.ensures.stays front disk before s store is safe over

pub returns-in-None-clause-stays : goal.returns-in-None-clause-stays
returns-in-None-clause-stays g c front disk before s store is safe over = inr (c.in_ok-fetch.ensures.stays front disk before s store is safe over)

pub returns-in_err-fetch-clause-serves : goal.returns-in_err-fetch-clause-serves
returns-in_err-fetch-clause-serves g c = serves_as _ _ _ _ _ _ c.from_residual.ensures.1 c.in_err-fetch.ensures.serves

pub returns-in_err-copied-in-Some-clause-serves : goal.returns-in_err-copied-in-Some-clause-serves
returns-in_err-copied-in-Some-clause-serves g c = serves_then _ _ _ _ c.fetch.new.self _ _ _ c.in_ok-fetch.ensures.serves (nothing_called _ _ refl refl refl refl) (aside_as _ fault.Memory c.from_residual-in_err-copied-in-Some.ensures.1 tt)

pub returns-in_ok-copied-in-Some-clause-serves : goal.returns-in_ok-copied-in-Some-clause-serves
returns-in_ok-copied-in-Some-clause-serves g c = serves_then _ _ _ _ c.fetch.new.self _ _ _ c.in_ok-fetch.ensures.serves (nothing_called _ _ refl refl refl refl) tt

pub returns-in-None-clause-serves : goal.returns-in-None-clause-serves
returns-in-None-clause-serves g c = serves_then _ _ _ _ c.fetch.new.self _ _ _ c.in_ok-fetch.ensures.serves (nothing_called _ _ refl refl refl refl) tt
