use Rattle.std.proofs.Common.{◌≡◌, inl, inr, refl, sym, ap, subst, ◌∙◌}
use Rattle.shore_types.specs.Images.{Image, image_len}
use Rattle.shore_types.specs.Layout.{HasPage}
use Rattle.shore_types.specs.declared.faults.Fault.{Fault}
use Rattle.shore_types.specs.declared.faults.Fault.TheVariants as fault
use Rattle.shore_types.specs.declared.ids.Rid.{Rid}
use Rattle.shore_types.specs.declared.layout.Geometry.{Geometry}
use Rattle.shore_page.specs.Room.{Fits}
use Rattle.laws_lives.specs.Views.{IsAmong}
use Rattle.laws_calls.specs.States.{page_slots}
use Rattle.shore_txn.specs.Transactions.{IsSeatIn, kept_in}
use Rattle.shore_txn.specs.UndoEntries.{image_of}
use Rattle.shore_sessions.specs.Controls.{HasWaitRoom}
use Rattle.shore_sessions.specs.declared.control.Control.{Control}
use Rattle.shore_core.specs.Callers.{IsNotInDoubt}
use Rattle.shore_core.specs.Cores.{IsSafe, geometry_of, txns_of}
use Rattle.shore_core.specs.Undoing.{IsNext}
use Rattle.shore_core.proofs.Coming.{comes_same}
use Rattle.shore_core.proofs.Rewinding.{rewinds_none, rewinds_read, rewinds_then}
use Rattle.shore_core.proofs.Rolling.{never_none, newest_fits, newest_image, newest_inside, next_found, ok_then, puts_behind, puts_refused, said_of_none}
use Rattle.shore_core.proofs.Serving.{IsAside, as_aside, aside_as, nothing_called, serves_as, serves_more, serves_still, serves_then}
use Rattle.shore_core.proofs.Taking.{map_err, true_false}
use Rattle.shore_core.proofs.core_calls.Core.put_back_newest.Goals as goal

pub returns-in_err-undo-clause-put_back : goal.returns-in_err-undo-clause-put_back
returns-in_err-undo-clause-put_back g c running front disk before s store is safe over a kept e of images =
    puts_refused c.args.self.now front before s store a kept e c.args.rollback c.from_residual.result _ c.from_residual.ensures.1
    (inl c.in_err-undo.ensures.memory) (inr (comes_same c.args.self.now front disk before s store is over))

pub returns-in_err-undo-clause-serves : goal.returns-in_err-undo-clause-serves
returns-in_err-undo-clause-serves g c = serves_still _ _ _ _ _ refl refl refl refl (aside_as _ _ c.from_residual.ensures.1 (as_aside _ _ c.in_err-undo.ensures.memory tt))

pub returns-in_default-clause-put_back : goal.returns-in_default-clause-put_back
returns-in_default-clause-put_back g c running front disk before s store is safe over a kept e of images =
    absurd (never_none kept e (sym images ∙ said_of_none c.in_ok-undo.field-0 c.in_default.not-Some c.in_ok-undo.ensures.none a (subst (IsAmong a) is.beside.parts.stands.txns.active of.0) of.1))

pub returns-in_default-clause-serves : goal.returns-in_default-clause-serves
returns-in_default-clause-serves g c = serves_still _ _ _ _ _ refl refl refl refl tt

pub returns-in_err-reach-clause-put_back : goal.returns-in_err-reach-clause-put_back
returns-in_err-reach-clause-put_back g c running front disk before s store is safe over a kept e of images =
    let old = c.args.self.now in
    let undo = c.in-Some.undo in
    let next = next_found c.in_ok-undo.field-0 undo c.in-Some.is c.in_ok-undo.ensures.some in
    let same : image_of next.entry ≡ e = newest_image (txns_of old) c.args.seat.now.txn next.own next.kept next.entry next.among next.number next.entries a kept e (subst (IsAmong a) is.beside.parts.stands.txns.active of.0) of.1 images in
    let at : e.0 ≡ undo.id = ap (λ (x : Rid × Image). x.0) (sym same) ∙ sym next.id_is in
    let inside : HasPage (geometry_of old) undo.id.page = subst (λ (r : Rid). HasPage (geometry_of old) r.page) at (newest_inside (geometry_of old) s safe a of.0 kept e images) in
    puts_refused c.reach.new.self front before s store a kept e c.args.rollback c.from_residual-in_err-reach.result _ c.from_residual-in_err-reach.ensures.1
    (elim (c.in_err-reach.ensures.refused running front disk before s store is safe over) [ inl why ↦ why | inr none ↦ absurd (none inside) ])
    (c.in_err-reach.ensures.stays front disk before s store is safe over)

pub returns-in_err-reach-clause-serves : goal.returns-in_err-reach-clause-serves
returns-in_err-reach-clause-serves g c =
    serves_more _ _ _ _ _ _ (λ page same. tt) (serves_as _ _ _ _ _ _ c.from_residual-in_err-reach.ensures.1 c.in_err-reach.ensures.serves)

pub returns-in_err-reach-clause-failed : goal.returns-in_err-reach-clause-failed
returns-in_err-reach-clause-failed g c = c.in_err-reach.ensures.reads.failed

pub returns-then-not-fits-clause-put_back : goal.returns-then-not-fits-clause-put_back
returns-then-not-fits-clause-put_back g c running front disk before s store is safe over a kept e of images =
    let old = c.args.self.now in
    let undo = c.in-Some.undo in
    let next = next_found c.in_ok-undo.field-0 undo c.in-Some.is c.in_ok-undo.ensures.some in
    let same : image_of next.entry ≡ e = newest_image (txns_of old) c.args.seat.now.txn next.own next.kept next.entry next.among next.number next.entries a kept e (subst (IsAmong a) is.beside.parts.stands.txns.active of.0) of.1 images in
    let at : e.0 ≡ undo.id = ap (λ (x : Rid × Image). x.0) (sym same) ∙ sym next.id_is in
    let long : image_len e.1 ≡ undo.bytes = ap (λ (x : Rid × Image). image_len x.1) (sym same) ∙ sym next.bytes_is in
    let comes = c.in_ok-reach.ensures.stays front disk before s store is safe over in
    let shows = comes.is_in.pages (is.beside.parts.failed_is ∙ running) in
    let fits : Fits (geometry_of c.args.self.now).version (page_slots s undo.id.page) undo.id.slot undo.bytes =
    subst (λ (r : Rid). Fits (geometry_of c.args.self.now).version (page_slots s r.page) r.slot undo.bytes) at (subst (Fits (geometry_of c.args.self.now).version (page_slots s e.0.page) e.0.slot) long (newest_fits (geometry_of old) s safe a of.0 kept e images)) in
    absurd (true_false (sym ((c.fits.ensures.shown (kept_in (txns_of c.reach.new.self)) front comes.left (page_slots s) shows).1 (subst (λ (it : Geometry). Fits it.version (page_slots s undo.id.page) undo.id.slot undo.bytes) (sym c.in_ok-reach.ensures.reads.volume.geometry) fits)) ∙ c.if-not-fits.true))

pub returns-then-not-fits-clause-serves : goal.returns-then-not-fits-clause-serves
returns-then-not-fits-clause-serves g c = serves_then _ _ _ _ c.reach.new.self _ _ _ c.in_ok-reach.ensures.serves (nothing_called _ _ refl refl refl refl) tt

pub returns-then-not-fits-clause-failed : goal.returns-then-not-fits-clause-failed
returns-then-not-fits-clause-failed g c = c.in_ok-reach.ensures.reads.failed

pub log_undo-requires-clause-next : goal.log_undo-requires-clause-next
log_undo-requires-clause-next g c =
    let undo = c.in-Some.undo in
    subst (λ (k : Control). IsNext k.txns c.args.seat.now.txn undo.id undo.bytes undo.cost undo.logged) (sym c.in_ok-reach.ensures.reads.control)
    (next_found c.in_ok-undo.field-0 undo c.in-Some.is c.in_ok-undo.ensures.some)

pub log_undo-requires-clause-there : goal.log_undo-requires-clause-there
log_undo-requires-clause-there g c =
    subst (λ (it : Geometry). HasPage it c.in-Some.undo.id.page) (sym c.in_ok-reach.ensures.reads.volume.geometry) c.in_ok-reach.ensures.there.0

pub log_undo-requires-clause-fits : goal.log_undo-requires-clause-fits
log_undo-requires-clause-fits g c = c.if-not-fits.ensures.framed.0 refl

pub returns-clause-put_back : goal.returns-clause-put_back
returns-clause-put_back g c running front disk before s store is safe over a kept e of images =
    let mid = c.reach.new.self in
    let reads = c.in_ok-reach.ensures.reads in
    let comes = c.in_ok-reach.ensures.stays front disk before s store is safe over in
    puts_behind c.log_undo.new.self front before s store a kept e c.args.rollback mid c.log_undo.result comes
    (c.log_undo.ensures.put_back (reads.failed ∙ running) front comes.left before s comes.after comes.is_in (subst (λ (it : Geometry). IsSafe it s) (sym reads.volume.geometry) safe) comes.over a kept e of images)

pub returns-clause-rewinds : goal.returns-clause-rewinds
returns-clause-rewinds g c =
    let old = c.args.self.now in
    let mid = c.reach.new.self in
    let reads = c.in_ok-reach.ensures.reads in
    ok_then c.log_undo.result (rewinds_then old mid reads.volume.geometry reads.durable c.log_undo.new.self (rewinds_read old mid reads.volume.geometry reads.durable c.in_ok-reach.ensures.wrote)) c.log_undo.ensures.rewinds

pub returns-clause-serves : goal.returns-clause-serves
returns-clause-serves g c =
    serves_then _ _ _ _ c.reach.new.self _ _ _ c.in_ok-reach.ensures.serves c.log_undo.ensures.no_call
    (map_err (λ (f : Fault). f ≡ fault.Memory) IsAside c.log_undo.result (λ f memory. as_aside f _ memory tt) c.log_undo.ensures.refused)

pub returns-clause-failed : goal.returns-clause-failed
returns-clause-failed g c = c.log_undo.ensures.no_call.keeps.failed ∙ c.in_ok-reach.ensures.reads.failed

pub returns-in_default-clause-rewinds : goal.returns-in_default-clause-rewinds
returns-in_default-clause-rewinds g c = rewinds_none c.args.self.now

pub log_undo-requires-clause-seated : goal.log_undo-requires-clause-seated
log_undo-requires-clause-seated g c = subst (λ (k : Control). IsSeatIn c.args.seat.now k.txns) (sym c.in_ok-reach.ensures.reads.control) c.requires.seated

pub returns-in_err-reach-clause-seated : goal.returns-in_err-reach-clause-seated
returns-in_err-reach-clause-seated g c = subst (λ (k : Control). IsSeatIn c.args.seat.now k.txns) (sym c.in_err-reach.ensures.reads.control) c.requires.seated

pub returns-then-not-fits-clause-seated : goal.returns-then-not-fits-clause-seated
returns-then-not-fits-clause-seated g c = subst (λ (k : Control). IsSeatIn c.args.seat.now k.txns) (sym c.in_ok-reach.ensures.reads.control) c.requires.seated

pub log_undo-requires-clause-unprepared : goal.log_undo-requires-clause-unprepared
log_undo-requires-clause-unprepared g c = subst (λ (k : Control). IsNotInDoubt c.args.seat.now k.txns) (sym c.in_ok-reach.ensures.reads.control) c.requires.unprepared

pub returns-in_err-reach-clause-unprepared : goal.returns-in_err-reach-clause-unprepared
returns-in_err-reach-clause-unprepared g c = subst (λ (k : Control). IsNotInDoubt c.args.seat.now k.txns) (sym c.in_err-reach.ensures.reads.control) c.requires.unprepared

pub returns-then-not-fits-clause-unprepared : goal.returns-then-not-fits-clause-unprepared
returns-then-not-fits-clause-unprepared g c = subst (λ (k : Control). IsNotInDoubt c.args.seat.now k.txns) (sym c.in_ok-reach.ensures.reads.control) c.requires.unprepared

pub returns-in_err-reach-clause-memory : goal.returns-in_err-reach-clause-memory
returns-in_err-reach-clause-memory g c room = subst HasWaitRoom (sym c.in_err-reach.ensures.reads.control) room

pub returns-then-not-fits-clause-memory : goal.returns-then-not-fits-clause-memory
returns-then-not-fits-clause-memory g c room = subst HasWaitRoom (sym c.in_ok-reach.ensures.reads.control) room

pub returns-clause-memory : goal.returns-clause-memory
returns-clause-memory g c room = c.log_undo.ensures.memory (subst HasWaitRoom (sym c.in_ok-reach.ensures.reads.control) room)
