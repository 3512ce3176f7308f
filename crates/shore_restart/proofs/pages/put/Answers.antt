use Rattle.std.proofs.Common.{subst, ◌∙◌}
use Rattle.shore_types.specs.Images.{Image}
use Rattle.shore_heap.specs.Contents.{unclaimed}
use Rattle.laws_heaps.specs.LoggedHeaps.{IsMade}
use Rattle.shore_restart.proofs.Putting.{put_appended, put_redone, same_geometry, slot_there}
use Rattle.laws_heaps.proofs.StaySettled.{settled_after}
use Rattle.shore_restart.proofs.HeldPages.{put_held}
use Rattle.shore_restart.proofs.pages.put.Goals as goal

pub release_to-requires-clause-slot : goal.release_to-requires-clause-slot
release_to-requires-clause-slot g c = slot_there c.args.heap.now c.change.new.self c.args.number c.args.id _ _ c.change.ensures.device c.requires.fits c.change.ensures.frames.0

pub returns-clause-redone : goal.returns-clause-redone
returns-clause-redone g c front disk s r stands next says number due =
    let old = c.args.heap.now in
    let mid = c.change.new.self in
    let made = subst (λ (image : Image). IsMade old mid c.args.number c.args.id image) c.bytes_of.ensures c.change.ensures.frames in
    put_redone front disk old mid c.release_to.new.self s r c.args.id c.args.number c.args.image.now stands c.requires.there c.requires.fits made c.change.ensures.device
    c.release_to.ensures.frames c.release_to.ensures.device c.release_to.ensures.same
    (_, c.release_to.ensures.shows unclaimed front disk _ (c.change.ensures.shows unclaimed front disk stands.slots stands.shows)) next says number due

pub returns-clause-appended : goal.returns-clause-appended
returns-clause-appended g c front disk s r stands all says number =
    let old = c.args.heap.now in
    let mid = c.change.new.self in
    let made = subst (λ (image : Image). IsMade old mid c.args.number c.args.id image) c.bytes_of.ensures c.change.ensures.frames in
    put_appended front disk old mid c.release_to.new.self s r c.args.id c.args.number c.args.image.now stands c.requires.there c.requires.fits made c.change.ensures.device
    c.release_to.ensures.frames c.release_to.ensures.device c.release_to.ensures.same
    (_, c.release_to.ensures.shows unclaimed front disk _ (c.change.ensures.shows unclaimed front disk stands.slots stands.shows)) all says number

pub returns-clause-any_pages : goal.returns-clause-any_pages
returns-clause-any_pages g c front first disk done last r held says next below low =
    let old = c.args.heap.now in
    let mid = c.change.new.self in
    let new = c.release_to.new.self in
    let made = subst (λ (image : Image). IsMade old mid c.args.number c.args.id image) c.bytes_of.ensures c.change.ensures.frames in
    let geometry = same_geometry old mid c.change.ensures.device in
    put_held front first disk old mid new c.args.id c.args.image.now c.args.number last r done made c.release_to.ensures.frames geometry (same_geometry mid new c.release_to.ensures.device ∙ geometry)
    c.requires.there held says next below c.change.ensures.untouched c.release_to.ensures.untouched
    (settled_after old mid new c.args.number c.args.id c.args.image.now held.settled made geometry c.release_to.ensures.frames) low
