use Rattle.std.proofs.Common.{◌≡◌, ◌⊎◌, ◌∷◌, [], IsTrue, take, sym, ◌∙◌, ap, subst}
use Rattle.shore_types.specs.Layout.{HasPage}
use Rattle.shore_types.specs.declared.layout.Geometry.{Geometry}
use Rattle.shore_disk.specs.Device.{LeavesOnly, Stands}
use Rattle.shore_dwrite.specs.Checks.{RefusesArea}
use Rattle.shore_dwrite.specs.Settled as pages
use Rattle.shore_dwrite.specs.Shown.{Shows, ShowsBehind}
use Rattle.shore_dwrite.specs.declared.places.TheConstants.{GATE_AT}
use Rattle.shore_page.specs.Text.{IsPageText}
use Rattle.shore_types.specs.declared.ids.PageId.{PageId}
use Rattle.shore_dwrite.specs.Volumes.{page_number, part}
use Rattle.shore_gate.specs.Checks.{IsFromOutside}
use Rattle.shore_gate.specs.declared.gates.TheConstants.{OPEN}
use Rattle.shore_world.proofs.StableLemmas.{shown_on, stable_on}
use Rattle.shore_world.proofs.RestartNames.{held_empty}
use Rattle.shore_world.proofs.opening.open_volume.Goals as goal

pub returns-in-Err-clause-refused : goal.returns-in-Err-clause-refused
returns-in-Err-clause-refused g c honest image stands =
    let same = c.new-pages.ensures.device in
    subst (λ (x : Geometry). IsFromOutside c.in-Err.fault ⊎ ((part 4096 1 image ≡ OPEN ∷ []) × RefusesArea x image c.in-Err.fault)) c.new-pages.ensures.geometry
    (c.in-Err.ensures.refused image (subst (λ d. IsTrue (g.D.Disk.is_honest d)) (sym same) honest) (subst (λ d. Stands (g.D.Disk.history d) image) (sym same) stands))

pub returns-in-Err-clause-any_moment : goal.returns-in-Err-clause-any_moment
returns-in-Err-clause-any_moment g c honest image texts stands shows =
    let same = c.new-pages.ensures.device in
    let geometry = c.new-pages.ensures.geometry in
    subst (λ d. LeavesOnly (g.D.Disk.history c.args.volume) (g.D.Disk.history d) (ShowsBehind c.args.geometry (take GATE_AT image) texts)) (sym c.into_device.ensures)
    (shown_on c.args.volume c.new-pages.result _ same geometry honest image texts stands shows _ (c.replay.ensures.any_moment _ texts (stable_on c.args.volume c.new-pages.result _ same geometry honest image texts stands shows)))

pub returns-in-Ok-clause-any_moment : goal.returns-in-Ok-clause-any_moment
returns-in-Ok-clause-any_moment g c honest image texts stands shows =
    let same = c.new-pages.ensures.device in
    let geometry = c.new-pages.ensures.geometry in
    subst (λ d. LeavesOnly (g.D.Disk.history c.args.volume) (g.D.Disk.history d) (ShowsBehind c.args.geometry (take GATE_AT image) texts)) (sym (ap pages.device_of c.in-Ok.ensures.device))
    (shown_on c.args.volume c.new-pages.result _ same geometry honest image texts stands shows _ (c.replay.ensures.any_moment _ texts (stable_on c.args.volume c.new-pages.result _ same geometry honest image texts stands shows)))

pub returns-in-Err-new-clause-any_moment : goal.returns-in-Err-new-clause-any_moment
returns-in-Err-new-clause-any_moment g c honest image texts stands shows =
    let same = c.new-pages.ensures.device in
    let geometry = c.new-pages.ensures.geometry in
    subst (λ d. LeavesOnly (g.D.Disk.history c.args.volume) (g.D.Disk.history d) (ShowsBehind c.args.geometry (take GATE_AT image) texts)) (sym (c.into_device-in-Err-new.ensures ∙ ap pages.device_of c.in-Err-new.ensures.refused))
    (shown_on c.args.volume c.new-pages.result _ same geometry honest image texts stands shows _ (c.replay.ensures.any_moment _ texts (stable_on c.args.volume c.new-pages.result _ same geometry honest image texts stands shows)))

pub returns-in-Ok-clause-in_order : goal.returns-in-Ok-clause-in_order
returns-in-Ok-clause-in_order g c honest image stands =
    let same = c.new-pages.ensures.device in
    let shown = c.in_default.ensures.in_order image (subst (λ d. IsTrue (g.D.Disk.is_honest d)) (sym same) honest) (subst (λ d. Stands (g.D.Disk.history d) image) (sym same) stands) in
    (shown.0, subst (λ (x : Geometry). Shows x image shown.0) c.new-pages.ensures.geometry shown.1)

pub returns-in-Ok-clause-shows : goal.returns-in-Ok-clause-shows
returns-in-Ok-clause-shows g c honest image texts number images stands shows each =
    let same = c.new-pages.ensures.device in
    let geometry = c.new-pages.ensures.geometry in
    c.in-Ok.ensures.shows _ texts number images (c.in_default.ensures.replayed _ texts (stable_on c.args.volume c.new-pages.result _ same geometry honest image texts stands shows))
    (subst (λ (x : Geometry). (id : PageId) → HasPage x id → IsPageText x.version (texts (page_number x id)) id (number id) (images id)) (sym (c.replay.ensures.geometry ∙ geometry)) each)

pub returns-in-Ok-clause-held : goal.returns-in-Ok-clause-held
returns-in-Ok-clause-held g c honest image texts stands shows last =
    let same = c.new-pages.ensures.device in
    let geometry = c.new-pages.ensures.geometry in
    held_empty (take GATE_AT image) texts c.in-Ok.heap _ last c.in-Ok.ensures.device c.in-Ok.ensures.none c.in-Ok.ensures.rests
    (c.in_default.ensures.replayed (take GATE_AT image) texts (stable_on c.args.volume c.new-pages.result _ same geometry honest image texts stands shows))
