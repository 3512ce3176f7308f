use Rattle.std.proofs.Common.{◌≡◌, ℕ, List, OnOk, sym, ap, subst, ◌∙◌}
use Rattle.shore_disk.specs.Device.{LeavesOnly}
use Rattle.shore_disk.proofs.Moments.{joined}
use Rattle.shore_types.specs.declared.layout.Geometry.{Geometry}
use Rattle.shore_dwrite.specs.Settled.{IsSettled}
use Rattle.shore_dwrite.specs.Shown.{ShowsBehind, ShowsEither, overlaid}
use Rattle.shore_dwrite.proofs.BatchSteps.{first_of, second_of}
use Rattle.shore_dwrite.proofs.device.PageDev.write_batch.Goals as goal

pub returns-in_err-begin_batch-clause-any_moment : goal.returns-in_err-begin_batch-clause-any_moment
returns-in_err-begin_batch-clause-any_moment g c front pages s =
    let old = c.args.self.now in
    let geometry = old.geometry in
    let numbers = c.args.images.now.numbers.items in
    let texts = c.args.images.now.bytes.items in
    let new = overlaid c.args.self.now.geometry.version numbers texts pages in
    let one = first_of geometry front pages new _ _ (c.begin_batch.ensures.any_moment front pages s) in
    one

pub returns-in_err-open_batch-clause-any_moment : goal.returns-in_err-open_batch-clause-any_moment
returns-in_err-open_batch-clause-any_moment g c front pages s =
    let old = c.args.self.now in
    let geometry = old.geometry in
    let numbers = c.args.images.now.numbers.items in
    let texts = c.args.images.now.bytes.items in
    let new = overlaid c.args.self.now.geometry.version numbers texts pages in
    let one = first_of geometry front pages new _ _ (c.begin_batch.ensures.any_moment front pages s) in
    let written = c.in_ok-begin_batch.ensures.written front pages s in
    let at_one : c.begin_batch.new.self.geometry ≡ geometry = c.begin_batch.ensures.geometry in
    let two = joined _ _ _ (ShowsEither geometry front pages new) one
    (subst (λ (it : Geometry). LeavesOnly (g.D.Disk.history c.begin_batch.new.self.device) (g.D.Disk.history c.open_batch.new.self.device) (ShowsEither it front pages (overlaid it.version numbers texts pages))) at_one
    (c.open_batch.ensures.any_moment front pages numbers texts written)) in
    two

pub returns-in_err-place_batch-clause-any_moment : goal.returns-in_err-place_batch-clause-any_moment
returns-in_err-place_batch-clause-any_moment g c front pages s =
    let old = c.args.self.now in
    let geometry = old.geometry in
    let numbers = c.args.images.now.numbers.items in
    let texts = c.args.images.now.bytes.items in
    let new = overlaid c.args.self.now.geometry.version numbers texts pages in
    let one = first_of geometry front pages new _ _ (c.begin_batch.ensures.any_moment front pages s) in
    let written = c.in_ok-begin_batch.ensures.written front pages s in
    let at_one : c.begin_batch.new.self.geometry ≡ geometry = c.begin_batch.ensures.geometry in
    let two = joined _ _ _ (ShowsEither geometry front pages new) one
    (subst (λ (it : Geometry). LeavesOnly (g.D.Disk.history c.begin_batch.new.self.device) (g.D.Disk.history c.open_batch.new.self.device) (ShowsEither it front pages (overlaid it.version numbers texts pages))) at_one
    (c.open_batch.ensures.any_moment front pages numbers texts written)) in
    let opened = c.in_ok-open_batch.ensures.opened front pages numbers texts written in
    let at_two : c.open_batch.new.self.geometry ≡ geometry = c.open_batch.ensures.geometry ∙ at_one in
    let three = joined _ _ _ (ShowsEither geometry front pages new) two (second_of geometry front pages new _ _
    (subst (λ (it : Geometry). LeavesOnly (g.D.Disk.history c.open_batch.new.self.device) (g.D.Disk.history c.place_batch.new.self.device) (ShowsBehind it front (overlaid it.version numbers texts pages))) at_two
    (c.place_batch.ensures.any_moment front pages opened))) in
    three

pub returns-clause-any_moment : goal.returns-clause-any_moment
returns-clause-any_moment g c front pages s =
    let old = c.args.self.now in
    let geometry = old.geometry in
    let numbers = c.args.images.now.numbers.items in
    let texts = c.args.images.now.bytes.items in
    let new = overlaid c.args.self.now.geometry.version numbers texts pages in
    let one = first_of geometry front pages new _ _ (c.begin_batch.ensures.any_moment front pages s) in
    let written = c.in_ok-begin_batch.ensures.written front pages s in
    let at_one : c.begin_batch.new.self.geometry ≡ geometry = c.begin_batch.ensures.geometry in
    let two = joined _ _ _ (ShowsEither geometry front pages new) one
    (subst (λ (it : Geometry). LeavesOnly (g.D.Disk.history c.begin_batch.new.self.device) (g.D.Disk.history c.open_batch.new.self.device) (ShowsEither it front pages (overlaid it.version numbers texts pages))) at_one
    (c.open_batch.ensures.any_moment front pages numbers texts written)) in
    let opened = c.in_ok-open_batch.ensures.opened front pages numbers texts written in
    let at_two : c.open_batch.new.self.geometry ≡ geometry = c.open_batch.ensures.geometry ∙ at_one in
    let three = joined _ _ _ (ShowsEither geometry front pages new) two (second_of geometry front pages new _ _
    (subst (λ (it : Geometry). LeavesOnly (g.D.Disk.history c.open_batch.new.self.device) (g.D.Disk.history c.place_batch.new.self.device) (ShowsBehind it front (overlaid it.version numbers texts pages))) at_two
    (c.place_batch.ensures.any_moment front pages opened))) in
    let placed = c.in_ok-place_batch.ensures.placed front pages opened in
    let at_three : c.place_batch.new.self.geometry ≡ geometry = c.place_batch.ensures.geometry ∙ at_two in
    joined _ _ _ (ShowsEither geometry front pages new) three (second_of geometry front pages new _ _
    (subst (λ (it : Geometry). LeavesOnly (g.D.Disk.history c.place_batch.new.self.device) (g.D.Disk.history c.end_batch.new.self.device) (ShowsBehind it front (overlaid it.version numbers texts pages))) at_three
    (c.end_batch.ensures.any_moment front pages numbers texts placed)))

pub returns-clause-settled : goal.returns-clause-settled
returns-clause-settled g c front pages s =
    let numbers = c.args.images.now.numbers.items in
    let texts = c.args.images.now.bytes.items in
    let written = c.in_ok-begin_batch.ensures.written front pages s in
    let opened = c.in_ok-open_batch.ensures.opened front pages numbers texts written in
    let placed = c.in_ok-place_batch.ensures.placed front pages opened in
    let at_one : c.begin_batch.new.self.geometry ≡ c.args.self.now.geometry = c.begin_batch.ensures.geometry in
    let at_two : c.open_batch.new.self.geometry ≡ c.args.self.now.geometry = c.open_batch.ensures.geometry ∙ at_one in
    let at_three : c.place_batch.new.self.geometry ≡ c.args.self.now.geometry = c.place_batch.ensures.geometry ∙ at_two in
    subst (λ (it : Geometry). OnOk c.end_batch.result (IsSettled c.end_batch.new.self front (overlaid it.version numbers texts pages))) at_three
    (c.end_batch.ensures.settled front pages numbers texts placed)
