use Rattle.std.proofs.Common.{◌≡◌, ◌<◌, ◌≤◌, ℕ, List, Option, None, IsSomeAnd, inl, inr, refl, sym, ap, subst, ◌∙◌}
use Rattle.shore_types.specs.declared.versions.Version.{Version}
use Rattle.shore_dwrite.specs.Settled as settled_device
use Rattle.shore_dwrite.specs.Volumes.{HasNoPage, page_at, page_count, page_number}
use Rattle.shore_dwrite.specs.Images.{numbers_of, texts_of}
use Rattle.shore_dwrite.specs.Shown.{AreBatchNumbers}
use Rattle.shore_pool.specs.UnderWay.{HoldsAmid, AreHeld}
use Rattle.shore_pool.proofs.UnderWay.{amid_stays, held_added, in_place_of, is_shown}
use Rattle.shore_dwrite.proofs.Moves.{if_err}
use Rattle.shore_page.specs.Slots.{PageState}
use Rattle.shore_page.specs.Text.{IsPageText, images_of, settled_page}
use Rattle.shore_types.specs.Layout.{HasPage}
use Rattle.shore_types.specs.declared.ids.PageId.{PageId}
use Rattle.shore_types.specs.declared.layout.Geometry.{Geometry}
use Rattle.shore_pool.specs.declared.frame.Frame.{Frame}
use Rattle.shore_pool.specs.FrameMaps as maps
use Rattle.shore_pool.specs.Pages.{AreInOrder, IsTextOf}
use Rattle.shore_pool.proofs.Orders.{order_added}
use Rattle.shore_pool.proofs.Same.{page_comes, pages_stay, written_comes}
use Rattle.shore_pool.proofs.Unwritten.{were_added}
use Rattle.shore_pool.proofs.pool.Pool.read.Goals as goal

pub invariant_of-self : goal.invariant_of-self
invariant_of-self g c = record {
  in_order = subst (AreInOrder (maps.frame_at c.args.self.now.frames)) (sym c.read_page.ensures.geometry) c.args.self.now.in_order;
  some = c.args.self.now.some;
  few = c.args.self.now.few;
  pages = c.args.self.now.pages ∙ ap page_count (sym c.read_page.ensures.geometry);
  batch_room = c.args.self.now.batch_room;
  batch_version = c.args.self.now.batch_version ∙ ap (λ (it : Geometry). it.version) (sym c.read_page.ensures.geometry);
  batch_is = λ some. subst (λ (it : Geometry). AreBatchNumbers it (numbers_of c.args.self.now.batch)) (sym c.read_page.ensures.geometry) (c.args.self.now.batch_is some);
}

pub returns-in_err-page-clause-refused : goal.returns-in_err-page-clause-refused
returns-in_err-page-clause-refused g c front disk holds =
    let old = c.args.self.now in
    let at = maps.frame_at old.frames in
    let numbers = numbers_of old.batch in
    let texts = texts_of old.batch in
    let k = page_number (settled_device.geometry_of old.device) c.args.id in
    let within : k < page_count (settled_device.geometry_of old.device) = subst (λ (n : ℕ). n < page_count (settled_device.geometry_of old.device)) c.number-number.ensures.number c.number-number.ensures.within in
    let s = is_shown old.device front disk numbers texts old.amid holds.settled in
    let place : page_at (settled_device.geometry_of c.args.self.now.device).version s.image k ≡ disk k = in_place_of old.amid old.device front disk numbers texts at k holds.settled holds.held within c.requires.none in
    let stays : HoldsAmid old.amid c.read_page.new.self front disk numbers texts =
    amid_stays old.amid old.device c.read_page.new.self (c.read_page.ensures.same s.honest) c.read_page.ensures.honest c.read_page.ensures.geometry front disk numbers texts holds.settled in
    if_err c.from_residual.result c.from_residual.ensures.1 (λ fault is. elim (c.in_err-page.ensures.refused_at s.image s.honest s.stands) [
      | inl outside ↦ elim outside [
        | inl device ↦ inl (is ∙ device)
        | inr memory ↦ inr (inl (is ∙ memory))
      ]
      | inr damaged ↦ inr (inr (is ∙ damaged.0, subst (λ (text : List ℕ). HasNoPage (settled_device.geometry_of c.args.self.now.device).version text c.args.id c.args.last) place damaged.1))
    ])

pub returns-in_err-page-clause-history : goal.returns-in_err-page-clause-history
returns-in_err-page-clause-history g c front disk holds =
    let old = c.args.self.now in
    c.read_page.ensures.same (is_shown old.device front disk (numbers_of old.batch) (texts_of old.batch) old.amid holds.settled).honest

pub returns-clause-history : goal.returns-clause-history
returns-clause-history g c front disk holds =
    let old = c.args.self.now in
    c.read_page.ensures.same (is_shown old.device front disk (numbers_of old.batch) (texts_of old.batch) old.amid holds.settled).honest

pub returns-in_err-page-clause-kept : goal.returns-in_err-page-clause-kept
returns-in_err-page-clause-kept g c front disk holds =
    let old = c.args.self.now in
    let at = maps.frame_at old.frames in
    let numbers = numbers_of old.batch in
    let texts = texts_of old.batch in
    let k = page_number (settled_device.geometry_of old.device) c.args.id in
    let within : k < page_count (settled_device.geometry_of old.device) = subst (λ (n : ℕ). n < page_count (settled_device.geometry_of old.device)) c.number-number.ensures.number c.number-number.ensures.within in
    let s = is_shown old.device front disk numbers texts old.amid holds.settled in
    let place : page_at (settled_device.geometry_of c.args.self.now.device).version s.image k ≡ disk k = in_place_of old.amid old.device front disk numbers texts at k holds.settled holds.held within c.requires.none in
    let stays : HoldsAmid old.amid c.read_page.new.self front disk numbers texts =
    amid_stays old.amid old.device c.read_page.new.self (c.read_page.ensures.same s.honest) c.read_page.ensures.honest c.read_page.ensures.geometry front disk numbers texts holds.settled in
    (record { settled = stays; written = holds.written; held = subst (λ (it : Geometry). AreHeld it.version old.amid at numbers texts) (sym c.read_page.ensures.geometry) holds.held }, pages_stay (settled_device.geometry_of c.args.self.now.device).version at at disk (λ k. refl))

pub invariant_of-self-2-clause-in_order : goal.invariant_of-self-2-clause-in_order
invariant_of-self-2-clause-in_order g c =
    let old = c.args.self.now in
    let geometry = settled_device.geometry_of old.device in
    let n = c.number-number.result in
    let f : Frame = record { number = n; page = c.in_ok-page.page; recovery = None } in
    let named : c.in_ok-page.page.id ≡ c.args.id = ap (λ (p : PageState). p.id) c.in_ok-page.ensures.page in
    subst (AreInOrder (maps.frame_at c.add.new.self)) (sym c.read_page.ensures.geometry)
    (order_added (maps.frame_at old.frames) (maps.frame_at c.add.new.self) geometry n f old.in_order c.add.ensures.here (subst (HasPage geometry) (sym named) c.requires.there) (ap (page_number geometry) named ∙ sym c.number-number.ensures.number) (ap (λ (p : PageState). p.version) c.in_ok-page.ensures.page) c.add.ensures.others)

pub invariant_of-self-2-clause-batch_is : goal.invariant_of-self-2-clause-batch_is
invariant_of-self-2-clause-batch_is g c = λ some. subst (λ (it : Geometry). AreBatchNumbers it (numbers_of c.args.self.now.batch)) (sym c.read_page.ensures.geometry) (c.args.self.now.batch_is some)

pub returns-clause-read : goal.returns-clause-read
returns-clause-read g c front disk holds =
    let old = c.args.self.now in
    let n : page_number (settled_device.geometry_of c.read_page.new.self) c.args.id ≡ c.number-number.result = ap (λ (g : Geometry). page_number g c.args.id) c.read_page.ensures.geometry ∙ sym c.number-number.ensures.number in
    subst (λ (o : Option Frame). IsSomeAnd o (λ f. (f.page ≡ settled_page (settled_device.geometry_of c.args.self.now.device).version c.args.id f.page.number (images_of f.page.slots)) × (f.page.number ≤ c.args.last) × (f.recovery ≡ None)))
    (sym (ap (maps.frame_at c.add.new.self) n ∙ c.add.ensures.here)) (c.in_ok-page.ensures.page, c.in_ok-page.ensures.behind, refl)

pub returns-clause-kept : goal.returns-clause-kept
returns-clause-kept g c front disk holds =
    let old = c.args.self.now in
    let at = maps.frame_at old.frames in
    let numbers = numbers_of old.batch in
    let texts = texts_of old.batch in
    let k = page_number (settled_device.geometry_of old.device) c.args.id in
    let within : k < page_count (settled_device.geometry_of old.device) = subst (λ (n : ℕ). n < page_count (settled_device.geometry_of old.device)) c.number-number.ensures.number c.number-number.ensures.within in
    let s = is_shown old.device front disk numbers texts old.amid holds.settled in
    let place : page_at (settled_device.geometry_of c.args.self.now.device).version s.image k ≡ disk k = in_place_of old.amid old.device front disk numbers texts at k holds.settled holds.held within c.requires.none in
    let stays : HoldsAmid old.amid c.read_page.new.self front disk numbers texts =
    amid_stays old.amid old.device c.read_page.new.self (c.read_page.ensures.same s.honest) c.read_page.ensures.honest c.read_page.ensures.geometry front disk numbers texts holds.settled in
    let now = maps.frame_at c.add.new.self in
    let page = c.in_ok-page.page in
    let n = c.number-number.result in
    let f : Frame = record { number = n; page = page; recovery = None } in
    let found : IsPageText (settled_device.geometry_of c.args.self.now.device).version (disk k) c.args.id page.number (images_of page.slots) =
    subst (λ (text : List ℕ). IsPageText (settled_device.geometry_of c.args.self.now.device).version text c.args.id page.number (images_of page.slots)) place (c.in_ok-page.ensures.found_at s.image s.honest s.stands) in
    let id : page.id ≡ c.args.id = ap (λ (p : PageState). p.id) c.in_ok-page.ensures.page in
    let text : IsTextOf f (disk n) = subst (λ (v : Version). IsPageText v (disk n) page.id page.number (images_of page.slots)) (sym (ap (λ (p : PageState). p.version) c.in_ok-page.ensures.page)) (subst (λ (i : PageId). IsPageText (settled_device.geometry_of c.args.self.now.device).version (disk n) i page.number (images_of page.slots)) (sym id) (subst (λ (i : ℕ). IsPageText (settled_device.geometry_of c.args.self.now.device).version (disk i) c.args.id page.number (images_of page.slots)) (sym c.number-number.ensures.number) found)) in
    let none : at n ≡ None = ap at c.number-number.ensures.number ∙ c.requires.none in (
      record {
        settled = stays;
        written = written_comes (settled_device.geometry_of c.args.self.now.device).version at now disk n c.add.ensures.others f text c.add.ensures.here holds.written;
        held = subst (λ (it : Geometry). AreHeld it.version old.amid now numbers texts) (sym c.read_page.ensures.geometry) (held_added _ old.amid at now numbers texts n c.add.ensures.others none holds.held);
      },
      page_comes (settled_device.geometry_of c.args.self.now.device).version at now disk n c.add.ensures.others f (ap (λ (p : PageState). p.version) c.in_ok-page.ensures.page) text none c.add.ensures.here,
    )

pub returns-clause-dirty : goal.returns-clause-dirty
returns-clause-dirty g c =
    let f : Frame = record { number = c.number-number.result; page = c.in_ok-page.page; recovery = None } in
    were_added (settled_device.geometry_of c.args.self.now.device).version (maps.frame_at c.args.self.now.frames) (maps.frame_at c.add.new.self) c.number-number.result f c.add.ensures.others c.add.ensures.here refl
