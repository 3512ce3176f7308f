use Rattle.std.proofs.Common.{◌≡◌, ◌<◌, ◌++◌, ◌∷◌, [], ℕ, true, false, Option, None, Some, sym, ap, subst, ◌∙◌, arith, rules}
use Rattle.std.specs.Prelude.{IfOk, OnOk}
use Rattle.shore_types.specs.Images.{Image}
use Rattle.shore_types.specs.declared.ids.Rid.{Rid}
use Rattle.shore_heap.specs.Heaps.{geometry_of}
use Rattle.laws_lives.specs.DirtyPages.{surely_on_page}
use Rattle.shore_model.specs.declared.log_records.LogRecord.{LogRecord}
use Rattle.shore_model.specs.Logs.{image_in}
use Rattle.shore_restart.specs.AnyPages.{FindsNoRoom, IsOnPage, due_record}
use Rattle.shore_restart.specs.Held.{WorksHeld}
use Rattle.shore_restart.specs.Missing.{is_missing}
use Rattle.shore_restart.proofs.Redoing.{IsOfNoImage, has_image, no_image, passed_now, redone_without}
use Rattle.shore_restart.proofs.RedoStart.{due_bad, due_passed, due_plain, due_stays, has_it, none_missing}
use Rattle.shore_restart.proofs.HeldPages.{held_here, held_of_none}
use Rattle.shore_restart.proofs.RedoneReads.{of_no_image}
use Rattle.shore_restart.proofs.redo.redo_record.Goals as goal

-- ---- a record with no image

pub returns-in-Commit-clause-redone : goal.returns-in-Commit-clause-redone
returns-in-Commit-clause-redone g c front disk s stands next number last durable right =
    let none : IsOfNoImage c.args.logged.now.payload = search rules in
    redone_without front disk c.args.heap.now s c.args.logged.now false stands next (no_image c.args.logged.now.payload none)

pub returns-in-Commit-clause-any_pages : goal.returns-in-Commit-clause-any_pages
returns-in-Commit-clause-any_pages g c front first disk done held next low =
    let none : IsOfNoImage c.args.logged.now.payload = search rules in
    let plain = no_image c.args.logged.now.payload none in
    record {
      named = tt;
      stays = held_here front first disk c.args.heap.now (done ++ due_record c.args.table.now c.args.number c.args.logged.now ∷ []) c.args.last c.args.last (omega arith)
          (held_of_none front first disk c.args.heap.now done c.args.last (due_record c.args.table.now c.args.number c.args.logged.now) held
          (ap (λ (r : LogRecord). image_in r.payload) (due_plain c.args.table.now c.args.number c.args.logged.now plain) ∙ plain));
    }

pub returns-in-Commit-clause-any_fit : goal.returns-in-Commit-clause-any_fit
returns-in-Commit-clause-any_fit g c front first disk done held x =
    let none : IsOfNoImage c.args.logged.now.payload = search rules in
    let plain = no_image c.args.logged.now.payload none in
    let r = due_record c.args.table.now c.args.number c.args.logged.now in
    of_no_image (image_in r.payload) x.id x.image (ap (λ (r : LogRecord). image_in r.payload) (due_plain c.args.table.now c.args.number c.args.logged.now plain) ∙ plain) x.changes

pub returns-in-Commit-clause-missing : goal.returns-in-Commit-clause-missing
returns-in-Commit-clause-missing g c front disk s stands next number last durable right =
    let none : IsOfNoImage c.args.logged.now.payload = search rules in
    sym (ap (is_missing s.in_place c.args.number) (no_image c.args.logged.now.payload none))

-- ---- one that is passed over

pub returns-then-is_passed_over-clause-redone : goal.returns-then-is_passed_over-clause-redone
returns-then-is_passed_over-clause-redone g c front disk s stands next number last durable right =
    let image = has_image c.args.logged.now.payload c.in-Change.id c.in-Change.after c.in-Change.is in
    let le = c.is_passed_over.ensures.0 c.if-is_passed_over.true in
    let has = has_it s.log c.args.table.now s.in_place right s.redone c.args.logged.now next (c.in-Change.id, c.in-Change.after) image (omega (arith, le, number)) in
    passed_now front disk c.args.heap.now s c.args.logged.now false c.in-Change.id c.in-Change.after stands next image (omega (arith, has))

pub returns-then-is_passed_over-clause-missing : goal.returns-then-is_passed_over-clause-missing
returns-then-is_passed_over-clause-missing g c front disk s stands next number last durable right =
    let image = has_image c.args.logged.now.payload c.in-Change.id c.in-Change.after c.in-Change.is in
    let le = c.is_passed_over.ensures.0 c.if-is_passed_over.true in
    let low : (e : Rid × Image) → image_in c.args.logged.now.payload ≡ Some e → s.redone < surely_on_page c.args.table.now.begin c.args.table.now.dirty e.0.page =
    λ e is.
    let same : c.in-Change.id ≡ e.0 = one_id (c.in-Change.id, c.in-Change.after) e (sym image ∙ is) in
    subst (λ (id : Rid). s.redone < surely_on_page c.args.table.now.begin c.args.table.now.dirty id.page) same (omega (arith, le, number)) in
    sym (subst (λ (n : ℕ). is_missing s.in_place n (image_in c.args.logged.now.payload) ≡ false) (sym number) (none_missing s.log c.args.table.now s.in_place right s.redone c.args.logged.now next low))
  where
    one_id : (a b : Rid × Image) → Some a ≡ Some b → a.0 ≡ b.0
    one_id a b is = ap (λ (o : Option (Rid × Image)). id_or a o) is
      where
        id_or : Rid × Image → Option (Rid × Image) → Rid
        id_or x None = x.0
        id_or x (Some y) = y.0

pub returns-then-is_passed_over-clause-any_pages : goal.returns-then-is_passed_over-clause-any_pages
returns-then-is_passed_over-clause-any_pages g c front first disk done held next low =
    let image = has_image c.args.logged.now.payload c.in-Change.id c.in-Change.after c.in-Change.is in
    let le = c.is_passed_over.ensures.0 c.if-is_passed_over.true in
    let quiet = due_passed c.args.table.now c.args.number c.args.logged.now (c.in-Change.id, c.in-Change.after) image le in
    record {
      named = tt;
      stays = held_here front first disk c.args.heap.now (done ++ due_record c.args.table.now c.args.number c.args.logged.now ∷ []) c.args.last c.args.last (omega arith)
          (held_of_none front first disk c.args.heap.now done c.args.last (due_record c.args.table.now c.args.number c.args.logged.now) held (ap (λ (r : LogRecord). image_in r.payload) quiet));
    }

pub returns-then-is_passed_over-clause-any_fit : goal.returns-then-is_passed_over-clause-any_fit
returns-then-is_passed_over-clause-any_fit g c front first disk done held x =
    let image = has_image c.args.logged.now.payload c.in-Change.id c.in-Change.after c.in-Change.is in
    let le = c.is_passed_over.ensures.0 c.if-is_passed_over.true in
    let quiet = due_passed c.args.table.now c.args.number c.args.logged.now (c.in-Change.id, c.in-Change.after) image le in
    of_no_image (image_in (due_record c.args.table.now c.args.number c.args.logged.now).payload) x.id x.image (ap (λ (r : LogRecord). image_in r.payload) quiet) x.changes

-- ---- one that is not

pub returns-else-is_passed_over-clause-redone : goal.returns-else-is_passed_over-clause-redone
returns-else-is_passed_over-clause-redone g c front disk s stands next number last durable right =
    c.redo_image.ensures.redone front disk s c.args.logged.now stands next (has_image c.args.logged.now.payload c.in-Change.id c.in-Change.after c.in-Change.is) number last durable

pub returns-else-is_passed_over-clause-bad : goal.returns-else-is_passed_over-clause-bad
returns-else-is_passed_over-clause-bad g c front disk s stands next number last durable =
    c.redo_image.ensures.bad front disk s c.args.logged.now stands next (has_image c.args.logged.now.payload c.in-Change.id c.in-Change.after c.in-Change.is) number last durable

pub returns-else-is_passed_over-clause-missing : goal.returns-else-is_passed_over-clause-missing
returns-else-is_passed_over-clause-missing g c front disk s stands next number last durable right =
    let image = has_image c.args.logged.now.payload c.in-Change.id c.in-Change.after c.in-Change.is in
    subst (λ (o : Option (Rid × Image)). IfOk c.redo_image.result (λ did. did ≡ is_missing s.in_place c.args.number o)) (sym image) (c.redo_image.ensures.missing front disk s stands last durable)

pub returns-else-is_passed_over-clause-any_pages : goal.returns-else-is_passed_over-clause-any_pages
returns-else-is_passed_over-clause-any_pages g c front first disk done held next low =
    let image = has_image c.args.logged.now.payload c.in-Change.id c.in-Change.after c.in-Change.is in
    let stays = due_stays c.args.table.now c.args.number c.args.logged.now (c.in-Change.id, c.in-Change.after) image (λ le. let yes = c.is_passed_over.ensures.1 le in let clash : true ≡ false = sym yes ∙ c.if-is_passed_over.false in cc) in
    subst (λ (r : LogRecord). WorksHeld c.redo_image.result (IsOnPage r) front first disk c.args.heap.now c.redo_image.new.heap c.args.last (done ++ r ∷ []) c.args.last) (sym stays)
    (c.redo_image.ensures.any_pages front first disk done c.args.logged.now held image next low)

pub returns-else-is_passed_over-clause-any_bad : goal.returns-else-is_passed_over-clause-any_bad
returns-else-is_passed_over-clause-any_bad g c front first disk done held =
    let image = has_image c.args.logged.now.payload c.in-Change.id c.in-Change.after c.in-Change.is in
    due_bad (geometry_of c.args.heap.now) first done c.redo_image.result c.args.table.now c.args.number c.args.logged.now (c.in-Change.id, c.in-Change.after) image
    (λ le. let yes = c.is_passed_over.ensures.1 le in let clash : true ≡ false = sym yes ∙ c.if-is_passed_over.false in cc)
    (c.redo_image.ensures.any_bad front first disk done c.args.logged.now.payload held image)

pub returns-else-is_passed_over-clause-any_fit : goal.returns-else-is_passed_over-clause-any_fit
returns-else-is_passed_over-clause-any_fit g c front first disk done held =
    let image = has_image c.args.logged.now.payload c.in-Change.id c.in-Change.after c.in-Change.is in
    let stays = due_stays c.args.table.now c.args.number c.args.logged.now (c.in-Change.id, c.in-Change.after) image (λ le. let yes = c.is_passed_over.ensures.1 le in let clash : true ≡ false = sym yes ∙ c.if-is_passed_over.false in cc) in
    subst (λ (r : LogRecord). OnOk c.redo_image.result (FindsNoRoom (geometry_of c.args.heap.now) first done c.args.number r.payload → ⊥)) (sym stays)
    (c.redo_image.ensures.any_fit front first disk done c.args.logged.now.payload held image)
