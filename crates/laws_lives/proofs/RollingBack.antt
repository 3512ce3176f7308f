-- A rollback that goes image by image: what its transaction has logged, and that it ends as one at once does.
use Rattle.std.proofs.Common.{◌≡◌, ◌++◌, ◌<◌, ◌≤◌, ◌+◌, ℕ, zero, suc, List, [], ◌∷◌, None, refl, sym, ap, ◌∙◌, length, drop, take, arith}
use Rattle.std.specs.Prelude.{slice_get, unwrap_or}
use Rattle.std.specs.FinMap.{get, insert}
use Rattle.shore_types.specs.declared.ids.Rid.{Rid}
use Rattle.shore_model.specs.declared.holds.Hold.{Hold}
use Rattle.shore_model.specs.declared.calls.Answer.{Answer}
use Rattle.shore_model.specs.declared.calls.Call.TheVariants as call
use Rattle.shore_model.specs.declared.log_records.LogRecord.{LogRecord}
use Rattle.shore_model.specs.declared.log_records.Payload.TheVariants.{Compensation}
use Rattle.shore_model.specs.declared.progress.Progress.{Progress}
use Rattle.shore_model.specs.Locks.{MayWrite}
use Rattle.shore_model.specs.Records.{Records, WriteSet, laid_over, put_image}
use Rattle.shore_types.specs.Images.{Image}
use Rattle.laws_lives.proofs.InPlace.{has_image}
use Rattle.laws_lives.proofs.LogTells.{logged_as_written}
use Rattle.laws_lives.proofs.Replies.{one_written}
use Rattle.laws_lives.proofs.Lists.{drop-push, slice_get-take, take-take}
use Rattle.laws_lives.proofs.UndoLists.{laid_over-append}
use Rattle.shore_model.specs.declared.rollbacks.Rollback.TheVariants.{To}
use Rattle.laws_lives.specs.LogTells.{HasLogged}
use Rattle.laws_lives.specs.Logged.{and_compensations, and_record, next_to_undo}
use Rattle.laws_lives.specs.UndoLists.{UndoList, images_since, in_place_after_answer, mark_of, rolled_back, undo_after_answer, undo_rolled}
use Rattle.laws_lives.specs.Views.{Sees}

module _ {held : List Hold} {now R : Records} {t : ℕ} where
  -- what it has logged may stand for its write set
  pub sees_logged : {p : Progress} {L : WriteSet} → Sees held now R t p.writes → HasLogged held R t p L → Sees held now R t L
  sees_logged {p} {L} m g = record {
    view = λ id r. m.view id r ∙ ap (λ S. get S id) (sym (logged_as_written m g));
    locked = λ id some. let image = has_image (get L id) some in (g.in_place id image.0 image.1).1;
  }

  pub step_sees : {L : WriteSet} (id : Rid) (image : Image) → MayWrite held t id → Sees held now R t L
      → Sees held now (put_image R id image) t (insert L id image)
  step_sees {L} id image w m = let moved = one_written L m id image w in record { view = moved.view; locked = moved.locked }

-- ---- the end of a rollback in steps

-- Compensations for some images, and then for those before them
compensations-append : (t : ℕ) (log : List LogRecord) (xs ys : List (Rid × Image))
    → and_compensations t log (xs ++ ys) ≡ and_compensations t (and_compensations t log ys) xs
compensations-append t log [] ys = refl
compensations-append t log (x ∷ xs) ys =
    ap (λ so_far. and_record t so_far (Compensation x.0 x.1 (next_to_undo t so_far))) (compensations-append t log xs ys)

take-part : {A : Type 0} (n : ℕ) (xs ys : List A) → n ≤ length xs → take n (xs ++ ys) ≡ take n xs
take-part zero xs ys within = refl
take-part (suc n) [] ys within = absurd (omega arith)
take-part (suc n) (x ∷ xs) ys within = ap (λ zs. x ∷ zs) (take-part n xs ys (omega arith))

at_either : (n d f : ℕ) (ms : List ℕ) → n < length ms → unwrap_or (slice_get ms n) d ≡ unwrap_or (slice_get ms n) f
at_either n d f [] less = absurd (omega arith)
at_either zero d f (m ∷ ms) less = refl
at_either (suc n) d f (m ∷ ms) less = at_either n d f ms (omega arith)

module _ (t : ℕ) (R : Records) (log : List LogRecord) (undo : UndoList) (kept : List (Rid × Image)) (e : Rid × Image) (is : undo.images ≡ kept ++ e ∷ []) where
  abbrev logged : List LogRecord
  logged = and_record t log (Compensation e.0 e.1 (next_to_undo t log))

  pub abort_alike : (rolled_back (put_image R e.0 e.1) kept ≡ rolled_back R undo.images) × (and_compensations t logged kept ≡ and_compensations t log undo.images)
  abort_alike = (
    sym (laid_over-append R kept (e ∷ [])) ∙ ap (laid_over R) (sym is),
    sym (compensations-append t log kept (e ∷ [])) ∙ ap (and_compensations t log) (sym is),
  )

  module _ (n : ℕ) (less : n < length undo.marks) (least : mark_of undo n ≤ length kept) where
    abbrev rolled : UndoList
    rolled = undo_rolled undo kept (To n)

    same_mark : mark_of rolled n ≡ mark_of undo n
    same_mark =
        ap (λ m. unwrap_or m (length kept)) (slice_get-take n (n + 1) undo.marks (omega arith))
        ∙ at_either n (length kept) (length undo.images) undo.marks less

    since : images_since undo n ≡ images_since rolled n ++ e ∷ []
    since =
        ap (drop (mark_of undo n)) is ∙ drop-push (mark_of undo n) kept e least ∙ ap (λ m. drop m kept ++ e ∷ []) (sym same_mark)

    pub back_alike : (rolled_back (put_image R e.0 e.1) (images_since rolled n) ≡ rolled_back R (images_since undo n))
        × (take (mark_of rolled n) kept ≡ take (mark_of undo n) undo.images) × (take (n + 1) rolled.marks ≡ take (n + 1) undo.marks)
        × (and_compensations t logged (images_since rolled n) ≡ and_compensations t log (images_since undo n))
    back_alike = (
      sym (laid_over-append R (images_since rolled n) (e ∷ [])) ∙ ap (laid_over R) (sym since),
      ap (λ m. take m kept) same_mark ∙ sym (ap (take (mark_of undo n)) is ∙ take-part (mark_of undo n) kept (e ∷ []) least),
      take-take (n + 1) (n + 1) undo.marks (omega arith),
      sym (compensations-append t log (images_since rolled n) (e ∷ [])) ∙ ap (and_compensations t log) (sym since),
    )

    pub back_leaves_alike : (answer : Answer)
        → (in_place_after_answer (put_image R e.0 e.1) rolled (call.BackTo n) answer ≡ in_place_after_answer R undo (call.BackTo n) answer)
        × (undo_after_answer (put_image R e.0 e.1) rolled (call.BackTo n) answer ≡ undo_after_answer R undo (call.BackTo n) answer)
        × (and_compensations t logged (images_since rolled n) ≡ and_compensations t log (images_since undo n))
    back_leaves_alike answer =
        let all = back_alike in (
          all.0,
          ap (λ images. record { images = images; marks = take (n + 1) rolled.marks; rolling = None }) all.1
              ∙ ap (λ marks. record { images = take (mark_of undo n) undo.images; marks = marks; rolling = None }) all.2,
          all.3,
        )
