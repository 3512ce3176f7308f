use Rattle.std.proofs.Common.{◌≡◌, ◌<◌, ◌≤◌, ◌+◌, ◌⊎◌, ◌++◌, ◌∷◌, [], ℕ, List, Bool, Some, Result, refl, sym, ap, subst, ◌∙◌, length, length-take, take, arith}
use Rattle.std.specs.Prelude.{if◌then◌else◌, slice_get}
use Rattle.std.proofs.lemmas.List.{at_drop_all}
use Rattle.std.proofs.lemmas.Option.{slice_get_read}
use Rattle.shore_types.specs.Layout.{HasSlot}
use Rattle.shore_types.specs.declared.layout.Geometry.{Geometry}
use Rattle.shore_dwrite.proofs.Moves.{if_err}
use Rattle.shore_model.specs.declared.log_records.LogRecord.{LogRecord}
use Rattle.shore_heap.specs.Heaps.{faults_of, geometry_of}
use Rattle.shore_restart.specs.declared.errors.RestartError.{RestartError}
use Rattle.shore_restart.specs.Errors.{DoesNotFit}
use Rattle.shore_restart.specs.Missing.{missing_behind}
use Rattle.shore_restart.specs.Standing.{RedoesAll}
use Rattle.shore_restart.proofs.PageErrors.{err_with, passed_cause}
use Rattle.std.proofs.Math.Seq.{take-length}
use Rattle.laws_lives.proofs.Redo.{take_next}
use Rattle.shore_restart.specs.AnyPages.{AreOnPage, FindsNoRoom, IsOnPage}
use Rattle.shore_restart.specs.Held.{StaysHeld}
use Rattle.shore_restart.proofs.ChangesBack.{among_at}
use Rattle.shore_restart.proofs.AnyRedo.{FirstFindRoom, find_all, find_next, first_misfit}
use Rattle.shore_restart.proofs.RedoAll.{Now, SoFar, all_done, none_so_far, now_next, one_more, same_again, stopped}
use Rattle.shore_restart.proofs.Redoing.{id_inside}
use Rattle.shore_restart.proofs.RedoStart.{count_from, due_long, due_there, fit_from, held_from, low_start, one_of, starts, whole_long}
use Rattle.laws_lives.specs.DirtyPages.{redo_begins_behind}
use Rattle.shore_restart.specs.AnyPages.{due_record, due_seen}
use Rattle.shore_restart.proofs.HeldPages.{held_behind, held_err, held_here, held_then, held_wider}
use Rattle.shore_restart.proofs.redo.redo.Goals as goal
use Rattle.shore_restart.proofs.redo.redo.Goals.{then-branch, else-branch}

pub loop-index-init : goal.loop-index-init
loop-index-init g c =
    let table = c.args.table.now in
    let cut = c.args.cut in
    let kept = c.args.kept.now in
    let start = c.first_index-first.result in
    let is = c.first_index-first.ensures in
    let due = due_seen table cut kept in
    let long = due_long table cut kept in
    let within : cut + start ≤ length due = omega (arith, is, long) in
    let low : (cut + start ≤ cut) ⊎ (cut + start ≤ redo_begins_behind table.begin table.dirty) = low_start cut (length kept) (redo_begins_behind table.begin table.dirty) start is in
    record {
      so_far = λ front disk s stands to_redo h log_front anchor covered.
          none_so_far table h log_front front anchor disk c.args.heap.now s (cut + start) stands (starts table cut kept s to_redo start is) covered to_redo.right;
      now = λ front disk s stands to_redo. record {
        later = s;
        log_is = refl;
        durable = refl;
        redone = starts table cut kept s to_redo start is;
        left = disk;
        stands = stands;
        right = to_redo.right;
        counted =
            let none = starts table cut kept s to_redo start is in
            let redone = to_redo.redone in
            let inside = to_redo.inside in
            count_from s.log table s.in_place to_redo.right (cut + start) (omega (arith, none, redone)) (omega (arith, none, inside));
      };
      any_pages = λ front first disk held. held_here front first disk c.args.heap.now (take (cut + start) due) (cut + length kept) (cut + length kept) (omega arith)
          (held_from table cut kept front first disk c.args.heap.now (cut + length kept) held (cut + start) low within);
      any_fit = λ front first disk held. fit_from table cut kept (geometry_of c.args.heap.now) first (cut + start) low;
      volume = record { geometry = refl; honest = refl; size = refl; frames = refl };
      faults = refl;
      most = omega arith;
    }

pub redo_record-requires : goal.redo_record-requires
redo_record-requires g c = record {
  there = λ id is.
      let kept = c.args.kept.now in
      let i = c.loop-index.index in
      let within : i < length kept = omega arith in
      let r = c.index-kept-index.result in
      let at : slice_get kept i ≡ Some r = slice_get_read kept (length kept) i r refl within c.index-kept-index.is in
      subst (λ (g : Geometry). HasSlot g id) (sym c.loop-index.invariant.volume.geometry)
      (id_inside (geometry_of c.args.heap.now) (c.args.cut + 1 + length (take i kept)) r.payload id (c.requires.meant i r at).now.bounds is);
  some = omega arith;
}

pub loop-index-preserved : goal.loop-index-preserved
loop-index-preserved g c =
    let table = c.args.table.now in
    let cut = c.args.cut in
    let kept = c.args.kept.now in
    let i = c.loop-index.index in
    let within : i < length kept = omega arith in
    let r = c.index-kept-index.result in
    let at : slice_get kept i ≡ Some r = slice_get_read kept (length kept) i r refl within c.index-kept-index.is in
    let due = due_seen table cut kept in
    let due_is : slice_get due (cut + i) ≡ Some (due_record table (cut + i + 1) r) = due_there table cut i kept r at in
    let on : cut + i + 1 ≡ cut + (i + 1) = omega arith in
    let invariant = c.loop-index.invariant in
    record {
      so_far = λ front disk s stands to_redo h log_front anchor covered.
          let so_far = invariant.so_far front disk s stands to_redo h log_front anchor covered in
          let of = one_of table cut kept s to_redo i r at so_far.later so_far.log_is so_far.durable so_far.redone so_far.right in
          subst (SoFar table h log_front front anchor c.args.heap.now c.redo_record.new.heap s) on
          (one_more table h log_front front anchor c.args.heap.now c.loop-index.heap c.redo_record.new.heap s (cut + i) so_far invariant.volume.geometry c.in_ok-redo_record.field-0
          (c.in_ok-redo_record.ensures.redone front so_far.left so_far.later so_far.stands of.next of.number of.last of.all of.right) r of.next);
      now = λ front disk s stands to_redo.
          let heap = c.loop-index.heap in
          let now = invariant.now front disk s stands to_redo in
          let of = one_of table cut kept s to_redo i r at now.later now.log_is now.durable now.redone now.right in
          let did = c.in_ok-redo_record.ensures.missing front now.left now.later now.stands of.next of.number of.last of.all of.right in
          let one = now_next table front heap c.redo_record.new.heap s (cut + i) c.loop-index.redone c.in_ok-redo_record.field-0 now r of.here did
          (c.in_ok-redo_record.ensures.redone front now.left now.later now.stands of.next of.number of.last of.all of.right) in
          subst (λ (n : ℕ). Now table front c.redo_record.new.heap s n c.if-branch.redone) on
          (elim c.if-branch.branch [
            | then-branch w ↦
                let more = w.redone-is in
                let counted : 1 + c.loop-index.redone ≡ c.if-branch.redone = omega (arith, more) in
                subst (Now table front c.redo_record.new.heap s (cut + i + 1)) (ap (λ (b : Bool). (if b then 1 else 0) + c.loop-index.redone) w.if-branch.true ∙ counted) one
            | else-branch w ↦
                let same = w.redone-is in
                let counted : 0 + c.loop-index.redone ≡ c.if-branch.redone = omega (arith, same) in
                subst (Now table front c.redo_record.new.heap s (cut + i + 1)) (ap (λ (b : Bool). (if b then 1 else 0) + c.loop-index.redone) w.if-branch.false ∙ counted) one
          ]);
      any_pages = λ front first disk held.
          let s = invariant.any_pages front first disk held in
          let done = length-take (cut + i) due in
          let long = due_long table cut kept in
          let front_long : length (take (cut + i) due) ≡ cut + i = omega (arith, done, long, within) in
          subst (λ (n : ℕ). StaysHeld front first disk c.args.heap.now c.redo_record.new.heap (cut + length kept) (take n due) (cut + length kept)) on
          (subst (λ (l : List LogRecord). StaysHeld front first disk c.args.heap.now c.redo_record.new.heap (cut + length kept) l (cut + length kept)) (sym (take_next due (cut + i) (due_record table (cut + i + 1) r) due_is))
          (held_then front first disk c.args.heap.now c.loop-index.heap (cut + length kept) (take (cut + i) due) (cut + length kept) s c.redo_record.new.heap (take (cut + i) due ++ due_record table (cut + i + 1) r ∷ []) (cut + length kept) invariant.volume.geometry
          (c.in_ok-redo_record.ensures.any_pages front first s.left (take (cut + i) due) s.held (omega (arith, front_long)) (omega (arith, within))).stays));
      any_fit = λ front first disk held.
          let s = invariant.any_pages front first disk held in
          subst (FirstFindRoom (geometry_of c.args.heap.now) first due) on
          (find_next (geometry_of c.args.heap.now) first due (cut + i) (due_record table (cut + i + 1) r) due_is (invariant.any_fit front first disk held)
          (subst (λ (g : Geometry). FindsNoRoom g first (take (cut + i) due) (cut + i + 1) (due_record table (cut + i + 1) r).payload → ⊥) invariant.volume.geometry
          (c.in_ok-redo_record.ensures.any_fit front first s.left (take (cut + i) due) s.held)));
      volume = same_again c.args.heap.now c.loop-index.heap c.redo_record.new.heap invariant.volume c.redo_record.ensures.volume;
      faults = c.in_ok-redo_record.ensures.cause.unreported (λ e. cc) ∙ invariant.faults;
      most = elim c.if-branch.branch [
        | then-branch w ↦ let more = w.redone-is in omega (arith, more, invariant.most)
        | else-branch w ↦ let same = w.redone-is in omega (arith, same, invariant.most)
      ];
    }

pub returns-in_err-redo_record-clause-redone : goal.returns-in_err-redo_record-clause-redone
returns-in_err-redo_record-clause-redone g c front disk s stands to_redo h log_front anchor covered =
    let table = c.args.table.now in
    let cut = c.args.cut in
    let kept = c.args.kept.now in
    let i = c.loop-index.index in
    let within : i < length kept = omega arith in
    let r = c.index-kept-index.result in
    let at : slice_get kept i ≡ Some r = slice_get_read kept (length kept) i r refl within c.index-kept-index.is in
    let invariant = c.loop-index.invariant in
    let so_far = invariant.so_far front disk s stands to_redo h log_front anchor covered in
    let of = one_of table cut kept s to_redo i r at so_far.later so_far.log_is so_far.durable so_far.redone so_far.right in
    subst (λ (result : Result ℕ RestartError). RedoesAll result h log_front front anchor c.args.heap.now c.redo_record.new.heap s)
    (sym (err_with c.from_residual.result c.in_err-redo_record.field-0.0 c.from_residual.ensures.1))
    (stopped table h log_front front anchor c.args.heap.now c.loop-index.heap c.redo_record.new.heap s (cut + i) so_far invariant.volume.geometry ℕ c.in_err-redo_record.field-0.0 c.in_err-redo_record.field-0.0
    (c.in_err-redo_record.ensures.redone front so_far.left so_far.later so_far.stands of.next of.number of.last of.all of.right))

pub returns-in_err-redo_record-clause-bad : goal.returns-in_err-redo_record-clause-bad
returns-in_err-redo_record-clause-bad g c front disk s stands to_redo =
    let table = c.args.table.now in
    let cut = c.args.cut in
    let kept = c.args.kept.now in
    let i = c.loop-index.index in
    let within : i < length kept = omega arith in
    let r = c.index-kept-index.result in
    let at : slice_get kept i ≡ Some r = slice_get_read kept (length kept) i r refl within c.index-kept-index.is in
    let now = c.loop-index.invariant.now front disk s stands to_redo in
    let of = one_of table cut kept s to_redo i r at now.later now.log_is now.durable now.redone now.right in
    if_err c.from_residual.result c.from_residual.ensures.1 (λ error same n is.
    subst (λ (l : List LogRecord). DoesNotFit (geometry_of c.args.heap.now).version l n) now.log_is
    (subst (λ (g : Geometry). DoesNotFit g.version now.later.log n) c.loop-index.invariant.volume.geometry
    (c.in_err-redo_record.ensures.bad front now.left now.later now.stands of.next of.number of.last of.all n (sym same ∙ is))))

pub returns-in_err-redo_record-clause-device : goal.returns-in_err-redo_record-clause-device
returns-in_err-redo_record-clause-device g c front disk s stands to_redo =
    let table = c.args.table.now in
    let cut = c.args.cut in
    let kept = c.args.kept.now in
    let i = c.loop-index.index in
    let within : i < length kept = omega arith in
    let r = c.index-kept-index.result in
    let at : slice_get kept i ≡ Some r = slice_get_read kept (length kept) i r refl within c.index-kept-index.is in
    let now = c.loop-index.invariant.now front disk s stands to_redo in
    let of = one_of table cut kept s to_redo i r at now.later now.log_is now.durable now.redone now.right in
    if_err c.from_residual.result c.from_residual.ensures.1 (λ error same f is. c.in_err-redo_record.ensures.device front now.left now.later now.stands of.last of.all f (sym same ∙ is))

pub returns-in_err-redo_record-clause-cause : goal.returns-in_err-redo_record-clause-cause
returns-in_err-redo_record-clause-cause g c =
    passed_cause ℕ Bool c.from_residual.result c.in_err-redo_record.field-0.0 (faults_of c.args.heap.now) (faults_of c.loop-index.heap) (faults_of c.redo_record.new.heap) c.loop-index.invariant.faults
    c.from_residual.ensures.1 c.in_err-redo_record.ensures.cause

pub returns-in_err-redo_record-clause-volume : goal.returns-in_err-redo_record-clause-volume
returns-in_err-redo_record-clause-volume g c = same_again c.args.heap.now c.loop-index.heap c.redo_record.new.heap c.loop-index.invariant.volume c.redo_record.ensures.volume

pub returns-clause-redone : goal.returns-clause-redone
returns-clause-redone g c front disk s stands to_redo h log_front anchor covered =
    let whole = whole_long c.args.cut c.args.kept.now s.log to_redo.within to_redo.kept_are in
    all_done ℕ _ c.args.table.now h log_front front anchor c.args.heap.now c.loop-index.heap s (c.args.cut + c.loop-index.index) (c.loop-index.invariant.so_far front disk s stands to_redo h log_front anchor covered)
    (omega (arith, whole))

pub returns-clause-most : goal.returns-clause-most
returns-clause-most g c = omega (arith, c.loop-index.invariant.most)

pub returns-clause-volume : goal.returns-clause-volume
returns-clause-volume g c = c.loop-index.invariant.volume

pub returns-in_err-redo_record-clause-any_pages : goal.returns-in_err-redo_record-clause-any_pages
returns-in_err-redo_record-clause-any_pages g c front first disk held =
    let table = c.args.table.now in
    let cut = c.args.cut in
    let kept = c.args.kept.now in
    let i = c.loop-index.index in
    let within : i < length kept = omega arith in
    let r = c.index-kept-index.result in
    let at : slice_get kept i ≡ Some r = slice_get_read kept (length kept) i r refl within c.index-kept-index.is in
    let due = due_seen table cut kept in
    let due_is : slice_get due (cut + i) ≡ Some (due_record table (cut + i + 1) r) = due_there table cut i kept r at in
    let x = due_record table (cut + i + 1) r in
    let invariant = c.loop-index.invariant in
    let s = invariant.any_pages front first disk held in
    let done = length-take (cut + i) due in
    let long = due_long table cut kept in
    let front_long : length (take (cut + i) due) ≡ cut + i = omega (arith, done, long, within) in
    let more = take (cut + i) due ++ x ∷ [] in
    held_err front first disk c.args.heap.now c.redo_record.new.heap (cut + length kept) more (cut + length kept) due (cut + length kept) c.from_residual.result c.in_err-redo_record.field-0.0 c.from_residual.ensures.1
    (held_wider (IsOnPage x) (AreOnPage due) _ front first disk c.args.heap.now c.redo_record.new.heap (cut + length kept) more (cut + length kept) (λ p on. (x, among_at due (cut + i) x due_is, on))
    (held_behind front first disk c.args.heap.now c.loop-index.heap (cut + length kept) (take (cut + i) due) (cut + length kept) s _ c.redo_record.new.heap more (cut + length kept) invariant.volume.geometry
    (c.in_err-redo_record.ensures.any_pages front first s.left (take (cut + i) due) s.held (omega (arith, front_long)) (omega (arith, within)))))

pub returns-clause-any_pages : goal.returns-clause-any_pages
returns-clause-any_pages g c front first disk held =
    let cut = c.args.cut in
    let kept = c.args.kept.now in
    let due = due_seen c.args.table.now cut kept in
    let long = due_long c.args.table.now cut kept in
    let all : cut + c.loop-index.index ≡ length due = omega (arith, long) in
    let whole : take (cut + c.loop-index.index) due ≡ due = ap (λ (n : ℕ). take n due) all ∙ take-length due in
    record {
      named = tt;
      stays = subst (λ (l : List LogRecord). StaysHeld front first disk c.args.heap.now c.loop-index.heap (cut + length kept) l (cut + length kept)) whole (c.loop-index.invariant.any_pages front first disk held);
    }

pub returns-in_err-redo_record-clause-any_bad : goal.returns-in_err-redo_record-clause-any_bad
returns-in_err-redo_record-clause-any_bad g c front first disk held =
    let table = c.args.table.now in
    let cut = c.args.cut in
    let kept = c.args.kept.now in
    let i = c.loop-index.index in
    let within : i < length kept = omega arith in
    let r = c.index-kept-index.result in
    let at : slice_get kept i ≡ Some r = slice_get_read kept (length kept) i r refl within c.index-kept-index.is in
    let due = due_seen table cut kept in
    let due_is : slice_get due (cut + i) ≡ Some (due_record table (cut + i + 1) r) = due_there table cut i kept r at in
    let invariant = c.loop-index.invariant in
    let s = invariant.any_pages front first disk held in
    let x = due_record table (cut + i + 1) r in
    if_err c.from_residual.result c.from_residual.ensures.1 (λ error same n is.
    let number : n ≡ cut + i + 1 = c.in_err-redo_record.ensures.bad_number n (sym same ∙ is) in
    first_misfit (geometry_of c.args.heap.now) first due (cut + i) n x due_is (invariant.any_fit front first disk held) number
    (subst (λ (g : Geometry). FindsNoRoom g first (take (cut + i) due) n x.payload) invariant.volume.geometry
    (c.in_err-redo_record.ensures.any_bad front first s.left (take (cut + i) due) s.held n (sym same ∙ is))))

pub returns-clause-any_fit : goal.returns-clause-any_fit
returns-clause-any_fit g c front first disk held =
    let due = due_seen c.args.table.now c.args.cut c.args.kept.now in
    let long = due_long c.args.table.now c.args.cut c.args.kept.now in
    let all : c.args.cut + c.loop-index.index ≡ length due = omega (arith, long) in
    find_all (geometry_of c.args.heap.now) first due (subst (FirstFindRoom (geometry_of c.args.heap.now) first due) all (c.loop-index.invariant.any_fit front first disk held))

pub returns-in_err-redo_record-clause-bad_number : goal.returns-in_err-redo_record-clause-bad_number
returns-in_err-redo_record-clause-bad_number g c =
    let table = c.args.table.now in
    let cut = c.args.cut in
    let kept = c.args.kept.now in
    let i = c.loop-index.index in
    let within : i < length kept = omega arith in
    let r = c.index-kept-index.result in
    let at : slice_get kept i ≡ Some r = slice_get_read kept (length kept) i r refl within c.index-kept-index.is in
    if_err c.from_residual.result c.from_residual.ensures.1 (λ error same n is.
    let number = c.in_err-redo_record.ensures.bad_number n (sym same ∙ is) in
    (omega (arith, number), omega (arith, number, within)))

pub returns-clause-missing : goal.returns-clause-missing
returns-clause-missing g c front disk s stands to_redo =
    let n = c.args.cut + c.loop-index.index in
    let now = c.loop-index.invariant.now front disk s stands to_redo in
    let whole = whole_long c.args.cut c.args.kept.now s.log to_redo.within to_redo.kept_are in
    let rest = at_drop_all (λ (l : List LogRecord). missing_behind n l now.later.in_place) s.log n (omega (arith, whole)) in
    let counted = now.counted in
    omega (arith, rest, counted)
