use Rattle.std.proofs.Common.{◌≡◌, ◌<◌, ◌+◌, ◌-◌, ◌++◌, ◌∷◌, ℕ, List, Result, Ok, Some, inl, inr, refl, sym, ap, subst, ◌∙◌, length, map, take, drop, arith}
use Rattle.std.specs.Prelude.{slice_get}
use Rattle.std.proofs.lemmas.List.{take-append-drop}
use Rattle.std.proofs.lemmas.Option.{slice_get_read}
use Rattle.shore_types.specs.Layout.{HasPage}
use Rattle.shore_types.specs.declared.layout.Geometry.{Geometry}
use Rattle.shore_dwrite.proofs.Moves.{if_err}
use Rattle.shore_heap.specs.Heaps.{faults_of, geometry_of}
use Rattle.laws_lives.specs.Views.{IsAmong}
use Rattle.laws_lives.proofs.Lists.{among_append, among_map, among_right, drop-whole}
use Rattle.shore_txn.specs.ActiveTxns.{all_changes}
use Rattle.shore_txn.specs.Transactions.{kept_in, txns_in}
use Rattle.shore_txn.specs.UndoEntries.{claims_on}
use Rattle.shore_txn.specs.declared.undo.UndoEntry.{UndoEntry}
use Rattle.shore_restart.specs.declared.errors.RestartError.{RestartError}
use Rattle.shore_restart.specs.GivenBack.{AreOfPage, CannotKeep, CannotKeepOn, Keeps, StandsSoFar}
use Rattle.shore_restart.specs.Held.{IsHeldSoFar, KeepsHeld, StaysHeldSoFar}
use Rattle.shore_restart.proofs.ChangesBack.{among_at}
use Rattle.shore_restart.proofs.ClaimsAll.{fit_everywhere, in_place_of, keeps_none}
use Rattle.shore_restart.proofs.ClaimsKept.{keeps_then, so_far_left}
use Rattle.shore_restart.proofs.DoubtsBack.{from_here}
use Rattle.shore_restart.proofs.HeldPages.{fault_wider}
use Rattle.shore_restart.proofs.AnyClaims.{so_far_fault, so_far_here, so_far_then}
use Rattle.shore_restart.proofs.PageErrors.{err_with, passed_cause}
use Rattle.shore_restart.proofs.RedoAll.{same_again}
use Rattle.shore_restart.proofs.claims.keep_changes.Goals as goal

pub loop-index-init : goal.loop-index-init
loop-index-init g c = record {
  within = omega arith;
  so_far = λ older newer slots front disk s order stands low.
      subst (λ (xs : List UndoEntry). Keeps (Ok tt) front c.args.heap.now c.args.heap.now s (λ left later. StandsSoFar (kept_in c.args.txns.now) (λ p. claims_on p (xs ++ newer)) slots front left c.args.heap.now later))
      (sym (drop-whole c.args.changes.now)) (keeps_none front disk c.args.heap.now s (so_far_left front disk c.args.heap.now s stands.store stands.holds) stands);
  any_pages = λ older newer front first disk done order held.
      subst (λ (xs : List UndoEntry). StaysHeldSoFar (kept_in c.args.txns.now) (λ p. claims_on p (xs ++ newer)) front first disk c.args.heap.now c.args.heap.now done c.args.last) (sym (drop-whole c.args.changes.now))
      (so_far_here front first done c.args.last (kept_in c.args.txns.now) (λ p. claims_on p newer) disk c.args.heap.now held);
  volume = record { geometry = refl; honest = refl; size = refl; frames = refl };
  faults = refl;
}

pub keep_claim-requires : goal.keep_claim-requires
keep_claim-requires g c =
    let es = c.args.changes.now in
    let j = c.loop-index.index - 1 in
    let e = c.index-changes-index.result in
    let within : j < length es = omega (arith, c.loop-index.invariant.within, c.loop-index-test.true) in
    let here : slice_get es j ≡ Some e = slice_get_read es (length es) j e refl within c.index-changes-index.is in
    record { there = subst (λ (k : Geometry). HasPage k e.id.page) (sym c.loop-index.invariant.volume.geometry) (c.requires.there e (among_at es j e here)) }

pub loop-index-preserved : goal.loop-index-preserved
loop-index-preserved g c =
    let es = c.args.changes.now in
    let j = c.loop-index.index - 1 in
    let e = c.index-changes-index.result in
    let so = c.loop-index.invariant in
    let within : j < length es = omega (arith, so.within, c.loop-index-test.true) in
    let here : slice_get es j ≡ Some e = slice_get_read es (length es) j e refl within c.index-changes-index.is in
    let place : c.loop-index.index ≡ j + 1 = omega (arith, c.loop-index-test.true) in
    let mid = c.loop-index.heap in
    let new = c.keep_claim.new.heap in
    record {
      within = omega (arith, within);
      so_far = λ older newer slots front disk s order stands low.
          let first = so.so_far older newer slots front disk s order stands low in
          let st = subst (λ (k : ℕ). StandsSoFar (kept_in c.args.txns.now) (λ p. claims_on p (drop k es ++ newer)) slots front first.stands.0 mid first.later) place first.stands.1 in
          let durable = first.same.durable in
          let kept = c.in_ok-keep_claim.ensures.keeps (older ++ take j es) (drop (j + 1) es ++ newer) slots front first.stands.0 first.later (in_place_of (all_changes (txns_in c.args.txns.now)) older es newer j e here order) st (omega (arith, durable, low)) in
          subst (λ (xs : List UndoEntry). Keeps (Ok tt) front c.args.heap.now new s (λ left later. StandsSoFar (kept_in c.args.txns.now) (λ p. claims_on p (xs ++ newer)) slots front left new later)) (sym (from_here es j e here))
          (keeps_then so.volume.geometry first kept);
      any_pages = λ older newer front first disk done order held.
          let s = so.any_pages older newer front first disk done order held in
          let st = subst (λ (k : ℕ). IsHeldSoFar (kept_in c.args.txns.now) (λ p. claims_on p (drop k es ++ newer)) front first s.left mid done c.args.last) place s.held in
          let kept = c.in_ok-keep_claim.ensures.any_pages (older ++ take j es) (drop (j + 1) es ++ newer) front first s.left done (in_place_of (all_changes (txns_in c.args.txns.now)) older es newer j e here order) st in
          subst (λ (xs : List UndoEntry). StaysHeldSoFar (kept_in c.args.txns.now) (λ p. claims_on p (xs ++ newer)) front first disk c.args.heap.now new done c.args.last) (sym (from_here es j e here))
          (so_far_then front first done c.args.last (kept_in c.args.txns.now) (λ p. claims_on p (drop c.loop-index.index es ++ newer)) disk c.args.heap.now mid so.volume.geometry s (λ p. claims_on p (e ∷ (drop (j + 1) es ++ newer))) new kept.stays);
      volume = same_again c.args.heap.now mid new so.volume c.keep_claim.ensures.volume;
      faults = c.in_ok-keep_claim.ensures.cause.unreported (λ e. cc) ∙ so.faults;
    }

-- ---- it is refused

pub returns-in_err-keep_claim-clause-keeps : goal.returns-in_err-keep_claim-clause-keeps
returns-in_err-keep_claim-clause-keeps g c older newer slots front disk s order stands low =
    let es = c.args.changes.now in
    let j = c.loop-index.index - 1 in
    let e = c.index-changes-index.result in
    let so = c.loop-index.invariant in
    let within : j < length es = omega (arith, so.within, c.loop-index-test.true) in
    let here : slice_get es j ≡ Some e = slice_get_read es (length es) j e refl within c.index-changes-index.is in
    let place : c.loop-index.index ≡ j + 1 = omega (arith, c.loop-index-test.true) in
    let mid = c.loop-index.heap in
    let new = c.keep_claim.new.heap in
    let first = so.so_far older newer slots front disk s order stands low in
    let st = subst (λ (k : ℕ). StandsSoFar (kept_in c.args.txns.now) (λ p. claims_on p (drop k es ++ newer)) slots front first.stands.0 mid first.later) place first.stands.1 in
    let durable = first.same.durable in
    let kept = c.in_err-keep_claim.ensures.keeps (older ++ take j es) (drop (j + 1) es ++ newer) slots front first.stands.0 first.later (in_place_of (all_changes (txns_in c.args.txns.now)) older es newer j e here order) st (omega (arith, durable, low)) in
    subst (λ (result : Result (Unit {0}) RestartError). Keeps result front c.args.heap.now new s (λ left later. StandsSoFar (kept_in c.args.txns.now) (λ p. claims_on p (es ++ newer)) slots front left new later))
    (sym (err_with c.from_residual.result c.in_err-keep_claim.field-0.0 c.from_residual.ensures.1))
    (keeps_then so.volume.geometry first (record { later = kept.later; work = kept.work; same = kept.same; volume = kept.volume; stands = tt; notes = tt }))

pub returns-in_err-keep_claim-clause-bad : goal.returns-in_err-keep_claim-clause-bad
returns-in_err-keep_claim-clause-bad g c older newer slots front disk s order there stands low =
    let es = c.args.changes.now in
    let j = c.loop-index.index - 1 in
    let e = c.index-changes-index.result in
    let so = c.loop-index.invariant in
    let within : j < length es = omega (arith, so.within, c.loop-index-test.true) in
    let here : slice_get es j ≡ Some e = slice_get_read es (length es) j e refl within c.index-changes-index.is in
    let place : c.loop-index.index ≡ j + 1 = omega (arith, c.loop-index-test.true) in
    let mid = c.loop-index.heap in
    let rest = drop (j + 1) es ++ newer in
    let first = so.so_far older newer slots front disk s order stands low in
    let st = subst (λ (k : ℕ). StandsSoFar (kept_in c.args.txns.now) (λ p. claims_on p (drop k es ++ newer)) slots front first.stands.0 mid first.later) place first.stands.1 in
    let durable = first.same.durable in
    let split = in_place_of (all_changes (txns_in c.args.txns.now)) older es newer j e here order in
    if_err c.from_residual.result c.from_residual.ensures.1 (λ error same n is.
    subst (λ (k : Geometry). CannotKeep k.version c.args.txns.now slots n) so.volume.geometry (record {
      older = older ++ take j es;
      entry = e;
      newer = rest;
      order = split;
      number = c.in_err-keep_claim.ensures.bad_number n (sym same ∙ is);
      first = fit_everywhere (geometry_of mid) rest slots (λ x among. subst (λ (k : Geometry). HasPage k x.id.page) (sym so.volume.geometry) (elim (among_append x (drop (j + 1) es) newer among) [
        | inl own ↦ c.requires.there x (among_drop (j + 1) es x own)
        | inr other ↦ there x other
      ])) st.room;
      no_room = c.in_err-keep_claim.ensures.bad (older ++ take j es) rest slots front first.stands.0 first.later split st (omega (arith, durable, low)) n (sym same ∙ is);
    }))
  where
    among_drop : (n : ℕ) (xs : List UndoEntry) (x : UndoEntry) → IsAmong x (drop n xs) → IsAmong x xs
    among_drop n xs x there = subst (IsAmong x) (take-append-drop n xs) (among_right x (take n xs) (drop n xs) there)

pub returns-in_err-keep_claim-clause-device : goal.returns-in_err-keep_claim-clause-device
returns-in_err-keep_claim-clause-device g c older newer slots front disk s order stands long low =
    let es = c.args.changes.now in
    let so = c.loop-index.invariant in
    let first = so.so_far older newer slots front disk s order stands low in
    let durable = first.same.durable in
    let log = ap length first.same.log in
    if_err c.from_residual.result c.from_residual.ensures.1 (λ error same f is.
    c.in_err-keep_claim.ensures.device (λ p. claims_on p (drop c.loop-index.index es ++ newer)) slots front first.stands.0 first.later first.stands.1 (omega (arith, log, long)) (omega (arith, durable, low)) f (sym same ∙ is))

pub returns-in_err-keep_claim-clause-bad_number : goal.returns-in_err-keep_claim-clause-bad_number
returns-in_err-keep_claim-clause-bad_number g c =
    let es = c.args.changes.now in
    let j = c.loop-index.index - 1 in
    let e = c.index-changes-index.result in
    let within : j < length es = omega (arith, c.loop-index.invariant.within, c.loop-index-test.true) in
    let here : slice_get es j ≡ Some e = slice_get_read es (length es) j e refl within c.index-changes-index.is in
    if_err c.from_residual.result c.from_residual.ensures.1 (λ error same n is.
    subst (λ (k : ℕ). IsAmong k (map (λ (x : UndoEntry). x.lsn) es)) (sym (c.in_err-keep_claim.ensures.bad_number n (sym same ∙ is))) (among_map (λ (x : UndoEntry). x.lsn) e es (among_at es j e here)))

pub returns-in_err-keep_claim-clause-any_pages : goal.returns-in_err-keep_claim-clause-any_pages
returns-in_err-keep_claim-clause-any_pages g c older newer front first disk done order held =
    let es = c.args.changes.now in
    let j = c.loop-index.index - 1 in
    let e = c.index-changes-index.result in
    let so = c.loop-index.invariant in
    let within : j < length es = omega (arith, so.within, c.loop-index-test.true) in
    let here : slice_get es j ≡ Some e = slice_get_read es (length es) j e refl within c.index-changes-index.is in
    let place : c.loop-index.index ≡ j + 1 = omega (arith, c.loop-index-test.true) in
    let mid = c.loop-index.heap in
    let s = so.any_pages older newer front first disk done order held in
    let st = subst (λ (k : ℕ). IsHeldSoFar (kept_in c.args.txns.now) (λ p. claims_on p (drop k es ++ newer)) front first s.left mid done c.args.last) place s.held in
    let kept = c.in_err-keep_claim.ensures.any_pages (older ++ take j es) (drop (j + 1) es ++ newer) front first s.left done (in_place_of (all_changes (txns_in c.args.txns.now)) older es newer j e here order) st in
    subst (λ (result : Result (Unit {0}) RestartError). KeepsHeld result (AreOfPage es) (kept_in c.args.txns.now) (λ p. claims_on p (es ++ newer)) front first disk c.args.heap.now c.keep_claim.new.heap done c.args.last)
    (sym (err_with c.from_residual.result c.in_err-keep_claim.field-0.0 c.from_residual.ensures.1))
    (record {
      named = λ f is. so_far_fault front first done c.args.last (kept_in c.args.txns.now) (λ p. claims_on p (drop c.loop-index.index es ++ newer)) disk c.args.heap.now mid so.volume.geometry s (AreOfPage es) f
          (fault_wider (geometry_of mid) (λ p. p ≡ e.id.page) (AreOfPage es) s.left c.args.last f (λ p on. (e, among_at es j e here, on)) (kept.named f is));
      stays = tt;
    })

pub returns-in_err-keep_claim-clause-any_bad : goal.returns-in_err-keep_claim-clause-any_bad
returns-in_err-keep_claim-clause-any_bad g c older newer front first disk done order held =
    let es = c.args.changes.now in
    let j = c.loop-index.index - 1 in
    let e = c.index-changes-index.result in
    let so = c.loop-index.invariant in
    let within : j < length es = omega (arith, so.within, c.loop-index-test.true) in
    let here : slice_get es j ≡ Some e = slice_get_read es (length es) j e refl within c.index-changes-index.is in
    let place : c.loop-index.index ≡ j + 1 = omega (arith, c.loop-index-test.true) in
    let mid = c.loop-index.heap in
    let s = so.any_pages older newer front first disk done order held in
    let st = subst (λ (k : ℕ). IsHeldSoFar (kept_in c.args.txns.now) (λ p. claims_on p (drop k es ++ newer)) front first s.left mid done c.args.last) place s.held in
    if_err c.from_residual.result c.from_residual.ensures.1 (λ error same n is.
    subst (λ (k : Geometry). CannotKeepOn k c.args.txns.now first done n) so.volume.geometry
    (c.in_err-keep_claim.ensures.any_bad (older ++ take j es) (drop (j + 1) es ++ newer) front first s.left done (in_place_of (all_changes (txns_in c.args.txns.now)) older es newer j e here order) st n (sym same ∙ is)))

pub returns-in_err-keep_claim-clause-others : goal.returns-in_err-keep_claim-clause-others
returns-in_err-keep_claim-clause-others g c =
    let others = c.in_err-keep_claim.ensures.others in
    if_err c.from_residual.result c.from_residual.ensures.1 (λ error same. (λ is. others.0 (sym same ∙ is), λ f is. others.1 f (sym same ∙ is), λ is. others.2 (sym same ∙ is)))

pub returns-in_err-keep_claim-clause-volume : goal.returns-in_err-keep_claim-clause-volume
returns-in_err-keep_claim-clause-volume g c = same_again c.args.heap.now c.loop-index.heap c.keep_claim.new.heap c.loop-index.invariant.volume c.keep_claim.ensures.volume

pub returns-in_err-keep_claim-clause-cause : goal.returns-in_err-keep_claim-clause-cause
returns-in_err-keep_claim-clause-cause g c =
    passed_cause (Unit {0}) (Unit {0}) c.from_residual.result c.in_err-keep_claim.field-0.0 (faults_of c.args.heap.now) (faults_of c.loop-index.heap) (faults_of c.keep_claim.new.heap) c.loop-index.invariant.faults c.from_residual.ensures.1
    c.in_err-keep_claim.ensures.cause

-- ---- all are kept

pub returns-clause-keeps : goal.returns-clause-keeps
returns-clause-keeps g c older newer slots front disk s order stands low =
    let none : c.loop-index.index ≡ 0 = omega (arith, c.loop-index-test.false) in
    subst
    (λ (k : ℕ). Keeps (Ok tt) front c.args.heap.now c.loop-index.heap s (λ left later. StandsSoFar (kept_in c.args.txns.now) (λ p. claims_on p (drop k c.args.changes.now ++ newer)) slots front left c.loop-index.heap later))
    none (c.loop-index.invariant.so_far older newer slots front disk s order stands low)

pub returns-clause-any_pages : goal.returns-clause-any_pages
returns-clause-any_pages g c older newer front first disk done order held =
    let none : c.loop-index.index ≡ 0 = omega (arith, c.loop-index-test.false) in
    record {
      named = tt;
      stays = subst (λ (k : ℕ). StaysHeldSoFar (kept_in c.args.txns.now) (λ p. claims_on p (drop k c.args.changes.now ++ newer)) front first disk c.args.heap.now c.loop-index.heap done c.args.last) none
          (c.loop-index.invariant.any_pages older newer front first disk done order held);
    }
