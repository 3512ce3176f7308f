use Rattle.std.proofs.Common.{◌≡◌, ◌<◌, ◌+◌, ◌-◌, ◌++◌, [], ℕ, List, Result, Ok, Some, refl, sym, ap, subst, ◌∙◌, length, map, reverse, take, drop, arith}
use Rattle.std.specs.Prelude.{slice_get}
use Rattle.std.proofs.lemmas.List.{at_drop_all, length-map, length-reverse}
use Rattle.shore_types.specs.Layout.{HasPage}
use Rattle.shore_types.specs.declared.layout.Geometry.{Geometry}
use Rattle.shore_dwrite.proofs.Moves.{if_err}
use Rattle.shore_heap.specs.Heaps.{faults_of, geometry_of}
use Rattle.laws_lives.specs.Views.{IsAmong}
use Rattle.laws_lives.proofs.Lists.{among_left, among_map, among_right, mapped_one}
use Rattle.shore_txn.specs.ActiveTxns.{all_changes}
use Rattle.shore_txn.specs.Transactions.{kept_in, txns_in}
use Rattle.shore_txn.specs.Txns.{as_session_txn, entries_of}
use Rattle.shore_txn.specs.UndoEntries.{claims_on}
use Rattle.shore_txn.specs.declared.txn.Txn.{Txn}
use Rattle.shore_txn.specs.declared.undo.UndoEntry.{UndoEntry}
use Rattle.shore_restart.specs.declared.errors.RestartError.{RestartError}
use Rattle.shore_restart.specs.GivenBack.{AreOfPage, CanKeepOn, CannotKeep, CannotKeepOn, Keeps, StandsSoFar, StandsWith}
use Rattle.shore_restart.specs.Held.{IsHeldSoFar, StaysHeldSoFar}
use Rattle.shore_restart.proofs.ClaimsAll.{all_flat, all_so_far, flat, flat_here, keeps_none, none_so_far, some_at}
use Rattle.shore_restart.proofs.ClaimsKept.{keeps_then, so_far_left}
use Rattle.shore_restart.proofs.DoubtsBack.{from_here}
use Rattle.shore_restart.proofs.HeldPages.{fault_wider}
use Rattle.shore_restart.proofs.AnyClaims.{fits_made, held_unclaimed, so_far_fault, so_far_here, so_far_then}
use Rattle.shore_restart.proofs.PageErrors.{err_with, passed_cause}
use Rattle.shore_restart.proofs.RedoAll.{same_again}
use Rattle.shore_restart.proofs.claims.keep_claims.Goals as goal

-- the transaction of a place, with its changes between those of the others
record IsPlaced (ts : List Txn) (i : ℕ) (changes : List UndoEntry) : Type 0 where
  pub txn : Txn
  pub at : slice_get (reverse ts) i ≡ Some txn
  pub order : all_changes ts ≡ flat (take i (reverse ts)) ++ (changes ++ flat (drop (i + 1) (reverse ts)))
  pub from : flat (drop i (reverse ts)) ≡ changes ++ flat (drop (i + 1) (reverse ts))

placed : (ts : List Txn) (i : ℕ) (changes : List UndoEntry) → i < length ts → ((t : Txn) → slice_get (reverse ts) i ≡ Some t → changes ≡ entries_of t) → IsPlaced ts i changes
placed ts i changes within are =
    let long : length (reverse ts) ≡ length ts = length-reverse ts in
    let (t, at) = some_at (reverse ts) i (omega (arith, within, long)) in
    record {
      txn = t;
      at = at;
      order = all_flat ts ∙ flat_here (reverse ts) i t at ∙ ap (λ es. flat (take i (reverse ts)) ++ (es ++ flat (drop (i + 1) (reverse ts)))) (sym (are t at));
      from = ap flat (from_here (reverse ts) i t at) ∙ ap (λ es. es ++ flat (drop (i + 1) (reverse ts))) (sym (are t at));
    }

among_all : (ts : List Txn) (older changes newer : List UndoEntry) (e : UndoEntry) → all_changes ts ≡ older ++ (changes ++ newer) → IsAmong e changes → IsAmong e (all_changes ts)
among_all ts older changes newer e order there = subst (IsAmong e) (sym order) (among_right e older (changes ++ newer) (among_left e changes newer there))

among_newer : (ts : List Txn) (older changes newer : List UndoEntry) (e : UndoEntry) → all_changes ts ≡ older ++ (changes ++ newer) → IsAmong e newer → IsAmong e (all_changes ts)
among_newer ts older changes newer e order there = subst (IsAmong e) (sym order) (among_right e older (changes ++ newer) (among_right e changes newer there))

pub loop-index-init : goal.loop-index-init
loop-index-init g c =
    let ts = txns_in c.args.txns.now in
    let heap = c.args.heap.now in
    let count : c.count-index.result ≡ length ts = c.count-index.ensures ∙ length-map ts as_session_txn in
    let long : length (reverse ts) ≡ length ts = length-reverse ts in
    let none : drop c.count-index.result (reverse ts) ≡ [] = at_drop_all (λ (xs : List Txn). xs) (reverse ts) c.count-index.result (omega (arith, count, long)) in
    record {
      within = omega (arith, count);
      so_far = λ front disk s stands low.
          subst (λ (xs : List Txn). Keeps (Ok tt) front heap heap s (λ left later. StandsSoFar (kept_in c.args.txns.now) (λ p. claims_on p (flat xs)) stands.slots front left heap later)) (sym none)
          (keeps_none front disk heap s (so_far_left front disk heap s stands.store stands.shows.holds) (none_so_far (kept_in c.args.txns.now) front disk heap s stands));
      any_pages = λ front first disk done held.
          subst (λ (xs : List Txn). StaysHeldSoFar (kept_in c.args.txns.now) (λ p. claims_on p (flat xs)) front first disk heap heap done c.args.last) (sym none)
          (so_far_here front first done c.args.last (kept_in c.args.txns.now) (λ p. []) disk heap (held_unclaimed front first done c.args.last (kept_in c.args.txns.now) disk heap held));
      volume = record { geometry = refl; honest = refl; size = refl; frames = refl };
      faults = refl;
    }

pub keep_changes-requires : goal.keep_changes-requires
keep_changes-requires g c =
    let ts = txns_in c.args.txns.now in
    let so = c.loop-index.invariant in
    let at = placed ts (c.loop-index.index - 1) c.changes.result.now (omega (arith, so.within, c.loop-index-test.true)) c.changes.ensures in
    record {
      there = λ e among. subst (λ (k : Geometry). HasPage k e.id.page) (sym so.volume.geometry)
          (c.requires.there e (among_all ts (flat (take (c.loop-index.index - 1) (reverse ts))) c.changes.result.now (flat (drop (c.loop-index.index - 1 + 1) (reverse ts))) e at.order among));
    }

pub loop-index-preserved : goal.loop-index-preserved
loop-index-preserved g c =
    let ts = txns_in c.args.txns.now in
    let rs = reverse ts in
    let so = c.loop-index.invariant in
    let j = c.loop-index.index - 1 in
    let within : j < length ts = omega (arith, so.within, c.loop-index-test.true) in
    let place : c.loop-index.index ≡ j + 1 = omega (arith, c.loop-index-test.true) in
    let at = placed ts j c.changes.result.now within c.changes.ensures in
    let mid = c.loop-index.heap in
    let new = c.keep_changes.new.heap in
    record {
      within = omega (arith, within);
      so_far = λ front disk s stands low.
          let first = so.so_far front disk s stands low in
          let st = subst (λ (k : ℕ). StandsSoFar (kept_in c.args.txns.now) (λ p. claims_on p (flat (drop k rs))) stands.slots front first.stands.0 mid first.later) place first.stands.1 in
          let durable = first.same.durable in
          let kept = c.in_ok-keep_changes.ensures.keeps (flat (take j rs)) (flat (drop (j + 1) rs)) stands.slots front first.stands.0 first.later at.order st (omega (arith, durable, low)) in
          subst (λ (es : List UndoEntry). Keeps (Ok tt) front c.args.heap.now new s (λ left later. StandsSoFar (kept_in c.args.txns.now) (λ p. claims_on p es) stands.slots front left new later)) (sym at.from)
          (keeps_then so.volume.geometry first kept);
      any_pages = λ front first disk done held.
          let s = so.any_pages front first disk done held in
          let st = subst (λ (k : ℕ). IsHeldSoFar (kept_in c.args.txns.now) (λ p. claims_on p (flat (drop k rs))) front first s.left mid done c.args.last) place s.held in
          let kept = c.in_ok-keep_changes.ensures.any_pages (flat (take j rs)) (flat (drop (j + 1) rs)) front first s.left done at.order st in
          subst (λ (es : List UndoEntry). StaysHeldSoFar (kept_in c.args.txns.now) (λ p. claims_on p es) front first disk c.args.heap.now new done c.args.last) (sym at.from)
          (so_far_then front first done c.args.last (kept_in c.args.txns.now) (λ p. claims_on p (flat (drop c.loop-index.index rs))) disk c.args.heap.now mid so.volume.geometry s (λ p. claims_on p (c.changes.result.now ++ flat (drop (j + 1) rs))) new
          kept.stays);
      volume = same_again c.args.heap.now mid new so.volume c.keep_changes.ensures.volume;
      faults = c.in_ok-keep_changes.ensures.cause.unreported (λ e. cc) ∙ so.faults;
    }

-- ---- they are refused

pub returns-in_err-keep_changes-clause-keeps : goal.returns-in_err-keep_changes-clause-keeps
returns-in_err-keep_changes-clause-keeps g c front disk s stands low =
    let ts = txns_in c.args.txns.now in
    let rs = reverse ts in
    let so = c.loop-index.invariant in
    let j = c.loop-index.index - 1 in
    let within : j < length ts = omega (arith, so.within, c.loop-index-test.true) in
    let place : c.loop-index.index ≡ j + 1 = omega (arith, c.loop-index-test.true) in
    let at = placed ts j c.changes.result.now within c.changes.ensures in
    let mid = c.loop-index.heap in
    let new = c.keep_changes.new.heap in
    let first = so.so_far front disk s stands low in
    let st = subst (λ (k : ℕ). StandsSoFar (kept_in c.args.txns.now) (λ p. claims_on p (flat (drop k rs))) stands.slots front first.stands.0 mid first.later) place first.stands.1 in
    let durable = first.same.durable in
    let kept = c.in_err-keep_changes.ensures.keeps (flat (take j rs)) (flat (drop (j + 1) rs)) stands.slots front first.stands.0 first.later at.order st (omega (arith, durable, low)) in
    subst (λ (result : Result (Unit {0}) RestartError). Keeps result front c.args.heap.now new s (λ left later. StandsWith (kept_in c.args.txns.now) front left new later))
    (sym (err_with c.from_residual.result c.in_err-keep_changes.field-0.0 c.from_residual.ensures.1))
    (keeps_then so.volume.geometry first (record { later = kept.later; work = kept.work; same = kept.same; volume = kept.volume; stands = tt; notes = tt }))

pub returns-in_err-keep_changes-clause-bad : goal.returns-in_err-keep_changes-clause-bad
returns-in_err-keep_changes-clause-bad g c front disk s stands low =
    let ts = txns_in c.args.txns.now in
    let rs = reverse ts in
    let so = c.loop-index.invariant in
    let j = c.loop-index.index - 1 in
    let within : j < length ts = omega (arith, so.within, c.loop-index-test.true) in
    let place : c.loop-index.index ≡ j + 1 = omega (arith, c.loop-index-test.true) in
    let at = placed ts j c.changes.result.now within c.changes.ensures in
    let first = so.so_far front disk s stands low in
    let st = subst (λ (k : ℕ). StandsSoFar (kept_in c.args.txns.now) (λ p. claims_on p (flat (drop k rs))) stands.slots front first.stands.0 c.loop-index.heap first.later) place first.stands.1 in
    let durable = first.same.durable in
    if_err c.from_residual.result c.from_residual.ensures.1 (λ error same n is.
    subst (λ (k : Geometry). CannotKeep k.version c.args.txns.now stands.slots n) so.volume.geometry
    (c.in_err-keep_changes.ensures.bad (flat (take j rs)) (flat (drop (j + 1) rs)) stands.slots front first.stands.0 first.later at.order
    (λ e among. subst (λ (k : Geometry). HasPage k e.id.page) (sym so.volume.geometry) (c.requires.there e (among_newer ts (flat (take j rs)) c.changes.result.now (flat (drop (j + 1) rs)) e at.order among))) st (omega (arith, durable, low)) n
    (sym same ∙ is)))

pub returns-in_err-keep_changes-clause-device : goal.returns-in_err-keep_changes-clause-device
returns-in_err-keep_changes-clause-device g c front disk s stands long low =
    let ts = txns_in c.args.txns.now in
    let rs = reverse ts in
    let so = c.loop-index.invariant in
    let j = c.loop-index.index - 1 in
    let within : j < length ts = omega (arith, so.within, c.loop-index-test.true) in
    let place : c.loop-index.index ≡ j + 1 = omega (arith, c.loop-index-test.true) in
    let at = placed ts j c.changes.result.now within c.changes.ensures in
    let first = so.so_far front disk s stands low in
    let st = subst (λ (k : ℕ). StandsSoFar (kept_in c.args.txns.now) (λ p. claims_on p (flat (drop k rs))) stands.slots front first.stands.0 c.loop-index.heap first.later) place first.stands.1 in
    let durable = first.same.durable in
    let log = ap length first.same.log in
    if_err c.from_residual.result c.from_residual.ensures.1 (λ error same f is.
    c.in_err-keep_changes.ensures.device (flat (take j rs)) (flat (drop (j + 1) rs)) stands.slots front first.stands.0 first.later at.order st (omega (arith, log, long)) (omega (arith, durable, low)) f (sym same ∙ is))

pub returns-in_err-keep_changes-clause-bad_number : goal.returns-in_err-keep_changes-clause-bad_number
returns-in_err-keep_changes-clause-bad_number g c =
    let ts = txns_in c.args.txns.now in
    let rs = reverse ts in
    let j = c.loop-index.index - 1 in
    let within : j < length ts = omega (arith, c.loop-index.invariant.within, c.loop-index-test.true) in
    let at = placed ts j c.changes.result.now within c.changes.ensures in
    if_err c.from_residual.result c.from_residual.ensures.1 (λ error same n is.
    let (e, among, number) = mapped_one (λ (x : UndoEntry). x.lsn) n c.changes.result.now (c.in_err-keep_changes.ensures.bad_number n (sym same ∙ is)) in
    subst (λ (k : ℕ). IsAmong k (map (λ (x : UndoEntry). x.lsn) (all_changes ts))) number
    (among_map (λ (x : UndoEntry). x.lsn) e (all_changes ts) (among_all ts (flat (take j rs)) c.changes.result.now (flat (drop (j + 1) rs)) e at.order among)))

pub returns-in_err-keep_changes-clause-any_pages : goal.returns-in_err-keep_changes-clause-any_pages
returns-in_err-keep_changes-clause-any_pages g c front first disk done held =
    let ts = txns_in c.args.txns.now in
    let rs = reverse ts in
    let so = c.loop-index.invariant in
    let j = c.loop-index.index - 1 in
    let within : j < length ts = omega (arith, so.within, c.loop-index-test.true) in
    let place : c.loop-index.index ≡ j + 1 = omega (arith, c.loop-index-test.true) in
    let at = placed ts j c.changes.result.now within c.changes.ensures in
    let mid = c.loop-index.heap in
    let s = so.any_pages front first disk done held in
    let st = subst (λ (k : ℕ). IsHeldSoFar (kept_in c.args.txns.now) (λ p. claims_on p (flat (drop k rs))) front first s.left mid done c.args.last) place s.held in
    let kept = c.in_err-keep_changes.ensures.any_pages (flat (take j rs)) (flat (drop (j + 1) rs)) front first s.left done at.order st in
    if_err c.from_residual.result c.from_residual.ensures.1 (λ error same f is.
    so_far_fault front first done c.args.last (kept_in c.args.txns.now) (λ p. claims_on p (flat (drop c.loop-index.index rs))) disk c.args.heap.now mid so.volume.geometry s (AreOfPage (all_changes ts)) f
    (fault_wider (geometry_of mid) (AreOfPage c.changes.result.now) (AreOfPage (all_changes ts)) s.left c.args.last f
    (λ p on. (on.0, among_all ts (flat (take j rs)) c.changes.result.now (flat (drop (j + 1) rs)) on.0 at.order on.1, on.2)) (kept.named f (sym same ∙ is))))

pub returns-in_err-keep_changes-clause-any_bad : goal.returns-in_err-keep_changes-clause-any_bad
returns-in_err-keep_changes-clause-any_bad g c front first disk done held =
    let ts = txns_in c.args.txns.now in
    let rs = reverse ts in
    let so = c.loop-index.invariant in
    let j = c.loop-index.index - 1 in
    let within : j < length ts = omega (arith, so.within, c.loop-index-test.true) in
    let place : c.loop-index.index ≡ j + 1 = omega (arith, c.loop-index-test.true) in
    let at = placed ts j c.changes.result.now within c.changes.ensures in
    let mid = c.loop-index.heap in
    let s = so.any_pages front first disk done held in
    let st = subst (λ (k : ℕ). IsHeldSoFar (kept_in c.args.txns.now) (λ p. claims_on p (flat (drop k rs))) front first s.left mid done c.args.last) place s.held in
    if_err c.from_residual.result c.from_residual.ensures.1 (λ error same n is.
    subst (λ (k : Geometry). CannotKeepOn k c.args.txns.now first done n) so.volume.geometry
    (c.in_err-keep_changes.ensures.any_bad (flat (take j rs)) (flat (drop (j + 1) rs)) front first s.left done at.order st n (sym same ∙ is)))

pub returns-in_err-keep_changes-clause-others : goal.returns-in_err-keep_changes-clause-others
returns-in_err-keep_changes-clause-others g c =
    let others = c.in_err-keep_changes.ensures.others in
    if_err c.from_residual.result c.from_residual.ensures.1 (λ error same. (λ is. others.0 (sym same ∙ is), λ f is. others.1 f (sym same ∙ is), λ is. others.2 (sym same ∙ is)))

pub returns-in_err-keep_changes-clause-volume : goal.returns-in_err-keep_changes-clause-volume
returns-in_err-keep_changes-clause-volume g c = same_again c.args.heap.now c.loop-index.heap c.keep_changes.new.heap c.loop-index.invariant.volume c.keep_changes.ensures.volume

pub returns-in_err-keep_changes-clause-cause : goal.returns-in_err-keep_changes-clause-cause
returns-in_err-keep_changes-clause-cause g c =
    passed_cause (Unit {0}) (Unit {0}) c.from_residual.result c.in_err-keep_changes.field-0.0 (faults_of c.args.heap.now) (faults_of c.loop-index.heap) (faults_of c.keep_changes.new.heap) c.loop-index.invariant.faults c.from_residual.ensures.1
    c.in_err-keep_changes.ensures.cause

-- ---- all are kept

pub returns-clause-keeps : goal.returns-clause-keeps
returns-clause-keeps g c front disk s stands low =
    let ts = txns_in c.args.txns.now in
    let none : c.loop-index.index ≡ 0 = omega (arith, c.loop-index-test.false) in
    let kept = c.loop-index.invariant.so_far front disk s stands low in
    let whole : flat (drop c.loop-index.index (reverse ts)) ≡ all_changes ts = ap (λ (k : ℕ). flat (drop k (reverse ts))) none ∙ sym (all_flat ts) in
    let st = subst (λ (es : List UndoEntry). StandsSoFar (kept_in c.args.txns.now) (λ p. claims_on p es) stands.slots front kept.stands.0 c.loop-index.heap kept.later) whole kept.stands.1 in
    record {
      later = kept.later;
      work = kept.work;
      same = kept.same;
      volume = kept.volume;
      stands = (kept.stands.0, all_so_far (kept_in c.args.txns.now) stands.slots front kept.stands.0 c.loop-index.heap kept.later st);
      notes = kept.notes;
    }

pub returns-clause-any_fit : goal.returns-clause-any_fit
returns-clause-any_fit g c front first disk done held =
    let ts = txns_in c.args.txns.now in
    let so = c.loop-index.invariant in
    let none : c.loop-index.index ≡ 0 = omega (arith, c.loop-index-test.false) in
    let whole : flat (drop c.loop-index.index (reverse ts)) ≡ all_changes ts = ap (λ (k : ℕ). flat (drop k (reverse ts))) none ∙ sym (all_flat ts) in
    let s = so.any_pages front first disk done held in
    let st = subst (λ (es : List UndoEntry). IsHeldSoFar (kept_in c.args.txns.now) (λ p. claims_on p es) front first s.left c.loop-index.heap done c.args.last) whole s.held in
    subst (λ (k : Geometry). CanKeepOn k c.args.txns.now first done) so.volume.geometry
    (fits_made front first done c.args.last (kept_in c.args.txns.now) (kept_in c.args.txns.now) s.left c.loop-index.heap st)
