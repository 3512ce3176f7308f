-- Legs one after another are a life.
use Rattle.std.proofs.Common.{◌≡◌, ◌≤◌, ℕ, List, [], ◌∷◌, refl, sym, ap, subst, ◌∙◌, map, arith}
use Rattle.std.specs.Prelude.{unwrap_or}
use Rattle.std.specs.FinMap.{get}
use Rattle.shore_types.specs.Versions.{slot_limit}
use Rattle.shore_types.specs.declared.layout.Geometry.{Geometry}
use Rattle.shore_model.specs.declared.histories.InDoubt.{InDoubt}
use Rattle.shore_model.specs.declared.histories.Opening.{Opening}
use Rattle.shore_model.specs.declared.log_records.LogRecord.{LogRecord}
use Rattle.shore_model.specs.Lives.{Span, next_opening}
use Rattle.shore_model.specs.Logs.{logged_writes}
use Rattle.shore_model.proofs.Overlays.{get-overlay}
use Rattle.laws_lives.specs.Doubts.{DoubtsStand, HasWritten, IsOpeningOf, LoggedDoubt, doubts_in, pair_logged}
use Rattle.laws_lives.specs.LogTells.{records_committed}
use Rattle.laws_lives.specs.Pages.{LoggedPages}
use Rattle.laws_lives.specs.Restarts.{IsRestartOf}
use Rattle.laws_lives.specs.Stretches.{opening_after}
use Rattle.laws_lives.proofs.Lists.{mapped_one}
use Rattle.laws_lives.proofs.Openings.{undone_opening, undone_stand}
use Rattle.laws_lives.proofs.Restarts.{events_restart}
use Rattle.laws_checkpoints.specs.Checkpoints.{Anchored, cut_of}
use Rattle.laws_runs.proofs.ManagerLogs.{restart_roomy}
use Rattle.laws_runs.proofs.Prefixes.{whole_placed}
use Rattle.laws_runs.specs.CheckpointSteps.{log_limit}
use Rattle.laws_runs.specs.RoomyLogs.{IsPlacedLog}
use Rattle.laws_migrations.proofs.MigratedRooms.{roomy}
use Rattle.laws_migrations.proofs.Versions.{slots_rise}
use Rattle.laws_checkpoints.specs.StoresInOrder.{IsInOrder}
use Rattle.laws_runs.specs.CheckpointedStates.{MayBeOpenedBehind, found_behind}
use Rattle.laws_runs.specs.CheckpointedStays.{CheckpointedStay, spans_of_stays}
use Rattle.laws_runs.proofs.CheckpointedStays.{stays_leave, stays_live}
use Rattle.laws_runs.proofs.PlainWorks.{restart_goes}
use Rattle.laws_migrations.specs.MigratedLogs.{TellsTheSame}
use Rattle.laws_migrations.specs.Legs.{AreLegs, IsLifeInLegs, IsMigrated, MigratedLeg, OpensAlike, doubt_logged, last_spans, legs_of, new_anchor, next_leg_opens, new_log, old_log, opening_logged}
use Rattle.laws_migrations.proofs.Legs.{opens_alike}
use Rattle.laws_migrations.proofs.Telling.{may_be_opened, tells_the_same}

-- ---- what a log says of itself

has_logged : (log : List LogRecord) (t : ℕ) → HasWritten log t (logged_writes log t)
has_logged log t = record {
  logged = λ id image is.
      let R = records_committed log in ap (λ o. unwrap_or o (get R id)) (sym is) ∙ sym (get-overlay R (logged_writes log t) id);
  unlogged = λ id none. none;
}

pairs_same : (log : List LogRecord) (ds : List LoggedDoubt) → map (λ (d : InDoubt). (d.txn, d.global)) (map (doubt_logged log) ds) ≡ map pair_logged ds
pairs_same log [] = refl
pairs_same log (d ∷ ds) = ap (λ (ps : List (ℕ × List ℕ)). (d.txn, d.global) ∷ ps) (pairs_same log ds)

pub says_itself : (slots : ℕ) (log : List LogRecord) → IsOpeningOf log (opening_logged slots log)
says_itself slots log = record {
  records = refl;
  in_doubt = pairs_same log (doubts_in log);
  written = λ d among.
      let one = mapped_one (doubt_logged log) d (doubts_in log) among in
      subst (λ (d : InDoubt). HasWritten log d.txn d.writes) one.2 (has_logged log one.0.txn);
}

-- ---- slots

slots_after : (o : Opening) (spans : List Span) → (opening_after o spans).slots ≡ o.slots
slots_after o [] = refl
slots_after o (s ∷ spans) = slots_after (next_opening o s) spans

-- ---- one leg

module _ (g : Geometry) (ring_bytes : ℕ) (o : Opening) (leg : MigratedLeg) (may : MayBeOpenedBehind g ring_bytes leg.anchor leg.left leg.left_pages) (opening : IsOpeningOf leg.left o) (served : o.slots ≡ slot_limit g.version) (h : IsMigrated g leg) where
  goes : IsInOrder leg.ready × IsRestartOf leg.left leg.ready.store
  goes =
      let k = restart_goes (found_behind leg.anchor leg.left leg.left_pages) leg.restart leg.ready may.in_order h.restarts in (
        k.in_order,
        (events_restart leg.left (found_behind leg.anchor leg.left leg.left_pages).store leg.restart leg.ready.store may.in_order.recoverable
            (record { turns = []; undone = refl; durable = omega arith }) k.restarts).1,
      )

  opening_now : IsOpeningOf (old_log leg) o
  opening_now = undone_opening o leg.left goes.1.turns (old_log leg) goes.1.undone opening

  stand_now : DoubtsStand (old_log leg)
  stand_now = undone_stand leg.left goes.1.turns (old_log leg) goes.1.undone may.opened.doubts

  placed_now : IsPlacedLog g (old_log leg)
  placed_now =
      let k = restart_goes (found_behind leg.anchor leg.left leg.left_pages) leg.restart leg.ready may.in_order h.restarts in
      whole_placed g (log_limit ring_bytes (cut_of leg.anchor) leg.left) leg.ready.store.durable (old_log leg)
      (restart_roomy g (log_limit ring_bytes (cut_of leg.anchor) leg.left) (found_behind leg.anchor leg.left leg.left_pages).store leg.restart leg.ready.store may.opened.roomy k.restarts)

  pub opens_next : MayBeOpenedBehind leg.new_geometry leg.new_ring_bytes (new_anchor leg) (new_log leg) leg.new_pages
  opens_next = may_be_opened (old_log leg) goes.0.lawful h.no_losers leg.next_txn leg.doubts h.read leg.txns h.table leg.new_pages h.as_of h.all_done leg.new_geometry leg.new_ring_bytes stand_now
      (roomy g leg.new_geometry h.into (old_log leg) goes.0.lawful h.no_losers placed_now leg.next_txn leg.doubts h.read h.number leg.txns h.table leg.new_pages h.as_of h.all_done leg.new_ring_bytes h.fits h.locks) h.fits.short

  same : TellsTheSame (old_log leg) (new_log leg)
  same = tells_the_same (old_log leg) goes.0.lawful h.no_losers leg.next_txn leg.doubts h.read leg.txns h.table leg.new_pages h.as_of h.all_done

  pub alike : OpensAlike o (next_leg_opens leg)
  alike = opens_alike (old_log leg) (new_log leg) o (next_leg_opens leg) goes.0.lawful opens_next.in_order.lawful stand_now same opening_now
      (says_itself (slot_limit leg.new_geometry.version) (new_log leg)) (subst (λ n. n ≤ slot_limit leg.new_geometry.version) (sym served) (slots_rise g.version leg.new_geometry.version h.into.version))

-- ---- all of them

pub legs_live : (g : Geometry) (ring_bytes : ℕ) (o : Opening) (a : Anchored) (rs : List LogRecord) (pages : LoggedPages) → MayBeOpenedBehind g ring_bytes a rs pages → IsOpeningOf rs o → o.slots ≡ slot_limit g.version
    → (legs : List MigratedLeg) (stays : List CheckpointedStay) (b : Anchored) (last : List LogRecord) (last_pages : LoggedPages) → AreLegs g ring_bytes o a rs pages legs stays b last last_pages
    → (end : Opening) × IsLifeInLegs o (legs_of rs legs) (last_spans rs legs stays) end × IsOpeningOf last end
legs_live g ring_bytes o a rs pages may opening served [] stays b last last_pages h = (
  opening_after o (spans_of_stays rs stays),
  (stays_live g ring_bytes o a rs pages may opening stays b last last_pages h).0,
  (stays_leave g ring_bytes o a rs pages may opening stays b last last_pages h).1,
)
legs_live g ring_bytes o a rs pages may opening served (leg ∷ legs) stays b last last_pages h =
    let mid = opening_after o (spans_of_stays rs leg.stays) in
    let left = stays_leave g ring_bytes o a rs pages may opening leg.stays leg.anchor leg.left leg.left_pages h.0 in
    let lived = (stays_live g ring_bytes o a rs pages may opening leg.stays leg.anchor leg.left leg.left_pages h.0).0 in
    let still = slots_after o (spans_of_stays rs leg.stays) ∙ served in
    let rest = legs_live leg.new_geometry leg.new_ring_bytes (next_leg_opens leg) (new_anchor leg) (new_log leg) leg.new_pages (opens_next g ring_bytes mid leg left.0 left.1 still h.1)
    (says_itself (slot_limit leg.new_geometry.version) (new_log leg)) refl legs stays b last last_pages h.2 in
    (rest.0, (mid, lived, alike g ring_bytes mid leg left.0 left.1 still h.1, rest.1), rest.2)
