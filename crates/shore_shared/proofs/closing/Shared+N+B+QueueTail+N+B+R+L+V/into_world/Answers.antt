use Rattle.std.proofs.Common.{◌≡◌, ◌≤◌, ◌+◌, ◌++◌, ℕ, [], All, List, IsTrue, length, append-nil, length-append, sym, ap, subst, ◌∙◌, arith}
use Rattle.std.proofs.Math.Logic.{∥∥₁_elim, ∥∥₁_map₂, ∥∥₁_prop}
use Rattle.shore_check.specs.Stages.{bytes_to_log, records_to_log}
use Rattle.shore_check.specs.declared.stage.Stage.{Stage}
use Rattle.shore_disk.specs.Device.{size}
use Rattle.shore_gate.specs.declared.anchors.Anchors.{Anchors}
use Rattle.shore_heap.specs.Heaps as heaps
use Rattle.laws_images.specs.StandsBehind.{anchored_by}
use Rattle.shore_log.specs.PlainTails.{told_in, waiting_in}
use Rattle.shore_log.specs.Settled.{KnowsRoom, cut_of_log, records_of_log}
use Rattle.shore_log.specs.Told.{aside_for}
use Rattle.shore_log.specs.declared.tail.PlainTail.{PlainTail}
use Rattle.shore_model.specs.declared.log_records.LogRecord.{LogRecord}
use Rattle.shore_sessions.specs.Controls.{txns_in}
use Rattle.shore_txn.specs.Transactions.{room_in}
use Rattle.shore_core.specs.Checkpointing.{KeepsFor}
use Rattle.shore_core.specs.Cores.{IsIn, IsOver, durable_of, geometry_of, has_failed, heap_of, last_of, waiting_of}
use Rattle.shore_world.specs.Worlds.{anchor_in, durable_in, geometry_in, history_in}
use Rattle.shore_held.proofs.Comings.{ring_of}
use Rattle.shore_words.specs.declared.rule.Known.{Known}
use Rattle.shore_held.proofs.Aims.{aimed}
use Rattle.shore_held.specs.Comings.{HasAim, HasComeBy, IsAimOf, anchored_at}
use Rattle.shore_held.specs.Logs.{IsKept, LogState}
use Rattle.shore_held.specs.Trails.{calls_in, moves_of, noted_in}
use Rattle.shore_words.specs.Words.{AreBy}
use Rattle.shore_shared.proofs.Lives.{ended}
use Rattle.shore_shared.proofs.closing.Shared+N+B+QueueTail+N+B+R+L+V.into_world.Goals as goal

pub from_parts-requires-clause-spelled : goal.from_parts-requires-clause-spelled
from_parts-requires-clause-spelled g c =
    c.into_log-log.ensures.spelled (ap (λ (x : LogState). x.textless) c.gathered-calls.ensures.same ∙ c.in_default.ensures.texts)

pub from_parts-requires-clause-knows : goal.from_parts-requires-clause-knows
from_parts-requires-clause-knows g c =
    subst (λ (t : PlainTail). KnowsRoom c.into_log-log.result.0 (told_in t)) (sym c.with_tail-core.ensures.tail)
    (c.into_log-log.ensures.knows (ap (λ (x : LogState). x.waits) c.gathered-calls.ensures.same ∙ c.in_default.ensures.taken) (ap (λ (x : LogState). x.textless) c.gathered-calls.ensures.same ∙ c.in_default.ensures.texts))

-- what its checkpoint still has to log has its room aside
pub from_parts-requires-clause-aside : goal.from_parts-requires-clause-aside
from_parts-requires-clause-aside g c =
    let stage = c.into_core-core.ensures.core.1 ∙ c.gathered-calls.ensures.core.1 ∙ c.none-none.ensures.same.0 in
    let same = c.gathered-calls.ensures.same in
    let aside = ap (λ (x : LogState). x.aside) same ∙ c.in_default.ensures.aside in
    subst (λ (t : PlainTail). KeepsFor c.into_core-core.result.1 (told_in t)) (sym c.with_tail-core.ensures.tail)
    (c.into_log-log.ensures.aside (ap (λ (x : LogState). x.waits) same ∙ c.in_default.ensures.taken) (ap (λ (x : LogState). x.textless) same ∙ c.in_default.ensures.texts)
    ∙ aside ∙ ap (λ (x : Stage). aside_for (records_to_log x) (bytes_to_log x)) (sym stage))

pub with_tail-core-requires : goal.with_tail-core-requires
with_tail-core-requires g c =
    let l = c.into_log-log.ensures in
    let same = c.gathered-calls.ensures.same in
    let core = c.into_core-core.result.0 in
    let one = c.into_core-core.ensures.core.0 ∙ c.gathered-calls.ensures.core.0 ∙ c.none-none.ensures.core.0 in
    let held = c.gathered-calls.new.held in
    let none = ap length (ap (λ (x : LogState). x.waits) same ∙ c.in_default.ensures.taken) in
    omega (
      arith,
      l.waits.1,
      ap length l.waits.0,
      none,
      l.log.1,
      ap length l.log.3,
      length-append (records_of_log c.into_log-log.result.0) held.waits,
      ap (λ (x : LogState). x.cut) same,
      ap (λ (x : LogState). length x.list) same,
      c.in_default.ensures.last,
      ap last_of one,
      core.some_number,
    )

pub returns-clause-ended : goal.returns-clause-ended
returns-clause-ended g c =
    let cut = g.B.Named.cut in
    let kept = g.B.Named.before in
    let w = c.from_parts.result in
    let f = c.from_parts.ensures in
    let t = c.with_tail-core.ensures in
    let e = c.in_default.ensures in
    let i = c.none-none.new.self in
    let held = c.gathered-calls.new.held in
    let same = c.gathered-calls.ensures.same in
    let core = c.into_core-core.result.0 in
    let log = c.into_log-log.result.0 in
    let l = c.into_log-log.ensures in
    let trail = moves_of i.asked.items i.stepped.items in
    let q = c.into_core-core.ensures.core.0 ∙ c.gathered-calls.ensures.core.0 in
    let stage = f.2 ∙ c.into_core-core.ensures.core.1 ∙ c.gathered-calls.ensures.core.1 in
    let anchor : anchored_at i.seat.kept ≡ anchored_by (anchor_in w) =
    ap (λ v. anchored_at v.kept) c.none-none.ensures.same.3 ∙ ap anchored_at e.anchor ∙ sym (ap (λ (x : Anchors). anchored_by x.anchor) (l.log.0 ∙ ap (λ (x : LogState). x.anchors) same)) ∙ sym (ap (λ x. anchored_by x.anchors.anchor) f.1) in
    let aim : i.seat.kept.aim ≡ held.aim = ap (λ (k : Known). k.aim) (ap (λ v. v.kept) c.none-none.ensures.same.3 ∙ e.anchor) ∙ ap (λ (x : LogState). x.aim) (sym same) in
    let durable : durable_in w ≡ durable_of i.core = ap durable_of f.0 ∙ t.durable ∙ ap durable_of q in
    let aims : HasAim held.aim → ∥ IsAimOf w.stage (durable_in w) held.aim ∥₁ =
    subst (λ (x : Stage × ℕ × (ℕ × ℕ)). HasAim x.2 → ∥ IsAimOf x.0 x.1 x.2 ∥₁) (λ j. (sym stage j, sym durable j, aim j)) i.aims in
    let geometry : geometry_in w ≡ g.B.Named.geometry = ap geometry_of f.0 ∙ ap heaps.geometry_of t.heap ∙ ap geometry_of q ∙ i.layout in
    let bytes : size (history_in w) ≡ g.B.Named.log_bytes = ap (λ x. size (g.L.Disk.history x.device)) f.1 ∙ l.long in
    let gone = e.records.0 in
    let records : kept ++ waiting_of core ≡ gone ++ records_of_log w.log =
    ap (λ x. kept ++ waiting_of x) (q ∙ c.none-none.ensures.core.0) ∙ e.records.1
    ∙ ap (λ (x : List LogRecord). gone ++ x) (ap (λ (x : LogState). x.list) (sym same) ∙ l.log.3 ∙ ap (λ (x : List LogRecord). records_of_log log ++ x) (ap (λ (x : LogState). x.waits) same ∙ e.taken) ∙ append-nil (records_of_log log) ∙ sym (ap records_of_log f.1)) in
    let failed = ap has_failed f.0 ∙ t.running ∙ ap has_failed (q ∙ c.none-none.ensures.core.0) in
    let counted = sym (sym c.gathered-calls.ensures.amount ∙ c.into_core-core.ensures.counted ∙ ap calls_in c.gathered-calls.ensures.trail.0) in (
      i.asked.items,
      i.stepped.items,
      i.as_many,
      counted,
      c.gathered-calls.ensures.heard,
      subst (λ n. AreBy n (noted_in i.asked.items i.stepped.items)) (c.none-none.ensures.same.1 ∙ e.whole ∙ c.len.ensures) c.gathered-calls.ensures.by,
      λ told. ap has_failed f.0 ∙ t.running ∙ ap has_failed q ∙ i.fails told,
      c.gathered-calls.ensures.failed,
      λ start honest. ∥∥₁_elim (aimed held.aim aims) ∥∥₁_prop (λ there. ∥∥₁_map₂ (i.come_by start honest) (l.kept start honest) (λ h k.
          ended cut kept core w i.asked.items i.stepped.items
          (subst (λ x. HasComeBy start cut kept x w.stage (anchored_by (anchor_in w)) trail) (sym q)
          (subst (λ x. HasComeBy start cut kept i.core x (anchored_by (anchor_in w)) trail) (sym stage) (subst (λ x. HasComeBy start cut kept i.core i.stage x trail) anchor h)))
          (ap heap_of f.0 ∙ t.heap) (ap ring_of f.0 ∙ ap (λ x. (room_in (txns_in x)).stream_bytes) t.control)
          (λ front disk before after s same is. subst (λ x. IsIn front disk after x s) (sym f.0)
          (t.state front disk before after s (same ∙ ap (λ x. after ++ waiting_of x) f.0 ∙ ap (λ (x : PlainTail). after ++ waiting_in x) t.tail) is))
          (λ disk s store is. subst (λ x. IsOver disk x s store) (sym f.0) (t.over disk s store is)) (ap waiting_of f.0 ∙ ap waiting_in t.tail ∙ l.waits.0 ∙ ap (λ (x : LogState). x.waits) same ∙ e.taken) gone records
          (ap cut_of_log f.1 ∙ l.log.1 ∙ ap (λ (x : LogState). x.cut) same ∙ e.records.2) held.failed (λ fails. subst IsTrue (sym failed) (e.failed (subst IsTrue (ap (λ (x : LogState). x.failed) same) fails))) held.aim there
          (subst (λ x. IsKept x (size (history_in w)) w.log held.failed held.aim) (sym geometry)
          (subst (λ x. IsKept g.B.Named.geometry x w.log held.failed held.aim) (sym bytes) (subst (λ x. IsKept g.B.Named.geometry g.B.Named.log_bytes x held.failed held.aim) (sym f.1) k))))),
    )

pub returns-clause-seen : goal.returns-clause-seen
returns-clause-seen g c =
    let w = c.from_parts.result in
    let core = c.into_core-core.ensures.core.0 ∙ c.gathered-calls.ensures.core.0 ∙ c.none-none.ensures.core.0 in
    let durable : durable_in w ≡ durable_of c.end.new.core.core = ap durable_of c.from_parts.ensures.0 ∙ c.with_tail-core.ensures.durable ∙ ap durable_of core in
    subst (λ n. All (λ s. s.seat.seen ≤ n) c.args.sessions.items) (c.in_default.ensures.durable.1 ∙ sym durable) c.gathered-calls.ensures.seen

pub returns-clause-layout : goal.returns-clause-layout
returns-clause-layout g c =
    let i = c.none-none.new.self in
    let f = c.from_parts.ensures in (
      ap geometry_of f.0 ∙ ap heaps.geometry_of c.with_tail-core.ensures.heap ∙ ap geometry_of (c.into_core-core.ensures.core.0 ∙ c.gathered-calls.ensures.core.0) ∙ i.layout,
      ap (λ x. size (g.L.Disk.history x.device)) f.1 ∙ c.into_log-log.ensures.long,
    )
