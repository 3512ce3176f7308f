use Rattle.std.proofs.Common.{◌≡◌, ◌≤◌, ◌+◌, ◌-◌, ◌++◌, ◌∷◌, ℕ, All, List, false, length, map, take, sym, ap, subst, ◌∙◌, arith}
use Rattle.std.proofs.lemmas.List.Elements.{All-cons, All-map}
use Rattle.std.proofs.Math.Logic.{∥∥₁_elim, ∥∥₁_map₂, ∥∥₁_prop}
use Rattle.shore_disk.specs.Device.{DeviceHistory, size}
use Rattle.shore_fronts.specs.Volumes.{volume_bytes}
use Rattle.shore_types.specs.declared.layout.Geometry.{Geometry}
use Rattle.laws_images.specs.StandsBehind.{anchored_by}
use Rattle.shore_model.specs.declared.log_records.LogRecord.{LogRecord}
use Rattle.shore_core.specs.Cores.{durable_of, history_of, last_of, waiting_of}
use Rattle.shore_words.specs.declared.rule.Known.{Known}
use Rattle.shore_held.proofs.Aims.{aimed}
use Rattle.shore_held.specs.Comings.{HasAim, IsAimOf, anchored_at}
use Rattle.shore_held.specs.Logs.{LeavesHeld, LogState, known_in}
use Rattle.shore_held.specs.Moments.{AreAtOnce}
use Rattle.shore_shared.specs.HandedBack.{AreHandedBack}
use Rattle.shore_shared.proofs.Durable.{rises}
use Rattle.shore_shared.proofs.HandedBack.{handed_back}
use Rattle.shore_shared.proofs.closing.Shared+N+B+QueueTail+N+B+R+L+V.into_devices.Goals as goal

pub returns-clause-stand : goal.returns-clause-stand
returns-clause-stand g c =
    let i = c.none-none.new.self in
    let t = record c.tell-forced.new.self { met = waiting_of c.seat-reader.new.self.core } in
    let m = c.meeting.ensures in
    let before = g.B.Named.before in
    let same : c.gathered.new.held ≡ t = c.gathered.ensures.same ∙ m.same_log in
    let told_is : c.tell-forced.result ≡ t.cut + length t.stable = c.tell-forced.ensures.told.0 ∙ c.tell-forced.ensures.told.1 in
    let waits : waiting_of i.core ≡ waiting_of c.seat-reader.new.self.core = ap waiting_of c.none-none.ensures.core.0 ∙ c.learn.ensures.records.0 ∙ m.same.0 in
    let last : last_of c.meeting.new.core.core ≡ last_of c.seat-reader.new.self.core = ap (λ (rs : List LogRecord). g.N.Numbers.first_number + length rs - 1) m.same.0 in
    let low : durable_of c.meeting.new.core.core ≤ c.tell-forced.result = omega (arith, m.same.1, m.core_seen.0, m.core_seen.1, told_is) in
    let high : c.tell-forced.result ≤ last_of c.meeting.new.core.core = omega (arith, told_is, last, m.numbers.0, m.numbers.1, m.order.1) in
    let forced : durable_of i.core ≡ t.cut + length t.stable = ap durable_of c.none-none.ensures.core.0 ∙ c.learn.ensures.learned low high ∙ told_is in
    let first = subst (λ (s : LogState). s.stable ≡ take (length s.stable) s.list) same c.has_failed.ensures.stable in
    let kept : i.seat.kept ≡ known_in t = ap (λ v. v.kept) c.none-none.ensures.same.3 ∙ ap (λ v. v.kept) c.learn.ensures.same.3 ∙ m.core_seat.2 ∙ m.one_anchor.0 in
    let aims : HasAim t.aim → ∥ IsAimOf i.stage (durable_of i.core) t.aim ∥₁ = subst (λ (k : Known). HasAim k.aim → ∥ IsAimOf i.stage (durable_of i.core) k.aim ∥₁) kept i.aims in
    let at_once : AreAtOnce g.B.Named.cut before (waiting_of i.core) (durable_of i.core) (anchored_at i.seat.kept) t = record {
      gone = m.begins.0;
      coming = m.begins.1;
      parts = ap (λ (l : List LogRecord). before ++ l) waits ∙ m.begins.2;
      cut_off = m.begins.3;
      first = m.one_anchor.1;
      stable_first = first;
      known_is = omega (arith, forced);
      one_anchor = ap anchored_at kept;
    } in
    let seen : All (λ n. n ≤ t.cut + length t.stable) (map (λ s. s.seat.seen) c.args.sessions.items) =
    All-map (λ n. n ≤ t.cut + length t.stable) (λ s. s.seat.seen) c.args.sessions.items (subst (λ (n : ℕ). All (λ s. s.seat.seen ≤ n) c.args.sessions.items) (ap (λ (s : LogState). s.told) m.same_log ∙ c.tell-forced.ensures.told.1) c.gathered.ensures.seen) in
    let log : g.L.Disk.history c.into_device-log.result ≡ t.history = ap g.L.Disk.history c.into_device-log.ensures ∙ c.into_log-log.ensures.log.4 ∙ ap (λ (s : LogState). s.history) same in
    let volume : g.V.Disk.history c.into_volume.result ≡ history_of i.core = ap g.V.Disk.history c.into_volume.ensures ∙ ap history_of c.gathered.ensures.core.0 in (
      i.asked.items,
      i.stepped.items,
      t.cut + length t.stable,
      c.gathered.ensures.failed,
      λ start honest. ∥∥₁_elim (aimed t.aim aims) ∥∥₁_prop (λ there. ∥∥₁_map₂ (i.come_by start honest) (c.has_failed.ensures.left start honest) (λ h leaves.
          let geometry : h.geometry ≡ g.B.Named.geometry = sym h.is ∙ i.layout in
          let numbers = start.first.state.durable ∷ map (λ s. s.seat.seen) c.args.sessions.items in
          let rose = rises h.geometry start.first h.plain h.last h.made h.moves in
          let began : start.first.state.durable ≤ t.cut + length t.stable = omega (arith, rose, h.is_in.beside.parts.durable_is, forced) in
          let low : All (λ n. n ≤ t.cut + length t.stable) numbers = All-cons (λ n. n ≤ t.cut + length t.stable) start.first.state.durable (map (λ s. s.seat.seen) c.args.sessions.items) began seen in
          let here : LeavesHeld g.B.Named.geometry g.B.Named.log_bytes t t.history = subst (λ (s : LogState). LeavesHeld g.B.Named.geometry g.B.Named.log_bytes s s.history) same leaves in
          let back =
          handed_back g.B.Named.cut before i.core i.stage (anchored_at i.seat.kept) i.asked.items i.stepped.items h t at_once numbers low g.B.Named.log_bytes (omega (arith, h.ring, i.ring)) forced there
          (subst (λ (x : Geometry). LeavesHeld x g.B.Named.log_bytes t t.history) (sym geometry) here) in
          subst (λ (x : Geometry). AreHandedBack start i.asked.items i.stepped.items x g.B.Named.log_bytes (t.cut + length t.stable) numbers (g.L.Disk.history c.into_device-log.result) (g.V.Disk.history c.into_volume.result)) geometry
          (subst (λ (x : DeviceHistory). AreHandedBack start i.asked.items i.stepped.items h.geometry g.B.Named.log_bytes (t.cut + length t.stable) numbers x (g.V.Disk.history c.into_volume.result)) (sym log)
          (subst (λ (x : DeviceHistory). AreHandedBack start i.asked.items i.stepped.items h.geometry g.B.Named.log_bytes (t.cut + length t.stable) numbers t.history x) (sym volume) back)))),
      c.gathered.ensures.heard,
    )

pub returns-clause-long : goal.returns-clause-long
returns-clause-long g c = (
  ap (λ d. size (g.L.Disk.history d)) c.into_device-log.ensures ∙ c.into_log-log.ensures.long,
  ap (λ d. size (g.V.Disk.history d)) c.into_volume.ensures ∙ c.gathered.new.core.core.heap.pool.device.as_long ∙ ap volume_bytes c.gathered.new.core.layout,
)
