use Rattle.std.proofs.Common.{◌≡◌, ◌+◌, ◌++◌, length, arith, sym, ap, subst, ◌∙◌, append_assoc, length-append}
use Rattle.std.proofs.Math.Logic.{∥∥₁_map}
use Rattle.std.proofs.lemmas.List.{length-take-le}
use Rattle.shore_log.specs.PlainTails.{waiting_in}
use Rattle.shore_log.specs.Settled.{records_of_log}
use Rattle.shore_heap.specs.Heaps as heaps
use Rattle.shore_sessions.specs.Controls.{txns_in}
use Rattle.shore_txn.specs.Transactions.{room_in}
use Rattle.shore_core.specs.Cores.{durable_of}
use Rattle.shore_words.specs.declared.rule.Known.{Known}
use Rattle.shore_held.specs.Comings.{HasAim, HasComeBy, IsAimOf, anchored_at}
use Rattle.shore_held.specs.Logs.{LogState, known_in}
use Rattle.shore_held.proofs.Aims.{aims_kept}
use Rattle.shore_held.specs.Trails.{moves_of}
use Rattle.shore_held.proofs.Comings.{is_like}
use Rattle.shore_held.proofs.both.meeting.Goals as goal

-- The core is as it was, and its seat has seen more; it keeps the anchor that it kept, which is the log device's.
pub invariant_of-core : goal.invariant_of-core
invariant_of-core g c =
    let i = c.args.core.now in
    let p = c.probe.ensures in
    let met = c.meet.ensures in
    let kept : c.meet.new.seat.kept ≡ i.seat.kept = ap (λ v. v.kept) met.seat ∙ sym met.one in
    let sees : c.meet.new.seat.seen ≡ c.held.inside.seat.told = ap (λ v. v.seen) met.seat in
    record {
      come_by = λ start honest. ∥∥₁_map (i.come_by start honest) (λ h. subst (λ a. HasComeBy start g.B.Named.cut g.B.Named.before c.probe.new.self i.stage (anchored_at a) (moves_of i.asked.items i.stepped.items)) (sym kept)
          (is_like g.B.Named.cut g.B.Named.before i.core i.stage (anchored_at i.seat.kept) (moves_of i.asked.items i.stepped.items) h c.probe.new.self p.heap (ap (λ k. (room_in (txns_in k)).stream_bytes) p.control) p.state p.over));
      layout = ap heaps.geometry_of p.heap ∙ i.layout;
      ring = omega (arith, ap (λ k. (room_in (txns_in k)).stream_bytes) p.control, i.ring);
      as_many = i.as_many;
      keeps = ap (λ v. v.keeps) met.seat;
      durable_seen = omega (arith, p.durable, i.durable_seen, met.seen, sees);
      aims = aims_kept i.stage (durable_of i.core) (durable_of c.probe.new.self) i.seat.kept c.meet.new.seat.kept kept (omega (arith, p.durable)) i.aims;
      counted = i.counted;
      parts = i.parts;
      none_kept = i.none_kept;
      booked = i.booked;
      failing = i.failing;
      fails = λ p. c.probe.ensures.running ∙ i.fails p;
    }

-- The two know one anchor, and of one move of it that has failed.
pub returns-clause-one_anchor : goal.returns-clause-one_anchor
returns-clause-one_anchor g c =
    let log = c.held.inside.log in
    let known = c.meet.ensures.one ∙ c.held.invariant.7 in (
      known ∙ ap known_in c.held.view_is,
      subst (λ (s : LogState). s.anchors.anchor.tail ≡ s.cut + 1) c.held.view_is (let same = log.anchored.0 in let some = log.gone_below in omega (arith, same, some)),
    )

pub returns-clause-aims : goal.returns-clause-aims
returns-clause-aims g c torn =
    let i = c.args.core.now in
    let one : i.seat.kept ≡ known_in c.args.held.now = c.meet.ensures.one ∙ c.held.invariant.7 ∙ ap known_in c.held.view_is in
    subst (λ (k : Known). ∥ IsAimOf i.stage (durable_of i.core) k.aim ∥₁) one (i.aims (subst (λ (k : Known). HasAim k.aim) (sym one) torn))

pub returns-clause-begins : goal.returns-clause-begins
returns-clause-begins g c =
    let before = g.B.Named.before in
    let t = c.probe.ensures.tells.1 in
    let got = ap (λ v. v.got) c.handed_on-pass.ensures.1 in
    let f = c.held.invariant.3 in
    let list = ap (λ s. s.list) c.held.view_is in (
      f.gone,
      t.0,
      ap (λ l. before ++ l) (t.1 ∙ ap (λ l. l ++ t.0) got) ∙ sym (append_assoc before _ t.0) ∙ ap (λ l. l ++ t.0) f.parts ∙ append_assoc f.gone _ t.0 ∙ ap (λ l. f.gone ++ (l ++ t.0)) list,
      sym (ap (λ s. s.cut) c.held.view_is) ∙ f.cut_off,
    )

pub returns-clause-order : goal.returns-clause-order
returns-clause-order g c =
    let i = c.held.invariant in
    let log = c.held.inside.log in
    let rs = records_of_log log in
    let waits = waiting_in c.held.inside.next in
    let came = c.held.inside.pass.me.view.client.got in
    let t = c.probe.ensures.tells.1 in
    let sent = t.1 ∙ ap (λ l. l ++ t.0) (ap (λ v. v.got) c.handed_on-pass.ensures.1) in (
      omega (arith, ap (λ v. v.seen) c.look-seen.ensures.seen, c.compare.ensures.seen, ap (λ v. v.told) c.meet.ensures.teller, i.8, c.number.ensures, c.durable.ensures),
      omega (
        arith,
        c.last.ensures,
        ap length c.probe.ensures.tail,
        i.5,
        ap length sent,
        length-append came t.0,
        ap length i.3.parts,
        length-append g.B.Named.before came,
        length-append i.3.gone (rs ++ waits),
        length-append rs waits,
        i.3.cut_off,
        length-take-le log.forced rs log.forced_inside,
        c.number.ensures,
        c.durable.ensures,
      ),
    )
