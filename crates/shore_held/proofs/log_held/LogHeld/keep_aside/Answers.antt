use Rattle.std.proofs.Common.{true≢false, IsOk, arith, ◌≡◌, ◌-◌, ◌++◌, List, ap, refl, sym, subst, ◌∙◌}
use Rattle.shore_log.specs.PlainTails.{told_in, waiting_in}
use Rattle.shore_log.specs.Settled.{cut_of_log, records_of_log, stable}
use Rattle.shore_log.specs.Told.{aside_for}
use Rattle.shore_model.specs.declared.log_records.LogRecord.{LogRecord}
use Rattle.shore_world.proofs.KnownRooms.{knows_alike}
use Rattle.shore_held.specs.Logs.{Follows, LogState, count_of, free_of, textless_of}
use Rattle.shore_held.proofs.Rooms.{is_spelled}
use Rattle.shore_held.proofs.log_held.LogHeld.keep_aside.Goals as goal

pub invariant_of-self : goal.invariant_of-self
invariant_of-self g c =
    let i = c.self.invariant in
    let waits = c.keep_aside.ensures.records ∙ c.tell_room.ensures.same.1 in (
      i.0,
      i.1,
      i.2,
      subst (λ (w : List LogRecord). Follows g.B.Named.cut g.B.Named.before c.self.inside.pass.me.view.client.got (cut_of_log c.self.inside.log) (records_of_log c.self.inside.log ++ w)) (sym waits) i.3,
      c.keep_aside.ensures.first ∙ c.tell_room.ensures.same.0 ∙ i.4,
      i.5,
      i.6,
      i.7,
      i.8,
      i.9,
      i.10,
      i.11,
      λ ready. absurd (true≢false (sym ready)),
    )

pub invariant_of-self-2 : goal.invariant_of-self-2
invariant_of-self-2 g c =
    let spelled = is_spelled c.self.inside.log (ap (λ s. s.textless) c.self.view_is ∙ c.requires.texts) in
    let knows = c.tell_room.ensures.knows (ap (λ s. s.waits) c.self.view_is ∙ c.requires.taken) spelled in
    let i = c.self.invariant in
    let waits = c.keep_aside.ensures.records ∙ c.tell_room.ensures.same.1 in (
      i.0,
      i.1,
      i.2,
      subst (λ (w : List LogRecord). Follows g.B.Named.cut g.B.Named.before c.self.inside.pass.me.view.client.got (cut_of_log c.self.inside.log) (records_of_log c.self.inside.log ++ w)) (sym waits) i.3,
      c.keep_aside.ensures.first ∙ c.tell_room.ensures.same.0 ∙ i.4,
      i.5,
      i.6,
      i.7,
      i.8,
      i.9,
      i.10,
      i.11,
      λ ready. knows_alike c.self.inside.log (told_in c.tell_room.new.tail) (told_in c.keep_aside.new.self) c.keep_aside.ensures.told knows,
    )

pub returns-in_err-keep_aside-clause-same : goal.returns-in_err-keep_aside-clause-same
returns-in_err-keep_aside-clause-same g c =
    let waits = c.keep_aside.ensures.records ∙ c.tell_room.ensures.same.1 in
    ap (λ (w : List LogRecord). record {
      anchors = c.self.inside.log.anchors;
      cut = cut_of_log c.self.inside.log;
      list = records_of_log c.self.inside.log ++ w;
      waits = w;
      stable = stable c.self.inside.log;
      staged = count_of c.self.inside.log.staged;
      got = c.self.inside.pass.me.view.client.got;
      met = c.self.inside.pass.me.view.client.sent;
      told = c.self.inside.seat.told;
      aim = c.self.inside.seat.anchor.aim;
      failed = c.self.inside.failed;
      free = free_of c.self.inside.log;
      textless = textless_of c.self.inside.log.read (c.self.inside.log.count - c.self.inside.log.forced);
      aside = aside_for 0 0;
      faults = g.L.Disk.faults c.self.inside.log.device;
      history = g.L.Disk.history c.self.inside.log.device;
    }) waits ∙ ap (λ (s : LogState). record s { aside = aside_for 0 0 }) c.self.view_is

pub returns-clause-same : goal.returns-clause-same
returns-clause-same g c =
    let waits = c.keep_aside.ensures.records ∙ c.tell_room.ensures.same.1 in
    ap (λ (w : List LogRecord). record {
      anchors = c.self.inside.log.anchors;
      cut = cut_of_log c.self.inside.log;
      list = records_of_log c.self.inside.log ++ w;
      waits = w;
      stable = stable c.self.inside.log;
      staged = count_of c.self.inside.log.staged;
      got = c.self.inside.pass.me.view.client.got;
      met = c.self.inside.pass.me.view.client.sent;
      told = c.self.inside.seat.told;
      aim = c.self.inside.seat.anchor.aim;
      failed = c.self.inside.failed;
      free = free_of c.self.inside.log;
      textless = textless_of c.self.inside.log.read (c.self.inside.log.count - c.self.inside.log.forced);
      aside = (told_in c.keep_aside.new.self).aside;
      faults = g.L.Disk.faults c.self.inside.log.device;
      history = g.L.Disk.history c.self.inside.log.device;
    }) waits ∙ ap (λ (s : LogState). record s { aside = (told_in c.keep_aside.new.self).aside }) c.self.view_is

pub returns-clause-kept : goal.returns-clause-kept
returns-clause-kept g c = c.in_ok-keep_aside.ensures.kept refl

pub returns-in_err-keep_aside-clause-idle : goal.returns-in_err-keep_aside-clause-idle
returns-in_err-keep_aside-clause-idle g c none empty =
    let clash = subst IsOk c.in_err-keep_aside.was (c.keep_aside.ensures.idle (omega (arith, none), omega (arith, empty))) in absurd cc
