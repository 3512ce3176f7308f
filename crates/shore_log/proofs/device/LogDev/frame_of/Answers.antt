use Rattle.std.proofs.Common.{◌≡◌, ◌+◌, ◌<◌, List, ℕ, length, sym, subst, ap, ◌∙◌, arith}
use Rattle.std.proofs.lemmas.List.{length-take-le}
use Rattle.shore_frames.specs.Offsets.{IsFrameOf}
use Rattle.shore_log.specs.Settled.{records_of_log}
use Rattle.shore_log.proofs.CutLemmas.{frame_is, is_none, is_some, none_kept, some_at}
use Rattle.shore_log.proofs.device.LogDev.frame_of.Goals as goal

pub returns-then-is_empty : goal.returns-then-is_empty
returns-then-is_empty g c tail place front s least most =
    let log = c.args.self.now in
    let none = is_none c.is_empty.result _ (length log.frames.items) c.is_empty.ensures log.frames.ok.0 c.if-is_empty.true in
    absurd (none_kept tail place s.groups log.forced c.args.number (ap length (sym s.holds.index) ∙ none) s.holds.number least (omega (arith, most, s.holds.first, s.holds.some, length-take-le log.forced (records_of_log log) log.forced_inside)))

pub returns : goal.returns
returns g c tail place front s least most =
    let log = c.args.self.now in
    let count = c.frames_before.result in
    let within : count < length log.frames.items = c.frames_before.ensures.within (is_some c.is_empty.result _ (length log.frames.items) c.is_empty.ensures log.frames.ok.0 c.if-is_empty.false) in
    let at = some_at log.frames.items count c.index-at.result.now within c.index-at.ensures in
    let n = c.frames_before.ensures.holds tail place s.groups s.holds.index least (omega (arith, s.holds.number, s.holds.first, s.holds.some, most, length-take-le log.forced (records_of_log log) log.forced_inside)) in
    let long : length s.image ≡ 4096 + log.stream_bytes = omega (arith, g.met.D.Disk.keeps_length log.device s.holds.honest, log.as_long, ap length s.stands.read) in
    subst (λ (image : List ℕ). IsFrameOf tail place image c.args.number c.byte_of-2.result) (sym s.stands.read)
    (frame_is tail place log front s c.args.number count c.index-at.result.now c.byte_of-2.result long at n c.byte_of-2.ensures)
