use Rattle.std.proofs.Common.{◌-◌, length, refl, ap, arith}
use Rattle.shore_core.specs.Cores.{told_of}
use Rattle.shore_frames.specs.declared.reading.FrameAt.{FrameAt}
use Rattle.shore_log.specs.Settled.{stable}
use Rattle.shore_world.proofs.KeptLogs.{alike, gives_now}
use Rattle.shore_world.proofs.MadeSteps.{frames_of}
use Rattle.shore_world.proofs.world.World.durable_records.Goals as goal

pub invariant_of-self : goal.invariant_of-self
invariant_of-self g c =
    let old = c.args.self.now in
    let r = c.read_from.ensures in
    let cut = ap (λ (t : FrameAt). t.first - 1) r.frames.tail in
    record {
      numbers = omega (arith, old.numbers, cut, ap length r.log);
      durable_agrees = omega (arith, old.durable_agrees, cut, ap length r.frames.forced);
      ring = omega (arith, old.ring, r.size);
      knows = r.knows (told_of old.core) old.knows;
      spelled = r.spelled old.spelled;
      aside = old.aside;
    }

pub returns-clause-found : goal.returns-clause-found
returns-clause-found g c log_front front disk s store at running =
    let w = c.args.self.now in
    c.read_from.ensures.only (frames_of w log_front at.log running).1.honest (stable w.log) (gives_now w log_front at.log running)

pub returns-clause-undamaged : goal.returns-clause-undamaged
returns-clause-undamaged g c log_front front disk s store at running =
    let w = c.args.self.now in
    c.read_from.ensures.undamaged (frames_of w log_front at.log running).1.honest (stable w.log) (gives_now w log_front at.log running)

pub returns-clause-like : goal.returns-clause-like
returns-clause-like g c honest = alike c.args.self.now _ refl refl refl c.read_from.ensures.frames c.read_from.ensures.log (c.read_from.ensures.same honest)
