use Rattle.std.proofs.Common.{◌≡◌, inl, inr, refl}
use Rattle.shore_core.specs.Cores.{has_failed}
use Rattle.shore_world.specs.Worlds.{before_in, failed_in}
use Rattle.shore_world.proofs.DumpLemmas.{dumped_fails, dumped_like, failed_before, is_dump, never_true, same_truth}
use Rattle.shore_world.proofs.WorldLemmas.{same_list}
use Rattle.shore_world.proofs.world.World.dump.Goals as goal

pub returns-clause-shown : goal.returns-clause-shown
returns-clause-shown g c =
    is_dump c.args.self.now c.args.store c.dump.result (λ front disk s kept is safe over. c.dump.ensures.shown front disk (before_in c.args.self.now s) s kept is safe over)

pub returns-clause-refused : goal.returns-clause-refused
returns-clause-refused g c front disk s store is safe over = c.dump.ensures.refused front disk (before_in c.args.self.now s) s store is safe over

pub returns-clause-list : goal.returns-clause-list
returns-clause-list g c = same_list _ _ c.args.self.now.core c.dump.new.self refl c.dump.ensures.tail

pub returns-clause-like : goal.returns-clause-like
returns-clause-like g c none =
    let old = c.args.self.now in
    let e = c.dump.ensures in
    let failed : has_failed c.dump.new.self ≡ has_failed old.core = same_truth _ _ (λ now. elim (e.fails.0 now) [ inl before ↦ before | inr fails ↦ absurd (none fails) ]) (λ before. e.fails.1 (inl before)) in
    dumped_like old _ c.dump.result
    (record {
      log = refl;
      stage = refl;
      report = refl;
      same = e.serves.volume;
      left = e.left;
      any_moment = e.serves.any_moment;
      still = e.still;
      list = same_list _ _ old.core c.dump.new.self refl e.tail;
      durable = e.serves.durable;
      volume_faults = e.serves.cause.unreported;
    })
    none failed

pub returns-clause-fails : goal.returns-clause-fails
returns-clause-fails g c fails =
    let old = c.args.self.now in
    let e = c.dump.ensures in
    dumped_fails old _ c.dump.result
    (record {
      log = refl;
      stage = refl;
      report = refl;
      same = e.serves.volume;
      left = e.left;
      any_moment = e.serves.any_moment;
      still = e.still;
      list = same_list _ _ old.core c.dump.new.self refl e.tail;
      durable = e.serves.durable;
      volume_faults = e.serves.cause.unreported;
    })
    fails (never_true (failed_in old) (λ before. failed_before c.dump.result fails (e.failed before))) (e.fails.1 (inr fails))
