use Rattle.std.proofs.Common.{◌≡◌, inl, inr, refl}
use Rattle.shore_heap.specs.Scans.{part_end}
use Rattle.shore_core.specs.Cores.{has_failed}
use Rattle.shore_world.specs.Worlds.{before_in, failed_in, geometry_in}
use Rattle.shore_world.proofs.DumpLemmas.{dumped_fails, dumped_like, failed_before, is_part, never_true, same_truth}
use Rattle.shore_world.proofs.WorldLemmas.{same_list}
use Rattle.shore_world.proofs.world.World.dump_part.Goals as goal

pub returns-clause-shown : goal.returns-clause-shown
returns-clause-shown g c =
    let old = c.args.self.now in
    is_part old c.args.first.store c.args.first.page c.dump_part.new.list (part_end (geometry_in old) c.args.first.store) c.dump_part.result
    (λ front disk s kept is safe over. c.dump_part.ensures.shown front disk (before_in old s) s kept is safe over)

pub returns-clause-short : goal.returns-clause-short
returns-clause-short g c front disk s kept is safe over = c.dump_part.ensures.short front disk (before_in c.args.self.now s) s kept is safe over

pub returns-clause-stops : goal.returns-clause-stops
returns-clause-stops g c front disk s kept is safe over = c.dump_part.ensures.stops front disk (before_in c.args.self.now s) s kept is safe over

pub returns-clause-refused : goal.returns-clause-refused
returns-clause-refused g c front disk s store is safe over = c.dump_part.ensures.refused front disk (before_in c.args.self.now s) s store is safe over

pub returns-clause-list : goal.returns-clause-list
returns-clause-list g c = same_list _ _ c.args.self.now.core c.dump_part.new.self refl c.dump_part.ensures.tail

pub returns-clause-like : goal.returns-clause-like
returns-clause-like g c none =
    let old = c.args.self.now in
    let e = c.dump_part.ensures in
    let failed : has_failed c.dump_part.new.self ≡ has_failed old.core = same_truth _ _ (λ now. elim (e.fails.0 now) [ inl before ↦ before | inr fails ↦ absurd (none fails) ]) (λ before. e.fails.1 (inl before)) in
    dumped_like old _ c.dump_part.result
    (record {
      log = refl;
      stage = refl;
      report = refl;
      same = e.serves.volume;
      left = e.left;
      any_moment = e.serves.any_moment;
      still = e.still;
      list = same_list _ _ old.core c.dump_part.new.self refl e.tail;
      durable = e.serves.durable;
      volume_faults = e.serves.cause.unreported;
    })
    none failed

pub returns-clause-fails : goal.returns-clause-fails
returns-clause-fails g c fails =
    let old = c.args.self.now in
    let e = c.dump_part.ensures in
    dumped_fails old _ c.dump_part.result
    (record {
      log = refl;
      stage = refl;
      report = refl;
      same = e.serves.volume;
      left = e.left;
      any_moment = e.serves.any_moment;
      still = e.still;
      list = same_list _ _ old.core c.dump_part.new.self refl e.tail;
      durable = e.serves.durable;
      volume_faults = e.serves.cause.unreported;
    })
    fails (never_true (failed_in old) (λ before. failed_before c.dump_part.result fails (e.failed before))) (e.fails.1 (inr fails))
