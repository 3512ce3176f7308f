use Rattle.std.proofs.Common.{◌≡◌, Some, ap, ◌∙◌}
use Rattle.shore_types.specs.declared.locking.Granule.{Granule}
use Rattle.shore_types.specs.declared.locking.Granule.TheVariants.{Page, Store, Volume}
use Rattle.shore_types.specs.declared.locking.Mode.{Mode}
use Rattle.shore_locks.specs.Tables.{Table, mode_held}
use Rattle.shore_path.proofs.Passing.{intention_passes}
use Rattle.shore_path.proofs.walk.has_page.Goals as goal
use Rattle.shore_path.proofs.walk.has_page.Goals.{After-are_intentions}

now : (c : After-are_intentions) (g : Granule) (m : Mode) → mode_held c.args.txn g c.args.table.now.requests ≡ Some m → mode_held c.args.txn g c.held_above.new.self.requests ≡ Some m
now c g m held = ap (λ (t : Table). mode_held c.args.txn g t.requests) c.held_above.ensures.same ∙ held

pub returns-in-Some-clause-has : goal.returns-in-Some-clause-has
returns-in-Some-clause-has c sure d target apart =
    let all = c.are_intentions.ensures sure in
    let held = c.in-Some.held in (
      intention_passes d c.args.txn target c.args.mode Volume c.held_above.new.self held.volume (now c Volume held.volume c.in-Some.ensures.volume) all.0 apart.0,
      (
        intention_passes d c.args.txn target c.args.mode (Store c.args.page.now.store) c.held_above.new.self held.store (now c (Store c.args.page.now.store) held.store c.in-Some.ensures.store) all.1 apart.1.0,
        (intention_passes d c.args.txn target c.args.mode (Page c.args.page.now) c.held_above.new.self held.page (now c (Page c.args.page.now) held.page c.in-Some.ensures.page) all.2 apart.1.1.0, tt),
      ),
    )
