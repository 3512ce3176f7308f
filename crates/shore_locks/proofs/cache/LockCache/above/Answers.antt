use Rattle.std.proofs.Common.{sym, ◌∙◌}
use Rattle.shore_types.specs.declared.locking.Granule.TheVariants.{Page, Store, Volume}
use Rattle.shore_locks.proofs.cache.LockCache.above.Goals as goal

pub returns : goal.returns
returns c =
    let said = c.in_ok-entry.ensures in
    (said Volume ∙ c.in_ok-entry-2.was, said (Store c.args.page.now.store) ∙ sym c.in_ok-mode_of_store.ensures, said (Page c.args.page.now) ∙ sym c.in_ok-mode_of_page.ensures)
