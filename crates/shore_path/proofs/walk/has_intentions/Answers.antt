use Rattle.std.proofs.Common.{refl, subst, sym, reverse}
use Rattle.shore_types.specs.declared.locking.Granule.TheVariants.{Store, Page, Record}
use Rattle.shore_model.specs.Locks.{ancestors}
use Rattle.shore_path.specs.Needs.{HasPassed}
use Rattle.shore_path.proofs.walk.has_intentions.Goals as goal

pub returns-in-Store-clause-has : goal.returns-in-Store-clause-has
returns-in-Store-clause-has c sure d =
    subst (λ g. HasPassed d c.args.txn g c.args.mode (reverse (ancestors g)) c.args.table.now) (sym c.in-Store.is)
    (c.has_intention.ensures sure d (Store c.in-Store.field-0) refl, tt)

pub returns-in-Page-clause-has : goal.returns-in-Page-clause-has
returns-in-Page-clause-has c sure d =
    subst (λ g. HasPassed d c.args.txn g c.args.mode (reverse (ancestors g)) c.args.table.now) (sym c.in-Page.is)
    (c.has_store.ensures sure d (Page c.in-Page.page) (refl, (refl, tt)))

pub returns-in-Record-clause-has : goal.returns-in-Record-clause-has
returns-in-Record-clause-has c sure d =
    subst (λ g. HasPassed d c.args.txn g c.args.mode (reverse (ancestors g)) c.has_page.new.table) (sym c.in-Record.is)
    (c.has_page.ensures.has sure d (Record c.in-Record.id) (refl, (refl, (refl, tt))))
