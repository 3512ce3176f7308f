use Rattle.std.proofs.Common.{◌≡◌, true, subst, sym, ◌∙◌}
use Rattle.std.proofs.lemmas.Bool.{eqb-true}
use Rattle.shore_types.specs.declared.ids.PageId.{PageId}
use Rattle.shore_types.specs.declared.ids.Rid.{Rid}
use Rattle.shore_types.specs.declared.locking.Granule.TheVariants.{Page}
use Rattle.shore_types.specs.declared.locking.Mode.TheVariants.{IX}
use Rattle.shore_path.specs.Intending.{CoversRecords}
use Rattle.shore_path.specs.Judging.{CanLockNow}
use Rattle.shore_core.proofs.lockable.LockablePlaces.may_use.Goals as goal

-- who holds what covers the store's records can lock the first of the page, and so the page
pub returns-in-Covered-clause-may : goal.returns-in-Covered-clause-may
returns-in-Covered-clause-may c sure =
    let l = c.args.self.now in
    let page = c.args.page.now in
    let first : Rid = record { page = page; slot = 0 } in
    let same : page.store ≡ l.store = eqb-true page.store l.store (sym c.eq.ensures ∙ c.if-eq.true) in
    let covers = subst (CoversRecords l.locks.now.requests l.txn) (sym same) (l.covered c.in-Covered.is) in
    c.records_need_their_page.ensures l.locks.now.requests l.txn first (c.covered_records_are_had.ensures.free l.locks.now.requests l.txn first covers)

pub returns-in-Intended-clause-none : goal.returns-in-Intended-clause-none
returns-in-Intended-clause-none c barred id on can =
    let l = c.args.self.now in
    let told : c.may_lock_in_store.result ≡ true =
    c.may_lock_in_store.ensures.1 (subst (λ (p : PageId). CanLockNow l.locks.now.requests l.txn (Page p) IX) on (c.records_need_their_page.ensures l.locks.now.requests l.txn id can)) in
    absurd cc

pub returns-clause-none : goal.returns-clause-none
returns-clause-none c barred id on can =
    let l = c.args.self.now in
    let told : c.may_lock.result ≡ true =
    c.may_lock.ensures.1 (subst (λ (p : PageId). CanLockNow l.locks.now.requests l.txn (Page p) IX) on (c.records_need_their_page.ensures l.locks.now.requests l.txn id can)) in
    absurd cc
