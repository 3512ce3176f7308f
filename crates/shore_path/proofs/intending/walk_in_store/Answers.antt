use Rattle.std.proofs.Common.{refl, subst, sym}
use Rattle.shore_types.specs.declared.locking.Granule.TheVariants.{Record}
use Rattle.shore_types.specs.declared.locking.Mode.TheVariants.{EX}
use Rattle.shore_locks.specs.Tables.{Table}
use Rattle.shore_path.specs.declared.answers.OnConflict.TheVariants.{Refuse}
use Rattle.shore_path.specs.Intending.{IntendsToWrite}
use Rattle.shore_path.proofs.Intended.{as_before, comes_in_store, ends_in_store}
use Rattle.shore_path.proofs.Passing.{comes_to_target}
use Rattle.shore_path.proofs.intending.walk_in_store.Goals as goal

pub returns-then-has_page : goal.returns-then-has_page
returns-then-has_page c =
    as_before c.args.txn c.args.id.now c.args.table.now c.has_page.new.table c.lock_alone.new.table c.lock_alone.result c.has_page.ensures.same
    (comes_to_target Refuse c.args.txn (Record c.args.id.now) EX c.has_page.new.table c.lock_alone.new.table c.lock_alone.result
    (c.has_page.ensures.has c.if-has_page.true Refuse (Record c.args.id.now) (refl, (refl, (refl, tt)))) c.lock_alone.ensures.answer c.lock_alone.ensures.table)

pub returns-in-Some : goal.returns-in-Some
returns-in-Some c =
    let intends = subst (λ (x : Table). IntendsToWrite x.requests c.args.txn c.args.id.now.page.store) (sym c.has_page.ensures.same) c.requires.intends in
    as_before c.args.txn c.args.id.now c.args.table.now c.has_page.new.table c.pass.new.table c.in-Some.answer c.has_page.ensures.same
    (ends_in_store c.args.txn c.args.id.now c.has_page.new.table intends c.pass.new.table c.in-Some.answer (c.in-Some.ensures.walk (Record c.args.id.now) refl))

pub returns-in-None : goal.returns-in-None
returns-in-None c =
    let intends = subst (λ (x : Table). IntendsToWrite x.requests c.args.txn c.args.id.now.page.store) (sym c.has_page.ensures.same) c.requires.intends in
    as_before c.args.txn c.args.id.now c.args.table.now c.has_page.new.table c.lock_alone-in-None.new.table c.lock_alone-in-None.result c.has_page.ensures.same
    (comes_in_store c.args.txn c.args.id.now c.has_page.new.table intends c.pass.new.table c.lock_alone-in-None.new.table c.lock_alone-in-None.result (c.in-None.ensures.walk (Record c.args.id.now) refl)
    c.lock_alone-in-None.ensures.answer c.lock_alone-in-None.ensures.table)
