use Rattle.std.proofs.Common.{inl, inr, sym, ap, subst, refl, arith}
use Rattle.shore_types.specs.declared.locking.Granule.TheVariants as granule
use Rattle.shore_types.specs.declared.locking.Mode.TheVariants as mode
use Rattle.shore_types.specs.Versions.{record_limit-most}
use Rattle.shore_model.specs.declared.calls.Call.{Call}
use Rattle.laws_calls.specs.CallSteps.{MayAsk}
use Rattle.shore_path.specs.Acquires.{IsReached}
use Rattle.laws_locks.specs.CallLocks.{lock_asked_by}
use Rattle.shore_core.specs.Cores.{geometry_of, locks_of}
use Rattle.shore_core.specs.Replies.{Reads, Served, ServesCall}
use Rattle.shore_core.proofs.Coming.{comes_same}
use Rattle.shore_core.proofs.Lookups.{lock_answer}
use Rattle.shore_core.proofs.Serving.{call_still}
use Rattle.shore_core.proofs.core_calls.Core.behind_locks.Goals as goal

pub insert-requires-clause-short : goal.insert-requires-clause-short
insert-requires-clause-short g c =
    let short = (subst (λ (it : Call). MayAsk (geometry_of c.args.self.now) it) c.in-Insert.is c.requires.may).0 in
    omega (arith, short, record_limit-most (geometry_of c.args.self.now).version)

pub update-requires-clause-short : goal.update-requires-clause-short
update-requires-clause-short g c =
    let short = (subst (λ (it : Call). MayAsk (geometry_of c.args.self.now) it) c.in-Update.is c.requires.may).0 in
    omega (arith, short, record_limit-most (geometry_of c.args.self.now).version)

pub returns-in-Insert-clause-served : goal.returns-in-Insert-clause-served
returns-in-Insert-clause-served g c running front disk before s store is safe over a its number =
    let old = c.args.self.now in
    subst (λ (it : Call). Served a it c.insert.result old c.insert.new.self front before s store) (sym c.in-Insert.is) (c.insert.ensures.served running front disk before s store is safe over a its number)

pub returns-in-Update-clause-served : goal.returns-in-Update-clause-served
returns-in-Update-clause-served g c running front disk before s store is safe over a its number =
    let old = c.args.self.now in
    let reached : IsReached (locks_of old).requests c.args.txn (granule.Record c.in-Update.id) mode.EX = c.requires.reached (record { granule = granule.Record c.in-Update.id; mode = mode.EX }) (ap lock_asked_by c.in-Update.is) in
    subst (λ (it : Call). Served a it c.update.result old c.update.new.self front before s store) (sym c.in-Update.is) (c.update.ensures.served running front disk before s store is safe over a its (subst (λ t. IsReached (locks_of old).requests t (granule.Record c.in-Update.id) mode.EX) (sym number) reached))

pub returns-in-Delete-clause-served : goal.returns-in-Delete-clause-served
returns-in-Delete-clause-served g c running front disk before s store is safe over a its number =
    let old = c.args.self.now in
    let reached : IsReached (locks_of old).requests c.args.txn (granule.Record c.in-Delete.id) mode.EX = c.requires.reached (record { granule = granule.Record c.in-Delete.id; mode = mode.EX }) (ap lock_asked_by c.in-Delete.is) in
    subst (λ (it : Call). Served a it c.delete.result old c.delete.new.self front before s store) (sym c.in-Delete.is) (c.delete.ensures.served running front disk before s store is safe over a its (subst (λ t. IsReached (locks_of old).requests t (granule.Record c.in-Delete.id) mode.EX) (sym number) reached))

pub returns-in-Scan-clause-served : goal.returns-in-Scan-clause-served
returns-in-Scan-clause-served g c running front disk before s store is safe over a its number =
    let old = c.args.self.now in
    subst (λ (it : Call). Served a it c.scan.result old c.scan.new.self front before s store) (sym c.in-Scan.is) (c.scan.ensures.served running front disk before s store is safe over a its.0.0)

pub returns-in-Get-clause-served : goal.returns-in-Get-clause-served
returns-in-Get-clause-served g c running front disk before s store is safe over a its number =
    let old = c.args.self.now in
    let r = c.get.ensures.served running front disk before s store is safe over a its.0.0 in
    elim c.in-Get.is [
      | inl get ↦ subst (λ (it : Call). Served a it c.get.result old c.get.new.self front before s store) (sym get) r.0
      | inr getu ↦ subst (λ (it : Call). Served a it c.get.result old c.get.new.self front before s store) (sym getu) r.1
    ]

pub returns-in-Lock-clause-served : goal.returns-in-Lock-clause-served
returns-in-Lock-clause-served g c running front disk before s store is safe over a its number =
    let old = c.args.self.now in
    record {
      later = s;
      serves = lock_answer (geometry_of old) s a safe.roomy.pages.once its.0.0 c.args.call c.in-Lock.is;
      comes = comes_same old front disk before s store is over;
    }

pub returns-in-Insert-clause-serves : goal.returns-in-Insert-clause-serves
returns-in-Insert-clause-serves g c =
    subst (λ (it : Call). ServesCall (Reads it) c.args.self.now c.insert.result c.args.self.now c.insert.new.self) (sym c.in-Insert.is) c.insert.ensures.serves

pub returns-in-Update-clause-serves : goal.returns-in-Update-clause-serves
returns-in-Update-clause-serves g c =
    subst (λ (it : Call). ServesCall (Reads it) c.args.self.now c.update.result c.args.self.now c.update.new.self) (sym c.in-Update.is) c.update.ensures.serves

pub returns-in-Delete-clause-serves : goal.returns-in-Delete-clause-serves
returns-in-Delete-clause-serves g c =
    subst (λ (it : Call). ServesCall (Reads it) c.args.self.now c.delete.result c.args.self.now c.delete.new.self) (sym c.in-Delete.is) c.delete.ensures.serves

pub returns-in-Scan-clause-serves : goal.returns-in-Scan-clause-serves
returns-in-Scan-clause-serves g c =
    subst (λ (it : Call). ServesCall (Reads it) c.args.self.now c.scan.result c.args.self.now c.scan.new.self) (sym c.in-Scan.is) c.scan.ensures.serves

pub returns-in-Get-clause-serves : goal.returns-in-Get-clause-serves
returns-in-Get-clause-serves g c =
    elim c.in-Get.is [
      | inl get ↦ subst (λ (it : Call). ServesCall (Reads it) c.args.self.now c.get.result c.args.self.now c.get.new.self) (sym get) c.get.ensures.serves
      | inr getu ↦ subst (λ (it : Call). ServesCall (Reads it) c.args.self.now c.get.result c.args.self.now c.get.new.self) (sym getu) c.get.ensures.serves
    ]

pub returns-in-Lock-clause-serves : goal.returns-in-Lock-clause-serves
returns-in-Lock-clause-serves g c = call_still _ _ _ _ _ refl refl refl refl tt refl
