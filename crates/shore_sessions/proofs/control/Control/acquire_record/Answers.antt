use Rattle.std.proofs.Common.{◌≡◌, true, refl, ap, subst, sym, ◌∙◌}
use Rattle.shore_types.specs.declared.locking.Granule.TheVariants.{Record}
use Rattle.shore_types.specs.declared.locking.Mode.TheVariants.{EX}
use Rattle.shore_locks.specs.Tables.{Table, is_waiting}
use Rattle.shore_path.specs.Intending.{CoversRecords}
use Rattle.shore_path.specs.Walks.{Outcome, acquired}
use Rattle.shore_path.specs.declared.answers.OnConflict.TheVariants.{Refuse}
use Rattle.laws_calls.specs.CallSteps.{with_requests}
use Rattle.shore_sessions.specs.Controls.{locks_in, txns_in, waits_in}
use Rattle.shore_sessions.proofs.ControlSteps.{txns_kept}
use Rattle.shore_sessions.proofs.Marks.{marked_still}
use Rattle.shore_sessions.proofs.WaitSteps.{waits_kept}
use Rattle.shore_sessions.proofs.control.Control.acquire_record.Goals as goal

pub returns-in-Intended-clause-stands : goal.returns-in-Intended-clause-stands
returns-in-Intended-clause-stands c s has =
    let new = with_requests s (acquired Refuse s.locks c.args.txn (Record c.args.id.now) EX).requests in record {
      txns = txns_kept (txns_in c.args.self.now) (txns_in c.args.self.now) s new refl refl refl (λ n. refl) refl refl refl has.txns;
      waits = waits_kept (waits_in c.args.self.now) s has.waits new refl refl (λ n. refl) refl refl;
      resolving = has.resolving;
      locks =
          ap (λ (l : Table). record { limit = l.limit; requests = (acquired Refuse l c.args.txn (Record c.args.id.now) EX).requests }) has.locks
          ∙ sym c.acquire_in_store.ensures.as_asked.1;
    }

pub returns-in-Covered-clause-answer : goal.returns-in-Covered-clause-answer
returns-in-Covered-clause-answer c = sym (ap (λ (o : Outcome). o.answer) (c.covered_records_are_had.ensures.had (locks_in c.args.self.now) c.args.txn c.args.id.now (c.requires.covered c.in-Covered.is)))

pub returns-in-Covered-clause-locks : goal.returns-in-Covered-clause-locks
returns-in-Covered-clause-locks c = sym (ap (λ (o : Outcome). record { limit = (locks_in c.args.self.now).limit; requests = o.requests }) (c.covered_records_are_had.ensures.had (locks_in c.args.self.now) c.args.txn c.args.id.now (c.requires.covered c.in-Covered.is)))

pub returns-in-Covered-clause-reached : goal.returns-in-Covered-clause-reached
returns-in-Covered-clause-reached c done = c.covered_records_are_had.ensures.reached (locks_in c.args.self.now).requests c.args.txn c.args.id.now (c.requires.covered c.in-Covered.is)

pub returns-in-Covered-clause-stands : goal.returns-in-Covered-clause-stands
returns-in-Covered-clause-stands c s has =
    let covers = subst (λ (l : Table). CoversRecords l.requests c.args.txn c.args.id.now.page.store) (sym has.locks) (c.requires.covered c.in-Covered.is) in
    let new = with_requests s (acquired Refuse s.locks c.args.txn (Record c.args.id.now) EX).requests in record {
      txns = txns_kept (txns_in c.args.self.now) (txns_in c.args.self.now) s new refl refl refl (λ n. refl) refl refl refl has.txns;
      waits = waits_kept (waits_in c.args.self.now) s has.waits new refl refl (λ n. refl) refl refl;
      resolving = has.resolving;
      locks =
          ap (λ (o : Outcome). let l : Table = record { limit = s.locks.limit; requests = o.requests } in l) (c.covered_records_are_had.ensures.had s.locks c.args.txn c.args.id.now covers)
          ∙ has.locks;
    }

pub invariant_of-self-clause-marked : goal.invariant_of-self-clause-marked
invariant_of-self-clause-marked c =
    let old = locks_in c.args.self.now in
    marked_still c.args.self.now.waits old.requests c.acquire_in_store.new.table.requests c.args.self.now.marked
    (λ u waits. subst (λ (t : Table). is_waiting u t.requests ≡ true) (sym c.acquire_in_store.ensures.as_asked.1)
    (c.acquire_lets_nobody_through.ensures Refuse old c.args.txn (Record c.args.id.now) EX u c.tables_are_orderly.ensures c.requires.quiet (λ e. absurd cc) waits))
