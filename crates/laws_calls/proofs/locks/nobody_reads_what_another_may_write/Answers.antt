use Rattle.std.proofs.Common.{refl}
use Rattle.laws_calls.proofs.LocksKept.{reads_of_writer, writes_of_reader}
use Rattle.shore_model.specs.declared.calls.Answer.TheVariants.{Inserted}
use Rattle.shore_model.specs.declared.calls.Call.TheVariants as call
use Rattle.laws_calls.proofs.locks.nobody_reads_what_another_may_write.Goals as goal

pub returns-clause-get : goal.returns-clause-get
returns-clause-get d g o found es s new session answer a u id k of other may h =
    reads_of_writer g o found es s new k session (call.Get id) answer a of h u other id may (λ reads. reads)

pub returns-clause-get_for_update : goal.returns-clause-get_for_update
returns-clause-get_for_update d g o found es s new session answer a u id k of other may h =
    reads_of_writer g o found es s new k session (call.GetForUpdate id) answer a of h u other id may (λ reads. reads)

pub returns-clause-scan : goal.returns-clause-scan
returns-clause-scan d g o found es s new session answer a u id k of other may h =
    reads_of_writer g o found es s new k session (call.Scan id.page.store) answer a of h u other id may (λ reads. reads id refl)

pub returns-clause-update : goal.returns-clause-update
returns-clause-update d g o found es s new session bytes answer a u id k of other may h =
    writes_of_reader g o found es s new k session (call.Update id bytes) answer a of h u other id may (λ writes. writes)

pub returns-clause-delete : goal.returns-clause-delete
returns-clause-delete d g o found es s new session answer a u id k of other may h =
    writes_of_reader g o found es s new k session (call.Delete id) answer a of h u other id may (λ writes. writes)

pub returns-clause-insert : goal.returns-clause-insert
returns-clause-insert d g o found es s new session store bytes a u id k of other may h =
    writes_of_reader g o found es s new k session (call.Insert store bytes) (Inserted id) a of h u other id may (λ writes. writes)
