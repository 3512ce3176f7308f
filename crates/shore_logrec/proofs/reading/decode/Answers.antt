use Rattle.std.proofs.Common.{◌≡◌, ℕ, List, length, Some, None, sym, ◌∙◌, ap, arith}
use Rattle.std.proofs.lemmas.List.{length-append}
use Rattle.shore_model.specs.declared.log_records.LogRecord.{LogRecord}
use Rattle.shore_logrec.specs.Text.{text}
use Rattle.shore_logrec.specs.Reading.{record_at}
use Rattle.shore_logrec.proofs.Readers.{some_is}
use Rattle.shore_logrec.proofs.Records.{record_takes, record_again, front_taken}
use Rattle.shore_logrec.proofs.reading.decode.Goals as goal

pub overflow_sub-result : goal.overflow_sub-result
overflow_sub-result c =
    let read : record_at c.args.bytes.now ≡ Some (c.in-Some.record, c.in-Some.rest.now) = rw c.in-Some.is at (sym c.in_ok-record.ensures) in
    let parts = (record_takes c.args.bytes.now c.in-Some.record c.in-Some.rest.now (λ i. omega (arith, c.type_inv.bytes i)) read).0 in
    omega (arith, length-append (text c.in-Some.record) c.in-Some.rest.now, ap (λ (l : List ℕ). length l) parts)

pub returns-clause-found : goal.returns-clause-found
returns-clause-found c =
    let read : record_at c.args.bytes.now ≡ Some (c.in-Some.record, c.in-Some.rest.now) = rw c.in-Some.is at (sym c.in_ok-record.ensures) in
    let t = record_takes c.args.bytes.now c.in-Some.record c.in-Some.rest.now (λ i. omega (arith, c.type_inv.bytes i)) read in
    let n = front_taken c.args.bytes.now (text c.in-Some.record) c.in-Some.rest.now t.0 in
    (t.1, n.0, n.1)

pub returns-clause-only : goal.returns-clause-only
returns-clause-only c r rest fits is =
    let read : record_at c.args.bytes.now ≡ Some (c.in-Some.record, c.in-Some.rest.now) = rw c.in-Some.is at (sym c.in_ok-record.ensures) in
    let same : ◌≡◌ {A = LogRecord × List ℕ} (c.in-Some.record, c.in-Some.rest.now) (r, rest) = some_is (c.in-Some.record, c.in-Some.rest.now) (r, rest) (sym read ∙ ap record_at is ∙ record_again r rest fits) in
    let behind : length c.in-Some.rest.now ≡ length rest = ap (λ (v : LogRecord × List ℕ). length v.1) same in
    (ap (λ (v : LogRecord × List ℕ). v.0) same, omega (arith, behind, length-append (text r) rest, ap (λ (l : List ℕ). length l) is))

pub returns-in_default-clause-only : goal.returns-in_default-clause-only
returns-in_default-clause-only c r rest fits is =
    let read : record_at c.args.bytes.now ≡ None = rw c.in_default.is at (sym c.in_ok-record.ensures) in
    let there : record_at c.args.bytes.now ≡ Some (r, rest) = ap record_at is ∙ record_again r rest fits in
    cc
