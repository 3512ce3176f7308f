use Rattle.std.proofs.Common.{refl, sym, ap, ◌∙◌, arith}
use Rattle.shore_types.specs.Images.{Image}
use Rattle.shore_model.specs.declared.log_records.Payload.TheVariants.{Compensation}
use Rattle.laws_room.proofs.Costs.{compensation_bytes}
use Rattle.shore_core.specs.Cores.{txns_of}
use Rattle.shore_core.proofs.Undoing.{none_of, short_last, some_short}
use Rattle.shore_core.proofs.core_calls.Core.undo_of.Goals as goal

pub returns-in_default-clause-none : goal.returns-in_default-clause-none
returns-in_default-clause-none g c a among is =
    let t = c.txn-own.result.now in
    none_of (txns_of c.args.self.now) t c.txn-own.ensures.there a among (is ∙ sym c.txn-own.ensures.number) c.in_default.ensures.none

pub compensation_cost-requires : goal.compensation_cost-requires
compensation_cost-requires g c =
    some_short c.in-Some.newest.now.before (short_last c.txn-own.result.now _ c.in-Some.newest.now c.in-Some.ensures.some.1) _ c.len_of.ensures

pub returns-clause-some : goal.returns-clause-some
returns-clause-some g c =
    let own = c.txn-own.result.now in
    let e = c.in-Some.newest.now in
    let copy = c.in_ok-copy_of.ensures in
    record {
      own = own;
      among = c.txn-own.ensures.among;
      there = c.txn-own.ensures.there;
      number = c.txn-own.ensures.number;
      some = omega (arith, c.id.ensures.some, c.id.ensures.number);
      below = omega (arith, c.id.ensures.below, c.id.ensures.number);
      behind = omega (arith, c.undo_next.ensures, c.undo_next.type_inv);
      kept = c.in-Some.ensures.some.0;
      entry = e;
      entries = c.in-Some.ensures.some.1;
      id_is = refl;
      bytes_is = c.image_len.ensures;
      cost_is = c.compensation_cost.ensures.cost e.id e.before 0 (sym c.len_of.ensures) ∙ sym (compensation_bytes e.id e.before 0);
      record_is =
          ap (λ n. record { txn = n; previous = c.last.result; payload = Compensation e.id c.in_ok-copy_of.field-0 c.undo_next.result }) c.id.ensures.number
          ∙ ap (λ n. record { txn = own.txn; previous = n; payload = Compensation e.id c.in_ok-copy_of.field-0 c.undo_next.result }) c.last.ensures
          ∙ ap (λ (i : Image). record { txn = own.txn; previous = own.last; payload = Compensation e.id i c.undo_next.result }) copy
          ∙ ap (λ n. record { txn = own.txn; previous = own.last; payload = Compensation e.id e.before n }) c.undo_next.ensures;
    }
