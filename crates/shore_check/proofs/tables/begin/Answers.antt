use Rattle.std.proofs.Common.{◌∙◌, ◌∷◌, [], ◌<◌, ap, refl, subst, sym, arith}
use Rattle.std.specs.Prelude.{All, IsTrue, length}
use Rattle.shore_frames.specs.LoggedRecords.{are_numbered}
use Rattle.shore_frames.proofs.LoggedLemmas.{test-AreNumbered}
use Rattle.std.proofs.lemmas.List.Sorted.{All-permutation}
use Rattle.shore_model.specs.declared.log_records.LogRecord.{LogRecord}
use Rattle.shore_model.specs.declared.log_records.LogTxn.{LogTxn}
use Rattle.shore_model.specs.declared.log_records.Payload.TheVariants.{CheckpointEnd}
use Rattle.shore_logrec.specs.Text.{DirtyFits, TxnFits, text}
use Rattle.laws_checkpoints.specs.Checkpoints.{cut_point, of_checkpoint}
use Rattle.shore_check.proofs.Costs.{end_text, whole_cost}
use Rattle.shore_check.proofs.tables.begin.Goals as goal

pub txns_fit-requires : goal.txns_fit-requires
txns_fit-requires c =
    subst (All (λ (e : LogTxn). 0 < e.txn)) (sym c.as_slice.ensures.value)
    (All-permutation (λ (e : LogTxn). 0 < e.txn) c.args.txns.items c.put_txns_in_order.new.txns.items c.put_txns_in_order.ensures.same c.requires.txns.some)

pub overflow_sub-cost : goal.overflow_sub-cost
overflow_sub-cost c =
    let txns = c.put_txns_in_order.new.txns.items in
    let dirty = c.put_pages_in_order.new.dirty.items in
    let costs = c.checkpoint_cost-cost.ensures.cost 0 0 0 txns dirty (omega (arith, c.len.ensures)) (omega (arith, c.len-2.ensures)) ∙ whole_cost 0 0 0 txns dirty in
    omega (arith, costs)

pub overflow_sub-cost-2 : goal.overflow_sub-cost-2
overflow_sub-cost-2 c =
    let txns = c.put_txns_in_order.new.txns.items in
    let dirty = c.put_pages_in_order.new.dirty.items in
    let costs = c.checkpoint_cost-cost.ensures.cost 0 0 0 txns dirty (omega (arith, c.len.ensures)) (omega (arith, c.len-2.ensures)) ∙ whole_cost 0 0 0 txns dirty in
    omega (arith, costs)

pub new-requires-clause-fits : goal.new-requires-clause-fits
new-requires-clause-fits c =
    let dirty = c.put_pages_in_order.new.dirty.items in
    let txns = c.put_txns_in_order.new.txns.items in
    let said = ap (λ ts. of_checkpoint (CheckpointEnd c.args.number c.args.next ts c.from_vec-2.result)) c.from_vec.ensures
    ∙ ap (λ ds. of_checkpoint (CheckpointEnd c.args.number c.args.next txns ds)) c.from_vec-2.ensures in
    subst (λ r. IsTrue (are_numbered 1 (r ∷ []))) (sym said) (test-AreNumbered 1 (of_checkpoint (CheckpointEnd c.args.number c.args.next txns dirty) ∷ []) (
      record {
        owner = (refl, refl);
        txn_fits = omega arith;
        previous_fits = omega arith;
        payload_fits = record {
          begin_fits = omega arith;
          next_fits = omega arith;
          few_txns = omega (arith, c.put_txns_in_order.ensures.len, c.requires.txns.few);
          txns_fit = subst (All TxnFits) c.as_slice.ensures.value c.txns_fit.ensures;
          txns_rise = c.put_txns_in_order.ensures.rise;
          few_pages = omega (arith, c.put_pages_in_order.ensures.len, c.requires.pages.few);
          pages_fit = subst (All DirtyFits) c.as_slice-2.ensures.value c.pages_fit.ensures;
          pages_rise = c.put_pages_in_order.ensures.rise;
        };
      },
      omega arith,
      tt,
    ))

pub new-requires-clause-costs : goal.new-requires-clause-costs
new-requires-clause-costs c =
    let txns = c.put_txns_in_order.new.txns.items in
    let dirty = c.put_pages_in_order.new.dirty.items in
    let costs = c.checkpoint_cost-cost.ensures.cost 0 0 0 txns dirty (omega (arith, c.len.ensures)) (omega (arith, c.len-2.ensures)) ∙ whole_cost 0 0 0 txns dirty in
    let said = ap (λ ts. of_checkpoint (CheckpointEnd c.args.number c.args.next ts c.from_vec-2.result)) c.from_vec.ensures
    ∙ ap (λ ds. of_checkpoint (CheckpointEnd c.args.number c.args.next txns ds)) c.from_vec-2.ensures in
    omega (arith, costs, end_text c.args.number c.args.next txns dirty, ap (λ (r : LogRecord). length (text r)) said)

pub returns : goal.returns
returns c =
    let txns = c.put_txns_in_order.new.txns.items in
    let dirty = c.put_pages_in_order.new.dirty.items in
    let costs = c.checkpoint_cost-cost.ensures.cost 0 0 0 txns dirty (omega (arith, c.len.ensures)) (omega (arith, c.len-2.ensures)) ∙ whole_cost 0 0 0 txns dirty in
    let said = ap (λ ts. of_checkpoint (CheckpointEnd c.args.number c.args.next ts c.from_vec-2.result)) c.from_vec.ensures
    ∙ ap (λ ds. of_checkpoint (CheckpointEnd c.args.number c.args.next txns ds)) c.from_vec-2.ensures in
    let point = c.cut_point.ensures c.args.next
    ∙ ap (λ ts. cut_point (record { begin = c.args.number; next = c.args.next; txns = ts; dirty = c.as_slice-4.result.now })) c.as_slice-3.ensures.value
    ∙ ap (λ ds. cut_point (record { begin = c.args.number; next = c.args.next; txns = txns; dirty = ds })) c.as_slice-4.ensures.value in (
      record { begin = c.args.number; next = c.args.next; txns = txns; dirty = dirty },
      record { begin = refl; next_txn = refl; txns_taken = c.put_txns_in_order.ensures.same; pages_taken = c.put_pages_in_order.ensures.same },
      record {
        end = c.new.ensures.0 ∙ said;
        fits = record {
          begin_fits = omega arith;
          next_fits = omega arith;
          few_txns = omega (arith, c.put_txns_in_order.ensures.len, c.requires.txns.few);
          txns_fit = subst (All TxnFits) c.as_slice.ensures.value c.txns_fit.ensures;
          txns_rise = c.put_txns_in_order.ensures.rise;
          few_pages = omega (arith, c.put_pages_in_order.ensures.len, c.requires.pages.few);
          pages_fit = subst (All DirtyFits) c.as_slice-2.ensures.value c.pages_fit.ensures;
          pages_rise = c.put_pages_in_order.ensures.rise;
        };
        mark = c.new.ensures.1 ∙ ap (λ n. record { checkpoint = c.args.number; tail = n }) point;
        cost = omega (arith, c.new.ensures.2, costs);
      },
    )
