use Rattle.std.proofs.Common.{◌≤◌, ◌<◌, ◌+◌, ℕ, List, length, sym, ap, subst, ◌∙◌}
use Rattle.shore_types.specs.declared.layout.TheConstants.{LAST_OPENED}
use Rattle.shore_model.specs.declared.log_records.LogRecord.{LogRecord}
use Rattle.shore_log.specs.PlainTails.{first_of, waiting_in}
use Rattle.shore_sessions.specs.Controls.{txns_in}
use Rattle.shore_txn.specs.Transactions.{room_in}
use Rattle.shore_txn.specs.Txns.{last_of}
use Rattle.shore_core.proofs.handing_over.Core+PlainTail+V.learn_room.Goals as goal

pub invariant_of-self : goal.invariant_of-self
invariant_of-self g c =
    let old = c.args.self.now in
    let same = c.tell_room.ensures.same in
    let ends = ap (λ (n : ℕ). n + length (waiting_in old.tail)) (sym same.0) ∙ ap (λ (l : List LogRecord). first_of c.tell_room.new.tail + length l) (sym same.1) in
    record {
      some_number = subst (λ (n : ℕ). 1 ≤ n) ends old.some_number;
      forced = subst (λ (n : ℕ). old.durable < n) ends old.forced;
      numbers = subst (λ (n : ℕ). n + (room_in (txns_in old.control)).reserved ≤ LAST_OPENED) ends old.numbers;
      earlier = λ t is. subst (λ (n : ℕ). last_of t < n) ends (old.earlier t is);
    }
