use Rattle.std.proofs.Common.{◌≡◌, ◌≤◌, ◌<◌, ◌+◌, ℕ, length, length-append, ap, sym, subst, ◌∙◌, arith}
use Rattle.shore_types.specs.declared.layout.TheConstants.{LAST_OPENED}
use Rattle.shore_sessions.specs.Controls.{txns_in}
use Rattle.shore_txn.specs.Transactions.{room_in}
use Rattle.shore_txn.specs.Txns.{last_of}
use Rattle.shore_core.proofs.core_calls.Core.with_tail.Goals as goal

pub invariant_of-result : goal.invariant_of-result
invariant_of-result g c =
    let old = c.args.self in
    let ends = sym c.requires in
    record {
      some_number = subst (λ (n : ℕ). 1 ≤ n) ends old.some_number;
      forced = subst (λ (n : ℕ). old.durable < n) ends old.forced;
      numbers = subst (λ (n : ℕ). n + (room_in (txns_in old.control)).reserved ≤ LAST_OPENED) ends old.numbers;
      earlier = λ t is. subst (λ (n : ℕ). last_of t < n) ends (old.earlier t is);
    }

pub returns-clause-state : goal.returns-clause-state
returns-clause-state g c front disk before after s parts is =
    let old = c.args.self in
    let sums = ap length parts in
    let first = is.beside.first in
    let ends = c.requires in
    record {
      beside = record {
        first = omega (arith, first, ends, sums, length-append before (g.T.Tail.records old.tail), length-append after (g.U.Tail.records c.args.tail));
        parts = record { stands = is.beside.parts.stands; log = is.beside.parts.log ∙ parts; durable_is = is.beside.parts.durable_is; failed_is = is.beside.parts.failed_is };
      };
      pages = is.pages;
    }
