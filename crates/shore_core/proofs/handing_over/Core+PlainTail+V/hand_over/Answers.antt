use Rattle.std.proofs.Common.{◌≡◌, [], ◌++◌, length, length-append, append-nil, append_assoc, sym, ap, ◌∙◌, arith}
use Rattle.shore_log.specs.PlainTails.{waiting_in}
use Rattle.shore_log.specs.Settled.{records_of_log}
use Rattle.shore_core.proofs.handing_over.Core+PlainTail+V.hand_over.Goals as goal

pub returns-clause-state : goal.returns-clause-state
returns-clause-state g c front disk cut s long is =
    let waits = waiting_in c.args.self.now.tail in
    let was = records_of_log c.args.log.now in
    let now = records_of_log c.take_in.new.self in
    let taken : now ≡ was ++ waits = c.in-Ok.ensures.taken in
    let none : waiting_in c.take_in.new.tail ≡ [] = c.in-Ok.ensures.emptied in
    let parts = is.beside.parts in
    record {
      beside = record {
        first = omega (arith, is.beside.first, c.take_in.ensures.next, ap length none, ap length taken, length-append was waits, length-append cut was, length-append cut now);
        parts = record {
          stands = parts.stands;
          log = parts.log ∙ append_assoc cut was waits ∙ ap (λ l. cut ++ l) (sym taken) ∙ sym (append-nil (cut ++ now)) ∙ ap (λ l. (cut ++ now) ++ l) (sym none);
          durable_is = parts.durable_is;
          failed_is = parts.failed_is;
        };
      };
      pages = is.pages;
    }
