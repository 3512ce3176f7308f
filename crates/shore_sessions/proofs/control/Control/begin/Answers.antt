use Rattle.std.proofs.Common.{refl}
use Rattle.laws_calls.specs.StateChanges.{begun}
use Rattle.shore_sessions.specs.Controls.{txns_in, waits_in}
use Rattle.shore_sessions.proofs.Answered.{err_so, ok_so}
use Rattle.shore_sessions.proofs.ControlSteps.{resolving_kept}
use Rattle.shore_sessions.proofs.RolledTables.{rolled_more, rolled_unchanged}
use Rattle.shore_sessions.proofs.TxnSteps.{txns_begun, txns_unchanged}
use Rattle.shore_sessions.proofs.WaitSteps.{waits_begun}
use Rattle.shore_sessions.proofs.control.Control.begin.Goals as goal

pub returns-clause-stands : goal.returns-clause-stands
returns-clause-stands c = let done = c.begin.ensures in ok_so c.begin.result
    (λ more undos next s was idle. record {
      txns = txns_begun (txns_in c.args.self.now) c.begin.new.self s was.txns c.args.session more.0 more.1 more.2 c.requires.none undos done.doubts next done.kept done.stream;
      waits = waits_begun (waits_in c.args.self.now) s was.waits c.args.session idle;
      resolving = resolving_kept (txns_in c.args.self.now) c.begin.new.self (waits_in c.args.self.now) (waits_in c.args.self.now) s (begun s c.args.session)
          (rolled_more (txns_in c.args.self.now) c.begin.new.self more.0 more.1 more.2.decided) refl refl (λ f. f) was.resolving;
      locks = was.locks;
    }) done.begun done.undos done.next

pub returns-clause-unchanged : goal.returns-clause-unchanged
returns-clause-unchanged c = err_so c.begin.result
    (λ same s was. record {
      txns = txns_unchanged (txns_in c.args.self.now) c.begin.new.self s was.txns same;
      waits = was.waits;
      resolving = resolving_kept (txns_in c.args.self.now) c.begin.new.self (waits_in c.args.self.now) (waits_in c.args.self.now) s s (rolled_unchanged (txns_in c.args.self.now) c.begin.new.self same.txns) refl refl (λ f. f) was.resolving;
      locks = was.locks;
    }) c.begin.ensures.unchanged
