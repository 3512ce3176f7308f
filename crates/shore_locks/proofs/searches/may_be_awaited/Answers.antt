use Rattle.std.proofs.Common.{ℕ, List, map, subst, sym}
use Rattle.std.specs.Prelude.{All}
use Rattle.std.proofs.lemmas.List.Elements.{All-nil}
use Rattle.shore_model.specs.declared.requests.Request.{Request}
use Rattle.shore_model.specs.Requests.{requests_by}
use Rattle.shore_locks.specs.Unawaited.{IsUnawaited}
use Rattle.shore_locks.proofs.Unawaited.{looked_on}
use Rattle.shore_locks.proofs.searches.may_be_awaited.Goals as goal

pub loop-request-preserved : goal.loop-request-preserved
loop-request-preserved c = λ rest.
    c.loop-request.invariant
    (subst (λ (ps : List (ℕ × Request)). All (IsUnawaited c.args.counted.now.requests) (requests_by c.args.txn (map (λ (p : ℕ × Request). p.1) ps))) (sym c.in-Some.ensures)
    (looked_on c.args.counted.now.requests c.args.txn c.in-Some.request.now (map (λ (p : ℕ × Request). p.1) c.advance.new.self) (c.may_be_awaited_by.ensures c.if-may_be_awaited_by.false) rest))

pub returns : goal.returns
returns c = λ _.
    c.loop-request.invariant
    (subst (λ (ps : List (ℕ × Request)). All (IsUnawaited c.args.counted.now.requests) (requests_by c.args.txn (map (λ (p : ℕ × Request). p.1) ps))) (sym c.in_default.ensures.0)
    (All-nil (IsUnawaited c.args.counted.now.requests)))
