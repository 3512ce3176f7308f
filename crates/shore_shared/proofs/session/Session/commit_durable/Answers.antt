use Rattle.shore_shared.proofs.Hearing.{commit_over, refused_commit}
use Rattle.shore_shared.proofs.session.Session.commit_durable.Goals as goal

pub returns-clause-heard : goal.returns-clause-heard
returns-clause-heard g c =
    commit_over c.call-reply.new.self.seat.failed c.awaited.new.self.seat.failed c.awaited.ensures.seat.2 c.args.self.now.ear c.call-reply.new.self.ear c.awaited.new.self.ear c.call-reply.result c.awaited.result c.call-reply.ensures.heard c.awaited.ensures.same.2 c.awaited.ensures.of

pub returns-clause-refused : goal.returns-clause-refused
returns-clause-refused g c =
    refused_commit c.awaited.new.self.seat.failed c.args.self.now.ear c.awaited.new.self.ear c.awaited.result
    (commit_over c.call-reply.new.self.seat.failed c.awaited.new.self.seat.failed c.awaited.ensures.seat.2 c.args.self.now.ear c.call-reply.new.self.ear c.awaited.new.self.ear c.call-reply.result c.awaited.result c.call-reply.ensures.heard c.awaited.ensures.same.2 c.awaited.ensures.of)
