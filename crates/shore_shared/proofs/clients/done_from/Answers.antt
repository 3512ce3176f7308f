use Rattle.shore_shared.specs.Told.{exchanges_in, shown_by}
use Rattle.shore_shared.proofs.Telling.{claims, if_ok}
use Rattle.shore_shared.proofs.clients.done_from.Goals as goal

pub returns : goal.returns
returns g c =
    let client = c.work-done.new.client in
    if_ok c.work-done.result _ _
    (λ done said. claims (g.J.Job.says c.args.job.now c.args.number done) g.E.Begins.first (shown_by client.session.ear client.session.seat) (exchanges_in client.told.items) client.same.0 client.same.1 client.heard said)
    c.work-done.ensures
