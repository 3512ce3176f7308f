use Rattle.shore_shared.proofs.ClientLives.{life}
use Rattle.shore_shared.proofs.client_laws.clients_were_told_the_trail.Goals as goal

pub returns : goal.returns
returns g c noted durable clients jobs done holds client low = life g.J.Job.says noted durable clients jobs done holds client low
