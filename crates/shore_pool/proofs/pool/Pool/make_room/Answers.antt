use Rattle.shore_pool.specs.Pools.{frame_at}
use Rattle.shore_pool.proofs.Moments.{while_still}
use Rattle.shore_dwrite.specs.Images.{numbers_of, texts_of}
use Rattle.shore_pool.proofs.pool.Pool.make_room.Goals as goal

pub returns-clause-any_moment : goal.returns-clause-any_moment
returns-clause-any_moment g c front disk holds = while_still c.args.self.now.device (frame_at c.args.self.now) c.args.durable front disk (numbers_of c.args.self.now.batch) (texts_of c.args.self.now.batch) c.args.self.now.amid holds.settled
