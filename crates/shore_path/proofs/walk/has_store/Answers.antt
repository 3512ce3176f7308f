use Rattle.shore_path.proofs.walk.has_store.Goals as goal

pub returns-then-has_intention : goal.returns-then-has_intention
returns-then-has_intention c sure d target apart =
    (c.has_intention.ensures c.if-has_intention.true d target apart.0, (c.has_intention-then-has_intention.ensures sure d target apart.1.0, tt))
