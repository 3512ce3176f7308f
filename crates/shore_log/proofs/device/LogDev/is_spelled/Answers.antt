use Rattle.shore_log.proofs.device.LogDev.is_spelled.Goals as goal

pub returns-in-None-clause-spelled : goal.returns-in-None-clause-spelled
returns-in-None-clause-spelled g c = λ t. c.args.self.now.spelled c.in-None.is
