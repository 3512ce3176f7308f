use Rattle.std.proofs.Common.{[]}
use Rattle.shore_disk.specs.Device.{size}
use Rattle.shore_format.specs.Fronts.{LogStandsFor}
use Rattle.shore_format.specs.Volumes.{IsEmptyVolume}
use Rattle.shore_format.proofs.FrontLemmas.{untouched}
use Rattle.shore_format.proofs.PairLemmas.{at_first, both}
use Rattle.shore_format.proofs.pairs.format.Goals as goal

pub returns-in-Some-clause-any_log : goal.returns-in-Some-clause-any_log
returns-in-Some-clause-any_log g c honest = untouched (LogStandsFor c.args.geometry.now (size (g.L.Disk.history c.args.log.now)) []) (g.L.Disk.history c.args.log.now)

pub returns-in-Some-clause-any_volume : goal.returns-in-Some-clause-any_volume
returns-in-Some-clause-any_volume g c honest = untouched (IsEmptyVolume c.args.geometry.now (size (g.V.Disk.history c.args.volume.now))) (g.V.Disk.history c.args.volume.now)

pub returns-in_err-of_log-clause-any_log : goal.returns-in_err-of_log-clause-any_log
returns-in_err-of_log-clause-any_log g c honest = untouched (LogStandsFor c.args.geometry.now (size (g.L.Disk.history c.args.log.now)) []) (g.L.Disk.history c.args.log.now)

pub returns-in_err-of_log-clause-any_volume : goal.returns-in_err-of_log-clause-any_volume
returns-in_err-of_log-clause-any_volume g c honest = untouched (IsEmptyVolume c.args.geometry.now (size (g.V.Disk.history c.args.volume.now))) (g.V.Disk.history c.args.volume.now)

pub returns-in_err-of_volume-clause-any_log : goal.returns-in_err-of_volume-clause-any_log
returns-in_err-of_volume-clause-any_log g c honest = untouched (LogStandsFor c.args.geometry.now (size (g.L.Disk.history c.args.log.now)) []) (g.L.Disk.history c.args.log.now)

pub returns-in_err-of_volume-clause-any_volume : goal.returns-in_err-of_volume-clause-any_volume
returns-in_err-of_volume-clause-any_volume g c honest = untouched (IsEmptyVolume c.args.geometry.now (size (g.V.Disk.history c.args.volume.now))) (g.V.Disk.history c.args.volume.now)

pub returns-in-Some-clause-any_moment : goal.returns-in-Some-clause-any_moment
returns-in-Some-clause-any_moment g c of_log of_volume = at_first c.args.geometry.now (both (g.L.Disk.history c.args.log.now) (g.V.Disk.history c.args.volume.now))

pub returns-in_err-of_log-clause-any_moment : goal.returns-in_err-of_log-clause-any_moment
returns-in_err-of_log-clause-any_moment g c of_log of_volume = at_first c.args.geometry.now (both (g.L.Disk.history c.args.log.now) (g.V.Disk.history c.args.volume.now))

pub returns-in_err-of_volume-clause-any_moment : goal.returns-in_err-of_volume-clause-any_moment
returns-in_err-of_volume-clause-any_moment g c of_log of_volume = at_first c.args.geometry.now (both (g.L.Disk.history c.args.log.now) (g.V.Disk.history c.args.volume.now))
