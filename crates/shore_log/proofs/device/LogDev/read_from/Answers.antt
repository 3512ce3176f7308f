use Rattle.std.proofs.Common.{[], append-nil, refl, sym, ◌∙◌}
use Rattle.shore_log.specs.Settled.{records_of_log}
use Rattle.shore_log.proofs.ForceLemmas.{keeps_frames}
use Rattle.shore_log.proofs.device.LogDev.read_from.Goals as goal

pub returns-in_err-read-clause-frames : goal.returns-in_err-read-clause-frames
returns-in_err-read-clause-frames g c = keeps_frames c.args.self.now _ c.read_stream.ensures.honest c.read_stream.ensures.same refl refl refl refl refl refl [] (sym (append-nil (records_of_log c.args.self.now)))

pub returns-clause-frames : goal.returns-clause-frames
returns-clause-frames g c = keeps_frames c.args.self.now _ c.read_stream.ensures.honest c.read_stream.ensures.same refl refl refl refl refl refl [] (sym (append-nil (records_of_log c.args.self.now)))

pub returns-clause-found : goal.returns-clause-found
returns-clause-found g c honest = let found = c.in_ok-read.ensures.found honest in (found.0, found.1, found.2.records)

pub returns-clause-only : goal.returns-clause-only
returns-clause-only g c honest rs gives = (c.in_ok-read.ensures.only honest gives.0 gives.1).records ∙ sym gives.2
