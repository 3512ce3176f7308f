use Rattle.std.proofs.Common.{inr, sum, take, arith}
use Rattle.shore_disk.specs.Device.{seen, size}
use Rattle.shore_gate.proofs.CauseLemmas.{no_failure}
use Rattle.shore_gate.proofs.LabelLemmas.{length_bounds, verdict_short, decoded_device}
use Rattle.shore_gate.proofs.labels.read_label.Goals as goal

pub returns-then-len-lt-LEAST_DEVICE_BYTES-clause-refused : goal.returns-then-len-lt-LEAST_DEVICE_BYTES-clause-refused
returns-then-len-lt-LEAST_DEVICE_BYTES-clause-refused g c honest =
    let history = g.D.Disk.history c.args.disk.now in
    inr (verdict_short c.args.device (size history) (take 512 (seen history)) (omega arith))

pub returns-then-len-lt-LEAST_DEVICE_BYTES-clause-only : goal.returns-then-len-lt-LEAST_DEVICE_BYTES-clause-only
returns-then-len-lt-LEAST_DEVICE_BYTES-clause-only g c label honest has =
    let history = g.D.Disk.history c.args.disk.now in
    let bounds = length_bounds label.version c.args.device (sum label.stores) (size history) has.limits.most_pages has.limits.as_long in
    absurd (omega (arith, bounds.0))

pub returns-clause-cause : goal.returns-clause-cause
returns-clause-cause g c =
    no_failure c.decode_label.result _ _ (decoded_device c.args.device c.len-len.result c.read_at.new.out c.decode_label.result c.decode_label.ensures.refused) c.in_ok-read_at.ensures.cause
