use Rattle.std.proofs.Common.{◌≡◌, ◌+◌, length, take, drop, ◌∙◌, arith}
use Rattle.shore_disk.specs.Device.{seen}
use Rattle.shore_frames.specs.Places.{from_place, stream_of}
use Rattle.shore_frames.proofs.LoggedLemmas.{on_ok}
use Rattle.shore_frames.proofs.RingReads.{read_further, stream_long}
use Rattle.shore_frames.proofs.view.View.read.Goals as goal

pub returns-clause-read : goal.returns-clause-read
returns-clause-read g c honest =
    let view = c.args.self.now in
    let image = seen (g.D.Disk.history c.args.device.now) in
    let n = length c.args.out.now in
    let image_long : length image ≡ 4096 + view.stream_bytes = omega (arith, g.met.D.Disk.keeps_length c.args.device.now honest, c.requires.size) in
    let long = stream_long image view.stream_bytes view.place image_long view.some in
    on_ok c.read_ring.result (c.read_ring.new.out ≡ take n (from_place (view.place + c.args.at) (stream_of image))) (c.read_ring.new.out ≡ take n (drop c.args.at (from_place view.place (stream_of image))))
    (λ e. e ∙ read_further (stream_of image) view.place c.args.at n (omega (arith, long, view.some)) (omega (arith, long, c.requires.inside)))
    (c.read_ring.ensures.read honest)
