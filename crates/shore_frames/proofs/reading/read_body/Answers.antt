use Rattle.std.proofs.Common.{◌≡◌, ◌+◌, ◌++◌, Bool, IsTrue, length, drop, sym, subst, arith}
use Rattle.shore_disk.specs.Device.{DeviceHistory, seen}
use Rattle.shore_frames.specs.Streams.{view_of}
use Rattle.shore_frames.proofs.OffsetLemmas.{piece, head_fits, none_short, body_is}
use Rattle.shore_frames.proofs.ReadLemmas.{not_both}
use Rattle.shore_frames.proofs.RingReads.{view_long}
use Rattle.shore_frames.proofs.reading.read_body.Goals as goal

pub returns-in_default-clause-none : goal.returns-in_default-clause-none
returns-in_default-clause-none g c honest none group rest is some stands =
    let view = c.args.view.now in
    let image = seen (g.D.Disk.history c.args.device.now) in
    let long : length image ≡ 4096 + view.stream_bytes = omega (arith, g.met.D.Disk.keeps_length c.args.device.now honest, c.requires.size) in
    let same = view_long image view.stream_bytes view.place long view.some in
    none_short (view_of view (g.D.Disk.history c.args.device.now)) c.args.at view.stream_bytes c.args.number group rest (omega (arith, same)) (c.in_ok-head.ensures.none (cc c.in_default.is)) stands

pub returns-then-not-fits-clause-none : goal.returns-then-not-fits-clause-none
returns-then-not-fits-clause-none g c honest none group rest is some stands =
    let view = c.args.view.now in
    let image = seen (g.D.Disk.history c.args.device.now) in
    let long : length image ≡ 4096 + view.stream_bytes = omega (arith, g.met.D.Disk.keeps_length c.args.device.now honest, c.requires.size) in
    let same = view_long image view.stream_bytes view.place long view.some in
    let h = c.in-Some.head in
    let head = rw c.in-Some.is at (c.in_ok-head.ensures.head honest) in
    let facts = head_fits (view_of view (g.D.Disk.history c.args.device.now)) c.args.at view.stream_bytes h.len h.first c.args.number group rest (omega (arith, same)) (omega arith) (omega arith) (omega arith) head is some stands in
    not_both c.fits.result (c.fits.ensures.1 (facts.0, facts.1, facts.2, omega (arith, facts.3))) c.if-not-fits.true

pub returns-clause-body : goal.returns-clause-body
returns-clause-body g c honest =
    let view = λ (k : DeviceHistory). view_of c.args.view.now k in
    let h = c.in-Some.head in
    let body = c.in_ok-body.body.items in
    let head = rw c.in-Some.is at (c.in_ok-head.ensures.head honest) in
    let facts = c.fits.ensures.0 c.if-not-fits.false in
    let read = c.in_ok-body.ensures.read (subst (λ (b : Bool). IsTrue b) (sym c.read_head.ensures.honest) honest) in
    let there = subst (λ (k : DeviceHistory). drop (c.args.at + 13) (view k) ≡ body ++ drop (c.args.at + 13 + length body) (view k)) (c.read_head.ensures.same honest)
    (piece (view (g.D.Disk.history c.read_head.new.device)) body (c.args.at + 1 + 12) h.len (c.args.at + 13) (c.args.at + 13 + length body) read (omega arith) (omega (arith, c.in_ok-body.ensures.len))) in
    body_is (view (g.D.Disk.history c.args.device.now)) body c.args.at h.len h.first c.args.number head facts.0 c.in_ok-body.ensures.len there
