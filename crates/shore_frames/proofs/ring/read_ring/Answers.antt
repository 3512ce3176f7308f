use Rattle.std.proofs.Common.{◌≡◌, ◌+◌, ◌-◌, ◌%◌, ◌<◌, ◌++◌, List, ℕ, IsTrue, length, take, drop, sym, ap, subst, ◌∙◌, arith, mod-lt}
use Rattle.shore_disk.specs.Device.{DeviceHistory, seen}
use Rattle.shore_frames.specs.Places.{from_place, stream_of}
use Rattle.shore_frames.proofs.LoggedLemmas.{on_ok}
use Rattle.shore_frames.proofs.RingReads.{one_read, two_reads}
use Rattle.shore_frames.proofs.ring.read_ring.Goals as goal

pub returns-then-out-before-clause-read : goal.returns-then-out-before-clause-read
returns-then-out-before-clause-read g c honest =
    let S = c.args.stream_bytes in
    let place = c.args.place in
    let image = seen (g.D.Disk.history c.args.device.now) in
    let n = length c.args.out.now in
    let lt : place % S < S = mod-lt place c.requires.some in
    let long : length image ≡ 4096 + S = omega (arith, g.met.D.Disk.keeps_length c.args.device.now honest, c.requires.size) in
    on_ok c.read_at.result (c.read_at.new.out ≡ take n (drop (4096 + place % S) image)) (c.read_at.new.out ≡ take n (from_place place (stream_of image)))
    (λ e. e ∙ one_read image S place long c.requires.some n (omega (arith, c.if-out-before.true))) (c.read_at.ensures.read honest)

pub returns-clause-read : goal.returns-clause-read
returns-clause-read g c honest =
    let S = c.args.stream_bytes in
    let place = c.args.place in
    let old = g.D.Disk.history c.args.device.now in
    let mid = g.D.Disk.history c.read_at-2.new.self in
    let image = seen old in
    let n = length c.args.out.now in
    let lt : place % S < S = mod-lt place c.requires.some in
    let long : length image ≡ 4096 + S = omega (arith, g.met.D.Disk.keeps_length c.args.device.now honest, c.requires.size) in
    let m : length c.split_at_mut-first.result.0.now ≡ S - place % S = omega (arith, c.split_at_mut-first.ensures.front_len) in
    let k : length c.split_at_mut-first.result.1.now ≡ n - (S - place % S) = omega (arith, c.split_at_mut-first.ensures.back_len) in
    let all : S - place % S + (n - (S - place % S)) ≡ n = omega (arith, c.if-out-before.false) in
    let first : c.read_at-2.new.out ≡ take (S - place % S) (drop (4096 + place % S) image) =
    c.in_ok-read_at.ensures.read honest ∙ ap (λ j. take j (drop (4096 + place % S) image)) m in
    on_ok c.read_at-3.result (c.read_at-3.new.out ≡ take (length c.split_at_mut-first.result.1.now) (drop 4096 (seen mid))) (c.read_at-2.new.out ++ c.read_at-3.new.out ≡ take n (from_place place (stream_of image)))
    (λ e.
    let second : c.read_at-3.new.out ≡ take (n - (S - place % S)) (drop 4096 image) =
    e ∙ ap (λ j. take j (drop 4096 (seen mid))) k ∙ ap (λ (h : DeviceHistory). take (n - (S - place % S)) (drop 4096 (seen h))) (c.read_at-2.ensures.same honest) in
    ap (λ (l : List ℕ). l ++ c.read_at-3.new.out) first ∙ ap (λ (l : List ℕ). take (S - place % S) (drop (4096 + place % S) image) ++ l) second
    ∙ two_reads image S place long c.requires.some (n - (S - place % S)) (omega (arith, c.requires.fits))
    ∙ ap (λ j. take j (from_place place (stream_of image))) all)
    (c.read_at-3.ensures.read (subst IsTrue (sym c.read_at-2.ensures.honest) honest))
