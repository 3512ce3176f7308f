use Rattle.std.proofs.Common.{◌≡◌, ◌+◌, ◌%◌, ◌≤◌, ◌<◌, List, ℕ, IsTrue, [], ◌∷◌, length, sym, ap, subst, ◌∙◌, arith, mod-lt}
use Rattle.shore_disk.specs.Device.{Writes, noted, seen, wrote}
use Rattle.shore_disk.proofs.Moments.{at_end, joined, sync_leaves}
use Rattle.shore_frames.specs.Rings.{TornBoth, TornRing}
use Rattle.shore_frames.proofs.RingWrites.{both_stand, first_of_both, gate_leaves}
use Rattle.shore_frames.proofs.ring.write_both_synced.Goals as goal

pub write_at-requires : goal.write_at-requires
write_at-requires g c =
    let lt : c.args.gate_place % c.args.stream_bytes < c.args.stream_bytes = mod-lt c.args.gate_place c.requires.some in
    omega (arith, lt, c.byte_of.ensures, c.write_ring.ensures.size, c.requires.size)

pub returns-in_err-write_ring-clause-any_moment : goal.returns-in_err-write_ring-clause-any_moment
returns-in_err-write_ring-clause-any_moment g c honest image stands =
    let long : length image ≡ 4096 + c.args.stream_bytes = omega (arith, g.met.D.Disk.keeps_length c.args.device.now honest, c.requires.size, ap (λ (l : List ℕ). length l) stands.read) in
    first_of_both image c.args.stream_bytes c.args.place (length c.args.bytes.now) c.args.gate_place long c.requires.some _ _ (c.write_ring.ensures.any_moment honest image stands)

pub returns-in_err-write_at-clause-any_moment : goal.returns-in_err-write_at-clause-any_moment
returns-in_err-write_at-clause-any_moment g c honest image stands =
    let S = c.args.stream_bytes in
    let n = length c.args.bytes.now in
    let long : length image ≡ 4096 + S = omega (arith, g.met.D.Disk.keeps_length c.args.device.now honest, c.requires.size, ap (λ (l : List ℕ). length l) stands.read) in
    let P = TornBoth c.args.place n c.args.gate_place image in
    let write = c.write_ring.ensures.any_moment honest image stands in
    let still = subst IsTrue (sym c.write_ring.ensures.honest) honest in
    let gated = subst (λ k. Writes k (c.args.gate ∷ []) c.write_at.result (g.D.Disk.history c.write_ring.new.device) (g.D.Disk.history c.write_at.new.self)) c.byte_of.ensures (c.write_at.ensures.written still) in
    joined _ _ _ P (first_of_both image S c.args.place n c.args.gate_place long c.requires.some _ _ write)
    (gate_leaves c.write_at.result _ _ image S c.args.place n c.args.gate_place c.args.gate long c.requires.some (at_end _ _ (TornRing c.args.place n image) write) gated)

pub returns-clause-any_moment : goal.returns-clause-any_moment
returns-clause-any_moment g c honest image stands =
    let S = c.args.stream_bytes in
    let n = length c.args.bytes.now in
    let long : length image ≡ 4096 + S = omega (arith, g.met.D.Disk.keeps_length c.args.device.now honest, c.requires.size, ap (λ (l : List ℕ). length l) stands.read) in
    let P = TornBoth c.args.place n c.args.gate_place image in
    let write = c.write_ring.ensures.any_moment honest image stands in
    let still = subst IsTrue (sym c.write_ring.ensures.honest) honest in
    let last = subst IsTrue (sym c.write_at.ensures.honest) still in
    let gated = subst (λ k. Writes k (c.args.gate ∷ []) c.write_at.result (g.D.Disk.history c.write_ring.new.device) (g.D.Disk.history c.write_at.new.self)) c.byte_of.ensures (c.write_at.ensures.written still) in
    let both = joined _ _ _ P (first_of_both image S c.args.place n c.args.gate_place long c.requires.some _ _ write)
    (gate_leaves c.write_at.result _ _ image S c.args.place n c.args.gate_place c.args.gate long c.requires.some (at_end _ _ (TornRing c.args.place n image) write) gated) in
    joined _ _ _ P both (sync_leaves c.sync.result _ _ P (c.sync.ensures.synced last) (at_end _ _ P both))

pub returns-clause-stable : goal.returns-clause-stable
returns-clause-stable g c honest =
    let S = c.args.stream_bytes in
    let long : length (seen (g.D.Disk.history c.args.device.now)) ≡ 4096 + S = omega (arith, g.met.D.Disk.keeps_length c.args.device.now honest, c.requires.size) in
    let still = subst IsTrue (sym c.write_ring.ensures.honest) honest in
    let last = subst IsTrue (sym c.write_at.ensures.honest) still in
    let gated = subst (λ k. g.D.Disk.history c.write_at.new.self ≡ noted (g.D.Disk.history c.write_ring.new.device) (wrote k (c.args.gate ∷ []))) c.byte_of.ensures (c.in_ok-write_at.ensures.written still) in
    both_stand c.sync.result (g.D.Disk.history c.args.device.now) (g.D.Disk.history c.write_ring.new.device) (g.D.Disk.history c.write_at.new.self) (g.D.Disk.history c.sync.new.self) S c.args.place c.args.gate_place c.args.gate c.args.bytes.now long c.requires.some
    (c.in_ok-write_ring.ensures.written honest) gated (c.sync.ensures.synced last)
