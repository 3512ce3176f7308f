use Rattle.std.proofs.Common.{◌≡◌, ◌+◌, ◌-◌, ◌%◌, ◌≤◌, ◌<◌, ◌++◌, List, ℕ, IsTrue, length, take, sym, ap, subst, ◌∙◌, arith, mod-lt, take-append-drop}
use Rattle.shore_disk.specs.Device.{LeavesOnly, overwritten, seen}
use Rattle.shore_disk.proofs.Moments.{at_end, joined}
use Rattle.shore_frames.specs.Rings.{IsRingWritten, TornRing}
use Rattle.shore_frames.proofs.RingWrites.{at_begin, both_written, first_leaves, image_written, ok_written, one_call, one_leaves, two_leave}
use Rattle.shore_frames.proofs.ring.write_ring.Goals as goal

pub returns-then-bytes-before-clause-written : goal.returns-then-bytes-before-clause-written
returns-then-bytes-before-clause-written g c honest =
    let S = c.args.stream_bytes in
    let place = c.args.place in
    let bytes = c.args.bytes.now in
    let old = g.D.Disk.history c.args.device.now in
    let lt : place % S < S = mod-lt place c.requires.some in
    let long : length (seen old) ≡ 4096 + S = omega (arith, g.met.D.Disk.keeps_length c.args.device.now honest, c.requires.size) in
    let fits : place % S + length bytes ≤ S = omega (arith, c.if-bytes-before.true) in
    ok_written c.write_at.result old _ (4096 + place % S) bytes (IsRingWritten place bytes (seen old)) (c.write_at.ensures.written honest)
    (image_written (seen old) S long c.requires.some bytes place fits)

pub returns-then-bytes-before-clause-two : goal.returns-then-bytes-before-clause-two
returns-then-bytes-before-clause-two g c honest = let first = one_call _ _ _ _ _ (c.write_at.ensures.written honest) in omega (arith, first)

pub returns-in_err-write_at-clause-two : goal.returns-in_err-write_at-clause-two
returns-in_err-write_at-clause-two g c honest = let first = one_call _ _ _ _ _ (c.write_at-2.ensures.written honest) in omega (arith, first)

pub returns-clause-two : goal.returns-clause-two
returns-clause-two g c honest =
    let first = one_call _ _ _ _ _ (c.write_at-2.ensures.written honest) in
    let second = one_call _ _ _ _ _ (c.write_at-3.ensures.written (subst IsTrue (sym c.write_at-2.ensures.honest) honest)) in
    omega (arith, first, second)

pub returns-then-bytes-before-clause-any_moment : goal.returns-then-bytes-before-clause-any_moment
returns-then-bytes-before-clause-any_moment g c honest image stands =
    let S = c.args.stream_bytes in
    let place = c.args.place in
    let bytes = c.args.bytes.now in
    let lt : place % S < S = mod-lt place c.requires.some in
    let long : length image ≡ 4096 + S = omega (arith, g.met.D.Disk.keeps_length c.args.device.now honest, c.requires.size, ap (λ (l : List ℕ). length l) stands.read) in
    let fits : place % S + length bytes ≤ S = omega (arith, c.if-bytes-before.true) in
    one_leaves c.write_at.result _ _ image bytes S place long c.requires.some fits stands.only (c.write_at.ensures.written honest)

pub returns-in_err-write_at-clause-any_moment : goal.returns-in_err-write_at-clause-any_moment
returns-in_err-write_at-clause-any_moment g c honest image stands =
    let S = c.args.stream_bytes in
    let place = c.args.place in
    let bytes = c.args.bytes.now in
    let lt : place % S < S = mod-lt place c.requires.some in
    let long : length image ≡ 4096 + S = omega (arith, g.met.D.Disk.keeps_length c.args.device.now honest, c.requires.size, ap (λ (l : List ℕ). length l) stands.read) in
    let first = c.split_at.result.0.now in
    let first_len : length first ≡ S - place % S = omega (arith, c.split_at.ensures.front_len) in
    let all : length first + (length bytes - (S - place % S)) ≡ length bytes = omega (arith, c.if-bytes-before.false) in
    subst (λ n. LeavesOnly (g.D.Disk.history c.args.device.now) (g.D.Disk.history c.write_at-2.new.self) (TornRing place n image)) all
    (first_leaves image S place (length first) (length bytes - (S - place % S)) long c.requires.some (omega (arith, c.requires.fits)) _ _
    (one_leaves c.write_at-2.result _ _ image first S place long c.requires.some (omega arith) stands.only (c.write_at-2.ensures.written honest)))

pub returns-clause-written : goal.returns-clause-written
returns-clause-written g c honest =
    let S = c.args.stream_bytes in
    let place = c.args.place in
    let bytes = c.args.bytes.now in
    let old = g.D.Disk.history c.args.device.now in
    let mid = g.D.Disk.history c.write_at-2.new.self in
    let lt : place % S < S = mod-lt place c.requires.some in
    let long : length (seen old) ≡ 4096 + S = omega (arith, g.met.D.Disk.keeps_length c.args.device.now honest, c.requires.size) in
    let first = c.split_at.result.0.now in
    let second = c.split_at.result.1.now in
    let first_len : length first ≡ S - place % S = omega (arith, c.split_at.ensures.front_len) in
    let second_len : length second ≡ length bytes - (S - place % S) = omega (arith, c.split_at.ensures.back_len) in
    let whole : first ++ second ≡ bytes = ap (λ (l : List ℕ). l ++ second) c.split_at.ensures.front ∙ ap (λ (l : List ℕ). take (S - place % S) bytes ++ l) c.split_at.ensures.back ∙ take-append-drop (S - place % S) bytes in
    let one : IsRingWritten place first (seen old) (overwritten (seen old) (4096 + place % S) first) = image_written (seen old) S long c.requires.some first place (omega arith) in
    let seen_mid : seen mid ≡ overwritten (seen old) (4096 + place % S) first = ap (λ h. seen h) (c.in_ok-write_at.ensures.written honest) in
    let mid_long : length (seen mid) ≡ 4096 + S = ap (λ (l : List ℕ). length l) seen_mid ∙ one.as_long ∙ long in
    let begin : (place + length first) % S ≡ 0 = ap (λ n. (place + n) % S) first_len ∙ at_begin S place c.requires.some in
    let two : IsRingWritten (place + length first) second (seen mid) (overwritten (seen mid) (4096 + (place + length first) % S) second) =
    image_written (seen mid) S mid_long c.requires.some second (place + length first) (omega (arith, begin, c.requires.fits)) in
    let there : 4096 + (place + length first) % S ≡ 4096 = omega (arith, begin) in
    ok_written c.write_at-3.result mid _ 4096 second (IsRingWritten place bytes (seen old)) (c.write_at-3.ensures.written (subst IsTrue (sym c.write_at-2.ensures.honest) honest))
    (subst (λ b. IsRingWritten place b (seen old) (overwritten (seen mid) 4096 second)) whole
    (both_written (seen old) S long c.requires.some place first second (seen mid) (overwritten (seen mid) 4096 second) (omega (arith, c.requires.fits))
    (subst (IsRingWritten place first (seen old)) (sym seen_mid) one)
    (subst (λ k. IsRingWritten (place + length first) second (seen mid) (overwritten (seen mid) k second)) there two)))

pub returns-clause-any_moment : goal.returns-clause-any_moment
returns-clause-any_moment g c honest image stands =
    let S = c.args.stream_bytes in
    let place = c.args.place in
    let bytes = c.args.bytes.now in
    let lt : place % S < S = mod-lt place c.requires.some in
    let long : length image ≡ 4096 + S = omega (arith, g.met.D.Disk.keeps_length c.args.device.now honest, c.requires.size, ap (λ (l : List ℕ). length l) stands.read) in
    let first = c.split_at.result.0.now in
    let second = c.split_at.result.1.now in
    let first_len : length first ≡ S - place % S = omega (arith, c.split_at.ensures.front_len) in
    let second_len : length second ≡ length bytes - (S - place % S) = omega (arith, c.split_at.ensures.back_len) in
    let all : length first + length second ≡ length bytes = omega (arith, c.if-bytes-before.false) in
    let one = one_leaves c.write_at-2.result _ _ image first S place long c.requires.some (omega arith) stands.only (c.write_at-2.ensures.written honest) in
    let begin : (place + length first) % S ≡ 0 = ap (λ n. (place + n) % S) first_len ∙ at_begin S place c.requires.some in
    subst (λ n. LeavesOnly (g.D.Disk.history c.args.device.now) (g.D.Disk.history c.write_at-3.new.self) (TornRing place n image)) all
    (joined _ _ _ (TornRing place (length first + length second) image)
    (first_leaves image S place (length first) (length second) long c.requires.some (omega (arith, c.requires.fits)) _ _ one)
    (two_leave c.write_at-3.result _ _ image second S place (length first) long c.requires.some begin (omega (arith, c.requires.fits))
    (at_end _ _ (TornRing place (length first) image) one)
    (c.write_at-3.ensures.written (subst IsTrue (sym c.write_at-2.ensures.honest) honest))))
