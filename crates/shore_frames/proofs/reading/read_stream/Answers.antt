use Rattle.std.proofs.Common.{◌≡◌, ◌≤◌, ◌+◌, ◌++◌, ◌∷◌, [], ℕ, Bool, IsTrue, List, length, refl, sym, subst, ap, ◌∙◌, arith, length-append, length-drop}
use Rattle.shore_disk.specs.Device.{DeviceHistory, seen}
use Rattle.shore_model.specs.declared.log_records.LogRecord.{LogRecord}
use Rattle.shore_frames.specs.declared.reading.FrameAt.{FrameAt}
use Rattle.shore_frames.specs.Frames.{IsGroup, number_behind, text}
use Rattle.shore_frames.specs.Offsets.{GateAt, IsFrameAt, HasNoFrame}
use Rattle.shore_frames.specs.Places.{byte_of, from_place, stream_of}
use Rattle.shore_frames.specs.Streams.{IsStreamOf, index_of}
use Rattle.shore_frames.proofs.FrameLemmas.{AreGroups-push, joined-push, length-text-push, number_behind-joined}
use Rattle.shore_frames.proofs.IndexLemmas.{index-push}
use Rattle.shore_frames.proofs.ReadLemmas.{length-texts}
use Rattle.shore_frames.proofs.StreamLemmas.{IsRead, bad_at, begun, ended, ended_only, frame_on, stuck, stuck_only, damaged_at, kept}
use Rattle.shore_frames.proofs.reading.read_stream.Goals as goal

abbrev frame_at : ℕ → ℕ → FrameAt
frame_at first place = record { first = first; place = place }

pub loop-frames-init : goal.loop-frames-init
loop-frames-init g c =
    let view = from_place c.args.place (stream_of (seen (g.D.Disk.history c.args.device.now))) in
    let none = c.new-records.ensures.items in
    let number : c.args.tail ≡ c.args.tail + length c.new-records.result.items = omega (arith, ap length none) in
    record {
      inside = omega arith;
      same = λ honest. refl;
      honest = refl;
      size = refl;
      few = omega (arith, ap length none);
      count = refl;
      read = (
        [],
        record { are = tt; records = none; frames = c.new-frames.ensures.items; end = refl },
        λ honest. subst (λ n. IsRead c.args.tail view [] n 0) number (begun c.args.tail view),
      );
    }

pub returns-in_err-is_gate_open-clause-same : goal.returns-in_err-is_gate_open-clause-same
returns-in_err-is_gate_open-clause-same g c = kept _ _ _ _ _ c.loop-frames.invariant.honest c.is_gate_open.ensures.same c.loop-frames.invariant.same

pub returns-in_err-group-clause-same : goal.returns-in_err-group-clause-same
returns-in_err-group-clause-same g c =
    kept _ _ _ _ _ (c.is_gate_open.ensures.honest ∙ c.loop-frames.invariant.honest) c.read_frame.ensures.same (kept _ _ _ _ _ c.loop-frames.invariant.honest c.is_gate_open.ensures.same c.loop-frames.invariant.same)

pub returns-in_default-clause-same : goal.returns-in_default-clause-same
returns-in_default-clause-same g c =
    kept _ _ _ _ _ (c.is_gate_open.ensures.honest ∙ c.loop-frames.invariant.honest) c.read_frame.ensures.same (kept _ _ _ _ _ c.loop-frames.invariant.honest c.is_gate_open.ensures.same c.loop-frames.invariant.same)

pub returns-in_err-append-clause-same : goal.returns-in_err-append-clause-same
returns-in_err-append-clause-same g c =
    kept _ _ _ _ _ (c.is_gate_open.ensures.honest ∙ c.loop-frames.invariant.honest) c.read_frame.ensures.same (kept _ _ _ _ _ c.loop-frames.invariant.honest c.is_gate_open.ensures.same c.loop-frames.invariant.same)

pub returns-in_err-push-clause-same : goal.returns-in_err-push-clause-same
returns-in_err-push-clause-same g c =
    kept _ _ _ _ _ (c.is_gate_open.ensures.honest ∙ c.loop-frames.invariant.honest) c.read_frame.ensures.same (kept _ _ _ _ _ c.loop-frames.invariant.honest c.is_gate_open.ensures.same c.loop-frames.invariant.same)

pub returns-clause-same : goal.returns-clause-same
returns-clause-same g c = kept _ _ _ _ _ c.loop-frames.invariant.honest c.is_gate_open.ensures.same c.loop-frames.invariant.same

pub returns-in_default-clause-undamaged : goal.returns-in_default-clause-undamaged
returns-in_default-clause-undamaged g c honest gs frames =
    let inv = c.loop-frames.invariant in
    let view = λ (k : DeviceHistory). from_place c.args.place (stream_of (seen k)) in
    let at = c.loop-frames.at in
    let honest_there = subst (λ (b : Bool). IsTrue b) (sym inv.honest) honest in
    let honest_then = subst (λ (b : Bool). IsTrue b) (sym c.is_gate_open.ensures.honest) honest_there in
    let gate = subst (λ (k : DeviceHistory). GateAt (view k) at c.in_ok-is_gate_open.field-0) (inv.same honest) (c.in_ok-is_gate_open.ensures.gate honest_there) in
    let number : c.args.tail + c.len.result ≡ c.args.tail + length c.loop-frames.records.items = omega arith in
    let same = c.is_gate_open.ensures.same honest_there ∙ inv.same honest in
    let none = subst (λ (k : DeviceHistory). HasNoFrame (view k) at (c.args.tail + c.len.result)) same (c.in_ok-group.ensures.none honest_then (cc c.in_default.is)) in
    absurd (stuck_only c.args.tail (view (g.D.Disk.history c.args.device.now)) inv.read.0 (c.args.tail + length c.loop-frames.records.items) at (inv.read.2 honest) c.in_ok-is_gate_open.field-0 gate c.if-branch.true
    (subst (HasNoFrame (view (g.D.Disk.history c.args.device.now)) at) number none) gs frames)

pub returns-in_default-clause-damaged : goal.returns-in_default-clause-damaged
returns-in_default-clause-damaged g c honest offset is =
    let inv = c.loop-frames.invariant in
    let view = λ (k : DeviceHistory). from_place c.args.place (stream_of (seen k)) in
    let image = seen (g.D.Disk.history c.args.device.now) in
    let at = c.loop-frames.at in
    let honest_there = subst (λ (b : Bool). IsTrue b) (sym inv.honest) honest in
    let honest_then = subst (λ (b : Bool). IsTrue b) (sym c.is_gate_open.ensures.honest) honest_there in
    let gate = subst (λ (k : DeviceHistory). GateAt (view k) at c.in_ok-is_gate_open.field-0) (inv.same honest) (c.in_ok-is_gate_open.ensures.gate honest_there) in
    let number : c.args.tail + c.len.result ≡ c.args.tail + length c.loop-frames.records.items = omega arith in
    let same = c.is_gate_open.ensures.same honest_there ∙ inv.same honest in
    let none = subst (λ (k : DeviceHistory). HasNoFrame (view k) at (c.args.tail + c.len.result)) same (c.in_ok-group.ensures.none honest_then (cc c.in_default.is)) in
    let bad = stuck c.args.tail (view (g.D.Disk.history c.args.device.now)) inv.read.0 (c.args.tail + length c.loop-frames.records.items) at (inv.read.2 honest) c.in_ok-is_gate_open.field-0 gate c.if-branch.true
    (subst (HasNoFrame (view (g.D.Disk.history c.args.device.now)) at) number none) in
    let long : length (stream_of image) ≡ c.args.stream_bytes = omega (arith, length-drop 4096 image, g.met.D.Disk.keeps_length c.args.device.now honest, c.requires.size) in
    bad_at c.args.tail c.args.place image inv.read.0 (c.args.tail + length c.loop-frames.records.items) at offset (inv.read.2 honest) bad
    (sym (damaged_at c.damaged.result c.byte_of.result offset c.damaged.ensures is) ∙ c.byte_of.ensures ∙ ap (λ (n : ℕ). byte_of n (c.args.place + at)) (sym long))

pub returns-clause-groups : goal.returns-clause-groups
returns-clause-groups g c = (c.loop-frames.invariant.read.0, c.loop-frames.invariant.read.1)

pub returns-clause-found : goal.returns-clause-found
returns-clause-found g c honest =
    let inv = c.loop-frames.invariant in
    let view = λ (k : DeviceHistory). from_place c.args.place (stream_of (seen k)) in
    let at = c.loop-frames.at in
    let gate = subst (λ (k : DeviceHistory). GateAt (view k) at c.in_ok-is_gate_open.field-0) (inv.same honest) (c.in_ok-is_gate_open.ensures.gate (subst (λ (b : Bool). IsTrue b) (sym inv.honest) honest)) in (
      inv.read.0,
      ended c.args.tail (view (g.D.Disk.history c.args.device.now)) inv.read.0 (c.args.tail + length c.loop-frames.records.items) at (inv.read.2 honest) c.in_ok-is_gate_open.field-0 gate c.if-branch.false,
      inv.read.1,
    )

pub returns-clause-only : goal.returns-clause-only
returns-clause-only g c honest gs frames =
    let inv = c.loop-frames.invariant in
    let view = λ (k : DeviceHistory). from_place c.args.place (stream_of (seen k)) in
    let at = c.loop-frames.at in
    let gate = subst (λ (k : DeviceHistory). GateAt (view k) at c.in_ok-is_gate_open.field-0) (inv.same honest) (c.in_ok-is_gate_open.ensures.gate (subst (λ (b : Bool). IsTrue b) (sym inv.honest) honest)) in
    let same = ended_only c.args.tail (view (g.D.Disk.history c.args.device.now)) inv.read.0 (c.args.tail + length c.loop-frames.records.items) at (inv.read.2 honest) c.in_ok-is_gate_open.field-0 gate c.if-branch.false gs frames in
    subst (λ (hs : List (List LogRecord)). IsStreamOf c.args.tail c.args.place hs (record { records = c.loop-frames.records; frames = c.loop-frames.frames; end = c.args.place + at })) same inv.read.1

pub loop-frames-preserved : goal.loop-frames-preserved
loop-frames-preserved g c =
    let inv = c.loop-frames.invariant in
    let old = c.loop-frames.records.items in
    let front = inv.read.0 in
    let stream = inv.read.1 in
    let group = c.in-Some.group.items in
    let tail = c.args.tail in
    let place = c.args.place in
    let view = λ (k : DeviceHistory). from_place place (stream_of (seen k)) in
    let at = c.loop-frames.at in
    let all : c.append.new.self.items ≡ old ++ group = c.in_ok-append.ensures.items in
    let found = rw c.in-Some.is at c.in_ok-group.ensures.group in
    let inside = rw c.in-Some.is at c.in_ok-group.ensures.inside in
    let number : tail + c.len.result ≡ tail + length old = omega arith in
    let is_group : IsGroup (tail + length old) group = subst (λ n. IsGroup n group) number found.0 in
    let few : length group ≤ c.in-Some.len = omega (arith, found.1, length-texts group) in
    let long : length c.append.new.self.items ≡ length old + length group = ap length all ∙ length-append old group in
    let behind : tail + length old ≡ number_behind tail front = omega (arith, number_behind-joined tail front, ap length stream.records) in
    let here : at ≡ length (text tail front) = let e = stream.end in omega (arith, e) in
    let entry : frame_at (tail + c.len.result) (place + at) ≡ frame_at (number_behind tail front) (place + length (text tail front)) =
    ap (λ (n : ℕ). frame_at n (place + at)) (number ∙ behind) ∙ ap (λ (k : ℕ). frame_at (number_behind tail front) (place + k)) here in
    record {
      inside = omega (arith, inside);
      same = kept _ _ _ _ _ (c.is_gate_open.ensures.honest ∙ inv.honest) c.read_frame.ensures.same (kept _ _ _ _ _ inv.honest c.is_gate_open.ensures.same inv.same);
      honest = c.read_frame.ensures.honest ∙ c.is_gate_open.ensures.honest ∙ inv.honest;
      size = c.read_frame.ensures.size ∙ c.is_gate_open.ensures.size ∙ inv.size;
      few = omega (arith, long, few, inv.few);
      count = c.in_ok-group.ensures.cause.unreported (λ e. cc) ∙ c.in_ok-is_gate_open.ensures.cause.unreported (λ e. cc) ∙ inv.count;
      read = (
        front ++ group ∷ [],
        record {
          are = AreGroups-push tail front group stream.are (subst (λ n. IsGroup n group) behind is_group);
          records = all ∙ ap (λ (l : List LogRecord). l ++ group) stream.records ∙ sym (joined-push front group);
          frames =
              c.in_ok-push.ensures.items ∙ ap (λ (l : List FrameAt). l ++ frame_at (tail + c.len.result) (place + at) ∷ []) stream.frames
              ∙ ap (λ (f : FrameAt). index_of tail place front ++ f ∷ []) entry ∙ sym (index-push tail place front group);
          end = let e = length-text-push tail front group in omega (arith, here, e, found.1);
        },
        λ honest.
            let honest_there = subst (λ (b : Bool). IsTrue b) (sym inv.honest) honest in
            let honest_then = subst (λ (b : Bool). IsTrue b) (sym c.is_gate_open.ensures.honest) honest_there in
            let gate = subst (λ (k : DeviceHistory). GateAt (view k) at c.in_ok-is_gate_open.field-0) (inv.same honest) (c.in_ok-is_gate_open.ensures.gate honest_there) in
            let frame = subst (λ (k : DeviceHistory). IsFrameAt (view k) at (tail + c.len.result) group) (c.is_gate_open.ensures.same honest_there ∙ inv.same honest) (rw c.in-Some.is at (c.in_ok-group.ensures.frame honest_then)) in
            let seen_now = view (g.D.Disk.history c.args.device.now) in
            frame_on tail seen_now front (tail + length old) at (inv.read.2 honest) c.in_ok-is_gate_open.field-0 gate c.if-branch.true _ _ group (omega arith) is_group (subst (λ n. IsFrameAt seen_now at n group) number frame) (omega (arith, long)) (omega (arith, found.1)),
      );
    }
