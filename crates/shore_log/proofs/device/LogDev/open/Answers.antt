use Rattle.std.proofs.Common.{Bool, false, IsTrue, ◌≡◌, ◌≤◌, ◌+◌, ◌*◌, [], ◌∷◌, ◌++◌, List, ℕ, length, take, refl, subst, sym, ◌∙◌, ap, arith, length-drop}
use Rattle.std.proofs.lemmas.List.{length-take-le, take_all}
use Rattle.std.proofs.lemmas.Bool.{true≢false}
use Rattle.shore_disk.specs.declared.device.Disk.{Ghosts}
use Rattle.shore_frames.specs.Offsets.{IsBadAt}
use Rattle.shore_gate.specs.Anchor.{MayCount, may_count}
use Rattle.shore_gate.specs.declared.anchors.Anchor.{Anchor}
use Rattle.shore_log.specs.Settled.{IsSettledFrom}
use Rattle.shore_log.specs.declared.device.LogDev.{LogDev}
use Rattle.shore_gate.proofs.AnchorLemmas.{limits_of, test_of}
use Rattle.std.specs.Global.{Vec}
use Rattle.shore_disk.specs.Device.{DeviceHistory, Stands, seen}
use Rattle.shore_frames.specs.declared.reading.FrameAt.{FrameAt}
use Rattle.shore_frames.specs.Frames.{AreNumbered, Frames}
use Rattle.shore_frames.specs.Places.{from_place, stream_of}
use Rattle.shore_model.specs.declared.log_records.LogRecord.{LogRecord}
use Rattle.shore_frames.specs.LoggedRecords.{are_numbered}
use Rattle.shore_frames.proofs.FrameLemmas.{number_behind-joined}
use Rattle.shore_frames.proofs.LoggedLemmas.{test-AreNumbered}
use Rattle.shore_frames.proofs.ReadLemmas.{joined_numbered, not_both}
use Rattle.shore_frames.proofs.StreamLemmas.{frames_some}
use Rattle.shore_frames.proofs.Turns.{length-from_place}
use Rattle.shore_log.specs.Indexes.{are_listed, first_in, place_in}
use Rattle.shore_frames.specs.Frames.{joined, number_behind}
use Rattle.shore_log.specs.Listed.{all_in}
use Rattle.shore_log.proofs.CutLemmas.{text_long, index_first, index_listed, index_place, listed_test}
use Rattle.shore_log.proofs.ForceLemmas.{settled_from, unwrap}
use Rattle.shore_log.proofs.MoveLemmas.{counts_front}
use Rattle.shore_log.proofs.TextLemmas.{all_found}
use Rattle.shore_log.proofs.device.LogDev.open.Goals as goal

settled_at : {D : Type 0} {G : Ghosts D} (log : LogDev D G) (t u : FrameAt) (front : List ℕ) → t ≡ u → IsSettledFrom t.first t.place log front → IsSettledFrom u.first u.place log front
settled_at log t u front same s = subst (λ (x : FrameAt). IsSettledFrom x.first x.place log front) same s

not_counted : (b : Bool) (a : Anchor) → MayCount a → b ≡ may_count a → b ≡ false → ⊥
not_counted b a limits is shut = absurd (true≢false (sym (test_of a limits) ∙ sym is ∙ shut))

pub invariant_of-result : goal.invariant_of-result
invariant_of-result g c =
    let found = c.in-Ok.field-0 in
    let a = c.args.anchors.anchor in
    let t = c.tail_of-tail.result in
    let first : t.first ≡ a.tail = ap (λ (x : FrameAt). x.first) c.tail_of-tail.ensures in
    let placed : t.place ≡ a.tail_place = ap (λ (x : FrameAt). x.place) c.tail_of-tail.ensures in
    let limits = limits_of a (sym c.may_count.ensures ∙ c.if-not-may_count.false) in
    let gs = c.in-Ok.ensures.groups.0 in
    let s = c.in-Ok.ensures.groups.1 in
    let end = s.end in
    let count = ap length s.records in
    let some = limits.some_tail in
    let place = limits.offset in
    let near : t.place + 65549 ≤ 65549 * t.first = omega (arith, some, place, first, placed) in
    let next = t.first + c.len-count.result in
    let all : all_in c.and-found.result.items c.new-later.result.items ≡ found.records.items =
    all_found c.and-found.result.items c.new-later.result.items c.in-Ok.field-0.records _ (c.and-found.ensures ∙ ap (λ l. l ++ (c.in-Ok.field-0.records, tt) ∷ []) c.new.ensures) c.new-later.ensures in
    let numbered = test-AreNumbered t.first found.records.items (subst (λ rs. AreNumbered t.first rs) (sym s.records) (joined_numbered t.first gs s.are)) in
    let next_is : next ≡ t.first + length (joined gs) = omega (arith, count) in
    record {
      numbered = subst (λ (l : List LogRecord). IsTrue (are_numbered t.first l)) (sym all) numbered;
      counted = omega (arith, ap length all);
      gone_below = omega (arith, some, first);
      few = omega arith;
      held = λ v is. let same = unwrap is in (ap (λ (x : Vec LogRecord). x.items) (sym same) ∙ sym all, c.new-bytes.ensures.items);
      little = omega arith;
      spelled = λ none. absurd cc;
      some = omega arith;
      is_short = omega arith;
      as_long = omega (arith, c.read_stream.ensures.size, c.len-device_bytes.ensures);
      forced_inside = omega (arith, ap length all);
      anchored = (sym first, sym placed);
      sequence = limits.most_sequence;
      tail_number = omega (arith, limits.most_tail, first);
      tail_place = near;
      listed = subst (λ (fs : List FrameAt). IsTrue (are_listed found.end next fs)) (sym s.frames)
          (listed_test found.end next _ (index_listed t.first t.place found.end next gs s.are end next_is near));
      begins = (
        sym (index_first t.first t.place found.end next gs next_is) ∙ ap (first_in next) (sym s.frames),
        sym (index_place t.first t.place found.end gs end) ∙ ap (place_in found.end) (sym s.frames),
      );
      rises = omega (arith, end);
      head_inside = omega (arith, c.in-Ok.ensures.end);
      places = omega (arith, end, count, near, text_long t.first gs s.are);
      staged_inside = λ s is. absurd cc;
      staged_waits = λ s is. absurd cc;
      staged_long = λ s is. absurd cc;
      staged_short = λ s is. absurd cc;
      staged_some = λ s is. absurd cc;
      room = (c.in-Some.ensures, λ none. absurd cc);
      staged_listed = λ s is. absurd cc;
    }

pub returns-in-Ok-clause-settled : goal.returns-in-Ok-clause-settled
returns-in-Ok-clause-settled g c honest image stands =
    let a = c.args.anchors.anchor in
    let t = c.tail_of-tail.result in
    let same = c.tail_of-tail.ensures in
    let limits = limits_of a (sym c.may_count.ensures ∙ c.if-not-may_count.false) in
    let first : t.first ≡ a.tail = ap (λ (x : FrameAt). x.first) same in
    let placed : t.place ≡ a.tail_place = ap (λ (x : FrameAt). x.place) same in
    let found = c.in-Ok.ensures.found honest in
    let s = found.2 in
    let frames : Frames t.first (from_place t.place (stream_of image)) found.0 = subst (λ (l : List ℕ). Frames t.first (from_place t.place (stream_of l)) found.0) stands.read found.1 in
    let all : all_in c.and-found.result.items c.new-later.result.items ≡ c.in-Ok.field-0.records.items =
    all_found c.and-found.result.items c.new-later.result.items c.in-Ok.field-0.records _ (c.and-found.ensures ∙ ap (λ l. l ++ (c.in-Ok.field-0.records, tt) ∷ []) c.new.ensures) c.new-later.ensures in
    let some : 1 ≤ t.first = omega (arith, limits.some_tail, first) in
    let number : t.first + c.len-count.result ≡ number_behind t.first found.0 = omega (arith, number_behind-joined t.first found.0, ap length s.records) in
    let every = take_all c.len-count.result (all_in c.and-found.result.items c.new-later.result.items) (omega (arith, ap length all)) in
    settled_at _ t (record { first = a.tail; place = a.tail_place }) (take 4096 image) same (settled_from t.first t.place _ image found.0
    (subst (λ (h : DeviceHistory). Stands h image) (sym (c.read_stream.ensures.same honest)) stands) frames
    (record {
      honest = subst (λ (b : Bool). IsTrue b) (sym c.read_stream.ensures.honest) honest;
      some = some;
      first = refl;
      place_is = refl;
      forced = every ∙ all ∙ s.records;
      number = number;
      head = s.end;
      index = s.frames;
    }))

pub returns-in-Ok-clause-anchored : goal.returns-in-Ok-clause-anchored
returns-in-Ok-clause-anchored g c honest image stands counts =
    record {
      long = length-take-le 4096 image (omega (arith, g.met.D.Disk.keeps_length c.args.device honest, ap length stands.read, c.len-device_bytes.ensures));
      counts = counts_front c.args.anchors.slot c.args.anchors.anchor image (take 4096 image) refl counts;
    }

pub returns-then-not-may_count-clause-undamaged : goal.returns-then-not-may_count-clause-undamaged
returns-then-not-may_count-clause-undamaged g c honest short limits =
    absurd (not_counted c.may_count.result c.args.anchors.anchor limits c.may_count.ensures c.if-not-may_count.true)

pub returns-then-not-may_count-clause-damaged : goal.returns-then-not-may_count-clause-damaged
returns-then-not-may_count-clause-damaged g c honest some short limits =
    absurd (not_counted c.may_count.result c.args.anchors.anchor limits c.may_count.ensures c.if-not-may_count.true)

pub returns-in-Ok-clause-found : goal.returns-in-Ok-clause-found
returns-in-Ok-clause-found g c honest =
    let found = c.in-Ok.ensures.found honest in
    let image = seen (g.D.Disk.history c.args.device) in
    let all : all_in c.and-found.result.items c.new-later.result.items ≡ c.in-Ok.field-0.records.items =
    all_found c.and-found.result.items c.new-later.result.items c.in-Ok.field-0.records _ (c.and-found.ensures ∙ ap (λ l. l ++ (c.in-Ok.field-0.records, tt) ∷ []) c.new.ensures) c.new-later.ensures in
    (found.0, subst (λ (x : FrameAt). Frames x.first (from_place x.place (stream_of image)) found.0) c.tail_of-tail.ensures found.1, all ∙ found.2.records)

pub returns-in-Ok-clause-only : goal.returns-in-Ok-clause-only
returns-in-Ok-clause-only g c honest rs gives =
    let image = seen (g.D.Disk.history c.args.device) in
    let all : all_in c.and-found.result.items c.new-later.result.items ≡ c.in-Ok.field-0.records.items =
    all_found c.and-found.result.items c.new-later.result.items c.in-Ok.field-0.records _ (c.and-found.ensures ∙ ap (λ l. l ++ (c.in-Ok.field-0.records, tt) ∷ []) c.new.ensures) c.new-later.ensures in
    all ∙ (c.in-Ok.ensures.only honest gives.0 (subst (λ (x : FrameAt). Frames x.first (from_place x.place (stream_of image)) gives.0) (sym c.tail_of-tail.ensures) gives.1)).records ∙ sym gives.2

pub returns-then-not-has_stream-clause-undamaged : goal.returns-then-not-has_stream-clause-undamaged
returns-then-not-has_stream-clause-undamaged g c honest short limits rs gives =
    let image = seen (g.D.Disk.history c.args.device) in
    let within = g.met.D.Disk.keeps_length c.args.device honest in
    let a = c.args.anchors.anchor in
    let some = frames_some a.tail (from_place a.tail_place (stream_of image)) gives.0 gives.1 in
    let most = length-from_place a.tail_place (stream_of image) in
    not_both c.has_stream.result (c.has_stream.ensures.1 (omega (arith, some, most, length-drop 4096 image, within, c.len-device_bytes.ensures), omega (arith, short, c.len-device_bytes.ensures))) c.if-not-has_stream.true

pub returns-in-Err-clause-undamaged : goal.returns-in-Err-clause-undamaged
returns-in-Err-clause-undamaged g c honest short limits rs gives =
    let image = seen (g.D.Disk.history c.args.device) in
    c.in-Err.ensures.undamaged honest gives.0 (subst (λ (x : FrameAt). Frames x.first (from_place x.place (stream_of image)) gives.0) (sym c.tail_of-tail.ensures) gives.1)

pub returns-in-Err-clause-damaged : goal.returns-in-Err-clause-damaged
returns-in-Err-clause-damaged g c honest some short limits offset is =
    let image = seen (g.D.Disk.history c.args.device) in
    subst (λ (x : FrameAt). IsBadAt x.first x.place image offset) c.tail_of-tail.ensures (c.in-Err.ensures.damaged honest offset (cc is))
