-- What a crash leaves of the log device in each of the two steps of a force.
use Rattle.std.proofs.Common.{◌≡◌, ◌≤◌, ◌<◌, ◌+◌, ◌-◌, IsTrue, ℕ, List, [], ◌∷◌, ◌++◌, None, Some, refl, sym, ap, subst, ◌∙◌, length, take, drop, arith, append_assoc, drop-drop, length-append, length-drop}
use Rattle.std.specs.Prelude.{All}
use Rattle.std.specs.Global.{Vec}
use Rattle.std.proofs.lemmas.List.{drop-append-le, length-take, length-take-le, take-append-le}
use Rattle.std.proofs.lemmas.List.Elements.{All-drop}
use Rattle.shore_disk.specs.Device.{Stands, may_leave}
use Rattle.shore_disk.specs.declared.device.Disk.{Ghosts}
use Rattle.shore_gate.specs.declared.gates.TheConstants.{OPEN}
use Rattle.shore_model.specs.declared.log_records.LogRecord.{LogRecord}
use Rattle.shore_logrec.specs.Text.{Fits, texts}
use Rattle.shore_frames.specs.declared.reading.FrameAt.{FrameAt}
use Rattle.shore_frames.specs.Frames.{AreNumbered, Frames, GivesBehindFrom, GivesFrom, GivesWithOrWithoutFrom, IsGroup, IsLongest, behind_gate, joined, number_behind, text}
use Rattle.shore_frames.specs.Places.{from_place, stream_of}
use Rattle.shore_frames.specs.Rings.{IsRingWritten, TornBoth, TornRing}
use Rattle.shore_frames.specs.Streams.{index_of}
use Rattle.shore_frames.proofs.FrameLemmas.{AreGroups-front, AreGroups-push, joined-push, length-behind_gate, length-text-push, number_behind-joined, parts_of}
use Rattle.shore_frames.proofs.IndexLemmas.{index-push}
use Rattle.shore_frames.proofs.LoggedLemmas.{AreNumbered-drop, AreNumbered-fit, AreNumbered-test, IsGroup-longest, take-more_group}
use Rattle.shore_frames.proofs.RingFrames.{behind_gate_written, both_seen, both_torn, open_torn, ring_gives, ring_opened, ring_some, stage_torn}
use Rattle.shore_log.specs.Settled.{HoldsFrom, IsSettledFrom, IsStagedFrom, KeepsFrames, stable, waiting, records_of_log}
use Rattle.shore_log.specs.Listed.{all_in}
use Rattle.shore_log.proofs.TextLemmas.{rest_is, spelled_behind}
use Rattle.shore_log.specs.declared.device.LogDev.{LogDev}

pub unwrap : {A : Type 0} {x y : A} → Some x ≡ Some y → x ≡ y
unwrap e = cc

-- what waits has texts
pub waiting_fit : {D : Type 0} {G : Ghosts D} (log : LogDev D G) → All Fits (waiting log)
waiting_fit log =
    AreNumbered-fit (log.tail.first + log.forced) (waiting log) (AreNumbered-drop log.tail.first log.forced (records_of_log log) log.forced_inside (AreNumbered-test log.tail.first (records_of_log log) log.numbered))

pub kept_fit : {D : Type 0} {G : Ghosts D} (log : LogDev D G) → All Fits (records_of_log log)
kept_fit log = AreNumbered-fit log.tail.first (records_of_log log) (AreNumbered-test log.tail.first (records_of_log log) log.numbered)

-- where all are in memory: what is kept of them, and what waits
pub kept_read : {D : Type 0} {G : Ghosts D} (log : LogDev D G) (v : Vec LogRecord) → log.read ≡ Some v → drop log.gone v.items ≡ records_of_log log
kept_read log v is = ap (drop log.gone) (log.held v is).0

pub waiting_read : {D : Type 0} {G : Ghosts D} (log : LogDev D G) (v : Vec LogRecord) → log.read ≡ Some v → drop (log.gone + log.forced) v.items ≡ waiting log
waiting_read log v is = ap (drop (log.gone + log.forced)) (log.held v is).0 ∙ sym (drop-drop log.forced log.gone (all_in log.found.items log.later.items))

pub slice_waiting : {D : Type 0} {G : Ghosts D} (log : LogDev D G) (v : Vec LogRecord) (l : List LogRecord) → log.read ≡ Some v → l ≡ v.items
    → take (length l - (log.gone + log.forced)) (drop (log.gone + log.forced) l) ≡ waiting log
slice_waiting log v l read is = rest_is (log.gone + log.forced) l ∙ ap (drop (log.gone + log.forced)) is ∙ waiting_read log v read

-- .. and what waits behind the first so many of it
pub behind_fit : {D : Type 0} {G : Ghosts D} (log : LogDev D G) (passed : ℕ) → All Fits (drop passed (waiting log))
behind_fit log passed = All-drop Fits passed (waiting log) (waiting_fit log)

pub slice_behind : {D : Type 0} {G : Ghosts D} (log : LogDev D G) (passed : ℕ) (v : Vec LogRecord) (l : List LogRecord) → log.read ≡ Some v → l ≡ v.items
    → take (length l - (log.gone + log.forced + passed)) (drop (log.gone + log.forced + passed) l) ≡ drop passed (waiting log)
slice_behind log passed v l read is =
    rest_is (log.gone + log.forced + passed) l ∙ ap (drop (log.gone + log.forced + passed)) is
    ∙ sym (drop-drop passed (log.gone + log.forced) v.items) ∙ ap (drop passed) (waiting_read log v read)

pub spelled_from : {D : Type 0} {G : Ghosts D} (log : LogDev D G) (passed len : ℕ) → log.read ≡ None → len ≡ length (texts (take passed (waiting log)))
    → drop (log.at + len) log.bytes.items ≡ texts (drop passed (waiting log))
spelled_from log passed len none is =
    spelled_behind log.at len log.forced passed log.bytes.items (records_of_log log) (log.spelled none) is ∙ ap texts (sym (drop-drop passed log.forced (records_of_log log)))

-- so many wait
pub waiting_count : {D : Type 0} {G : Ghosts D} (log : LogDev D G) → log.forced + length (waiting log) ≡ log.count
waiting_count log =
    omega (
      arith,
      log.counted,
      log.forced_inside,
      length-drop log.forced (records_of_log log),
      length-drop log.gone (all_in log.found.items log.later.items),
    )

-- a settled log: each image that a crash leaves gives its forced records from the tail on
pub settled_gives : {D : Type 0} {G : Ghosts D} {tail place : ℕ} (log : LogDev D G) (front : List ℕ) → IsSettledFrom tail place log front
    → (c : List ℕ) → may_leave (G.history log.device) c → GivesBehindFrom front tail place (stable log) c
settled_gives {tail = tail} {place = place} log front s c left =
    subst (GivesBehindFrom front tail place (stable log)) (sym (s.stands.only c left))
    (s.is_front, subst (λ rs. GivesFrom tail place rs s.image) (sym s.holds.forced) (ring_gives s.image tail place (ring_some (stream_of s.image) tail place s.groups s.ring) s.groups s.ring))

module _ {D : Type 0} {G : Ghosts D} (tail place : ℕ) (log : LogDev D G) (groups : List (List LogRecord)) (h : HoldsFrom tail place log groups) where
  -- what is said of the log is kept where its parts are the same
  pub still_holds : (new : LogDev D G) → G.is_honest new.device ≡ G.is_honest log.device → new.tail ≡ log.tail → new.head ≡ log.head → new.forced ≡ log.forced → new.frames.items ≡ log.frames.items → stable new ≡ stable log
      → HoldsFrom tail place new groups
  still_holds new honest at head forced frames same = record {
    honest = subst (λ b. IsTrue b) (sym honest) h.honest;
    some = h.some;
    first = ap (λ (f : FrameAt). f.first) at ∙ h.first;
    place_is = ap (λ (f : FrameAt). f.place) at ∙ h.place_is;
    forced = same ∙ h.forced;
    number = ap (λ n. tail + n) forced ∙ h.number;
    head = head ∙ h.head;
    index = frames ∙ h.index;
  }

-- a log of which frames and device are kept, behind which records were taken at most
module _ {D : Type 0} {G : Ghosts D} (old new : LogDev D G) (honest : G.is_honest new.device ≡ G.is_honest old.device) (device : IsTrue (G.is_honest old.device) → G.history new.device ≡ G.history old.device)
    (at : new.tail ≡ old.tail) (anchors : new.anchors ≡ old.anchors) (head : new.head ≡ old.head) (forced : new.forced ≡ old.forced) (frames : new.frames.items ≡ old.frames.items) (staged : new.staged ≡ old.staged)
    (more : List LogRecord) (records : records_of_log new ≡ records_of_log old ++ more) where
  same_stable : stable new ≡ stable old
  same_stable = ap (λ n. take n (records_of_log new)) forced ∙ ap (take old.forced) records ∙ take-append-le old.forced (records_of_log old) more old.forced_inside

  longer_waiting : waiting new ≡ waiting old ++ more
  longer_waiting = ap (λ n. drop n (records_of_log new)) forced ∙ ap (drop old.forced) records ∙ drop-append-le old.forced (records_of_log old) more old.forced_inside

  pub keeps_frames : KeepsFrames old new
  keeps_frames = record {
    tail = at;
    anchors = anchors;
    index = frames;
    head = head;
    forced = same_stable;
    under_way = staged;
    settled = λ tail place front s. record {
      image = s.image;
      stands = subst (λ h. Stands h s.image) (sym (device s.holds.honest)) s.stands;
      is_front = s.is_front;
      groups = s.groups;
      holds = still_holds tail place old s.groups s.holds new honest at head forced frames same_stable;
      ring = s.ring;
    };
    staged = λ tail place front group s. record {
      image = s.image;
      stands = subst (λ h. Stands h s.image) (sym (device s.holds.honest)) s.stands;
      is_front = s.is_front;
      groups = s.groups;
      holds = still_holds tail place old s.groups s.holds new honest at head forced frames same_stable;
      gate = s.gate;
      rest = s.rest;
      shut = s.shut;
      are = s.are;
      seen = s.seen;
      first =
          let within : length group ≤ length (waiting old) = omega (arith, ap length s.first, length-take (length group) (waiting old)) in
          ap (take (length group)) longer_waiting ∙ take-append-le (length group) (waiting old) more within ∙ s.first;
      waits = staged ∙ s.waits;
    };
  }

-- a staged frame stands behind a closed gate, so the log is settled without it
pub staged_settled : {D : Type 0} {G : Ghosts D} {tail place : ℕ} (log : LogDev D G) (front : List ℕ) (group : List LogRecord) → IsStagedFrom tail place log front group → IsSettledFrom tail place log front
staged_settled {tail = tail} log front group s = record {
  image = s.image;
  stands = s.stands;
  is_front = s.is_front;
  groups = s.groups;
  holds = s.holds;
  ring = record { gate = s.gate; rest = behind_gate (number_behind tail s.groups) (texts group) ++ 0 ∷ s.rest; shut = s.shut; are = AreGroups-front tail s.groups group s.are; stands = s.seen };
}

-- frames that were read
pub settled_from : {D : Type 0} {G : Ghosts D} (tail place : ℕ) (log : LogDev D G) (image : List ℕ) (gs : List (List LogRecord)) → Stands (G.history log.device) image
    → Frames tail (from_place place (stream_of image)) gs → HoldsFrom tail place log gs → IsSettledFrom tail place log (take 4096 image)
settled_from tail place log image gs stands frames holds =
    let p = parts_of tail (from_place place (stream_of image)) gs frames in
    record {
      image = image;
      stands = stands;
      is_front = refl;
      groups = gs;
      holds = holds;
      ring = record { gate = p.gate; rest = p.rest; shut = p.shut; are = p.groups; stands = p.is };
    }

-- ---- a frame is staged

module _ {D : Type 0} {G : Ghosts D} (tail place : ℕ) (log : LogDev D G) (front : List ℕ) (s : IsSettledFrom tail place log front) (long : length s.image ≡ 4096 + log.stream_bytes) where
  abbrev kept : List LogRecord
  kept = stable log

  stream_long : length (stream_of s.image) ≡ log.stream_bytes
  stream_long = omega (arith, length-drop 4096 s.image, long)

  stream_some : 0 < length (stream_of s.image)
  stream_some = omega (arith, stream_long, log.some)

  -- where the frame goes
  behind_head : log.head + 1 ≡ place + (length (text tail s.groups) + 1)
  behind_head = omega (arith, s.holds.head)

  -- any bytes may stand there
  pub torn_gives : (n : ℕ) → log.head + 1 + n ≤ log.tail.place + log.stream_bytes → (c : List ℕ) → TornRing (log.head + 1) n s.image c → GivesBehindFrom front tail place kept c
  torn_gives n fits c torn =
      subst (λ rs. GivesBehindFrom front tail place rs c) (sym s.holds.forced)
      (stage_torn front s.image s.is_front tail place stream_some s.groups s.ring n c (omega (arith, s.holds.head, s.holds.place_is, stream_long, fits)) (subst (λ p. TornRing p n s.image c) behind_head torn))

  -- the first so many of its waiting records stand there in a frame
  pub staged_from : (new : LogDev D G) (count n len : ℕ) (bytes image : List ℕ) → n ≡ count → 1 ≤ count → IsLongest (waiting log) count
      → log.head + 13 + length (texts (take count (waiting log))) < log.tail.place + log.stream_bytes
      → IsTrue (G.is_honest new.device) → Stands (G.history new.device) image → bytes ≡ behind_gate (log.tail.first + log.forced) (texts (take count (waiting log))) ++ 0 ∷ []
      → IsRingWritten (log.head + 1) bytes s.image image
      → new.tail ≡ log.tail → new.head ≡ log.head → new.forced ≡ log.forced → records_of_log new ≡ records_of_log log → new.frames.items ≡ log.frames.items
      → len ≡ length (texts (take count (waiting log))) → new.staged ≡ Some record { count = count; len = len } → IsStagedFrom tail place new front (take n (waiting log))
  staged_from new count n len bytes image n_is some longest fits honest stands bytes_are written at head forced records frames len_is staged =
      let rs = waiting log in
      let group = take count rs in
      let number = log.tail.first + log.forced in
      let h = s.holds in
      let number_is : number ≡ number_behind tail s.groups = ap (λ k. k + log.forced) h.first ∙ h.number in
      let are : AreNumbered number rs = AreNumbered-drop log.tail.first log.forced (records_of_log log) log.forced_inside (AreNumbered-test log.tail.first (records_of_log log) log.numbered) in
      let is_group : IsGroup number group = IsGroup-longest number rs count some are longest in
      let count_is : length group ≡ count = length-take-le count rs longest.within in
      let same : stable new ≡ stable log = cc (records, forced) in
      let wait : waiting new ≡ rs = cc (records, forced) in
      let exact = behind_gate number (texts group) ++ 0 ∷ [] in
      let size : length exact ≡ 13 + length (texts group) = omega (arith, length-append (behind_gate number (texts group)) (0 ∷ []), length-behind_gate number (texts group)) in
      let w : IsRingWritten (place + (length (text tail s.groups) + 1)) exact s.image image =
      subst (λ p. IsRingWritten p exact s.image image) behind_head (subst (λ b. IsRingWritten (log.head + 1) b s.image image) bytes_are written) in
      let view = behind_gate_written s.image tail place stream_some s.groups image exact w (omega (arith, size, s.holds.head, s.holds.place_is, stream_long, fits)) s.ring in
      let left = drop (length exact) s.ring.rest in
      let made : IsStagedFrom tail place new front group = record {
        image = image;
        stands = stands;
        is_front = written.front ∙ s.is_front;
        groups = s.groups;
        holds = record {
          honest = honest;
          some = h.some;
          first = ap (λ (f : FrameAt). f.first) at ∙ h.first;
          place_is = ap (λ (f : FrameAt). f.place) at ∙ h.place_is;
          forced = same ∙ h.forced;
          number = ap (λ k. tail + k) forced ∙ h.number;
          head = head ∙ h.head;
          index = frames ∙ h.index;
        };
        gate = s.ring.gate;
        rest = left;
        shut = s.ring.shut;
        are = AreGroups-push tail s.groups group s.ring.are (subst (λ k. IsGroup k group) number_is is_group);
        seen =
            view ∙ ap (λ (l : List ℕ). text tail s.groups ++ s.ring.gate ∷ l) (append_assoc (behind_gate number (texts group)) (0 ∷ []) left)
            ∙ ap (λ (k : ℕ). text tail s.groups ++ s.ring.gate ∷ (behind_gate k (texts group) ++ 0 ∷ left)) number_is;
        first = ap (λ (l : List LogRecord). take (length group) l) wait ∙ ap (λ (k : ℕ). take k rs) count_is;
        waits = cc (staged, count_is, len_is);
      } in
      subst (λ k. IsStagedFrom tail place new front (take k rs)) (sym n_is) made

-- ---- its gate is opened

module _ {D : Type 0} {G : Ghosts D} (tail place : ℕ) (log : LogDev D G) (front : List ℕ) (group : List LogRecord) (s : IsStagedFrom tail place log front group) (long : length s.image ≡ 4096 + log.stream_bytes) where
  staged_long : length (stream_of s.image) ≡ log.stream_bytes
  staged_long = omega (arith, length-drop 4096 s.image, long)

  staged_some : 0 < length (stream_of s.image)
  staged_some = omega (arith, staged_long, log.some)

  gate_fits : length (text tail s.groups) + 1 ≤ length (stream_of s.image)
  gate_fits = omega (arith, staged_long, log.head_inside, s.holds.head, s.holds.place_is)

  pub open_gives : (c : List ℕ) → TornRing log.head 1 s.image c → GivesWithOrWithoutFrom front tail place (stable log) group c
  open_gives c torn =
      subst (λ rs. GivesWithOrWithoutFrom front tail place rs group c) (sym s.holds.forced)
      (open_torn front s.image s.is_front tail place staged_some s.groups group s.are s.gate s.rest s.seen gate_fits c (subst (λ p. TornRing p 1 s.image c) s.holds.head torn))

  -- the records of the frame are forced then
  pub more_stable : take (log.forced + length group) (records_of_log log) ≡ stable log ++ group
  more_stable = take-more_group (records_of_log log) log.forced group log.forced_inside s.first

  abbrev after : List (List LogRecord)
  after = s.groups ++ group ∷ []

  -- .. in one frame more
  pub opened_holds : (new : LogDev D G) → IsTrue (G.is_honest new.device) → new.tail ≡ log.tail → new.head ≡ log.head + 13 + length (texts group) → new.forced ≡ log.forced + length group
      → records_of_log new ≡ records_of_log log → new.frames.items ≡ log.frames.items ++ (record { first = log.tail.first + log.forced; place = log.head }) ∷ []
      → HoldsFrom tail place new after × (stable new ≡ stable log ++ group)
  opened_holds new honest at head forced records frames =
      let h = s.holds in
      let size = length-text-push tail s.groups group in
      let number_is : log.tail.first + log.forced ≡ number_behind tail s.groups = ap (λ k. k + log.forced) h.first ∙ h.number in
      let count : number_behind tail after ≡ tail + (log.forced + length group) =
      omega (arith, number_behind-joined tail after, ap length (joined-push s.groups group), length-append (joined s.groups) group, number_behind-joined tail s.groups, h.number) in
      let longer : stable new ≡ stable log ++ group = ap (λ (n : ℕ). take n (records_of_log new)) forced ∙ ap (take (log.forced + length group)) records ∙ more_stable in (
        record {
          honest = honest;
          some = h.some;
          first = ap (λ (f : FrameAt). f.first) at ∙ h.first;
          place_is = ap (λ (f : FrameAt). f.place) at ∙ h.place_is;
          forced = longer ∙ ap (λ (l : List LogRecord). l ++ group) h.forced ∙ sym (joined-push s.groups group);
          number = ap (λ (k : ℕ). tail + k) forced ∙ sym count;
          head = let e : log.head + 13 + length (texts group) ≡ place + length (text tail after) = omega (arith, size, h.head) in head ∙ e;
          index =
              frames ∙ ap (λ l. l ++ (record { first = log.tail.first + log.forced; place = log.head }) ∷ []) h.index
              ∙ ap (λ (k : ℕ). index_of tail place s.groups ++ (record { first = k; place = log.head }) ∷ []) number_is
              ∙ ap (λ (p : ℕ). index_of tail place s.groups ++ (record { first = number_behind tail s.groups; place = p }) ∷ []) h.head
              ∙ sym (index-push tail place s.groups group);
        },
        longer,
      )

  pub opened_from : (new : LogDev D G) (image : List ℕ) → IsTrue (G.is_honest new.device) → Stands (G.history new.device) image → IsRingWritten log.head (OPEN ∷ []) s.image image
      → new.tail ≡ log.tail → new.head ≡ log.head + 13 + length (texts group) → new.forced ≡ log.forced + length group → records_of_log new ≡ records_of_log log
      → new.frames.items ≡ log.frames.items ++ (record { first = log.tail.first + log.forced; place = log.head }) ∷ [] → IsSettledFrom tail place new front × (stable new ≡ stable log ++ group)
  opened_from new image honest stands written at head forced records frames =
      let w : IsRingWritten (place + length (text tail s.groups)) (OPEN ∷ []) s.image image = subst (λ p. IsRingWritten p (OPEN ∷ []) s.image image) s.holds.head written in
      let held = opened_holds new honest at head forced records frames in (
        record {
          image = image;
          stands = stands;
          is_front = written.front ∙ s.is_front;
          groups = after;
          holds = held.0;
          ring = ring_opened s.image tail place staged_some s.groups group s.are s.gate s.rest s.seen gate_fits image w;
        },
        held.1,
      )

  -- ---- .. and the next frame is staged by the same sync

  next_behind : log.head + 13 + length (texts group) + 1 ≡ place + (length (text tail s.groups) + 1 + length (behind_gate (number_behind tail s.groups) (texts group)) + 1)
  next_behind = omega (arith, s.holds.head, length-behind_gate (number_behind tail s.groups) (texts group))

  -- any bytes may stand there, and any at the gate
  pub both_give : (n : ℕ) → log.head + 13 + length (texts group) + 1 + n ≤ log.tail.place + log.stream_bytes → (c : List ℕ)
      → TornBoth (log.head + 13 + length (texts group) + 1) n log.head s.image c → GivesWithOrWithoutFrom front tail place (stable log) group c
  both_give n fits c torn =
      subst (λ rs. GivesWithOrWithoutFrom front tail place rs group c) (sym s.holds.forced)
      (both_torn s.image tail place staged_some s.groups group s.are s.gate s.rest s.seen gate_fits front s.is_front n c
      (omega (arith, next_behind, fits, staged_long, s.holds.place_is))
      (subst (λ p. TornBoth p n (place + length (text tail s.groups)) s.image c) next_behind (subst (λ p. TornBoth (log.head + 13 + length (texts group) + 1) n p s.image c) s.holds.head torn)))

  pub next_staged : (new : LogDev D G) (count len : ℕ) (bytes mid image : List ℕ) → 1 ≤ count → IsLongest (drop (length group) (waiting log)) count
      → len ≡ length (texts (take count (drop (length group) (waiting log))))
      → log.head + 13 + length (texts group) + 13 + length (texts (take count (drop (length group) (waiting log)))) < log.tail.place + log.stream_bytes
      → bytes ≡ behind_gate (log.tail.first + (log.forced + length group)) (texts (take count (drop (length group) (waiting log)))) ++ 0 ∷ []
      → IsRingWritten (log.head + 13 + length (texts group) + 1) bytes s.image mid → IsRingWritten log.head (OPEN ∷ []) mid image
      → HoldsFrom tail place new after → new.forced ≡ log.forced + length group → records_of_log new ≡ records_of_log log
      → Stands (G.history new.device) image → new.staged ≡ Some record { count = count; len = len } → IsStagedFrom tail place new front (take count (waiting new))
  next_staged new count len bytes mid image some longest len_is fits bytes_are one two holds forced records stands staged =
      let recs = records_of_log log in
      let rs = drop (length group) (waiting log) in
      let next = take count rs in
      let number = log.tail.first + (log.forced + length group) in
      let within : log.forced + length group ≤ length recs =
      omega (arith, ap length s.first, length-take (length group) (waiting log), length-drop log.forced recs, log.forced_inside) in
      let behind_is : drop (log.forced + length group) recs ≡ rs = sym (drop-drop (length group) log.forced recs) in
      let wait : waiting new ≡ rs = ap (λ (n : ℕ). drop n (records_of_log new)) forced ∙ ap (drop (log.forced + length group)) records ∙ behind_is in
      let numbered : AreNumbered number rs =
      subst (AreNumbered number) behind_is (AreNumbered-drop log.tail.first (log.forced + length group) recs within (AreNumbered-test log.tail.first recs log.numbered)) in
      let is_group : IsGroup number next = IsGroup-longest number rs count some numbered longest in
      let count_is : length next ≡ count = length-take-le count rs longest.within in
      let number_is : number ≡ number_behind tail after = omega (arith, holds.number, forced, s.holds.first) in
      let exact = behind_gate number (texts next) ++ 0 ∷ [] in
      let size : length exact ≡ 13 + length (texts next) = omega (arith, length-append (behind_gate number (texts next)) (0 ∷ []), length-behind_gate number (texts next)) in
      let first : IsRingWritten (place + (length (text tail s.groups) + 1 + length (behind_gate (number_behind tail s.groups) (texts group)) + 1)) exact s.image mid =
      subst (λ p. IsRingWritten p exact s.image mid) next_behind (subst (λ b. IsRingWritten (log.head + 13 + length (texts group) + 1) b s.image mid) bytes_are one) in
      let second : IsRingWritten (place + length (text tail s.groups)) (OPEN ∷ []) mid image = subst (λ p. IsRingWritten p (OPEN ∷ []) mid image) s.holds.head two in
      let left = drop (length exact) s.rest in
      let seen = both_seen s.image tail place staged_some s.groups group s.are s.gate s.rest s.seen gate_fits exact mid image (omega (arith, next_behind, size, fits, staged_long, s.holds.place_is)) first second in
      let made : IsStagedFrom tail place new front next = record {
        image = image;
        stands = stands;
        is_front = two.front ∙ one.front ∙ s.is_front;
        groups = after;
        holds = holds;
        gate = 0;
        rest = left;
        shut = omega arith;
        are = AreGroups-push tail after next s.are (subst (λ k. IsGroup k next) number_is is_group);
        seen =
            seen ∙ ap (λ (l : List ℕ). text tail after ++ 0 ∷ l) (append_assoc (behind_gate number (texts next)) (0 ∷ []) left)
            ∙ ap (λ (k : ℕ). text tail after ++ 0 ∷ (behind_gate k (texts next) ++ 0 ∷ left)) number_is;
        first = ap (take (length next)) wait ∙ ap (λ (k : ℕ). take k rs) count_is;
        waits = cc (staged, count_is, len_is);
      } in
      subst (λ (l : List LogRecord). IsStagedFrom tail place new front (take count l)) (sym wait) made

  pub both_from : (new : LogDev D G) (count len : ℕ) (bytes mid image : List ℕ) → IsTrue (G.is_honest new.device) → Stands (G.history new.device) image
      → IsRingWritten (log.head + 13 + length (texts group) + 1) bytes s.image mid → IsRingWritten log.head (OPEN ∷ []) mid image
      → new.tail ≡ log.tail → new.head ≡ log.head + 13 + length (texts group) → new.forced ≡ log.forced + length group → records_of_log new ≡ records_of_log log
      → new.frames.items ≡ log.frames.items ++ (record { first = log.tail.first + log.forced; place = log.head }) ∷ [] → new.staged ≡ Some record { count = count; len = len }
      → 1 ≤ count → IsLongest (drop (length group) (waiting log)) count → len ≡ length (texts (take count (drop (length group) (waiting log))))
      → log.head + 13 + length (texts group) + 13 + length (texts (take count (drop (length group) (waiting log)))) < log.tail.place + log.stream_bytes
      → bytes ≡ behind_gate (log.tail.first + (log.forced + length group)) (texts (take count (drop (length group) (waiting log)))) ++ 0 ∷ []
      → (stable new ≡ stable log ++ group) × IsStagedFrom tail place new front (take count (waiting new))
  both_from new count len bytes mid image honest stands one two at head forced records frames staged some longest len_is fits bytes_are =
      let held = opened_holds new honest at head forced records frames in
      (held.1, next_staged new count len bytes mid image some longest len_is fits bytes_are one two held.0 forced records stands staged)
