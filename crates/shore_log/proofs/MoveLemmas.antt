-- A move of the anchor: what it leaves of the log, and what it frees.
use Rattle.std.proofs.Common.{◌≡◌, ◌≤◌, ◌<◌, ◌+◌, ◌-◌, ◌*◌, inl, inr, ℕ, suc, List, [], ◌∷◌, ◌++◌, Some, refl, sym, ap, subst, ◌∙◌, length, take, drop, arith, append-nil, length-append, length-drop}
use Rattle.std.specs.Prelude.{slice_get}
use Rattle.std.proofs.Math.Seq.{take-append-add}
use Rattle.std.proofs.lemmas.List.{drop-take, drop_at, length-take-le, take-take, take_at}
use Rattle.std.proofs.lemmas.Slice.{drop-append-drop}
use Rattle.shore_disk.specs.Device.{DeviceHistory, Only, Stands, may_leave, overwritten, seen}
use Rattle.shore_disk.proofs.MemoryLemmas.{length_over}
use Rattle.shore_disk.specs.declared.device.Disk.{Ghosts}
use Rattle.shore_gate.specs.Anchor.{Counts, HoldsAnchor, IsOlder, anchor_bytes, offset_of, other_of, slot_bytes}
use Rattle.shore_gate.specs.Moves.{IsAmidMove, moved}
use Rattle.shore_gate.specs.declared.anchors.Anchor.{Anchor}
use Rattle.shore_gate.specs.declared.anchors.Anchors.{Anchors}
use Rattle.shore_gate.specs.declared.anchors.Slot.{Slot}
use Rattle.shore_gate.specs.declared.anchors.Slot.TheVariants.{A, B}
use Rattle.shore_gate.specs.declared.gates.TheConstants.{OPEN}
use Rattle.shore_gate.proofs.WidthLemmas.{length-anchor_bytes}
use Rattle.shore_model.specs.declared.log_records.LogRecord.{LogRecord}
use Rattle.shore_logrec.specs.Text.{texts}
use Rattle.shore_frames.specs.declared.reading.FrameAt.{FrameAt}
use Rattle.shore_frames.specs.Frames.{GivesFrom, behind_gate, joined, number_behind, text}
use Rattle.shore_frames.specs.Places.{from_place, stream_of}
use Rattle.shore_frames.specs.Rings.{IsRing}
use Rattle.shore_frames.specs.Streams.{index_of}
use Rattle.shore_frames.proofs.FrameLemmas.{joined-append, length-behind_gate, number_behind-joined}
use Rattle.shore_frames.proofs.IndexLemmas.{at_frame}
use Rattle.shore_frames.proofs.RingFrames.{ring_cut, ring_gives, ring_some}
use Rattle.shore_log.specs.Indexes.{first_in}
use Rattle.shore_log.specs.Settled.{HoldsFrom, IsAnchored, IsLeftByMove, IsSettledFrom, IsStagedFrom, stable, waiting, records_of_log}
use Rattle.shore_log.specs.declared.device.LogDev.{LogDev}
use Rattle.shore_log.proofs.CutLemmas.{there_is}
use Rattle.shore_log.proofs.ForceLemmas.{still_holds}
use Rattle.shore_log.proofs.TextLemmas.{texts-append}

-- ---- the front of an image

slot_within : (p m : ℕ) (image : List ℕ) → 40 ≤ m → take 40 (drop p image) ≡ take 40 (drop p (take (p + m) image))
slot_within p m image le = sym (ap (take 40) (drop-take p m image) ∙ take-take 40 m (drop p image) le)

same_slot : (slot : Slot) (image c : List ℕ) → take 4096 c ≡ take 4096 image → slot_bytes slot c ≡ slot_bytes slot image
same_slot A image c same = slot_within 1024 3072 c (omega arith) ∙ ap (λ (l : List ℕ). take 40 (drop 1024 l)) same ∙ sym (slot_within 1024 3072 image (omega arith))
same_slot B image c same = slot_within 2048 2048 c (omega arith) ∙ ap (λ (l : List ℕ). take 40 (drop 2048 l)) same ∙ sym (slot_within 2048 2048 image (omega arith))

-- which anchor counts is told by the first 4,096 bytes
pub counts_stay : (slot : Slot) (anchor : Anchor) (image c : List ℕ) → take 4096 c ≡ take 4096 image → Counts image slot anchor → Counts c slot anchor
counts_stay slot anchor image c same has = record {
  here = subst (λ (l : List ℕ). HoldsAnchor l anchor) (sym (same_slot slot image c same)) has.here;
  older = subst (λ (l : List ℕ). IsOlder l anchor.sequence) (sym (same_slot (other_of slot) image c same)) has.older;
  limits = has.limits;
}

pub counts_front : (slot : Slot) (anchor : Anchor) (image front : List ℕ) → take 4096 image ≡ front → Counts image slot anchor → Counts front slot anchor
counts_front slot anchor image front is has =
    subst (λ (l : List ℕ). Counts l slot anchor) is (counts_stay slot anchor image (take 4096 image) (take-take 4096 4096 image (omega arith)) has)

pub front_counts : (slot : Slot) (anchor : Anchor) (image front : List ℕ) → take 4096 image ≡ front → Counts front slot anchor → Counts image slot anchor
front_counts slot anchor image front is has =
    counts_stay slot anchor (take 4096 image) image (sym (take-take 4096 4096 image (omega arith))) (subst (λ (l : List ℕ). Counts l slot anchor) (sym is) has)

-- a device with these bytes is stable, and the anchor that its front has counts on it
pub only_seen : (h : DeviceHistory) (image : List ℕ) → Stands h image → Only (seen h) (may_leave h)
only_seen h image stands = subst (λ (i : List ℕ). Only i (may_leave h)) (sym stands.read) stands.only

pub counts_seen : (slot : Slot) (anchor : Anchor) (h : DeviceHistory) (image front : List ℕ) → Stands h image → take 4096 image ≡ front → Counts front slot anchor → Counts (seen h) slot anchor
counts_seen slot anchor h image front stands is has = subst (λ (i : List ℕ). Counts i slot anchor) (sym stands.read) (front_counts slot anchor image front is has)

-- ---- a slot is written

module _ (image bytes : List ℕ) (long : length bytes ≡ 40) (size : 4096 ≤ length image) where
  stays_behind : (p : ℕ) → p + 40 ≤ 4096 → drop 4096 (overwritten image p bytes) ≡ drop 4096 image
  stays_behind p within =
      let front = take p image ++ bytes in
      let size_of : length front ≡ p + length bytes = omega (arith, length-append (take p image) bytes, length-take-le p image (omega (arith, size, within))) in
      drop-append-drop (p + length bytes) image front 4096 (omega (arith, long, within)) size_of

  over_front : (p m : ℕ) → p + 40 + m ≡ 4096 → take 4096 (overwritten image p bytes) ≡ overwritten (take 4096 image) p bytes
  over_front p m is =
      let front = take p image ++ bytes in
      let n = p + length bytes in
      let size_of : length front ≡ n = omega (arith, length-append (take p image) bytes, length-take-le p image (omega (arith, size, is))) in
      let split : 4096 ≡ length front + m = omega (arith, size_of, long, is) in
      let here : take p image ≡ take p (take 4096 image) = sym (take-take p 4096 image (omega (arith, is))) in
      let rest : take m (drop n image) ≡ drop n (take 4096 image) =
      let sum : n + m ≡ 4096 = omega (arith, long, is) in
      sym (drop-take n m image) ∙ ap (λ (k : ℕ). drop n (take k image)) sum in
      ap (λ k. take k (front ++ drop n image)) split ∙ take-append-add front (drop n image) m ∙ ap (λ (l : List ℕ). (l ++ bytes) ++ take m (drop n image)) here
      ∙ ap (λ (l : List ℕ). (take p (take 4096 image) ++ bytes) ++ l) rest

  pub stream_stays : (slot : Slot) → stream_of (overwritten image (offset_of slot) bytes) ≡ stream_of image
  stream_stays A = stays_behind 1024 (omega arith)
  stream_stays B = stays_behind 2048 (omega arith)

  pub front_moves : (slot : Slot) → take 4096 (overwritten image (offset_of slot) bytes) ≡ overwritten (take 4096 image) (offset_of slot) bytes
  front_moves A = over_front 1024 3032 (omega arith)
  front_moves B = over_front 2048 2008 (omega arith)

next_long : (next : Anchor) → length (OPEN ∷ anchor_bytes next) ≡ 40
next_long next = let s = length-anchor_bytes next in omega (arith, s)

-- ---- the log behind a move

module _ {D : Type 0} {G : Ghosts D} (tail place : ℕ) (old : LogDev D G) (front : List ℕ) (next : Anchor) where
  pub moved_settled : (s : IsSettledFrom tail place old front) (new : LogDev D G) → 4096 ≤ length s.image → G.is_honest new.device ≡ G.is_honest old.device
      → Stands (G.history new.device) (moved old.anchors next s.image) → new.tail ≡ old.tail → new.head ≡ old.head → new.forced ≡ old.forced → new.frames.items ≡ old.frames.items → stable new ≡ stable old
      → IsSettledFrom tail place new (moved old.anchors next front)
  moved_settled s new size honest stands at head forced frames same =
      let slot = other_of old.anchors.slot in
      let bytes = OPEN ∷ anchor_bytes next in
      record {
        image = moved old.anchors next s.image;
        stands = stands;
        is_front = front_moves s.image bytes (next_long next) size slot ∙ ap (λ (l : List ℕ). overwritten l (offset_of slot) bytes) s.is_front;
        groups = s.groups;
        holds = still_holds tail place old s.groups s.holds new honest at head forced frames same;
        ring = subst (λ (l : List ℕ). IsRing l tail place s.groups) (sym (stream_stays s.image bytes (next_long next) size slot)) s.ring;
      }

  pub moved_staged : (group : List LogRecord) (s : IsStagedFrom tail place old front group) (new : LogDev D G) → 4096 ≤ length s.image → G.is_honest new.device ≡ G.is_honest old.device
      → Stands (G.history new.device) (moved old.anchors next s.image) → new.tail ≡ old.tail → new.head ≡ old.head → new.forced ≡ old.forced → new.frames.items ≡ old.frames.items → stable new ≡ stable old
      → waiting new ≡ waiting old → new.staged ≡ old.staged → IsStagedFrom tail place new (moved old.anchors next front) group
  moved_staged group s new size honest stands at head forced frames same waits staged =
      let slot = other_of old.anchors.slot in
      let bytes = OPEN ∷ anchor_bytes next in
      record {
        image = moved old.anchors next s.image;
        stands = stands;
        is_front = front_moves s.image bytes (next_long next) size slot ∙ ap (λ (l : List ℕ). overwritten l (offset_of slot) bytes) s.is_front;
        groups = s.groups;
        holds = still_holds tail place old s.groups s.holds new honest at head forced frames same;
        gate = s.gate;
        rest = s.rest;
        shut = s.shut;
        are = s.are;
        seen = ap (from_place place) (stream_stays s.image bytes (next_long next) size slot) ∙ s.seen;
        first = ap (take (length group)) waits ∙ s.first;
        waits = staged ∙ s.waits;
      }

  -- an image amid the move gives the forced records from the old tail on, and what is kept of them from the next one on
  pub amid_move : (s : IsSettledFrom tail place old front) → 4096 ≤ length s.image → (count : ℕ) (f : FrameAt) → slice_get old.frames.items count ≡ Some f → next.tail ≡ f.first → next.tail_place ≡ f.place
      → (image : List ℕ) → IsAmidMove old.anchors next s.image image → IsLeftByMove old.anchors next front (stable old) image
  amid_move s size count f at tail_is place_is image amid =
      let slot = other_of old.anchors.slot in
      let long = amid.beside.long in
      let some = ring_some (stream_of s.image) tail place s.groups s.ring in
      let stream : stream_of image ≡ stream_of s.image = ap stream_of amid.beside.is ∙ stream_stays s.image amid.bytes long size slot in
      let ring : IsRing (stream_of image) tail place s.groups = subst (λ (l : List ℕ). IsRing l tail place s.groups) (sym stream) s.ring in
      let some_now : 0 < length (stream_of image) = subst (λ (l : List ℕ). 0 < length l) (sym stream) some in
      let h = s.holds in
      let w = at_frame tail place s.groups count f (ap (λ l. slice_get l count) (sym h.index) ∙ at) in
      let first = old.anchored.0 in
      let placed = old.anchored.1 in
      let gone : next.tail - old.anchors.anchor.tail ≡ length (joined w.gone) = omega (arith, tail_is, w.first, number_behind-joined tail w.gone, h.first, first) in
      let kept : drop (next.tail - old.anchors.anchor.tail) (stable old) ≡ joined w.left =
      ap (λ k. drop k (stable old)) gone ∙ ap (drop (length (joined w.gone))) (h.forced ∙ ap joined w.parts ∙ joined-append w.gone w.left) ∙ drop_at (joined w.gone) (joined w.left) (length (joined w.gone)) refl in
      record {
        bytes = amid.bytes;
        beside = record {
          long = long;
          is = ap (take 4096) amid.beside.is ∙ front_moves s.image amid.bytes long size slot ∙ ap (λ (l : List ℕ). overwritten l (offset_of slot) amid.bytes) s.is_front;
        };
        gives = elim amid.counts [
          | inl counts ↦ inl (
            counts,
            subst (λ rs. GivesFrom old.anchors.anchor.tail old.anchors.anchor.tail_place rs image) (sym h.forced)
                (subst (λ p. GivesFrom old.anchors.anchor.tail p (joined s.groups) image) (sym (placed ∙ h.place_is))
                (subst (λ t. GivesFrom t place (joined s.groups) image) (sym (first ∙ h.first)) (ring_gives image tail place some_now s.groups ring))),
          )
          | inr counts ↦ inr (
            counts,
            subst (λ rs. GivesFrom next.tail next.tail_place rs image) (sym kept)
                (subst (λ p. GivesFrom next.tail p (joined w.left) image) (sym (place_is ∙ w.place_is))
                (subst (λ t. GivesFrom t (place + length (text tail w.gone)) (joined w.left) image) (sym (tail_is ∙ w.first))
                (ring_gives image (number_behind tail w.gone) (place + length (text tail w.gone)) some_now w.left (ring_cut (stream_of image) tail place w.gone w.left some_now (subst (IsRing (stream_of image) tail place) w.parts ring))))),
          )
        ];
      }

-- ---- what is freed

pub length-index : (n place : ℕ) (gs : List (List LogRecord)) → length (index_of n place gs) ≡ length gs
length-index n place [] = refl
length-index n place (g ∷ gs) = ap suc (length-index (n + length g) (place + (13 + length (texts g))) gs)

-- frames take the texts of their records, and 13 bytes each
pub length-frames : (n : ℕ) (gs : List (List LogRecord)) → length (text n gs) ≡ 13 * length gs + length (texts (joined gs))
length-frames n [] = refl
length-frames n (g ∷ gs) =
    omega (
      arith,
      length-append (behind_gate n (texts g)) (text (n + length g) gs),
      length-behind_gate n (texts g),
      length-frames (n + length g) gs,
      ap length (texts-append g (joined gs)),
      length-append (texts g) (texts (joined gs)),
    )

-- the frames before one of the index
pub record AreBefore {D : Type 0} {G : Ghosts D} (tail place : ℕ) (log : LogDev D G) (groups : List (List LogRecord)) (count : ℕ) (f : FrameAt) : Type 0 where
  pub gone : List (List LogRecord)
  pub left : List (List LogRecord)
  pub parts : groups ≡ gone ++ left
  pub many : count ≡ length gone
  pub first : f.first ≡ tail + length (joined gone)
  pub behind : f.first ≡ number_behind tail gone
  pub place_is : f.place ≡ place + (13 * length gone + length (texts (joined gone)))
  pub records : take (length (joined gone)) (records_of_log log) ≡ joined gone

module _ {D : Type 0} {G : Ghosts D} (tail place : ℕ) (log : LogDev D G) (groups : List (List LogRecord)) (h : HoldsFrom tail place log groups) where
  first_records : (gone left : List (List LogRecord)) → groups ≡ gone ++ left → take (length (joined gone)) (records_of_log log) ≡ joined gone
  first_records gone left parts =
      let n = length (joined gone) in
      let all : stable log ≡ joined gone ++ joined left = h.forced ∙ ap joined parts ∙ joined-append gone left in
      let short : n ≤ log.forced = omega (arith, ap length all, length-append (joined gone) (joined left), length-take-le log.forced (records_of_log log) log.forced_inside) in
      sym (take-take n log.forced (records_of_log log) short) ∙ ap (take n) all ∙ take_at (joined gone) (joined left) n refl

  pub before_frame : (count : ℕ) (f : FrameAt) → slice_get log.frames.items count ≡ Some f → AreBefore tail place log groups count f
  before_frame count f at =
      let w = at_frame tail place groups count f (ap (λ l. slice_get l count) (sym h.index) ∙ at) in
      let within = there_is log.frames.items count f at in
      let counted = number_behind-joined tail w.gone in
      record {
        gone = w.gone;
        left = w.left;
        parts = w.parts;
        many = omega (
          arith,
          within,
          ap length h.index,
          length-index tail place groups,
          ap length w.parts,
          length-append w.gone w.left,
          ap length w.index,
          length-index f.first f.place w.left,
          length-drop count (index_of tail place groups),
        );
        first = omega (arith, w.first, counted);
        behind = w.first;
        place_is = omega (arith, w.place_is, length-frames tail w.gone);
        records = first_records w.gone w.left w.parts;
      }

  -- .. and all of them before the next one
  pub before_next : (f : FrameAt) → f.first ≡ log.tail.first + log.forced → f.place ≡ log.head → AreBefore tail place log groups (length log.frames.items) f
  before_next f first place_is =
      let counted = number_behind-joined tail groups in
      record {
        gone = groups;
        left = [];
        parts = sym (append-nil groups);
        many = ap length h.index ∙ length-index tail place groups;
        first = omega (arith, first, counted, h.number, h.first);
        behind = omega (arith, first, h.number, h.first);
        place_is = omega (arith, place_is, h.head, length-frames tail groups);
        records = first_records groups [] (sym (append-nil groups));
      }

-- what they cost
pub cost_is : {D : Type 0} {G : Ghosts D} (tail place : ℕ) (log : LogDev D G) (groups : List (List LogRecord)) (h : HoldsFrom tail place log groups) (count : ℕ) (f : FrameAt) (cost : ℕ) → AreBefore tail place log groups count f
    → log.tail.first + count ≤ f.first → cost ≡ (f.place - log.tail.place) + 13 * (f.first - log.tail.first - count)
    → cost ≡ 13 * (f.first - 1 - (log.tail.first - 1)) + length (texts (take (f.first - 1 - (log.tail.first - 1)) (records_of_log log)))
cost_is tail place log groups h count f cost b many is =
    let k : f.first - 1 - (log.tail.first - 1) ≡ length (joined b.gone) = omega (arith, b.first, h.first, h.some) in
    let said : length (texts (take (f.first - 1 - (log.tail.first - 1)) (records_of_log log))) ≡ length (texts (joined b.gone)) =
    ap (λ (n : ℕ). length (texts (take n (records_of_log log)))) k ∙ ap (λ (l : List LogRecord). length (texts l)) b.records in
    omega (arith, is, b.place_is, b.first, b.many, many, h.first, h.place_is, k, said)

-- two parts of one list that are as long are the same
pub same_parts : {A : Type 0} (xs ys us vs : List A) (n : ℕ) → xs ++ ys ≡ us ++ vs → n ≡ length xs → n ≡ length us → (xs ≡ us) × (ys ≡ vs)
same_parts xs ys us vs n same left right = (
  sym (take_at xs ys n (sym left)) ∙ ap (take n) same ∙ take_at us vs n (sym right),
  sym (drop_at xs ys n (sym left)) ∙ ap (drop n) same ∙ drop_at us vs n (sym right),
)

pub some_frames : (fs : List FrameAt) (next first forced : ℕ) → first ≡ first_in next fs → next ≡ first + forced → 1 ≤ forced → 0 < length fs
some_frames [] next first forced begins is some = absurd (omega (arith, begins, is, some))
some_frames (f ∷ fs) next first forced begins is some = omega arith

-- the log behind a move, from where its anchor says
pub at_anchor : {D : Type 0} {G : Ghosts D} (from : Anchors) (next : Anchor) (front : List ℕ) (new : LogDev D G) → new.anchors.anchor ≡ next → IsSettledFrom new.tail.first new.tail.place new (moved from next front)
    → IsSettledFrom new.anchors.anchor.tail new.anchors.anchor.tail_place new (moved from new.anchors.anchor front)
at_anchor from next front new is s =
    subst (λ (t : ℕ). IsSettledFrom t new.anchors.anchor.tail_place new (moved from new.anchors.anchor front)) (sym new.anchored.0)
    (subst (λ (p : ℕ). IsSettledFrom new.tail.first p new (moved from new.anchors.anchor front)) (sym new.anchored.1)
    (subst (λ (a : Anchor). IsSettledFrom new.tail.first new.tail.place new (moved from a front)) (sym is) s))

pub staged_at_anchor : {D : Type 0} {G : Ghosts D} (from : Anchors) (next : Anchor) (front : List ℕ) (group : List LogRecord) (new : LogDev D G) → new.anchors.anchor ≡ next
    → IsStagedFrom new.tail.first new.tail.place new (moved from next front) group → IsStagedFrom new.anchors.anchor.tail new.anchors.anchor.tail_place new (moved from new.anchors.anchor front) group
staged_at_anchor from next front group new is s =
    subst (λ (t : ℕ). IsStagedFrom t new.anchors.anchor.tail_place new (moved from new.anchors.anchor front) group) (sym new.anchored.0)
    (subst (λ (p : ℕ). IsStagedFrom new.tail.first p new (moved from new.anchors.anchor front) group) (sym new.anchored.1)
    (subst (λ (a : Anchor). IsStagedFrom new.tail.first new.tail.place new (moved from a front) group) (sym is) s))

slot_inside : (slot : Slot) → offset_of slot + 40 ≤ 4096
slot_inside A = omega arith
slot_inside B = omega arith

-- the next anchor counts in the front behind the move
pub anchored_at : {D : Type 0} {G : Ghosts D} (from : Anchors) (next : Anchor) (image front after : List ℕ) (new : LogDev D G) → 4096 ≤ length image → take 4096 image ≡ front → length front ≡ 4096
    → after ≡ moved from next image → new.anchors.anchor ≡ next → Counts after new.anchors.slot new.anchors.anchor → IsAnchored new (moved from new.anchors.anchor front)
anchored_at from next image front after new size is_front long is same counts =
    let slot = other_of from.slot in
    let bytes = OPEN ∷ anchor_bytes next in
    let full = next_long next in
    let inside = slot_inside slot in
    subst (λ (a : Anchor). IsAnchored new (moved from a front)) (sym same) (record {
      long = length_over front bytes (offset_of slot) (omega (arith, full, inside, long)) ∙ long;
      counts = counts_front new.anchors.slot new.anchors.anchor after (moved from next front)
          (ap (take 4096) is ∙ front_moves image bytes full size slot ∙ ap (λ (l : List ℕ). overwritten l (offset_of slot) bytes) is_front) counts;
    })
