-- The index of the frames, and a cut.
use Rattle.std.proofs.Common.{◌≡◌, ◌≤◌, ◌<◌, ◌+◌, ◌-◌, ◌*◌, inl, inr, IsTrue, ℕ, zero, suc, List, [], ◌∷◌, ◌++◌, Bool, true, false, eqb, Some, refl, sym, ap, subst, ◌∙◌, length, take, drop, arith, append_assoc, length-append, length-drop}
use Rattle.std.specs.Prelude.{◌&&◌, if◌then◌else◌, nat_le, nat_lt, slice_get, slice_index_or}
use Rattle.std.specs.List.Sorted.{IsNonDecreasingBy}
use Rattle.std.proofs.lemmas.Bool.{cases_lt, eqb-false, eqb-true, le-leb, leb-true, lt-leb, lt-ltb, ltb-true}
use Rattle.std.proofs.lemmas.List.{drop_at, take_at}
use Rattle.shore_disk.specs.declared.device.Disk.{Ghosts}
use Rattle.shore_disk.specs.Device.{Stands}
use Rattle.shore_model.specs.declared.log_records.LogRecord.{LogRecord}
use Rattle.shore_logrec.specs.Text.{texts}
use Rattle.shore_frames.specs.declared.reading.FrameAt.{FrameAt}
use Rattle.shore_frames.specs.Frames.{AreGroups, behind_gate, joined, number_behind, text}
use Rattle.shore_frames.specs.Offsets.{IsFrameOf}
use Rattle.shore_frames.specs.Places.{byte_of, from_place, stream_of}
use Rattle.shore_frames.specs.Rings.{IsRing}
use Rattle.shore_frames.specs.Streams.{index_of}
use Rattle.shore_frames.proofs.FrameLemmas.{groups_behind, joined-append, length-behind_gate, number_behind-append, number_behind-joined, text-append}
use Rattle.shore_frames.proofs.IndexLemmas.{IsAtFrame, at_frame, index_at}
use Rattle.shore_frames.proofs.Turns.{length-from_place}
use Rattle.shore_frames.proofs.RingFrames.{ring_cut, ring_some, seen_cut}
use Rattle.shore_log.specs.Indexes.{AreListed, IsInGroup, are_listed, first_in, frame_with, place_in}
use Rattle.shore_log.proofs.ForceLemmas.{unwrap}
use Rattle.shore_log.proofs.TextLemmas.{texts_least}
use Rattle.shore_log.specs.Settled.{HoldsFrom, IsSettledFrom, IsStagedFrom, stable, waiting}
use Rattle.shore_log.specs.declared.device.LogDev.{LogDev}

-- ---- the index as a list

both_are : (a b : Bool) → (a && b) ≡ true → (a ≡ true) × (b ≡ true)
both_are true b h = (refl, h)
both_are false b h = cc

both_true : {a b : Bool} → a ≡ true → b ≡ true → (a && b) ≡ true
both_true p q = cc

pub listed_of : (head next : ℕ) (fs : List FrameAt) → IsTrue (are_listed head next fs) → AreListed head next fs
listed_of head next [] h = tt
listed_of head next (f ∷ fs) h =
    let all = both_are (nat_lt f.first (first_in next fs) && nat_le (f.place + 21 * first_in next fs) (place_in head fs + 21 * f.first) && nat_le (f.place + 65549) (65549 * f.first)) (are_listed head next fs) h in
    let three = both_are (nat_lt f.first (first_in next fs) && nat_le (f.place + 21 * first_in next fs) (place_in head fs + 21 * f.first)) (nat_le (f.place + 65549) (65549 * f.first)) all.0 in
    let two = both_are (nat_lt f.first (first_in next fs)) (nat_le (f.place + 21 * first_in next fs) (place_in head fs + 21 * f.first)) three.0 in
    (ltb-true f.first (first_in next fs) two.0, leb-true (f.place + 21 * first_in next fs) (place_in head fs + 21 * f.first) two.1, leb-true (f.place + 65549) (65549 * f.first) three.1, listed_of head next fs all.1)

pub listed_test : (head next : ℕ) (fs : List FrameAt) → AreListed head next fs → IsTrue (are_listed head next fs)
listed_test head next [] h = refl
listed_test head next (f ∷ fs) h =
    both_true (both_true (both_true (lt-ltb f.first (first_in next fs) h.0) (le-leb (f.place + 21 * first_in next fs) (place_in head fs + 21 * f.first) h.1)) (le-leb (f.place + 65549) (65549 * f.first) h.2)) (listed_test head next fs h.3)

-- a frame more
pub begins_push : (next next' : ℕ) (fs : List FrameAt) (f : FrameAt) → f.first ≡ next → first_in next' (fs ++ f ∷ []) ≡ first_in next fs
begins_push next next' [] f is = is
begins_push next next' (g ∷ fs) f is = refl

pub placed_push : (head head' : ℕ) (fs : List FrameAt) (f : FrameAt) → f.place ≡ head → place_in head' (fs ++ f ∷ []) ≡ place_in head fs
placed_push head head' [] f is = is
placed_push head head' (g ∷ fs) f is = refl

pub listed_push : (head next head' next' : ℕ) (fs : List FrameAt) (f : FrameAt) → f.place ≡ head → f.first ≡ next → next < next' → head + 21 * next' ≤ head' + 21 * next → head + 65549 ≤ 65549 * next → AreListed head next fs
    → AreListed head' next' (fs ++ f ∷ [])
listed_push head next head' next' [] f is first_is more on near h =
    (omega (arith, first_is, more), omega (arith, is, first_is, on), omega (arith, is, first_is, near), tt)
listed_push head next head' next' (g ∷ fs) f is first_is more on near h =
    let less = h.0 in
    let le = h.1 in
    let first = begins_push next next' fs f first_is in
    let place = placed_push head head' fs f is in
    (omega (arith, less, first), omega (arith, le, first, place), h.2, listed_push head next head' next' fs f is first_is more on near h.3)

pub listed_most : (head next : ℕ) (fs : List FrameAt) → AreListed head next fs → (place_in head fs + 21 * next ≤ head + 21 * first_in next fs) × (first_in next fs + length fs ≤ next)
listed_most head next [] h = (omega arith, omega arith)
listed_most head next (f ∷ fs) h =
    let less = h.0 in
    let le = h.1 in
    let rest = listed_most head next fs h.3 in
    let far = rest.0 in
    let more = rest.1 in
    (omega (arith, le, far), omega (arith, less, more))

-- a frame of the index, and those behind it
pub record IsListedAt (head next : ℕ) (fs : List FrameAt) (count : ℕ) (f : FrameAt) : Type 0 where
  pub before : place_in head fs + 21 * f.first ≤ f.place + 21 * first_in next fs
  pub behind : f.place + 21 * next ≤ head + 21 * f.first
  pub from : first_in next fs + count ≤ f.first
  pub to : f.first < next
  pub near : f.place + 65549 ≤ 65549 * f.first
  pub rest : AreListed head next (drop count fs)
  pub first : f.first ≡ first_in next (drop count fs)
  pub place : f.place ≡ place_in head (drop count fs)

pub listed_at : (head next : ℕ) (fs : List FrameAt) (count : ℕ) (f : FrameAt) → slice_get fs count ≡ Some f → AreListed head next fs → IsListedAt head next fs count f
listed_at head next [] count f at h = cc
listed_at head next (g ∷ fs) zero f at h =
    let same : g ≡ f = unwrap at in
    let most = listed_most head next (g ∷ fs) h in
    let far = most.0 in
    let more = most.1 in
    subst (λ (x : FrameAt). IsListedAt head next (g ∷ fs) 0 x) same
    (record { before = omega arith; behind = omega (arith, far); from = omega arith; to = omega (arith, more); near = h.2; rest = h; first = refl; place = refl })
listed_at head next (g ∷ fs) (suc count) f at h =
    let rest = listed_at head next fs count f at h.3 in
    let less = h.0 in
    let le = h.1 in
    record { before = omega (arith, le, rest.before); behind = rest.behind; from = omega (arith, less, rest.from); to = rest.to; near = rest.near; rest = rest.rest; first = rest.first; place = rest.place }

listed_least : (head next : ℕ) (fs : List FrameAt) → AreListed head next fs → (k : ℕ) (d : FrameAt) → k < length fs → first_in next fs ≤ (slice_index_or fs k d).first
listed_least head next [] h k d within = absurd (omega arith)
listed_least head next (f ∷ fs) h zero d within = omega arith
listed_least head next (f ∷ fs) h (suc k) d within =
    let rest = listed_least head next fs h.3 k d (omega arith) in
    let less = h.0 in
    omega (arith, rest, less)

pub listed_rises : (head next : ℕ) (fs : List FrameAt) → AreListed head next fs → IsNonDecreasingBy (λ (f : FrameAt). f.first) fs
listed_rises head next [] h i j d le within = absurd (omega arith)
listed_rises head next (f ∷ fs) h zero j d le within = listed_least head next (f ∷ fs) h j d within
listed_rises head next (f ∷ fs) h (suc i) zero d le within = absurd (omega arith)
listed_rises head next (f ∷ fs) h (suc i) (suc j) d le within = listed_rises head next fs h.3 i j d (omega arith) (omega arith)

some_group : (rs : List LogRecord) → 1 ≤ length (texts rs) → 1 ≤ length rs
some_group [] some = absurd (omega (arith, some))
some_group (r ∷ rs) some = omega arith

-- the index of some groups is listed
pub index_first : (n place head next : ℕ) (gs : List (List LogRecord)) → next ≡ n + length (joined gs) → first_in next (index_of n place gs) ≡ n
index_first n place head next [] is = omega (arith, is)
index_first n place head next (g ∷ gs) is = refl

pub index_place : (n place head : ℕ) (gs : List (List LogRecord)) → head ≡ place + length (text n gs) → place_in head (index_of n place gs) ≡ place
index_place n place head [] is = omega (arith, is)
index_place n place head (g ∷ gs) is = refl

pub index_listed : (n place head next : ℕ) (gs : List (List LogRecord)) → AreGroups n gs → head ≡ place + length (text n gs) → next ≡ n + length (joined gs) → place + 65549 ≤ 65549 * n → AreListed head next (index_of n place gs)
index_listed n place head next [] are is count near = tt
index_listed n place head next (g ∷ gs) are is count near =
    let long : length (text n (g ∷ gs)) ≡ 13 + length (texts g) + length (text (n + length g) gs) = omega (arith, length-append (behind_gate n (texts g)) (text (n + length g) gs), length-behind_gate n (texts g)) in
    let sum : length (joined (g ∷ gs)) ≡ length g + length (joined gs) = length-append g (joined gs) in
    let some : 1 ≤ length g = some_group g are.0.some in
    let dense = texts_least g in
    let most = are.0.most in
    let later = n + length g in
    let on = place + (13 + length (texts g)) in
    let head_is : head ≡ on + length (text later gs) = omega (arith, is, long) in
    let next_is : next ≡ later + length (joined gs) = omega (arith, count, sum) in
    let first = index_first later on head next gs next_is in
    let there = index_place later on head gs head_is in
    (omega (arith, first, some), omega (arith, there, first, dense), near, index_listed later on head next gs are.1 head_is next_is (omega (arith, near, most, some)))

chosen_true : {A : Type 0} (b : Bool) (x y : A) → b ≡ true → (if b then x else y) ≡ x
chosen_true true x y is = refl
chosen_true false x y is = absurd cc

chosen_false : {A : Type 0} (b : Bool) (x y : A) → b ≡ false → (if b then x else y) ≡ y
chosen_false true x y is = absurd cc
chosen_false false x y is = refl

pub with_below : (fs : List FrameAt) (number : ℕ) (at : FrameAt) → at.first ≤ number → (frame_with number at fs).first ≤ number
with_below [] number at le = le
with_below (f ∷ fs) number at le = elim (cases_lt number f.first) [
  | inl over ↦ subst (λ (x : FrameAt). x.first ≤ number) (sym (chosen_false (nat_le f.first number) (frame_with number f fs) at (lt-leb f.first number over))) le
  | inr less ↦
      subst (λ (x : FrameAt). x.first ≤ number) (sym (chosen_true (nat_le f.first number) (frame_with number f fs) at (le-leb f.first number less))) (with_below fs number f less)
]

-- frames take no more than one of the longest for each record
pub text_long : (n : ℕ) (gs : List (List LogRecord)) → AreGroups n gs → length (text n gs) ≤ 65549 * length (joined gs)
text_long n [] are = omega arith
text_long n (g ∷ gs) are =
    let rest = text_long (n + length g) gs are.1 in
    let count : length (joined (g ∷ gs)) ≡ length g + length (joined gs) = length-append g (joined gs) in
    let some : 1 ≤ length g = some_group g are.0.some in
    omega (arith, rest, count, some, are.0.most, length-append (behind_gate n (texts g)) (text (n + length g) gs), length-behind_gate n (texts g))

-- the last frame that begins no later than a number is the one before all that begin later
pub with_at : (fs : List FrameAt) (number i : ℕ) (at : FrameAt) → i ≤ length fs → ((k : ℕ) (d : FrameAt) → k < i → (slice_index_or fs k d).first ≤ number)
    → ((k : ℕ) (d : FrameAt) → i ≤ k → k < length fs → number < (slice_index_or fs k d).first) → slice_get (at ∷ fs) i ≡ Some (frame_with number at fs)
with_at [] number zero at within low high = refl
with_at [] number (suc i) at within low high = absurd (omega (arith, within))
with_at (f ∷ fs) number zero at within low high =
    let over = high 0 f (omega arith) (omega arith) in
    ap Some (sym (chosen_false (nat_le f.first number) (frame_with number f fs) at (lt-leb f.first number over)))
with_at (f ∷ fs) number (suc i) at within low high =
    let le = low 0 f (omega arith) in
    with_at fs number i f (omega (arith, within)) (λ k d lt. low (suc k) d (omega arith)) (λ k d lt less. high (suc k) d (omega arith) (omega arith))
    ∙ ap Some (sym (chosen_true (nat_le f.first number) (frame_with number f fs) at (le-leb f.first number le)))

pub one_before : (fs : List FrameAt) (i : ℕ) (at f : FrameAt) → 1 ≤ i → slice_get (at ∷ fs) i ≡ Some f → slice_get fs (i - 1) ≡ Some f
one_before fs zero at f some is = absurd (omega (arith, some))
one_before fs (suc i) at f some is = ap (slice_get fs) (omega arith) ∙ is

pub none_low : (next : ℕ) (fs : List FrameAt) (number i : ℕ) → number < first_in next fs → i ≤ length fs → ((k : ℕ) (d : FrameAt) → k < i → (slice_index_or fs k d).first ≤ number) → i ≡ 0
none_low next fs number zero below most low = refl
none_low next [] number (suc i) below most low = absurd (omega (arith, most))
none_low next (f ∷ fs) number (suc i) below most low = let h = low 0 f (omega arith) in absurd (omega (arith, h, below))

pub some_low : (next : ℕ) (fs : List FrameAt) (number i : ℕ) → 0 < length fs → first_in next fs ≤ number → ((k : ℕ) (d : FrameAt) → i ≤ k → k < length fs → number < (slice_index_or fs k d).first) → 1 ≤ i
some_low next fs number (suc i) some le high = omega arith
some_low next [] number zero some le high = absurd (omega (arith, some))
some_low next (f ∷ fs) number zero some le high = let h = high 0 f (omega arith) (omega arith) in absurd (omega (arith, h, le))

-- an index at which something stands
pub there_is : (fs : List FrameAt) (n : ℕ) (f : FrameAt) → slice_get fs n ≡ Some f → n < length fs
there_is [] n f at = cc
there_is (g ∷ fs) zero f at = omega arith
there_is (g ∷ fs) (suc n) f at = let less = there_is fs n f at in omega (arith, less)

-- ---- the frame of a number

-- all frames before an index begin no later, and all others later: the record is in the one before that index
pub in_group : (tail place : ℕ) (gs : List (List LogRecord)) (number i : ℕ) → tail ≤ number → number < number_behind tail gs
    → ((k : ℕ) (d : FrameAt) → k < i → (slice_index_or (index_of tail place gs) k d).first ≤ number)
    → ((k : ℕ) (d : FrameAt) → i ≤ k → k < length (index_of tail place gs) → number < (slice_index_or (index_of tail place gs) k d).first)
    → i ≤ length (index_of tail place gs) → IsInGroup tail gs number (i - 1)
in_group tail place [] number i least below low high within = absurd (omega arith)
in_group tail place (g ∷ gs) number zero least below low high within =
    let first = high 0 (record { first = tail; place = place }) (omega arith) (omega arith) in absurd (omega (arith, first))
in_group tail place (g ∷ gs) number (suc i) least below low high within = elim (cases_lt number (tail + length g)) [
  | inl here ↦ record {
    before = [];
    group = g;
    after = gs;
    parts = refl;
    count_is = let none = last gs i here (λ k d lt. low (suc k) d (omega arith)) (omega arith) in omega (arith, none);
    first = least;
    last = here;
  }
  | inr later ↦
      let rest = in_group (tail + length g) (place + (13 + length (texts g))) gs number i later below (λ k d lt. low (suc k) d (omega arith)) (λ k d le lt. high (suc k) d (omega arith) (omega arith)) (omega arith) in
      let some : 1 ≤ i = some_left gs i later below (λ k d le lt. high (suc k) d (omega arith) (omega arith)) in
      record {
        before = g ∷ rest.before;
        group = rest.group;
        after = rest.after;
        parts = ap (λ l. g ∷ l) rest.parts;
        count_is = let is = rest.count_is in omega (arith, is, some);
        first = rest.first;
        last = rest.last;
      }
]
  where
    -- the next frame begins later
    last : (gs : List (List LogRecord)) (i : ℕ) → number < tail + length g
        → ((k : ℕ) (d : FrameAt) → k < i → (slice_index_or (index_of (tail + length g) (place + (13 + length (texts g))) gs) k d).first ≤ number)
        → i ≤ length (index_of (tail + length g) (place + (13 + length (texts g))) gs) → i ≡ 0
    last gs zero here low within = refl
    last [] (suc i) here low within = absurd (omega arith)
    last (h ∷ gs) (suc i) here low within = let first = low 0 (record { first = tail; place = place }) (omega arith) in absurd (omega (arith, here, first))

    some_left : (gs : List (List LogRecord)) (i : ℕ) → tail + length g ≤ number → number < number_behind (tail + length g) gs
        → ((k : ℕ) (d : FrameAt) → i ≤ k → k < length (index_of (tail + length g) (place + (13 + length (texts g))) gs)
        → number < (slice_index_or (index_of (tail + length g) (place + (13 + length (texts g))) gs) k d).first) → 1 ≤ i
    some_left gs (suc i) later below high = omega arith
    some_left [] zero later below high = absurd (omega (arith, later, below))
    some_left (h ∷ gs) zero later below high = let first = high 0 (record { first = tail; place = place }) (omega arith) (omega arith) in absurd (omega (arith, later, first))

-- a test of a list's length
pub is_none : (b : Bool) (n k : ℕ) → b ≡ eqb n 0 → n ≡ k → b ≡ true → k ≡ 0
is_none b n k is same t = let none = eqb-true n 0 (sym is ∙ t) in omega (arith, none, same)

pub is_some : (b : Bool) (n k : ℕ) → b ≡ eqb n 0 → n ≡ k → b ≡ false → 0 < k
is_some b n k is same f = let some = eqb-false n 0 (sym is ∙ f) in omega (arith, some, same)

-- a number that is kept is in a frame
pub none_kept : (tail place : ℕ) (gs : List (List LogRecord)) (forced number : ℕ) → length (index_of tail place gs) ≡ 0 → tail + forced ≡ number_behind tail gs → tail ≤ number → number < tail + forced → ⊥
none_kept tail place [] forced number none last least most = omega (arith, last, least, most)
none_kept tail place (g ∷ gs) forced number none last least most = absurd (omega (arith, none))

-- the frame of the index that stands there
pub frame_there : (tail place : ℕ) (gs : List (List LogRecord)) (fs : List FrameAt) (number count : ℕ) (f : FrameAt) → fs ≡ index_of tail place gs → slice_get fs count ≡ Some f → (n : IsInGroup tail gs number count)
    → f ≡ record { first = number_behind tail n.before; place = place + length (text tail n.before) }
frame_there tail place gs fs number count f listed at n =
    unwrap (sym at ∙ ap (λ l. slice_get l count) listed ∙ ap (λ hs. slice_get (index_of tail place hs) count) n.parts
    ∙ ap (slice_get (index_of tail place (n.before ++ n.group ∷ n.after))) n.count_is ∙ index_at tail place n.before n.group n.after)

pub frame_is : {D : Type 0} {G : Ghosts D} (tail place : ℕ) (log : LogDev D G) (front : List ℕ) (s : IsSettledFrom tail place log front) (number count : ℕ) (f : FrameAt) (offset : ℕ)
    → length s.image ≡ 4096 + log.stream_bytes → slice_get log.frames.items count ≡ Some f → IsInGroup tail s.groups number count → offset ≡ byte_of log.stream_bytes f.place
    → IsFrameOf tail place s.image number offset
frame_is tail place log front s number count f offset long at n is =
    let there = frame_there tail place s.groups log.frames.items number count f s.holds.index at n in
    let bytes : length (stream_of s.image) ≡ log.stream_bytes = omega (arith, length-drop 4096 s.image, long) in
    record {
      before = n.before;
      group = n.group;
      after = n.after;
      rest = s.ring.gate ∷ s.ring.rest;
      groups = subst (AreGroups tail) n.parts s.ring.are;
      parts = s.ring.stands ∙ ap (λ gs. text tail gs ++ s.ring.gate ∷ s.ring.rest) n.parts;
      offset_is = is ∙ ap (λ (k : ℕ). byte_of k f.place) (sym bytes) ∙ ap (λ (x : FrameAt). byte_of (length (stream_of s.image)) x.place) there;
      first = n.first;
      last = n.last;
    }

-- ---- a cut

pub seen_some : {D : Type 0} {G : Ghosts D} (tail place : ℕ) (log : LogDev D G) (front : List ℕ) (group : List LogRecord) (s : IsStagedFrom tail place log front group) → 0 < length (stream_of s.image)
seen_some tail place log front group s =
    omega (arith, ap length s.seen, length-append (text tail s.groups) (s.gate ∷ (behind_gate (number_behind tail s.groups) (texts group) ++ 0 ∷ s.rest)), length-from_place place (stream_of s.image))

pub some_at : (xs : List FrameAt) (n : ℕ) (x : FrameAt) → n < length xs → x ≡ slice_index_or xs n x → slice_get xs n ≡ Some x
some_at [] n x lt is = absurd (omega arith)
some_at (y ∷ xs) zero x lt is = ap Some (sym is)
some_at (y ∷ xs) (suc n) x lt is = some_at xs n x (omega arith) is

-- what is left of a list that was turned and cut off
pub left_behind : (xs new mid : List FrameAt) (count left : ℕ) → new ≡ take left mid → mid ≡ drop count xs ++ take count xs → left + count ≡ length xs → new ≡ drop count xs
left_behind xs new mid count left is turned all = is ∙ ap (take left) turned ∙ take_at (drop count xs) (take count xs) left (omega (arith, length-drop count xs))

-- what is left of the first so many of a list, once some of these are gone
pub taken_behind : {A : Type 0} (xs : List A) (gone count : ℕ) → gone ≤ count → count ≤ length xs → take (count - gone) (drop gone xs) ≡ drop gone (take count xs)
taken_behind xs zero count le within = ap (λ n. take n xs) (omega arith)
taken_behind [] (suc gone) count le within = absurd (omega (arith, le, within))
taken_behind (x ∷ xs) (suc gone) zero le within = absurd (omega (arith, le))
taken_behind (x ∷ xs) (suc gone) (suc count) le within = ap (λ n. take n (drop gone xs)) (omega arith) ∙ taken_behind xs gone count (omega (arith, le)) (omega (arith, within))

module _ {D : Type 0} {G : Ghosts D} (tail place : ℕ) (old new : LogDev D G) (groups : List (List LogRecord)) (h : HoldsFrom tail place old groups) (count : ℕ) (f : FrameAt)
    (at : slice_get old.frames.items count ≡ Some f) (device : new.device ≡ old.device) (at_tail : new.tail ≡ f) (head : new.head ≡ old.head)
    (frames : new.frames.items ≡ drop count old.frames.items) (stays : stable new ≡ drop (f.first - old.tail.first) (stable old)) (forced : new.forced + (f.first - old.tail.first) ≡ old.forced)
    (waits : waiting new ≡ waiting old) where
  w : IsAtFrame tail place groups count f
  w = at_frame tail place groups count f (ap (λ l. slice_get l count) (sym h.index) ∙ at)

  cut_holds : HoldsFrom f.first f.place new w.left
  cut_holds =
      let counted = number_behind-joined tail w.gone in
      let gone : f.first - old.tail.first ≡ length (joined w.gone) = omega (arith, w.first, counted, h.first) in
      let split = ap (λ gs. length (text tail gs)) w.parts in
      let texts_are = ap length (text-append tail w.gone w.left) in
      let sum = length-append (text tail w.gone) (text (number_behind tail w.gone) w.left) in
      let here : old.head ≡ f.place + length (text (number_behind tail w.gone) w.left) = omega (arith, h.head, w.place_is, split, texts_are, sum) in
      let numbers = number_behind-append tail w.gone w.left in
      let again = ap (λ t. number_behind t w.left) (sym w.first) in
      let whole = ap (number_behind tail) w.parts in
      record {
        honest = subst (λ d. IsTrue (G.is_honest d)) (sym device) h.honest;
        some = omega (arith, w.first, counted, h.some);
        first = ap (λ (x : FrameAt). x.first) at_tail;
        place_is = ap (λ (x : FrameAt). x.place) at_tail;
        forced =
            stays ∙ ap (λ k. drop k (stable old)) gone
            ∙ ap (drop (length (joined w.gone))) (h.forced ∙ ap joined w.parts ∙ joined-append w.gone w.left) ∙ drop_at (joined w.gone) (joined w.left) (length (joined w.gone)) refl;
        number = omega (arith, forced, gone, counted, w.first, h.number, whole, numbers, again);
        head = head ∙ here ∙ ap (λ t. f.place + length (text t w.left)) (sym w.first);
        index = frames ∙ ap (drop count) h.index ∙ w.index;
      }

  pub cut_settled : (front image : List ℕ) → Stands (G.history old.device) image → take 4096 image ≡ front → IsRing (stream_of image) tail place groups → IsSettledFrom f.first f.place new front
  cut_settled front image stands is_front ring =
      let whole = subst (IsRing (stream_of image) tail place) w.parts ring in
      let cut = ring_cut (stream_of image) tail place w.gone w.left (ring_some (stream_of image) tail place groups ring) whole in
      record {
        image = image;
        stands = subst (λ d. Stands (G.history d) image) (sym device) stands;
        is_front = is_front;
        groups = w.left;
        holds = cut_holds;
        ring = subst (λ p. IsRing (stream_of image) f.first p w.left) (sym w.place_is) (subst (λ t. IsRing (stream_of image) t (place + length (text tail w.gone)) w.left) (sym w.first) cut);
      }

  pub cut_staged : (front : List ℕ) (group : List LogRecord) (s : IsStagedFrom tail place old front group) → s.groups ≡ groups → 0 < length (stream_of s.image) → new.staged ≡ old.staged → IsStagedFrom f.first f.place new front group
  cut_staged front group s same some staged =
      let parts : s.groups ≡ w.gone ++ w.left = same ∙ w.parts in
      let behind = behind_gate (number_behind tail s.groups) (texts group) ++ 0 ∷ s.rest in
      let seen = seen_cut (stream_of s.image) tail place w.gone w.left (s.gate ∷ behind) some (s.seen ∙ ap (λ gs. text tail gs ++ s.gate ∷ behind) parts) in
      let number : number_behind tail s.groups ≡ number_behind f.first w.left = ap (number_behind tail) parts ∙ number_behind-append tail w.gone w.left ∙ ap (λ t. number_behind t w.left) (sym w.first) in
      let over = text tail w.gone in
      record {
        image = s.image;
        stands = subst (λ d. Stands (G.history d) s.image) (sym device) s.stands;
        is_front = s.is_front;
        groups = w.left;
        holds = cut_holds;
        gate = s.gate;
        rest = s.rest ++ over;
        shut = s.shut;
        are = subst (λ t. AreGroups t (w.left ++ group ∷ [])) (sym w.first)
            (groups_behind tail w.gone (w.left ++ group ∷ []) (subst (AreGroups tail) (ap (λ gs. gs ++ group ∷ []) parts ∙ append_assoc w.gone w.left (group ∷ [])) s.are));
        seen =
            ap (λ p. from_place p (stream_of s.image)) w.place_is ∙ seen
            ∙ ap (λ l. text (number_behind tail w.gone) w.left ++ s.gate ∷ l) (append_assoc (behind_gate (number_behind tail s.groups) (texts group)) (0 ∷ s.rest) over)
            ∙ ap (λ n. text (number_behind tail w.gone) w.left ++ s.gate ∷ (behind_gate n (texts group) ++ 0 ∷ (s.rest ++ over))) number
            ∙ ap (λ t. text t w.left ++ s.gate ∷ (behind_gate (number_behind f.first w.left) (texts group) ++ 0 ∷ (s.rest ++ over))) (sym w.first);
        first = ap (take (length group)) waits ∙ s.first;
        waits = staged ∙ s.waits;
      }
