-- Frames in a ring: what a force and a cut leave.
use Rattle.std.proofs.Common.{◌≡◌, ◌⊎◌, inl, inr, ⊎_elim, ◌≤◌, ◌<◌, ◌+◌, ◌%◌, ℕ, List, [], ◌∷◌, ◌++◌, refl, sym, ap, subst, ◌∙◌, length, take, drop, arith, append_assoc, length-append, length-drop, mod-lt}
use Rattle.std.proofs.lemmas.Bool.{cases_eq}
use Rattle.shore_disk.specs.Device.{overwritten}
use Rattle.shore_disk.proofs.Images.{overwritten-append}
use Rattle.shore_gate.specs.declared.gates.TheConstants.{OPEN}
use Rattle.shore_model.specs.declared.log_records.LogRecord.{LogRecord}
use Rattle.shore_logrec.specs.Text.{texts}
use Rattle.shore_frames.specs.Frames.{AreGroups, Frames, GivesBehindFrom, GivesFrom, GivesWithOrWithoutFrom, behind_gate, joined, number_behind, text}
use Rattle.shore_frames.proofs.FrameLemmas.{AreGroups-front, closed_behind, groups_behind, joined-push, parts_of, text-append, text-push}
use Rattle.shore_frames.specs.Places.{from_place, stream_of, turned_by}
use Rattle.shore_frames.specs.Rings.{IsRing, IsRingWritten, TornBoth, TornRing}
use Rattle.shore_frames.proofs.Turns.{from_further, length-from_place, seen_earlier, turned_parts}

-- a ring has a byte at least
pub ring_some : (stream : List ℕ) (tail place : ℕ) (gs : List (List LogRecord)) → IsRing stream tail place gs → 0 < length stream
ring_some stream tail place gs r =
    omega (arith, ap length r.stands, length-append (text tail gs) (r.gate ∷ r.rest), length-from_place place stream)

-- ---- one image

-- a ring in an image, seen from its tail
module _ (image : List ℕ) (tail place : ℕ) (some : 0 < length (stream_of image)) where
  pub ring_gives : (gs : List (List LogRecord)) → IsRing (stream_of image) tail place gs → GivesFrom tail place (joined gs) image
  ring_gives gs r = (gs, subst (λ bytes. Frames tail bytes gs) (sym r.stands) (closed_behind tail gs r.gate r.rest r.are r.shut), refl)

  pub gives_ring : (rs : List LogRecord) → GivesFrom tail place rs image → (gs : List (List LogRecord)) × IsRing (stream_of image) tail place gs × (rs ≡ joined gs)
  gives_ring rs g = let p = parts_of tail (from_place place (stream_of image)) g.0 g.1 in (g.0, record { gate = p.gate; rest = p.rest; shut = p.shut; are = p.groups; stands = p.is }, g.2)

  module _ (gs : List (List LogRecord)) where
    abbrev len : ℕ
    len = length (text tail gs)

    -- a write at so many bytes behind the tail, as a write in a row
    row : (new bytes : List ℕ) (behind : ℕ) → IsRingWritten (place + behind) bytes image new → behind + length bytes ≤ length (stream_of image)
        → from_place place (stream_of new) ≡ overwritten (from_place place (stream_of image)) behind bytes
    row new bytes behind w fits =
        seen_earlier (stream_of image) bytes (stream_of new) place behind some fits
        (record { as_long = omega (arith, length-drop 4096 image, length-drop 4096 new, w.as_long); seen = w.seen })

    -- behind the closed gate anything may be written: the same frames stand
    pub behind_gate_written : (new bytes : List ℕ) → IsRingWritten (place + (len + 1)) bytes image new → len + 1 + length bytes ≤ length (stream_of image)
        → (r : IsRing (stream_of image) tail place gs) → from_place place (stream_of new) ≡ text tail gs ++ r.gate ∷ (bytes ++ drop (length bytes) r.rest)
    behind_gate_written new bytes w fits r =
        let before = text tail gs ++ r.gate ∷ [] in
        row new bytes (len + 1) w fits
        ∙ ap (λ (l : List ℕ). overwritten l (len + 1) bytes) (r.stands ∙ sym (append_assoc (text tail gs) (r.gate ∷ []) r.rest))
        ∙ overwritten-append before r.rest (len + 1) bytes (length-append (text tail gs) (r.gate ∷ []))
        ∙ append_assoc (text tail gs) (r.gate ∷ []) (bytes ++ drop (length bytes) r.rest)

    pub ring_behind : (new bytes : List ℕ) → IsRingWritten (place + (len + 1)) bytes image new → len + 1 + length bytes ≤ length (stream_of image)
        → IsRing (stream_of image) tail place gs → IsRing (stream_of new) tail place gs
    ring_behind new bytes w fits r = record { gate = r.gate; rest = bytes ++ drop (length bytes) r.rest; shut = r.shut; are = r.are; stands = behind_gate_written new bytes w fits r }

    -- the gate itself is written
    gate_written : (new : List ℕ) (b gate : ℕ) (rest : List ℕ) → from_place place (stream_of image) ≡ text tail gs ++ gate ∷ rest
        → IsRingWritten (place + len) (b ∷ []) image new → len + 1 ≤ length (stream_of image) → from_place place (stream_of new) ≡ text tail gs ++ b ∷ rest
    gate_written new b gate rest stands w fits =
        row new (b ∷ []) len w fits ∙ ap (λ (l : List ℕ). overwritten l len (b ∷ [])) stands ∙ overwritten-append (text tail gs) (gate ∷ rest) len (b ∷ []) refl

    -- a frame stands behind the closed gate, and a closed gate behind it
    module _ (g : List LogRecord) (are : AreGroups tail (gs ++ g ∷ [])) (gate : ℕ) (rest : List ℕ)
        (stands : from_place place (stream_of image) ≡ text tail gs ++ gate ∷ (behind_gate (number_behind tail gs) (texts g) ++ 0 ∷ rest)) (fits : len + 1 ≤ length (stream_of image)) where
      pub any_gate : (new : List ℕ) (b : ℕ) → IsRingWritten (place + len) (b ∷ []) image new
          → GivesFrom tail place (joined gs) new ⊎ GivesFrom tail place (joined gs ++ g) new
      any_gate new b w =
          let seen = gate_written new b gate (behind_gate (number_behind tail gs) (texts g) ++ 0 ∷ rest) stands w fits in
          elim (cases_eq b OPEN) [
            | inl is_open ↦ inr (
              gs ++ g ∷ [],
              subst (λ bytes. Frames tail bytes (gs ++ g ∷ []))
                  (text-push tail gs g (0 ∷ rest)
                  ∙ ap (λ c. text tail gs ++ c ∷ (behind_gate (number_behind tail gs) (texts g) ++ 0 ∷ rest)) (sym is_open) ∙ sym seen)
                  (closed_behind tail (gs ++ g ∷ []) 0 rest are (omega arith)),
              sym (joined-push gs g),
            )
            | inr shut ↦ inl (
              gs,
              subst (λ bytes. Frames tail bytes gs) (sym seen)
                  (closed_behind tail gs b (behind_gate (number_behind tail gs) (texts g) ++ 0 ∷ rest) (AreGroups-front tail gs g are) shut),
              refl,
            )
          ]

      -- where the next frame's bytes go
      abbrev next_at : ℕ
      next_at = len + 1 + length (behind_gate (number_behind tail gs) (texts g)) + 1

      -- behind the gate that is closed behind it anything may be written: it stands there as before
      pub behind_frame_written : (new bytes : List ℕ) → IsRingWritten (place + next_at) bytes image new → next_at + length bytes ≤ length (stream_of image)
          → from_place place (stream_of new) ≡ text tail gs ++ gate ∷ (behind_gate (number_behind tail gs) (texts g) ++ 0 ∷ (bytes ++ drop (length bytes) rest))
      behind_frame_written new bytes w within =
          let body = behind_gate (number_behind tail gs) (texts g) in
          let before = text tail gs ++ gate ∷ (body ++ 0 ∷ []) in
          let whole : (more : List ℕ) → before ++ more ≡ text tail gs ++ gate ∷ (body ++ 0 ∷ more) =
          λ more. append_assoc (text tail gs) (gate ∷ (body ++ 0 ∷ [])) more ∙ ap (λ (l : List ℕ). text tail gs ++ gate ∷ l) (append_assoc body (0 ∷ []) more) in
          let size : length before ≡ next_at = omega (arith, length-append (text tail gs) (gate ∷ (body ++ 0 ∷ [])), length-append body (0 ∷ [])) in
          row new bytes next_at w within
          ∙ ap (λ (l : List ℕ). overwritten l next_at bytes) (stands ∙ sym (whole rest))
          ∙ overwritten-append before rest next_at bytes size
          ∙ whole (bytes ++ drop (length bytes) rest)

      -- .. and once it is open, the ring has one frame more
      pub ring_opened : (new : List ℕ) → IsRingWritten (place + len) (OPEN ∷ []) image new → IsRing (stream_of new) tail place (gs ++ g ∷ [])
      ring_opened new w = record {
        gate = 0;
        rest = rest;
        shut = omega arith;
        are = are;
        stands = gate_written new OPEN gate (behind_gate (number_behind tail gs) (texts g) ++ 0 ∷ rest) stands w fits ∙ sym (text-push tail gs g (0 ∷ rest));
      }

one_byte : (bytes : List ℕ) → length bytes ≡ 1 → (b : ℕ) × (bytes ≡ b ∷ [])
one_byte [] is = absurd (omega arith)
one_byte (b ∷ []) is = (b, refl)
one_byte (b ∷ d ∷ bytes) is = absurd (omega arith)

module _ (front image : List ℕ) (is_front : take 4096 image ≡ front) (tail place : ℕ) (some : 0 < length (stream_of image)) (gs : List (List LogRecord)) where
  -- a stage, cut off anywhere: the durable records
  pub stage_torn : IsRing (stream_of image) tail place gs → (n : ℕ) (new : List ℕ) → length (text tail gs) + 1 + n ≤ length (stream_of image)
      → TornRing (place + (length (text tail gs) + 1)) n image new → GivesBehindFrom front tail place (joined gs) new
  stage_torn r n new fits torn =
      let long = torn.1 in
      let some_new : 0 < length (stream_of new) = omega (arith, length-drop 4096 image, length-drop 4096 new, torn.2.as_long) in
      (torn.2.front ∙ is_front, ring_gives new tail place some_new gs (ring_behind image tail place some gs new torn.0 torn.2 (omega arith) r))

  pub open_torn : (g : List LogRecord) → AreGroups tail (gs ++ g ∷ []) → (gate : ℕ) (rest : List ℕ)
      → from_place place (stream_of image) ≡ text tail gs ++ gate ∷ (behind_gate (number_behind tail gs) (texts g) ++ 0 ∷ rest) → length (text tail gs) + 1 ≤ length (stream_of image)
      → (new : List ℕ) → TornRing (place + length (text tail gs)) 1 image new → GivesWithOrWithoutFrom front tail place (joined gs) g new
  open_torn g are gate rest stands fits new torn =
      let b = one_byte torn.0 torn.1 in
      let w : IsRingWritten (place + length (text tail gs)) (b.0 ∷ []) image new = subst (λ bytes. IsRingWritten (place + length (text tail gs)) bytes image new) b.1 torn.2 in
      ⊎_elim (λ without. inl (w.front ∙ is_front, without)) (λ with_it. inr (w.front ∙ is_front, with_it))
      (any_gate image tail place some gs g are gate rest stands fits new b.0 w)

-- ---- the gate is opened, and the next frame is staged, by one sync

module _ (image : List ℕ) (tail place : ℕ) (some : 0 < length (stream_of image)) (gs : List (List LogRecord)) (g : List LogRecord) (are : AreGroups tail (gs ++ g ∷ [])) (gate : ℕ) (rest : List ℕ)
    (stands : from_place place (stream_of image) ≡ text tail gs ++ gate ∷ (behind_gate (number_behind tail gs) (texts g) ++ 0 ∷ rest)) (fits : length (text tail gs) + 1 ≤ length (stream_of image)) where
  abbrev behind : ℕ
  behind = length (text tail gs) + 1 + length (behind_gate (number_behind tail gs) (texts g)) + 1

  -- cut off anywhere: the records with the frame or without it
  pub both_torn : (front : List ℕ) → take 4096 image ≡ front → (n : ℕ) (new : List ℕ) → behind + n ≤ length (stream_of image)
      → TornBoth (place + behind) n (place + length (text tail gs)) image new → GivesWithOrWithoutFrom front tail place (joined gs) g new
  both_torn front is_front n new within torn =
      let mid = torn.0 in
      let one = torn.1 in
      let bytes = one.0 in
      let size : length bytes ≡ n = one.1 in
      let as_long : length (stream_of mid) ≡ length (stream_of image) = omega (arith, length-drop 4096 image, length-drop 4096 mid, one.2.as_long) in
      let seen = behind_frame_written image tail place some gs g are gate rest stands fits mid bytes one.2 (omega (arith, size)) in
      open_torn front mid (one.2.front ∙ is_front) tail place (omega (arith, as_long)) gs g are gate (bytes ++ drop (length bytes) rest) seen (omega (arith, as_long)) new torn.2

  -- and then the frame is open, and these bytes stand behind the closed gate that is behind it
  pub both_seen : (bytes mid new : List ℕ) → behind + length bytes ≤ length (stream_of image) → IsRingWritten (place + behind) bytes image mid → IsRingWritten (place + length (text tail gs)) (OPEN ∷ []) mid new
      → from_place place (stream_of new) ≡ text tail (gs ++ g ∷ []) ++ 0 ∷ (bytes ++ drop (length bytes) rest)
  both_seen bytes mid new within one two =
      let as_long : length (stream_of mid) ≡ length (stream_of image) = omega (arith, length-drop 4096 image, length-drop 4096 mid, one.as_long) in
      let seen = behind_frame_written image tail place some gs g are gate rest stands fits mid bytes one within in
      gate_written mid tail place (omega (arith, as_long)) gs new OPEN gate (behind_gate (number_behind tail gs) (texts g) ++ 0 ∷ (bytes ++ drop (length bytes) rest)) seen two (omega (arith, as_long))
      ∙ sym (text-push tail gs g (0 ∷ (bytes ++ drop (length bytes) rest)))

-- ---- a cut

-- the same stream, read from a later frame on
pub seen_cut : (stream : List ℕ) (tail place : ℕ) (gs hs : List (List LogRecord)) (more : List ℕ) → 0 < length stream → from_place place stream ≡ text tail (gs ++ hs) ++ more
    → from_place (place + length (text tail gs)) stream ≡ text (number_behind tail gs) hs ++ (more ++ text tail gs)
seen_cut stream tail place gs hs more some seen =
    let left = text (number_behind tail gs) hs in
    let whole : from_place place stream ≡ text tail gs ++ (left ++ more) = seen ∙ ap (λ (l : List ℕ). l ++ more) (text-append tail gs hs) ∙ append_assoc (text tail gs) left more in
    let long = length-from_place place stream in
    let within : length (text tail gs) ≤ length stream = omega (arith, ap length whole, length-append (text tail gs) (left ++ more)) in
    from_further stream place (length (text tail gs)) some within ∙ ap (turned_by (length (text tail gs))) whole
    ∙ turned_parts (text tail gs) (left ++ more) (length (text tail gs)) refl ∙ append_assoc left more (text tail gs)

pub ring_cut : (stream : List ℕ) (tail place : ℕ) (gs hs : List (List LogRecord)) → 0 < length stream → IsRing stream tail place (gs ++ hs)
    → IsRing stream (number_behind tail gs) (place + length (text tail gs)) hs
ring_cut stream tail place gs hs some r = record {
  gate = r.gate;
  rest = r.rest ++ text tail gs;
  shut = r.shut;
  are = groups_behind tail gs hs r.are;
  stands = seen_cut stream tail place gs hs (r.gate ∷ r.rest) some r.stands;
}
