-- What a device in memory keeps, and the image that a crash picks.
use Rattle.std.proofs.Common.{◌≡◌, ◌⊎◌, inl, inr, ℕ, ◌+◌, ◌-◌, ◌<◌, ◌≤◌, Bool, true, false, List, [], ◌∷◌, ◌++◌, length, get_or, take, drop, replicate, All, Option, None, Some, refl, sym, ◌∙◌, ap, subst, arith, append_assoc, length-append, add-zero, add-one, drop-cons}
use Rattle.std.specs.Prelude.{if◌then◌else◌}
use Rattle.std.specs.List.{sum_by}
use Rattle.std.proofs.lemmas.List.Sums.{sum_by-cons}
use Rattle.std.specs.Global.{Vec}
use Rattle.std.proofs.lemmas.List.{length-replicate, take_all, take-append-le, drop-append-le, drop-drop, take_more, ext_get_or, get_or-drop, get_or-take, get_or-append_right, get_or_append_left, length-take-le, length-drop, take_at, drop_at}
use Rattle.std.proofs.lemmas.List.Elements.{All-head, All-tail}
use Rattle.std.proofs.lemmas.Bool.{cases_lt}
use Rattle.shore_disk.specs.Device.{Call, wrote, synced, DeviceHistory, Torn, overwritten, seen_after, seen, noted, LeftAfter}
use Rattle.shore_disk.specs.declared.memory.Place.{Place}
use Rattle.shore_disk.specs.declared.memory.Pick.{Pick}
use Rattle.shore_disk.specs.declared.memory.Pick.TheVariants.{Old, New, Noise, Mixed}
use Rattle.shore_disk.specs.Memory.{call_of, calls_onto, history_in, copied, laid, with_noise, is_bit_set, mixed, picked_write, picked_after, picked_from, place_len, unsynced_in, end_of}

-- a call that is noted
calls_onto-push : (older : List Call) (notes : List (Option Place × Vec ℕ)) (note : Option Place × Vec ℕ) → calls_onto older (notes ++ note ∷ []) ≡ call_of note.0 note.1.items ∷ calls_onto older notes
calls_onto-push older [] note = refl
calls_onto-push older (n ∷ notes) note = calls_onto-push (call_of n.0 n.1.items ∷ older) notes note

pub history_in-push : (notes : List (Option Place × Vec ℕ)) (note : Option Place × Vec ℕ) → 0 < length notes → history_in (notes ++ note ∷ []) ≡ noted (history_in notes) (call_of note.0 note.1.items)
history_in-push [] note some = absurd (omega arith)
history_in-push (begun ∷ later) note some = ap (λ (calls : List Call). record { first = begun.1.items; calls = calls }) (calls_onto-push [] later note)

-- one place more
pub laid-push : (from image : List ℕ) (places : List Place) (p : Place) → laid from image (places ++ p ∷ []) ≡ copied from (laid from image places) p
laid-push from image [] p = refl
laid-push from image (q ∷ places) p = laid-push from (copied from image q) places p

pub with_noise-push : (image : List ℕ) (places : List Place) (p : Place) → with_noise image (places ++ p ∷ []) ≡ overwritten (with_noise image places) p.at (replicate p.len 90)
with_noise-push image [] p = refl
with_noise-push image (q ∷ places) p = with_noise-push (overwritten image q.at (replicate q.len 90)) places p

-- whichever image is picked, a crash may leave it
torn_if : (set : Bool) (image : List ℕ) (at : ℕ) (bytes : List ℕ) → Torn at (length bytes) image (if set then overwritten image at bytes else image)
torn_if true image at bytes = inr (bytes, refl, refl)
torn_if false image at bytes = inl refl

picked_torn : (pick : Pick) (index : ℕ) (image : List ℕ) (at : ℕ) (bytes : List ℕ) → Torn at (length bytes) image (picked_write pick index image at bytes)
picked_torn Old index image at bytes = inl refl
picked_torn New index image at bytes = inr (bytes, refl, refl)
picked_torn Noise index image at bytes = inr (replicate (length bytes) 90, length-replicate (length bytes) 90, refl)
picked_torn (Mixed bits) index image at bytes = torn_if (is_bit_set bits index) image at bytes

pub picked_left : (pick : Pick) (first : List ℕ) (calls : List Call) → LeftAfter first calls (picked_after pick first calls)
picked_left pick first [] = refl
picked_left pick first (wrote at bytes ∷ older) = (picked_after pick first older, picked_left pick first older, picked_torn pick (unsynced_in older) (picked_after pick first older) at bytes)
picked_left pick first (synced ∷ older) = refl

-- with the writes standing, the image is what a read gives
picked_new : (first : List ℕ) (calls : List Call) → picked_after New first calls ≡ seen_after first calls
picked_new first [] = refl
picked_new first (wrote at bytes ∷ older) = ap (λ (image : List ℕ). overwritten image at bytes) (picked_new first older)
picked_new first (synced ∷ older) = refl

-- the image that is picked from what is kept
pub picked_is : (pick : Pick) (stable bytes written : List ℕ) (places : List Place) (h : DeviceHistory) → bytes ≡ seen h → stable ≡ picked_after Old h.first h.calls
    → with_noise stable places ≡ picked_after Noise h.first h.calls → ((bits : ℕ) → mixed bits 0 stable written places ≡ picked_after (Mixed bits) h.first h.calls)
    → laid bytes stable places ≡ bytes → picked_from pick stable bytes written places ≡ picked_after pick h.first h.calls
picked_is Old stable bytes written places h seen lost noise mix differ = lost
picked_is New stable bytes written places h seen lost noise mix differ = differ ∙ seen ∙ sym (picked_new h.first h.calls)
picked_is Noise stable bytes written places h seen lost noise mix differ = noise
picked_is (Mixed bits) stable bytes written places h seen lost noise mix differ = mix bits

-- one write more, the last
pub mixed-push : (bits index : ℕ) (image written new : List ℕ) (places : List Place) (at : ℕ) → sum_by place_len places ≡ length written
    → mixed bits index image (written ++ new) (places ++ record { at = at; len = length new } ∷ []) ≡ picked_write (Mixed bits) (index + length places) (mixed bits index image written places) at new
mixed-push bits index image [] new [] at kept =
    ap (λ (l : List ℕ). if is_bit_set bits index then overwritten image at l else image) (take_all (length new) new (omega arith))
    ∙ ap (λ (n : ℕ). picked_write (Mixed bits) n image at new) (sym (add-zero index))
mixed-push bits index image (b ∷ written) new [] at kept = absurd (omega (arith, kept))
mixed-push bits index image written new (p ∷ places) at kept =
    let parts : p.len + sum_by place_len places ≡ length written = sym (sum_by-cons place_len p places) ∙ kept in
    let fits : p.len ≤ length written = omega (arith, parts) in
    let next = λ (l : List ℕ). if is_bit_set bits index then overwritten image p.at l else image in
    let rest : sum_by place_len places ≡ length (drop p.len written) = omega (arith, parts, length-drop p.len written) in
    let count : index + 1 + length places ≡ index + length (p ∷ places) = omega arith in
    ap (λ (l : List ℕ). mixed bits (index + 1) (next l) (drop p.len (written ++ new)) (places ++ record { at = at; len = length new } ∷ [])) (take-append-le p.len written new fits)
    ∙ ap (λ (l : List ℕ). mixed bits (index + 1) (next (take p.len written)) l (places ++ record { at = at; len = length new } ∷ [])) (drop-append-le p.len written new fits)
    ∙ mixed-push bits (index + 1) (next (take p.len written)) (drop p.len written) new places at rest
    ∙ ap (λ (n : ℕ). picked_write (Mixed bits) n (mixed bits (index + 1) (next (take p.len written)) (drop p.len written) places) at new) count

-- what is left from a place on, the first of it taken
pub mixed-next : (bits index from : ℕ) (image written : List ℕ) (places : List Place) (d : Place) → index < length places
    → mixed bits index image (drop from written) (drop index places)
    ≡ mixed bits (index + 1) (if is_bit_set bits index then overwritten image (get_or places index d).at (take (get_or places index d).len (drop from written)) else image)
    (drop (from + (get_or places index d).len) written) (drop (index + 1) places)
mixed-next bits index from image written places d lt =
    let p = get_or places index d in
    ap (λ (l : List Place). mixed bits index image (drop from written) l) (drop-cons places index d lt ∙ ap (λ (n : ℕ). p ∷ drop n places) (sym (add-one index)))
    ∙ ap (λ (l : List ℕ). mixed bits (index + 1) (if is_bit_set bits index then overwritten image p.at (take p.len (drop from written)) else image) l (drop (index + 1) places))
    (drop-drop p.len from written)

-- a byte of an image after a write
at_in : (image bytes : List ℕ) (at i : ℕ) → at ≤ length image → at ≤ i → i < at + length bytes → get_or (overwritten image at bytes) i 0 ≡ get_or bytes (i - at) 0
at_in image bytes at i within from to =
    let front : length (take at image) ≡ at = length-take-le at image within in
    get_or_append_left (take at image ++ bytes) (drop (at + length bytes) image) 0 i (omega (arith, length-append (take at image) bytes, front))
    ∙ get_or-append_right (take at image) bytes at i 0 front from

at_below : (image bytes : List ℕ) (at i : ℕ) → at ≤ length image → i < at → get_or (overwritten image at bytes) i 0 ≡ get_or image i 0
at_below image bytes at i within before =
    let front : length (take at image) ≡ at = length-take-le at image within in
    get_or_append_left (take at image ++ bytes) (drop (at + length bytes) image) 0 i (omega (arith, length-append (take at image) bytes, front))
    ∙ get_or_append_left (take at image) bytes 0 i (omega (arith, front)) ∙ get_or-take at image i 0 before

at_above : (image bytes : List ℕ) (at i : ℕ) → at ≤ length image → at + length bytes ≤ i → get_or (overwritten image at bytes) i 0 ≡ get_or image i 0
at_above image bytes at i within behind =
    let front : length (take at image) ≡ at = length-take-le at image within in
    let end = at + length bytes in
    let is : end + (i - end) ≡ i = omega arith in
    get_or-append_right (take at image ++ bytes) (drop end image) end i 0 (omega (arith, length-append (take at image) bytes, front)) behind
    ∙ get_or-drop end image (i - end) 0 ∙ ap (λ (j : ℕ). get_or image j 0) is

pub length_over : (image bytes : List ℕ) (at : ℕ) → at + length bytes ≤ length image → length (overwritten image at bytes) ≡ length image
length_over image bytes at within =
    omega (arith, length-append (take at image ++ bytes) (drop (at + length bytes) image), length-append (take at image) bytes, length-take-le at image (omega arith), length-drop (at + length bytes) image)

-- a byte is in a place, or before it, or behind it
abbrev Where : Place → ℕ → Type 0
Where p i = ((p.at ≤ i) × (i < end_of p)) ⊎ ((i < p.at) ⊎ (end_of p ≤ i))

where_is : (p : Place) (i : ℕ) → Where p i
where_is p i = elim (cases_lt i p.at) [
  | inl before ↦ inr (inl before)
  | inr from ↦ elim (cases_lt i (end_of p)) [
    | inl to ↦ inl (from, to)
    | inr behind ↦ inr (inr behind)
  ]
]

len_part : (from : List ℕ) (p : Place) → end_of p ≤ length from → length (take p.len (drop p.at from)) ≡ p.len
len_part from p within = length-take-le p.len (drop p.at from) (omega (arith, length-drop p.at from))

pub length_copied : (from image : List ℕ) (p : Place) → end_of p ≤ length from → length from ≡ length image → length (copied from image p) ≡ length image
length_copied from image p within same = length_over image (take p.len (drop p.at from)) p.at (omega (arith, len_part from p within))

copied_in : (from image : List ℕ) (p : Place) (i : ℕ) → end_of p ≤ length from → length from ≡ length image → (p.at ≤ i) × (i < end_of p) → get_or (copied from image p) i 0 ≡ get_or from i 0
copied_in from image p i within same inside =
    let is : p.at + (i - p.at) ≡ i = omega (arith, inside.0) in
    at_in image (take p.len (drop p.at from)) p.at i (omega arith) inside.0 (omega (arith, inside.1, len_part from p within))
    ∙ get_or-take p.len (drop p.at from) (i - p.at) 0 (omega (arith, inside.0, inside.1)) ∙ get_or-drop p.at from (i - p.at) 0 ∙ ap (λ (j : ℕ). get_or from j 0) is

copied_out : (from image : List ℕ) (p : Place) (i : ℕ) → end_of p ≤ length from → length from ≡ length image → (i < p.at) ⊎ (end_of p ≤ i) → get_or (copied from image p) i 0 ≡ get_or image i 0
copied_out from image p i within same (inl before) = at_below image (take p.len (drop p.at from)) p.at i (omega arith) before
copied_out from image p i within same (inr behind) = at_above image (take p.len (drop p.at from)) p.at i (omega arith) (omega (arith, behind, len_part from p within))

copied_same : (a b x y : List ℕ) (p : Place) (i : ℕ) → end_of p ≤ length x → length a ≡ length x → length b ≡ length x → length y ≡ length x
    → get_or a i 0 ≡ get_or b i 0 → get_or x i 0 ≡ get_or y i 0 → get_or (copied a x p) i 0 ≡ get_or (copied b y p) i 0
copied_same a b x y p i within la lb ly from image = elim (where_is p i) [
  | inl inside ↦ copied_in a x p i (omega arith) la inside ∙ from ∙ sym (copied_in b y p i (omega arith) (omega arith) inside)
  | inr outside ↦ copied_out a x p i (omega arith) la outside ∙ image ∙ sym (copied_out b y p i (omega arith) (omega arith) outside)
]

-- a byte of what is laid hangs on that byte of both images alone
laid_same : (a b x y : List ℕ) (places : List Place) (i : ℕ) → All (λ p. end_of p ≤ length x) places → length a ≡ length x → length b ≡ length x → length y ≡ length x
    → get_or a i 0 ≡ get_or b i 0 → get_or x i 0 ≡ get_or y i 0 → get_or (laid a x places) i 0 ≡ get_or (laid b y places) i 0
laid_same a b x y [] i within la lb ly from image = image
laid_same a b x y (p ∷ places) i within la lb ly from image =
    let here : end_of p ≤ length x = All-head (λ q. end_of q ≤ length x) p places within in
    let long : length (copied a x p) ≡ length x = length_copied a x p (omega (arith, here)) la in
    laid_same a b (copied a x p) (copied b y p) places i
    (subst (λ (n : ℕ). All (λ q. end_of q ≤ n) places) (sym long) (All-tail (λ q. end_of q ≤ length x) p places within))
    (omega (arith, long)) (omega (arith, long)) (omega (arith, long, length_copied b y p (omega (arith, here)) (omega arith)))
    from
    (copied_same a b x y p i here la lb ly from image)

pub length_laid : (from image : List ℕ) (places : List Place) → All (λ p. end_of p ≤ length from) places → length from ≡ length image → length (laid from image places) ≡ length image
length_laid from image [] within same = refl
length_laid from image (p ∷ places) within same =
    let long : length (copied from image p) ≡ length image = length_copied from image p (All-head (λ q. end_of q ≤ length from) p places within) same in
    length_laid from (copied from image p) places (All-tail (λ q. end_of q ≤ length from) p places within) (omega (arith, long)) ∙ long

-- After one write more the images differ in its place too, and nowhere else.
pub laid_wrote : (bytes stable new : List ℕ) (at : ℕ) (places : List Place) → at + length new ≤ length bytes → length stable ≡ length bytes → All (λ p. end_of p ≤ length bytes) places
    → laid bytes stable places ≡ bytes → laid (overwritten bytes at new) stable (places ++ record { at = at; len = length new } ∷ []) ≡ overwritten bytes at new
laid_wrote bytes stable new at places fits room within differ =
    let after = overwritten bytes at new in
    let p : Place = record { at = at; len = length new } in
    let long : length after ≡ length bytes = length_over bytes new at fits in
    let all : All (λ q. end_of q ≤ length after) places = subst (λ (n : ℕ). All (λ q. end_of q ≤ n) places) (sym long) within in
    let older = laid after stable places in
    let older_long : length older ≡ length bytes = length_laid after stable places all (omega (arith, long)) ∙ room in
    let in_after : end_of p ≤ length after = omega (arith, long) in
    let same : length after ≡ length older = omega (arith, long, older_long) in
    let each : (i : ℕ) → i < length (copied after older p) → get_or (copied after older p) i 0 ≡ get_or after i 0 = λ i lt. elim (where_is p i) [
      | inl inside ↦ copied_in after older p i in_after same inside
      | inr outside ↦
          let kept : get_or after i 0 ≡ get_or bytes i 0 = elim outside [
            | inl before ↦ at_below bytes new at i (omega arith) before
            | inr behind ↦ at_above bytes new at i (omega arith) behind
          ] in
          copied_out after older p i in_after same outside
          ∙ laid_same after bytes stable stable places i (subst (λ (n : ℕ). All (λ q. end_of q ≤ n) places) (sym room) within) (omega (arith, long)) (omega arith) refl kept refl
          ∙ ap (λ (image : List ℕ). get_or image i 0) differ ∙ sym kept
    ] in
    laid-push after stable places p ∙ ext_get_or 0 (copied after older p) after (length_copied after older p in_after same ∙ sym same) each

-- what was written
pub part_over : (image bytes : List ℕ) (at : ℕ) → at ≤ length image → take (length bytes) (drop at (overwritten image at bytes)) ≡ bytes
part_over image bytes at within =
    let front : length (take at image) ≡ at = length-take-le at image within in
    let rest = drop (at + length bytes) image in
    ap (λ (l : List ℕ). take (length bytes) (drop at l)) (append_assoc (take at image) bytes rest)
    ∙ ap (take (length bytes)) (drop_at (take at image) (bytes ++ rest) at front) ∙ take_at bytes rest (length bytes) refl

pub history_wrote : (notes : List (Option Place × Vec ℕ)) (at : ℕ) (bytes image : List ℕ) (after : Vec ℕ) → 0 < length notes → at ≤ length image → after.items ≡ overwritten image at bytes
    → history_in (notes ++ (Some (record { at = at; len = length bytes }), after) ∷ []) ≡ noted (history_in notes) (wrote at bytes)
history_wrote notes at bytes image after some within is =
    history_in-push notes (Some (record { at = at; len = length bytes }), after) some
    ∙ ap (λ (l : List ℕ). noted (history_in notes) (wrote at l)) (ap (λ (l : List ℕ). take (length bytes) (drop at l)) is ∙ part_over image bytes at within)

-- the places so far, and the next one
pub laid-more : (from image : List ℕ) (places : List Place) (i : ℕ) (d : Place) → i < length places → laid from image (take (i + 1) places) ≡ copied from (laid from image (take i places)) (get_or places i d)
laid-more from image places i d lt = ap (laid from image) (take_more places i d lt) ∙ laid-push from image (take i places) (get_or places i d)

pub with_noise-more : (image : List ℕ) (places : List Place) (i : ℕ) (d : Place) → i < length places
    → with_noise image (take (i + 1) places) ≡ overwritten (with_noise image (take i places)) (get_or places i d).at (replicate (get_or places i d).len 90)
with_noise-more image places i d lt = ap (with_noise image) (take_more places i d lt) ∙ with_noise-push image (take i places) (get_or places i d)

-- notes that have begun anew
pub history_begun : (notes begun : List (Option Place × Vec ℕ)) (bytes : Vec ℕ) (image : List ℕ) → notes ≡ begun ++ (None, bytes) ∷ [] → begun ≡ [] → bytes.items ≡ image → history_in notes ≡ record { first = image; calls = [] }
history_begun notes begun bytes image is none same =
    ap history_in (is ∙ ap (λ (l : List (Option Place × Vec ℕ)). l ++ (None, bytes) ∷ []) none) ∙ ap (λ (l : List ℕ). record { first = l; calls = [] }) same
