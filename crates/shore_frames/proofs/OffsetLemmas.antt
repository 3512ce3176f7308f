-- What a read gives stands at its offset, and bytes are one frame at most.
use Rattle.std.proofs.Common.{◌≡◌, ℕ, ◌+◌, ◌-◌, ◌^◌, ◌<◌, ◌≤◌, List, ◌++◌, length, take, drop, refl, sym, ◌∙◌, ap, subst, arith, append_assoc, length-append, take-append-drop}
use Rattle.std.proofs.lemmas.List.{take_all, take_at, drop_at, drop-drop, length-drop}
use Rattle.byteorder.specs.Endian.{little_bytes, little_number}
use Rattle.shore_model.specs.declared.log_records.LogRecord.{LogRecord}
use Rattle.shore_logrec.specs.Text.{texts}
use Rattle.shore_logrec.proofs.Numbers.{IsBytes, number-of_bytes, bytes-of_number}
use Rattle.shore_logrec.proofs.Readers.{IsBytes-front, IsBytes-behind}
use Rattle.shore_logrec.proofs.TextLengths.{length-little_bytes}
use Rattle.shore_frames.specs.Frames.{IsGroup, frame_head, behind_gate}
use Rattle.shore_frames.proofs.FrameLemmas.{length-behind_gate}

-- what a read of n bytes gave, and the bytes behind it
pub piece : (image out : List ℕ) (at n offset behind : ℕ) → out ≡ take n (drop at image) → offset ≡ at → behind ≡ at + n → drop offset image ≡ out ++ drop behind image
piece image out at n offset behind is offset_is behind_is =
    ap (λ (k : ℕ). drop k image) offset_is ∙ sym (take-append-drop n (drop at image)) ∙ ap (λ (l : List ℕ). l ++ drop n (drop at image)) (sym is)
    ∙ ap (λ (l : List ℕ). out ++ l) (drop-drop n at image ∙ ap (λ (k : ℕ). drop k image) (sym behind_is))

-- twelve bytes are the head that is read of them
pub head_takes : (bytes front back : List ℕ) → front ≡ take 4 bytes → back ≡ drop 4 bytes → length bytes ≡ 12 → IsBytes bytes → frame_head (little_number 4 front) (little_number 8 back) ≡ bytes
unfolding frame_head
head_takes bytes front back front_is back_is long fits =
    let parts : front ++ back ≡ bytes = ap (λ (l : List ℕ). l ++ back) front_is ∙ ap (λ (l : List ℕ). take 4 bytes ++ l) back_is ∙ take-append-drop 4 bytes in
    let back_long : length back ≡ 8 = omega (arith, ap length back_is, length-drop 4 bytes) in
    let front_long : length front ≡ 4 = omega (arith, ap length parts, length-append front back, back_long, long) in
    let first : little_bytes 4 (little_number 4 front) ≡ front = bytes-of_number 4 front (IsBytes-front front back (subst IsBytes (sym parts) fits)) (omega (arith, front_long)) ∙ take_all 4 front (omega (arith, front_long)) in
    let second : little_bytes 8 (little_number 8 back) ≡ back = bytes-of_number 8 back (IsBytes-behind front back bytes (sym parts) fits) (omega (arith, back_long)) ∙ take_all 8 back (omega (arith, back_long)) in
    ap (λ (l : List ℕ). l ++ little_bytes 8 (little_number 8 back)) first ∙ ap (λ (l : List ℕ). front ++ l) second ∙ parts

head_is : (len first : ℕ) (rest : List ℕ) → frame_head len first ++ rest ≡ little_bytes 4 len ++ (little_bytes 8 first ++ rest)
unfolding frame_head
head_is len first rest = append_assoc (little_bytes 4 len) (little_bytes 8 first) rest

pub frame_is : (n : ℕ) (body rest : List ℕ) → behind_gate n body ++ rest ≡ frame_head (length body) n ++ (body ++ rest)
unfolding behind_gate
frame_is n body rest = append_assoc (frame_head (length body) n) body rest

-- bytes begin with one head
pub same_head : (len first k n : ℕ) (xs ys : List ℕ) → len < 2 ^ 32 → first < 2 ^ 64 → k < 2 ^ 32 → n < 2 ^ 64
    → frame_head len first ++ xs ≡ frame_head k n ++ ys → (len ≡ k) × (first ≡ n) × (xs ≡ ys)
same_head len first k n xs ys len_small first_small k_small n_small e =
    let both = sym (head_is len first xs) ∙ e ∙ head_is k n ys in
    let len_is : len ≡ k = sym (number-of_bytes 4 len (little_bytes 8 first ++ xs) len_small) ∙ ap (little_number 4) both ∙ number-of_bytes 4 k (little_bytes 8 n ++ ys) k_small in
    let behind : little_bytes 8 first ++ xs ≡ little_bytes 8 n ++ ys =
    sym (drop_at (little_bytes 4 len) (little_bytes 8 first ++ xs) 4 (length-little_bytes 4 len)) ∙ ap (drop 4) both ∙ drop_at (little_bytes 4 k) (little_bytes 8 n ++ ys) 4 (length-little_bytes 4 k) in
    let first_is : first ≡ n = sym (number-of_bytes 8 first xs first_small) ∙ ap (little_number 8) behind ∙ number-of_bytes 8 n ys n_small in
    (len_is, first_is, sym (drop_at (little_bytes 8 first) xs 8 (length-little_bytes 8 first)) ∙ ap (drop 8) behind ∙ drop_at (little_bytes 8 n) ys 8 (length-little_bytes 8 n))

-- bytes begin with one frame
pub same_frame : (n : ℕ) (xs ys : List ℕ) (a b : List ℕ) → n < 2 ^ 64 → length xs ≤ 65536 → length ys ≤ 65536 → behind_gate n xs ++ a ≡ behind_gate n ys ++ b → (xs ≡ ys) × (a ≡ b)
same_frame n xs ys a b small xs_short ys_short e =
    let head = same_head (length xs) n (length ys) n (xs ++ a) (ys ++ b) (omega arith) small (omega arith) small (sym (frame_is n xs a) ∙ e ∙ frame_is n ys b) in
    (sym (take_at xs a (length xs) refl) ∙ ap (take (length xs)) head.2 ∙ take_at ys b (length xs) (sym head.0), sym (drop_at xs a (length xs) refl) ∙ ap (drop (length xs)) head.2 ∙ drop_at ys b (length xs) (sym head.0))

-- where a frame stands, the head at its offset is its head, and the device has the bytes that it says and one more
pub head_fits : (image : List ℕ) (at device_bytes len first n : ℕ) (g : List LogRecord) (rest : List ℕ) → length image ≤ device_bytes → len < 2 ^ 32 → first < 2 ^ 64 → n < 2 ^ 64
    → drop (at + 1) image ≡ frame_head len first ++ drop (at + 13) image → IsGroup n g → 1 ≤ length rest → drop (at + 1) image ≡ behind_gate n (texts g) ++ rest
    → (first ≡ n) × (1 ≤ len) × (len ≤ 65536) × (len < device_bytes - (at + 13))
head_fits image at device_bytes len first n g rest short len_small first_small n_small head group some stands =
    let same = same_head len first (length (texts g)) n (drop (at + 13) image) (texts g ++ rest) len_small first_small (omega (arith, group.most)) n_small (sym head ∙ stands ∙ frame_is n (texts g) rest) in
    let left : length image - (at + 13) ≡ length (texts g) + length rest = sym (length-drop (at + 13) image) ∙ ap length same.2 ∙ length-append (texts g) rest in
    (same.1, omega (arith, same.0, group.some), omega (arith, same.0, group.most), omega (arith, same.0, left))

-- where the device ends in the midst of a head there is no frame
pub none_short : (image : List ℕ) (at device_bytes n : ℕ) (g : List LogRecord) (rest : List ℕ) → length image ≤ device_bytes → device_bytes < at + 13 → drop (at + 1) image ≡ behind_gate n (texts g) ++ rest → ⊥
none_short image at device_bytes n g rest short ends stands =
    omega (arith, sym (length-drop (at + 1) image) ∙ ap length stands, length-append (behind_gate n (texts g)) rest, length-behind_gate n (texts g))

-- a head and its body
pub body_is : (image body : List ℕ) (at len first n : ℕ) → drop (at + 1) image ≡ frame_head len first ++ drop (at + 13) image → first ≡ n → length body ≡ len → drop (at + 13) image ≡ body ++ drop (at + 13 + length body) image
    → drop (at + 1) image ≡ behind_gate n body ++ drop (at + 13 + length body) image
body_is image body at len first n head first_is long stands =
    head ∙ ap (λ (k : ℕ). frame_head k first ++ drop (at + 13) image) (sym long) ∙ ap (λ (k : ℕ). frame_head (length body) k ++ drop (at + 13) image) first_is
    ∙ ap (λ (l : List ℕ). frame_head (length body) n ++ l) stands ∙ sym (frame_is n body (drop (at + 13 + length body) image))
