-- What is in the parts of an image after a write.
use Rattle.std.proofs.Common.{◌≡◌, ℕ, zero, suc, ◌+◌, ◌-◌, ◌≤◌, List, [], ◌∷◌, ◌++◌, length, take, drop, refl, sym, ap, ◌∙◌, arith, append_assoc, length-append}
use Rattle.std.proofs.lemmas.List.{drop-take, drop-drop, length-take-le, length-drop}
use Rattle.std.proofs.lemmas.Slice.{take-put_mid_below, drop-put_mid, between-put_mid, between_is}
use borrow.Rule.Slice.PartMut.{put_mid}
use Rattle.std.specs.List.{between}
use Rattle.shore_disk.specs.Device.{overwritten}
use Rattle.shore_dwrite.specs.Volumes.{part}

pub overwritten_is : (image : List ℕ) (at : ℕ) (bytes : List ℕ) → overwritten image at bytes ≡ put_mid at (length bytes) image bytes
overwritten_is image at bytes =
    append_assoc (take at image) bytes (drop (at + length bytes) image) ∙ ap (λ (l : List ℕ). take at image ++ (bytes ++ l)) (sym (drop-drop (length bytes) at image))

pub length-overwritten : (image : List ℕ) (at : ℕ) (bytes : List ℕ) → at + length bytes ≤ length image → length (overwritten image at bytes) ≡ length image
length-overwritten image at bytes fits =
    omega (arith, length-append (take at image ++ bytes) (drop (at + length bytes) image), length-append (take at image) bytes, length-take-le at image (omega arith), length-drop (at + length bytes) image)

pub take_below : (image : List ℕ) (at : ℕ) (bytes : List ℕ) (m : ℕ) → m ≤ at → at ≤ length image → take m (overwritten image at bytes) ≡ take m image
take_below image at bytes m before within = ap (take m) (overwritten_is image at bytes) ∙ take-put_mid_below at (length bytes) image bytes m before within

pub drop_above : (image : List ℕ) (at : ℕ) (bytes : List ℕ) (m : ℕ) → at + length bytes ≤ m → at ≤ length image → drop m (overwritten image at bytes) ≡ drop m image
drop_above image at bytes m behind within = ap (drop m) (overwritten_is image at bytes) ∙ drop-put_mid at (length bytes) image bytes m behind within refl

-- what was written
pub part_here : (image : List ℕ) (at : ℕ) (bytes : List ℕ) → at ≤ length image → part at (length bytes) (overwritten image at bytes) ≡ bytes
part_here image at bytes within =
    let n = length bytes in
    let new = overwritten image at bytes in
    sym (drop-take at n new) ∙ sym (between_is new at (at + n)) ∙ ap (between at (at + n)) (overwritten_is image at bytes)
    ∙ between-put_mid at n image bytes (at + n) within (omega arith)

pub take_again : (k m : ℕ) (l : List ℕ) → k ≤ m → take k (take m l) ≡ take k l
take_again zero m l le = refl
take_again (suc k) (suc m) [] le = refl
take_again (suc k) zero l le = absurd (omega arith)
take_again (suc k) (suc m) (x ∷ l) le = ap (λ (r : List ℕ). x ∷ r) (take_again k m l (omega arith))

pub take_less : (a b : List ℕ) (k m : ℕ) → take m a ≡ take m b → k ≤ m → take k a ≡ take k b
take_less a b k m same le = sym (take_again k m a le) ∙ ap (take k) same ∙ take_again k m b le

pub drop_more : (a b : List ℕ) (m k : ℕ) → drop m a ≡ drop m b → m ≤ k → drop k a ≡ drop k b
drop_more a b m k same le =
    let k_is : m + (k - m) ≡ k = omega arith in
    let split : (l : List ℕ) → drop k l ≡ drop (k - m) (drop m l) = λ l. ap (λ (n : ℕ). drop n l) (sym k_is) ∙ sym (drop-drop (k - m) m l) in
    split a ∙ ap (drop (k - m)) same ∙ sym (split b)

-- a part of the front of two images that have the same front
pub part_front : (a b : List ℕ) (m at n : ℕ) → take m a ≡ take m b → at + n ≤ m → part at n a ≡ part at n b
part_front a b m at n same before =
    sym (drop-take at n a) ∙ ap (drop at) (take_less a b (at + n) m same before) ∙ drop-take at n b

-- .. and of the rest
pub part_rest : (a b : List ℕ) (m at n : ℕ) → drop m a ≡ drop m b → m ≤ at → part at n a ≡ part at n b
part_rest a b m at n same behind = ap (take n) (drop_more a b m at same behind)
