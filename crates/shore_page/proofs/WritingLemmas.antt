-- What is in bytes after a write to a part of them.
use Rattle.std.proofs.Common.{◌≡◌, ◌≢◌, ℕ, ◌+◌, ◌*◌, ◌-◌, ◌^◌, ◌<◌, ◌≤◌, ◌⊎◌, inl, inr, List, [], ◌++◌, length, get_or, take, drop, replicate, refl, sym, ap, subst, ◌∙◌, arith}
use Rattle.std.proofs.lemmas.List.{length-append, length-take-le, length-drop, append-nil, ext_get_or, get_or-take, get_or-drop, get_or_append_left, get_or-append_right, get_or-replicate, length-replicate}
use Rattle.std.proofs.lemmas.List.Edits.{length-between, get_or-between}
use Rattle.std.proofs.lemmas.Slice.{between-put_mid}
use Rattle.std.proofs.lemmas.Bool.{cases_lt}
use Rattle.std.specs.List.{between}
use borrow.Rule.Slice.PartMut.{put_mid}
use Rattle.byteorder.specs.Endian.{little_bytes, little_number}
use Rattle.byteorder.specs.Numbers.{little_number-reads_back, length-bytes_low_first}
use Rattle.shore_types.specs.declared.ids.PageId.{PageId}
use Rattle.shore_types.specs.declared.versions.Version.{Version}
use Rattle.shore_types.specs.Versions.{page_bytes}
use Rattle.shore_page.specs.Text.{number_at, table_of, offset_at, length_at, HasHeader}
use Rattle.shore_page.specs.Writing.{KeepsBeside, KeepsHeader, Writes, PutsRecord}

length-put_mid : (a k : ℕ) (xs ys : List ℕ) → a + k ≤ length xs → length ys ≡ k → length (put_mid a k xs ys) ≡ length xs
length-put_mid a k xs ys fits len =
    omega (arith, length-append (take a xs) (ys ++ drop k (drop a xs)), length-append ys (drop k (drop a xs)), length-take-le a xs (omega arith), length-drop k (drop a xs), length-drop a xs)

-- a byte before a part, and one behind it
pub put_mid_below : (a k : ℕ) (xs ys : List ℕ) (i : ℕ) → a + k ≤ length xs → i < a → get_or (put_mid a k xs ys) i 0 ≡ get_or xs i 0
put_mid_below a k xs ys i fits low =
    let front : length (take a xs) ≡ a = length-take-le a xs (omega arith) in
    get_or_append_left (take a xs) (ys ++ drop k (drop a xs)) 0 i (omega arith) ∙ get_or-take a xs i 0 low

pub put_mid_above : (a k : ℕ) (xs ys : List ℕ) (i : ℕ) → a + k ≤ length xs → length ys ≡ k → a + k ≤ i → get_or (put_mid a k xs ys) i 0 ≡ get_or xs i 0
put_mid_above a k xs ys i fits len high =
    let front : length (take a xs) ≡ a = length-take-le a xs (omega arith) in
    let here : a + (k + (i - a - k)) ≡ i = omega arith in
    get_or-append_right (take a xs) (ys ++ drop k (drop a xs)) a i 0 front (omega arith)
    ∙ get_or-append_right ys (drop k (drop a xs)) k (i - a) 0 len (omega arith)
    ∙ get_or-drop k (drop a xs) (i - a - k) 0 ∙ get_or-drop a xs (k + (i - a - k)) 0 ∙ ap (λ (n : ℕ). get_or xs n 0) here

pub put_mid_inside : (a k : ℕ) (xs ys : List ℕ) (i : ℕ) → a + k ≤ length xs → length ys ≡ k → a ≤ i → i < a + k → get_or (put_mid a k xs ys) i 0 ≡ get_or ys (i - a) 0
put_mid_inside a k xs ys i fits len low high =
    let front : length (take a xs) ≡ a = length-take-le a xs (omega arith) in
    get_or-append_right (take a xs) (ys ++ drop k (drop a xs)) a i 0 front low ∙ get_or_append_left ys (drop k (drop a xs)) 0 (i - a) (omega arith)

-- a part of bytes is the same if each byte of it is
pub between_same : (old new : List ℕ) (a b : ℕ) → length new ≡ length old → b ≤ length old → ((i : ℕ) → a ≤ i → i < b → get_or new i 0 ≡ get_or old i 0) → between a b new ≡ between a b old
between_same old new a b len inside same =
    let new_len : length (between a b new) ≡ b - a = length-between new a b (omega arith) in
    let old_len : length (between a b old) ≡ b - a = length-between old a b inside in
    ext_get_or 0 (between a b new) (between a b old) (omega arith)
    (λ k before. get_or-between new a b k 0 (omega arith) ∙ same (a + k) (omega arith) (omega arith) ∙ sym (get_or-between old a b k 0 (omega arith)))

-- a copy into a part
pub write_is : (position k : ℕ) (old part written : List ℕ) → position + k ≤ length old → part ≡ written → length written ≡ k → Writes old (put_mid position k old part) position written
write_is position k old part written fits is len =
    let same : length part ≡ k = omega (arith, ap (λ (l : List ℕ). length l) is) in
    record {
      here = between-put_mid position k old part (position + length written) (omega arith) (omega arith) ∙ is;
      beside = record {
        len = length-put_mid position k old part fits same;
        below = λ i before. put_mid_below position k old part i fits before;
        above = λ i behind. put_mid_above position k old part i fits same (omega arith);
      };
    }

-- the number whose bytes were written
pub number_written : (old new : List ℕ) (position n x : ℕ) → Writes old new position (little_bytes n x) → x < 256 ^ n → number_at new position n ≡ x
number_written old new position n x wrote small =
    let len : length (little_bytes n x) ≡ n = length-bytes_low_first 0 n x in
    let here : between position (position + n) new ≡ little_bytes n x = ap (λ (k : ℕ). between position (position + k) new) (sym len) ∙ wrote.here in
    ap (little_number n) (here ∙ sym (append-nil (little_bytes n x))) ∙ little_number-reads_back n x [] small

-- a number beside what was written
pub number_same : (old new : List ℕ) (position n : ℕ) → length new ≡ length old → position + n ≤ length old → ((i : ℕ) → position ≤ i → i < position + n → get_or new i 0 ≡ get_or old i 0) → number_at new position n ≡ number_at old position n
number_same old new position n len inside same = ap (little_number n) (between_same old new position (position + n) len inside same)

pub number_below : (old new : List ℕ) (from to position n : ℕ) → KeepsBeside old new from to → position + n ≤ length old → position + n ≤ from → number_at new position n ≡ number_at old position n
number_below old new from to position n kept inside before = number_same old new position n kept.len inside (λ i low high. kept.below i (omega arith))

pub number_above : (old new : List ℕ) (from to position n : ℕ) → KeepsBeside old new from to → position + n ≤ length old → to ≤ position → number_at new position n ≡ number_at old position n
number_above old new from to position n kept inside behind = number_same old new position n kept.len inside (λ i low high. kept.above i (omega arith))

-- one write after another
pub KeepsBeside-then : (a b c : List ℕ) (from to from' to' low high : ℕ) → KeepsBeside a b from to → KeepsBeside b c from' to' → low ≤ from → low ≤ from' → to ≤ high → to' ≤ high → KeepsBeside a c low high
KeepsBeside-then a b c from to from' to' low high first second low_first low_second high_first high_second = record {
  len = second.len ∙ first.len;
  below = λ i before. second.below i (omega arith) ∙ first.below i (omega arith);
  above = λ i behind. second.above i (omega arith) ∙ first.above i (omega arith);
}

-- the six fields of a header, written one behind another
pub header_written : (v : Version) → (b0 b1 b2 b3 b4 b5 b6 : List ℕ) (id : PageId) (number slots : ℕ) → length b0 ≡ page_bytes v
    → number_at b1 0 4 ≡ id.store → KeepsBeside b0 b1 0 4 → number_at b2 4 4 ≡ id.page → KeepsBeside b1 b2 4 8 → number_at b3 8 8 ≡ number → KeepsBeside b2 b3 8 16
    → number_at b4 16 2 ≡ slots → KeepsBeside b3 b4 16 18 → number_at b5 18 2 ≡ table_of v slots → KeepsBeside b4 b5 18 20 → number_at b6 20 4 ≡ 0 → KeepsBeside b5 b6 20 24
    → 24 + 4 * slots ≤ page_bytes v → HasHeader v b6 id number slots
header_written v b0 b1 b2 b3 b4 b5 b6 id number slots whole store k1 page k2 last k3 count k4 table k5 none k6 few =
    let past6 = λ (position n : ℕ) (h : position + n ≤ 20). number_below b5 b6 20 24 position n k6 (omega (arith, k1.len, k2.len, k3.len, k4.len, k5.len)) h in
    let past5 = λ (position n : ℕ) (h : position + n ≤ 18). past6 position n (omega arith) ∙ number_below b4 b5 18 20 position n k5 (omega (arith, k1.len, k2.len, k3.len, k4.len)) h in
    let past4 = λ (position n : ℕ) (h : position + n ≤ 16). past5 position n (omega arith) ∙ number_below b3 b4 16 18 position n k4 (omega (arith, k1.len, k2.len, k3.len)) h in
    let past3 = λ (position n : ℕ) (h : position + n ≤ 8). past4 position n (omega arith) ∙ number_below b2 b3 8 16 position n k3 (omega (arith, k1.len, k2.len)) h in
    let past2 = λ (position n : ℕ) (h : position + n ≤ 4). past3 position n (omega arith) ∙ number_below b1 b2 4 8 position n k2 (omega (arith, k1.len)) h in
    record {
      store = past2 0 4 (omega arith) ∙ store;
      page = past3 4 4 (omega arith) ∙ page;
      last = past4 8 8 (omega arith) ∙ last;
      count = past5 16 2 (omega arith) ∙ count;
      table = past6 18 2 (omega arith) ∙ table;
      zero = none;
      most = few;
    }

-- a header of which each byte stayed
pub header_same : (v : Version) (old new : List ℕ) (id : PageId) (number slots : ℕ) → length old ≡ page_bytes v → KeepsHeader old new → HasHeader v old id number slots → HasHeader v new id number slots
header_same v old new id number slots whole kept header =
    let most = header.most in
    let same = λ (position n : ℕ) (h : position + n ≤ 24). number_same old new position n kept.len (omega arith) (λ i low high. kept.same i (omega arith)) in
    record {
      store = same 0 4 (omega arith) ∙ header.store;
      page = same 4 4 (omega arith) ∙ header.page;
      last = same 8 8 (omega arith) ∙ header.last;
      count = same 16 2 (omega arith) ∙ header.count;
      table = same 18 2 (omega arith) ∙ header.table;
      zero = same 20 4 (omega arith) ∙ header.zero;
      most = header.most;
    }

-- a header with another number
pub header_number : (v : Version) (old new : List ℕ) (id : PageId) (before number slots : ℕ) → length old ≡ page_bytes v → KeepsBeside old new 8 16 → number_at new 8 8 ≡ number → HasHeader v old id before slots → HasHeader v new id number slots
header_number v old new id before number slots whole kept here header = let most = header.most in record {
  store = number_below old new 8 16 0 4 kept (omega arith) (omega arith) ∙ header.store;
  page = number_below old new 8 16 4 4 kept (omega arith) (omega arith) ∙ header.page;
  last = here;
  count = number_above old new 8 16 16 2 kept (omega arith) (omega arith) ∙ header.count;
  table = number_above old new 8 16 18 2 kept (omega arith) (omega arith) ∙ header.table;
  zero = number_above old new 8 16 20 4 kept (omega arith) (omega arith) ∙ header.zero;
  most = header.most;
}

-- a header with other slots
pub header_slots : (v : Version) → (b0 b1 b2 b3 : List ℕ) (id : PageId) (number slots more low high : ℕ) → length b0 ≡ page_bytes v → KeepsBeside b0 b1 low high → 24 ≤ low → number_at b2 16 2 ≡ more → KeepsBeside b1 b2 16 18
    → number_at b3 18 2 ≡ table_of v more → KeepsBeside b2 b3 18 20 → 24 + 4 * more ≤ page_bytes v → HasHeader v b0 id number slots → HasHeader v b3 id number more
header_slots v b0 b1 b2 b3 id number slots more low high whole k1 behind count k2 table k3 few header =
    let most = header.most in
    let front = λ (position n : ℕ) (h : position + n ≤ 16).
    number_below b2 b3 18 20 position n k3 (omega (arith, k1.len, k2.len)) (omega arith) ∙ number_below b1 b2 16 18 position n k2 (omega (arith, k1.len)) (omega arith) ∙ number_below b0 b1 low high position n k1 (omega arith) (omega arith) in
    record {
      store = front 0 4 (omega arith) ∙ header.store;
      page = front 4 4 (omega arith) ∙ header.page;
      last = front 8 8 (omega arith) ∙ header.last;
      count = number_below b2 b3 18 20 16 2 k3 (omega (arith, k1.len, k2.len)) (omega arith) ∙ count;
      table = table;
      zero = number_above b2 b3 18 20 20 4 k3 (omega (arith, k1.len, k2.len)) (omega arith) ∙ number_above b1 b2 16 18 20 4 k2 (omega (arith, k1.len)) (omega arith) ∙ number_below b0 b1 low high 20 4 k1 (omega arith) (omega arith) ∙ header.zero;
      most = few;
    }

-- ---- entries

entry_apart : (v : Version) (slot other : ℕ) → 28 + 4 * slot ≤ page_bytes v → 28 + 4 * other ≤ page_bytes v → other ≢ slot → (table_of v (other + 1) + 4 ≤ table_of v (slot + 1)) ⊎ (table_of v slot ≤ table_of v (other + 1))
entry_apart v slot other few_slot few_other apart = elim (cases_lt other slot) [
  | inl earlier ↦ inr (omega arith)
  | inr later ↦ inl (omega arith)
]

-- another entry, where nothing but one entry changed
pub entry_beside : (v : Version) (old new : List ℕ) (slot other : ℕ) → length old ≡ page_bytes v → 28 + 4 * slot ≤ page_bytes v → 28 + 4 * other ≤ page_bytes v → KeepsBeside old new (table_of v (slot + 1)) (table_of v slot) → other ≢ slot
    → (offset_at v new other ≡ offset_at v old other) × (length_at v new other ≡ length_at v old other)
entry_beside v old new slot other whole few_slot few_other kept apart = elim (entry_apart v slot other few_slot few_other apart) [
  | inl below ↦ (
    number_below old new (table_of v (slot + 1)) (table_of v slot) (table_of v (other + 1)) 2 kept (omega arith) (omega arith),
    number_below old new (table_of v (slot + 1)) (table_of v slot) (table_of v (other + 1) + 2) 2 kept (omega arith) (omega arith),
  )
  | inr above ↦ (
    number_above old new (table_of v (slot + 1)) (table_of v slot) (table_of v (other + 1)) 2 kept (omega arith) (omega arith),
    number_above old new (table_of v (slot + 1)) (table_of v slot) (table_of v (other + 1) + 2) 2 kept (omega arith) (omega arith),
  )
]

-- an entry, where nothing but bytes below the slot table changed
pub entry_above : (v : Version) (old new : List ℕ) (slots from to other : ℕ) → length old ≡ page_bytes v → 24 + 4 * slots ≤ page_bytes v → KeepsBeside old new from to → to ≤ table_of v slots → other < slots
    → (offset_at v new other ≡ offset_at v old other) × (length_at v new other ≡ length_at v old other)
entry_above v old new slots from to other whole few kept below inside = (
  number_above old new from to (table_of v (other + 1)) 2 kept (omega arith) (omega arith),
  number_above old new from to (table_of v (other + 1) + 2) 2 kept (omega arith) (omega arith),
)

-- an entry and then a record
pub puts_record : (v : Version) (old mid new : List ℕ) (slots slot offset : ℕ) (bytes : List ℕ) → length old ≡ page_bytes v → 24 + 4 * slots ≤ page_bytes v → slot < slots → offset + length bytes ≤ table_of v slots
    → offset_at v mid slot ≡ offset → length_at v mid slot ≡ length bytes → KeepsBeside old mid (table_of v (slot + 1)) (table_of v slot) → Writes mid new offset bytes → PutsRecord v old new slots slot offset bytes
puts_record v old mid new slots slot offset bytes whole few there room is_offset is_length entry wrote =
    let same = λ (other : ℕ) (h : other < slots). entry_above v mid new slots offset (offset + length bytes) other (entry.len ∙ whole) few wrote.beside room h in
    record {
      len = wrote.beside.len ∙ entry.len;
      begins = (same slot there).0 ∙ is_offset;
      lasts = (same slot there).1 ∙ is_length;
      here = wrote.here;
      entries = λ other before apart.
          let kept = entry_beside v old mid slot other whole (omega arith) (omega arith) entry apart in
          ((same other before).0 ∙ kept.0, (same other before).1 ∙ kept.1);
      beside = λ position low side. elim side [
        | inl before ↦ wrote.beside.below position before ∙ entry.below position (omega arith)
        | inr behind ↦ wrote.beside.above position behind ∙ entry.below position (omega arith)
      ];
    }

-- an entry that is zeros
pub puts_nothing : (v : Version) (old new : List ℕ) (slots slot : ℕ) → length old ≡ page_bytes v → 24 + 4 * slots ≤ page_bytes v → slot < slots → offset_at v new slot ≡ 0 → length_at v new slot ≡ 0
    → KeepsBeside old new (table_of v (slot + 1)) (table_of v slot) → PutsRecord v old new slots slot 0 []
puts_nothing v old new slots slot whole few there is_offset is_length entry = record {
  len = entry.len;
  begins = is_offset;
  lasts = is_length;
  here = refl;
  entries = λ other before apart. entry_beside v old new slot other whole (omega arith) (omega arith) entry apart;
  beside = λ position low side. entry.below position (omega arith);
}

-- the bytes that the write of a number covers
pub number_beside : (old new : List ℕ) (position n x : ℕ) → Writes old new position (little_bytes n x) → KeepsBeside old new position (position + n)
number_beside old new position n x wrote = subst (λ (k : ℕ). KeepsBeside old new position (position + k)) (length-bytes_low_first 0 n x) wrote.beside

-- zeros in a part
pub cleared : (from to : ℕ) (old part : List ℕ) → from ≤ to → to ≤ length old → part ≡ replicate (length (take (to - from) (drop from old))) 0
    → KeepsBeside old (put_mid from (to - from) old part) from to × ((i : ℕ) → from ≤ i → i < to → get_or (put_mid from (to - from) old part) i 0 ≡ 0)
cleared from to old part order within is =
    let count : length (take (to - from) (drop from old)) ≡ to - from = length-take-le (to - from) (drop from old) (omega (arith, length-drop from old)) in
    let filled : part ≡ replicate (to - from) 0 = is ∙ ap (λ (k : ℕ). replicate k 0) count in
    let len : length part ≡ to - from = ap (λ (l : List ℕ). length l) filled ∙ length-replicate (to - from) 0 in (
      record {
        len = length-put_mid from (to - from) old part (omega arith) len;
        below = λ i before. put_mid_below from (to - from) old part i (omega arith) before;
        above = λ i behind. put_mid_above from (to - from) old part i (omega arith) len (omega arith);
      },
      λ i low high. put_mid_inside from (to - from) old part i (omega arith) len low (omega arith)
          ∙ ap (λ (l : List ℕ). get_or l (i - from) 0) filled ∙ get_or-replicate (to - from) (i - from) 0 0 (omega arith),
    )
