-- The slots of a page's text that are read so far.
use Rattle.std.proofs.Common.{◌≡◌, ℕ, ◌+◌, ◌-◌, ◌*◌, ◌<◌, ◌≤◌, max, inl, inr, Bool, true, false, cond, List, [], ◌∷◌, length, get_or, replicate, Option, Some, None, refl, sym, ap, subst, ◌∙◌, arith}
use Rattle.std.proofs.Math.ListN.{get_or-eq_default}
use Rattle.std.proofs.lemmas.List.{ext_get_or, length-replicate, get_or-replicate}
use Rattle.std.proofs.lemmas.List.Folds.{sum_by-replicate}
use Rattle.std.proofs.lemmas.List.Edits.{length-between}
use Rattle.std.proofs.lemmas.List.Sums.{sum_by-cons}
use Rattle.std.proofs.lemmas.List.FromFn.{sum_by-map-range_with_len_more, length-map-range_with_len, get_or-map-range_with_len}
use Rattle.std.proofs.lemmas.Bool.{cases_lt, ne_eqb, eq-eqb, false≢true}
use Rattle.std.proofs.lemmas.Option.{slice_get-get_or, slice_get_within, get_or_from_slice_get}
use Rattle.std.specs.Prelude.{unwrap_or}
use Rattle.std.specs.List.{between}
use Rattle.shore_types.specs.declared.ids.PageId.{PageId}
use Rattle.shore_types.specs.Images.{image_len, Image}
use Rattle.shore_types.specs.declared.versions.Version.{Version}
use Rattle.shore_types.specs.Versions.{page_bytes, page_room, record_limit}
use Rattle.shore_page.specs.Text.{table_of, offset_at, length_at, HasHeader, HasSlot, Covers, IsPageText}
use Rattle.shore_page.specs.Reading.{IsEntry, IsTable, slot_image, images_in, marked, Marks, IsTaken}
use Rattle.shore_page.specs.Layout.{IsLaidOut, record_bytes}
use Rattle.shore_page.proofs.LayoutLemmas.{entry_within, entry_short}

-- The first slots are in order, no two of their records overlap, and just their bytes are marked.
pub record Checked (v : Version) (bytes : List ℕ) (slots : ℕ) (marks : List Bool) (i end : ℕ) : Type 0 where
  pub len : 24 + length marks ≡ table_of v slots
  pub each : (j : ℕ) → j < i → IsEntry v (table_of v slots) (offset_at v bytes j) (length_at v bytes j)
  pub apart : (a b position : ℕ) → a < i → b < i → Covers v bytes a position → Covers v bytes b position → a ≡ b
  pub covered : (j position : ℕ) → j < i → Covers v bytes j position → get_or marks (position - 24) false ≡ true
  pub owned : (position : ℕ) → get_or marks position false ≡ true → (j : ℕ) × (j < i) × Covers v bytes j (24 + position)
  pub count : marked marks ≡ record_bytes (images_in v bytes i)
  pub front : 24 ≤ end
  pub back : end ≤ table_of v slots
  pub ends : (j : ℕ) → j < i → offset_at v bytes j + length_at v bytes j ≤ end

added_less : (a b : ℕ) → a + b - a ≡ b
added_less a b = omega arith

-- the bytes of a slot's record
pub slot_bytes : (v : Version) (bytes : List ℕ) (table slot : ℕ) → length bytes ≡ page_bytes v → table ≤ page_bytes v → IsEntry v table (offset_at v bytes slot) (length_at v bytes slot) → image_len (slot_image v bytes slot) ≡ length_at v bytes slot
unfolding slot_image
slot_bytes v bytes table slot whole inside (inl empty) = rw (eq-eqb (offset_at v bytes slot) 0 empty.0) (sym empty.1)
slot_bytes v bytes table slot whole inside (inr lies) =
    rw (ne_eqb (offset_at v bytes slot) 0 (λ (e : offset_at v bytes slot ≡ 0). omega (arith, lies.behind_header)))
    (length-between bytes (offset_at v bytes slot) (offset_at v bytes slot + length_at v bytes slot) (omega (arith, lies.before_table)) ∙ added_less (offset_at v bytes slot) (length_at v bytes slot))

-- a byte of a record, counted from behind the header
covers_position : (v : Version) (table offset bytes position : ℕ) → IsEntry v table offset bytes → offset - 24 ≤ position → position < offset - 24 + bytes → (offset ≤ 24 + position) × (24 + position < offset + bytes)
covers_position v table offset bytes position (inl empty) low high = absurd (omega (arith, empty.0, empty.1))
covers_position v table offset bytes position (inr lies) low high = (omega (arith, lies.behind_header), omega (arith, lies.behind_header))

position_covered : (v : Version) (table offset bytes position : ℕ) → IsEntry v table offset bytes → offset ≤ position → position < offset + bytes → (offset - 24 ≤ position - 24) × (position - 24 < offset - 24 + bytes)
position_covered v table offset bytes position (inl empty) low high = absurd (omega (arith, empty.0, empty.1))
position_covered v table offset bytes position (inr lies) low high = (omega (arith, lies.behind_header), omega (arith, lies.behind_header))

-- one slot more
pub checked_more : (v : Version) (bytes : List ℕ) (slots : ℕ) (marks new : List Bool) (i end : ℕ) → length bytes ≡ page_bytes v → 24 + 4 * slots ≤ page_bytes v → Checked v bytes slots marks i end
    → IsEntry v (table_of v slots) (offset_at v bytes i) (length_at v bytes i) → Marks marks new (offset_at v bytes i - 24) (offset_at v bytes i - 24 + length_at v bytes i)
    → Checked v bytes slots new (i + 1) (max end (offset_at v bytes i + length_at v bytes i))
checked_more v bytes slots marks new i end whole few so_far entry marks_more = record {
  len = omega (arith, marks_more.len, so_far.len);
  each = λ j before. elim (cases_lt j i) [
    | inl earlier ↦ so_far.each j earlier
    | inr late ↦ (let same : j ≡ i = omega arith in rw same entry)
  ];
  apart = λ a b position before_a before_b covers_a covers_b. elim (cases_lt a i) [
    | inl a_earlier ↦ elim (cases_lt b i) [
      | inl b_earlier ↦ so_far.apart a b position a_earlier b_earlier covers_a covers_b
      | inr b_late ↦ absurd (clash a b position a_earlier (omega arith) covers_a covers_b)
    ]
    | inr a_late ↦ elim (cases_lt b i) [
      | inl b_earlier ↦ absurd (clash b a position b_earlier (omega arith) covers_b covers_a)
      | inr b_late ↦ (let same : a ≡ b = omega arith in same)
    ]
  ];
  covered = λ j position before covers. elim (cases_lt j i) [
    | inl earlier ↦ stays (position - 24) (so_far.covered j position earlier covers)
    | inr late ↦ covered_here j position (omega arith) covers
  ];
  owned = λ position here. elim (cases_lt position from) [
    | inl low ↦ owned_before position (sym (marks_more.below position low) ∙ here)
    | inr from_on ↦ elim (cases_lt position (from + length_at v bytes i)) [
      | inl inside ↦ (i, omega arith, covers_position v (table_of v slots) (offset_at v bytes i) (length_at v bytes i) position entry from_on inside)
      | inr high ↦ owned_before position (sym (marks_more.above position high) ∙ here)
    ]
  ];
  count = omega (arith, marks_more.count, so_far.count, more, slot_bytes v bytes (table_of v slots) i whole (omega arith) entry);
  front = omega (arith, so_far.front);
  back = omega (arith, so_far.back, so_far.front, entry_within v (table_of v slots) (offset_at v bytes i) (length_at v bytes i) entry);
  ends = λ j before. elim (cases_lt j i) [
    | inl earlier ↦ omega (arith, so_far.ends j earlier)
    | inr late ↦ (let same : j ≡ i = omega arith in subst (λ (k : ℕ). offset_at v bytes k + length_at v bytes k ≤ max end (offset_at v bytes i + length_at v bytes i)) (sym same) (omega arith))
  ];
}
  where
    from : ℕ
    from = offset_at v bytes i - 24

    more : record_bytes (images_in v bytes (i + 1)) ≡ record_bytes (images_in v bytes i) + image_len (slot_image v bytes i)
    more = sum_by-map-range_with_len_more image_len (slot_image v bytes) 0 i i (omega arith)

    -- what was marked stays so
    stays : (position : ℕ) → get_or marks position false ≡ true → get_or new position false ≡ true
    stays position here = elim (cases_lt position from) [
      | inl low ↦ marks_more.below position low ∙ here
      | inr from_on ↦ elim (cases_lt position (from + length_at v bytes i)) [
        | inl inside ↦ (marks_more.inside position from_on inside).1
        | inr high ↦ marks_more.above position high ∙ here
      ]
    ]

    owned_before : (position : ℕ) → get_or marks position false ≡ true → (j : ℕ) × (j < i + 1) × Covers v bytes j (24 + position)
    owned_before position here = let owner = so_far.owned position here in (owner.0, omega (arith, owner.1), owner.2)

    covered_here : (j position : ℕ) → j ≡ i → Covers v bytes j position → get_or new (position - 24) false ≡ true
    covered_here j position same covers =
        let here = subst (λ (k : ℕ). Covers v bytes k position) same covers in
        let inside = position_covered v (table_of v slots) (offset_at v bytes i) (length_at v bytes i) position entry here.0 here.1 in
        (marks_more.inside (position - 24) inside.0 inside.1).1

    -- a byte of an earlier record and of this one
    clash : (a b position : ℕ) → a < i → b ≡ i → Covers v bytes a position → Covers v bytes b position → ⊥
    clash a b position earlier same covers_a covers_b =
        let here = subst (λ (k : ℕ). Covers v bytes k position) same covers_b in
        let inside = position_covered v (table_of v slots) (offset_at v bytes i) (length_at v bytes i) position entry here.0 here.1 in
        let free = (marks_more.inside (position - 24) inside.0 inside.1).0 in
        let taken = so_far.covered a position earlier covers_a in
        cc

-- a record that cannot be marked is none of a slot table
pub checked_refused : (v : Version) (bytes : List ℕ) (slots : ℕ) (marks : List Bool) (i end : ℕ) → Checked v bytes slots marks i end → i < slots
    → (IsEntry v (table_of v slots) (offset_at v bytes i) (length_at v bytes i) → IsTaken marks (offset_at v bytes i - 24) (offset_at v bytes i - 24 + length_at v bytes i)) → IsTable v bytes slots → ⊥
checked_refused v bytes slots marks i end so_far before refused table =
    let entry = table.each i before in
    let position = refused entry in
    let owner = so_far.owned position.0 position.3 in
    let same : owner.0 ≡ i = table.apart owner.0 i (24 + position.0) (omega (arith, owner.1)) before owner.2 (covers_position v (table_of v slots) (offset_at v bytes i) (length_at v bytes i) position.0 entry position.1 position.2) in
    omega (arith, owner.1)

-- all slots
pub checked_all : (v : Version) (bytes : List ℕ) (slots : ℕ) (marks : List Bool) (i end : ℕ) → Checked v bytes slots marks i end → slots ≤ i → i ≤ slots → length bytes ≡ page_bytes v → 24 + 4 * slots ≤ page_bytes v → IsLaidOut v bytes slots end
checked_all v bytes slots marks i end so_far reached inside whole few = record {
  whole = whole;
  few = few;
  table = record {
    each = λ slot before. so_far.each slot (omega arith);
    apart = λ a b position before_a before_b. so_far.apart a b position (omega arith) (omega arith);
  };
  front = so_far.front;
  back = so_far.back;
  ends = λ slot before. so_far.ends slot (omega arith);
}

-- the records of all slots have room: each byte has one mark
pub checked_room : (v : Version) (bytes : List ℕ) (slots : ℕ) (marks : List Bool) (i end : ℕ) → Checked v bytes slots marks i end → slots ≤ i → i ≤ slots → 24 + 4 * slots ≤ page_bytes v → 4 * slots + record_bytes (images_in v bytes slots) ≤ page_room v
checked_room v bytes slots marks i end so_far reached inside few =
    let same : i ≡ slots = omega arith in
    subst (λ (n : ℕ). 4 * slots + record_bytes (images_in v bytes n) ≤ page_room v) same (omega (arith, so_far.count, so_far.len, marked-most marks))
  where
    marked-most : (marks : List Bool) → marked marks ≤ length marks
    marked-most [] = omega arith
    marked-most (true ∷ marks) = omega (arith, marked-most marks, sum_by-cons (λ (m : Bool). cond m 1 0) true marks)
    marked-most (false ∷ marks) = omega (arith, marked-most marks, sum_by-cons (λ (m : Bool). cond m 1 0) false marks)

-- ---- the images that a slot table names

pub length-images_in : (v : Version) (bytes : List ℕ) (slots : ℕ) → length (images_in v bytes slots) ≡ slots
length-images_in v bytes slots = length-map-range_with_len (slot_image v bytes) 0 slots

-- what is in a slot has an entry
pub entry_of_slot : (v : Version) (bytes : List ℕ) (table slot : ℕ) (image : Image) → HasSlot v bytes table slot image → IsEntry v table (offset_at v bytes slot) (length_at v bytes slot)
entry_of_slot v bytes table slot None empty = inl empty
entry_of_slot v bytes table slot (Some image) full = inr record {
  behind_header = full.0.behind_header;
  before_table = omega (arith, full.0.before_table, full.1);
  most = omega (arith, full.0.most, full.1);
}

-- and is what the entry names
pub image_of_slot : (v : Version) (bytes : List ℕ) (table slot : ℕ) (image : Image) → HasSlot v bytes table slot image → slot_image v bytes slot ≡ image
unfolding slot_image
image_of_slot v bytes table slot None empty = rw (eq-eqb (offset_at v bytes slot) 0 empty.0) refl
image_of_slot v bytes table slot (Some image) full =
    rw (ne_eqb (offset_at v bytes slot) 0 (λ (e : offset_at v bytes slot ≡ 0). omega (arith, full.0.behind_header)))
    (ap (λ (n : ℕ). Some (between (offset_at v bytes slot) (offset_at v bytes slot + n) bytes)) full.1 ∙ ap (λ (l : List ℕ). Some l) full.0.here)

-- an entry names what is in its slot
slot_of_entry : (v : Version) (bytes : List ℕ) (table slot : ℕ) → length bytes ≡ page_bytes v → table ≤ page_bytes v → IsEntry v table (offset_at v bytes slot) (length_at v bytes slot) → HasSlot v bytes table slot (slot_image v bytes slot)
unfolding slot_image
slot_of_entry v bytes table slot whole inside (inl empty) = rw (eq-eqb (offset_at v bytes slot) 0 empty.0) empty
slot_of_entry v bytes table slot whole inside (inr lies) =
    let len : length (between (offset_at v bytes slot) (offset_at v bytes slot + length_at v bytes slot) bytes) ≡ length_at v bytes slot =
    length-between bytes (offset_at v bytes slot) (offset_at v bytes slot + length_at v bytes slot) (omega (arith, lies.before_table)) ∙ added_less (offset_at v bytes slot) (length_at v bytes slot) in
    rw (ne_eqb (offset_at v bytes slot) 0 (λ (e : offset_at v bytes slot ≡ 0). omega (arith, lies.behind_header))) (
      record {
        behind_header = lies.behind_header;
        before_table = omega (arith, lies.before_table);
        most = omega (arith, lies.most);
        here = ap (λ (n : ℕ). between (offset_at v bytes slot) (offset_at v bytes slot + n) bytes) len;
      },
      sym len,
    )

pub table_of_text : (v : Version) (bytes : List ℕ) (id : PageId) (number : ℕ) (images : List Image) → IsPageText v bytes id number images → IsTable v bytes (length images)
table_of_text v bytes id number images text = record {
  each = λ slot before. entry_of_slot v bytes (table_of v (length images)) slot (get_or images slot None) (text.slots slot (get_or images slot None) (slice_get-get_or images slot None before));
  apart = text.apart;
}

-- the images of a text are those that its slot table names
pub images_are : (v : Version) (bytes : List ℕ) (id : PageId) (number : ℕ) (images : List Image) → IsPageText v bytes id number images → images_in v bytes (length images) ≡ images
images_are v bytes id number images text =
    ext_get_or None (images_in v bytes (length images)) images (length-images_in v bytes (length images))
    (λ slot before. get_or-map-range_with_len (slot_image v bytes) 0 (length images) slot slot None (omega (arith, length-images_in v bytes (length images))) (omega arith)
    ∙ image_of_slot v bytes (table_of v (length images)) slot (get_or images slot None) (text.slots slot (get_or images slot None) (slice_get-get_or images slot None (omega (arith, length-images_in v bytes (length images))))))

-- a header and a slot table are a page's text
pub text_of_table : (v : Version) (bytes : List ℕ) (id : PageId) (number slots : ℕ) → length bytes ≡ page_bytes v → HasHeader v bytes id number slots → IsTable v bytes slots → IsPageText v bytes id number (images_in v bytes slots)
text_of_table v bytes id number slots whole header table =
    let same : slots ≡ length (images_in v bytes slots) = sym (length-images_in v bytes slots) in
    record {
      whole = whole;
      header = subst (λ (n : ℕ). HasHeader v bytes id number n) same header;
      slots = λ slot image got.
          let before : slot < slots = omega (arith, slice_get_within (images_in v bytes slots) slot image got) in
          let is : slot_image v bytes slot ≡ image = sym (get_or-map-range_with_len (slot_image v bytes) 0 slots slot slot None before (omega arith)) ∙ get_or_from_slice_get (images_in v bytes slots) slot image None got in
          subst (λ (n : ℕ). HasSlot v bytes (table_of v n) slot image) same
          (subst (λ (i : Image). HasSlot v bytes (table_of v slots) slot i) is (slot_of_entry v bytes (table_of v slots) slot whole (omega arith) (table.each slot before)));
      apart = λ a b position before_a before_b. table.apart a b position (omega arith) (omega arith);
    }

pub some_is : {A : Type 0} (a b : A) → Some a ≡ Some b → a ≡ b
some_is {A = A} a b same = ap (λ (o : Option A). unwrap_or o a) same

-- no record is longer than one may be
pub image_short : (v : Version) (bytes : List ℕ) (slots slot : ℕ) → length bytes ≡ page_bytes v → IsTable v bytes slots → slot < slots → image_len (slot_image v bytes slot) ≤ record_limit v
image_short v bytes slots slot whole table before =
    let entry = table.each slot before in
    omega (arith, slot_bytes v bytes (table_of v slots) slot whole (omega arith) entry, entry_short v (table_of v slots) (offset_at v bytes slot) (length_at v bytes slot) entry)

-- no slot yet
pub checked_none : (v : Version) (bytes : List ℕ) (slots : ℕ) (marks : List Bool) → 24 + 4 * slots ≤ page_bytes v → marks ≡ replicate (page_room v - 4 * slots) false → Checked v bytes slots marks 0 24
checked_none v bytes slots marks few clear = record {
  len = omega (arith, ap (λ (l : List Bool). length l) clear, length-replicate (page_room v - 4 * slots) false);
  each = λ j none. absurd (omega arith);
  apart = λ a b position none. absurd (omega arith);
  covered = λ j position none. absurd (omega arith);
  owned = λ position here. absurd (false≢true (sym (unmarked position) ∙ here));
  count = ap marked clear ∙ (sum_by-replicate (λ (m : Bool). cond m 1 0) (page_room v - 4 * slots) false ∙ none (page_room v - 4 * slots));
  front = omega arith;
  back = omega arith;
  ends = λ j none. absurd (omega arith);
}
  where
    none : (n : ℕ) → n * 0 ≡ 0
    none n = omega arith

    unmarked : (position : ℕ) → get_or marks position false ≡ false
    unmarked position = ap (λ (l : List Bool). get_or l position false) clear ∙ all (page_room v - 4 * slots) position
      where
        all : (n position : ℕ) → get_or (replicate n false) position false ≡ false
        all n position = elim (cases_lt position n) [
          | inl inside ↦ get_or-replicate n position false false inside
          | inr past ↦ get_or-eq_default (replicate n false) false (omega (arith, length-replicate n false))
        ]
