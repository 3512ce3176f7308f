-- What a record that is put, or taken away, does to a page's slot table and to what is in its slots.
use Rattle.std.proofs.Common.{◌≡◌, ◌≢◌, ℕ, ◌+◌, ◌*◌, ◌-◌, ◌<◌, ◌≤◌, ◌⊎◌, max, inl, inr, List, [], ◌++◌, length, get_or, replicate, Some, None, refl, sym, ap, subst, ◌∙◌, arith}
use Rattle.std.proofs.Math.ListN.{set}
use Rattle.std.proofs.lemmas.List.{ext_get_or, length-set, get_or-set_same, get_or-set_other, length-append, length-replicate, get_or_append_left, get_or-append_right, get_or-replicate}
use Rattle.std.proofs.lemmas.List.FromFn.{length-map-range_with_len, get_or-map-range_with_len}
use Rattle.std.proofs.lemmas.Bool.{cases_lt, ne_eqb, eq-eqb}
use Rattle.std.specs.Prelude.{◌==◌, if◌then◌else◌}
use Rattle.std.specs.List.{between}
use Rattle.shore_types.specs.Images.{Image}
use Rattle.shore_types.specs.declared.versions.Version.{Version}
use Rattle.shore_types.specs.Versions.{page_bytes, record_limit, sizes}
use Rattle.shore_page.specs.Text.{table_of, offset_at, length_at, Covers}
use Rattle.shore_page.specs.Reading.{Lies, IsEntry, slot_image, images_in}
use Rattle.shore_page.specs.Writing.{PutsRecord, KeepsBeside, KeepsHeader}
use Rattle.shore_page.specs.Layout.{PageImages, IsLaidOut, IsFreeSpace, KeepsOthers, record_bytes}
use Rattle.shore_page.proofs.WritingLemmas.{between_same, number_same, number_above}

pub same_or_not : (a b : ℕ) → (a ≡ b) ⊎ (a ≢ b)
same_or_not a b = elim (cases_lt a b) [
  | inl less ↦ inr (λ (e : a ≡ b). omega arith)
  | inr more ↦ elim (cases_lt b a) [
    | inl greater ↦ inr (λ (e : a ≡ b). omega arith)
    | inr equal ↦ inl (omega arith)
  ]
]

-- ---- what an entry names

abbrev named : List ℕ → ℕ → ℕ → Image
named bytes offset len = if offset == 0 then None else Some (between offset (offset + len) bytes)

image_named : (v : Version) (bytes : List ℕ) (slot : ℕ) → slot_image v bytes slot ≡ named bytes (offset_at v bytes slot) (length_at v bytes slot)
unfolding slot_image
image_named v bytes slot = refl

-- an image is the same if its entry and its bytes are
pub image_same : (v : Version) (old new : List ℕ) (slot : ℕ) → length new ≡ length old → offset_at v old slot + length_at v old slot ≤ length old → offset_at v new slot ≡ offset_at v old slot → length_at v new slot ≡ length_at v old slot
    → ((position : ℕ) → Covers v old slot position → get_or new position 0 ≡ get_or old position 0) → slot_image v new slot ≡ slot_image v old slot
image_same v old new slot len inside offset bytes same =
    image_named v new slot ∙ ap (λ (o : ℕ). named new o (length_at v new slot)) offset ∙ ap (λ (n : ℕ). named new (offset_at v old slot) n) bytes
    ∙ ap (λ (l : List ℕ). if offset_at v old slot == 0 then None else Some l) (between_same old new (offset_at v old slot) (offset_at v old slot + length_at v old slot) len inside (λ i low high. same i (low, high)))
    ∙ sym (image_named v old slot)

pub image_none : (v : Version) (bytes : List ℕ) (slot : ℕ) → offset_at v bytes slot ≡ 0 → slot_image v bytes slot ≡ None
image_none v bytes slot offset = image_named v bytes slot ∙ named_none (offset_at v bytes slot) offset
  where
    named_none : (offset : ℕ) → offset ≡ 0 → named bytes offset (length_at v bytes slot) ≡ None
    named_none offset zero = rw (eq-eqb offset 0 zero) refl

pub offset_none : (v : Version) (bytes : List ℕ) (slot : ℕ) → slot_image v bytes slot ≡ None → offset_at v bytes slot ≡ 0
offset_none v bytes slot none = elim (cases_lt 0 (offset_at v bytes slot)) [
  | inl some ↦ (let clash : Some (between (offset_at v bytes slot) (offset_at v bytes slot + length_at v bytes slot) bytes) ≡ None = sym (named_full (offset_at v bytes slot) some) ∙ sym (image_named v bytes slot) ∙ none in cc)
  | inr zero ↦ omega arith
]
  where
    named_full : (offset : ℕ) → 0 < offset → named bytes offset (length_at v bytes slot) ≡ Some (between offset (offset + length_at v bytes slot) bytes)
    named_full offset some = rw (ne_eqb offset 0 (λ (e : offset ≡ 0). omega arith)) refl

pub image_some : (v : Version) (bytes record_is : List ℕ) (slot offset : ℕ) → 24 ≤ offset → offset_at v bytes slot ≡ offset → length_at v bytes slot ≡ length record_is → between offset (offset + length record_is) bytes ≡ record_is
    → slot_image v bytes slot ≡ Some record_is
image_some v bytes record_is slot offset front is_offset is_length here =
    image_named v bytes slot ∙ ap (λ (o : ℕ). named bytes o (length_at v bytes slot)) is_offset ∙ ap (λ (n : ℕ). named bytes offset n) is_length
    ∙ named_some offset front ∙ ap (λ (l : List ℕ). Some l) here
  where
    named_some : (offset : ℕ) → 24 ≤ offset → named bytes offset (length record_is) ≡ Some (between offset (offset + length record_is) bytes)
    named_some offset front = rw (ne_eqb offset 0 (λ (e : offset ≡ 0). omega arith)) refl

pub entry_within : (v : Version) (table offset len : ℕ) → IsEntry v table offset len → offset + len ≤ table
entry_within v table offset len (inl empty) = omega (arith, empty.0, empty.1)
entry_within v table offset len (inr lies) = lies.before_table

pub entry_lies : (v : Version) (table offset len : ℕ) → IsEntry v table offset len → offset ≢ 0 → Lies v table offset len
entry_lies v table offset len (inl empty) full = absurd (full empty.0)
entry_lies v table offset len (inr lies) full = lies

pub entry_short : (v : Version) (table offset len : ℕ) → IsEntry v table offset len → len ≤ record_limit v
entry_short v table offset len (inl empty) = omega (arith, empty.1)
entry_short v table offset len (inr lies) = lies.most

-- a byte of a record is behind the header
pub covers_behind : (v : Version) (bytes : List ℕ) (table slot position : ℕ) → IsEntry v table (offset_at v bytes slot) (length_at v bytes slot) → Covers v bytes slot position → 24 ≤ position
covers_behind v bytes table slot position entry covers = behind (offset_at v bytes slot) (length_at v bytes slot) entry covers.0 covers.1
  where
    behind : (offset len : ℕ) → IsEntry v table offset len → offset ≤ position → position < offset + len → 24 ≤ position
    behind offset len (inl none) low high = absurd (omega (arith, none.0, none.1))
    behind offset len (inr lies) low high = omega (arith, lies.behind_header)

-- ---- the images of all slots

pub length-images : (v : Version) (bytes : List ℕ) (slots : ℕ) → length (images_in v bytes slots) ≡ slots
length-images v bytes slots = length-map-range_with_len (slot_image v bytes) 0 slots

pub get-images : (v : Version) (bytes : List ℕ) (slots slot : ℕ) → slot < slots → get_or (images_in v bytes slots) slot None ≡ slot_image v bytes slot
get-images v bytes slots slot before = get_or-map-range_with_len (slot_image v bytes) 0 slots slot slot None before (omega arith)

-- one image changed
pub images_set : (v : Version) (old new : List ℕ) (slots slot : ℕ) (image : Image) → slot < slots → KeepsOthers v old new slots slot → slot_image v new slot ≡ image → images_in v new slots ≡ set (images_in v old slots) slot image
images_set v old new slots slot image there kept here =
    let len_old = length-images v old slots in
    let len_new = length-images v new slots in
    ext_get_or None (images_in v new slots) (set (images_in v old slots) slot image) (omega (arith, length-set (images_in v old slots) slot image))
    (λ k inside. let before : k < slots = omega arith in elim (same_or_not k slot) [
      | inl same ↦ get-images v new slots k before ∙ ap (slot_image v new) same ∙ here ∙ sym (ap (λ (j : ℕ). get_or (set (images_in v old slots) slot image) j None) same ∙ get_or-set_same (images_in v old slots) slot image None (omega arith))
      | inr other ↦ get-images v new slots k before ∙ kept k before other ∙ sym (get_or-set_other (images_in v old slots) slot k image None other ∙ get-images v old slots k before)
    ])

-- all images are the same
pub images_same : (v : Version) (old new : List ℕ) (slots : ℕ) → ((slot : ℕ) → slot < slots → slot_image v new slot ≡ slot_image v old slot) → images_in v new slots ≡ images_in v old slots
images_same v old new slots same =
    let len_old = length-images v old slots in
    let len_new = length-images v new slots in
    ext_get_or None (images_in v new slots) (images_in v old slots) (omega arith)
    (λ k inside. let before : k < slots = omega arith in get-images v new slots k before ∙ same k before ∙ sym (get-images v old slots k before))

pub one_image_same : (v : Version) (old new : List ℕ) (slots slot : ℕ) → images_in v new slots ≡ images_in v old slots → slot < slots → slot_image v new slot ≡ slot_image v old slot
one_image_same v old new slots slot same before = sym (get-images v new slots slot before) ∙ ap (λ (l : List Image). get_or l slot None) same ∙ get-images v old slots slot before

-- more slots, of which those that are new are empty
pub images_grown : (v : Version) (old new : List ℕ) (slots more : ℕ) → slots ≤ more → ((slot : ℕ) → slot < slots → slot_image v new slot ≡ slot_image v old slot) → ((slot : ℕ) → slots ≤ slot → slot < more → slot_image v new slot ≡ None)
    → images_in v new more ≡ images_in v old slots ++ replicate (more - slots) None
images_grown v old new slots more order same empty =
    let len_old = length-images v old slots in
    let len_new = length-images v new more in
    let empties : List Image = replicate (more - slots) None in
    let rest : length empties ≡ more - slots = length-replicate (more - slots) None in
    ext_get_or None (images_in v new more) (images_in v old slots ++ replicate (more - slots) None) (omega (arith, length-append (images_in v old slots) (replicate (more - slots) None)))
    (λ k inside. let before : k < more = omega arith in elim (cases_lt k slots) [
      | inl there ↦ get-images v new more k before ∙ same k there ∙ sym (get_or_append_left (images_in v old slots) (replicate (more - slots) None) None k (omega arith) ∙ get-images v old slots k there)
      | inr late ↦ get-images v new more k before ∙ empty k late before ∙ sym (get_or-append_right (images_in v old slots) (replicate (more - slots) None) slots k None len_old late ∙ get_or-replicate (more - slots) (k - slots) None None (omega arith))
    ])

-- ---- a record put

-- what other slots have
pub put_others : (v : Version) (old new : List ℕ) (slots slot offset end : ℕ) (bytes : List ℕ) → IsLaidOut v old slots end → PutsRecord v old new slots slot offset bytes
    → ((other position : ℕ) → other < slots → other ≢ slot → Covers v old other position → (position < offset) ⊎ (offset + length bytes ≤ position)) → KeepsOthers v old new slots slot
put_others v old new slots slot offset end bytes laid_out puts free other before apart =
    let entry = puts.entries other before apart in
    let within = entry_within v (table_of v slots) (offset_at v old other) (length_at v old other) (laid_out.table.each other before) in
    image_same v old new other puts.len (omega (arith, laid_out.whole)) entry.0 entry.1
    (λ position covers. puts.beside position (omega (arith, covers.1)) (free other position before apart covers))

-- the slot table
pub put_laid_out : (v : Version) (old new : List ℕ) (slots slot offset end end' : ℕ) (bytes : List ℕ) → IsLaidOut v old slots end → slot < slots → PutsRecord v old new slots slot offset bytes
    → ((other position : ℕ) → other < slots → other ≢ slot → Covers v old other position → (position < offset) ⊎ (offset + length bytes ≤ position))
    → IsEntry v (table_of v slots) offset (length bytes) → end ≤ end' → offset + length bytes ≤ end' → end' ≤ table_of v slots → IsLaidOut v new slots end'
put_laid_out v old new slots slot offset end end' bytes laid_out there puts free entry grows ends back = record {
  whole = puts.len ∙ laid_out.whole;
  few = laid_out.few;
  table = record {
    each = λ other before. elim (same_or_not other slot) [
      | inl same ↦ subst (λ (k : ℕ). IsEntry v (table_of v slots) (offset_at v new k) (length_at v new k)) (sym same)
          (subst (λ (o : ℕ). IsEntry v (table_of v slots) o (length_at v new slot)) (sym puts.begins) (subst (λ (n : ℕ). IsEntry v (table_of v slots) offset n) (sym puts.lasts) entry))
      | inr apart ↦ (let kept = puts.entries other before apart in
          subst (λ (o : ℕ). IsEntry v (table_of v slots) o (length_at v new other)) (sym kept.0) (subst (λ (n : ℕ). IsEntry v (table_of v slots) (offset_at v old other) n) (sym kept.1) (laid_out.table.each other before)))
    ];
    apart = λ a b position before_a before_b covers_a covers_b. elim (same_or_not a slot) [
      | inl a_same ↦ elim (same_or_not b slot) [
        | inl b_same ↦ a_same ∙ sym b_same
        | inr b_other ↦ absurd (clash a b position a_same before_b b_other covers_a covers_b)
      ]
      | inr a_other ↦ elim (same_or_not b slot) [
        | inl b_same ↦ absurd (clash b a position b_same before_a a_other covers_b covers_a)
        | inr b_other ↦ laid_out.table.apart a b position before_a before_b (covers_old a position before_a a_other covers_a) (covers_old b position before_b b_other covers_b)
      ]
    ];
  };
  front = omega (arith, laid_out.front);
  back = back;
  ends = λ other before. elim (same_or_not other slot) [
    | inl same ↦ subst (λ (k : ℕ). offset_at v new k + length_at v new k ≤ end') (sym same) (omega (arith, puts.begins, puts.lasts))
    | inr apart ↦ (let kept = puts.entries other before apart in omega (arith, kept.0, kept.1, laid_out.ends other before))
  ];
}
  where
    covers_old : (other position : ℕ) → other < slots → other ≢ slot → Covers v new other position → Covers v old other position
    covers_old other position before apart covers =
        let kept = puts.entries other before apart in (omega (arith, kept.0, covers.0), omega (arith, kept.0, kept.1, covers.1))

    -- a byte of the record and of another one
    clash : (a b position : ℕ) → a ≡ slot → b < slots → b ≢ slot → Covers v new a position → Covers v new b position → ⊥
    clash a b position same before apart covers_a covers_b =
        let here = subst (λ (k : ℕ). Covers v new k position) same covers_a in
        elim (free b position before apart (covers_old b position before apart covers_b)) [
          | inl low ↦ omega (arith, here.0, puts.begins)
          | inr high ↦ omega (arith, here.1, puts.begins, puts.lasts)
        ]

-- ---- where a record may go

-- where a slot's longer record is
pub free_in_place : (v : Version) (bytes : List ℕ) (slots slot end len : ℕ) → IsLaidOut v bytes slots end → slot < slots → offset_at v bytes slot ≢ 0 → len ≤ length_at v bytes slot → IsFreeSpace v bytes slots slot (offset_at v bytes slot) len
free_in_place v bytes slots slot end len laid_out there full short =
    let lies = entry_lies v (table_of v slots) (offset_at v bytes slot) (length_at v bytes slot) (laid_out.table.each slot there) full in
    record {
      front = lies.behind_header;
      back = omega (arith, lies.before_table);
      free = λ other position before apart covers. elim (cases_lt position (offset_at v bytes slot)) [
        | inl low ↦ inl low
        | inr from_on ↦ elim (cases_lt position (offset_at v bytes slot + len)) [
          | inl inside ↦ absurd (apart (laid_out.table.apart other slot position before there covers (from_on, omega arith)))
          | inr high ↦ inr high
        ]
      ];
    }

-- the gap below the slot table
pub free_in_gap : (v : Version) (bytes : List ℕ) (slots slot end len : ℕ) → IsLaidOut v bytes slots end → end + len ≤ table_of v slots → IsFreeSpace v bytes slots slot end len
free_in_gap v bytes slots slot end len laid_out room = record {
  front = laid_out.front;
  back = room;
  free = λ other position before apart covers. inl (omega (arith, covers.1, laid_out.ends other before));
}

-- no byte is taken by a record of no bytes
pub nothing_taken : (v : Version) (bytes : List ℕ) (slots slot other position : ℕ) → other < slots → other ≢ slot → Covers v bytes other position → (position < 0) ⊎ (0 + 0 ≤ position)
nothing_taken v bytes slots slot other position before apart covers = inr (omega arith)

-- an empty slot is laid out
pub none_laid_out : (v : Version) (old new : List ℕ) (slots slot end : ℕ) → IsLaidOut v old slots end → slot < slots → PutsRecord v old new slots slot 0 [] → IsLaidOut v new slots end
none_laid_out v old new slots slot end laid_out there puts =
    put_laid_out v old new slots slot 0 end end [] laid_out there puts (nothing_taken v old slots slot) (inl (refl, refl)) (omega arith) (omega (arith, laid_out.front)) laid_out.back

pub none_images : (v : Version) (old new : List ℕ) (slots slot end : ℕ) → IsLaidOut v old slots end → slot < slots → PutsRecord v old new slots slot 0 [] → images_in v new slots ≡ set (images_in v old slots) slot None
none_images v old new slots slot end laid_out there puts =
    images_set v old new slots slot None there (put_others v old new slots slot 0 end [] laid_out puts (nothing_taken v old slots slot)) (image_none v new slot puts.begins)

-- the header, where a record was put behind it, or none was put
pub puts_header : (v : Version) (old new : List ℕ) (slots slot offset : ℕ) (bytes : List ℕ) → 24 + 4 * slots ≤ page_bytes v → PutsRecord v old new slots slot offset bytes → (24 ≤ offset) ⊎ (offset + length bytes ≤ 0) → KeepsHeader old new
puts_header v old new slots slot offset bytes few puts side = record {
  len = puts.len;
  same = λ position front. puts.beside position (omega arith) (sided position front side);
}
  where
    sided : (position : ℕ) → position < 24 → (24 ≤ offset) ⊎ (offset + length bytes ≤ 0) → (position < offset) ⊎ (offset + length bytes ≤ position)
    sided position front (inl behind) = inl (omega arith)
    sided position front (inr none) = inr (omega arith)

-- ---- what there is when a record was given up and the others were moved together

pub record CompactedFor (v : Version) (old new : List ℕ) (slots slot end len : ℕ) : Type 0 where
  pub free : IsFreeSpace v new slots slot end len
  pub others : KeepsOthers v old new slots slot
  pub header : KeepsHeader old new

pub given_up_room : (v : Version) (old mid : List ℕ) (slots slot end len : ℕ) → IsLaidOut v old slots end → slot < slots → PutsRecord v old mid slots slot 0 [] → 24 + record_bytes (set (images_in v old slots) slot None) + len ≤ table_of v slots
    → 24 + record_bytes (images_in v mid slots) + len ≤ table_of v slots
given_up_room v old mid slots slot end len laid_out there puts room =
    let same : record_bytes (images_in v mid slots) ≡ record_bytes (set (images_in v old slots) slot None) = ap record_bytes (none_images v old mid slots slot end laid_out there puts) in
    omega arith

pub compacted_for : (v : Version) (old mid new : List ℕ) (slots slot end end' len : ℕ) → IsLaidOut v old slots end → slot < slots → PutsRecord v old mid slots slot 0 []
    → 24 + record_bytes (set (images_in v old slots) slot None) + len ≤ table_of v slots → IsLaidOut v new slots end' → end' ≡ 24 + record_bytes (images_in v mid slots) → images_in v new slots ≡ images_in v mid slots → KeepsHeader mid new
    → CompactedFor v old new slots slot end' len
compacted_for v old mid new slots slot end end' len laid_out there puts room new_laid_out is same header =
    let kept = puts_header v old mid slots slot 0 [] laid_out.few puts (inr (omega arith)) in
    record {
      free = free_in_gap v new slots slot end' len new_laid_out (omega (arith, given_up_room v old mid slots slot end len laid_out there puts room));
      others = λ other before apart. one_image_same v mid new slots other same before ∙ put_others v old mid slots slot 0 end [] laid_out puts (nothing_taken v old slots slot) other before apart;
      header = record { len = header.len ∙ kept.len; same = λ position front. header.same position front ∙ kept.same position front };
    }

-- ---- a record put where it may go

pub record PutDone (v : Version) (old new : List ℕ) (slots slot end : ℕ) (bytes : List ℕ) : Type 0 where
  pub laid_out : IsLaidOut v new slots end
  pub images : images_in v new slots ≡ set (images_in v old slots) slot (Some bytes)
  pub header : KeepsHeader old new

pub put_done : (v : Version) (old mid new : List ℕ) (slots slot offset end : ℕ) (bytes : List ℕ) → IsLaidOut v mid slots end → IsFreeSpace v mid slots slot offset (length bytes) → KeepsOthers v old mid slots slot → KeepsHeader old mid
    → PutsRecord v mid new slots slot offset bytes → slot < slots → length bytes ≤ record_limit v → PutDone v old new slots slot (max end (offset + length bytes)) bytes
put_done v old mid new slots slot offset end bytes laid_out place others header puts there short =
    let kept = puts_header v mid new slots slot offset bytes laid_out.few puts (inl place.front) in
    let entry : IsEntry v (table_of v slots) offset (length bytes) = inr record { behind_header = place.front; before_table = place.back; most = short } in
    record {
      laid_out = put_laid_out v mid new slots slot offset end (max end (offset + length bytes)) bytes laid_out there puts place.free entry (omega arith) (omega arith) (omega (arith, laid_out.back, place.back));
      images = images_set v old new slots slot (Some bytes) there
          (λ other before apart. put_others v mid new slots slot offset end bytes laid_out puts place.free other before apart ∙ others other before apart)
          (image_some v new bytes slot offset place.front puts.begins puts.lasts puts.here);
      header = record { len = kept.len ∙ header.len; same = λ position front. kept.same position front ∙ header.same position front };
    }

-- ---- more slots

pub record GrowDone (v : Version) (old new : List ℕ) (slots more end : ℕ) : Type 0 where
  pub laid_out : IsLaidOut v new more end
  pub images : images_in v new more ≡ images_in v old slots ++ replicate (more - slots) None

pub grow_done : (v : Version) (old new : List ℕ) (slots more end : ℕ) → IsLaidOut v old slots end → slots ≤ more → 24 + 4 * more ≤ page_bytes v → end ≤ table_of v more → length new ≡ page_bytes v
    → ((position : ℕ) → 24 ≤ position → position < table_of v more → get_or new position 0 ≡ get_or old position 0)
    → ((position : ℕ) → table_of v slots ≤ position → get_or new position 0 ≡ get_or old position 0)
    → ((slot : ℕ) → slots ≤ slot → slot < more → (offset_at v new slot ≡ 0) × (length_at v new slot ≡ 0)) → GrowDone v old new slots more end
grow_done v old new slots more end laid_out order few room whole below above empty = record {
  laid_out = record {
    whole = whole;
    few = few;
    table = record {
      each = λ slot before. elim (cases_lt slot slots) [
        | inl there ↦ entry_there slot there
        | inr late ↦ inl (empty slot late before)
      ];
      apart = λ a b position before_a before_b covers_a covers_b. laid_out.table.apart a b position (covers_there a position before_a covers_a) (covers_there b position before_b covers_b)
          (covers_old a position (covers_there a position before_a covers_a) covers_a) (covers_old b position (covers_there b position before_b covers_b) covers_b);
    };
    front = laid_out.front;
    back = room;
    ends = λ slot before. elim (cases_lt slot slots) [
      | inl there ↦ (let kept = entry_kept slot there in omega (arith, kept.0, kept.1, laid_out.ends slot there))
      | inr late ↦ (let none = empty slot late before in omega (arith, none.0, none.1, laid_out.front))
    ];
  };
  images = images_grown v old new slots more order
      (λ slot there. image_same v old new slot (omega (arith, laid_out.whole)) (omega (arith, laid_out.ends slot there, laid_out.back, laid_out.whole)) (entry_kept slot there).0 (entry_kept slot there).1
      (λ position covers. below position (omega (arith, lies_behind slot there position covers)) (omega (arith, laid_out.ends slot there, covers.1))))
      (λ slot late before. image_none v new slot (empty slot late before).0);
}
  where
    entry_kept : (slot : ℕ) → slot < slots → (offset_at v new slot ≡ offset_at v old slot) × (length_at v new slot ≡ length_at v old slot)
    entry_kept slot there = (
      number_same old new (table_of v (slot + 1)) 2 (omega (arith, laid_out.whole)) (omega (arith, laid_out.whole, laid_out.few)) (λ i low high. above i (omega arith)),
      number_same old new (table_of v (slot + 1) + 2) 2 (omega (arith, laid_out.whole)) (omega (arith, laid_out.whole, laid_out.few)) (λ i low high. above i (omega arith)),
    )

    lies_behind : (slot : ℕ) → slot < slots → (position : ℕ) → Covers v old slot position → 24 ≤ position
    lies_behind slot there position covers = covers_behind v old (table_of v slots) slot position (laid_out.table.each slot there) covers

    entry_there : (slot : ℕ) → slot < slots → IsEntry v (table_of v more) (offset_at v new slot) (length_at v new slot)
    entry_there slot there =
        let kept = entry_kept slot there in
        let ends = laid_out.ends slot there in
        subst (λ (o : ℕ). IsEntry v (table_of v more) o (length_at v new slot)) (sym kept.0) (subst (λ (n : ℕ). IsEntry v (table_of v more) (offset_at v old slot) n) (sym kept.1)
        (shorter (table_of v slots) (offset_at v old slot) (length_at v old slot) (laid_out.table.each slot there) (omega arith)))
      where
        shorter : (table offset len : ℕ) → IsEntry v table offset len → offset + len ≤ table_of v more → IsEntry v (table_of v more) offset len
        shorter table offset len (inl none) within = inl none
        shorter table offset len (inr lies) within = inr record { behind_header = lies.behind_header; before_table = within; most = lies.most }

    covers_there : (slot position : ℕ) → slot < more → Covers v new slot position → slot < slots
    covers_there slot position before covers = elim (cases_lt slot slots) [
      | inl there ↦ there
      | inr late ↦ (let none = empty slot late before in absurd (omega (arith, none.0, none.1, covers.1)))
    ]

    covers_old : (slot position : ℕ) → slot < slots → Covers v new slot position → Covers v old slot position
    covers_old slot position there covers =
        let kept = entry_kept slot there in (omega (arith, kept.0, covers.0), omega (arith, kept.0, kept.1, covers.1))

-- ---- a page's text as its images

-- another list of images
abbrev pub with_images : PageImages → List Image → PageImages
with_images p l = record { version = p.version; id = p.id; number = p.number; images = l }

pub same_but_images : (p q : PageImages) (l m : List Image) → p ≡ q → l ≡ m → with_images p l ≡ with_images q m
same_but_images p q l m same images = ap (λ (p : PageImages). with_images p l) same ∙ ap (λ (l : List Image). with_images q l) images

-- another number in the header
pub number_entries : (v : Version) (old new : List ℕ) (slots end slot : ℕ) → IsLaidOut v old slots end → KeepsBeside old new 8 16 → slot < slots → (offset_at v new slot ≡ offset_at v old slot) × (length_at v new slot ≡ length_at v old slot)
number_entries v old new slots end slot laid_out kept there = (
  number_above old new 8 16 (table_of v (slot + 1)) 2 kept (omega (arith, laid_out.whole, laid_out.few)) (omega (arith, laid_out.few)),
  number_above old new 8 16 (table_of v (slot + 1) + 2) 2 kept (omega (arith, laid_out.whole, laid_out.few)) (omega (arith, laid_out.few)),
)

pub number_laid_out : (v : Version) (old new : List ℕ) (slots end : ℕ) → IsLaidOut v old slots end → KeepsBeside old new 8 16 → IsLaidOut v new slots end
number_laid_out v old new slots end laid_out kept =
    let entry = λ (slot : ℕ) (there : slot < slots). number_entries v old new slots end slot laid_out kept there in
    record {
      whole = kept.len ∙ laid_out.whole;
      few = laid_out.few;
      table = record {
        each = λ slot there. subst (λ (o : ℕ). IsEntry v (table_of v slots) o (length_at v new slot)) (sym (entry slot there).0)
            (subst (λ (n : ℕ). IsEntry v (table_of v slots) (offset_at v old slot) n) (sym (entry slot there).1) (laid_out.table.each slot there));
        apart = λ a b position before_a before_b covers_a covers_b. laid_out.table.apart a b position before_a before_b
            (omega (arith, (entry a before_a).0, covers_a.0), omega (arith, (entry a before_a).0, (entry a before_a).1, covers_a.1))
            (omega (arith, (entry b before_b).0, covers_b.0), omega (arith, (entry b before_b).0, (entry b before_b).1, covers_b.1));
      };
      front = laid_out.front;
      back = laid_out.back;
      ends = λ slot there. omega (arith, (entry slot there).0, (entry slot there).1, laid_out.ends slot there);
    }

pub number_images : (v : Version) (old new : List ℕ) (slots end : ℕ) → IsLaidOut v old slots end → KeepsBeside old new 8 16 → images_in v new slots ≡ images_in v old slots
number_images v old new slots end laid_out kept =
    images_same v old new slots (λ slot there.
    let entry = number_entries v old new slots end slot laid_out kept there in
    image_same v old new slot kept.len (omega (arith, laid_out.ends slot there, laid_out.back, laid_out.whole)) entry.0 entry.1
    (λ position covers. kept.above position (omega (arith, covers_behind v old (table_of v slots) slot position (laid_out.table.each slot there) covers))))

-- a page with no slot
pub nothing_laid_out : (v : Version) (bytes : List ℕ) → length bytes ≡ page_bytes v → IsLaidOut v bytes 0 24
nothing_laid_out v bytes whole = record {
  whole = whole;
  few = omega (arith, sizes);
  table = record { each = λ slot none. absurd (omega arith); apart = λ a b position none. absurd (omega arith) };
  front = omega arith;
  back = omega (arith, sizes);
  ends = λ slot none. absurd (omega arith);
}
