-- Changes made on pages in frames, as records that are appended or redone.
use Rattle.std.proofs.Common.{◌≡◌, ◌≢◌, inl, inr, ◌+◌, ◌<◌, ◌≤◌, ℕ, List, [], ◌∷◌, ◌++◌, true, false, Option, None, Some, IsSomeAnd, is_some, option_map, length, max, take, refl, sym, ap, subst, ◌∙◌, arith}
use Rattle.std.specs.Prelude.{IsTrue, slice_get, slice_index_or}
use Rattle.std.specs.Cmp.{eq_by_cmp_equiv}
use Rattle.std.specs.Ordering.{eq_by_cmp}
use Rattle.std.proofs.lemmas.List.{take-append-le}
use Rattle.shore_disk.specs.declared.device.Disk.{Ghosts}
use Rattle.shore_types.specs.Ids.{page_cmp, pages_total}
use Rattle.shore_types.specs.Images.{Image}
use Rattle.shore_types.specs.Layout.{HasPage}
use Rattle.shore_types.specs.declared.ids.PageId.{PageId}
use Rattle.shore_types.specs.declared.ids.Rid.{Rid}
use Rattle.shore_types.specs.declared.layout.Geometry.{Geometry}
use Rattle.shore_types.specs.declared.versions.Version.{Version}
use Rattle.shore_model.specs.declared.log_records.LogRecord.{LogRecord}
use Rattle.shore_model.specs.Logs.{image_in}
use Rattle.laws_lives.specs.Pages.{LoggedPage, redone_on, slots_with}
use Rattle.laws_lives.specs.Recovery.{AppendRecord, IsRecoverable, LeadsTo, RecoveryState, RedoRecord, after_append, after_redo}
use Rattle.laws_lives.proofs.Invariant.{equal_pages}
use Rattle.laws_lives.proofs.Redo.{own_number, slice_get_last, take_next}
use Rattle.laws_runs.specs.SlotCounts.{slot_count, slots_behind}
use Rattle.laws_runs.proofs.SlotCounts.{behind_here, slot_count-push}
use Rattle.shore_page.specs.Slots.{with_image}
use Rattle.shore_page.specs.Text.{images_of}
use Rattle.shore_dwrite.specs.Volumes.{page_number}
use Rattle.shore_dwrite.proofs.Numbers.{one_page}
use Rattle.shore_pool.specs.Changes.{changed}
use Rattle.shore_pool.specs.declared.frame.Frame.{Frame}
use Rattle.shore_pool.specs.Pages.{IsPage}
use Rattle.shore_heap.specs.declared.heap.Heap.{Heap}
use Rattle.shore_heap.specs.Heaps.{frame_at, frame_of, geometry_of}
use Rattle.shore_heap.proofs.Bounds.{cases_page}
use Rattle.laws_heaps.specs.LoggedHeaps.{AreTextsOf, HasImages, IsInPlace, IsMade, IsStoreOf, IsTextOf}
use Rattle.laws_heaps.proofs.Counts.{count_done}
use Rattle.laws_heaps.proofs.Done.{has_longer, has_next, redone_here, redone_there}
use Rattle.laws_heaps.proofs.SlotImages.{count-with_image, image-with_image}

-- ---- a longer log

has_images_longer : (log : List LogRecord) (p : PageId) (page : LoggedPage) (images : List Image) → HasImages log p page images → page.number ≤ length log → (r : LogRecord) → HasImages (log ++ r ∷ []) p page images
has_images_longer log p page images has within r = record {
  slots = has.slots;
  count = has.count ∙ ap (λ (l : List LogRecord). slot_count l p) (sym (take-append-le page.number log (r ∷ []) within));
}

text_longer : (v : Version) (log : List LogRecord) (bytes : List ℕ) (p : PageId) (page : LoggedPage) → IsTextOf v log bytes p page → page.number ≤ length log → (r : LogRecord) → IsTextOf v (log ++ r ∷ []) bytes p page
text_longer v log bytes p page is within r = record { images = is.images; text = is.text; has = has_images_longer log p page is.images is.has within r }

pub store_longer : {D : Type 0} {G : Ghosts D} (heap : Heap D G) (disk : ℕ → List ℕ) (s : RecoveryState) (r : LogRecord) → IsStoreOf heap disk s → IsRecoverable s → IsStoreOf heap disk (record s { log = s.log ++ r ∷ [] })
store_longer heap disk s r store kept = record {
  volume = record {
    each = λ p has. text_longer (geometry_of heap).version s.log (disk (page_number (geometry_of heap) p)) p (s.volume p) (store.volume.each p has) (kept.volume p).within r;
    inside = store.volume.inside;
  };
  in_place = λ p has.
      let is = store.in_place p has in
      record { images = is.images; here = is.here; has = has_images_longer s.log p (s.in_place p) is.images is.has (own_number s.log p s.redone (s.in_place p) (kept.in_place p)).within r };
  inside = store.inside;
  done = λ p. has_longer s.log p (s.in_place p) s.redone (store.done p) r kept.redone;
}

-- ---- one change

module _ (v : Version) (log : List LogRecord) (n : ℕ) (id : Rid) (image : Image) (text : List ℕ) (page : LoggedPage) where
  -- what a page has that is in place
  abbrev Has : Option Frame → LoggedPage → Type 0
  Has o it = (images : List Image) × IsPage v o text id.page it.number images × HasImages log id.page it images

  made_here : (o : Option Frame) → IsTrue (is_some o) → slot_count (take n log) id.page ≡ max (slot_count (take page.number log) id.page) (id.slot + 1) → Has o page
      → Has (option_map (changed n id.slot image) o) (record { number = n; slots = slots_with id.page page.slots id image })
  made_here None some count has = let clash : false ≡ true = some in absurd cc
  made_here (Some f) some count has = (
    images_of (with_image f.page.slots id.slot image),
    (has.1.0, refl, refl),
    record {
      slots = λ j. image-with_image id.page page.slots id f.page.slots image refl (λ i. has.2.slots i ∙ ap (λ (l : List Image). slice_index_or l i None) (sym has.1.2)) j;
      count = count-with_image f.page.slots id.slot image ∙ ap (λ (c : ℕ). max c (id.slot + 1)) (ap length has.1.2 ∙ has.2.count) ∙ sym count;
    },
  )

module _ {D : Type 0} {G : Ghosts D} (old new : Heap D G) (disk : ℕ → List ℕ) (s : RecoveryState) (r : LogRecord) (id : Rid) (image : Image) (store : IsStoreOf old disk s) (next : slice_get s.log s.redone ≡ Some r)
    (says : image_in r.payload ≡ Some (id, image)) (there : HasPage (geometry_of old) id.page) (held : IsTrue (is_some (frame_of old id.page))) (due : (s.in_place id.page).number ≤ s.redone)
    (made : IsMade old new (s.redone + 1) id image) (geometry : geometry_of new ≡ geometry_of old) where
  abbrev page_now : PageId → LoggedPage
  page_now p = redone_on (s.redone + 1) (image_in r.payload) p (s.in_place p)

  -- by the old geometry
  abbrev IsNow : PageId → LoggedPage → Type 0
  IsNow p page = (images : List Image) × IsPage (geometry_of old).version (frame_at new (page_number (geometry_of old) p)) (disk (page_number (geometry_of old) p)) p page.number images × HasImages s.log p page images

  equal : eq_by_cmp page_cmp id.page id.page ≡ true
  equal = (eq_by_cmp_equiv pages_total).refl id.page

  count_now : slot_count (take (s.redone + 1) s.log) id.page ≡ max (slot_count (take (s.in_place id.page).number s.log) id.page) (id.slot + 1)
  count_now =
      ap (λ (l : List LogRecord). slot_count l id.page) (take_next s.log s.redone r next) ∙ slot_count-push (take s.redone s.log) r id.page
      ∙ ap (λ o. slots_behind id.page o (slot_count (take s.redone s.log) id.page)) says
      ∙ behind_here (id, image) (slot_count (take s.redone s.log) id.page)
      ∙ ap (λ (c : ℕ). max c (id.slot + 1)) (sym (count_done s.log id.page (s.in_place id.page) s.redone (store.done id.page) due))

  now_here : IsNow id.page (page_now id.page)
  now_here =
      let is = store.in_place id.page there in
      let k = page_number (geometry_of old) id.page in
      let has = made_here (geometry_of old).version s.log (s.redone + 1) id image (disk k) (s.in_place id.page) (frame_of old id.page) held count_now (is.images, is.here, is.has) in
      let low : (s.in_place id.page).number < s.redone + 1 = omega arith in
      let page : page_now id.page ≡ record { number = s.redone + 1; slots = slots_with id.page (s.in_place id.page).slots id image } =
      ap (λ o. redone_on (s.redone + 1) o id.page (s.in_place id.page)) says ∙ redone_here (s.redone + 1) id.page (s.in_place id.page) (id, image) equal low in
      subst (IsNow id.page) (sym page) (has.0, subst (λ (o : Option Frame). IsPage (geometry_of old).version o (disk k) id.page (s.redone + 1) has.0) (sym made.0) has.1, has.2)

  other_page : (p : PageId) → p ≢ id.page → page_now p ≡ s.in_place p
  other_page p other = redone_there (s.redone + 1) p (s.in_place p) (image_in r.payload) (λ e is same.
      let both : Some (id, image) ≡ Some e = sym says ∙ is in
      let one : (id, image) ≡ e = cc in
      absurd (other (equal_pages p e.0.page same ∙ ap (λ (x : Rid × Image). x.0.page) (sym one))))

  now_there : (p : PageId) → HasPage (geometry_of old) p → p ≢ id.page → IsNow p (page_now p)
  now_there p has other =
      let is = store.in_place p has in
      let k = page_number (geometry_of old) p in
      let frame : frame_at new k ≡ frame_at old k = made.1 k (λ same. other (one_page (geometry_of old) p id.page has there same)) in
      subst (IsNow p) (sym (other_page p other)) (is.images, subst (λ (o : Option Frame). IsPage (geometry_of old).version o (disk k) p (s.in_place p).number is.images) (sym frame) is.here, is.has)

  now_each : (p : PageId) → HasPage (geometry_of old) p → IsNow p (page_now p)
  now_each p has = elim (cases_page p id.page) [
    | inl same ↦ subst (λ (q : PageId). IsNow q (page_now q)) (sym same) now_here
    | inr other ↦ now_there p has other
  ]

  pub store_redone : IsStoreOf new disk (after_redo s r)
  store_redone = record {
    volume = subst (λ (g : Geometry). AreTextsOf s.log g disk s.volume) (sym geometry) store.volume;
    in_place = λ p has. moved p (now_each p (subst (λ (g : Geometry). HasPage g p) geometry has));
    inside = λ p none.
        let gone : HasPage (geometry_of old) p → ⊥ = λ has. none (subst (λ (g : Geometry). HasPage g p) (sym geometry) has) in
        other_page p (λ same. gone (subst (HasPage (geometry_of old)) (sym same) there)) ∙ store.inside p gone;
    done = λ p. has_next s.log p (s.in_place p) s.redone (store.done p) r next;
  }
    where
      moved : (p : PageId) → IsNow p (page_now p) → IsInPlace s.log new disk p (page_now p)
      moved p is = record {
        images = is.0;
        here = subst (λ (g : Geometry). IsPage g.version (frame_at new (page_number g p)) (disk (page_number g p)) p (page_now p).number is.0) (sym geometry) is.1;
        has = is.2;
      }

-- ---- one that changes no page

module _ {D : Type 0} {G : Ghosts D} (heap : Heap D G) (disk : ℕ → List ℕ) (s : RecoveryState) (r : LogRecord) (store : IsStoreOf heap disk s) (next : slice_get s.log s.redone ≡ Some r) where
  pub store_passed : ((p : PageId) → redone_on (s.redone + 1) (image_in r.payload) p (s.in_place p) ≡ s.in_place p) → IsStoreOf heap disk (after_redo s r)
  store_passed same = record {
    volume = store.volume;
    in_place = λ p has. subst (IsInPlace s.log heap disk p) (sym (same p)) (store.in_place p has);
    inside = λ p none. same p ∙ store.inside p none;
    done = λ p. has_next s.log p (s.in_place p) s.redone (store.done p) r next;
  }

  pub without_image : image_in r.payload ≡ None → IsStoreOf heap disk (after_redo s r)
  without_image none = store_passed (λ p. ap (λ o. redone_on (s.redone + 1) o p (s.in_place p)) none)

  pub on_the_page : (id : Rid) (image : Image) → image_in r.payload ≡ Some (id, image) → s.redone < (s.in_place id.page).number → IsStoreOf heap disk (after_redo s r)
  on_the_page id image says above = store_passed (λ p. redone_there (s.redone + 1) p (s.in_place p) (image_in r.payload) (λ e is same.
      let both : Some (id, image) ≡ Some e = sym says ∙ is in
      let one : (id, image) ≡ e = cc in
      let here : id.page ≡ p = ap (λ (x : Rid × Image). x.0.page) one ∙ sym (equal_pages p e.0.page same) in
      subst (λ (q : PageId). s.redone + 1 ≤ (s.in_place q).number) here (omega arith)))

-- ---- the events

leads : (s : RecoveryState) (r : LogRecord) → slice_get s.log s.redone ≡ Some r → LeadsTo s RedoRecord (after_redo s r)
leads s r next = subst (λ (o : Option LogRecord). IsSomeAnd o (λ x. after_redo s r ≡ after_redo s x)) (sym next) refl

last_is : (s : RecoveryState) (r : LogRecord) → s.redone ≡ length s.log → slice_get (s.log ++ r ∷ []) s.redone ≡ Some r
last_is s r all = ap (slice_get (s.log ++ r ∷ [])) all ∙ slice_get_last s.log r

module _ {D : Type 0} {G : Ghosts D} where
  pub redone_is : (old new : Heap D G) (disk : ℕ → List ℕ) (s : RecoveryState) (r : LogRecord) (id : Rid) (image : Image) → IsStoreOf old disk s → slice_get s.log s.redone ≡ Some r → image_in r.payload ≡ Some (id, image)
      → HasPage (geometry_of old) id.page → IsTrue (is_some (frame_of old id.page)) → (s.in_place id.page).number ≤ s.redone → IsMade old new (s.redone + 1) id image → geometry_of new ≡ geometry_of old
      → LeadsTo s RedoRecord (after_redo s r) × IsStoreOf new disk (after_redo s r)
  redone_is old new disk s r id image store next says there held due made geometry = (leads s r next, store_redone old new disk s r id image store next says there held due made geometry)

  pub appended_is : (old new : Heap D G) (disk : ℕ → List ℕ) (s : RecoveryState) (r : LogRecord) (id : Rid) (image : Image) → IsStoreOf old disk s → IsRecoverable s → s.redone ≡ length s.log
      → image_in r.payload ≡ Some (id, image) → HasPage (geometry_of old) id.page → IsTrue (is_some (frame_of old id.page)) → IsMade old new (length s.log + 1) id image → geometry_of new ≡ geometry_of old
      → LeadsTo s (AppendRecord r) (after_append s r) × IsStoreOf new disk (after_append s r)
  appended_is old new disk s r id image store kept all says there held made geometry =
      let within = (own_number s.log id.page s.redone (s.in_place id.page) (kept.in_place id.page)).within in (
        (all, refl),
        store_redone old new disk (record s { log = s.log ++ r ∷ [] }) r id image (store_longer old disk s r store kept) (last_is s r all) says there held (omega arith)
            (subst (λ (n : ℕ). IsMade old new (n + 1) id image) (sym all) made) geometry,
      )

  pub appended_without : (heap : Heap D G) (disk : ℕ → List ℕ) (s : RecoveryState) (r : LogRecord) → IsStoreOf heap disk s → IsRecoverable s → s.redone ≡ length s.log → image_in r.payload ≡ None
      → LeadsTo s (AppendRecord r) (after_append s r) × IsStoreOf heap disk (after_append s r)
  appended_without heap disk s r store kept all none =
      ((all, refl), without_image heap disk (record s { log = s.log ++ r ∷ [] }) r (store_longer heap disk s r store kept) (last_is s r all) none)

  pub passed_is : (heap : Heap D G) (disk : ℕ → List ℕ) (s : RecoveryState) (r : LogRecord) (id : Rid) (image : Image) → IsStoreOf heap disk s → slice_get s.log s.redone ≡ Some r → image_in r.payload ≡ Some (id, image)
      → s.redone < (s.in_place id.page).number → LeadsTo s RedoRecord (after_redo s r) × IsStoreOf heap disk (after_redo s r)
  passed_is heap disk s r id image store next says above = (leads s r next, on_the_page heap disk s r store next id image says above)

  pub without_is : (heap : Heap D G) (disk : ℕ → List ℕ) (s : RecoveryState) (r : LogRecord) → IsStoreOf heap disk s → slice_get s.log s.redone ≡ Some r → image_in r.payload ≡ None
      → LeadsTo s RedoRecord (after_redo s r) × IsStoreOf heap disk (after_redo s r)
  without_is heap disk s r store next none = (leads s r next, without_image heap disk s r store next none)
