-- Pages that are written back, as flushes that leave them no recovery numbers.
use Rattle.std.proofs.Common.{if◌then◌else◌, ◌≡◌, ◌≢◌, ◌⊎◌, inl, inr, ◌≤◌, ℕ, List, [], ◌∷◌, Option, None, Some, cond, map, refl, sym, ap, subst, ◌∙◌, arith}
use Rattle.std.specs.Prelude.{unwrap_or}
use Rattle.std.proofs.lemmas.Bool.{cases_Bool, cases_eq}
use Rattle.std.specs.Cmp.{eq_by_cmp_equiv}
use Rattle.std.specs.Ordering.{eq_by_cmp}
use Rattle.shore_disk.specs.declared.device.Disk.{Ghosts}
use Rattle.shore_types.specs.Ids.{page_cmp, pages_total}
use Rattle.shore_types.specs.Images.{Image}
use Rattle.shore_types.specs.Layout.{HasPage}
use Rattle.shore_types.specs.declared.ids.PageId.{PageId}
use Rattle.shore_types.specs.declared.layout.Geometry.{Geometry}
use Rattle.shore_model.specs.declared.log_records.LogRecord.{LogRecord}
use Rattle.laws_lives.specs.ManagerSteps.{WorksTo}
use Rattle.laws_lives.specs.Pages.{LoggedPage, LoggedPages}
use Rattle.laws_lives.specs.Recovery.{FlushPage, IsRecoverable, RecoveryEvent, after_flush, with_page_written}
use Rattle.laws_lives.specs.Restarts.{RestartsTo}
use Rattle.laws_lives.specs.Views.{IsAmong}
use Rattle.laws_lives.proofs.Invariant.{equal_pages}
use Rattle.laws_checkpoints.specs.CheckpointedStores.{CheckpointedLeadTo, CheckpointedStore, StoreEvent}
use Rattle.laws_checkpoints.specs.RecoveryNumbers.{RecoveryNumbers}
use Rattle.shore_page.specs.Text.{IsPageText}
use Rattle.shore_dwrite.specs.Volumes.{page_number}
use Rattle.shore_pool.specs.declared.frame.Frame.{Frame}
use Rattle.shore_pool.specs.Pages.{IsPage}
use Rattle.shore_pool.specs.Pools.{PoolHolds}
use Rattle.shore_pool.proofs.Same.{one_page, one_text}
use Rattle.shore_heap.specs.declared.heap.Heap.{Heap}
use Rattle.shore_heap.specs.Heaps.{StayInPlace, frame_at, geometry_of}
use Rattle.laws_heaps.specs.HeapRecoveries.{HasRecoveries, recovery_in}
use Rattle.laws_heaps.specs.LoggedHeaps.{AreTextsOf, IsStoreOf, IsTextOf}
use Rattle.laws_heaps.proofs.AllPages.{all_pages, has_or_not, page_among}
use Rattle.laws_heaps.proofs.Flushes.{written_here, written_or_not}
use Rattle.laws_heaps.proofs.Stores.{store_over, text_in_place}

-- ---- flushes, one after another

-- a page that is flushed has no recovery number
abbrev cleaned : RecoveryNumbers → PageId → RecoveryNumbers
cleaned recovery q = λ p. if eq_by_cmp page_cmp p q then 0 else recovery p

cleaned_or_not : (recovery : RecoveryNumbers) (q p : PageId) → ((p ≡ q) × (cleaned recovery q p ≡ 0)) ⊎ (cleaned recovery q p ≡ recovery p)
cleaned_or_not recovery q p = elim (cases_Bool (eq_by_cmp page_cmp p q)) [
  | inl equal ↦ inl (equal_pages p q equal, ap (λ b. cond b 0 (recovery p)) equal)
  | inr apart ↦ inr (ap (λ b. cond b 0 (recovery p)) apart)
]

abbrev with_flushed : CheckpointedStore → LoggedPages → RecoveryNumbers → CheckpointedStore
with_flushed c volume recovery = record c { store = record c.store { volume = volume }; recovery = recovery }

abbrev flushed_page : CheckpointedStore → PageId → CheckpointedStore
flushed_page c q = record c { store = after_flush c.store q; recovery = cleaned c.recovery q }

module _ (g : Geometry) (log : List LogRecord) (left : ℕ → List ℕ) (noted : RecoveryNumbers) where
  abbrev IsLeft : PageId → LoggedPage → Type 0
  IsLeft p page = IsTextOf g.version log (left (page_number g p)) p page

  -- a page stays as it is, or it may be flushed, and is clean then
  abbrev MayClean : CheckpointedStore → Type 0
  MayClean c = (p : PageId) → HasPage g p
      → (IsLeft p (c.store.volume p) × (c.recovery p ≡ noted p)) ⊎ (((c.store.in_place p).number ≤ c.store.durable) × IsLeft p (c.store.in_place p) × (noted p ≡ 0))

  -- a page is as it was, or it was flushed
  abbrev IsOrCleaned : CheckpointedStore → LoggedPages → RecoveryNumbers → PageId → Type 0
  IsOrCleaned c volume recovery p = ((volume p ≡ c.store.volume p) × (recovery p ≡ c.recovery p))
      ⊎ (HasPage g p × (volume p ≡ c.store.in_place p) × IsLeft p (c.store.in_place p) × (recovery p ≡ 0) × (noted p ≡ 0))

  -- flushes after which the pages of a list are on the volume as they are left, with these numbers
  record Cleaned (c : CheckpointedStore) (ps : List PageId) : Type 0 where
    pub works : List RecoveryEvent
    pub volume : LoggedPages
    pub recovery : RecoveryNumbers
    pub led : CheckpointedLeadTo c (map StoreEvent works) (with_flushed c volume recovery)
    pub worked : WorksTo c.store works (record c.store { volume = volume })
    pub restarted : RestartsTo c.store works (record c.store { volume = volume })
    pub each : (p : PageId) → IsOrCleaned c volume recovery p
    pub there : (p : PageId) → HasPage g p → IsAmong p ps → IsLeft p (volume p) × (recovery p ≡ noted p)

  -- a page that is right stays so
  stays : (c : CheckpointedStore) (ps : List PageId) (done : Cleaned c ps) (p : PageId) → IsLeft p (c.store.volume p) → c.recovery p ≡ noted p → IsLeft p (done.volume p) × (done.recovery p ≡ noted p)
  stays c ps done p is same = elim (done.each p) [
    | inl still ↦ (subst (IsLeft p) (sym still.0) is, still.1 ∙ same)
    | inr flushed ↦ (subst (IsLeft p) (sym flushed.1) flushed.2, flushed.3 ∙ sym flushed.4)
  ]

  passed : (c : CheckpointedStore) (q : PageId) (ps : List PageId) → Cleaned c ps → (HasPage g q → IsLeft q (c.store.volume q) × (c.recovery q ≡ noted q)) → Cleaned c (q ∷ ps)
  passed c q ps done is = record {
    works = done.works;
    volume = done.volume;
    recovery = done.recovery;
    led = done.led;
    worked = done.worked;
    restarted = done.restarted;
    each = done.each;
    there = λ p has among. elim among [
      | inl same ↦
          let its = is (subst (HasPage g) (sym same) has) in
          subst (λ (r : PageId). IsLeft r (done.volume r) × (done.recovery r ≡ noted r)) same (stays c ps done q its.0 its.1)
      | inr later ↦ done.there p has later
    ];
  }

  module _ (c : CheckpointedStore) (q : PageId) (has : HasPage g q) (durable : (c.store.in_place q).number ≤ c.store.durable) (is : IsLeft q (c.store.in_place q)) (clean : noted q ≡ 0) where
    still : MayClean c → MayClean (flushed_page c q)
    still may p there = elim (written_or_not c.store.volume q (c.store.in_place q) p) [
      | inl here ↦ inl (
        subst (IsLeft p) (sym here.1) (subst (λ (r : PageId). IsLeft r (c.store.in_place q)) (sym here.0) is),
        number_here p here.0,
      )
      | inr same ↦ elim (cleaned_or_not c.recovery q p) [
        | inl here ↦ inl (
          subst (λ (r : PageId). IsLeft r (with_page_written c.store.volume q (c.store.in_place q) r)) (sym here.0)
              (subst (IsLeft q) (sym (written_here c.store.volume q (c.store.in_place q))) is),
          number_here p here.0,
        )
        | inr kept ↦ elim (may p there) [ inl good ↦ inl (subst (IsLeft p) (sym same) good.0, kept ∙ good.1) | inr due ↦ inr due ]
      ]
    ]
      where
        number_here : (p : PageId) → p ≡ q → cleaned c.recovery q p ≡ noted p
        number_here p same =
            ap (λ (r : PageId). cleaned c.recovery q r) same ∙ ap (λ b. cond b 0 (c.recovery q)) ((eq_by_cmp_equiv pages_total).refl q) ∙ sym clean ∙ ap noted (sym same)

    -- .. and one that is flushed
    flushed : (ps : List PageId) → Cleaned (flushed_page c q) ps → Cleaned c (q ∷ ps)
    flushed ps done = record {
      works = FlushPage q ∷ done.works;
      volume = done.volume;
      recovery = done.recovery;
      led = (flushed_page c q, (tt, after_flush c.store q, (durable, refl), refl), done.led);
      worked = (tt, after_flush c.store q, (durable, refl), done.worked);
      restarted = (tt, after_flush c.store q, (durable, refl), done.restarted);
      each = λ p. elim (done.each p) [
        | inl same ↦ elim (cleaned_or_not c.recovery q p) [
          | inl here ↦ inr (
            subst (HasPage g) (sym here.0) has,
            same.0 ∙ ap (with_page_written c.store.volume q (c.store.in_place q)) here.0 ∙ written_here c.store.volume q (c.store.in_place q) ∙ ap c.store.in_place (sym here.0),
            subst (λ (r : PageId). IsLeft r (c.store.in_place r)) (sym here.0) is,
            same.1 ∙ here.1,
            ap noted here.0 ∙ clean,
          )
          | inr kept ↦ elim (written_or_not c.store.volume q (c.store.in_place q) p) [
            | inl here ↦ inr (
              subst (HasPage g) (sym here.0) has,
              same.0 ∙ here.1 ∙ ap c.store.in_place (sym here.0),
              subst (λ (r : PageId). IsLeft r (c.store.in_place r)) (sym here.0) is,
              same.1 ∙ ap (λ (r : PageId). cleaned c.recovery q r) here.0 ∙ ap (λ b. cond b 0 (c.recovery q)) ((eq_by_cmp_equiv pages_total).refl q),
              ap noted here.0 ∙ clean,
            )
            | inr other ↦ inl (same.0 ∙ other, same.1 ∙ kept)
          ]
        ]
        | inr later ↦ inr later
      ];
      there = λ p there among. elim among [
        | inl same ↦ subst (λ (r : PageId). IsLeft r (done.volume r) × (done.recovery r ≡ noted r)) same
            (stays (flushed_page c q) ps done q (subst (IsLeft q) (sym (written_here c.store.volume q (c.store.in_place q))) is)
            (ap (λ b. cond b 0 (c.recovery q)) ((eq_by_cmp_equiv pages_total).refl q) ∙ sym clean))
        | inr later ↦ done.there p there later
      ];
    }

  clean_all : (ps : List PageId) (c : CheckpointedStore) → MayClean c → Cleaned c ps
  clean_all [] c may = record { works = []; volume = c.store.volume; recovery = c.recovery; led = refl; worked = refl; restarted = refl; each = λ p. inl (refl, refl); there = λ p has among. absurd among }
  clean_all (q ∷ ps) c may = elim (has_or_not g q) [
    | inl has ↦ elim (may q has) [
      | inl good ↦ passed c q ps (clean_all ps c may) (λ there. good)
      | inr due ↦ flushed c q has due.0 due.1 due.2 ps (clean_all ps (flushed_page c q) (still c q has due.0 due.1 due.2 may))
    ]
    | inr none ↦ passed c q ps (clean_all ps c may) (λ has. absurd (none has))
  ]

-- ---- what a call of the heap leaves

-- a page with no recovery number is clean, or in no frame
no_number : (f : Frame) → f.recovery ≢ Some 0 → recovery_in (Some f) ≡ 0 → f.recovery ≡ None
no_number f some zero_is = each f.recovery some zero_is
  where
    each : (r : Option ℕ) → r ≢ Some 0 → unwrap_or r 0 ≡ 0 → r ≡ None
    each None some is = refl
    each (Some n) some is = absurd (some (ap (λ (m : ℕ). Some m) is))

module _ {D : Type 0} {G : Ghosts D} (old new : Heap D G) (seen : ℕ) (front : List ℕ) (disk left : ℕ → List ℕ) (c : CheckpointedStore) (store : IsStoreOf old disk c.store) (has : HasRecoveries old c.recovery)
    (kept : IsRecoverable c.store) (holds : PoolHolds new.pool front left) (stay : StayInPlace old new seen disk left) (durable : seen ≤ c.store.durable) (geometry : geometry_of new ≡ geometry_of old) where
  abbrev number_at : PageId → ℕ
  number_at p = page_number (geometry_of old) p

  -- by the old geometry
  abbrev noted : RecoveryNumbers
  noted p = recovery_in (frame_at new (number_at p))

  -- a dirty page has a number still
  some_now : (k : ℕ) (f : Frame) → frame_at new k ≡ Some f → f.recovery ≢ Some 0
  some_now k f is none =
      let dirty : f.recovery ≢ None = λ clean. (let clash : ◌≡◌ {A = Option ℕ} None (Some 0) = sym clean ∙ none in cc) in
      has.some k f (stay.unwritten k f is dirty).0 none

  -- the text of a page that is not dirty now is that of the page in place
  text_left : (p : PageId) → HasPage (geometry_of old) p → noted p ≡ 0 → IsTextOf (geometry_of old).version c.store.log (left (number_at p)) p (c.store.in_place p)
  text_left p there clean =
      let is = store.in_place p there in
      let here = (stay.same (number_at p) p (c.store.in_place p).number is.images).0 is.here in
      record { images = is.images; text = text_here p (c.store.in_place p).number is.images (frame_at new (number_at p)) refl clean here; has = is.has }
    where
      text_here : (p : PageId) (number : ℕ) (images : List Image) (o : Option Frame) → frame_at new (number_at p) ≡ o → recovery_in o ≡ 0 → IsPage (geometry_of old).version o (left (number_at p)) p number images
          → IsPageText (geometry_of old).version (left (number_at p)) p number images
      text_here p number images None at clean here = here
      text_here p number images (Some f) at clean here =
          let text = holds.written (number_at p) f at (no_number f (some_now (number_at p) f at) clean) in
          (one_page (geometry_of old).version f (left (number_at p)) ((new.pool.in_order (number_at p) f at).2 ∙ ap (λ (g : Geometry). g.version) geometry) text p number images).0 here

  low_enough : (p : PageId) → HasPage (geometry_of old) p → IsTextOf (geometry_of old).version c.store.log (left (number_at p)) p (c.store.in_place p) → (c.store.in_place p).number ≤ c.store.durable
  low_enough p there text = elim (stay.may p there) [
    | inl same ↦
        let was = store.volume.each p there in
        let one = one_text (geometry_of old).version (left (number_at p)) p p (c.store.in_place p).number (c.store.volume p).number text.images was.images text.text (subst (λ (b : List ℕ). IsPageText (geometry_of old).version b p (c.store.volume p).number was.images) (sym same) was.text) in
        let ahead = kept.ahead p in
        omega (arith, one.1, ahead)
    | inr written ↦
        let number = (text_in_place c.store.log old disk p (c.store.in_place p) (store.in_place p there) (left (number_at p)) written.0 written.1 written.2 written.4).0 in
        let low = written.3 in
        omega (arith, number, low, durable)
  ]

  abbrev IsEither : PageId → Type 0
  IsEither p = (IsTextOf (geometry_of old).version c.store.log (left (number_at p)) p (c.store.volume p) × (c.recovery p ≡ noted p))
      ⊎ (((c.store.in_place p).number ≤ c.store.durable) × IsTextOf (geometry_of old).version c.store.log (left (number_at p)) p (c.store.in_place p) × (noted p ≡ 0))

  may_clean : MayClean (geometry_of old) c.store.log left noted c
  may_clean p there = by_frame (frame_at new (number_at p)) refl
    where
      by_number : noted p ≡ 0 → IsEither p
      by_number clean = let text = text_left p there clean in inr (low_enough p there text, text, clean)

      by_frame : (o : Option Frame) → frame_at new (number_at p) ≡ o → IsEither p
      by_frame None at = by_number (ap recovery_in at)
      by_frame (Some f) at = elim (cases_eq (recovery_in (Some f)) 0) [
        | inl clean ↦ by_number (ap recovery_in at ∙ clean)
        | inr dirty ↦
            let unwritten = stay.unwritten (number_at p) f at (λ none. dirty (ap (λ (r : Option ℕ). unwrap_or r 0) none)) in
            inl (
              subst (λ (bytes : List ℕ). IsTextOf (geometry_of old).version c.store.log bytes p (c.store.volume p)) (sym unwritten.1) (store.volume.each p there),
              has.each p there ∙ ap recovery_in (unwritten.0 ∙ sym at),
            )
      ]

  all_cleaned : Cleaned (geometry_of old) c.store.log left noted c (all_pages (geometry_of old))
  all_cleaned = clean_all (geometry_of old) c.store.log left noted (all_pages (geometry_of old)) c may_clean

  texts_now : AreTextsOf c.store.log (geometry_of old) left all_cleaned.volume
  texts_now = record {
    each = λ p there. (all_cleaned.there p there (page_among (geometry_of old) p there)).0;
    inside = λ p none. elim (all_cleaned.each p) [ inl same ↦ same.0 ∙ store.volume.inside p none | inr written ↦ absurd (none written.0) ];
  }

  numbers_left : HasRecoveries new all_cleaned.recovery
  numbers_left = record {
    each = λ p here.
        let there : HasPage (geometry_of old) p = subst (λ (g : Geometry). HasPage g p) geometry here in
        (all_cleaned.there p there (page_among (geometry_of old) p there)).1 ∙ ap (λ (g : Geometry). recovery_in (frame_at new (page_number g p))) (sym geometry);
    inside = λ p none.
        let gone : HasPage (geometry_of old) p → ⊥ = λ here. none (subst (λ (g : Geometry). HasPage g p) (sym geometry) here) in
        elim (all_cleaned.each p) [ inl same ↦ same.1 ∙ has.inside p gone | inr written ↦ absurd (gone written.0) ];
    some = some_now;
  }

  pub cleaned_by : (works : List RecoveryEvent) × (later : CheckpointedStore) × CheckpointedLeadTo c (map StoreEvent works) later × WorksTo c.store works later.store × RestartsTo c.store works later.store
      × IsStoreOf new left later.store × HasRecoveries new later.recovery × (later ≡ record c { store = record c.store { volume = later.store.volume }; recovery = later.recovery })
  cleaned_by = (
    all_cleaned.works,
    with_flushed c all_cleaned.volume all_cleaned.recovery,
    all_cleaned.led,
    all_cleaned.worked,
    all_cleaned.restarted,
    store_over old new disk left c.store store geometry all_cleaned.volume stay.same texts_now,
    numbers_left,
    refl,
  )
